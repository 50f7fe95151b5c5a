use Rattle.std.proofs.Common.{◌∙◌, ap, length, arith}
use Rattle.std.proofs.lemmas.Result.{on_ok_weaker}
use Rattle.std.proofs.lemmas.Grind.{common_steps}
use Rattle.cat_service_tests.proofs.plain.catalogue.Written.{page_behind, counts_behind}
use Rattle.cat_service_tests.proofs.plain.output.push_answer.Goals as goal

pub returns-in_ok-push_totals-in-Found : goal.returns-in_ok-push_totals-in-Found
returns-in_ok-push_totals-in-Found c = λ s is.
    let all = c.as_slice.ensures.value ∙ ap (λ p. p.entries) c.page.view_is in
    rw c.in-Found.is
    (on_ok_weaker c.push_entries.result (page_behind s c.args.session.now c.in-Found.page c.len.result c.page.inside.total c.args.to.now.items c.push_totals.new.to.items c.push_entries.new.to.items
    c.as_slice.result.now is (omega (arith, c.len.ensures, c.as_slice.ensures.len, ap length all)) (ap (λ p. p.total) c.page.view_is) all c.in_ok-push_totals-in-Found.ensures) c.push_entries.ensures)

pub returns-in_ok-push_totals-in-Counts : goal.returns-in_ok-push_totals-in-Counts
returns-in_ok-push_totals-in-Counts c = λ s is. rw c.in-Counts.is
    (on_ok_weaker c.push_labels.result (counts_behind s c.args.session.now c.in-Counts.counts c.args.to.now.items c.push_totals-in-Counts.new.to.items c.push_labels.new.to.items c.as_slice-in-Counts.result.now
    is c.as_slice-in-Counts.ensures.value c.in_ok-push_totals-in-Counts.ensures) c.push_labels.ensures)

pub returns-in-Number : goal.returns-in-Number
returns-in-Number c = grind (arith, common_steps)

pub returns-in-Source : goal.returns-in-Source
returns-in-Source c = grind (arith, common_steps)
