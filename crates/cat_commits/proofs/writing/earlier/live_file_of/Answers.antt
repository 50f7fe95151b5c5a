use Rattle.std.proofs.Common.{◌≡◌, Bool, false, length, option_map, ap, sym, ◌∙◌}
use Rattle.std.specs.List.{count_by}
use Rattle.cat_ledger_laws.specs.model.Calls.{all_alive}
use Rattle.cat_commits.specs.writing.Entries.{file_beside}
use Rattle.cat_commits.proofs.writing.Kept.{all_counted, some_dead, whole_file, new_file, kept_file}
use Rattle.cat_commits.proofs.writing.earlier.live_file_of.Goals as goal

pub returns-then-count-len-clause-file : goal.returns-then-count-len-clause-file
returns-then-count-len-clause-file c =
    let all : count_by (λ (b : Bool). b) c.args.leaf.now.live ≡ length c.args.leaf.now.live =
    sym (ap (count_by (λ (b : Bool). b)) c.live-live.ensures.value) ∙ sym c.count.ensures ∙ c.if-count-len.true ∙ c.len.ensures.same
    ∙ ap (λ s. length s.rows) c.segment.ensures ∙ sym c.live-live.ensures.long in
    whole_file _ c.args.generation c.args.leaf.now (all_counted c.args.leaf.now.live all)

pub returns-in-None-clause-file : goal.returns-in-None-clause-file
returns-in-None-clause-file c =
    let dead : all_alive c.args.leaf.now.live ≡ false =
    some_dead c.args.leaf.now.live (λ e. c.if-count-len.false (c.count.ensures ∙ ap (count_by (λ (b : Bool). b)) c.live-live.ensures.value ∙ e ∙ c.live-live.ensures.long
    ∙ sym (ap (λ s. length s.rows) c.segment.ensures) ∙ sym c.len.ensures.same)) in
    new_file c.args.generation c.args.leaf.now dead ∙ ap (λ o. file_beside (option_map (λ x. x.now) o) c.args.generation c.args.leaf.now) (sym c.in-None.is)

pub returns-in-Some-clause-file : goal.returns-in-Some-clause-file
returns-in-Some-clause-file c =
    let dead : all_alive c.args.leaf.now.live ≡ false =
    some_dead c.args.leaf.now.live (λ e. c.if-count-len.false (c.count.ensures ∙ ap (count_by (λ (b : Bool). b)) c.live-live.ensures.value ∙ e ∙ c.live-live.ensures.long
    ∙ sym (ap (λ s. length s.rows) c.segment.ensures) ∙ sym c.len.ensures.same)) in
    kept_file c.in-Some.listed.now c.args.generation c.args.leaf.now c.kept_or.result dead (rw (sym c.live-live.ensures.value) c.kept_or.ensures.file)
    ∙ ap (λ o. file_beside (option_map (λ x. x.now) o) c.args.generation c.args.leaf.now) (sym c.in-Some.is)
