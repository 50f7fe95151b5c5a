use Rattle.std.proofs.Common.{ap, sym, ◌∙◌}
use Rattle.std.proofs.lemmas.Bool.{true≢false}
use Rattle.cat_commits.proofs.writing.Kept.{other_rows, same_rows}
use Rattle.cat_commits.proofs.writing.earlier.kept_or.Goals as goal

pub returns-then-not-same_rows-clause-file : goal.returns-then-not-same_rows-clause-file
returns-then-not-same_rows-clause-file c =
    other_rows c.args.listed.now c.args.live.now c.args.generation
    (λ e. true≢false (sym (c.same_rows.ensures.1 (c.live.ensures ∙ e)) ∙ c.if-not-same_rows.true))

pub returns-clause-file : goal.returns-clause-file
returns-clause-file c =
    c.unwrap_or.ensures
    ∙ same_rows c.args.listed.now c.args.live.now c.args.generation c.live_file.result (sym c.live.ensures ∙ c.same_rows.ensures.0 c.if-not-same_rows.false)
    (c.live_file.ensures.file ∙ ap (λ s. s.file) c.segment.ensures) c.live_file.ensures.some
