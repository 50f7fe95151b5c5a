use Rattle.std.proofs.Common.{◌≡◌, ℕ, cond, eqb, Option, Some, ap, ap₂, ◌∙◌, arith}
use Rattle.std.proofs.lemmas.List.{take_all}
use Rattle.std.proofs.lemmas.Result.{IfOk-from_err}
use Rattle.cat_commits.specs.writing.Entries.{index_of}
use Rattle.cat_commits.proofs.writing.Looks.{index_more}
use Rattle.cat_commits.proofs.writing.earlier.indices_of.Goals as goal

pub loop-index-preserved : goal.loop-index-preserved
loop-index-preserved c =
    let number : c.number.result ≡ c.index-entries-index.result.number = c.number.ensures ∙ ap (λ s. s.number) c.segment.ensures in
    λ n.
    c.in_ok-insert.ensures.updates.0 n
    ∙ ap₂ (λ (m : ℕ) (o : Option ℕ). cond (eqb m n) (Some c.loop-index.index) o) number (c.loop-index.invariant n)
    ∙ index_more n c.args.entries.now c.loop-index.index c.index-entries-index.result c.requires c.loop-index-test.true c.index-entries-index.is

pub returns-in_err-indices : goal.returns-in_err-indices
returns-in_err-indices c = IfOk-from_err _ _ c.from_residual.ensures.0

pub returns-in_err-insert : goal.returns-in_err-insert
returns-in_err-insert c = IfOk-from_err _ _ c.from_residual-in_err-insert.ensures.0

pub returns : goal.returns
returns c = λ n. c.loop-index.invariant n ∙ ap (index_of n) (take_all c.loop-index.index c.args.entries.now (omega arith))
