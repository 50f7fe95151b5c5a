use Rattle.cat_base.specs.Bytes.{spelled_u64}
use Rattle.std.proofs.Common.{ℕ, List, ◌++◌, ap, ap₂, ◌∙◌, append_assoc}
use Rattle.std.proofs.lemmas.Result.{IfOk-from_err}
use Rattle.cat_commits.proofs.encoding.put_segment.Goals as goal

pub returns-in_err-put_u64 : goal.returns-in_err-put_u64
returns-in_err-put_u64 c = IfOk-from_err _ _ c.from_residual.ensures.0

pub returns-in_err-put_u64-2 : goal.returns-in_err-put_u64-2
returns-in_err-put_u64-2 c = IfOk-from_err _ _ c.from_residual-in_err-put_u64-2.ensures.0

pub returns : goal.returns
returns c =
    c.in_ok-put_u64-2.ensures.ok ∙ ap₂ (λ (l : List ℕ) (n : ℕ). l ++ spelled_u64 n) (c.in_ok-put_u64.ensures.ok ∙ ap (λ (n : ℕ). c.args.out.now.items ++ spelled_u64 n) c.number.ensures) c.file.ensures
    ∙ append_assoc c.args.out.now.items (spelled_u64 c.args.segment.now.number) (spelled_u64 c.args.segment.now.file)
