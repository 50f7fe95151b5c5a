use Rattle.std.proofs.Common.{◌≡◌, ℕ, ◌-◌, ◌<◌, List, length, get_or, None, sym, ◌∙◌, arith}
use Rattle.std.proofs.lemmas.Bool.{true≢false, le-ltb}
use Rattle.std.proofs.lemmas.Option.{none-some, slice_get-get_or}
use Rattle.std.specs.List.{slice_get}
use Rattle.cat_columns.proofs.inverted.Rising.{part_by_order, no_part}
use Rattle.cat_columns.proofs.inverted.posted.is_part.Goals as goal

no_last : (rows : List ℕ) → None ≡ slice_get rows (length rows - 1) → 0 < length rows → ⊥
no_last rows none some = none-some (get_or rows (length rows - 1) 0) (none ∙ slice_get-get_or rows (length rows - 1) 0 (omega arith))

pub returns-then-last-len : goal.returns-then-last-len
returns-then-last-len c = part_by_order c.args.len c.args.rows.now c.in-Some.last.now c.in-Some.ensures.value c.if-last-len.true c.rises.result c.rises.ensures

pub returns-else-last-len : goal.returns-else-last-len
returns-else-last-len c = (
  λ e. absurd (true≢false (sym e ∙ le-ltb c.in-Some.last.now c.args.len c.if-last-len.false)),
  λ part. absurd (no_part c.args.len c.args.rows.now c.in-Some.last.now c.in-Some.ensures.value c.if-last-len.false part),
)

pub returns-in-None : goal.returns-in-None
returns-in-None c = (λ e. absurd (true≢false (sym e)), λ part. absurd (no_last c.args.rows.now c.in-None.ensures.value part.0))
