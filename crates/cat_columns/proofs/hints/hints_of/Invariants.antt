use Rattle.std.proofs.Common.{◌≡◌, ◌*◌, length}
use Rattle.cat_columns.specs.Hints.{AllowFirst}
use Rattle.cat_columns.proofs.hints.hints_of.Given as goal

abbrev pub invariant-loop-place : goal.invariant-loop-place
invariant-loop-place l = (length l.hints.items ≡ 2 * length l.texts) × AllowFirst l.texts l.place l.hints.items
