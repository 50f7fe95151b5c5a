-- What was made of segments, and is kept beside a ledger.
use Rattle.std.specs.Prelude.{◌≡◌, ℕ, All, IfSome}
use Rattle.cat_model.specs.View.{Segment}
use Rattle.cat_ledger_laws.specs.shape.Shapes.{Shape}
use Rattle.cat_commands.specs.sets.Segments.{segments_in}

-- whatever segment comes to have the number is known
abbrev pub AnyIsKnown : (Segment → Type 0) → ℕ → Type 0
AnyIsKnown Known n = (s : Segment) → s.number ≡ n → Known s

-- What is kept is right beside the ledger. A segment is known where nothing is kept of another one of its number, and the second
-- argument says that all that is kept is of numbers below this one. Then each segment of the current list and of the recorded views is
-- known; the numbers of all that is kept were taken; and whatever segment the merge in the making makes is known too.
pub record IsRightBeside (Known : Segment → Type 0) (Below : ℕ → Type 0) (s : Shape) : Type 0 where
  pub known : All Known (segments_in s)
  pub below : Below s.next_segment
  pub making : IfSome s.merging (λ m. AnyIsKnown Known m.number)
