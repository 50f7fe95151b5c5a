-- Sets beside a ledger that are right: those of each segment that it has, and none of a segment that is still to come.
use Rattle.std.specs.Prelude.{◌≢◌, ℕ, All, IfSome}
use Rattle.cat_cached_sets.specs.filters.Filters.{Filters}
use Rattle.cat_cached_sets.specs.filters.Known.{IsBelow, Knows}
use Rattle.cat_ledger_laws.specs.shape.Shapes.{Shape}
use Rattle.cat_commands.specs.sets.Beside.{AnyIsKnown, IsRightBeside}

-- whatever segment comes to have the number is known
abbrev pub KnowsAny : Filters → ℕ → Type 0
KnowsAny f = AnyIsKnown (Knows f)

-- no set stands under the number, and none in the making is over a segment of it
pub record HasNoneOf (f : Filters) (n : ℕ) : Type 0 where
  pub cached : All (λ e. e.0.segment ≢ n) f.cached
  pub warming : IfSome f.warming (λ w. w.segment.number ≢ n)

-- Each segment of the current list and of the recorded views is known; the numbers of all sets were taken; and whatever segment the
-- merge in the making makes is known too.
abbrev pub HasSets : Filters → Shape → Type 0
HasSets f = IsRightBeside (Knows f) (λ n. IsBelow n f)
