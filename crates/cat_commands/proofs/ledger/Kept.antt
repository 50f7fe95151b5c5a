-- What a call leaves of a ledger that it doesn't change.
use Rattle.std.proofs.Common.{◌≡◌, ap, refl, subst, sym}
use Rattle.std.specs.Prelude.{Err, IfErr, Ok, OnErr, Option, Result}
use Rattle.cat_base.specs.declared.refusal.Refusal.{Refusal}
use Rattle.cat_base.specs.declared.refusal.Refusal.TheVariants.{Memory}
use Rattle.cat_ledger_laws.specs.shape.Shapes.{MergingShape, Shape}
use Rattle.cat_ledger_laws.specs.shape.Ties.{ToldFiles}
use Rattle.cat_ledger_laws.specs.lines.LineLaws.{NothingChanges}
use Rattle.cat_ledger.specs.Ledgers.{LedgerOnDevice, device_in, shape_in}
use Rattle.cat_ledger.specs.Refusals.{KeepsMerge, KeepsSegments}
use Rattle.cat_protocol.specs.declared.replies.answer.Answer.{Answer}
use Rattle.cat_commands.specs.declared.ledger.chores.Chore.{Chore}
use Rattle.cat_commands.specs.declared.ledger.chores.Chore.TheVariants.{Force, Merge, Stat, Sweep}
use Rattle.cat_commands.specs.ledger.Chores.{KeepsBehind, ReachesFor}

pub unchanged : {D : Type 0} (bytes : D → ToldFiles) (old new : LedgerOnDevice D) → new ≡ old
    → NothingChanges (bytes (device_in old)) (shape_in old) (bytes (device_in new)) (shape_in new)
unchanged bytes old new same = (ap shape_in same, λ q. ap (λ l. bytes (device_in l) q) same)

-- ---- behind a refusal

pub merge_same : (s : Shape) → KeepsMerge s s
merge_same s = record { merging = refl; known = λ q there. there }

segments_same : (s : Shape) → KeepsSegments s s
segments_same s = record { leaves = refl; buffered = refl; known = λ q there. there }

pub behind_same : (chore : Chore) (s : Shape) → KeepsBehind chore s s
behind_same Merge s = segments_same s
behind_same Force s = (merge_same s, segments_same s)
behind_same Sweep s = refl
behind_same Stat s = refl

-- what is said of maintenance by what it is
pub behind_so : (chore is : Chore) (s new : Shape) (r : Result Answer Refusal) → chore ≡ is → OnErr r (KeepsBehind is s new) → OnErr r (KeepsBehind chore s new)
behind_so chore is s new r same kept = subst (λ c. OnErr r (KeepsBehind c s new)) (sym same) kept

pub behind_force : (s new : Shape) (r : Result Answer Refusal) → OnErr r (KeepsMerge s new) → OnErr r (KeepsSegments s new) → OnErr r (KeepsBehind Force s new)
behind_force s new (Ok a) merge segments = tt
behind_force s new (Err e) merge segments = (merge, segments)

pub behind_none : (chore : Chore) (s new : Shape) (r : Result Answer Refusal) → KeepsBehind chore s new → OnErr r (KeepsBehind chore s new)
behind_none chore s new (Ok a) kept = tt
behind_none chore s new (Err e) kept = kept

-- ---- where memory was wanting

pub reach_so : (chore is : Chore) (told : ToldFiles) (merging : Option MergingShape) (r : Result Answer Refusal) → chore ≡ is → IfErr r (λ e. e ≡ Memory → ReachesFor is told merging)
    → IfErr r (λ e. e ≡ Memory → ReachesFor chore told merging)
reach_so chore is told merging r same reach = subst (λ c. IfErr r (λ e. e ≡ Memory → ReachesFor c told merging)) (sym same) reach

pub reach_any : (chore : Chore) (told : ToldFiles) (merging : Option MergingShape) (r : Result Answer Refusal) → ReachesFor chore told merging → IfErr r (λ e. e ≡ Memory → ReachesFor chore told merging)
reach_any chore told merging (Ok a) reach = tt
reach_any chore told merging (Err e) reach = λ memory. reach
