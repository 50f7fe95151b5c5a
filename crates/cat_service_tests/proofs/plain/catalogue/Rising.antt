-- Numbers of a table rise through each write.
use Rattle.std.proofs.Common.{◌≡◌, ℕ, ◌+◌, ◌≤◌, ◌<◌, List, [], ◌∷◌, ◌++◌, Bool, true, false, cond, not, Option, None, Some, sym, subst, arith}
use Rattle.std.specs.List.{filter, AllByRecursion}
use Rattle.cat_model.specs.Item as item
use Rattle.cat_model.proofs.Lists.{All-weaken, All-kept, All-both}
use Rattle.cat_model.specs.State as state
use Rattle.cat_service_tests.specs.plain.Tables.{NumbersRise, IsTable, AreItems, AreViews, without_token}
use Rattle.std.specs.Prelude.{All, AllPairs, find, ◌==◌}
use Rattle.std.proofs.lemmas.List.Elements.{All-nil, All-cons}
use Rattle.std.proofs.lemmas.List.Kept.{AllPairs-cons}
use Rattle.cat_model.specs.State.{found_table}

pub rise-filter : (p : item.Record → Bool) (rs : List item.Record) → NumbersRise rs → NumbersRise (filter p rs)
rise-filter p [] a = tt
rise-filter p (r ∷ rs) a =
    elim (p r) as (λ b. NumbersRise (cond b (r ∷ filter p rs) (filter p rs))) [
      | true ↦ (All-kept (λ s. r.number < s.number) p rs a.0, rise-filter p rs a.1)
      | false ↦ rise-filter p rs a.1
    ]

rise-push : (rs : List item.Record) (r : item.Record) → NumbersRise rs → AllByRecursion (λ s. s.number < r.number) rs → NumbersRise (rs ++ r ∷ [])
rise-push [] r a below = (tt, tt)
rise-push (s ∷ rs) r a below = (All-both (λ u. s.number < u.number) rs (r ∷ []) a.0 (below.0, tt), rise-push rs r a.1 below.1)

-- one write more takes records out
pub table-delete : (p : item.Record → Bool) (rs : List item.Record) (n m : ℕ) → m ≡ n + 1 → IsTable rs n → IsTable (filter p rs) m
table-delete p rs n m e ok = record {
  rising = rise-filter p rs ok.rising;
  seen = All-weaken (λ r. r.number ≤ n) (λ r. r.number ≤ m) (λ r h. omega arith) (filter p rs) (All-kept (λ r. r.number ≤ n) p rs ok.seen);
}

-- and puts one behind the others
pub table-put : (p : item.Record → Bool) (rs : List item.Record) (n m : ℕ) (r : item.Record) → m ≡ n + 1 → r.number ≡ m → IsTable rs n → IsTable (filter p rs ++ r ∷ []) m
table-put p rs n m r e at ok =
    let kept : IsTable (filter p rs) m = table-delete p rs n m e ok in
    let below : AllByRecursion (λ s. s.number < r.number) (filter p rs) = All-weaken (λ s. s.number ≤ n) (λ s. s.number < r.number) (λ s h. omega arith) (filter p rs) (All-kept (λ s. s.number ≤ n) p rs ok.seen) in
    record {
      rising = rise-push (filter p rs) r kept.rising below;
      seen = All-both (λ s. s.number ≤ m) (filter p rs) (r ∷ []) kept.seen (omega arith, tt);
    }

-- ---- what each record has, told of each place

all_of : (P : item.Record → Type 0) (rs : List item.Record) → AllByRecursion P rs → All P rs
all_of P [] a = All-nil P
all_of P (r ∷ rs) a = All-cons P r rs a.0 (all_of P rs a.1)

no_pairs : (R : item.Record → item.Record → Type 0) → AllPairs R []
no_pairs R i j d before within = absurd (omega (arith, within))

-- where numbers rise, the number of each record is below those of all later ones
pub rising_pairs : (rs : List item.Record) → NumbersRise rs → AllPairs (λ a b. a.number < b.number) rs
rising_pairs [] a = no_pairs (λ a b. a.number < b.number)
rising_pairs (r ∷ rs) a = AllPairs-cons (λ a b. a.number < b.number) r rs (all_of (λ s. r.number < s.number) rs a.0) (rising_pairs rs a.1)

pub each_item : (schema : item.Schema) (rs : List item.Record) → AreItems schema rs → All (λ r. item.IsItem schema r.item) rs
each_item schema rs a = all_of (λ r. item.IsItem schema r.item) rs a

-- ---- items of a schema

pub items-filter : (schema : item.Schema) (p : item.Record → Bool) (rs : List item.Record) → AreItems schema rs → AreItems schema (filter p rs)
items-filter schema = All-kept (λ r. item.IsItem schema r.item)

pub items-put : (schema : item.Schema) (p : item.Record → Bool) (rs : List item.Record) (r : item.Record) → item.IsItem schema r.item → AreItems schema rs → AreItems schema (filter p rs ++ r ∷ [])
items-put schema p rs r is a = All-both (λ r. item.IsItem schema r.item) (filter p rs) (r ∷ []) (items-filter schema p rs a) (is, tt)

-- the table of the view that is found
pub items-found : (schema : item.Schema) (vs : List state.RecordedTable) (t : ℕ) → AreViews schema vs → AreItems schema (found_table (find (λ v. v.token == t) vs))
items-found schema [] t a = tt
items-found schema (v ∷ vs) t a = elim (v.token == t) as (λ b. AreItems schema (found_table (cond b (Some v) (find (λ v. v.token == t) vs)))) [ true ↦ a.0 | false ↦ items-found schema vs t a.1 ]

pub items-of_found : (schema : item.Schema) (vs : List state.RecordedTable) (t : ℕ) (v : state.RecordedTable) → AreViews schema vs → Some v ≡ find (λ v. v.token == t) vs → AreItems schema v.table
items-of_found schema vs t v a e = subst (λ o. AreItems schema (found_table o)) (sym e) (items-found schema vs t a)

-- with one view more, and perhaps one less
views-without : (schema : item.Schema) (o : Option ℕ) (vs : List state.RecordedTable) → AreViews schema vs → AreViews schema (without_token o vs)
views-without schema None vs a = a
views-without schema (Some t) vs a = All-kept (λ v. AreItems schema v.table) (λ v. not (v.token == t)) vs a

pub views-recorded : (schema : item.Schema) (o : Option ℕ) (vs : List state.RecordedTable) (v : state.RecordedTable) → AreItems schema v.table → AreViews schema vs → AreViews schema (without_token o vs ++ v ∷ [])
views-recorded schema o vs v is a = All-both (λ v. AreItems schema v.table) (without_token o vs) (v ∷ []) (views-without schema o vs a) (is, tt)

pub views-filter : (schema : item.Schema) (p : state.RecordedTable → Bool) (vs : List state.RecordedTable) → AreViews schema vs → AreViews schema (filter p vs)
views-filter schema = All-kept (λ v. AreItems schema v.table)
