-- What the steps of a merge make of a shape.
use Rattle.std.proofs.Common.{◌≡◌, ◌≢◌, ◌↔◌, IsTrue, not, Bool, true, false, ℕ, ◌+◌, ◌-◌, ◌<◌, ◌≤◌, ◌^◌, cond, List, [], ◌∷◌, Option, Some, None, length, take, drop, refl, sym, ◌∙◌, ap, subst, arith, inl, inr, ◌||◌}
use Rattle.std.specs.Prelude.{is_some, option_map}
use Rattle.std.proofs.lemmas.Bool.{true≢false}
use Rattle.cat_model.specs.Files.{Name}
use Rattle.cat_model.specs.Item.{Schema}
use Rattle.cat_model.specs.Limits.{last_number, row_limit, view_limit}
use Rattle.cat_model.specs.Merged.{rows_of_all}
use Rattle.cat_model.specs.View.{Leaf}
use Rattle.cat_merge.specs.Merging.{MayMerge}
use Rattle.cat_merge.specs.files.Making.{InMaking}
use Rattle.cat_merge.specs.files.Sources.{MayReachSources}
use Rattle.cat_ledger_laws.specs.model.Users.{Used, users_of, times, same_file_name, Changes}
use Rattle.cat_ledger_laws.proofs.model.Users.{times-append}
use Rattle.cat_ledger_laws.specs.model.Portions.{IsMerging, IsMergingOf}
use Rattle.cat_ledger_laws.specs.shape.Shapes.{MergingShape, Shape, IsShape, names_of_leaves}
use Rattle.cat_ledger_laws.specs.shape.Steps.{IsBegun, IsCopied, IsEnded, Leaves, passed_on, window_now}
use Rattle.cat_ledger_laws.specs.shape.Ties.{ToldFiles}
use Rattle.cat_ledger_laws.proofs.shape.Committed.{users_fit}
use Rattle.cat_ledger_laws.proofs.shape.MergeWindows.{windows_may_be_merged, merges_find_their_window}
use Rattle.cat_ledger_laws.proofs.shape.MergeShapes.{many_shown, the_merge}
use Rattle.cat_ledger_laws.proofs.shape.Writes.{numbers_may_be_taken}
use Rattle.cat_ledger_state.specs.Cores.{MayCopy, MergesUnder, HasRowsLeft}
use Rattle.cat_ledger_state.proofs.Counting.{users_undone, known_undone}
use Rattle.cat_ledger_state.proofs.Flushing.{at_most_one, generations_fit}
use Rattle.cat_ledger_laws.proofs.shape.Told.{same_number}

-- ---- begun

-- a run of the list, as code takes it
pub run_is : (leaves now : List Leaf) (index k : ℕ) → now ≡ leaves → take (index + k - index) (drop index now) ≡ take k (drop index leaves)
run_is leaves now index k same =
    let count : index + k - index ≡ k = omega arith in
    ap (λ n. take n (drop index now)) count ∙ ap (λ l. take k (drop index l)) same

pub may_merge : (s : Shape) (index k : ℕ) (window : List Leaf) → IsShape s → s.next_segment ≤ last_number → index + k ≤ length s.leaves
    → length (rows_of_all (take k (drop index s.leaves))) ≤ row_limit → window ≡ take k (drop index s.leaves) → MayMerge s.next_segment s.schema window
may_merge s index k window its left within few is =
    let may = windows_may_be_merged s index k its within in
    let small : s.next_segment ≤ 9223372036854775807 = left in
    subst (MayMerge s.next_segment s.schema) (sym is) (record {
      numbered = ((numbers_may_be_taken s its).0, omega arith);
      schemas = may.schemas;
      few = few;
      rising = may.rising;
      distinct = may.distinct;
    })

-- one user more fits
pub one_fits : (s : Shape) (n : ℕ) (a q : Name) → IsShape s → n ≡ length s.views → n ≤ view_limit → users_of s.users q + times q (a ∷ []) < 2 ^ 64
one_fits s n a q is views few =
    let fit : users_of s.users q + 2 < 2 ^ 64 = users_fit s q is (subst (λ k. k ≤ view_limit) views few) in
    let one : cond (same_file_name q a) 1 0 ≤ 1 = at_most_one (same_file_name q a) in
    omega arith

pub begun_is : (s : Shape) (index k : ℕ) (m : InMaking) (window : List Leaf) (users' : List Used) → s.merging ≡ None → s.next_segment ≤ last_number → 0 < k
    → index + k ≤ length s.leaves → window ≡ take k (drop index s.leaves)
    → m ≡ record { schema = s.schema; shape = record { number = s.next_segment; index = index; inputs = window; passed = 0 } }
    → Changes (Name.source s.next_segment ∷ []) [] s.users users'
    → IsBegun index k s (record s { merging = Some m.shape; users = users'; next_segment = s.next_segment + 1 })
begun_is s index k m window users' idle left some within run is users = record {
  idle = idle;
  left = left;
  some = some;
  within = within;
  users = users;
  rest = ap (λ x. record s { merging = Some x; users = users'; next_segment = s.next_segment + 1 })
      (ap (λ x. x.shape) is ∙ ap (λ ls. record { number = s.next_segment; index = index; inputs = ls; passed = 0 }) run);
}

-- a merge has passed at most the rows that there are
pub passed_within : (s : Shape) (m : MergingShape) → IsShape s → s.merging ≡ Some m → m.passed ≤ length (rows_of_all m.inputs)
passed_within s m its e =
    let l = its.0 in
    let x = the_merge l.schema l.merging m (ap (λ (s : Shape). s.merging) its.1 ∙ e) in
    let is : IsMergingOf l.portions x.merge = subst (IsMerging l.portions) x.is its.2.merging in
    subst (λ (m : MergingShape). m.passed ≤ length (rows_of_all m.inputs)) x.shape
    (subst (λ n. x.merge.passed ≤ n) (sym (many_shown l.schema x.merge.inputs)) is.within)

-- it has some left where it hasn't passed all
pub left_is : (s : Shape) (m : MergingShape) (all : Bool) → IsShape s → s.merging ≡ Some m → (IsTrue all ↔ (m.passed ≡ length (rows_of_all m.inputs)))
    → IsTrue (not all) ↔ HasRowsLeft s.merging
left_is s m all its e is = subst (λ o. IsTrue (not all) ↔ HasRowsLeft o) (sym e) (told all is)
  where
    within : m.passed ≤ length (rows_of_all m.inputs)
    within = passed_within s m its e

    told : (b : Bool) → (IsTrue b ↔ (m.passed ≡ length (rows_of_all m.inputs))) → IsTrue (not b) ↔ HasRowsLeft (Some m)
    told true is = (λ t. absurd (true≢false (sym t)), λ lt. let same : m.passed ≡ length (rows_of_all m.inputs) = is.0 refl in absurd (omega (arith, same, lt)))
    told false is = (λ t. let apart : m.passed ≢ length (rows_of_all m.inputs) = λ same. true≢false (sym (is.1 same)) in omega (arith, within, apart), λ lt. refl)

pub begun_left : (s : Shape) (mid users' : List Used) → IsShape s → s.next_segment ≤ last_number → Changes (Name.source s.next_segment ∷ []) [] s.users mid
    → Changes [] (Name.source s.next_segment ∷ []) mid users'
    → Leaves (Name.source s.next_segment ∷ []) s (record s { users = users'; next_segment = s.next_segment + 1 })
begun_left s mid users' its left first second = record {
  known = known_undone (Name.source s.next_segment ∷ []) s.users mid users' first second;
  users = users_undone (Name.source s.next_segment ∷ []) s.users mid users' first second;
  segments = omega arith;
  generations = omega arith;
  one_segment = inr (refl, ap (λ b. b || false) (same_number s.next_segment));
  one_generation = inl refl;
  left = (omega arith, generations_fit s its);
  rest = refl;
}

-- ---- copied, or ended

pub copied_is : (s : Shape) (making : Option InMaking) (m after : InMaking) → s.merging ≡ option_map (λ x. x.shape) making → making ≡ Some m
    → HasRowsLeft s.merging → after ≡ record m { shape = passed_on m.shape } → IsCopied m.shape s (record s { merging = Some after.shape })
copied_is s making m after is some left step =
    let now : s.merging ≡ Some m.shape = is ∙ ap (option_map (λ x. x.shape)) some in
    record {
      making = now;
      left = subst HasRowsLeft now left;
      rest = ap (λ x. record s { merging = Some x.shape }) step;
    }

pub ended_is : (s : Shape) (making after : Option InMaking) (m : InMaking) (users' : List Used) (n : ℕ) → s.merging ≡ option_map (λ x. x.shape) making
    → making ≡ Some m → after ≡ None → n ≡ m.shape.number → Changes [] (Name.source n ∷ []) s.users users'
    → IsEnded m.shape s (record s { merging = option_map (λ x. x.shape) after; users = users' })
ended_is s making after m users' n is some over same users = record {
  making = is ∙ ap (option_map (λ x. x.shape)) some;
  users = subst (λ k. Changes [] (Name.source k ∷ []) s.users users') same users;
  rest = ap (λ x. record s { merging = option_map (λ y. y.shape) x; users = users' }) over;
}

-- a merge in the making is counted as a user of its sources
pub source_counted : (s : Shape) (making : Option InMaking) (m : InMaking) (n : ℕ) → IsShape s → s.merging ≡ option_map (λ x. x.shape) making
    → making ≡ Some m → n ≡ m.shape.number → (q : Name) → times q (Name.source n ∷ []) ≤ users_of s.users q
source_counted s making m n its is some same q =
    let found = merges_find_their_window m.shape s its (is ∙ ap (option_map (λ x. x.shape)) some) in
    subst (λ k. times q (Name.source k ∷ []) ≤ users_of s.users q) (sym same)
    (omega (arith, found.users q, times-append q (names_of_leaves (window_now m.shape s.leaves)) (Name.source m.shape.number ∷ [])))

pub still_under : (schema : Schema) (making : Option InMaking) (m : InMaking) → making ≡ Some m → MergesUnder schema making → m.schema ≡ schema
still_under schema making m some under = subst (MergesUnder schema) some under

pub none_under : (schema : Schema) (making : Option InMaking) → making ≡ None → MergesUnder schema making
none_under schema making none = subst (MergesUnder schema) (sym none) tt

-- ---- what a step may copy

-- so of the merge, as memory has it
pub of_merge : (P : Option MergingShape → Type 0) (merging : Option InMaking) (m : InMaking) → merging ≡ Some m → P (Some m.shape) → P (option_map (λ m. m.shape) merging)
of_merge P merging m some so = subst (λ (o : Option InMaking). P (option_map (λ m. m.shape) o)) (sym some) so

pub may_copy : (told : ToldFiles) (merging : Option InMaking) (m : InMaking) → merging ≡ Some m → MayReachSources m.shape told → MayCopy told (option_map (λ m. m.shape) merging)
may_copy told merging m some reach = subst (λ (o : Option InMaking). MayCopy told (option_map (λ m. m.shape) o)) (sym some) (λ left. reach)

-- nothing is left to copy
pub none_to_copy : (told : ToldFiles) (merging : Option MergingShape) → (HasRowsLeft merging → ⊥) → MayCopy told merging
none_to_copy told None none = tt
none_to_copy told (Some m) none = λ left. absurd (none left)

-- no merge is in the making
pub idle_to_copy : (told : ToldFiles) (merging : Option MergingShape) → is_some merging ≡ false → MayCopy told merging
idle_to_copy told None none = tt
idle_to_copy told (Some m) none = absurd (true≢false none)
