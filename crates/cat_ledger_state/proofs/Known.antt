-- The numbers of each known name were given out.
use Rattle.std.proofs.Common.{◌≡◌, ℕ, ◌+◌, ◌<◌, ◌≤◌, List, [], ◌∷◌, length, Bool, true, false, cond, ◌||◌, Some, refl, sym, ◌∙◌, subst, inl, inr, arith}
use Rattle.std.specs.Prelude.{◌⊎◌, ◌==◌, not}
use Rattle.std.specs.List.{AllByRecursion}
use Rattle.std.proofs.lemmas.Bool.{true≢false}
use Rattle.std.proofs.lemmas.List.Elements.{recursion_from_All}
use Rattle.cat_model.specs.Text.{Text}
use Rattle.cat_model.specs.Files.{Name}
use Rattle.cat_model.specs.CommitFile.{IsListed, IsCommitFile, commit_needs}
use Rattle.cat_model.specs.Merged.{merged_leaf}
use Rattle.cat_model.specs.View.{Leaf}
use Rattle.cat_lifetimes.proofs.refs.Named.{count_by-cons}
use Rattle.cat_merge.specs.files.Making.{InMaking}
use Rattle.cat_ledger_laws.specs.model.Ledger.{Ledger, IsLedger, IsPast, IsTaken, names_used}
use Rattle.cat_ledger_laws.specs.model.Users.{Used, users_of, is_known, same_file_name, times, has_name, Changes}
use Rattle.cat_ledger_laws.proofs.model.Flushes.{past_more}
use Rattle.cat_ledger_laws.proofs.model.Users.{times-append}
use Rattle.cat_ledger_laws.specs.shape.Shapes.{MergingShape, Shape, IsShape, flushed_leaf, names_of_leaves}
use Rattle.cat_ledger_laws.specs.shape.Steps.{commit_file_now, window_now}
use Rattle.cat_ledger_laws.proofs.shape.MergeWindows.{merges_find_their_window}
use Rattle.cat_ledger_laws.proofs.shape.Told.{same_again}
use Rattle.cat_ledger_state.specs.Cores.{ComesUsed, KnownArePast}
use Rattle.cat_ledger_state.specs.Installs.{made_of}
use Rattle.cat_ledger_state.proofs.startup.Needed.{of_named, some_named, listed_past}

either : (a b : Bool) → (a || b) ≡ true → (a ≡ true) ⊎ (b ≡ true)
either true b e = inl refl
either false b e = inr e

-- a name that stands in the list is counted there
named_times : (q : Name) (names : List Name) → has_name q names ≡ true → 0 < times q names
named_times q [] e = absurd (true≢false (sym e))
named_times q (x ∷ xs) e = by (same_file_name q x) (count_by-cons (same_file_name q) x xs) (named_times q xs) e
  where
    by : (b : Bool) → times q (x ∷ xs) ≡ cond b 1 0 + times q xs → (has_name q xs ≡ true → 0 < times q xs) → (b || has_name q xs) ≡ true → 0 < times q (x ∷ xs)
    by true c rest is = omega (arith, c)
    by false c rest is = let more : 0 < times q xs = rest is in omega (arith, c, more)

-- ---- what is used

used_in_ledger : (l : Ledger) → IsLedger l → (q : Name) → 0 < users_of l.users q → IsPast l.next_segment l.next_generation q
used_in_ledger l ok q some =
    let is : users_of l.users q ≡ times q (names_used l) = ok.users q in
    of_named (IsPast l.next_segment l.next_generation) q (names_used l) ok.fresh (some_named q (names_used l) (omega (arith, is, some)))

-- what somebody uses has numbers that were given out
pub used_past : (s : Shape) → IsShape s → (q : Name) → 0 < users_of s.users q → IsPast s.next_segment s.next_generation q
used_past s its q = subst (λ (x : Shape). 0 < users_of x.users q → IsPast x.next_segment x.next_generation q) its.1 (used_in_ledger its.0 its.2 q)

pub numbers_some : (s : Shape) → IsShape s → (0 < s.next_segment) × (0 < s.next_generation)
numbers_some s its = subst (λ (x : Shape). (0 < x.next_segment) × (0 < x.next_generation)) its.1 its.2.numbers

-- the merge in the making has a number that was given out
pub merging_taken : (s : Shape) (m : MergingShape) → IsShape s → s.merging ≡ Some m → IsTaken s.next_segment m.number
merging_taken s m its making =
    let found = merges_find_their_window m s its making in
    let one : times (Name.source m.number) (Name.source m.number ∷ []) ≡ 1 = own (Name.source m.number) (same_again (Name.source m.number)) in
    used_past s its (Name.source m.number)
    (omega (arith, one, found.users (Name.source m.number), times-append (Name.source m.number) (names_of_leaves (window_now m s.leaves)) (Name.source m.number ∷ [])))
  where
    own : (q : Name) → same_file_name q q ≡ true → times q (q ∷ []) ≡ 1
    own q same = count_by-cons (same_file_name q) q [] ∙ (rw same refl)

-- ---- what comes to be known

-- whatever is taken and given: what is known was so, or was taken
pub taken_past : (taken given : List Name) (old new : List Used) (n g n' g' : ℕ) → n ≤ n' → g ≤ g' → AllByRecursion (IsPast n' g') taken → Changes taken given old new
    → KnownArePast old n g → KnownArePast new n' g'
taken_past taken given old new n g n' g' segments generations begun changed past q known = elim (either (is_known old q) (has_name q taken) (sym (changed.known q) ∙ known)) [
  | inl was ↦ past_more n g n' g' segments generations q (past q was)
  | inr took ↦ of_named (IsPast n' g') q taken begun took
]

-- so where it is taken first, and then given
pub undone_past : (taken given : List Name) (old mid new : List Used) (n g n' g' : ℕ) → n ≤ n' → g ≤ g' → AllByRecursion (IsPast n' g') taken → Changes taken [] old mid
    → Changes [] given mid new → KnownArePast old n g → KnownArePast new n' g'
undone_past taken given old mid new n g n' g' segments generations begun first second past =
    taken_past [] given mid new n' g' n' g' (omega arith) (omega arith) tt second (taken_past taken [] old mid n g n' g' segments generations begun first past)

-- nothing comes to be known where names are only given
pub given_past : (given : List Name) (old new : List Used) (n g : ℕ) → Changes [] given old new → KnownArePast old n g → KnownArePast new n g
given_past given old new n g changed = taken_past [] given old new n g n g (omega arith) (omega arith) tt changed

-- a name that comes to be known has a user, where those that are given had theirs before
pub comes_used : (taken given : List Name) (old new : List Used) → Changes taken given old new → ((q : Name) → times q given ≤ users_of old q) → ComesUsed old new
comes_used taken given old new changed had q known = elim (either (is_known old q) (has_name q taken) (sym (changed.known q) ∙ known)) [
  | inl was ↦ inl was
  | inr took ↦ inr (let some : 0 < times q taken = named_times q taken took in omega (arith, some, changed.users q, had q))
]

-- what is used in a ledger has numbers that were given out, and what was known had them
pub known_stays : (old : List Used) (n g : ℕ) (new : Shape) → IsShape new → n ≤ new.next_segment → g ≤ new.next_generation → ComesUsed old new.users
    → KnownArePast old n g → KnownArePast new.users new.next_segment new.next_generation
known_stays old n g new its segments generations come past q known = elim (come q known) [
  | inl was ↦ past_more n g new.next_segment new.next_generation segments generations q (past q was)
  | inr used ↦ used_past new its q used
]

-- ---- names that were taken three times

pub all_used : (first second third : List Name) (a b c d : List Used) → Changes first [] a b → Changes second [] b c → Changes third [] c d → ComesUsed a d
all_used first second third a b c d one two three q known = elim (comes_used third [] c d three (λ q. omega arith) q known) [
  | inr used ↦ inr used
  | inl then ↦ elim (comes_used second [] b c two (λ q. omega arith) q then) [
    | inr used ↦ inr (omega (arith, used, three.users q))
    | inl before ↦ elim (comes_used first [] a b one (λ q. omega arith) q before) [
      | inr used ↦ inr (omega (arith, used, two.users q, three.users q))
      | inl was ↦ inl was
    ]
  ]
]

-- ---- names that are begun

pub segment_past : (s : Shape) (leaf : Leaf) → IsShape s → leaf ≡ flushed_leaf s → AllByRecursion (IsPast (s.next_segment + 1) s.next_generation) (names_of_leaves (leaf ∷ []))
segment_past s leaf its is =
    let some : 0 < s.next_segment = (numbers_some s its).0 in
    subst (λ (l : Leaf). AllByRecursion (IsPast (s.next_segment + 1) s.next_generation) (names_of_leaves (l ∷ []))) (sym is) ((some, omega arith), ((some, omega arith), tt))

pub source_past : (s : Shape) → IsShape s → AllByRecursion (IsPast (s.next_segment + 1) s.next_generation) (Name.source s.next_segment ∷ [])
source_past s its = (((numbers_some s its).0, omega arith), tt)

pub commit_past : (text : Text) (s : Shape) (names : List Name) → IsShape s → IsCommitFile (commit_file_now text s) → names ≡ commit_needs (commit_file_now text s)
    → AllByRecursion (IsPast s.next_segment (s.next_generation + 1)) names
commit_past text s names its form is =
    let n : ℕ = s.next_segment in
    let g : ℕ = s.next_generation in
    let listed = recursion_from_All (IsListed g n) (commit_file_now text s).segments form.listed in
    subst (AllByRecursion (IsPast n (g + 1))) (sym is)
    (((numbers_some s its).1, omega arith), listed_past n (g + 1) n g (omega arith) (omega arith) (commit_file_now text s).segments listed)

made_past : (n g k : ℕ) (made : Bool) (leaf : Leaf) → leaf.segment.number ≡ k → IsTaken n k → AllByRecursion (IsPast n g) (names_of_leaves (cond made (leaf ∷ []) []))
made_past n g k false leaf is taken = tt
made_past n g k true leaf is taken = (subst (IsTaken n) (sym is) taken, (subst (IsTaken n) (sym is) taken, tt))

pub merged_past : (n g : ℕ) (m : InMaking) (leaves : List Leaf) → IsTaken n m.shape.number → AllByRecursion (IsPast n g) (names_of_leaves (made_of m leaves))
merged_past n g m leaves taken =
    let leaf = merged_leaf m.shape.number m.schema m.shape.inputs (window_now m.shape leaves) in
    made_past n g m.shape.number (not (length leaf.segment.rows == 0)) leaf refl taken
