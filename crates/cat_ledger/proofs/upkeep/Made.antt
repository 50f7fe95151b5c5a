-- What steps of merges make of each ledger that is carried: the words of their contracts from those of the core's.
use Rattle.std.proofs.Common.{◌≡◌, ℕ, ◌≤◌, List, [], ◌∷◌, length, take, drop, Bool, ◌||◌, true, false, Option, Some, None, is_some, IsTrue, inl, inr, refl, sym, ◌∙◌, ap, subst, arith, ◌+◌}
use Rattle.std.specs.Prelude.{option_map}
use Rattle.std.proofs.lemmas.Bool.{cases_lt}
use Rattle.cat_model.specs.Files.{Name}
use Rattle.cat_model.specs.Limits.{row_limit}
use Rattle.cat_model.specs.Merged.{rows_of_all}
use Rattle.cat_model.specs.Run.{Chore, News}
use Rattle.cat_model.specs.View.{Leaf}
use Rattle.cat_model.specs.Window.{IsWindow}
use Rattle.cat_directory.specs.Names.{name_of}
use Rattle.cat_directory.specs.declared.name.FileName.TheVariants as file
use Rattle.cat_ledger_laws.specs.model.Plans.{MergePolicy, MayBeForced}
use Rattle.cat_ledger_laws.specs.model.Replies.{Maintains, IsLeft}
use Rattle.cat_ledger_laws.specs.model.Users.{same_file_name}
use Rattle.cat_ledger_laws.specs.shape.Shapes.{MergingShape, Shape, IsShape}
use Rattle.cat_ledger_laws.specs.shape.Steps.{IsBegun, passed_on}
use Rattle.cat_ledger_laws.specs.shape.Ties.{ToldFiles, Makes, IsTold, TouchesOnly}
use Rattle.cat_ledger_laws.proofs.shape.MergeSteps.{begun_make, ends_make}
use Rattle.cat_ledger_laws.proofs.shape.MergeCopies.{copies_make}
use Rattle.cat_ledger_laws.proofs.shape.MergeInstalls.{installs_make}
use Rattle.cat_ledger_laws.proofs.shape.Writes.{refusals_make}
use Rattle.cat_ledger_state.specs.Cores.{HasGivenUp, HasCopied, HasEnded, HasRowsLeft}
use Rattle.cat_ledger_state.specs.Installs.{HasAllPassed, HasInstalled, HasFailed}
use Rattle.cat_ledger_state.proofs.Merging.{passed_within}
use Rattle.cat_ledger_laws.specs.lines.PlanLaws.{sizes_in, live_sets_in}
use Rattle.cat_ledger_laws.proofs.lines.Planned.{merges_begin, merges_copy, merges_are_done, forces_begin, windows_fit, forced_fit}
use Rattle.cat_ledger_laws.proofs.lines.StopAnswers.{nothing_is_left, begun_are_left, ended_are_left}
use Rattle.cat_ledger_laws.specs.model.Calls.{TakesOne}
use Rattle.cat_ledger_laws.specs.model.Ledger.{Ledger}

-- ---- what is left

-- nothing, where nothing was begun
pub left_as_it_was : (told : ToldFiles) (s : Shape) → Makes IsLeft told s told s
left_as_it_was told s = nothing_is_left told told s s (refl, λ q. refl)

-- all as it was, or the file of sources that was begun, which is new
pub left_begun : (told told' : ToldFiles) (s new : Shape) → HasGivenUp (Name.source s.next_segment ∷ []) told s told' new
    → Makes IsLeft told s told' new
left_begun told told' s new (inl k) = nothing_is_left told told' s new k
left_begun told told' s new (inr k) =
    begun_are_left (Name.source s.next_segment ∷ []) told told' s new
    (refusals_make (Name.source s.next_segment ∷ []) s new told told' k.0 (omega arith, tt) k.1)

-- the end of the merge in the making,
pub left_ended : (told told' : ToldFiles) (s new : Shape) → HasEnded told s told' new → Makes IsLeft told s told' new
left_ended told told' s new k = ended_are_left k.merge told told' s new (ends_make k.merge s new told told' k.ended k.others)

last_of_two : (b c : Bool) → (b || (c || false)) ≡ false → (c || false) ≡ false
last_of_two true c e = absurd (let no : true ≡ false = e in cc)
last_of_two false c e = e

one_of_two : (n : ℕ) (told told' : ToldFiles) → TouchesOnly (Name.segment n ∷ []) told told'
    → TouchesOnly (Name.source n ∷ Name.segment n ∷ []) told told'
one_of_two n told told' others q e =
    others q (last_of_two (same_file_name (name_of q) (Name.source n)) (same_file_name (name_of q) (Name.segment n)) e)

-- no number is taken where no file was begun
still_one : (l mid new : Ledger) → mid.next_segment ≡ l.next_segment
    → TakesOne [] (Name.source mid.next_segment) mid.next_segment new.next_segment → new.next_segment ≤ l.next_segment + 1
still_one l mid new same (inl k) = omega (arith, same, k)
still_one l mid new same (inr k) = absurd (let no : false ≡ true = k.1 in cc)

-- also with names that nobody uses
pub left_failed : (told told' : ToldFiles) (s new : Shape) → HasFailed told s told' new → Makes IsLeft told s told' new
left_failed told told' s new k l files carried =
    let ended = ends_make k.merge s k.mid told told' k.ended (one_of_two k.merge.number told told' k.others) l files carried in
    let left = refusals_make [] k.mid new told' told' k.left tt (λ q e. refl) ended.0 ended.1 ended.3 in (
      left.0,
      left.1,
      record {
        flushed = l;
        ended = ended.0;
        begun = [];
        flush = inl refl;
        merge = inr (ended.2.0, ended.2.2);
        one_segment = still_one l ended.0 left.0 (ap (λ (x : Ledger). x.next_segment) ended.2.2.rest) left.2.one_segment;
        rest = left.2;
      },
      left.3,
    )

-- ---- a merge that is begun

-- one segment can hold the rows of a window
pub window_fits : (policy : MergePolicy) (index count : ℕ) (leaves : List Leaf) → count ≡ policy.factor
    → IsWindow policy.factor policy.least (sizes_in leaves) (Some index) → length (rows_of_all (take count (drop index leaves))) ≤ row_limit
window_fits policy index count leaves same w =
    subst (λ k. length (rows_of_all (take k (drop index leaves))) ≤ row_limit) (sym same) (windows_fit policy index leaves w).1

pub window_begun : (policy : MergePolicy) (index count : ℕ) (told told' : ToldFiles) (s new : Shape) → count ≡ policy.factor
    → IsWindow policy.factor policy.least (sizes_in s.leaves) (Some index) → IsBegun index count s new
    → TouchesOnly (Name.source s.next_segment ∷ []) told told' → IsTold (told' (file.Source s.next_segment)) (Some [])
    → Makes (Maintains policy Chore.merge (News.begun_merge count)) told s told' new
window_begun policy index count told told' s new same w begun others empty =
    subst (λ k. Makes (Maintains policy Chore.merge (News.begun_merge k)) told s told' new) (sym same)
    (merges_begin policy index s new told told' w
    (begun_make index policy.factor s new told told' (subst (λ k. IsBegun index k s new) same begun) others empty))

-- or of all
pub all_fit : (count : ℕ) (leaves : List Leaf) → count ≡ length leaves → MayBeForced (sizes_in leaves) (live_sets_in leaves)
    → length (rows_of_all (take count (drop 0 leaves))) ≤ row_limit
all_fit count leaves same may = subst (λ k. length (rows_of_all (take k (drop 0 leaves))) ≤ row_limit) (sym same) (forced_fit leaves may)

pub all_begun : (policy : MergePolicy) (count : ℕ) (told told' : ToldFiles) (s new : Shape) → count ≡ length s.leaves
    → MayBeForced (sizes_in s.leaves) (live_sets_in s.leaves) → IsBegun 0 count s new
    → TouchesOnly (Name.source s.next_segment ∷ []) told told' → IsTold (told' (file.Source s.next_segment)) (Some [])
    → Makes (Maintains policy Chore.force (News.begun_merge count)) told s told' new
all_begun policy count told told' s new same may begun others empty =
    subst (λ k. Makes (Maintains policy Chore.force (News.begun_merge k)) told s told' new) (sym same)
    (forces_begin policy s new told told' may
    (begun_make 0 (length s.leaves) s new told told' (subst (λ k. IsBegun 0 k s new) same begun) others empty))

-- ---- one that goes on

pub copied_made : (policy : MergePolicy) (passed : ℕ) (told told' : ToldFiles) (s new : Shape) → HasCopied told s told' new
    → option_map (λ (m : MergingShape). m.passed) new.merging ≡ Some passed
    → Makes (Maintains policy Chore.merge (News.copied passed)) told s told' new
copied_made policy passed told told' s new k tells =
    let now : option_map (λ (m : MergingShape). m.passed) new.merging ≡ Some (passed_on k.merge).passed =
    ap (λ (s : Shape). option_map (λ (m : MergingShape). m.passed) s.merging) k.copied.rest in
    let same : Some (passed_on k.merge).passed ≡ Some passed = sym now ∙ tells in
    subst (λ n. Makes (Maintains policy Chore.merge (News.copied n)) told s told' new) (the same)
    (merges_copy policy k.merge s new told told' (copies_make k.merge s new told told' k.copied k.written))
  where
    the : {m n : ℕ} → Some m ≡ Some n → m ≡ n
    the e = cc

-- where it has no rows left it has passed all
pub all_passed : (s : Shape) → IsShape s → IsTrue (is_some s.merging) → (HasRowsLeft s.merging → ⊥) → HasAllPassed s.merging
all_passed s its some none = by s.merging refl some none
  where
    by : (o : Option MergingShape) → s.merging ≡ o → IsTrue (is_some o) → (HasRowsLeft o → ⊥) → HasAllPassed o
    by None e some none = absurd (let no : false ≡ true = some in cc)
    by (Some m) e some none = elim (cases_lt m.passed (length (rows_of_all m.inputs))) [
      | inl left ↦ absurd (none left)
      | inr all ↦ omega (arith, passed_within s m its e, all)
    ]

pub installed_made : (policy : MergePolicy) (told told' : ToldFiles) (s new : Shape) → HasInstalled told s told' new
    → Makes (Maintains policy Chore.merge News.done) told s told' new
installed_made policy told told' s new k =
    merges_are_done policy k.merge s new told told' (installs_make k.merge s new told told' k.installed k.others k.written)
