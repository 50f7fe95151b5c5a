-- What is kept of lists of segments stays right.
use Rattle.std.proofs.Common.{◌≡◌, ◌≢◌, ℕ, ◌<◌, ◌≤◌, List, [], map, refl, sym, ◌∙◌, ap, arith}
use Rattle.std.specs.Prelude.{slice_index_or, All}
use Rattle.std.proofs.lemmas.List.Elements.{All-from_recursion, All-map, All-nil, All-weaker, recursion_from_All}
use Rattle.cat_model.specs.View.{Segment, AgreesWith}
use Rattle.cat_ledger_laws.proofs.lines.Found.{All-unmap}
use Rattle.cat_commands.specs.sets.Beside.{AnyIsKnown}
use Rattle.cat_commands.specs.sets.Kept.{AreBelow, HaveNoneOf, ListsKnow, RemembersIn, RemembersInBelow}
use Rattle.cat_commands.specs.sets.KeptLaws.{AddedAreRight, KeptGoOn, KeptStay, NoneAreKept, RecordedAgree, UnkeptAreKnown}
use Rattle.cat_commands.proofs.sets.Beside.{recorded_have, right_as_made, right_goes_on, right_where_known}
use Rattle.cat_commands.proofs.sets.Right.{empty_of, single_of}
use Rattle.cat_commands.proofs.sets.Shaped.{segments_stay}

-- what follows of each segment of each list
each_weaker : (P Q : Segment → Type 0) → ((s : Segment) → P s → Q s) → (lists : List (List Segment)) → All (λ segments. All P segments) lists → All (λ segments. All Q segments) lists
each_weaker P Q f lists h = All-weaker (λ (segments : List Segment). All P segments) (λ (segments : List Segment). All Q segments) (λ segments each. All-weaker P Q f segments each) lists h

-- ---- numbers that are kept nowhere

both_of : (n : ℕ) (s : Segment) → AgreesWith (empty_of n) s → AgreesWith (single_of n) s → s.number ≢ n
both_of n s none one same = let no : (empty_of n).rows ≡ (single_of n).rows = ap (λ (s : Segment). s.rows) (sym (none same) ∙ one same) in cc

none_of : (lists : List (List Segment)) (n : ℕ) → AnyIsKnown (ListsKnow lists) n → HaveNoneOf lists n
none_of lists n any =
    let none : ListsKnow lists (empty_of n) = any (empty_of n) refl in
    let one : ListsKnow lists (single_of n) = any (single_of n) refl in
    λ k d short i e within. both_of n (slice_index_or (slice_index_or lists k d) i e) (none k d short i e within) (one k d short i e within)

known_any : (lists : List (List Segment)) (n : ℕ) → HaveNoneOf lists n → AnyIsKnown (ListsKnow lists) n
known_any lists n none s same = each_weaker (λ t. t.number ≢ n) (AgreesWith s) (λ t no is. absurd (no (is ∙ same))) lists none

pub unkept_are_known : UnkeptAreKnown
unkept_are_known lists n = (none_of lists n, known_any lists n)

-- ---- how they are right

pub none_are_kept : NoneAreKept
none_are_kept s =
    right_where_known (ListsKnow []) (λ n. AreBelow n [])
    (λ segment. All-nil (λ (segments : List Segment). All (AgreesWith segment) segments))
    (λ n. All-nil (λ (segments : List Segment). All (λ s. s.number < n) segments))
    s

beyond_known : (lists : List (List Segment)) (n : ℕ) (s : Segment) → AreBelow n lists → n ≤ s.number → ListsKnow lists s
beyond_known lists n s below high = each_weaker (λ t. t.number < n) (AgreesWith s) (λ t less is. absurd (omega (arith, less, is, high))) lists below

below_more : (lists : List (List Segment)) (n m : ℕ) → n ≤ m → AreBelow n lists → AreBelow m lists
below_more lists n m le h = each_weaker (λ s. s.number < n) (λ s. s.number < m) (λ s less. omega (arith, less, le)) lists h

pub kept_go_on : KeptGoOn
kept_go_on lists s new go right = right_goes_on (ListsKnow lists) (λ n. AreBelow n lists) (beyond_known lists) (below_more lists) s new go right

pub kept_stay : KeptStay
kept_stay policy told told' s new line reply l files lists c answers right = kept_go_on lists s new (segments_stay policy told told' s new line reply l files c answers) right

-- ---- what is done with them

pub added_are_right : AddedAreRight
added_are_right s segments lists after agree had known below right =
    right_as_made (ListsKnow lists) (ListsKnow after) (λ n. AreBelow n lists) (λ n. AreBelow n after) segments known below s agree had right

-- ---- what they are good for

pub recorded_agree : RecordedAgree
recorded_agree lists s t view right is = recorded_have (ListsKnow lists) s t view right.known is

-- ---- kept values, by the lists of segments that they have

module _ {K : Type 0} (f : K → List Segment) where
  -- what holds of each segment of each value's list
  pub of_lists : (P : Segment → Type 0) (kept : List K) → All (λ k. All P (f k)) kept → All (λ segments. All P segments) (map f kept)
  of_lists P kept h = All-map (λ (segments : List Segment). All P segments) f kept h

  pub of_values : (P : Segment → Type 0) (kept : List K) → All (λ segments. All P segments) (map f kept) → All (λ k. All P (f k)) kept
  of_values P kept h = All-from_recursion (λ (k : K). All P (f k)) kept
      (All-unmap (λ (segments : List Segment). All P segments) f kept (recursion_from_All (λ (segments : List Segment). All P segments) (map f kept) h))

  pub remembers_lists : (segments : List Segment) (old new : List K) → ((s : Segment) → All (AgreesWith s) segments → All (λ k. All (AgreesWith s) (f k)) old → All (λ k. All (AgreesWith s) (f k)) new)
      → RemembersIn segments (map f old) (map f new)
  remembers_lists segments old new known s agree h = of_lists (AgreesWith s) new (known s agree (of_values (AgreesWith s) old h))

  pub remembers_lists_below : (segments : List Segment) (old new : List K) → ((n : ℕ) → All (λ s. s.number < n) segments → All (λ k. All (λ s. s.number < n) (f k)) old → All (λ k. All (λ s. s.number < n) (f k)) new)
      → RemembersInBelow segments (map f old) (map f new)
  remembers_lists_below segments old new below n each h = of_lists (λ s. s.number < n) new (below n each (of_values (λ s. s.number < n) old h))
