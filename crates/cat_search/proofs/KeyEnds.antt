-- What lies outside the ends would come after all that is kept, or not after the mark.
use Rattle.std.proofs.Common.{◌≡◌, ◌++◌, ◌∷◌, ◌&&◌, List, [], cond, Option, Some, None, option_map, Bool, true, false, is_none, is_some, inl, inr, ◌⊎◌, refl, sym, ◌∙◌, ap, subst, append-nil}
use Rattle.std.specs.Prelude.{IfSome, not}
use Rattle.std.proofs.lemmas.List.{map-append}
use Rattle.std.specs.declared.cmp.Ordering.{Ordering}
use Rattle.std.specs.declared.cmp.Ordering.TheVariants.{Less, Equal, Greater}
use Rattle.std.specs.Ordering.{is_lt, is_le, nat_cmp, ordering_then}
use Rattle.cat_model.specs.Page.{Key, key_cmp}
use Rattle.cat_model.specs.Query.{open_or}
use Rattle.cat_search.specs.Bars.{HasKey, MarkHas, LastHas, IsFullBy, AreEndsOf, key_le}
use Rattle.cat_search.specs.declared.keys.KeyRef.{KeyRef}
use Rattle.cat_search.specs.declared.keys.KeyRef.TheVariants.{Number, Keyword}
use Rattle.cat_search.specs.declared.standings.Candidate.{Candidate}
use Rattle.cat_search.specs.declared.standings.Rank as declared
use Rattle.cat_search.specs.declared.standings.Rank.TheVariants.{Rising, Falling, Missing}
use Rattle.cat_search.specs.declared.sort.Order.{Order}
use Rattle.cat_search.specs.declared.sort.OrderField.{OrderField}
use Rattle.cat_search.specs.declared.sort.Order.TheVariants as order
use Rattle.cat_search.specs.Keys.{key_ref_of}
use Rattle.cat_search.specs.Standings.{HitStanding, Rank, rank_cmp, standing_before}
use Rattle.cat_search.specs.BestItems.{BestItems, IsBestOf}
use Rattle.cat_search.specs.Pages.{beyond}
use Rattle.cat_search.specs.Candidates.{standing_of, rank_of, comes_first, IsBestAt}
use Rattle.cat_search.proofs.Candidates.{comes_first-is}

-- ---- a candidate that has the standing

abbrev as_ref : Key → KeyRef
as_ref (Key.number z) = Number z
as_ref (Key.keyword t) = Keyword (record { ref_ptr = (0, 0); now = t })

abbrev as_rank : Rank → declared.Rank
as_rank (Rank.rising k) = Rising (as_ref k)
as_rank (Rank.falling k) = Falling (record { 0 = as_ref k })
as_rank Rank.missing = Missing

abbrev as_candidate : HitStanding → Candidate
as_candidate p = record { rank = as_rank p.rank; number = p.number; id = record { ref_ptr = (0, 0); now = p.id } }

as_ref-is : (k : Key) → key_ref_of (as_ref k) ≡ k
as_ref-is (Key.number z) = refl
as_ref-is (Key.keyword t) = refl

as_rank-is : (r : Rank) → rank_of (as_rank r) ≡ r
as_rank-is (Rank.rising k) = ap Rank.rising (as_ref-is k)
as_rank-is (Rank.falling k) = ap Rank.falling (as_ref-is k)
as_rank-is Rank.missing = refl

as_candidate-is : (p : HitStanding) → standing_of (as_candidate p) ≡ p
as_candidate-is p = λ i. record { rank = (as_rank-is p.rank) i; number = p.number; id = p.id }

-- ---- a page that is full

pub full_by : (kept : BestItems Candidate) (last : Candidate) → ((offered : List Candidate) (item : Candidate) → comes_first item last ≡ false → IsBestOf comes_first kept offered → IsBestOf comes_first kept (offered ++ item ∷ [])) → IsFullBy kept (standing_of last)
full_by kept last full p late standings best =
    let standing : standing_of (as_candidate p) ≡ p = as_candidate-is p in (
      best.0 ++ as_candidate p ∷ [],
      map-append standing_of best.0 (as_candidate p ∷ []) ∙ ap (λ ps. ps ++ standing_of (as_candidate p) ∷ []) best.1 ∙ ap (λ q. standings ++ q ∷ []) standing,
      full best.0 (as_candidate p) (comes_first-is (as_candidate p) last ∙ ap (λ q. standing_before q (standing_of last)) standing ∙ late) best.2,
    )

-- ---- keys

greater : (o : Ordering) → is_le o ≡ false → o ≡ Greater
greater Less e = absurd (cc)
greater Equal e = absurd (cc)
greater Greater e = refl

-- one of the ends keeps the number out
which_end : (a b : Bool) → (a && b) ≡ false → (a ≡ false) ⊎ (b ≡ false)
which_end true b e = inr e
which_end false b e = inl refl

abbrev IsFirst : Order → Option HitStanding → Option KeyRef → Type 0
IsFirst o mark first = IfSome first (λ k. MarkHas o mark (key_ref_of k))

abbrev IsLast : Order → BestItems Candidate → Option KeyRef → Type 0
IsLast o kept last = IfSome last (λ k. LastHas o kept (key_ref_of k))

-- what is not before has a greater rank, or ties
not_before : (p q : HitStanding) → rank_cmp p.rank q.rank ≡ Greater → standing_before p q ≡ false
not_before p q e = ap (λ r. is_lt (ordering_then r (nat_cmp p.number q.number))) e

module _ (kept : BestItems Candidate) (mark : Option HitStanding) (p : HitStanding) (standings : List HitStanding) (best : IsBestAt kept standings) where
  abbrev Unchanged : Type 0
  Unchanged = IsBestAt kept (standings ++ cond (beyond mark p) (p ∷ []) [])

  not_beyond : beyond mark p ≡ false → Unchanged
  not_beyond e = subst (λ b. IsBestAt kept (standings ++ cond b (p ∷ []) [])) (sym e) (subst (IsBestAt kept) (sym (append-nil standings)) best)

  too_late : (l : HitStanding) → IsFullBy kept l → standing_before p l ≡ false → Unchanged
  too_late l full e = elim (beyond mark p) as (λ b. IsBestAt kept (standings ++ cond b (p ∷ []) [])) [
    | true ↦ full p e standings best
    | false ↦ subst (IsBestAt kept) (sym (append-nil standings)) best
  ]

  -- before the mark
  early : (m : HitStanding) → mark ≡ Some m → rank_cmp m.rank p.rank ≡ Greater → Unchanged
  early m is e = not_beyond (ap (λ o. beyond o p) is ∙ not_before m p e)

  late : (l : HitStanding) → IsFullBy kept l → rank_cmp p.rank l.rank ≡ Greater → Unchanged
  late l full e = too_late l full (not_before p l e)

  -- rows without a key come last
  rising_missing : (f : OrderField) (last : Option KeyRef) → IsLast (order.Rising f) kept last → p.rank ≡ Rank.missing → is_none last ≡ false → Unchanged
  rising_missing f None is r e = absurd (cc)
  rising_missing f (Some n) is r e = late is.0 is.2 (ap (λ q. rank_cmp q is.0.rank) r ∙ ap (rank_cmp Rank.missing) is.1)

  falling_missing : (f : OrderField) (last : Option KeyRef) → IsLast (order.Falling f) kept last → p.rank ≡ Rank.missing → is_none last ≡ false → Unchanged
  falling_missing f None is r e = absurd (cc)
  falling_missing f (Some n) is r e = late is.0 is.2 (ap (λ q. rank_cmp q is.0.rank) r ∙ ap (rank_cmp Rank.missing) is.1)

  rising_low : (f : OrderField) (z : Key) (first : Option KeyRef) → IsFirst (order.Rising f) mark first → p.rank ≡ Rank.rising z → open_or (λ a. key_le a z) (option_map key_ref_of first) ≡ false → Unchanged
  rising_low f z None is r e = absurd (cc)
  rising_low f z (Some n) is r e = early is.0 is.1 (ap (λ q. rank_cmp q p.rank) is.2 ∙ ap (rank_cmp (Rank.rising (key_ref_of n))) r ∙ greater (key_cmp (key_ref_of n) z) e)

  rising_high : (f : OrderField) (z : Key) (last : Option KeyRef) → IsLast (order.Rising f) kept last → p.rank ≡ Rank.rising z → open_or (key_le z) (option_map key_ref_of last) ≡ false → Unchanged
  rising_high f z None is r e = absurd (cc)
  rising_high f z (Some n) is r e = late is.0 is.2 (ap (λ q. rank_cmp q is.0.rank) r ∙ ap (rank_cmp (Rank.rising z)) is.1 ∙ greater (key_cmp z (key_ref_of n)) e)

  falling_low : (f : OrderField) (z : Key) (last : Option KeyRef) → IsLast (order.Falling f) kept last → p.rank ≡ Rank.falling z → open_or (λ a. key_le a z) (option_map key_ref_of last) ≡ false → Unchanged
  falling_low f z None is r e = absurd (cc)
  falling_low f z (Some n) is r e = late is.0 is.2 (ap (λ q. rank_cmp q is.0.rank) r ∙ ap (rank_cmp (Rank.falling z)) is.1 ∙ greater (key_cmp (key_ref_of n) z) e)

  falling_high : (f : OrderField) (z : Key) (first : Option KeyRef) → IsFirst (order.Falling f) mark first → p.rank ≡ Rank.falling z → open_or (key_le z) (option_map key_ref_of first) ≡ false → Unchanged
  falling_high f z None is r e = absurd (cc)
  falling_high f z (Some n) is r e = early is.0 is.1 (ap (λ q. rank_cmp q p.rank) is.2 ∙ ap (rank_cmp (Rank.falling (key_ref_of n))) r ∙ greater (key_cmp z (key_ref_of n)) e)

pub rising_ends : (f : OrderField) (mark : Option HitStanding) (kept : BestItems Candidate) (first last : Option KeyRef) → IsFirst (order.Rising f) mark first → IsLast (order.Rising f) kept last
    → AreEndsOf (order.Rising f) mark kept (record { low = first; high = last; missing = is_none last })
rising_ends f mark kept first last a b None e p r standings best = rising_missing kept mark p standings best f last b r e
rising_ends f mark kept first last a b (Some z) e p r standings best = elim (which_end (open_or (λ n. key_le n z) (option_map key_ref_of first)) (open_or (key_le z) (option_map key_ref_of last)) e) [
  | inl low ↦ rising_low kept mark p standings best f z first a r low
  | inr high ↦ rising_high kept mark p standings best f z last b r high
]

pub falling_ends : (f : OrderField) (mark : Option HitStanding) (kept : BestItems Candidate) (first last : Option KeyRef) → IsFirst (order.Falling f) mark first → IsLast (order.Falling f) kept last
    → AreEndsOf (order.Falling f) mark kept (record { low = last; high = first; missing = is_none last })
falling_ends f mark kept first last a b None e p r standings best = falling_missing kept mark p standings best f last b r e
falling_ends f mark kept first last a b (Some z) e p r standings best = elim (which_end (open_or (λ n. key_le n z) (option_map key_ref_of last)) (open_or (key_le z) (option_map key_ref_of first)) e) [
  | inl low ↦ falling_low kept mark p standings best f z last b r low
  | inr high ↦ falling_high kept mark p standings best f z first a r high
]

pub added_ends : (mark : Option HitStanding) (kept : BestItems Candidate) (first last : Option KeyRef) → IsFirst order.Added mark first → IsLast order.Added kept last
    → AreEndsOf order.Added mark kept (record { low = first; high = last; missing = is_none last })
added_ends mark kept None None a b None e p r standings best = absurd (cc)
added_ends mark kept None None a b (Some z) e p r standings best = absurd (cc)
added_ends mark kept (Some n) last a b z e p r standings best = absurd a.2
added_ends mark kept None (Some n) a b z e p r standings best = absurd b.1

missing_is : (last : Option KeyRef) (missing : Bool) → is_some last ≡ not missing → missing ≡ is_none last
missing_is None true e = refl
missing_is None false e = absurd (cc)
missing_is (Some n) true e = absurd (cc)
missing_is (Some n) false e = refl

module _ (o : Order) (mark : Option HitStanding) (kept : BestItems Candidate) (first last : Option KeyRef) (missing : Bool) (a : IsFirst o mark first) (b : IsLast o kept last) (e : is_some last ≡ not missing) where
  abbrev AreEndsWith : Option KeyRef → Option KeyRef → Bool → Type 0
  AreEndsWith low high m = AreEndsOf o mark kept (record { low = low; high = high; missing = m })

  pub ends_falling : (f : OrderField) → o ≡ order.Falling f → AreEndsWith last first missing
  ends_falling f is =
      subst (AreEndsWith last first) (sym (missing_is last missing e))
      (subst (λ w. AreEndsOf w mark kept (record { low = last; high = first; missing = is_none last })) (sym is)
      (falling_ends f mark kept first last (subst (λ w. IsFirst w mark first) is a) (subst (λ w. IsLast w kept last) is b)))

  pub ends_rising : (f : OrderField) → o ≡ order.Rising f → AreEndsWith first last missing
  ends_rising f is =
      subst (AreEndsWith first last) (sym (missing_is last missing e))
      (subst (λ w. AreEndsOf w mark kept (record { low = first; high = last; missing = is_none last })) (sym is)
      (rising_ends f mark kept first last (subst (λ w. IsFirst w mark first) is a) (subst (λ w. IsLast w kept last) is b)))

  pub ends_added : o ≡ order.Added → AreEndsWith first last missing
  ends_added is =
      subst (AreEndsWith first last) (sym (missing_is last missing e))
      (subst (λ w. AreEndsOf w mark kept (record { low = first; high = last; missing = is_none last })) (sym is)
      (added_ends mark kept first last (subst (λ w. IsFirst w mark first) is a) (subst (λ w. IsLast w kept last) is b)))

-- ---- the ends

pub first_of : (o : Order) (marks : Option Candidate) (mark : Candidate) (n : Option KeyRef) → marks ≡ Some mark → IfSome n (λ k. HasKey o (rank_of mark.rank) (key_ref_of k)) → IsFirst o (option_map standing_of marks) n
first_of o marks mark None is h = h
first_of o marks mark (Some n) is h = (standing_of mark, ap (option_map standing_of) is, h)

pub last_of : (o : Order) (kept : BestItems Candidate) (last : Candidate) (n : Option KeyRef)
    → ((offered : List Candidate) (item : Candidate) → comes_first item last ≡ false → IsBestOf comes_first kept offered → IsBestOf comes_first kept (offered ++ item ∷ []))
    → IfSome n (λ k. HasKey o (rank_of last.rank) (key_ref_of k)) → IsLast o kept n
last_of o kept last None full h = h
last_of o kept last (Some n) full h = (standing_of last, h, full_by kept last full)
