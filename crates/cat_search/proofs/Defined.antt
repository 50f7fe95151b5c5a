-- The page that a pass puts together is the page of the definition.
use Rattle.std.proofs.Common.{◌≡◌, ℕ, ◌<◌, ◌≤◌, Bool, true, false, ltb, Option, Some, None, option_map, is_some, find, ◌&&◌, ◌||◌, ◌==◌, List, [], ◌∷◌, length, take, map, filter, cond, Ok, refl, sym, ◌∙◌, ap, subst, arith, inl, inr}
use Rattle.std.specs.List.{AllByRecursion, list_any}
use Rattle.std.specs.Ordering.{is_lt, nat_cmp, ordering_then, ordering_reverse}
use Rattle.std.proofs.lemmas.Bool.Decides.{nat_tests}
use Rattle.cat_model.specs.Answer.{Found, Read, answer, can_sort, has_mark}
use Rattle.cat_model.specs.Item.{Schema, Record}
use Rattle.cat_model.specs.Limits.{page_limit}
use Rattle.cat_model.specs.Page.{Sort, Key, Page, Entry, hits, key, key_cmp, comes_before, before, rest, first_ranked, page_of}
use Rattle.cat_model.specs.Query.{Query, matches}
use Rattle.cat_model.specs.Ranks.{AreApart, sorted}
use Rattle.cat_model.proofs.HitOrder.{key_antisymm, is_lt-nat_cmp, is_lt-then, sorts_order_records}
use Rattle.cat_model.proofs.Insert.{which}
use Rattle.cat_model.proofs.Lists.{All-kept, All-weaken}
use Rattle.cat_model.proofs.Places.{EachPair, AllApart}
use Rattle.cat_model.proofs.Ranked.{first_sorted}
use Rattle.cat_search.specs.Standings.{Rank, HitStanding, rank_cmp, standing_before, key_shown, entry_shown}
use Rattle.cat_search.specs.Pages.{rank_by, beyond}
use Rattle.cat_search.proofs.Candidates.{map-first}
use Rattle.cat_views.proofs.Found.{any-is_some}

-- ---- the standing of a record, by the name of the sort's field

abbrev pub way : Sort → Key → Rank
way Sort.added k = Rank.missing
way (Sort.rising f) k = Rank.rising k
way (Sort.falling f) k = Rank.falling k

abbrev pub named_standing : Sort → Record → HitStanding
named_standing s r = record { rank = rank_by (way s) (key s r); number = r.number; id = r.item.id }

-- ---- standings compare as records do

rising : (k l : Option Key) (m n : ℕ) → is_lt (ordering_then (rank_cmp (rank_by Rank.rising k) (rank_by Rank.rising l)) (nat_cmp m n)) ≡ comes_before key_cmp k l (ltb m n)
rising None None m n = is_lt-nat_cmp m n
rising None (Some l) m n = refl
rising (Some k) None m n = refl
rising (Some k) (Some l) m n = is_lt-then (key_cmp k l) m n

falling : (k l : Option Key) (m n : ℕ) → is_lt (ordering_then (rank_cmp (rank_by Rank.falling k) (rank_by Rank.falling l)) (nat_cmp m n)) ≡ comes_before (λ x y. ordering_reverse (key_cmp x y)) k l (ltb m n)
falling None None m n = is_lt-nat_cmp m n
falling None (Some l) m n = refl
falling (Some k) None m n = refl
falling (Some k) (Some l) m n = ap (λ o. is_lt (ordering_then o (nat_cmp m n))) (key_antisymm l k) ∙ is_lt-then (ordering_reverse (key_cmp k l)) m n

before-is : (s : Sort) (a b : Record) → before s a b ≡ standing_before (named_standing s a) (named_standing s b)
before-is Sort.added a b = sym (is_lt-nat_cmp a.number b.number)
before-is (Sort.rising f) a b = sym (rising (key (Sort.rising f) a) (key (Sort.rising f) b) a.number b.number)
before-is (Sort.falling f) a b = sym (falling (key (Sort.falling f) a) (key (Sort.falling f) b) a.number b.number)

-- ---- entries

shown_key : (rank : Key → Rank) → ((k : Key) → key_shown (rank k) ≡ Some k) → (k : Option Key) → key_shown (rank_by rank k) ≡ k
shown_key rank e None = refl
shown_key rank e (Some k) = e k

key-is : (s : Sort) (r : Record) → key_shown (rank_by (way s) (key s r)) ≡ key s r
key-is Sort.added r = refl
key-is (Sort.rising f) r = shown_key Rank.rising (λ k. refl) (key (Sort.rising f) r)
key-is (Sort.falling f) r = shown_key Rank.falling (λ k. refl) (key (Sort.falling f) r)

abbrev entry_of : Sort → Record → Entry
entry_of s r = record { number = r.number; id = r.item.id; key = key s r }

entry-is : (s : Sort) (r : Record) → entry_shown (named_standing s r) ≡ entry_of s r
entry-is s r = ap (λ k. record { number = r.number; id = r.item.id; key = k }) (key-is s r)

-- ---- lists

pub filter-map : {X Y : Type 0} (q : Y → Bool) (f : X → Y) (xs : List X) → filter q (map f xs) ≡ map f (filter (λ x. q (f x)) xs)
filter-map q f [] = refl
filter-map q f (x ∷ xs) =
    elim (q (f x)) as (λ b. cond b (f x ∷ filter q (map f xs)) (filter q (map f xs)) ≡ map f (cond b (x ∷ filter (λ y. q (f y)) xs) (filter (λ y. q (f y)) xs))) [
      | true ↦ ap (λ ys. f x ∷ ys) (filter-map q f xs)
      | false ↦ filter-map q f xs
    ]

filter_all : {X : Type 0} (xs : List X) → filter (λ x. true) xs ≡ xs
filter_all [] = refl
filter_all (x ∷ xs) = ap (λ ys. x ∷ ys) (filter_all xs)

pub map_map : {X Y Z : Type 0} (f : Y → Z) (g : X → Y) (h : X → Z) → ((x : X) → f (g x) ≡ h x) → (xs : List X) → map f (map g xs) ≡ map h xs
map_map f g h e [] = refl
map_map f g h e (x ∷ xs) = ap (λ z. z ∷ map f (map g xs)) (e x) ∙ ap (λ zs. h x ∷ zs) (map_map f g h e xs)

each_map : {X Y : Type 0} (f : X → Y) (P : Y → Type 0) (xs : List X) → AllByRecursion (λ x. P (f x)) xs → AllByRecursion P (map f xs)
each_map f P [] a = tt
each_map f P (x ∷ xs) a = (a.0, each_map f P xs a.1)

pub each_pair-map : {X Y : Type 0} (f : X → Y) (R : Y → Y → Type 0) (xs : List X) → EachPair (λ x y. R (f x) (f y)) xs → EachPair R (map f xs)
each_pair-map f R [] a = tt
each_pair-map f R (x ∷ xs) a = (each_map f (R (f x)) xs a.0, each_pair-map f R xs a.1)

pub each_pair-filter : {X : Type 0} (R : X → X → Type 0) (p : X → Bool) (xs : List X) → EachPair R xs → EachPair R (filter p xs)
each_pair-filter R p [] a = tt
each_pair-filter R p (x ∷ xs) a =
    elim (p x) as (λ b. EachPair R (cond b (x ∷ filter p xs) (filter p xs))) [
      | true ↦ (All-kept (R x) p xs a.0, each_pair-filter R p xs a.1)
      | false ↦ each_pair-filter R p xs a.1
    ]

-- ---- numbers

-- each number is below those behind it
abbrev pub NumbersRise : List Record → Type 0
NumbersRise rs = EachPair (λ a b. a.number < b.number) rs

differ : (m n : ℕ) → m < n → m ≡ n → ⊥
differ m n h e = omega (arith, h, e)

all_apart : (s : Sort) (rs : List Record) → NumbersRise rs → AllApart (before s) rs
all_apart s [] a = tt
all_apart s (r ∷ rs) a =
    (All-weaken (λ t. r.number < t.number) (AreApart (before s) r) (λ t h. (sorts_order_records s).apart r t (differ r.number t.number h)) rs a.0, all_apart s rs a.1)

other_number : (m k : ℕ) → k < m → (m == k) ≡ false
other_number m k h = grind (arith, nat_tests)

same_number : (m k : ℕ) → (m == k) ≡ true → m ≡ k
same_number m k e = grind (arith, nat_tests)

-- ---- what the mark comes before

abbrev pub named_mark : Sort → List Record → Option ℕ → Option HitStanding
named_mark s rs None = None
named_mark s rs (Some mark) = option_map (named_standing s) (find (λ r. r.number == mark) rs)

-- no record behind has the number
none_behind : (mark : ℕ) (f : Record → Bool) (rs : List Record) → AllByRecursion (λ r. mark < r.number) rs → list_any (λ r. (r.number == mark) && f r) rs ≡ false
none_behind mark f [] a = refl
none_behind mark f (r ∷ rs) a = let e : (r.number == mark) ≡ false = other_number r.number mark a.0 in rw e (none_behind mark f rs a.1)

either_none : (b : Bool) → (b || false) ≡ b
either_none true = refl
either_none false = refl

-- the record of the mark is alone
mark_alone : (mark : ℕ) (f : Record → Bool) (rs : List Record) (r : Record) → NumbersRise rs → find (λ t. t.number == mark) rs ≡ Some r → list_any (λ t. (t.number == mark) && f t) rs ≡ f r
mark_alone mark f [] r a e = absurd (cc)
mark_alone mark f (t ∷ rs) r a e = elim (which (t.number == mark)) [
  | inl y ↦
      let same : Some t ≡ Some r = rw y at e in
      let is : t ≡ r = cc in
      let behind : AllByRecursion (λ u. mark < u.number) rs = subst (λ j. AllByRecursion (λ u. j < u.number) rs) (same_number t.number mark y) a.0 in
      rw (y, none_behind mark f rs behind) (either_none (f t) ∙ ap f is)
  | inr n ↦ rw n (mark_alone mark f rs r a.1 (rw n at e))
]

found : (s : Sort) (rs : List Record) (mark : ℕ) → NumbersRise rs → (o : Option Record) → find (λ r. r.number == mark) rs ≡ o → is_some o ≡ true
    → ◌≡◌ {A = Record → Bool} (λ h. beyond (option_map (named_standing s) (find (λ r. r.number == mark) rs)) (named_standing s h)) (λ h. list_any (λ r. (r.number == mark) && before s r h) rs)
found s rs mark a None e t = absurd (cc)
found s rs mark a (Some r) e t = λ i h. (ap (λ o. beyond (option_map (named_standing s) o) (named_standing s h)) e ∙ sym (before-is s r h) ∙ sym (mark_alone mark (λ u. before s u h) rs r a e)) i

rest-is : (s : Sort) (rs : List Record) (m : Option ℕ) (hs : List Record) → NumbersRise rs → has_mark rs m ≡ true → filter (λ h. beyond (named_mark s rs m) (named_standing s h)) hs ≡ rest s rs m hs
rest-is s rs None hs a e = filter_all hs
rest-is s rs (Some mark) hs a e =
    ap (λ p. filter p hs) (found s rs mark a (find (λ r. r.number == mark) rs) refl (sym (any-is_some (λ r. r.number == mark) rs) ∙ e))

-- ---- the page

module _ (rs : List Record) (q : Query) (s : Sort) (n : ℕ) (rises : NumbersRise rs) where
  entries-by : (m : Option ℕ) → has_mark rs m ≡ true
      → map entry_shown (take n (sorted standing_before (filter (beyond (named_mark s rs m)) (map (named_standing s) (hits rs q))))) ≡ map (entry_of s) (first_ranked (before s) (rest s rs m (hits rs q)) n)
  entries-by m marked =
      let hs : List Record = hits rs q in
      let test : Record → Bool = λ h. beyond (named_mark s rs m) (named_standing s h) in
      let after : List Record = filter test hs in
      let apart : AllApart (before s) after = all_apart s after (each_pair-filter (λ a b. a.number < b.number) test hs (each_pair-filter (λ a b. a.number < b.number) (λ r. matches q r.item) rs rises)) in
      ap (λ ps. map entry_shown (take n (sorted standing_before ps))) (filter-map (beyond (named_mark s rs m)) (named_standing s) hs)
      ∙ ap (map entry_shown) (sym (map-first (named_standing s) (before s) standing_before (before-is s) n after))
      ∙ map_map entry_shown (named_standing s) (entry_of s) (entry-is s) (take n (sorted (before s) after))
      ∙ ap (map (entry_of s)) (sym (first_sorted (before s) (sorts_order_records s).strict after n apart))
      ∙ ap (λ hs'. map (entry_of s) (first_ranked (before s) hs' n)) (rest-is s rs m hs rises marked)

  page-by : (m : Option ℕ) (total : ℕ) (entries : List Entry) → has_mark rs m ≡ true → total ≡ length (hits rs q)
      → entries ≡ map entry_shown (take n (sorted standing_before (filter (beyond (named_mark s rs m)) (map (named_standing s) (hits rs q)))))
      → ◌≡◌ {A = Page} (record { total = total; entries = entries }) (page_of rs q s m n)
  page-by m total entries marked t e = λ i. record { total = t i; entries = (e ∙ entries-by m marked) i }

  few : (most : ℕ) → n ≤ most → ltb most n ≡ false
  few most h = grind (arith, nat_tests)

  -- the answer, where standings go by the name of the sort's field
  pub answered_by : (schema : Schema) (m : Option ℕ) (total : ℕ) (entries : List Entry) → n ≤ page_limit → can_sort schema s ≡ true → has_mark rs m ≡ true → total ≡ length (hits rs q)
      → entries ≡ map entry_shown (take n (sorted standing_before (filter (beyond (named_mark s rs m)) (map (named_standing s) (hits rs q)))))
      → answer schema rs (Read.find n s m (Ok q)) ≡ Ok (Found.page (record { total = total; entries = entries }))
  answered_by schema m total entries h sorts marked t e = rw (few page_limit h, sorts, marked) (ap (λ p. Ok (Found.page p)) (sym (page-by m total entries marked t e)))
