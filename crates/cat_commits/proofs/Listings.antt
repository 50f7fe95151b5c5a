-- Segments as their bytes lie in a commit's file.
use Rattle.std.proofs.Common.{◌≡◌, ◌≢◌, ℕ, zero, suc, ◌+◌, ◌*◌, ◌<◌, ◌≤◌, List, [], ◌∷◌, ◌++◌, length, take, get_or, append_assoc, Bool, true, false, cond, nat_eq, refl, sym, ap, ◌∙◌, subst, arith, add-one, below_more}
use Rattle.std.proofs.lemmas.Bool.{both_ways, eq-eqb, eqb-true}
use Rattle.std.specs.Prelude.{AllPairs, ◌/◌, ◌^◌}
use Rattle.std.specs.Int.{w64, from_be_bytes}
use Rattle.std.specs.List.{flat_map, AllByRecursion}
use Rattle.std.proofs.Math.Seq.{take-suc}
use Rattle.std.proofs.lemmas.List.{length-append, take_at, take_all}
use Rattle.std.proofs.lemmas.List.Concat.{flat_map-cons}
use Rattle.std.proofs.lemmas.Nat.{from_be_bytes-to_be_bytes_8}
use Rattle.cat_base.specs.Bytes.{spelled_u64}
use Rattle.cat_model.specs.CommitFile.{ListedSegment, spelled_listed}
use Rattle.cat_commits.proofs.Lists.{drop_behind}
use Rattle.cat_commits.specs.Listings.{number_in_listing, listed_segment_at, all_listed_in, DiffersFrom, NumbersDiffer}

pub no_more : (listing : List ℕ) → [] ≡ all_listed_in 0 listing
unfolding all_listed_in
no_more listing = refl

pub one_more : (listing : List ℕ) (n : ℕ) → all_listed_in n listing ++ listed_segment_at listing n ∷ [] ≡ all_listed_in (n + 1) listing
unfolding all_listed_in
one_more listing n = rw add-one refl

pub apart_more : (listing : List ℕ) (n : ℕ) → ((j : ℕ) → j < n → DiffersFrom listing j) → DiffersFrom listing n → (j : ℕ) → j < n + 1 → DiffersFrom listing j
apart_more listing n before here = below_more (DiffersFrom listing) n before here

-- the numbers of the first n differ, and just these are had
pub record Hashed (listing : List ℕ) (n : ℕ) (has : ℕ → Bool) : Type 0 where
  pub apart : (j : ℕ) → j < n → DiffersFrom listing j
  pub there : (i : ℕ) → i < n → has (listed_segment_at listing i).number ≡ true
  pub only : (q : ℕ) → has q ≡ true → (i : ℕ) × (i < n) × ((listed_segment_at listing i).number ≡ q)

pub none_hashed : (listing : List ℕ) (has : ℕ → Bool) → ((q : ℕ) → has q ≡ false) → Hashed listing 0 has
none_hashed listing has none = record {
  apart = λ j lt. absurd (omega arith);
  there = λ i lt. absurd (omega arith);
  only = λ q e. absurd (both_ways (has q) (none q) e);
}

pub one_hashed : (listing : List ℕ) (n : ℕ) (before after : ℕ → Bool) → ((q : ℕ) → after q ≡ cond (nat_eq (listed_segment_at listing n).number q) true (before q)) → before (listed_segment_at listing n).number ≡ false
    → Hashed listing n before → Hashed listing (n + 1) after
one_hashed listing n before after puts fresh h =
    let v : ℕ = (listed_segment_at listing n).number in
    record {
      apart = apart_more listing n h.apart (λ i lt same. both_ways (before v) fresh (subst (λ m. before m ≡ true) same (h.there i lt)));
      there = below_more (λ i. after (listed_segment_at listing i).number ≡ true) n
          (λ i lt. puts (listed_segment_at listing i).number ∙ either (nat_eq v (listed_segment_at listing i).number) (before (listed_segment_at listing i).number) (h.there i lt))
          (puts v ∙ (rw (eq-eqb v v refl) refl));
      only = λ q e. found q (sym (puts q) ∙ e);
    }
  where
    either : (b c : Bool) → c ≡ true → cond b true c ≡ true
    either true c e = refl
    either false c e = e

    found : (q : ℕ) → cond (nat_eq (listed_segment_at listing n).number q) true (before q) ≡ true → (i : ℕ) × (i < n + 1) × ((listed_segment_at listing i).number ≡ q)
    found q e = by (nat_eq (listed_segment_at listing n).number q) refl e
      where
        by : (b : Bool) → nat_eq (listed_segment_at listing n).number q ≡ b → cond b true (before q) ≡ true → (i : ℕ) × (i < n + 1) × ((listed_segment_at listing i).number ≡ q)
        by true is e = (n, omega arith, eqb-true _ _ is)
        by false is e = let o = h.only q e in let lt : o.0 < n = o.1 in (o.0, omega arith, o.2)

-- one that is had already isn't apart from all
pub not_apart : (listing : List ℕ) (n : ℕ) (has : ℕ → Bool) → Hashed listing n has → 16 * n + 16 ≤ length listing → has (listed_segment_at listing n).number ≡ true → NumbersDiffer listing → ⊥
not_apart listing n has h within there differ = let o = h.only (listed_segment_at listing n).number there in differ n within o.0 o.1 o.2

-- ---- what is spelled

pub record Fits (s : ListedSegment) : Type 0 where
  pub number : s.number < 2 ^ 64
  pub file : s.file < 2 ^ 64

pub length-spelled : (segs : List ListedSegment) → length (flat_map spelled_listed segs) ≡ 16 * length segs
length-spelled [] = refl
length-spelled (x ∷ xs) =
    omega (arith, ap length (flat_map-cons spelled_listed x xs), length-append (spelled_listed x) (flat_map spelled_listed xs), length-spelled xs)

number_first : (a : ℕ) (rest : List ℕ) → a < 2 ^ 64 → number_in_listing (spelled_u64 a ++ rest) 0 ≡ a
unfolding number_in_listing
number_first a rest fits = ap (from_be_bytes w64) (take_at (spelled_u64 a) rest 8 refl) ∙ from_be_bytes-to_be_bytes_8 a fits

number_behind : (front rest : List ℕ) (k m : ℕ) → length front ≡ k → number_in_listing (front ++ rest) (k + m) ≡ number_in_listing rest m
unfolding number_in_listing
number_behind front rest k m long = ap (λ l. from_be_bytes w64 (take 8 l)) (drop_behind front rest k m long)

-- the segment of the index is the one that is spelled there
pub listed_there : (segs : List ListedSegment) (i : ℕ) (d : ListedSegment) → i < length segs → AllByRecursion Fits segs → listed_segment_at (flat_map spelled_listed segs) i ≡ get_or segs i d
listed_there [] i d lt fits = absurd (omega arith)
listed_there (x ∷ xs) zero d lt fits =
    let whole : flat_map spelled_listed (x ∷ xs) ≡ spelled_u64 x.number ++ (spelled_u64 x.file ++ flat_map spelled_listed xs) = flat_map-cons spelled_listed x xs ∙ append_assoc (spelled_u64 x.number) (spelled_u64 x.file) (flat_map spelled_listed xs) in
    let number : number_in_listing (flat_map spelled_listed (x ∷ xs)) 0 ≡ x.number = ap (λ l. number_in_listing l 0) whole ∙ number_first x.number _ fits.0.number in
    let file : number_in_listing (flat_map spelled_listed (x ∷ xs)) 8 ≡ x.file =
    ap (λ l. number_in_listing l 8) whole ∙ number_behind (spelled_u64 x.number) (spelled_u64 x.file ++ flat_map spelled_listed xs) 8 0 refl ∙ number_first x.file _ fits.0.file in
    λ j. record { number = number j; file = file j }
listed_there (x ∷ xs) (suc i) d lt fits =
    let step : (m k : ℕ) → m ≡ 16 + k → number_in_listing (flat_map spelled_listed (x ∷ xs)) m ≡ number_in_listing (flat_map spelled_listed xs) k =
    λ m k e. ap (λ l. number_in_listing l m) (flat_map-cons spelled_listed x xs) ∙ ap (number_in_listing (spelled_listed x ++ flat_map spelled_listed xs)) e ∙ number_behind (spelled_listed x) (flat_map spelled_listed xs) 16 k refl in
    let rest : listed_segment_at (flat_map spelled_listed xs) i ≡ get_or xs i d = listed_there xs i d (omega arith) fits.1 in
    (λ j. record { number = step (16 * suc i) (16 * i) (omega arith) j; file = step (16 * suc i + 8) (16 * i + 8) (omega arith) j }) ∙ rest

-- the first n are those that are spelled
first_listed : (segs : List ListedSegment) (n : ℕ) (d : ListedSegment) → n ≤ length segs → AllByRecursion Fits segs → all_listed_in n (flat_map spelled_listed segs) ≡ take n segs
unfolding all_listed_in
first_listed segs zero d le fits = refl
first_listed segs (suc n) d le fits =
    let here : listed_segment_at (flat_map spelled_listed segs) n ≡ get_or segs n d = listed_there segs n d (omega arith) fits in
    let before : all_listed_in n (flat_map spelled_listed segs) ≡ take n segs = first_listed segs n d (omega arith) fits in
    rw (here, before) (sym (take-suc segs n d (omega arith)))

any_segment : ListedSegment
any_segment = record { number = 0; file = 0 }

pub all_listed : (listing : List ℕ) (segs : List ListedSegment) → listing ≡ flat_map spelled_listed segs → AllByRecursion Fits segs → all_listed_in (length listing / 16) listing ≡ segs
all_listed listing segs is fits =
    let count : length listing / 16 ≡ length segs = ap (λ (n : ℕ). n / 16) (ap length is ∙ length-spelled segs) ∙ sixteenth (length segs) in
    rw (count, is) (first_listed segs (length segs) any_segment (omega arith) fits ∙ take_all (length segs) segs (omega arith))
  where
    sixteenth : (n : ℕ) → 16 * n / 16 ≡ n
    sixteenth n = omega arith

pub differ_told : (listing : List ℕ) (segs : List ListedSegment) → listing ≡ flat_map spelled_listed segs → AllByRecursion Fits segs → NumbersDiffer listing → AllPairs (λ a b. a.number ≢ b.number) segs
differ_told listing segs is fits differ = λ i j d lt within same.
    let a : (listed_segment_at listing i).number ≡ (get_or segs i d).number = ap (λ l. (listed_segment_at l i).number) is ∙ ap (λ (s : ListedSegment). s.number) (listed_there segs i d (omega arith) fits) in
    let b : (listed_segment_at listing j).number ≡ (get_or segs j d).number = ap (λ l. (listed_segment_at l j).number) is ∙ ap (λ (s : ListedSegment). s.number) (listed_there segs j d within fits) in
    let long : length listing ≡ 16 * length segs = ap length is ∙ length-spelled segs in
    differ j (omega arith) i lt (a ∙ same ∙ sym b)

pub differ_from : (listing : List ℕ) (segs : List ListedSegment) → listing ≡ flat_map spelled_listed segs → AllByRecursion Fits segs → AllPairs (λ a b. a.number ≢ b.number) segs → NumbersDiffer listing
differ_from listing segs is fits distinct = λ j within i lt same.
    let long : length listing ≡ 16 * length segs = ap length is ∙ length-spelled segs in
    let in_list : j < length segs = omega arith in
    let a : (listed_segment_at listing i).number ≡ (get_or segs i any_segment).number = ap (λ l. (listed_segment_at l i).number) is ∙ ap (λ (s : ListedSegment). s.number) (listed_there segs i any_segment (omega arith) fits) in
    let b : (listed_segment_at listing j).number ≡ (get_or segs j any_segment).number = ap (λ l. (listed_segment_at l j).number) is ∙ ap (λ (s : ListedSegment). s.number) (listed_there segs j any_segment in_list fits) in
    distinct i j any_segment lt in_list (sym a ∙ same ∙ b)
