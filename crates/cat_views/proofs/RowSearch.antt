-- Where a search finds the row of a number, in segments whose numbers rise.
use Rattle.std.proofs.Common.{◌≡◌, ◌≢◌, ℕ, zero, suc, ◌<◌, ◌≤◌, List, [], ◌∷◌, ◌++◌, length, take, drop, get_or, AllPairs, Bool, true, false, cond, Option, Some, None, find, ◌==◌, refl, sym, ap, ◌∙◌, subst, arith}
use Rattle.std.specs.List.{AllByRecursion, HoldsAt, All, flat_map}
use Rattle.std.proofs.lemmas.Bool.Decides.{nat_tests}
use Rattle.std.proofs.lemmas.List.Elements.{recursion_from_All}
use Rattle.cat_model.specs.View.{Row, Leaf, Segment, selected, live_rows}
use Rattle.cat_model.specs.RowSets.{has_row}
use Rattle.cat_model.proofs.Lists.{All-both, All-weaken}
use Rattle.cat_model.proofs.Places.{EachPair, each_pair}
use Rattle.cat_views.specs.Rows.{all_rows, first_in}
use Rattle.cat_views.proofs.Selected.{All-selected, All-left, All-right, Pairs-right, All-pieces}

-- the number of each row is below those behind it
abbrev pub NumbersRise : List Row → Type 0
NumbersRise rows = AllPairs (λ a b. a.number < b.number) rows

-- ---- the only row of a number

-- no row has the number
abbrev pub Lacks : ℕ → List Row → Type 0
Lacks number rows = AllByRecursion (λ r. (r.number == number) ≡ false) rows

other : (m n : ℕ) → m ≢ n → (m == n) ≡ false
other m n h = grind (arith, nat_tests)

equal : (m n : ℕ) → m ≡ n → (m == n) ≡ true
equal m n e = grind (arith, nat_tests)

below_lacks : (number : ℕ) (rows : List Row) → AllByRecursion (λ r. r.number < number) rows → Lacks number rows
below_lacks number rows a = All-weaken (λ r. r.number < number) (λ r. (r.number == number) ≡ false) (λ r h. other r.number number (λ e. omega (arith, h, e))) rows a

above_lacks : (number : ℕ) (rows : List Row) → AllByRecursion (λ r. number < r.number) rows → Lacks number rows
above_lacks number rows a = All-weaken (λ r. number < r.number) (λ r. (r.number == number) ≡ false) (λ r h. other r.number number (λ e. omega (arith, h, e))) rows a

abbrev pub found : ℕ → List Row → Option Row
found number rows = find (λ r. r.number == number) rows

pub lacking : (number : ℕ) (rows : List Row) → Lacks number rows → found number rows ≡ None
lacking number [] a = refl
lacking number (r ∷ rows) a = let e : (r.number == number) ≡ false = a.0 in rw e (lacking number rows a.1)

found-left : (number : ℕ) (xs ys : List Row) → Lacks number ys → found number (xs ++ ys) ≡ found number xs
found-left number [] ys a = lacking number ys a
found-left number (x ∷ xs) ys a =
    elim (x.number == number) as (λ b. cond b (Some x) (found number (xs ++ ys)) ≡ cond b (Some x) (found number xs)) [
      | true ↦ refl
      | false ↦ found-left number xs ys a
    ]

found-right : (number : ℕ) (xs ys : List Row) → Lacks number xs → found number (xs ++ ys) ≡ found number ys
found-right number [] ys a = refl
found-right number (x ∷ xs) ys a = let e : (x.number == number) ≡ false = a.0 in rw e (found-right number xs ys a.1)

-- the live rows of a segment that has no row of the number
pub none_live : (number : ℕ) (set : List Bool) (rows : List Row) → All (λ r. r.number ≢ number) rows → found number (selected set rows) ≡ None
none_live number set rows a =
    lacking number (selected set rows) (All-selected (λ r. (r.number == number) ≡ false) set rows (All-weaken (λ r. r.number ≢ number) (λ r. (r.number == number) ≡ false) (λ r h. other r.number number h) rows (recursion_from_All (λ r. r.number ≢ number) rows a)))

-- the row of the number, if it is marked
found_at : (number : ℕ) (set : List Bool) (rows : List Row) (i : ℕ) (d : Row) → EachPair (λ a b. a.number < b.number) rows → i < length rows → (get_or rows i d).number ≡ number
    → found number (selected set rows) ≡ cond (get_or set i false) (Some (get_or rows i d)) None
found_at number [] rows i d rises h e = refl
found_at number (b ∷ bs) [] i d rises h e = absurd (omega arith)
found_at number (true ∷ bs) (r ∷ rows) zero d rises h e = let t : (r.number == number) ≡ true = equal r.number number e in rw t refl
found_at number (false ∷ bs) (r ∷ rows) zero d rises h e =
    let later : AllByRecursion (λ s. number < s.number) rows = subst (λ n. AllByRecursion (λ s. n < s.number) rows) e rises.0 in
    lacking number (selected bs rows) (All-selected (λ s. (s.number == number) ≡ false) bs rows (above_lacks number rows later))
found_at number (true ∷ bs) (r ∷ rows) (suc i) d rises h e =
    let up : r.number < (get_or rows i d).number = at_index (λ s. r.number < s.number) rows i d (omega arith) rises.0 in
    let t : (r.number == number) ≡ false = other r.number number (λ q. omega (arith, up, e, q)) in
    rw t (found_at number bs rows i d rises.1 (omega arith) e)
  where
    at_index : (P : Row → Type 0) (xs : List Row) (k : ℕ) (x : Row) → k < length xs → AllByRecursion P xs → P (get_or xs k x)
    at_index P [] k x q a = absurd (omega arith)
    at_index P (y ∷ ys) zero x q a = a.0
    at_index P (y ∷ ys) (suc k) x q a = at_index P ys k x (omega arith) a.1
found_at number (false ∷ bs) (r ∷ rows) (suc i) d rises h e = found_at number bs rows i d rises.1 (omega arith) e

module _ (number : ℕ) (set : List Bool) (rows : List Row) (i : ℕ) (rises : NumbersRise rows) (h : i < length rows) (is : HoldsAt (λ r. r.number ≡ number) rows i) where
  pub dead : has_row set i ≡ false → found number (selected set rows) ≡ None
  dead e = elim rows as (λ rs. rs ≡ rows → found number (selected set rows) ≡ None) [
    | [] ↦ λ q. absurd (omega (arith, h, ap length (sym q)))
    | r ∷ rs ↦ λ q. found_at number set rows i r (each_pair (λ a b. a.number < b.number) rows rises) h (is r) ∙ ap (λ b. cond b (Some (get_or rows i r)) None) e
  ] refl

  pub live : has_row set i ≡ true → HoldsAt (λ r. found number (selected set rows) ≡ Some r) rows i
  live e d = found_at number set rows i d (each_pair (λ a b. a.number < b.number) rows rises) h (is d) ∙ ap (λ b. cond b (Some (get_or rows i d)) None) e

-- ---- the search over segments

pub first-at : (rows : List Row) (v : ℕ) → 0 < length rows → HoldsAt (λ r. r.number ≡ v) rows 0 → v ≡ first_in rows
first-at [] v h is = absurd (omega arith)
first-at (r ∷ rows) v h is = sym (is r)

abbrev pub Rise : List Row → Type 0
Rise rows = EachPair (λ a b. a.number < b.number) rows

-- what holds of all rows holds of the first row of a segment that has some
of_first : (P : ℕ → Type 0) (ls : List Leaf) (m : ℕ) (l : Leaf) → AllByRecursion (λ r. P r.number) (all_rows ls) → m < length ls → l ≡ get_or ls m l → 0 < length l.segment.rows → P (first_in l.segment.rows)
of_first P [] m l a h at some = absurd (omega arith)
of_first P (k ∷ ks) zero l a h at some = subst (λ j. P (first_in j.segment.rows)) (sym at) (head k.segment.rows (subst (λ j. 0 < length j.segment.rows) at some) a)
  where
    head : (rows : List Row) → 0 < length rows → AllByRecursion (λ r. P r.number) (rows ++ all_rows ks) → P (first_in rows)
    head [] q b = absurd (omega arith)
    head (r ∷ rs) q b = b.0
of_first P (k ∷ ks) (suc m) l a h at some = of_first P ks m l (All-right (λ r. P r.number) k.segment.rows (all_rows ks) a) (omega arith) at some

-- each row of the piece is below the first number
below_first : (number first : ℕ) (xs ys : List Row) → first ≤ number → Rise (xs ++ ys) → ((n : ℕ) → AllByRecursion (λ r. n < r.number) ys → n < first) → AllByRecursion (λ r. r.number < number) xs
below_first number first [] ys q a of = tt
below_first number first (x ∷ xs) ys q a of =
    let up : x.number < first = of x.number (All-right (λ r. x.number < r.number) xs ys a.0) in
    (omega (arith, up), below_first number first xs ys q a.1 of)

-- the segments before one whose first row is not above the number
pub segments_below : (number : ℕ) (ls : List Leaf) (m : ℕ) (l : Leaf) → Rise (all_rows ls) → m < length ls → l ≡ get_or ls m l → 0 < length l.segment.rows → first_in l.segment.rows ≤ number
    → AllByRecursion (λ r. r.number < number) (all_rows (take m ls))
segments_below number [] m l a h at some q = absurd (omega arith)
segments_below number (k ∷ ks) zero l a h at some q = tt
segments_below number (k ∷ ks) (suc m) l a h at some q =
    All-both (λ r. r.number < number) k.segment.rows (all_rows (take m ks))
    (below_first number (first_in l.segment.rows) k.segment.rows (all_rows ks) q a (λ n b. of_first (λ v. n < v) ks m l b (omega arith) at some))
    (segments_below number ks m l (Pairs-right (λ x y. x.number < y.number) k.segment.rows (all_rows ks) a) (omega arith) at some q)

-- the segments from one on whose first row is above the number
pub segments_above : (number : ℕ) (ls : List Leaf) (m : ℕ) (l : Leaf) → Rise (all_rows ls) → m < length ls → l ≡ get_or ls m l → 0 < length l.segment.rows → number < first_in l.segment.rows
    → AllByRecursion (λ r. number < r.number) (all_rows (drop m ls))
segments_above number [] m l a h at some q = absurd (omega arith)
segments_above number (k ∷ ks) zero l a h at some q =
    from_head k.segment.rows (subst (λ j. 0 < length j.segment.rows) at some) (subst (λ j. number < first_in j.segment.rows) at q) a
  where
    from_head : (rows : List Row) → 0 < length rows → number < first_in rows → Rise (rows ++ all_rows ks) → AllByRecursion (λ r. number < r.number) (rows ++ all_rows ks)
    from_head [] p u b = absurd (omega arith)
    from_head (r ∷ rs) p u b = (u, All-weaken (λ s. r.number < s.number) (λ s. number < s.number) (λ s v. omega (arith, u, v)) (rs ++ all_rows ks) b.0)
segments_above number (k ∷ ks) (suc m) l a h at some q = segments_above number ks m l (Pairs-right (λ x y. x.number < y.number) k.segment.rows (all_rows ks) a) (omega arith) at some q

-- no live row of the segments has a number that no row has
lacks_live : (number : ℕ) (ls : List Leaf) → Lacks number (all_rows ls) → Lacks number (flat_map live_rows ls)
lacks_live number ls a = All-pieces (λ l. l.live) (λ l. l.segment.rows) (λ r. (r.number == number) ≡ false) ls a

-- the row of the number can only be in this segment
pub found_in : (number : ℕ) (ls : List Leaf) (m : ℕ) (l : Leaf) → m < length ls → l ≡ get_or ls m l
    → AllByRecursion (λ r. r.number < number) (all_rows (take m ls)) → AllByRecursion (λ r. number < r.number) (all_rows (drop (suc m) ls))
    → found number (flat_map live_rows ls) ≡ found number (live_rows l)
found_in number [] m l h at below above = absurd (omega arith)
found_in number (k ∷ ks) zero l h at below above =
    found-left number (live_rows k) (flat_map live_rows ks) (lacks_live number ks (above_lacks number (all_rows ks) above)) ∙ ap (λ j. found number (live_rows j)) (sym at)
found_in number (k ∷ ks) (suc m) l h at below above =
    found-right number (live_rows k) (flat_map live_rows ks) (All-selected (λ r. (r.number == number) ≡ false) k.live k.segment.rows (below_lacks number k.segment.rows (All-left (λ r. r.number < number) k.segment.rows (all_rows (take m ks)) below)))
    ∙ found_in number ks m l (omega arith) at (All-right (λ r. r.number < number) k.segment.rows (all_rows (take m ks)) below) above

-- ---- the row that is found, in a segment that the code has by another name

module _ (number : ℕ) (all : List Row) (leaf : Leaf) (only : found number all ≡ found number (live_rows leaf)) (s : Segment) (is : s ≡ leaf.segment) where
  pub not_there : All (λ r. r.number ≢ number) s.rows → found number all ≡ None
  not_there a = only ∙ none_live number leaf.live leaf.segment.rows (subst (λ t. All (λ r. r.number ≢ number) t.rows) is a)

  module _ (rises : NumbersRise s.rows) (i : ℕ) (here : (i < length s.rows) × HoldsAt (λ r. r.number ≡ number) s.rows i) (set : List Bool) (same : set ≡ leaf.live) where
    up : NumbersRise leaf.segment.rows
    up = subst (λ t. NumbersRise t.rows) is rises

    at : (i < length leaf.segment.rows) × HoldsAt (λ r. r.number ≡ number) leaf.segment.rows i
    at = subst (λ t. (i < length t.rows) × HoldsAt (λ r. r.number ≡ number) t.rows i) is here

    pub is_dead : has_row set i ≡ false → found number all ≡ None
    is_dead e = only ∙ dead number leaf.live leaf.segment.rows i up at.0 at.1 (ap (λ t. has_row t i) (sym same) ∙ e)

    pub is_live : has_row set i ≡ true → (t : Segment) → t ≡ leaf.segment → (i < length t.rows) × HoldsAt (λ r. found number all ≡ Some r) t.rows i
    is_live e t q =
        subst (λ u. (i < length u.rows) × HoldsAt (λ r. found number all ≡ Some r) u.rows i) (sym q)
        (at.0, λ d. only ∙ live number leaf.live leaf.segment.rows i up at.0 at.1 (ap (λ u. has_row u i) (sym same) ∙ e) d)
