-- Where rows go in a merged segment, by their codes.
use Rattle.std.proofs.Common.{◌≡◌, ℕ, zero, suc, ◌+◌, ◌<◌, ◌≤◌, Bool, true, false, cond, List, [], ◌∷◌, ◌++◌, length, map, take, get_or, refl, sym, ap, ap₂, ◌∙◌, subst, arith}
use Rattle.std.specs.Prelude.{All, count_by, if◌then◌else◌}
use Rattle.std.specs.List.{flat_map}
use Rattle.std.proofs.lemmas.List.{take_more, length-map, get_or-map}
use Rattle.std.proofs.lemmas.List.Sums.{sum_by-cons, sum_by-take-le, count_by_more_yes, count_by_more_no}
use Rattle.std.proofs.lemmas.List.Elements.{All-take}
use Rattle.cat_model.specs.RowSets.{has_row}
use Rattle.cat_model.specs.View.{Leaf, live_rows, selected}
use Rattle.cat_columns.specs.Merged.{kept_of, AreNumbered}
use Rattle.cat_merge.specs.Maps.{codes_from, codes_of}
use Rattle.cat_merge.specs.Places.{no_leaf}
use Rattle.cat_merge.specs.Walk.{AreInputs}
use Rattle.cat_merge.proofs.Passed.{flat_more, front_long}
use Rattle.cat_merge.proofs.Settled.{length-live_rows}

abbrev pub count : List Bool → ℕ
count live = count_by (λ b. b) live

pub count-true : (bs : List Bool) → count (true ∷ bs) ≡ suc (count bs)
count-true bs = sum_by-cons (λ b. cond b 1 0) true bs ∙ omega arith

pub count-false : (bs : List Bool) → count (false ∷ bs) ≡ count bs
count-false bs = sum_by-cons (λ b. cond b 1 0) false bs ∙ omega arith

pub count-append : (a b : List Bool) → count (a ++ b) ≡ count a + count b
count-append [] b = omega arith
count-append (true ∷ a) b = omega (arith, count-true (a ++ b), count-true a, count-append a b)
count-append (false ∷ a) b = omega (arith, count-false (a ++ b), count-false a, count-append a b)

-- ---- the codes of one input

pub length-codes_from : (n : ℕ) (bs : List Bool) → length (codes_from n bs) ≡ length bs
length-codes_from n [] = refl
length-codes_from n (true ∷ bs) = ap suc (length-codes_from (n + 1) bs)
length-codes_from n (false ∷ bs) = ap suc (length-codes_from n bs)

-- the code of one row
abbrev pub code_at : ℕ → List Bool → Bool → ℕ
code_at n before b = (if b then suc (n + count before) else 0)

codes_push : (n : ℕ) (bs : List Bool) (b : Bool) → codes_from n (bs ++ b ∷ []) ≡ codes_from n bs ++ code_at n bs b ∷ []
codes_push n [] true = ap (λ k. suc k ∷ []) (let e : n ≡ n + 0 = omega arith in e)
codes_push n [] false = refl
codes_push n (true ∷ bs) b =
    ap (λ l. suc n ∷ l) (codes_push (n + 1) bs b
    ∙ ap (λ k. codes_from (n + 1) bs ++ (if b then suc k else 0) ∷ []) (let e : n + 1 + count bs ≡ n + count (true ∷ bs) = omega (arith, count-true bs) in e))
codes_push n (false ∷ bs) b =
    ap (λ l. 0 ∷ l) (codes_push n bs b ∙ ap (λ k. codes_from n bs ++ (if b then suc k else 0) ∷ []) (let e : n + count bs ≡ n + count (false ∷ bs) = omega (arith, count-false bs) in e))

pub codes_more : (n : ℕ) (live : List Bool) (row : ℕ) → row < length live → codes_from n (take (row + 1) live) ≡ codes_from n (take row live) ++ code_at n (take row live) (has_row live row) ∷ []
codes_more n live row within = ap (codes_from n) (take_more live row false within) ∙ codes_push n (take row live) (has_row live row)

-- with one row more
module _ (first next : ℕ) (live : List Bool) (row : ℕ) (within : row < length live) (at : next ≡ first + count (take row live)) where
  pub coded : (map more : List ℕ) (b : Bool) → has_row live row ≡ b → map ≡ codes_from first (take row live) → more ≡ map ++ (if b then next + 1 else 0) ∷ []
      → more ≡ codes_from first (take (row + 1) live)
  coded map more b is so_far e =
      e ∙ ap₂ (λ (l : List ℕ) (k : ℕ). l ++ (if b then k else 0) ∷ []) so_far (let f : next + 1 ≡ suc (first + count (take row live)) = omega (arith, at) in f)
      ∙ ap (λ c. codes_from first (take row live) ++ code_at first (take row live) c ∷ []) (sym is) ∙ sym (codes_more first live row within)

  pub counted : (b : Bool) → has_row live row ≡ b → (if b then next + 1 else next) ≡ first + count (take (row + 1) live)
  counted true is = omega (arith, at, count_by_more_yes (λ b. b) live row false within is)
  counted false is = omega (arith, at, count_by_more_no (λ b. b) live row false within is)

  -- and it is among all that are live
  pub fits : has_row live row ≡ true → next + 1 ≤ first + count live
  fits is = omega (arith, at, count_by_more_yes (λ b. b) live row false within is, sum_by-take-le (λ b. cond b 1 0) live (row + 1))

pub kept_of-codes_from : {A : Type 0} (n : ℕ) (bs : List Bool) (xs : List A) → kept_of (codes_from n bs) xs ≡ selected bs xs
kept_of-codes_from n [] xs = refl
kept_of-codes_from n (true ∷ bs) [] = refl
kept_of-codes_from n (false ∷ bs) [] = refl
kept_of-codes_from n (true ∷ bs) (x ∷ xs) = ap (λ l. x ∷ l) (kept_of-codes_from (n + 1) bs xs)
kept_of-codes_from n (false ∷ bs) (x ∷ xs) = kept_of-codes_from n bs xs

-- codes behind these are numbered behind them
numbered_behind : (n : ℕ) (bs : List Bool) (codes : List ℕ) → AreNumbered (n + count bs) codes → AreNumbered n (codes_from n bs ++ codes)
numbered_behind n [] codes are = subst (λ k. AreNumbered k codes) (omega arith) are
numbered_behind n (true ∷ bs) codes are =
    (refl, numbered_behind (n + 1) bs codes (subst (λ k. AreNumbered k codes) (let e : n + count (true ∷ bs) ≡ n + 1 + count bs = omega (arith, count-true bs) in e) are))
numbered_behind n (false ∷ bs) codes are = numbered_behind n bs codes (subst (λ k. AreNumbered k codes) (let e : n + count (false ∷ bs) ≡ n + count bs = omega (arith, count-false bs) in e) are)

-- ---- those of all inputs

pub length-codes_of : (n : ℕ) (inputs : List Leaf) → length (codes_of n inputs) ≡ length inputs
length-codes_of n [] = refl
length-codes_of n (x ∷ inputs) = ap suc (length-codes_of (n + count x.live) inputs)

pub codes_at : (n : ℕ) (inputs : List Leaf) (i : ℕ) (d : Leaf) → i < length inputs
    → get_or (codes_of n inputs) i [] ≡ codes_from (n + count (flat_map (λ leaf. leaf.live) (take i inputs))) (get_or inputs i d).live
codes_at n [] i d within = absurd (omega (arith, within))
codes_at n (x ∷ inputs) zero d within = ap (λ k. codes_from k x.live) (omega arith)
codes_at n (x ∷ inputs) (suc i) d within =
    codes_at (n + count x.live) inputs i d (omega (arith, within))
    ∙ ap (λ k. codes_from k (get_or inputs i d).live)
    (let e : n + count x.live + count (flat_map (λ (leaf : Leaf). leaf.live) (take i inputs)) ≡ n + count (x.live ++ flat_map (λ (leaf : Leaf). leaf.live) (take i inputs))
    = omega (arith, count-append x.live (flat_map (λ (leaf : Leaf). leaf.live) (take i inputs))) in e)

pub numbered_all : (n : ℕ) (inputs : List Leaf) → AreNumbered n (flat_map (λ c. c) (codes_of n inputs))
numbered_all n [] = tt
numbered_all n (x ∷ inputs) = numbered_behind n x.live (flat_map (λ c. c) (codes_of (n + count x.live) inputs)) (numbered_all (n + count x.live) inputs)

-- ---- with lists for each input

-- of each list what its codes keep
abbrev kept_each : {A : Type 0} → List (List ℕ) → List (List A) → List A
kept_each [] xss = []
kept_each (c ∷ codes) [] = []
kept_each (c ∷ codes) (xs ∷ xss) = kept_of c xs ++ kept_each codes xss

kept_parts : {P A : Type 0} (c : P → List ℕ) (t : P → List A) (parts : List P) → flat_map (λ p. kept_of (c p) (t p)) parts ≡ kept_each (map c parts) (map t parts)
kept_parts c t [] = refl
kept_parts c t (p ∷ parts) = ap (λ l. kept_of (c p) (t p) ++ l) (kept_parts c t parts)

kept_inputs : {A : Type 0} (f : Leaf → List A) (n : ℕ) (inputs : List Leaf) → kept_each (codes_of n inputs) (map f inputs) ≡ flat_map (λ leaf. selected leaf.live (f leaf)) inputs
kept_inputs f n [] = refl
kept_inputs f n (x ∷ inputs) = ap₂ (λ a b. a ++ b) (kept_of-codes_from n x.live (f x)) (kept_inputs f (n + count x.live) inputs)

-- what parts keep is what is selected of the inputs
pub parts_keep : {P A : Type 0} (c : P → List ℕ) (t : P → List A) (f : Leaf → List A) (parts : List P) (inputs : List Leaf) → map c parts ≡ codes_of 0 inputs → map t parts ≡ map f inputs
    → flat_map (λ p. kept_of (c p) (t p)) parts ≡ flat_map (λ leaf. selected leaf.live (f leaf)) inputs
parts_keep c t f parts inputs e g = kept_parts c t parts ∙ ap₂ kept_each e g ∙ kept_inputs f 0 inputs

flat_ids : {P : Type 0} (c : P → List ℕ) (parts : List P) → flat_map c parts ≡ flat_map (λ l. l) (map c parts)
flat_ids c [] = refl
flat_ids c (p ∷ parts) = ap (λ l. c p ++ l) (flat_ids c parts)

pub parts_numbered : {P : Type 0} (c : P → List ℕ) (parts : List P) (inputs : List Leaf) → map c parts ≡ codes_of 0 inputs → AreNumbered 0 (flat_map c parts)
parts_numbered c parts inputs e = subst (AreNumbered 0) (sym (flat_ids c parts ∙ ap (flat_map (λ l. l)) e)) (numbered_all 0 inputs)

-- ---- with the codes of one input more
pub maps_more : (inputs : List Leaf) (i first : ℕ) (x : Leaf) (live : List Bool) (maps : List (List ℕ)) (codes : List ℕ) → i < length inputs → x ≡ get_or inputs i x → live ≡ x.live
    → first ≡ count (flat_map (λ leaf. leaf.live) (take i inputs)) → maps ≡ take i (codes_of 0 inputs) → codes ≡ codes_from first live
    → maps ++ codes ∷ [] ≡ take (i + 1) (codes_of 0 inputs)
maps_more inputs i first x live maps codes within is there at so_far e =
    ap₂ (λ (l : List (List ℕ)) (c : List ℕ). l ++ c ∷ []) so_far
    (e ∙ ap₂ codes_from (at ∙ (let f : count (flat_map (λ (leaf : Leaf). leaf.live) (take i inputs)) ≡ 0 + count (flat_map (λ (leaf : Leaf). leaf.live) (take i inputs)) = omega arith in f)) (there ∙ ap (λ (l : Leaf). l.live) is)
    ∙ sym (codes_at 0 inputs i x within))
    ∙ sym (take_more (codes_of 0 inputs) i [] (omega (arith, within, length-codes_of 0 inputs)))

pub counts_more : (inputs : List Leaf) (i first : ℕ) (x : Leaf) (live : List Bool) → i < length inputs → x ≡ get_or inputs i x → live ≡ x.live
    → first ≡ count (flat_map (λ leaf. leaf.live) (take i inputs)) → first + count live ≡ count (flat_map (λ leaf. leaf.live) (take (i + 1) inputs))
counts_more inputs i first x live within is there at =
    ap₂ (λ (a b : ℕ). a + b) at (ap count (there ∙ ap (λ (l : Leaf). l.live) is))
    ∙ sym (count-append (flat_map (λ (leaf : Leaf). leaf.live) (take i inputs)) (get_or inputs i x).live)
    ∙ ap count (sym (flat_more (λ (leaf : Leaf). leaf.live) inputs i x within))

-- no more rows are counted than are live
pub counts_fit : (inputs : List Leaf) (i : ℕ) → AreInputs inputs → count (flat_map (λ leaf. leaf.live) (take i inputs)) ≤ length (flat_map live_rows inputs)
counts_fit inputs i are =
    omega (
      arith,
      front_long live_rows inputs i,
      length-live_rows (take i inputs) (All-take (λ leaf. length leaf.live ≡ length leaf.segment.rows) i inputs are.live),
    )

-- each part has as many codes as the list that they are of
pub parts_fit : {P A : Type 0} (c : P → List ℕ) (t : P → List A) (f : Leaf → List A) (parts : List P) (inputs : List Leaf) → map c parts ≡ codes_of 0 inputs → map t parts ≡ map f inputs
    → ((leaf : Leaf) → length (f leaf) ≡ length leaf.segment.rows) → AreInputs inputs → All (λ p. length (c p) ≡ length (t p)) parts
parts_fit c t f parts inputs e g long are k d lt =
    let within : k < length inputs = omega (arith, lt, length-map parts c, ap length e, length-codes_of 0 inputs) in
    ap length (sym (get_or-map c parts k d [] lt) ∙ ap (λ l. get_or l k []) e ∙ codes_at 0 inputs k no_leaf within)
    ∙ length-codes_from (0 + count (flat_map (λ (leaf : Leaf). leaf.live) (take k inputs))) (get_or inputs k no_leaf).live
    ∙ are.live k no_leaf within ∙ sym (long (get_or inputs k no_leaf))
    ∙ ap length (sym (get_or-map f inputs k no_leaf [] within) ∙ ap (λ l. get_or l k []) (sym g) ∙ get_or-map t parts k d [] lt)
