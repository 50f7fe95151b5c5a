-- Live rows with where they stand, and what a look-up by id finds.
use Rattle.std.proofs.Common.{◌≡◌, ◌≢◌, ℕ, zero, suc, ◌+◌, ◌<◌, List, [], ◌∷◌, ◌++◌, length, map, get_or, HoldsAt, Bool, true, false, Some, None, is_some, inl, inr, refl, sym, ap, ap₂, ◌∙◌, subst, arith, AllPairs}
use Rattle.std.specs.List.{AllByRecursion, flat_map, list_any}
use Rattle.std.specs.Option.{option_or}
use Rattle.std.proofs.lemmas.Bool.{cases_Bool}
use Rattle.std.proofs.lemmas.Simd.{map-map}
use Rattle.std.proofs.lemmas.List.{map-append}
use Rattle.std.proofs.lemmas.Slice.Eq.{bytes_eq-Decides}
use Rattle.cat_model.specs.Text.{Text, same_text}
use Rattle.cat_model.specs.View.{Row, Leaf, live_rows, selected}
use Rattle.cat_model.proofs.Places.{EachPair, each_pair}
use Rattle.cat_model.specs.RowSets.{indices}
use Rattle.cat_views.proofs.Selected.{selected-map, at_indices, indices-within, All-right}
use Rattle.cat_live_table.specs.declared.current.places.Place.{Place}
use Rattle.cat_live_table.specs.current.Places.{PlacedRow, PlacedId, placed_id_of, standing_from, standing_in, standing, place_in}

-- ---- texts

pub is_same : (a b : Text) → same_text a b ≡ true → a ≡ b
is_same a b t = (bytes_eq-Decides a b).0 t

pub differ_text : (a b : Text) → (a ≡ b → ⊥) → same_text a b ≡ false
differ_text a b apart = elim (cases_Bool (same_text a b)) [
  | inl t ↦ absurd (apart (is_same a b t))
  | inr f ↦ f
]

pub same_sym : (a b : Text) → same_text a b ≡ same_text b a
same_sym a b = elim (cases_Bool (same_text a b)) [
  | inl t ↦ t ∙ sym ((bytes_eq-Decides b a).1 (sym (is_same a b t)))
  | inr f ↦ f ∙ sym (differ_text b a (λ e. let t : same_text a b ≡ true = (bytes_eq-Decides a b).1 (sym e) in let no : true ≡ false = sym t ∙ f in cc))
]

-- ---- lists

pub All-from_map : {X Y : Type 0} (f : X → Y) (P : Y → Type 0) (xs : List X) → AllByRecursion P (map f xs) → AllByRecursion (λ x. P (f x)) xs
All-from_map f P [] a = tt
All-from_map f P (x ∷ xs) a = (a.0, All-from_map f P xs a.1)

pub All-to_map : {X Y : Type 0} (f : X → Y) (P : Y → Type 0) (xs : List X) → AllByRecursion (λ x. P (f x)) xs → AllByRecursion P (map f xs)
All-to_map f P [] a = tt
All-to_map f P (x ∷ xs) a = (a.0, All-to_map f P xs a.1)

pub Pairs-from_map : {X Y : Type 0} (f : X → Y) (R : Y → Y → Type 0) (xs : List X) → EachPair R (map f xs) → EachPair (λ a b. R (f a) (f b)) xs
Pairs-from_map f R [] a = tt
Pairs-from_map f R (x ∷ xs) a = (All-from_map f (R (f x)) xs a.0, Pairs-from_map f R xs a.1)

pub Pairs-to_map : {X Y : Type 0} (f : X → Y) (R : Y → Y → Type 0) (xs : List X) → EachPair (λ a b. R (f a) (f b)) xs → EachPair R (map f xs)
Pairs-to_map f R [] a = tt
Pairs-to_map f R (x ∷ xs) a = (All-to_map f (R (f x)) xs a.0, Pairs-to_map f R xs a.1)

-- ---- the rows

abbrev pub the_row : PlacedRow → Row
the_row s = s.row

abbrev pub the_rows : List PlacedRow → List Row
the_rows ss = map the_row ss

abbrev pub has : Text → PlacedRow → Bool
has id s = same_text id s.row.id

rows_from : (n i : ℕ) (rows : List Row) → the_rows (standing_from n i rows) ≡ rows
rows_from n i [] = refl
rows_from n i (r ∷ rs) = ap (λ l. r ∷ l) (rows_from n (suc i) rs)

pub rows_in : (leaf : Leaf) → the_rows (standing_in leaf) ≡ live_rows leaf
rows_in leaf =
    sym (selected-map the_row leaf.live (standing_from leaf.segment.number 0 leaf.segment.rows))
    ∙ ap (selected leaf.live) (rows_from leaf.segment.number 0 leaf.segment.rows)

pub rows_standing : (leaves : List Leaf) → the_rows (standing leaves) ≡ flat_map live_rows leaves
rows_standing [] = refl
rows_standing (l ∷ ls) = map-append the_row (standing_in l) (standing ls) ∙ ap₂ (λ (a b : List Row). a ++ b) (rows_in l) (rows_standing ls)

abbrev pub IdsDiffer : List PlacedRow → Type 0
IdsDiffer ss = EachPair (λ a b. a.row.id ≢ b.row.id) ss

pub ids_differ : (leaves : List Leaf) → AllPairs (λ a b. a.id ≢ b.id) (flat_map live_rows leaves) → IdsDiffer (standing leaves)
ids_differ leaves a =
    Pairs-from_map the_row (λ r s. r.id ≢ s.id) (standing leaves) (subst (EachPair (λ r s. r.id ≢ s.id)) (sym (rows_standing leaves)) (each_pair (λ r s. r.id ≢ s.id) (flat_map live_rows leaves) a))

-- ---- what is found

pub place_there : (ss : List PlacedRow) (id : Text) → is_some (place_in ss id) ≡ list_any (λ r. same_text id r.id) (the_rows ss)
place_there [] id = refl
place_there (s ∷ ss) id = elim (cases_Bool (same_text id s.row.id)) [
  | inl t ↦ rw t refl
  | inr f ↦ rw f (place_there ss id)
]

-- none of these rows has the id
pub absent : (ss : List PlacedRow) (id : Text) → AllByRecursion (λ s. s.row.id ≢ id) ss → place_in ss id ≡ None
absent [] id a = refl
absent (s ∷ ss) id a = rw (differ_text id s.row.id (λ e. a.0 (sym e))) (absent ss id a.1)

pub missing : (ss : List PlacedRow) (id : Text) → place_in ss id ≡ None → AllByRecursion (λ s. same_text id s.row.id ≡ false) ss
missing [] id e = tt
missing (s ∷ ss) id e = elim (cases_Bool (same_text id s.row.id)) [
  | inl t ↦ let no : Some s.place ≡ None = rw t at e in cc
  | inr f ↦ (f, missing ss id (rw f at e))
]

-- the first of the two lists is asked first
pub place-append : (ss ts : List PlacedRow) (id : Text) → place_in (ss ++ ts) id ≡ option_or (place_in ss id) (place_in ts id)
place-append [] ts id = refl
place-append (s ∷ ss) ts id = elim (cases_Bool (same_text id s.row.id)) [
  | inl t ↦ rw t refl
  | inr f ↦ rw f (place-append ss ts id)
]

-- ---- the rows of a set

-- no row
abbrev pub nowhere : PlacedRow
nowhere = record { row = record { number = 0; id = []; fields = []; length = 0 }; place = record { segment = 0; row = 0 } }

abbrev pub no_row : Row
no_row = record { number = 0; id = []; fields = []; length = 0 }

abbrev pub row_at : List Row → ℕ → Row
row_at rows r = get_or rows r no_row

-- the id of the row of the leaf with where it stands
abbrev pub key_at : Leaf → ℕ → PlacedId
key_at leaf r = placed_id_of (get_or (standing_from leaf.segment.number 0 leaf.segment.rows) r nowhere)

length-standing : (n i : ℕ) (rows : List Row) → length (standing_from n i rows) ≡ length rows
length-standing n i [] = refl
length-standing n i (r ∷ rs) = ap suc (length-standing n (suc i) rs)

pub keys_at : (leaf : Leaf) → length leaf.live ≡ length leaf.segment.rows → map (key_at leaf) (indices leaf.live) ≡ map placed_id_of (standing_in leaf)
keys_at leaf e =
    let all = standing_from leaf.segment.number 0 leaf.segment.rows in
    let long : length leaf.live ≡ length all = e ∙ sym (length-standing leaf.segment.number 0 leaf.segment.rows) in
    sym (map-map placed_id_of (λ r. get_or all r nowhere) (indices leaf.live)) ∙ ap (map placed_id_of) (at_indices leaf.live all nowhere long)

standing_at : (n i : ℕ) (rows : List Row) (r : ℕ) (d : Row) (e : PlacedRow) → r < length rows → get_or (standing_from n i rows) r e ≡ record { row = get_or rows r d; place = record { segment = n; row = i + r } }
standing_at n i [] r d e h = absurd (omega arith)
standing_at n i (x ∷ rows) zero d e h =
    let same : i ≡ i + 0 = omega arith in
    ap (λ k. record { row = x; place = record { segment = n; row = k } }) same
standing_at n i (x ∷ rows) (suc r) d e h =
    let same : suc i + r ≡ i + suc r = omega arith in
    standing_at n (suc i) rows r d e (omega arith) ∙ ap (λ k. record { row = get_or rows r d; place = record { segment = n; row = k } }) same

pub key_at_is : (leaf : Leaf) (r : ℕ) (k : PlacedId) → r < length leaf.segment.rows
    → HoldsAt (λ x. k ≡ record { id = x.id; place = record { segment = leaf.segment.number; row = r } }) leaf.segment.rows r → k ≡ key_at leaf r
key_at_is leaf r k h is =
    let d : Row = record { number = 0; id = []; fields = []; length = 0 } in
    let same : 0 + r ≡ r = omega arith in
    is d ∙ sym (ap placed_id_of (standing_at leaf.segment.number 0 leaf.segment.rows r d nowhere h)
    ∙ ap (λ q. placed_id_of (record { row = get_or leaf.segment.rows r d; place = record { segment = leaf.segment.number; row = q } })) same)

-- the same of the parts of a key
pub key_is : (leaf : Leaf) (r : ℕ) (id : Text) (place : Place) → r < length leaf.segment.rows → HoldsAt (λ x. x.id ≡ id) leaf.segment.rows r
    → place ≡ record { segment = leaf.segment.number; row = r } → key_at leaf r ≡ record { id = id; place = place }
key_is leaf r id place h is at =
    let k : PlacedId = record { id = id; place = place } in
    sym (key_at_is leaf r k h (λ d. ap₂ (λ (t : Text) (p : Place). let key : PlacedId = record { id = t; place = p } in key) (sym (is d)) at))

pub row_within : (set : List Bool) (before after : List ℕ) (row : ℕ) → before ++ row ∷ after ≡ indices set → row < length set
row_within set before after row e =
    let all : AllByRecursion (λ i. i < length set) (before ++ row ∷ after) = subst (AllByRecursion (λ i. i < length set)) (sym e) (indices-within set) in
    (All-right (λ i. i < length set) before (row ∷ after) all).0

-- each that comes before an element differs from it so
pub earlier : {X : Type 0} (R : X → X → Type 0) (xs : List X) (y : X) (ys : List X) → EachPair R (xs ++ y ∷ ys) → AllByRecursion (λ x. R x y) xs
earlier R [] y ys d = tt
earlier R (x ∷ xs) y ys d = ((All-right (R x) xs (y ∷ ys) d.0).0, earlier R xs y ys d.1)
