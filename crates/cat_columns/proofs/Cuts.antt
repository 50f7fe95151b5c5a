-- The rows whose pieces stand in one list are those that it was joined from.
use Rattle.std.proofs.Common.{◌≡◌, ℕ, zero, suc, ◌+◌, ◌-◌, ◌^◌, ◌<◌, ◌≤◌, List, [], ◌∷◌, ◌++◌, length, get_or, take, drop, map, refl, sym, ap, ◌∙◌, arith, subst}
use Rattle.std.proofs.lemmas.List.{get_or_default, take_more, length-append, length-map, append_assoc, append-nil, map-append, take-map, drop-map}
use Rattle.cat_base.proofs.TextSets.{has-sorted_set, has-Decides}
use Rattle.cat_columns.proofs.Members.{gathered_all}
use Rattle.std.proofs.lemmas.List.Elements.{All-take}
use Rattle.std.proofs.lemmas.Grind.{flat_map-append}
use Rattle.std.proofs.Math.Seq.{drop-append_seam}
use Rattle.std.specs.Prelude.{Contains, All}
use Rattle.std.specs.Borrow.{Bor}
use Rattle.std.specs.List.{flat_map, list_any}
use Rattle.cat_base.specs.Texts.{sorted_set, IsTextSet}
use Rattle.cat_model.specs.Text.{Text, same_text}
use Rattle.cat_model.specs.Layout.{pieces, AreEnds}
use Rattle.cat_model.specs.Ordinals.{text_at, dictionary_of}
use Rattle.cat_columns.specs.Columns.{row_ends_from, IsSets}

abbrev pub joined_rows : List (List Text) → List Text
joined_rows rows = flat_map (λ texts. texts) rows

take_length : (r xs : List Text) → take (length r) (r ++ xs) ≡ r
take_length [] xs = refl
take_length (p ∷ r) xs = ap (λ l. p ∷ l) (take_length r xs)

less : (a b : ℕ) → (a + b) - a ≡ b
less a b = omega arith

pieces_from : (n : ℕ) (rs : List (List Text)) (pre : List Text) → length pre ≡ n → pieces n (row_ends_from n rs) (pre ++ joined_rows rs) ≡ rs
pieces_from n [] pre e = refl
pieces_from n (r ∷ rs) pre e =
    ap (λ k. take k (drop n (pre ++ (r ++ joined_rows rs))) ∷ pieces (n + length r) (row_ends_from (n + length r) rs) (pre ++ (r ++ joined_rows rs))) (less n (length r))
    ∙ ap (λ k. take (length r) (drop k (pre ++ (r ++ joined_rows rs))) ∷ pieces (n + length r) (row_ends_from (n + length r) rs) (pre ++ (r ++ joined_rows rs))) (sym e)
    ∙ ap (λ l. take (length r) l ∷ pieces (n + length r) (row_ends_from (n + length r) rs) (pre ++ (r ++ joined_rows rs))) (drop-append_seam pre (r ++ joined_rows rs))
    ∙ ap (λ l. l ∷ pieces (n + length r) (row_ends_from (n + length r) rs) (pre ++ (r ++ joined_rows rs))) (take_length r (joined_rows rs))
    ∙ ap (λ l. r ∷ pieces (n + length r) (row_ends_from (n + length r) rs) l) (sym (append_assoc pre r (joined_rows rs)))
    ∙ ap (λ l. r ∷ l) (pieces_from (n + length r) rs (pre ++ r) (length-append pre r ∙ ap (λ k. k + length r) e))

pub pieces_joined : (rs : List (List Text)) → pieces 0 (row_ends_from 0 rs) (joined_rows rs) ≡ rs
pieces_joined rs = pieces_from 0 rs [] refl

joined_push : (rs : List (List Text)) (r : List Text) → joined_rows (rs ++ r ∷ []) ≡ joined_rows rs ++ r
joined_push rs r = flat_map-append (λ texts. texts) rs (r ∷ []) ∙ ap (λ l. joined_rows rs ++ l) (append-nil r)

ends_push : (n : ℕ) (rs : List (List Text)) (r : List Text) → row_ends_from n (rs ++ r ∷ []) ≡ row_ends_from n rs ++ (n + length (joined_rows rs) + length r) ∷ []
ends_push n [] r = ap (λ k. (k + length r) ∷ []) (let e : n ≡ n + 0 = omega arith in e)
ends_push n (q ∷ rs) r =
    ap (λ l. (n + length q) ∷ l) (ends_push (n + length q) rs r)
    ∙ ap (λ k. (n + length q) ∷ (row_ends_from (n + length q) rs ++ k ∷ [])) (let both : length (q ++ joined_rows rs) ≡ length q + length (joined_rows rs) = length-append q (joined_rows rs) in omega (arith, both))

-- the rows behind references
pub joined_now : (rows : List (Bor (List Text))) → flat_map (λ row. row.now) rows ≡ joined_rows (map (λ row. row.now) rows)
joined_now [] = refl
joined_now (r ∷ rows) = ap (λ l. r.now ++ l) (joined_now rows)

-- one row more
pub ends_more : (rows : List (Bor (List Text))) (i n : ℕ) (d : Bor (List Text)) (ends ends' : List ℕ) → i < length rows
    → ends ≡ row_ends_from 0 (map (λ row. row.now) (take i rows)) → n ≡ length (flat_map (λ row. row.now) (take (i + 1) rows)) → ends' ≡ ends ++ n ∷ []
    → ends' ≡ row_ends_from 0 (map (λ row. row.now) (take (i + 1) rows))
ends_more rows i n d ends ends' lt before long push =
    let rs : List (List Text) = map (λ row. row.now) (take i rows) in
    let r : List Text = (get_or rows i d).now in
    let more : map (λ row. row.now) (take (i + 1) rows) ≡ rs ++ r ∷ [] = ap (map (λ row. row.now)) (take_more rows i d lt) ∙ map-append (λ row. row.now) (take i rows) (get_or rows i d ∷ []) in
    let all : n ≡ 0 + length (joined_rows rs) + length r =
    let e : n ≡ length (joined_rows rs) + length r = long ∙ ap length (joined_now (take (i + 1) rows) ∙ ap joined_rows more ∙ joined_push rs r) ∙ length-append (joined_rows rs) r in omega (arith, e) in
    push ∙ ap (λ l. l ++ n ∷ []) before ∙ ap (λ k. row_ends_from 0 rs ++ k ∷ []) all ∙ sym (ap (row_ends_from 0) more ∙ ends_push 0 rs r)

pub flat_more : (rows : List (Bor (List Text))) (i : ℕ) (d : Bor (List Text)) → i < length rows
    → flat_map (λ row. row.now) (take (i + 1) rows) ≡ flat_map (λ row. row.now) (take i rows) ++ (get_or rows i d).now
flat_more rows i d lt =
    ap (flat_map (λ row. row.now)) (take_more rows i d lt) ∙ flat_map-append (λ row. row.now) (take i rows) (get_or rows i d ∷ [])
    ∙ ap (λ l. flat_map (λ row. row.now) (take i rows) ++ l) (append-nil (get_or rows i d).now)

-- the ends of rows in a list that has them all
ends_are : (n : ℕ) (rs : List (List Text)) → AreEnds n (row_ends_from n rs) (n + length (joined_rows rs))
ends_are n [] = omega arith
ends_are n (r ∷ rs) = (omega arith, subst (λ k. AreEnds (n + length r) (row_ends_from (n + length r) rs) k) (let e : n + length r + length (joined_rows rs) ≡ n + length (r ++ joined_rows rs) = omega (arith, length-append r (joined_rows rs)) in e) (ends_are (n + length r) rs))

pub AreEnds-ends_from : (rs : List (List Text)) (total : ℕ) → total ≡ length (joined_rows rs) → AreEnds 0 (row_ends_from 0 rs) total
AreEnds-ends_from rs total e = subst (λ k. AreEnds 0 (row_ends_from 0 rs) k) (let f : 0 + length (joined_rows rs) ≡ total = omega (arith, e) in f) (ends_are 0 rs)

pub length-ends_from : (n : ℕ) (rs : List (List Text)) → length (row_ends_from n rs) ≡ length rs
length-ends_from n [] = refl
length-ends_from n (r ∷ rs) = ap suc (length-ends_from (n + length r) rs)

pub length-pieces : {A : Type 0} (n : ℕ) (ends : List ℕ) (texts : List A) → length (pieces n ends texts) ≡ length ends
length-pieces n [] texts = refl
length-pieces n (e ∷ es) texts = ap suc (length-pieces e es texts)

-- the part of a row
pub get_or-pieces : {A : Type 0} (n : ℕ) (ends : List ℕ) (texts : List A) (row : ℕ) → row < length ends
    → get_or (pieces n ends texts) row [] ≡ take (get_or ends row 0 - get_or (n ∷ ends) row 0) (drop (get_or (n ∷ ends) row 0) texts)
get_or-pieces n [] texts row lt = absurd (omega arith)
get_or-pieces n (e ∷ es) texts zero lt = refl
get_or-pieces n (e ∷ es) texts (suc row) lt = get_or-pieces e es texts row (omega arith)

-- a row's part lies within
ends_reach : (n : ℕ) (ends : List ℕ) (total : ℕ) → AreEnds n ends total → n ≤ total
ends_reach n [] total is = omega (arith, is)
ends_reach n (e ∷ es) total is = omega (arith, is.0, ends_reach e es total is.1)

pub part_within : (n : ℕ) (ends : List ℕ) (total row : ℕ) → AreEnds n ends total → row < length ends
    → (get_or (n ∷ ends) row 0 ≤ get_or ends row 0) × (get_or ends row 0 ≤ total)
part_within n [] total row is lt = absurd (omega arith)
part_within n (e ∷ es) total zero is lt = (is.0, ends_reach e es total is.1)
part_within n (e ∷ es) total (suc row) is lt = part_within e es total row is.1 (omega arith)

-- each label of each row is in the list of all
contains_left : (q : Text) (xs ys : List Text) → Contains xs q → Contains (xs ++ ys) q
contains_left q [] ys h = absurd (let lt = h.1 in omega arith)
contains_left q (x ∷ xs) ys (zero, lt, e) = (0, omega arith, e)
contains_left q (x ∷ xs) ys (suc k, lt, e) = let h = contains_left q xs ys (k, omega arith, e) in (suc h.0, (let l = h.1 in omega arith), h.2)

contains_right : (q : Text) (xs ys : List Text) → Contains ys q → Contains (xs ++ ys) q
contains_right q [] ys h = h
contains_right q (x ∷ xs) ys h = let g = contains_right q xs ys h in (suc g.0, (let l = g.1 in omega arith), g.2)

itself : (xs : List Text) → All (Contains xs) xs
itself [] k d lt = absurd (omega arith)
itself (x ∷ xs) zero d lt = (0, omega arith, refl)
itself (x ∷ xs) (suc k) d lt = let g = itself xs k d (omega arith) in (suc g.0, (let l = g.1 in omega arith), g.2)

each_joined : (rows : List (Bor (List Text))) → All (λ row. All (Contains (flat_map (λ r. r.now) rows)) row.now) rows
each_joined [] k d lt = absurd (omega arith)
each_joined (r ∷ rows) zero d lt = λ j e l. contains_left (get_or r.now j e) r.now (flat_map (λ r. r.now) rows) (itself r.now j e l)
each_joined (r ∷ rows) (suc k) d lt = λ j e l. contains_right (get_or (get_or rows k d).now j e) r.now (flat_map (λ r. r.now) rows) (each_joined rows k d (omega arith) j e l)

sorted_has : (xs : List Text) (q : Text) → Contains xs q → Contains (sorted_set xs) q
sorted_has xs q h = (has-Decides q (sorted_set xs)).0 (has-sorted_set q xs ∙ (has-Decides q xs).1 h)

rows_sets : (rows : List (Bor (List Text))) → All (λ row. IsTextSet row.now) rows → All IsTextSet (map (λ row. row.now) rows)
rows_sets [] all k d lt = absurd (omega arith)
rows_sets (r ∷ rows) all zero d lt = all 0 r (omega arith)
rows_sets (r ∷ rows) all (suc k) d lt = rows_sets rows (λ j e l. all (suc j) e (omega arith)) k d (omega arith)

-- the dictionary of the labels that were gathered is that of the rows
module _ (rows : List (Bor (List Text))) (ks : List (Bor Text)) (ds : List Text) (of : ds ≡ sorted_set (map (λ k. k.now) ks))
    (gathered : (q : Text) → list_any (λ k. same_text q k.now) ks ≡ list_any (same_text q) (flat_map (λ row. row.now) rows)) where
  gathered_dictionary : ds ≡ sorted_set (flat_map (λ row. row.now) rows)
  gathered_dictionary = of ∙ gathered_all ks (flat_map (λ row. row.now) rows) gathered

  pub sets_there : All (λ row. All (Contains ds) row.now) rows
  sets_there k d lt j e l =
      let q : Text = get_or (get_or rows k d).now j e in
      subst (λ (xs : List Text). Contains xs q) (sym gathered_dictionary) (sorted_has (flat_map (λ row. row.now) rows) q (each_joined rows k d lt j e l))

  module _ (ends ordinals : List ℕ) (ends_is : ends ≡ row_ends_from 0 (map (λ row. row.now) rows)) (texts_are : map (text_at ds) ordinals ≡ flat_map (λ row. row.now) rows) where
    pub laid_rows : pieces 0 ends (map (text_at ds) ordinals) ≡ map (λ row. row.now) rows
    laid_rows =
        ap (λ es. pieces 0 es (map (text_at ds) ordinals)) ends_is ∙ ap (pieces 0 (row_ends_from 0 (map (λ row. row.now) rows))) (texts_are ∙ joined_now rows)
        ∙ pieces_joined (map (λ row. row.now) rows)

    pub IsSets-of : length rows < 2 ^ 32 → All (λ row. IsTextSet row.now) rows → All (λ o. o < length ds) ordinals → IsSets ds ends ordinals
    IsSets-of few sets bound = record {
      few = omega (arith, ap length ends_is, length-ends_from 0 (map (λ row. row.now) rows), length-map rows (λ (r : Bor (List Text)). r.now));
      parts = subst (λ es. AreEnds 0 es (length ordinals)) (sym ends_is)
          (AreEnds-ends_from (map (λ row. row.now) rows) (length ordinals) (sym (length-map ordinals (text_at ds)) ∙ ap length (texts_are ∙ joined_now rows)));
      within = bound;
      whole = gathered_dictionary ∙ ap sorted_set (joined_now rows) ∙ sym (ap dictionary_of laid_rows);
      sets = subst (λ l. All IsTextSet l) (sym laid_rows) (rows_sets rows sets);
    }

-- the ordinals of a row
module _ (ds : List Text) (ends ordinals : List ℕ) (v : List (List Text)) (is : IsSets ds ends ordinals) (view : pieces 0 ends (map (text_at ds) ordinals) ≡ v) where
  pub rows_ends : length v ≡ length ends
  rows_ends = sym (ap length view) ∙ length-pieces 0 ends (map (text_at ds) ordinals)

  pub row_within : (row : ℕ) → row < length v → (get_or (0 ∷ ends) row 0 ≤ get_or ends row 0) × (get_or ends row 0 ≤ length ordinals)
  row_within row lt = part_within 0 ends (length ordinals) row is.parts (omega (arith, rows_ends))

  pub row_texts : (row : ℕ) (ends' ordinals' : List ℕ) (start end : ℕ) → row < length v → ends' ≡ ends → ordinals' ≡ ordinals → start ≡ get_or (0 ∷ ends') row 0
      → end ≡ get_or ends row end → map (text_at (dictionary_of v)) (take (end - start) (drop start ordinals')) ≡ get_or v row []
  row_texts row ends' ordinals' start end lt ends_are ordinals_are s at_end =
      let at : start ≡ get_or (0 ∷ ends) row 0 = s ∙ ap (λ l. get_or (0 ∷ l) row 0) ends_are in
      let to : end ≡ get_or ends row 0 = at_end ∙ get_or_default ends row end 0 (omega (arith, rows_ends)) in
      ap (λ (xs : List Text). map (text_at xs) (take (end - start) (drop start ordinals'))) (sym (is.whole ∙ ap dictionary_of view))
      ∙ ap (λ l. map (text_at ds) (take (end - start) (drop start l))) ordinals_are
      ∙ sym (take-map (text_at ds) (end - start) (drop start ordinals)) ∙ ap (take (end - start)) (sym (drop-map (text_at ds) start ordinals))
      ∙ ap (λ k. take (k - start) (drop start (map (text_at ds) ordinals))) to ∙ ap (λ k. take (get_or ends row 0 - k) (drop k (map (text_at ds) ordinals))) at
      ∙ sym (get_or-pieces 0 ends (map (text_at ds) ordinals) row (omega (arith, rows_ends))) ∙ ap (λ (l : List (List Text)). get_or l row []) view

  drop_all_of : (P : ℕ → Type 0) (n : ℕ) (xs : List ℕ) → All P xs → All P (drop n xs)
  drop_all_of P zero xs all = all
  drop_all_of P (suc n) [] all = all
  drop_all_of P (suc n) (x ∷ xs) all = drop_all_of P n xs (λ k d lt. all (suc k) d (omega arith))

  pub row_bound : (ordinals' : List ℕ) (start end : ℕ) → ordinals' ≡ ordinals → All (λ o. o < length (dictionary_of v)) (take (end - start) (drop start ordinals'))
  row_bound ordinals' start end o =
      subst (λ l. All (λ o. o < length (dictionary_of v)) (take (end - start) (drop start l))) (sym o) (subst (λ (xs : List Text). All (λ o. o < length xs) (take (end - start) (drop start ordinals))) (is.whole ∙ ap dictionary_of view)
      (All-take (λ o. o < length ds) (end - start) (drop start ordinals) (drop_all_of (λ o. o < length ds) start ordinals is.within)))

  pub row_start : (row : ℕ) (ends' ordinals' : List ℕ) (start : ℕ) → row < length v → ends' ≡ ends → ordinals' ≡ ordinals → start ≡ get_or (0 ∷ ends') row 0 → start ≤ length ordinals'
  row_start row ends' ordinals' start lt e o s =
      let w = row_within row lt in let low = w.0 in let high = w.1 in
      let at : start ≡ get_or (0 ∷ ends) row 0 = s ∙ ap (λ l. get_or (0 ∷ l) row 0) e in omega (arith, low, high, ap length o)

  pub row_end : (row : ℕ) (ends' ordinals' : List ℕ) (start end : ℕ) → row < length v → ends' ≡ ends → ordinals' ≡ ordinals → start ≡ get_or (0 ∷ ends') row 0
      → end ≡ get_or ends row end → (start ≤ end) × (end ≤ length ordinals')
  row_end row ends' ordinals' start end lt e o s at_end =
      let w = row_within row lt in let low = w.0 in let high = w.1 in
      let at : start ≡ get_or (0 ∷ ends) row 0 = s ∙ ap (λ l. get_or (0 ∷ l) row 0) e in
      let to : end ≡ get_or ends row 0 = at_end ∙ get_or_default ends row end 0 (omega (arith, rows_ends)) in
      (omega (arith, low), omega (arith, high, ap length o))
