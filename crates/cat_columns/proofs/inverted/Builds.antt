-- Terms that were built of rows have these rows.
use Rattle.std.proofs.Common.{◌≡◌, ℕ, zero, suc, ◌+◌, ◌^◌, ◌<◌, List, [], ◌∷◌, length, get_or, map, Bool, true, false, cond, ◌&&◌, refl, sym, ap, ◌∙◌, arith, nat_cmp, subst}
use Rattle.std.proofs.lemmas.Bool.{true≢false}
use Rattle.std.proofs.lemmas.List.{length-map, get_or-map, get_or_default}
use Rattle.std.proofs.lemmas.List.Folds.{Any-from_list_any, list_any_at}
use Rattle.std.proofs.lemmas.List.FromFn.{fill_by_all}
use Rattle.std.proofs.lemmas.List.Kept.{IsStrictlySortedBy-filter}
use Rattle.std.proofs.lemmas.Map.Views.{any-filter_same}
use Rattle.std.proofs.lemmas.Slice.Eq.{bytes_eq-Decides}
use Rattle.std.specs.Borrow.{Bor}
use Rattle.std.specs.Cmp.Lexicographic.{slice_cmp}
use Rattle.std.specs.List.{list_any, filter, zip}
use Rattle.std.specs.Prelude.{All}
use Rattle.cat_base.specs.Texts.{IsTextSet}
use Rattle.cat_base.proofs.TextSets.{has, same_set}
use Rattle.cat_model.specs.Text.{Text, same_text}
use Rattle.cat_model.specs.RowSets.{has_row}
use Rattle.cat_model.specs.Ordinals.{postings_of, rows_having}
use Rattle.cat_model.specs.Layout.{pieces, AreEnds}
use Rattle.cat_columns.specs.inverted.Postings.{is_among, IsPostings, IsPart, words_at, words_of_rows, IsTerms}
use Rattle.cat_columns.specs.inverted.Gathered.{ends_from}
use Rattle.cat_columns.proofs.inverted.Parts.{joined, pieces_joined, length-ends_from, ends_are}
use Rattle.cat_columns.proofs.inverted.Rows.{same_has, among_kept, kept_are_postings}

-- what holds of each slice holds of each list
pub each_set : (rows : List (Bor (List Text))) → All (λ r. IsTextSet r.now) rows → All IsTextSet (map (λ r. r.now) rows)
each_set [] h k d lt = absurd (omega arith)
each_set (r ∷ rows) h zero d lt = h 0 r (omega arith)
each_set (r ∷ rows) h (suc k) d lt = each_set rows (λ j e l. h (suc j) e (omega arith)) k d (omega arith)

pub zip_kept : (f : Text → List ℕ) (test : List ℕ → Bool) (words : List Text) → map (λ e. e.0) (filter (λ e. test e.1) (zip words (map f words))) ≡ filter (λ w. test (f w)) words
zip_kept f test [] = refl
zip_kept f test (w ∷ words) =
    elim (test (f w)) as (λ b. map (λ e. e.0) (cond b ((w, f w) ∷ filter (λ e. test e.1) (zip words (map f words))) (filter (λ e. test e.1) (zip words (map f words)))) ≡ cond b (w ∷ filter (λ v. test (f v)) words) (filter (λ v. test (f v)) words)) [
      | true ↦ ap (λ (l : List Text). w ∷ l) (zip_kept f test words)
      | false ↦ zip_kept f test words
    ]

pub implied : (a b : Bool) → (a ≡ true → b ≡ true) → (a && b) ≡ a
implied true b h = h refl
implied false b h = refl

some_among : (l : List ℕ) (k : ℕ) → is_among l k ≡ true → 0 < length l
some_among [] k h = absurd (true≢false (sym h))
some_among (x ∷ xs) k h = omega arith

-- f gives the rows of each word; the words are those of the rows, in byte order
module _ (len : ℕ) (texts : List (List Text)) (words : List Text) (f : Text → List ℕ) (long : length texts ≡ len)
    (lists : (q : Text) → f q ≡ postings_of q texts) (sorted : IsTextSet words) (members : (q : Text) → list_any (same_text q) words ≡ list_any (list_any (same_text q)) texts) where
  abbrev parts : List (List ℕ)
  parts = map f words

  set_length : (q : Text) → length (rows_having q texts) ≡ len
  set_length q = length-map texts (list_any (same_text q)) ∙ long

  among : (q : Text) (k : ℕ) → k < len → is_among (f q) k ≡ list_any (same_text q) (get_or texts k [])
  among q k lt =
      ap (λ (l : List ℕ). is_among l k) (lists q)
      ∙ among_kept (has_row (rows_having q texts)) (length (rows_having q texts)) k (omega (arith, set_length q))
      ∙ get_or-map (list_any (same_text q)) texts k [] false (omega arith)

  itself : (q : Text) → same_text q q ≡ true
  itself q = (bytes_eq-Decides q q).1 refl

  some_rows : All (λ part. 0 < length part) parts
  some_rows k d lt =
      let inside : k < length words = omega (arith, length-map words f) in
      let q : Text = get_or words k [] in
      let there = list_any_at (same_text q) words k [] inside (itself q) in
      let row = Any-from_list_any (list_any (same_text q)) texts (sym (members q) ∙ there) in
      let at : list_any (same_text q) (get_or texts row.0 []) ≡ true = ap (list_any (same_text q)) (get_or_default texts row.0 [] row.1 row.2 ∙ row.3) ∙ row.4 in
      subst (λ (l : List ℕ). 0 < length l) (sym (get_or-map f words k [] d inside)) (some_among (f q) row.0 (among q row.0 (let under = row.2 in omega arith) ∙ at))

  posted : All (IsPostings len) parts
  posted k d lt =
      let inside : k < length words = omega (arith, length-map words f) in
      let q : Text = get_or words k [] in
      subst (IsPostings len) (sym (get_or-map f words k [] d inside ∙ lists q))
      (subst (λ n. IsPostings n (postings_of q texts)) (set_length q) (kept_are_postings (has_row (rows_having q texts)) (length (rows_having q texts))))

  pub parts_posted : All (IsPart len) parts
  parts_posted k d lt = (some_rows k d lt, posted k d lt)

  pub terms_built : (ends rows : List ℕ) → len < 2 ^ 32 → length rows < 2 ^ 32 → ends ≡ ends_from 0 parts → rows ≡ joined parts → IsTerms len words ends rows
  terms_built ends rows few fits e r =
      let whole = ap (λ (l : List ℕ). pieces 0 l rows) e ∙ ap (pieces 0 (ends_from 0 parts)) r ∙ pieces_joined parts in
      record {
        few = few;
        fits = fits;
        sorted = sorted;
        paired = ap length e ∙ length-ends_from 0 parts ∙ length-map words f;
        ended = subst (λ (l : List ℕ). AreEnds 0 l (length rows)) (sym e) (ends_are 0 (length rows) parts (let total = ap length r in let whole_length : 0 + length (joined parts) ≡ length rows = omega arith in whole_length));
        posted = subst (All (IsPart len)) (sym whole) parts_posted;
      }

  row_set : All IsTextSet texts → (k : ℕ) → k < len → get_or texts k [] ≡ words_at words parts k
  row_set sets k lt =
      same_set (get_or texts k []) (filter (λ w. is_among (f w) k) words) (sets k [] (omega arith)) (IsStrictlySortedBy-filter (slice_cmp nat_cmp) (λ w. is_among (f w) k) words sorted) members_of
      ∙ sym (zip_kept f (λ part. is_among part k) words)
    where
      members_of : (q : Text) → has q (get_or texts k []) ≡ has q (filter (λ w. is_among (f w) k) words)
      members_of q =
          sym (same_has q (get_or texts k []))
          ∙ sym (implied (list_any (same_text q) (get_or texts k [])) (list_any (list_any (same_text q)) texts) (λ h. list_any_at (list_any (same_text q)) texts k [] (omega arith) h))
          ∙ ap (λ b. list_any (same_text q) (get_or texts k []) && b) (sym (members q))
          ∙ ap (λ b. b && list_any (same_text q) words) (sym (among q k lt))
          ∙ sym (any-filter_same (same_text q) (λ w. is_among (f w) k) (is_among (f q) k) (λ w h. ap (λ v. is_among (f v) k) (sym ((bytes_eq-Decides q w).0 h))) words)
          ∙ same_has q (filter (λ w. is_among (f w) k) words)

  pub rows_are : All IsTextSet texts → words_of_rows len words parts ≡ texts
  rows_are sets = sym (fill_by_all (words_at words parts) texts len [] long (row_set sets))

  pub rows_built : All IsTextSet texts → (ends rows : List ℕ) → ends ≡ ends_from 0 parts → rows ≡ joined parts → words_of_rows len words (pieces 0 ends rows) ≡ texts
  rows_built sets ends rows e r =
      ap (words_of_rows len words) (ap (λ (l : List ℕ). pieces 0 l rows) e ∙ ap (pieces 0 (ends_from 0 parts)) r ∙ pieces_joined parts)
      ∙ rows_are sets
