-- The rows of each ordinal, as they are gathered row by row, and the terms that they make.
use Rattle.std.proofs.Common.{◌≡◌, ℕ, zero, suc, ◌+◌, ◌^◌, ◌<◌, List, [], ◌∷◌, ◌++◌, length, get_or, take, set, map, Bool, true, false, ◌||◌, if◌then◌else◌, inl, inr, refl, sym, ap, ◌∙◌, arith, Less, nat_cmp, subst, eq-eqb, eqb-true}
use Rattle.std.proofs.Common.{get_or-set_same, get_or-set_other}
use Rattle.std.proofs.lemmas.Bool.{cases_Bool}
use Rattle.std.proofs.lemmas.List.{append-nil, length-map, length-take, length-take-le, get_or-map, get_or-take, get_or_default, map-set, map_more, ext_get_or}
use Rattle.std.proofs.lemmas.List.Folds.{list_any_more, Any-from_list_any}
use Rattle.std.proofs.lemmas.Map.Keys.{sorted_from_all_adjacent, Less-from_sorted, below_from_sorted}
use Rattle.std.proofs.lemmas.Slice.Eq.{bytes_eq-Decides}
use Rattle.std.specs.Cmp.{both_ways}
use Rattle.std.specs.Cmp.Lexicographic.{slice_cmp, nat_list_cmp_total}
use Rattle.std.specs.List.{list_any, flat_map}
use Rattle.std.specs.List.Sorted.{IsStrictlySortedBy}
use Rattle.std.specs.Prelude.{All, ◌==◌}
use Rattle.cat_base.specs.Texts.{IsTextSet}
use Rattle.cat_model.specs.Text.{Text, same_text}
use Rattle.cat_model.specs.Layout.{pieces}
use Rattle.cat_model.specs.RowSets.{indices}
use Rattle.cat_model.specs.Ordinals.{dictionary_of, postings_of, text_at}
use Rattle.cat_columns.specs.inverted.Postings.{is_among, words_of_rows, IsTerms}
use Rattle.cat_columns.specs.inverted.Gathered.{rows_at, ends_from}
use Rattle.cat_base.proofs.TextSets.{IsTextSet-sorted_set}
use Rattle.cat_columns.proofs.inverted.Parts.{joined}
use Rattle.cat_columns.proofs.inverted.Builds.{terms_built, rows_built}
use Rattle.cat_columns.proofs.inverted.Told.{members}
use Rattle.cat_columns.proofs.inverted.Gathering.{joined_if, places_more}
use Rattle.cat_columns.proofs.inverted.Searches.{one_place}

-- ---- an ordinal more of a row

module _ (ordinals : List ℕ) (i : ℕ) (lt : i < length ordinals) (rising : IsStrictlySortedBy nat_cmp ordinals) where
  more : (q : ℕ) → is_among (take (i + 1) ordinals) q ≡ (is_among (take i ordinals) q || (get_or ordinals i 0 == q))
  more q = list_any_more (λ r. r == q) ordinals i 0 lt

  pub new_ordinal : (q : ℕ) → is_among (take i ordinals) q ≡ true → (get_or ordinals i 0 == q) ≡ false
  new_ordinal q h =
      elim (cases_Bool (get_or ordinals i 0 == q)) [
        | inl yes' ↦
            let there = Any-from_list_any (λ r. r == q) (take i ordinals) h in
            let k = there.0 in
            let under : k < i = omega (arith, length-take i ordinals, there.2) in
            let left : get_or ordinals k 0 ≡ q = get_or_default ordinals k 0 there.1 (omega arith) ∙ sym (get_or-take i ordinals k there.1 under) ∙ there.3 ∙ eqb-true there.1 q there.4 in
            let rise : get_or ordinals k 0 < get_or ordinals i 0 = below_from_sorted ordinals k i 0 rising under lt in
            let right : get_or ordinals i 0 ≡ q = eqb-true (get_or ordinals i 0) q yes' in
            absurd (omega arith)
        | inr no' ↦ no'
      ]

  pub ordinal_more : (q row : ℕ) (xs ys zs : List ℕ) → zs ≡ ys ++ (if get_or ordinals i 0 == q then row ∷ [] else []) → ys ≡ xs ++ (if is_among (take i ordinals) q then row ∷ [] else [])
      → zs ≡ xs ++ (if is_among (take (i + 1) ordinals) q then row ∷ [] else [])
  ordinal_more q row xs ys zs z y =
      joined_if xs ys zs row (is_among (take i ordinals) q) (get_or ordinals i 0 == q) (new_ordinal q) z y
      ∙ ap (λ b. xs ++ (if b then row ∷ [] else [])) (sym (more q))

-- a row behind the list of one ordinal
pub list_pushed : {V : Type 0} (f : V → List ℕ) (lists : List V) (o row : ℕ) (v old : V) → o < length lists → old ≡ get_or lists o old → f v ≡ f old ++ row ∷ []
    → (q : ℕ) → get_or (map f (set lists o v)) q [] ≡ get_or (map f lists) q [] ++ (if o == q then row ∷ [] else [])
list_pushed f lists o row v old lt at is q =
    ap (λ (l : List (List ℕ)). get_or l q []) (map-set f lists o v)
    ∙ elim (cases_Bool (o == q)) [
      | inl yes' ↦
          let same : o ≡ q = eqb-true o q yes' in
          ap (λ n. get_or (set (map f lists) o (f v)) n []) (sym same)
          ∙ get_or-set_same (map f lists) o (f v) [] (omega (arith, length-map lists f))
          ∙ is ∙ ap (λ (l : List ℕ). l ++ row ∷ []) (ap f at ∙ sym (get_or-map f lists o old [] lt))
          ∙ ap (λ n. get_or (map f lists) n [] ++ row ∷ []) same
          ∙ ap (λ b. get_or (map f lists) q [] ++ (if b then row ∷ [] else [])) (sym yes')
      | inr no' ↦
          get_or-set_other (map f lists) o q (f v) [] (λ e. absurd (let yes' : (o == q) ≡ true = eq-eqb o q (sym e) in let no'' : true ≡ false = sym yes' ∙ no' in cc))
          ∙ sym (append-nil (get_or (map f lists) q []))
          ∙ ap (λ b. get_or (map f lists) q [] ++ (if b then row ∷ [] else [])) (sym no')
    ]

pub none_listed : {V : Type 0} (f : V → List ℕ) (lists : List V) → All (λ v. f v ≡ []) lists → (q : ℕ) → get_or (map f lists) q [] ≡ []
none_listed f [] empty q = refl
none_listed f (v ∷ lists) empty zero = empty 0 v (omega arith)
none_listed f (v ∷ lists) empty (suc q) = none_listed f lists (λ k d lt. empty (suc k) d (omega arith)) q

-- ---- a row more

pub rows_more : (o : ℕ) (rows : List (List ℕ)) (i : ℕ) → i < length rows → rows_at o (take (i + 1) rows) ≡ rows_at o (take i rows) ++ (if is_among (get_or rows i []) o then i ∷ [] else [])
rows_more o rows i lt =
    ap indices (map_more (λ ordinals. is_among ordinals o) rows i [] lt)
    ∙ places_more (map (λ ordinals. is_among ordinals o) (take i rows)) (is_among (get_or rows i []) o) i (length-map (take i rows) (λ ordinals. is_among ordinals o) ∙ length-take-le i rows (omega arith))

-- ---- of texts by their ordinals

module _ (words : List Text) (sorted : IsTextSet words) where
  pub same_place : (o k : ℕ) → o < length words → k < length words → (k == o) ≡ same_text (text_at words o) (text_at words k)
  same_place o k lto ltk =
      both_ways (k == o) (same_text (text_at words o) (text_at words k))
      (λ e. (bytes_eq-Decides (text_at words o) (text_at words k)).1 (ap (text_at words) (sym (eqb-true k o e))))
      (λ e. eq-eqb k o (one_place words k o sorted ltk lto (sym ((bytes_eq-Decides (text_at words o) (text_at words k)).0 e))))

  among_texts : (o : ℕ) (ordinals : List ℕ) → o < length words → All (λ k. k < length words) ordinals → is_among ordinals o ≡ list_any (same_text (text_at words o)) (map (text_at words) ordinals)
  among_texts o [] lt within = refl
  among_texts o (k ∷ ordinals) lt within =
      ap (λ b. b || is_among ordinals o) (same_place o k lt (within 0 k (omega arith)))
      ∙ ap (λ b. same_text (text_at words o) (text_at words k) || b) (among_texts o ordinals lt (λ j d l. within (suc j) d (omega arith)))

  each_row_of : (o : ℕ) (rows : List (List ℕ)) → o < length words → All (All (λ k. k < length words)) rows
      → map (λ ordinals. is_among ordinals o) rows ≡ map (list_any (same_text (text_at words o))) (map (map (text_at words)) rows)
  each_row_of o [] lt within = refl
  each_row_of o (ordinals ∷ rows) lt within =
      ap (λ (b : Bool). b ∷ map (λ os. is_among os o) rows) (among_texts o ordinals lt (within 0 ordinals (omega arith)))
      ∙ ap (λ (bs : List Bool). list_any (same_text (text_at words o)) (map (text_at words) ordinals) ∷ bs) (each_row_of o rows lt (λ j d l. within (suc j) d (omega arith)))

  -- the rows that have the ordinal are those that have its text
  pub rows_at_text : (o : ℕ) (rows : List (List ℕ)) → o < length words → All (All (λ k. k < length words)) rows → rows_at o rows ≡ postings_of (text_at words o) (map (map (text_at words)) rows)
  rows_at_text o rows lt within = ap indices (each_row_of o rows lt within)

  -- texts of ordinals that rise are a set
  rising_texts : (ordinals : List ℕ) → IsStrictlySortedBy nat_cmp ordinals → All (λ k. k < length words) ordinals → IsTextSet (map (text_at words) ordinals)
  rising_texts ordinals rising within = sorted_from_all_adjacent nat_list_cmp_total (map (text_at words) ordinals) [] less
    where
      less : (k : ℕ) → k + 1 < length (map (text_at words) ordinals) → slice_cmp nat_cmp (get_or (map (text_at words) ordinals) k []) (get_or (map (text_at words) ordinals) (k + 1) []) ≡ Less
      less k lt =
          let next : k + 1 < length ordinals = omega (arith, length-map ordinals (text_at words)) in
          ap (λ (t : Text). slice_cmp nat_cmp t (get_or (map (text_at words) ordinals) (k + 1) [])) (get_or-map (text_at words) ordinals k 0 [] (omega arith))
          ∙ ap (λ (t : Text). slice_cmp nat_cmp (text_at words (get_or ordinals k 0)) t) (get_or-map (text_at words) ordinals (k + 1) 0 [] next)
          ∙ Less-from_sorted (slice_cmp nat_cmp) words (get_or ordinals k 0) (get_or ordinals (k + 1) 0) [] sorted (below_from_sorted ordinals k (k + 1) 0 rising (omega arith) next) (within (k + 1) 0 next)

  pub texts_are_sets : (rows : List (List ℕ)) → All (IsStrictlySortedBy nat_cmp) rows → All (All (λ k. k < length words)) rows → All IsTextSet (map (map (text_at words)) rows)
  texts_are_sets [] rising within k d lt = absurd (omega arith)
  texts_are_sets (ordinals ∷ rows) rising within zero d lt = rising_texts ordinals (rising 0 ordinals (omega arith)) (within 0 ordinals (omega arith))
  texts_are_sets (ordinals ∷ rows) rising within (suc k) d lt = texts_are_sets rows (λ j e l. rising (suc j) e (omega arith)) (λ j e l. within (suc j) e (omega arith)) k d (omega arith)

-- lists that have the rows of each ordinal are the postings of each word
module _ {V : Type 0} (f : V → List ℕ) (lists : List V) (words : List Text) (rows : List (List ℕ)) where
  abbrev postings : Text → List ℕ
  postings w = postings_of w (map (map (text_at words)) rows)

  pub lists_are_postings : IsTextSet words → All (All (λ k. k < length words)) rows → length lists ≡ length words → ((o : ℕ) → o < length words → get_or (map f lists) o [] ≡ rows_at o rows) → map f lists ≡ map postings words
  lists_are_postings sorted within long each = ext_get_or [] (map f lists) (map postings words) (length-map lists f ∙ long ∙ sym (length-map words postings)) at
    where
      at : (o : ℕ) → o < length (map f lists) → get_or (map f lists) o [] ≡ get_or (map postings words) o []
      at o lt =
          let inside : o < length words = omega (arith, length-map lists f) in
          each o inside ∙ rows_at_text words sorted o rows inside within ∙ sym (get_or-map postings words o [] [] inside)

-- ---- of the terms that are made of them

pub dictionary_rises : (words : List Text) (texts : List (List Text)) → words ≡ dictionary_of texts → IsTextSet words
dictionary_rises words texts occur = subst IsTextSet (sym occur) (IsTextSet-sorted_set (flat_map (λ l. l) texts))

module _ (len : ℕ) (words : List Text) (rows : List (List ℕ)) (long : length rows ≡ len) (occur : words ≡ dictionary_of (map (map (text_at words)) rows))
    (ends flat : List ℕ) (lists : List (List ℕ)) (are : lists ≡ map (λ w. postings_of w (map (map (text_at words)) rows)) words) (e : ends ≡ ends_from 0 lists) (r : flat ≡ joined lists) where
  abbrev texts : List (List Text)
  texts = map (map (text_at words)) rows

  abbrev postings_in : Text → List ℕ
  postings_in w = postings_of w texts

  dictionary : IsTextSet words
  dictionary = dictionary_rises words texts occur

  found : (q : Text) → list_any (same_text q) words ≡ list_any (list_any (same_text q)) texts
  found q = ap (list_any (same_text q)) occur ∙ members texts q

  as_long : length texts ≡ len
  as_long = length-map rows (map (text_at words)) ∙ long

  pub terms_gathered : len < 2 ^ 32 → length flat < 2 ^ 32 → IsTerms len words ends flat
  terms_gathered few fits = terms_built len texts words postings_in as_long (λ q. refl) dictionary found ends flat few fits (e ∙ ap (ends_from 0) are) (r ∙ ap joined are)

  pub rows_gathered : All (IsStrictlySortedBy nat_cmp) rows → All (All (λ k. k < length words)) rows → words_of_rows len words (pieces 0 ends flat) ≡ texts
  rows_gathered rising within = rows_built len texts words postings_in as_long (λ q. refl) dictionary found (texts_are_sets words dictionary rows rising within) ends flat (e ∙ ap (ends_from 0) are) (r ∙ ap joined are)
