-- The terms of rows whose texts are ordinals of their dictionary.
use Rattle.std.proofs.Common.{◌≡◌, ◌+◌, ◌<◌, ◌≤◌, ℕ, zero, suc, List, [], ◌∷◌, ◌++◌, length, map, get_or, take, Option, Some, None, refl, sym, ap, ◌∙◌, subst, arith, nat_cmp}
use Rattle.std.specs.Prelude.{All, Contains}
use Rattle.std.specs.List.Sorted.{IsStrictlySortedBy, IsStrictlyIncreasing}
use Rattle.std.proofs.lemmas.List.{length-append, length-map, map_more}
use Rattle.std.proofs.lemmas.List.Elements.{All-weaker, All-map}
use Rattle.std.proofs.lemmas.Map.Keys.{sorted_from_strictly_increasing}
use Rattle.cat_base.specs.Texts.{IsTextSet}
use Rattle.cat_items.proofs.file_parts.Pieces.{ends_push, pieces_push, length-pieces}
use Rattle.cat_model.specs.Text.{Text}
use Rattle.cat_model.specs.Layout.{ordinal_in, code_in, keywords_of, pieces, AreEnds}
use Rattle.cat_model.specs.Ordinals.{dictionary_of, text_at, texts_of}
use Rattle.cat_columns.specs.Columns.{AreOrdinals}
use Rattle.cat_columns.proofs.Laid.{rows_there, all_pieces, AreOrdinals-of}
use Rattle.cat_columns.proofs.Ordinals.{text_back}
use Rattle.cat_segment.specs.Parts.{ordinals_of}

-- ---- from ordinals back to texts

texts_back : (ds row : List Text) → All (Contains ds) row → map (text_at ds) (map (ordinal_in ds) row) ≡ row
texts_back ds [] there = refl
texts_back ds (t ∷ ts) there = λ i. text_back ds t (there 0 t (omega arith)) i ∷ texts_back ds ts (λ k d lt. there (suc k) d (omega arith)) i

rows_back : (ds : List Text) (rows : List (List Text)) → All (All (Contains ds)) rows → map (map (text_at ds)) (map (map (ordinal_in ds)) rows) ≡ rows
rows_back ds [] there = refl
rows_back ds (row ∷ rows) there = λ i. texts_back ds row (there 0 row (omega arith)) i ∷ rows_back ds rows (λ k d lt. there (suc k) d (omega arith)) i

-- what is asked of ordinals that terms are made of
pub record AreTermsOf (rows : List (List Text)) (dictionary : List Text) (ordinals : List (List ℕ)) : Type 0 where
  pub rising : All (IsStrictlySortedBy nat_cmp) ordinals
  pub within : All (All (λ o. o < length dictionary)) ordinals
  pub back : map (map (text_at dictionary)) ordinals ≡ rows
  pub whole : dictionary ≡ dictionary_of (map (map (text_at dictionary)) ordinals)

pub terms_right : (rows : List (List Text)) (dictionary : List Text) (ends ordinals : List ℕ) → dictionary ≡ dictionary_of rows → AreEnds 0 ends (length ordinals) → All IsTextSet rows
    → map (map (ordinal_in (dictionary_of rows))) rows ≡ pieces 0 ends ordinals → AreTermsOf rows dictionary (pieces 0 ends ordinals)
terms_right rows dictionary ends ordinals same parts sets laid =
    let are : AreOrdinals (length (dictionary_of rows)) ends ordinals = AreOrdinals-of (dictionary_of rows) ends ordinals rows parts sets refl laid in
    let there : map (map (text_at (dictionary_of rows))) (pieces 0 ends ordinals) ≡ rows = ap (map (map (text_at (dictionary_of rows)))) (sym laid) ∙ rows_back (dictionary_of rows) rows (rows_there rows) in
    subst (λ (ds : List Text). AreTermsOf rows ds (pieces 0 ends ordinals)) (sym same) (record {
      rising = All-weaker IsStrictlyIncreasing (IsStrictlySortedBy nat_cmp) sorted_from_strictly_increasing (pieces 0 ends ordinals) are.rise;
      within = all_pieces (λ o. o < length (dictionary_of rows)) 0 ends ordinals are.within;
      back = there;
      whole = ap dictionary_of (sym there);
    })

-- ---- from codes to ordinals

ordinal_of_code : (dictionary : List Text) (values : List (Option Text)) → map (map (ordinal_in dictionary)) (map texts_of values) ≡ map ordinals_of (map (code_in dictionary) values)
ordinal_of_code dictionary [] = refl
ordinal_of_code dictionary (None ∷ values) = ap (λ l. [] ∷ l) (ordinal_of_code dictionary values)
ordinal_of_code dictionary (Some t ∷ values) = ap (λ l. (ordinal_in dictionary t ∷ []) ∷ l) (ordinal_of_code dictionary values)

one_text : (value : Option Text) → IsTextSet (texts_of value)
unfolding IsStrictlySortedBy
one_text None = tt
one_text (Some t) = (tt, tt)

pub keyword_sets : (values : List (Option Text)) → All IsTextSet (map texts_of values)
keyword_sets values = All-map IsTextSet texts_of values (λ k d lt. one_text (get_or values k d))

module _ (values : List (Option Text)) (dictionary : List Text) (ends ends' ordinals ordinals' codes : List ℕ) (same : dictionary ≡ dictionary_of (map texts_of values)) (coded : codes ≡ map (code_in (keywords_of values)) values)
    (same_ends : ends' ≡ ends) (same_ordinals : ordinals' ≡ ordinals) (parts : AreEnds 0 ends (length ordinals)) (laid : pieces 0 ends ordinals ≡ map ordinals_of codes) where
  pub keywords_right : AreTermsOf (map texts_of values) dictionary (pieces 0 ends' ordinals')
  keywords_right =
      subst (AreTermsOf (map texts_of values) dictionary) (λ i. pieces 0 (sym same_ends i) (sym same_ordinals i))
      (terms_right (map texts_of values) dictionary ends ordinals same parts (keyword_sets values) (ordinal_of_code (keywords_of values) values ∙ ap (map ordinals_of) (sym coded) ∙ sym laid))

-- one more code
pub code_more : (codes : List ℕ) (i code : ℕ) (ends new_ends ordinals new_ordinals : List ℕ) (end : ℕ) → i < length codes → code ≡ get_or codes i 0 → new_ordinals ≡ ordinals ++ ordinals_of code → end ≡ length new_ordinals → new_ends ≡ ends ++ end ∷ []
    → AreEnds 0 ends (length ordinals) → pieces 0 ends ordinals ≡ map ordinals_of (take i codes)
    → AreEnds 0 new_ends (length new_ordinals) × (pieces 0 new_ends new_ordinals ≡ map ordinals_of (take (i + 1) codes))
code_more codes i code ends new_ends ordinals new_ordinals end lt is added long pushed parts laid =
    let more : length new_ordinals ≡ length ordinals + length (ordinals_of code) = ap length added ∙ length-append ordinals (ordinals_of code) in
    let rise : AreEnds 0 (ends ++ end ∷ []) end = ends_push 0 ends (length ordinals) end (omega arith) parts in (
      subst (λ l. AreEnds 0 l (length new_ordinals)) (sym pushed) (subst (λ n. AreEnds 0 (ends ++ end ∷ []) n) long rise),
      (λ j. pieces 0 (pushed j) (added j)) ∙ pieces_push 0 ends ordinals (ordinals_of code) end (omega arith) parts
          ∙ ap (λ l. l ++ ordinals_of code ∷ []) laid ∙ ap (λ n. map ordinals_of (take i codes) ++ ordinals_of n ∷ []) is ∙ sym (map_more ordinals_of codes i 0 lt),
    )

-- a code is of at most one ordinal
-- where there is no code yet, there is no ordinal
pub no_code : (ends ordinals : List ℕ) → ends ≡ [] → ordinals ≡ [] → (length ordinals ≤ 0) × AreEnds 0 ends (length ordinals) × (pieces 0 ends ordinals ≡ [])
no_code ends ordinals e f = rw (e, f) (omega arith, refl, refl)

pub one_ordinal : (old new : List ℕ) (code : ℕ) → new ≡ old ++ ordinals_of code → length new ≤ length old + 1
one_ordinal old new zero added = omega (arith, ap length added, length-append old [])
one_ordinal old new (suc o) added = omega (arith, ap length added, length-append old (o ∷ []))

-- as many ends as codes
pub ends_many : (codes ends ordinals : List ℕ) → pieces 0 ends ordinals ≡ map ordinals_of codes → length ends ≡ length codes
ends_many codes ends ordinals laid = sym (length-pieces 0 ends ordinals) ∙ ap length laid ∙ length-map codes ordinals_of
