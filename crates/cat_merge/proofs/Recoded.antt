-- Codes and ordinals of texts in another dictionary.
use Rattle.std.proofs.Common.{◌≡◌, ◌<◌, ◌≤◌, ◌^◌, ℕ, suc, ◌+◌, List, [], ◌∷◌, ◌++◌, length, map, get_or, Option, Some, None, refl, sym, ap, ap₂, ◌∙◌, subst, arith, inl, inr}
use Rattle.std.specs.Prelude.{All, Contains, slice_index, unwrap_or}
use Rattle.std.proofs.lemmas.List.{get_or-map, length-map, length-append, get_or_append_left, get_or_at}
use Rattle.std.proofs.lemmas.Bool.{cases_lt}
use Rattle.cat_base.specs.Texts.{IsTextSet}
use Rattle.cat_model.specs.Layout.{code_in, ordinal_in, keywords_of}
use Rattle.cat_model.specs.Ordinals.{text_at, IsOrdinal}
use Rattle.cat_model.specs.Text.{Text}
use Rattle.cat_columns.specs.Columns.{DictionaryHas}
use Rattle.cat_columns.proofs.Ordinals.{ordinal_back, ordinal_within, text_back}
use Rattle.cat_merge.specs.Coded.{moved_code, AreOrdinalsAmong}

-- ---- the ordinals of texts

-- the ordinal of one text, 0 where it isn't one of the words
pub ordinal_is : (words : List Text) (text : Text) (found : Option ℕ) (ordinal : ℕ) → IsTextSet words → IsOrdinal words text found → ordinal ≡ unwrap_or found 0
    → Contains words text → ordinal ≡ ordinal_in words text
ordinal_is words text None ordinal rises none e there = absurd (none there)
ordinal_is words text (Some o) ordinal rises is e there = e ∙ sym (ordinal_back words o rises is.0) ∙ ap (ordinal_in words) is.1

-- it is below their number, or 0
pub ordinal_fits : (words : List Text) (text : Text) (found : Option ℕ) (ordinal : ℕ) → IsOrdinal words text found → ordinal ≡ unwrap_or found 0 → length words < 2 ^ 32 → ordinal + 1 < 2 ^ 32
ordinal_fits words text None ordinal none e few = omega (arith, e)
ordinal_fits words text (Some o) ordinal is e few = omega (arith, e, is.0, few)

-- with one text more
pub ordinals_more : (words front : List Text) (text : Text) (ordinals : List ℕ) (ordinal : ℕ) → AreOrdinalsAmong words front ordinals → (Contains words text → ordinal ≡ ordinal_in words text)
    → AreOrdinalsAmong words (front ++ text ∷ []) (ordinals ++ ordinal ∷ [])
ordinals_more words front text ordinals ordinal are is = record {
  long = length-append ordinals (ordinal ∷ []) ∙ ap (λ n. n + 1) are.long ∙ sym (length-append front (text ∷ []));
  there = λ k within. elim (cases_lt k (length front)) [
    | inl below ↦ λ has.
        let same : text_at (front ++ text ∷ []) k ≡ text_at front k = get_or_append_left front (text ∷ []) [] k below in
        get_or_append_left ordinals (ordinal ∷ []) 0 k (omega (arith, below, are.long))
        ∙ are.there k below (subst (λ t. Contains words t) same has) ∙ ap (ordinal_in words) (sym same)
    | inr end ↦ λ has.
        let last : k ≡ length front = omega (arith, end, within, length-append front (text ∷ [])) in
        let same : text_at (front ++ text ∷ []) k ≡ text = get_or_at front text [] [] k (sym last) in
        get_or_at ordinals ordinal [] 0 k (are.long ∙ sym last) ∙ is (subst (λ t. Contains words t) same has) ∙ ap (ordinal_in words) (sym same)
  ];
}

-- ---- codes

module _ (words : List Text) (values : List (Option Text)) (ordinals : List ℕ) (are : AreOrdinalsAmong words (keywords_of values) ordinals) where
  -- a code is one of the dictionary
  pub code_within : (v : Option Text) → DictionaryHas (keywords_of values) v → code_in (keywords_of values) v ≤ length ordinals
  code_within None has = omega arith
  code_within (Some t) has = omega (arith, are.long, ordinal_within (keywords_of values) t has)

  pub code_moved : (v : Option Text) → DictionaryHas (keywords_of values) v → DictionaryHas words v → moved_code ordinals (code_in (keywords_of values) v) ≡ code_in words v
  code_moved None has there = refl
  code_moved (Some t) has there =
      let back : text_at (keywords_of values) (ordinal_in (keywords_of values) t) ≡ t = text_back (keywords_of values) t has in
      ap suc (are.there (ordinal_in (keywords_of values) t) (ordinal_within (keywords_of values) t has) (subst (λ u. Contains words u) (sym back) there) ∙ ap (ordinal_in words) back)

-- the code of a row
pub code_there : (values : List (Option Text)) (codes : List ℕ) (row : ℕ) → codes ≡ map (code_in (keywords_of values)) values → row < length codes
    → (row < length values) × (get_or codes row 0 ≡ code_in (keywords_of values) (get_or values row None))
code_there values codes row e lt =
    let within : row < length values = omega (arith, lt, ap length e, length-map values (code_in (keywords_of values))) in
    (within, ap (λ l. get_or l row 0) e ∙ get_or-map (code_in (keywords_of values)) values row None 0 within)

-- ---- labels

pub labels_moved : (words dictionary : List Text) (ordinals : List ℕ) (ts : List Text) → AreOrdinalsAmong words dictionary ordinals → All (Contains dictionary) ts → All (Contains words) ts
    → map (slice_index ordinals) (map (ordinal_in dictionary) ts) ≡ map (ordinal_in words) ts
labels_moved words dictionary ordinals [] are has there = refl
labels_moved words dictionary ordinals (t ∷ ts) are has there =
    let back : text_at dictionary (ordinal_in dictionary t) ≡ t = text_back dictionary t (has 0 t (omega arith)) in
    ap₂ (λ (a : ℕ) (b : List ℕ). a ∷ b)
    (are.there (ordinal_in dictionary t) (ordinal_within dictionary t (has 0 t (omega arith))) (subst (λ u. Contains words u) (sym back) (there 0 t (omega arith))) ∙ ap (ordinal_in words) back)
    (labels_moved words dictionary ordinals ts are (λ k d lt. has (suc k) d (omega (arith, lt))) (λ k d lt. there (suc k) d (omega (arith, lt))))
