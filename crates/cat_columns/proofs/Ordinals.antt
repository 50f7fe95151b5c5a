-- The ordinals of a dictionary's texts, and the texts of its ordinals.
use Rattle.std.proofs.Common.{◌≡◌, ℕ, zero, suc, ◌<◌, ◌≤◌, Bool, true, false, not, List, [], ◌∷◌, length, get_or, map, Option, refl, sym, ap, ◌∙◌, arith, subst, inl, inr}
use Rattle.std.proofs.lemmas.Bool.{cases_Bool, cases_lt, true≢false}
use Rattle.std.proofs.lemmas.List.Sums.{prefix_len_is, prefix_len_passes, prefix_len_stops}
use Rattle.std.proofs.lemmas.Slice.Eq.{bytes_eq-Decides}
use Rattle.std.specs.List.{flat_map}
use Rattle.std.specs.Prelude.{All, Contains}
use Rattle.cat_base.specs.Texts.{IsTextSet}
use Rattle.cat_base.proofs.TextSets.{IsTextSet-sorted_set}
use Rattle.cat_model.specs.Text.{Text, same_text}
use Rattle.cat_model.specs.Layout.{ordinal_in, code_in, keywords_of}
use Rattle.cat_model.specs.Ordinals.{text_at, texts_of, dictionary_of}
use Rattle.cat_columns.specs.Columns.{text_of_code, IsKeywords}
use Rattle.cat_columns.proofs.Searches.{one_place}

itself : (t : Text) → same_text t t ≡ true
itself t = (bytes_eq-Decides t t).1 refl

apart : (s t : Text) → (s ≡ t → ⊥) → same_text s t ≡ false
apart s t differ = elim (cases_Bool (same_text s t)) [
  | inl same ↦ absurd (differ ((bytes_eq-Decides s t).0 same))
  | inr other ↦ other
]

-- the ordinal of an ordinal's text
pub ordinal_back : (ds : List Text) (o : ℕ) → IsTextSet ds → o < length ds → ordinal_in ds (text_at ds o) ≡ o
ordinal_back ds o sorted lt =
    prefix_len_is (λ t. not (same_text t (text_at ds o))) ds o [] (omega arith)
    (λ k below. ap not (apart (get_or ds k []) (text_at ds o) (λ e. let same : k ≡ o = one_place ds k o sorted (omega arith) lt e in absurd (omega arith))))
    (λ _. ap not (itself (text_at ds o)))

pub ordinals_back : (ds : List Text) (os : List ℕ) → IsTextSet ds → All (λ o. o < length ds) os → map (ordinal_in ds) (map (text_at ds) os) ≡ os
ordinals_back ds [] sorted within = refl
ordinals_back ds (o ∷ os) sorted within =
    ap (λ k. k ∷ map (ordinal_in ds) (map (text_at ds) os)) (ordinal_back ds o sorted (within 0 0 (omega arith)))
    ∙ ap (λ l. o ∷ l) (ordinals_back ds os sorted (λ k d lt. within (suc k) d (omega arith)))

code_back : (ds : List Text) (code : ℕ) → IsTextSet ds → code ≤ length ds → code_in ds (text_of_code ds code) ≡ code
code_back ds zero sorted le = refl
code_back ds (suc o) sorted le = ap suc (ordinal_back ds o sorted (omega arith))

pub codes_back : (ds : List Text) (codes : List ℕ) → IsTextSet ds → All (λ code. code ≤ length ds) codes → map (code_in ds) (map (text_of_code ds) codes) ≡ codes
codes_back ds [] sorted within = refl
codes_back ds (code ∷ codes) sorted within =
    ap (λ k. k ∷ map (code_in ds) (map (text_of_code ds) codes)) (code_back ds code sorted (within 0 0 (omega arith)))
    ∙ ap (λ l. code ∷ l) (codes_back ds codes sorted (λ k d lt. within (suc k) d (omega arith)))

-- the text of a text's ordinal
pub ordinal_within : (ds : List Text) (t : Text) → Contains ds t → ordinal_in ds t < length ds
ordinal_within ds t h = elim (cases_lt (ordinal_in ds t) (length ds)) [
  | inl lt ↦ lt
  | inr past ↦ absurd (
      let below = h.1 in
      let passed : not (same_text (get_or ds h.0 t) t) ≡ true = prefix_len_passes (λ s. not (same_text s t)) ds h.0 t (omega arith) in
      true≢false (sym passed ∙ ap not (ap (λ (s : Text). same_text s t) h.2 ∙ itself t))
      )
]

not_false : (b : Bool) → not b ≡ false → b ≡ true
not_false true e = refl
not_false false e = absurd (true≢false e)

pub text_back : (ds : List Text) (t : Text) → Contains ds t → text_at ds (ordinal_in ds t) ≡ t
text_back ds t h =
    (bytes_eq-Decides (text_at ds (ordinal_in ds t)) t).0
    (not_false (same_text (text_at ds (ordinal_in ds t)) t) (prefix_len_stops (λ s. not (same_text s t)) ds [] (ordinal_within ds t h)))

-- a dictionary rises
pub dictionary_rises : (rows : List (List Text)) → IsTextSet (dictionary_of rows)
dictionary_rises rows = IsTextSet-sorted_set (flat_map (λ texts. texts) rows)

-- the codes of a column are those that its keywords have in a file
pub codes_laid : (ds : List Text) (codes : List ℕ) (v : List (Option Text)) → IsKeywords ds codes → map (text_of_code ds) codes ≡ v → codes ≡ map (code_in (keywords_of v)) v
codes_laid ds codes v is view =
    let whole : ds ≡ keywords_of v = is.whole ∙ ap keywords_of view in
    let sorted : IsTextSet ds = subst (λ (l : List Text). IsTextSet l) (sym is.whole) (dictionary_rises (map texts_of (map (text_of_code ds) codes))) in
    sym (ap (λ (l : List Text). map (code_in l) v) (sym whole) ∙ ap (map (code_in ds)) (sym view) ∙ codes_back ds codes sorted is.within)

-- and so are the ordinals of a row
pub ordinals_laid : (rows : List (List Text)) (os : List ℕ) (row : List Text) → map (text_at (dictionary_of rows)) os ≡ row
    → All (λ o. o < length (dictionary_of rows)) os → os ≡ map (ordinal_in (dictionary_of rows)) row
ordinals_laid rows os row texts within =
    sym (ap (map (ordinal_in (dictionary_of rows))) (sym texts) ∙ ordinals_back (dictionary_of rows) os (dictionary_rises rows) within)
