-- The content of a field is told by its texts, its keyword or its number, since it is of the field's kind.
use Rattle.std.proofs.Common.{◌≡◌, ◌≢◌, ◌<◌, ◌≤◌, ◌^◌, ℕ, zero, suc, get_or, List, [], ◌∷◌, length, map, Option, Some, None, refl, sym, ap, ◌∙◌, subst, arith}
use Rattle.std.specs.Prelude.{ℤ, option_map, slice_get, All, IfSome}
use Rattle.std.proofs.lemmas.List.Elements.{All-map}
use Rattle.std.proofs.lemmas.Option.{slice_get-get_or}
use Rattle.std.proofs.lemmas.Simd.{map-map}
use Rattle.cat_model.specs.Text.{Text}
use Rattle.cat_model.specs.Item.{Field, Kind, Content, Schema, FieldContent, IsContent, AreFields, keyword_in, number_in, words_in}
use Rattle.cat_model.specs.Forms.{IsFormed}
use Rattle.cat_model.specs.Ordinals.{dictionary_of}
use Rattle.cat_segment.proofs.Formed.{length-dictionary}
use Rattle.cat_segment.specs.Fields.{content_in, contents_of_rows, IsFilled, content_texts}
use Rattle.cat_segment.specs.declared.segment.Row as given

-- what agrees at each element of a list
pub map_where : {X Y : Type 0} (P : X → Type 0) (f g : X → Y) → ((x : X) → P x → f x ≡ g x) → (xs : List X) → All P xs → map f xs ≡ map g xs
map_where P f g same [] all = refl
map_where P f g same (x ∷ xs) all = λ i. same x (all 0 x (omega arith)) i ∷ map_where P f g same xs (λ k d lt. all (suc k) d (omega arith)) i

text_told : (o : Option Content) → IsFilled Kind.text o → Some (Content.words (content_texts o)) ≡ o
text_told None none = absurd none
text_told (Some c) (IsContent.words ws sorted) = refl

keyword_told : (o : Option Content) → IsFilled Kind.keyword o → Some (Content.keyword (keyword_in o)) ≡ o
keyword_told None none = absurd none
keyword_told (Some c) (IsContent.keyword k) = refl

number_told : (o : Option Content) → IsFilled Kind.number o → Some (Content.number (number_in o)) ≡ o
number_told None none = absurd none
number_told (Some c) (IsContent.number z) = refl

facet_told : (o : Option Content) → IsFilled Kind.facet o → Some (Content.labels (content_texts o)) ≡ o
facet_told None none = absurd none
facet_told (Some c) (IsContent.labels ls sorted) = refl

module _ (index : ℕ) (rows : List given.Row) where
  abbrev AreFilled : Kind → Type 0
  AreFilled kind = All (λ r. IsFilled kind (content_in index r.item.now)) rows

  told : {X : Type 0} (kind : Kind) (make : X → Content) (read : Option Content → X) → ((o : Option Content) → IsFilled kind o → Some (make (read o)) ≡ o)
      → AreFilled kind → (xs : List X) → xs ≡ map (λ r. read (content_in index r.item.now)) rows → map (λ x. Some x) (map make xs) ≡ contents_of_rows index rows
  told kind make read same filled xs is =
      ap (λ l. map (λ x. Some x) (map make l)) is
      ∙ map-map (λ x. Some x) make (map (λ r. read (content_in index r.item.now)) rows)
      ∙ map-map (λ x. Some (make x)) (λ r. read (content_in index r.item.now)) rows
      ∙ map_where (λ r. IsFilled kind (content_in index r.item.now)) (λ r. Some (make (read (content_in index r.item.now)))) (λ r. content_in index r.item.now) (λ r f. same (content_in index r.item.now) f) rows filled

  pub texts_told : AreFilled Kind.text → (xs : List (List Text)) → xs ≡ map (λ r. content_texts (content_in index r.item.now)) rows → map (λ x. Some x) (map (λ x. Content.words x) xs) ≡ contents_of_rows index rows
  texts_told = told Kind.text (λ x. Content.words x) content_texts text_told

  pub keywords_told : AreFilled Kind.keyword → (xs : List (Option Text)) → xs ≡ map (λ r. keyword_in (content_in index r.item.now)) rows → map (λ x. Some x) (map (λ x. Content.keyword x) xs) ≡ contents_of_rows index rows
  keywords_told = told Kind.keyword (λ x. Content.keyword x) keyword_in keyword_told

  pub numbers_told : AreFilled Kind.number → (xs : List (Option ℤ)) → xs ≡ map (λ r. number_in (content_in index r.item.now)) rows → map (λ x. Some x) (map (λ x. Content.number x) xs) ≡ contents_of_rows index rows
  numbers_told = told Kind.number (λ x. Content.number x) number_in number_told

  pub labels_told : AreFilled Kind.facet → (xs : List (List Text)) → xs ≡ map (λ r. content_texts (content_in index r.item.now)) rows → map (λ x. Some x) (map (λ x. Content.labels x) xs) ≡ contents_of_rows index rows
  labels_told = told Kind.facet (λ x. Content.labels x) content_texts facet_told

-- what stands at a field's index is of the field's kind
pub filled_at : (fs : Schema) (ps : List FieldContent) (index : ℕ) (f : Field) → AreFields fs ps → index < length fs → f ≡ get_or fs index f → IsFilled f.kind (option_map (λ p. p.content) (slice_get ps index))
filled_at [] ps index f parts lt is = absurd (omega arith)
filled_at (g ∷ fs) [] index f parts lt is = absurd parts
filled_at (g ∷ fs) (p ∷ ps) zero f parts lt is = subst (λ h. IsContent h.kind p.content) (sym is) parts.0.1
filled_at (g ∷ fs) (p ∷ ps) (suc index) f parts lt is = filled_at fs ps index f parts.1 (omega arith) is

-- ---- forms

-- what stands at an index has its forms where each has
pub formed_in : (ps : List FieldContent) (index : ℕ) → All (λ p. IsFormed p.content) ps → IfSome (option_map (λ p. p.content) (slice_get ps index)) IsFormed
formed_in [] index formed = tt
formed_in (p ∷ ps) zero formed = formed 0 p (omega arith)
formed_in (p ∷ ps) (suc index) formed = formed_in ps index (λ k d lt. formed (suc k) d (omega arith))

-- and each has where what stands at each index has
pub fields_formed : (ps : List FieldContent) → ((index : ℕ) → index < length ps → IfSome (option_map (λ p. p.content) (slice_get ps index)) IsFormed) → All (λ p. IsFormed p.content) ps
fields_formed ps each k d lt = subst (λ o. IfSome (option_map (λ p. p.content) o) IsFormed) (slice_get-get_or ps k d lt) (each k lt)

-- the words of a text field are its texts
pub words_are_texts : (o : Option Content) → IsFilled Kind.text o → words_in o ≡ content_texts o
words_are_texts None none = absurd none
words_are_texts (Some c) (IsContent.words ws sorted) = refl

-- another field has no words
pub no_words : (kind : Kind) → kind ≢ Kind.text → (o : Option Content) → IsFilled kind o → length (words_in o) ≤ 0
no_words kind other None none = absurd none
no_words kind other (Some c) (IsContent.words ws sorted) = absurd (other refl)
no_words kind other (Some c) (IsContent.keyword k) = omega arith
no_words kind other (Some c) (IsContent.number z) = omega arith
no_words kind other (Some c) (IsContent.labels ls sorted) = omega arith

module _ (index : ℕ) (rows : List given.Row) where
  -- the words of a text field are those of its terms
  pub words_of_terms : All (λ r. IsFilled Kind.text (content_in index r.item.now)) rows → (terms : List (List Text)) → terms ≡ map (λ r. content_texts (content_in index r.item.now)) rows
      → length (dictionary_of terms) < 2 ^ 32 → length (dictionary_of (map words_in (contents_of_rows index rows))) < 2 ^ 32
  words_of_terms filled terms same few =
      let words : map words_in (contents_of_rows index rows) ≡ terms =
      map-map words_in (λ r. content_in index r.item.now) rows
      ∙ map_where (λ r. IsFilled Kind.text (content_in index r.item.now)) (λ r. words_in (content_in index r.item.now)) (λ r. content_texts (content_in index r.item.now)) (λ r f. words_are_texts (content_in index r.item.now) f) rows filled
      ∙ sym same in
      omega (arith, few, ap (λ (l : List (List Text)). length (dictionary_of l)) words)

  -- a field of another kind has none
  pub words_of_none : (kind : Kind) → kind ≢ Kind.text → All (λ r. IsFilled kind (content_in index r.item.now)) rows → length (dictionary_of (map words_in (contents_of_rows index rows))) < 2 ^ 32
  words_of_none kind other filled =
      omega (
        arith,
        length-dictionary 0 (map words_in (contents_of_rows index rows))
            (All-map (λ ws. length ws ≤ 0) words_in (contents_of_rows index rows) (All-map (λ o. length (words_in o) ≤ 0) (λ r. content_in index r.item.now) rows (λ k d lt. no_words kind other (content_in index (get_or rows k d).item.now) (filled k d lt)))),
      )
