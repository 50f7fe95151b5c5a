-- What a row has in a field, by the field's name and by its place among the fields.
use Rattle.std.proofs.Common.{◌≡◌, ◌≢◌, ◌<◌, ℕ, zero, suc, Bool, true, false, cond, List, [], ◌∷◌, length, map, get_or, Some, refl, sym, ap, ◌∙◌, arith, Less, Equal, nat_cmp}
use Rattle.std.specs.Prelude.{option_map, find, All}
use Rattle.std.specs.Cmp.{tied_itself}
use Rattle.std.specs.Cmp.Lexicographic.{slice_cmp, nat_list_cmp_total}
use Rattle.std.specs.List.Sorted.{IsStrictlySortedBy}
use Rattle.std.proofs.lemmas.List.{length-map, get_or-map}
use Rattle.std.proofs.lemmas.List.Elements.{All-map}
use Rattle.std.proofs.lemmas.Simd.{map-map}
use Rattle.std.proofs.lemmas.Map.Keys.{Less-from_sorted}
use Rattle.std.proofs.lemmas.Slice.Eq.{bytes_eq-Decides}
use Rattle.cat_base.specs.Texts.{IsTextSet}
use Rattle.cat_model.specs.Text.{Text, same_text}
use Rattle.cat_model.specs.Item.{Content, Field, Schema, FieldContent, IsContent, AreFields, content_of}
use Rattle.cat_model.specs.Forms.{IsFormed}
use Rattle.cat_model.specs.View.{Row, item_in, AreRows, IsFormedRow}
use Rattle.cat_segment.proofs.Filled.{map_where}
use Rattle.cat_segment.specs.Laid.{content_under, contents_under, AreContents}

abbrev pub no_content : FieldContent
no_content = record { name = []; content = Content.words [] }

-- as many parts as fields
pub length-fields : (fs : Schema) (ps : List FieldContent) → AreFields fs ps → length ps ≡ length fs
length-fields [] [] are = refl
length-fields [] (p ∷ ps) are = absurd are
length-fields (f ∷ fs) [] are = absurd are
length-fields (f ∷ fs) (p ∷ ps) are = ap suc (length-fields fs ps are.1)

-- a part has its field's name and kind
pub field_placed : (fs : Schema) (ps : List FieldContent) (index : ℕ) (f : Field) (p : FieldContent) → AreFields fs ps → index < length fs
    → ((get_or ps index p).name ≡ (get_or fs index f).name) × IsContent (get_or fs index f).kind (get_or ps index p).content
field_placed [] ps index f p are lt = absurd (omega arith)
field_placed (g ∷ fs) [] index f p are lt = absurd are
field_placed (g ∷ fs) (q ∷ ps) zero f p are lt = are.0
field_placed (g ∷ fs) (q ∷ ps) (suc index) f p are lt = field_placed fs ps index f p are.1 (omega arith)

same_itself : (t : Text) → same_text t t ≡ true
same_itself t = (bytes_eq-Decides t t).1 refl

other_text : (s t : Text) → s ≢ t → same_text s t ≡ false
other_text s t apart = by (same_text s t) refl
  where
    by : (b : Bool) → same_text s t ≡ b → b ≡ false
    by false e = refl
    by true e = absurd (apart ((bytes_eq-Decides s t).0 e))

-- the first name differs from the later ones
first_differs : (t : Text) (ts : List Text) (index : ℕ) → IsTextSet (t ∷ ts) → index < length ts → t ≢ get_or ts index []
first_differs t ts index rising lt e =
    let less : slice_cmp nat_cmp t (get_or ts index []) ≡ Less = Less-from_sorted (slice_cmp nat_cmp) (t ∷ ts) 0 (suc index) [] rising (omega arith) (omega arith) in
    let tie : slice_cmp nat_cmp t (get_or ts index []) ≡ Equal = ap (λ u. slice_cmp nat_cmp t u) (sym e) ∙ tied_itself nat_list_cmp_total t in
    let never : Equal ≡ Less = sym tie ∙ less in
    cc

-- the first part of a field's name is that of the field's place
pub field_found : (fs : Schema) (ps : List FieldContent) (index : ℕ) (f : Field) → IsTextSet (map (λ g. g.name) fs) → AreFields fs ps → index < length fs
    → find (λ p. same_text p.name (get_or fs index f).name) ps ≡ Some (get_or ps index no_content)
unfolding IsStrictlySortedBy
field_found [] ps index f rising are lt = absurd (omega arith)
field_found (g ∷ fs) [] index f rising are lt = absurd are
field_found (g ∷ fs) (p ∷ ps) zero f rising are lt =
    let same : same_text p.name g.name ≡ true = ap (λ t. same_text t g.name) are.0.0 ∙ same_itself g.name in
    ap (λ b. cond b (Some p) (find (λ q. same_text q.name g.name) ps)) same
field_found (g ∷ fs) (p ∷ ps) (suc index) f rising are lt =
    let within : index < length fs = omega arith in
    let named : get_or (map (λ h. h.name) fs) index [] ≡ (get_or fs index f).name = get_or-map (λ h. h.name) fs index f [] within in
    let apart : p.name ≢ (get_or fs index f).name = λ e. first_differs g.name (map (λ h. h.name) fs) index rising (omega (arith, length-map fs (λ h. h.name))) (sym are.0.0 ∙ e ∙ sym named) in
    let other : same_text p.name (get_or fs index f).name ≡ false = other_text p.name (get_or fs index f).name apart in
    ap (λ b. cond b (Some p) (find (λ q. same_text q.name (get_or fs index f).name) ps)) other ∙ field_found fs ps index f rising.1 are.1 within

-- what rows have in the field of a name
pub contents_named : (schema : Schema) (rows : List Row) (index : ℕ) (f : Field) → IsTextSet (map (λ g. g.name) schema) → All (λ r. AreFields schema r.fields) rows → index < length schema
    → map (λ r. content_of (get_or schema index f).name (item_in r)) rows ≡ map (λ c. Some c) (contents_under index rows)
contents_named schema rows index f rising parts lt =
    map_where (λ r. AreFields schema r.fields) (λ r. content_of (get_or schema index f).name (item_in r)) (λ r. Some (content_under index r))
    (λ r are. ap (option_map (λ p. p.content)) (field_found schema r.fields index f rising are lt)) rows parts
    ∙ sym (map-map (λ c. Some c) (content_under index) rows)

-- it is of the field's kind and formed
pub AreContents-of : (schema : Schema) (rows : List Row) (index : ℕ) (f : Field) → AreRows schema rows → All IsFormedRow rows → index < length schema
    → AreContents (get_or schema index f).kind (length rows) (contents_under index rows)
AreContents-of schema rows index f are formed lt =
    record {
      long = length-map rows (content_under index);
      kinds = All-map (IsContent (get_or schema index f).kind) (content_under index) rows (λ k d within. (field_placed schema (get_or rows k d).fields index f no_content (are.fields k d within) lt).1);
      formed = All-map IsFormed (content_under index) rows (λ k d within. (formed k d within).fields index no_content (omega (arith, length-fields schema (get_or rows k d).fields (are.fields k d within))));
    }
