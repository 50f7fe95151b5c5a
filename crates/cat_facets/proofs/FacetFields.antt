-- In a facet field rows have no texts but labels.
use Rattle.std.proofs.Common.{◌≡◌, suc, List, [], ◌∷◌, map, Some, option_map, true, false, find, refl, ap, ◌∙◌, arith, inl, inr}
use Rattle.std.proofs.lemmas.Bool.{cases_Bool}
use Rattle.std.specs.Prelude.{All}
use Rattle.cat_model.specs.Answer.{is_facet_kind}
use Rattle.cat_model.specs.Item.{Content, FieldContent, Kind, Schema, AreFields, IsContent, content_of, kind_of, labels_in}
use Rattle.cat_model.specs.Text.{Text, same_text}
use Rattle.cat_model.specs.View.{Leaf, Row, item_in}
use Rattle.cat_model.specs.GlobalOrdinals.{ordinal_texts}
use Rattle.cat_facets.specs.States.{HasLabels, IsFacetIn}
use Rattle.cat_facets.specs.Tallies.{labels_at}

labels_alone : {k : Kind} {c : Content} → IsContent k c → is_facet_kind (Some k) ≡ true → ordinal_texts (Some c) ≡ labels_in (Some c)
labels_alone (IsContent.words ws set) e = absurd (cc)
labels_alone (IsContent.keyword k) e = absurd (cc)
labels_alone (IsContent.number z) e = absurd (cc)
labels_alone (IsContent.labels ls set) e = refl

in_field : (name : Text) (fs : Schema) (ps : List FieldContent) → AreFields fs ps → is_facet_kind (kind_of fs name) ≡ true
    → ordinal_texts (option_map (λ p. p.content) (find (λ p. same_text p.name name) ps)) ≡ labels_in (option_map (λ p. p.content) (find (λ p. same_text p.name name) ps))
in_field name [] [] are e = refl
in_field name [] (p ∷ ps) are e = absurd are
in_field name (f ∷ fs) [] are e = absurd are
in_field name (f ∷ fs) (p ∷ ps) are e =
    let test : same_text p.name name ≡ same_text f.name name = ap (λ t. same_text t name) are.0.0 in
    elim (cases_Bool (same_text f.name name)) [
      | inl here ↦
          let there : same_text p.name name ≡ true = test ∙ here in
          let kind : is_facet_kind (Some f.kind) ≡ true = rw here at e in
          rw there (labels_alone are.0.1 kind)
      | inr away ↦
          let past : same_text p.name name ≡ false = test ∙ away in
          let kind : is_facet_kind (kind_of fs name) ≡ true = rw away at e in
          rw past (in_field name fs ps are.1 kind)
    ]

rows_alone : (name : Text) (schema : Schema) (rows : List Row) → All (λ r. AreFields schema r.fields) rows → is_facet_kind (kind_of schema name) ≡ true
    → map (λ r. ordinal_texts (content_of name (item_in r))) rows ≡ map (labels_at name) rows
rows_alone name schema [] are e = refl
rows_alone name schema (r ∷ rows) are e =
    ap (λ t. t ∷ map (λ s. ordinal_texts (content_of name (item_in s))) rows) (in_field name schema r.fields (are 0 r (omega arith)) e)
    ∙ ap (λ ts. labels_at name r ∷ ts) (rows_alone name schema rows (λ k d lt. are (suc k) d (omega arith)) e)

pub leaf_has_labels : (dimension : Text) (leaf : Leaf) → All (λ r. AreFields leaf.segment.schema r.fields) leaf.segment.rows → IsFacetIn dimension leaf → HasLabels dimension leaf
leaf_has_labels dimension leaf are e = rows_alone dimension leaf.segment.schema leaf.segment.rows are e
