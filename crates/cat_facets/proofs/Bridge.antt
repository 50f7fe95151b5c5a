-- The labels of the hits in the leaves of a view are those of the hits among the records that it shows.
use Rattle.std.proofs.Common.{◌≡◌, ◌&&◌, ◌||◌, List, [], ◌∷◌, ◌++◌, map, filter, true, false, cond, refl, sym, ap, ◌∙◌}
use Rattle.std.proofs.lemmas.List.{map-append}
use Rattle.std.proofs.lemmas.List.Elements.{filter-append}
use Rattle.std.specs.List.{flat_map}
use Rattle.cat_model.specs.Facets.{labels_of}
use Rattle.cat_model.specs.Item.{Item, Record}
use Rattle.cat_model.specs.Page.{hits}
use Rattle.cat_model.specs.Query.{Query, Primary, matches, obeyed, obeys, primary_matches, supported, supports}
use Rattle.cat_model.specs.Text.{Text}
use Rattle.cat_model.specs.View.{Leaf, View, Shows, live_rows, row_matches, row_of}
use Rattle.cat_facets.specs.Tallies.{hit_labels, labels_at}

-- ---- no query asks for the source of an item

abbrev stripped : Item → Item
stripped i = record { id = i.id; fields = i.fields; source = [] }

mutual
  obeyed_alike : (q : Query) (i : Item) → obeyed q (stripped i) ≡ obeyed q i
  obeyed_alike Query.no_clause i = refl
  obeyed_alike (Query.clause s p q) i = ap (λ b. obeys s b && obeyed q (stripped i)) (primary_alike p i) ∙ ap (λ b. obeys s (primary_matches p i) && b) (obeyed_alike q i)

  supported_alike : (q : Query) (i : Item) → supported q (stripped i) ≡ supported q i
  supported_alike Query.no_clause i = refl
  supported_alike (Query.clause s p q) i = ap (λ b. supports s b || supported q (stripped i)) (primary_alike p i) ∙ ap (λ b. supports s (primary_matches p i) || b) (supported_alike q i)

  primary_alike : (p : Primary) (i : Item) → primary_matches p (stripped i) ≡ primary_matches p i
  primary_alike Primary.everything i = refl
  primary_alike (Primary.word f w) i = refl
  primary_alike (Primary.word_prefix f p) i = refl
  primary_alike (Primary.keyword f k) i = refl
  primary_alike (Primary.keyword_prefix f p) i = refl
  primary_alike (Primary.keyword_range f low high) i = refl
  primary_alike (Primary.number f n) i = refl
  primary_alike (Primary.number_range f low high) i = refl
  primary_alike (Primary.label f l) i = refl
  primary_alike (Primary.label_prefix f p) i = refl
  primary_alike (Primary.group q) i = ap (λ b. b && supported q (stripped i)) (obeyed_alike q i) ∙ ap (λ b. obeyed q i && b) (supported_alike q i)

matches_alike : (q : Query) (i : Item) → matches q (stripped i) ≡ matches q i
matches_alike q i = ap (λ b. b && supported q (stripped i)) (obeyed_alike q i) ∙ ap (λ b. obeyed q i && b) (supported_alike q i)

-- ---- the labels of hits

leaves_labels : (q : Query) (dimension : Text) (leaves : List Leaf) → flat_map (hit_labels q dimension) leaves ≡ map (labels_at dimension) (filter (row_matches q) (flat_map live_rows leaves))
leaves_labels q dimension [] = refl
leaves_labels q dimension (leaf ∷ leaves) =
    ap (λ ts. hit_labels q dimension leaf ++ ts) (leaves_labels q dimension leaves)
    ∙ sym (ap (map (labels_at dimension)) (filter-append (row_matches q) (live_rows leaf) (flat_map live_rows leaves))
    ∙ map-append (labels_at dimension) (filter (row_matches q) (live_rows leaf)) (filter (row_matches q) (flat_map live_rows leaves)))

records_labels : (q : Query) (dimension : Text) (rs : List Record) → map (labels_at dimension) (filter (row_matches q) (map row_of rs)) ≡ map (labels_of dimension) (hits rs q)
records_labels q dimension [] = refl
records_labels q dimension (r ∷ rs) =
    ap (λ b. map (labels_at dimension) (cond b (row_of r ∷ filter (row_matches q) (map row_of rs)) (filter (row_matches q) (map row_of rs)))) (matches_alike q r.item)
    ∙ elim (matches q r.item) as (λ b. map (labels_at dimension) (cond b (row_of r ∷ filter (row_matches q) (map row_of rs)) (filter (row_matches q) (map row_of rs))) ≡ map (labels_of dimension) (cond b (r ∷ hits rs q) (hits rs q))) [
      | true ↦ ap (λ ts. labels_of dimension r ∷ ts) (records_labels q dimension rs)
      | false ↦ records_labels q dimension rs
    ]

pub view_labels : (view : View) (q : Query) (dimension : Text) (rs : List Record) → Shows view rs → flat_map (hit_labels q dimension) view.leaves ≡ map (labels_of dimension) (hits rs q)
view_labels view q dimension rs shown =
    leaves_labels q dimension view.leaves ∙ sym (ap (λ rows. map (labels_at dimension) (filter (row_matches q) rows)) shown) ∙ records_labels q dimension rs
