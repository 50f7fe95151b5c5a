-- Ordinals over all segments of a view: Lucene's OrdinalMap, by which the ordinals of segments are carried to global ones.
use Rattle.std.specs.Prelude.{◌≡◌, ℕ, ◌<◌, List, [], ◌∷◌, length, map, Option, Some, None, All}
use Rattle.cat_model.specs.Text.{Text}
use Rattle.cat_model.specs.Item.{Content, content_of}
use Rattle.cat_model.specs.Ordinals.{dictionary_of, text_at, texts_of}
use Rattle.cat_model.specs.View.{Leaf, View, item_in}

-- the texts that have ordinals: a keyword or labels
abbrev pub ordinal_texts : Option Content → List Text
ordinal_texts None = []
ordinal_texts (Some (Content.words ws)) = []
ordinal_texts (Some (Content.keyword k)) = texts_of k
ordinal_texts (Some (Content.number z)) = []
ordinal_texts (Some (Content.labels ls)) = ls

-- what each row of a leaf has in the field, deleted rows too
abbrev pub texts_in_leaf : Text → Leaf → List (List Text)
texts_in_leaf field leaf = map (λ row. ordinal_texts (content_of field (item_in row))) leaf.segment.rows

-- the dictionary of the field in the leaf's segment
abbrev pub leaf_dictionary : Text → Leaf → List Text
leaf_dictionary field leaf = dictionary_of (texts_in_leaf field leaf)

-- the dictionary of the field in all segments of the view: the union of theirs
abbrev pub view_dictionary : Text → View → List Text
view_dictionary field view = dictionary_of (map (leaf_dictionary field) view.leaves)

-- A list of global ordinals, one for each ordinal of a dictionary: at each stands the same text in both (getGlobalOrds).
pub record IsOrdinalMap (global_dictionary dictionary : List Text) (globals : List ℕ) : Type 0 where
  pub texts : map (text_at global_dictionary) globals ≡ dictionary
  pub within : All (λ g. g < length global_dictionary) globals

-- such a list for each of the leaves, in their order
abbrev pub AreOrdinalMaps : List Text → Text → List Leaf → List (List ℕ) → Type 0
AreOrdinalMaps global_dictionary field [] [] = Unit {0}
AreOrdinalMaps global_dictionary field (leaf ∷ leaves) (globals ∷ rest) =
    IsOrdinalMap global_dictionary (leaf_dictionary field leaf) globals × AreOrdinalMaps global_dictionary field leaves rest
AreOrdinalMaps global_dictionary field leaves rest = ⊥

-- the global ordinals of the field in the view
abbrev pub AreGlobalOrdinals : Text → View → List (List ℕ) → Type 0
AreGlobalOrdinals field view maps = AreOrdinalMaps (view_dictionary field view) field view.leaves maps
