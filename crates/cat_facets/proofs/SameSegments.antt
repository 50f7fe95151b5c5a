-- What is kept of leaves is kept of all that have the same segments.
use Rattle.std.proofs.Common.{◌≡◌, ℕ, ◌<◌, List, [], ◌∷◌, length, map, get_or, All, refl, sym, ap, ◌∙◌, arith, subst}
use Rattle.std.proofs.lemmas.List.{get_or-map, length-map}
use Rattle.std.proofs.lemmas.List.Elements.{All-map}
use Rattle.cat_model.specs.Ordinals.{dictionary_of}
use Rattle.cat_model.specs.Text.{Text}
use Rattle.cat_model.specs.View.{Leaf, Segment, segments_of}
use Rattle.cat_model.specs.GlobalOrdinals.{leaf_dictionary}
use Rattle.cat_facets.specs.declared.segments.SegmentLabels.{SegmentLabels}
use Rattle.cat_facets.specs.States.{as_leaf, as_leaves, union_in, AreKnown, HasLabels, IsDimensionKept, IsKnown}
use Rattle.cat_facets.specs.Tallies.{leaf_labels}

-- the segment of a leaf
abbrev segment : Leaf → Segment
segment l = l.segment

-- a segment is the one of itself as a leaf
pub segments-as_leaves : (segments : List Segment) → segments_of (as_leaves segments) ≡ segments
segments-as_leaves [] = refl
segments-as_leaves (s ∷ segments) = ap (λ ss. s ∷ ss) (segments-as_leaves segments)

All-unmap : {X Y : Type 0} (P : Y → Type 0) (f : X → Y) (xs : List X) → All P (map f xs) → All (λ x. P (f x)) xs
All-unmap P f xs h i d lt = subst P (get_or-map f xs i d (f d) lt) (h i (f d) (omega (arith, lt, length-map xs f)))

module _ (dimension : Text) (ls ks : List Leaf) (same : segments_of ls ≡ segments_of ks) where
  long : length ls ≡ length ks
  long = sym (length-map ls segment) ∙ ap length same ∙ length-map ks segment

  at : (i : ℕ) (leaf : Leaf) → i < length ks → (get_or ls i leaf).segment ≡ (get_or ks i leaf).segment
  at i leaf lt =
      sym (get_or-map segment ls i leaf leaf.segment (omega (arith, lt, long))) ∙ ap (λ ss. get_or ss i leaf.segment) same ∙ get_or-map segment ks i leaf leaf.segment lt

  all_alike : (P : Segment → Type 0) → All (λ l. P l.segment) ls → All (λ l. P l.segment) ks
  all_alike P h = All-unmap P segment ks (subst (All P) same (All-map P segment ls h))

  dictionaries : (ms : List Leaf) → map (leaf_dictionary dimension) ms ≡ map (λ s. leaf_dictionary dimension (as_leaf s)) (segments_of ms)
  dictionaries [] = refl
  dictionaries (m ∷ ms) = ap (λ ds. leaf_dictionary dimension m ∷ ds) (dictionaries ms)

  union_alike : union_in dimension ls ≡ union_in dimension ks
  union_alike =
      ap dictionary_of (dictionaries ls ∙ ap (map (λ s. leaf_dictionary dimension (as_leaf s))) same ∙ sym (dictionaries ks))

  pub known_alike : (all : List Text) (known : List SegmentLabels) → AreKnown dimension all ls known → AreKnown dimension all ks known
  known_alike all known h = record {
    long = h.long ∙ long;
    each = λ i leaf d lt.
        subst (λ (s : Segment). IsKnown all (leaf_labels dimension (as_leaf s)) (get_or known i d)) (at i leaf lt) (h.each i leaf d (omega (arith, lt, long)));
  }

  pub kept_alike : (all : List Text) (known : List SegmentLabels) → IsDimensionKept dimension ls all known → IsDimensionKept dimension ks all known
  kept_alike all known h = record {
    texts = all_alike (λ s. HasLabels dimension (as_leaf s)) h.texts;
    labels = h.labels ∙ union_alike;
    known = known_alike all known h.known;
  }
