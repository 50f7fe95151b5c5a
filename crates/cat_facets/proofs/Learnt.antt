-- What is kept of leaves stays so where one of them was looked at.
use Rattle.std.proofs.Common.{◌≡◌, ℕ, ◌<◌, List, length, get_or, set, eqb, sym, ◌∙◌, subst, arith, inl, inr, length-set, get_or-set_other, get_or-set_same}
use Rattle.std.proofs.lemmas.Bool.{cases_Bool}
use Rattle.std.proofs.lemmas.List.{get_or_default}
use Rattle.cat_model.specs.Text.{Text}
use Rattle.cat_model.specs.View.{Leaf}
use Rattle.cat_facets.specs.declared.segments.SegmentLabels.{SegmentLabels}
use Rattle.cat_facets.specs.States.{AreKnown, IsKnown}
use Rattle.cat_facets.specs.Tallies.{leaf_labels}
use Rattle.cat_facets.proofs.Counted.{other_place, same_place}

module _ (dimension : Text) (all : List Text) (leaves : List Leaf) (known : List SegmentLabels) (are : AreKnown dimension all leaves known) (i : ℕ) (leaf : Leaf) (one : SegmentLabels)
    (within : i < length leaves) (is : IsKnown all (leaf_labels dimension (get_or leaves i leaf)) one) where
  each : (j : ℕ) (l : Leaf) (d : SegmentLabels) → j < length leaves → IsKnown all (leaf_labels dimension (get_or leaves j l)) (get_or (set known i one) j d)
  each j l d lt = elim (cases_Bool (eqb i j)) [
    | inl here ↦
        let same : j ≡ i = same_place i j here in
        let new : get_or (set known i one) i d ≡ one = get_or-set_same known i one d (omega (arith, within, are.long)) in
        let at : get_or leaves i leaf ≡ get_or leaves i l = get_or_default leaves i leaf l within in
        subst (λ n. IsKnown all (leaf_labels dimension (get_or leaves n l)) (get_or (set known i one) n d)) (sym same)
        (subst (λ x. IsKnown all (leaf_labels dimension (get_or leaves i l)) x) (sym new) (subst (λ x. IsKnown all (leaf_labels dimension x) one) at is))
    | inr away ↦
        let kept : get_or (set known i one) j d ≡ get_or known j d = get_or-set_other known i j one d (other_place i j away) in
        subst (λ x. IsKnown all (leaf_labels dimension (get_or leaves j l)) x) (sym kept) (are.each j l d lt)
  ]

  pub stay_known : AreKnown dimension all leaves (set known i one)
  stay_known = record { long = length-set known i one ∙ are.long; each = each }
