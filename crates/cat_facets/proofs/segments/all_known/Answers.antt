use Rattle.std.proofs.Common.{◌≡◌, ℕ, ◌+◌, ◌<◌, List, ◌++◌, ◌∷◌, [], length, get_or, map, sym, ap, ◌∙◌, arith, subst, length-append}
use Rattle.std.proofs.lemmas.List.{get_or-map, get_or_default, length-map}
use Rattle.std.specs.Prelude.{All, Contains}
use Rattle.cat_model.specs.Text.{Text}
use Rattle.cat_model.specs.View.{Leaf}
use Rattle.cat_facets.specs.declared.segments.SegmentLabels.{SegmentLabels}
use Rattle.cat_model.specs.GlobalOrdinals.{leaf_dictionary}
use Rattle.cat_facets.specs.States.{IsKnown}
use Rattle.cat_facets.specs.Tallies.{leaf_labels}
use Rattle.cat_facets.proofs.Leaves.{each_push, texts_there}
use Rattle.cat_facets.proofs.segments.all_known.Goals as goal

pub known_of-requires-clause-there : goal.known_of-requires-clause-there
known_of-requires-clause-there c =
    let dimension = c.args.dimension.now in
    let leaves = c.args.leaves.now in
    let leaf = c.leaf-item.result in
    let at : leaf_dictionary dimension leaf ≡ get_or (map (leaf_dictionary dimension) leaves) c.loop-leaf.leaf-index (leaf_dictionary dimension leaf) =
    ap (leaf_dictionary dimension) c.leaf-item.is ∙ sym (get_or-map (leaf_dictionary dimension) leaves c.loop-leaf.leaf-index leaf (leaf_dictionary dimension leaf) c.loop-leaf-test.true) in
    subst (λ (ds : List Text). All (Contains ds) (leaf_dictionary dimension leaf)) (sym c.requires.all)
    (texts_there (map (leaf_dictionary dimension) leaves) c.loop-leaf.leaf-index (leaf_dictionary dimension leaf) (omega (arith, c.loop-leaf-test.true, length-map leaves (leaf_dictionary dimension))) at)

-- one segment more
more : (dimension : Text) (all : List Text) (leaves : List Leaf) (known : List SegmentLabels) (leaf : Leaf) (one : SegmentLabels) (new : List SegmentLabels) (n : ℕ) → length known ≡ n → n < length leaves
    → leaf ≡ get_or leaves n leaf → IsKnown all (leaf_labels dimension leaf) one → new ≡ known ++ one ∷ []
    → ((i : ℕ) (l : Leaf) (d : SegmentLabels) → i < n → IsKnown all (leaf_labels dimension (get_or leaves i l)) (get_or known i d))
    → (i : ℕ) (l : Leaf) (d : SegmentLabels) → i < n + 1 → IsKnown all (leaf_labels dimension (get_or leaves i l)) (get_or new i d)
more dimension all leaves known leaf one new n long lt at is pushed each = λ i l d below.
    let P : ℕ → SegmentLabels → Type 0 = λ k x. (l : Leaf) → IsKnown all (leaf_labels dimension (get_or leaves k l)) x in
    let last : P (length known) one = λ m.
    subst (λ x. IsKnown all (leaf_labels dimension x) one) (at ∙ get_or_default leaves n leaf m lt ∙ ap (λ k. get_or leaves k m) (sym long)) is in
    let before = λ (k : ℕ) (x : SegmentLabels) (b : k < length known). λ (m : Leaf). each k m x (omega (arith, b, long)) in
    subst (λ (xs : List SegmentLabels). IsKnown all (leaf_labels dimension (get_or leaves i l)) (get_or xs i d)) (sym pushed) (each_push P known one before last i d (omega (arith, long)) l)

pub loop-leaf-preserved : goal.loop-leaf-preserved
loop-leaf-preserved c =
    let known = c.loop-leaf.known.items in
    let one = c.in_ok-known_of.field-0 in
    record {
      long = ap length c.in_ok-push.ensures.items ∙ length-append known (one ∷ []) ∙ ap (λ n. n + 1) c.loop-leaf.invariant.long;
      each = more c.args.dimension.now c.args.labels.now c.args.leaves.now known c.leaf-item.result one c.push.new.self.items c.loop-leaf.leaf-index c.loop-leaf.invariant.long c.loop-leaf-test.true
          c.leaf-item.is c.in_ok-known_of.ensures.ok c.in_ok-push.ensures.items c.loop-leaf.invariant.each;
    }
