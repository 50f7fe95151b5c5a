use Rattle.std.proofs.Common.{◌∙◌, ◌++◌, ◌∷◌, [], map, take, sym, ap, subst}
use Rattle.std.proofs.lemmas.List.{map-append, map_more, take_all}
use Rattle.std.proofs.lemmas.List.Elements.{All-more}
use Rattle.std.specs.Prelude.{All}
use Rattle.cat_model.specs.GlobalOrdinals.{leaf_dictionary}
use Rattle.cat_facets.specs.States.{HasLabels, IsFacetIn}
use Rattle.cat_facets.proofs.segments.all_labels_in.Goals as goal

pub labels_in-requires : goal.labels_in-requires
labels_in-requires c = subst (IsFacetIn c.args.dimension.now) (sym c.leaf-item.is) (c.requires c.loop-leaf.leaf-index c.leaf-item.result c.loop-leaf-test.true)

pub loop-leaf-preserved : goal.loop-leaf-preserved
loop-leaf-preserved c =
    let dimension = c.args.dimension.now in
    let leaves = c.args.leaves.now in
    let i = c.loop-leaf.leaf-index in
    let leaf = c.leaf-item.result in
    let sets = c.loop-leaf.sets.items in
    record {
      labels =
          ap (map (λ s. s.now)) c.in_ok-push.ensures.items ∙ map-append (λ s. s.now) sets (c.labels_in.result ∷ [])
          ∙ ap (λ ts. ts ++ c.labels_in.result.now ∷ []) c.loop-leaf.invariant.labels
          ∙ ap (λ t. map (leaf_dictionary dimension) (take i leaves) ++ t ∷ []) (c.labels_in.ensures.labels ∙ ap (leaf_dictionary dimension) c.leaf-item.is)
          ∙ sym (map_more (leaf_dictionary dimension) leaves i leaf c.loop-leaf-test.true);
      texts = All-more (HasLabels dimension) leaves i leaf c.loop-leaf-test.true c.loop-leaf.invariant.texts (subst (HasLabels dimension) c.leaf-item.is c.labels_in.ensures.texts);
    }

pub returns-clause-labels : goal.returns-clause-labels
returns-clause-labels c = c.loop-leaf.invariant.labels ∙ ap (map (leaf_dictionary c.args.dimension.now)) (take_all c.loop-leaf.leaf-index c.args.leaves.now c.loop-leaf-test.false)

pub returns-clause-texts : goal.returns-clause-texts
returns-clause-texts c = subst (λ ls. All (HasLabels c.args.dimension.now) ls) (take_all c.loop-leaf.leaf-index c.args.leaves.now c.loop-leaf-test.false) c.loop-leaf.invariant.texts
