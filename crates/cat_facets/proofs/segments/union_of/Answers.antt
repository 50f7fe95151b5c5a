use Rattle.std.proofs.Common.{◌∙◌, ap, map}
use Rattle.cat_model.specs.Ordinals.{dictionary_of}
use Rattle.cat_facets.proofs.segments.union_of.Goals as goal

pub returns-clause-ok : goal.returns-clause-ok
returns-clause-ok c = c.in_ok-labels.ensures.ok ∙ ap dictionary_of (ap (map (λ s. s.now)) c.deref.ensures.value ∙ c.in_ok-all_labels_in.ensures.labels)
