use Rattle.std.proofs.Common.{◌∙◌, sym, ap, subst}
use Rattle.std.specs.Prelude.{All, Contains}
use Rattle.cat_model.specs.Ordinals.{dictionary_of}
use Rattle.cat_facets.proofs.segments.known_of.Goals as goal

pub remap-requires-clause-there : goal.remap-requires-clause-there
remap-requires-clause-there c = subst (λ ts. All (Contains c.args.labels.now) ts) (sym c.labels_in.ensures.labels) c.requires.there

pub returns : goal.returns
returns c = record {
  ok = record {
    ordinals = record {
      texts = c.in_ok-remap.ensures.texts ∙ c.labels_in.ensures.labels ∙ ap dictionary_of c.labels_in.ensures.texts;
      within = c.in_ok-remap.ensures.bound;
    };
    labelled = tt;
  };
}
