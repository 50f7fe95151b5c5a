use Rattle.std.proofs.Common.{◌≡◌, ◌∙◌, find, sym, ap}
use Rattle.cat_facets.specs.Kept.{is_kept_as, segment_numbers, others}
use Rattle.cat_model.specs.View.{segments_of}
use Rattle.cat_facets.proofs.Kept.{found_is}
use Rattle.cat_facets.proofs.states.ReaderStates.take.Goals as goal

pub returns-in-Some-clause-ok : goal.returns-in-Some-clause-ok
returns-in-Some-clause-ok c =
    let dimension = c.args.dimension.now in
    let ks = c.args.self.now in
    let numbered : c.deref.result.now ≡ segment_numbers (segments_of c.args.view.now.leaves) =
    c.deref.ensures.value ∙ c.in_ok-numbers.ensures ∙ ap (λ ls. segment_numbers (segments_of ls)) c.leaves.ensures.value in
    found_is (segments_of c.args.view.now.leaves) dimension ks c.requires.known c.in-Some.kept
    (sym (c.in-Some.ensures.found ∙ ap (λ ns. find (is_kept_as ns dimension) ks) numbered))

pub returns-in-Some-clause-others : goal.returns-in-Some-clause-others
returns-in-Some-clause-others c =
    let numbered : c.deref.result.now ≡ segment_numbers (segments_of c.args.view.now.leaves) =
    c.deref.ensures.value ∙ c.in_ok-numbers.ensures ∙ ap (λ ls. segment_numbers (segments_of ls)) c.leaves.ensures.value in
    c.in-Some.ensures.others ∙ ap (λ ns. others ns c.args.dimension.now c.args.self.now) numbered

pub returns-clause-others : goal.returns-clause-others
returns-clause-others c =
    let numbered : c.deref.result.now ≡ segment_numbers (segments_of c.args.view.now.leaves) =
    c.deref.ensures.value ∙ c.in_ok-numbers.ensures ∙ ap (λ ls. segment_numbers (segments_of ls)) c.leaves.ensures.value in
    c.in_default.ensures.others ∙ ap (λ ns. others ns c.args.dimension.now c.args.self.now) numbered
