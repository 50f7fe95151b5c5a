use Rattle.std.proofs.Common.{◌≡◌, ◌∙◌, ap}
use Rattle.std.proofs.lemmas.Result.{IfOk-at_ok}
use Rattle.cat_commits.specs.Layouts.{CommitStart}
use Rattle.cat_commits.proofs.Listings.{all_listed}
use Rattle.cat_commits.proofs.Commits.{listed_fit}
use Rattle.cat_commits.proofs.decoding.assembled.Goals as goal

pub returns : goal.returns
returns c = λ told form tells.
    let fits = listed_fit told form.generation form.next_high form.listed in
    let text : c.in_ok-from_str.field-0 ≡ told.text = c.in_ok-from_str.ensures.ok ∙ ap (λ (s : CommitStart). s.text) tells.start in
    let schema : c.in_ok-schema.field-0 ≡ told.schema = IfOk-at_ok _ c.in_ok-schema.was tells.schema in
    let segments : c.in_ok-segments.field-0.items ≡ told.segments = c.in_ok-segments.ensures ∙ all_listed c.args.judged.listing.now told.segments tells.listing fits in
    λ i. record {
      version = ap (λ (s : CommitStart). s.version) tells.start i;
      generation = ap (λ (s : CommitStart). s.generation) tells.start i;
      token = ap (λ (s : CommitStart). s.token) tells.start i;
      next = ap (λ (s : CommitStart). s.next) tells.start i;
      text = text i;
      schema = schema i;
      segments = segments i;
    }
