use Rattle.std.proofs.Common.{◌∙◌, ap}
use Rattle.std.specs.Prelude.{◌==◌}
use Rattle.std.specs.List.{list_any}
use Rattle.cat_lifetimes.specs.records.Counts.{recorded_token}
use Rattle.cat_lifetimes.specs.records.Records.{Records, has_token}
use Rattle.cat_lifetimes.proofs.records.Shown.{any-views}
use Rattle.cat_lifetimes.proofs.records.records.Records.is_recorded.Goals as goal

pub returns : goal.returns
returns c =
    c.is_some.ensures ∙ c.index_of.ensures.none
    ∙ ap (list_any (λ r. recorded_token r == c.args.token)) c.deref.ensures.value
    ∙ any-views c.self.inside.recorded.items c.args.token ∙ ap (λ (r : Records). has_token r.views c.args.token) c.self.view_is
