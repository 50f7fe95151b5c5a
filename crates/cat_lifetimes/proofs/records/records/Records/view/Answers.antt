use Rattle.std.proofs.Common.{◌∙◌, Some, None, ap}
use Rattle.std.specs.Prelude.{◌==◌, find}
use Rattle.cat_lifetimes.specs.records.Counts.{recorded_token}
use Rattle.cat_lifetimes.specs.records.Records.{Records}
use Rattle.cat_lifetimes.proofs.records.Shown.{view_found}
use Rattle.cat_lifetimes.proofs.records.records.Records.view.Goals as goal

pub returns-in_err-recorded : goal.returns-in_err-recorded
returns-in_err-recorded c =
    let found = c.in_err-recorded.ensures ∙ ap (find (λ r. recorded_token r == c.args.token)) c.deref.ensures.value in
    rw c.from_residual.ensures (view_found c.self.inside.recorded.items c.args.token None found ∙ ap (λ (r : Records). find (λ v. v.token == c.args.token) r.views) c.self.view_is)

pub returns : goal.returns
returns c =
    let found = c.in_ok-recorded.ensures ∙ ap (find (λ r. recorded_token r == c.args.token)) c.deref.ensures.value in
    view_found c.self.inside.recorded.items c.args.token (Some c.in_ok-recorded.recorded.now) found ∙ ap (λ (r : Records). find (λ v. v.token == c.args.token) r.views) c.self.view_is
