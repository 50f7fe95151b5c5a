use Rattle.std.proofs.Common.{◌∙◌, List, ap}
use Rattle.std.specs.Map.{lookup}
use Rattle.cat_model.specs.State as state
use Rattle.cat_views.specs.Holds.{HeldView}
use Rattle.cat_lifetimes.specs.rights.Rights.{right_of}
use Rattle.cat_lifetimes.proofs.rights.Entries.{same_as, shown}
use Rattle.cat_lifetimes.proofs.rights.rights.Rights.get.Goals as goal

pub returns : goal.returns
returns c =
    let es : List (state.Hold × HeldView) = c.self.inside.holds.entries in
    c.get.ensures.value
    ∙ ap (λ (l : state.Hold). lookup (same_as l) es) c.new.ensures
    ∙ shown es c.self.invariant c.args.session c.args.token
    ∙ ap (λ (rs : List HeldView). right_of rs c.args.session c.args.token) c.self.view_is
