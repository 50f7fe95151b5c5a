use Rattle.std.proofs.Common.{◌∙◌, sym, subst}
use Rattle.cat_threads.specs.cat_commands.cat_lifetimes.rights.Rights.{right_of}
use Rattle.cat_callers.specs.Sessions.{Kept}
use Rattle.cat_callers.specs.Told.{Holds}
use Rattle.cat_callers.proofs.Telling.{is_found}
use Rattle.cat_callers.proofs.holdings.Holdings.tell_held.Goals as goal

pub returns-then-is_some-clause-held : goal.returns-then-is_some-clause-held
returns-then-is_some-clause-held c =
    subst (λ (k : Kept). Holds k.rights k.session c.args.token) c.self.view_is
    (is_found (λ h. h.now) c.get.result (right_of c.self.inside.rights c.self.inside.number c.args.token)
    (sym c.is_some.ensures ∙ c.if-is_some.true) c.get.ensures)
