use Rattle.std.proofs.Common.{ℕ, ◌%◌, ap}
use Rattle.cat_model.proofs.Sayings.{one_session}
use Rattle.cat_callers.proofs.routes.place_of.Goals as goal

pub returns-in-Some : goal.returns-in-Some
returns-in-Some c = λ session shows some.
    ap (λ (s : ℕ). s % c.args.threads) (one_session c.args.line.now c.in-Some.session session c.in-Some.ensures.shown shows)
