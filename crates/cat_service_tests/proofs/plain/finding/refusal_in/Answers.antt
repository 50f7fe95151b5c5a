use Rattle.std.proofs.Common.{refl, inl, inr}
use Rattle.cat_service_tests.proofs.plain.finding.refusal_in.Goals as goal

pub returns-in-Some : goal.returns-in-Some
returns-in-Some c = λ q. inl (c.in-Some.ensures q)

pub returns-in-None : goal.returns-in-None
returns-in-None c = λ q. inr (refl, _, c.in-None.ensures q)
