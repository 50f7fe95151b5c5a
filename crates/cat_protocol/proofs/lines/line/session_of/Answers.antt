use Rattle.std.proofs.Common.{refl, sym, ◌∙◌, arith}
use Rattle.std.proofs.lemmas.Fmt.{decimal_injective}
use Rattle.cat_protocol.proofs.lines.line.session_of.Goals as goal

pub returns-in_default-clause-none : goal.returns-in_default-clause-none
returns-in_default-clause-none c = (
  refl,
  λ session small e.
      let found = c.in-Some.ensures.found in
      let same = decimal_injective c.in-Some.session session (omega (arith, found.0)) (omega arith) (sym found.1 ∙ e) in
      omega (arith, same, c.if-session.false),
)

pub returns-in-Some-clause-found : goal.returns-in-Some-clause-found
returns-in-Some-clause-found c = (omega (arith, c.if-session.true), c.in-Some.ensures.found.1)
