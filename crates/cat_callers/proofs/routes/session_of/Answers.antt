use Rattle.std.proofs.Common.{◌∙◌, ◌≤◌, sym, arith}
use Rattle.std.proofs.lemmas.Fmt.{decimal_injective}
use Rattle.cat_callers.proofs.Spelled.{is_text}
use Rattle.cat_callers.proofs.routes.session_of.Goals as goal

pub returns-in_default-clause-none : goal.returns-in_default-clause-none
returns-in_default-clause-none c = λ session shows.
    c.in_default.ensures.cases.0 (is_text c.first_word.result.now session shows.small (c.first_word.ensures.spelled session shows))

pub returns-in_default-parse_number-clause-none : goal.returns-in_default-parse_number-clause-none
returns-in_default-parse_number-clause-none c = λ session shows.
    let small : session ≤ 9999 = shows.small in
    let spelled = c.in-Ok.ensures.cases.0 ∙ c.first_word.ensures.spelled session shows in
    let found = c.in-Some.ensures.found in
    let same = decimal_injective c.in-Some.session session (omega (arith, found.0)) (omega arith) (sym found.1 ∙ spelled) in
    omega (arith, same, c.if-session.false)
