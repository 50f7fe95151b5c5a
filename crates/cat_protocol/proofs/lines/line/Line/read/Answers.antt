use Rattle.std.proofs.Common.{◌≡◌, arith}
use Rattle.std.specs.Fmt.{decimal}
use Rattle.std.proofs.lemmas.Grind.{elements}
use Rattle.cat_protocol.proofs.lines.WordsSpelled.{reads, refused, no_session, no_session_alone}
use Rattle.cat_protocol.proofs.lines.line.Line.read.Goals as goal

pub returns-in_err-session-clause-none : goal.returns-in_err-session-clause-none
returns-in_err-session-clause-none c =
    let none = c.in_err-session.ensures.none in
    refused _ _ _ c.from_residual.ensures.1 none.0 (no_session_alone c.args.text.now c.in_default.ensures.none none.1)

pub returns-in_err-session-2-clause-none : goal.returns-in_err-session-2-clause-none
returns-in_err-session-2-clause-none c =
    let none = c.in_err-session-2.ensures.none in
    let split = c.in-Some.ensures in
    refused _ _ _ c.from_residual-in_err-session-2.ensures.1 none.0 (no_session c.args.text.now c.in-Some.first.now c.in-Some.rest.now split.found split.first none.1)

pub returns-clause-found : goal.returns-clause-found
returns-clause-found c =
    let session = c.in_ok-session-2.ensures.found in
    let split = c.in-Some.ensures in
    let first : c.in-Some.first.now ≡ decimal c.in_ok-session-2.session = session.1 in
    reads c.args.text.now c.in-Some.rest.now c.in_ok-session-2.session _ session.0 (rw first at split.found) c.read.ensures

pub returns-in_default-clause-found : goal.returns-in_default-clause-found
returns-in_default-clause-found c = grind (arith, elements)
