use Rattle.std.proofs.Common.{codes, true≢false, sym, ◌∙◌, arith}
use Rattle.std.specs.Prelude.{None, Some}
use Rattle.std.proofs.lemmas.Slice.Eq.{bytes_eq-Decides}
use Rattle.std.proofs.lemmas.Str.Pattern.{strip_prefix_char}
use Rattle.cat_protocol.proofs.lines.WordsSplit.{no_sort}
use Rattle.cat_protocol.proofs.lines.sort.spelled_sort.Goals as goal

pub returns-in_err-name-clause-none : goal.returns-in_err-name-clause-none
returns-in_err-name-clause-none c =
    let word = c.args.word.now in
    rw c.from_residual.ensures (no_sort word (λ e. true≢false (sym ((bytes_eq-Decides word (codes ".")).1 e) ∙ sym c.if-eq.ensures))
    (strip_prefix_char 43 word None c.in_default.ensures.cases (omega arith)) (strip_prefix_char 45 word None c.in_err-name.ensures.cases (omega arith)))

pub returns-in-Some-clause-found : goal.returns-in-Some-clause-found
returns-in-Some-clause-found c =
    let spelled = strip_prefix_char 43 c.args.word.now (Some c.in-Some.name) c.in-Some.ensures.cases (omega arith) in
    rw spelled c.rising.ensures.found

pub returns-in-Some-clause-none : goal.returns-in-Some-clause-none
returns-in-Some-clause-none c =
    let spelled = strip_prefix_char 43 c.args.word.now (Some c.in-Some.name) c.in-Some.ensures.cases (omega arith) in
    rw spelled c.rising.ensures.none

pub returns-clause-found : goal.returns-clause-found
returns-clause-found c =
    let spelled = strip_prefix_char 45 c.args.word.now (Some c.in_ok-name.name) c.in_ok-name.ensures.cases (omega arith) in
    rw spelled c.falling.ensures.found

pub returns-clause-none : goal.returns-clause-none
returns-clause-none c =
    let spelled = strip_prefix_char 45 c.args.word.now (Some c.in_ok-name.name) c.in_ok-name.ensures.cases (omega arith) in
    rw spelled c.falling.ensures.none
