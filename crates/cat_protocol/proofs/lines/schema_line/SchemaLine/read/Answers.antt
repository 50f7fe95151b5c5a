use Rattle.std.proofs.Common.{◌≡◌, ◌∷◌, ◌++◌, sym, ◌∙◌, arith}
use Rattle.std.proofs.lemmas.Bool.Decides.{nat_tests}
use Rattle.std.specs.Fmt.{decimal}
use Rattle.cat_protocol.proofs.lines.WordsSplit.{one_number}
use Rattle.cat_protocol.proofs.lines.schema_line.SchemaLine.read.Goals as goal
use Rattle.cat_protocol.proofs.lines.schema_line.SchemaLine.read.Goals.{then-not-contains-via-then-not-contains, then-not-contains-via-else-not-contains+then-not-contains-2}

pub returns-in_err-least-clause-none : goal.returns-in_err-least-clause-none
returns-in_err-least-clause-none c = rw c.from_residual-in_err-least.ensures (λ factor least json h.
    let behind : c.in_ok-rest.rest.now ≡ decimal factor ++ 32 ∷ (decimal least ++ 32 ∷ json) = let cut = c.in_ok-rest.ensures.cases in cc (cut.1.1, cut.2, h.spelled) in
    let first = c.in_ok-factor.ensures.found in
    let front = one_number _ factor _ _ first.0 (omega (arith, h.factor_high)) (sym first.1 ∙ behind) in
    c.in_err-least.ensures.none least json (omega (arith, h.least_high)) front.1)

pub returns-then-not-contains-clause-none : goal.returns-then-not-contains-clause-none
returns-then-not-contains-clause-none c = λ factor least json h.
    let behind : c.in_ok-rest.rest.now ≡ decimal factor ++ 32 ∷ (decimal least ++ 32 ∷ json) = let cut = c.in_ok-rest.ensures.cases in cc (cut.1.1, cut.2, h.spelled) in
    let first = c.in_ok-factor.ensures.found in
    let front = one_number _ factor _ _ first.0 (omega (arith, h.factor_high)) (sym first.1 ∙ behind) in
    let second = c.in_ok-least.ensures.found in
    let back = one_number _ least _ _ second.0 (omega (arith, h.least_high)) (sym second.1 ∙ front.1) in
    elim c.then-not-contains.branch [
      | then-not-contains-via-then-not-contains w ↦
          let outside = w.if-not-contains.ensures.value in
          let range = c.new.ensures in grind (arith, nat_tests)
      | then-not-contains-via-else-not-contains+then-not-contains-2 w ↦
          let outside = w.if-not-contains-2.ensures.value in
          let range = w.new-else-not-contains.ensures in grind (arith, nat_tests)
    ]
