use Rattle.std.proofs.Common.{◌≡◌, ◌++◌, [], sym, ap, subst}
use Rattle.std.specs.Prelude.{MatchOption}
use Rattle.std.proofs.lemmas.List.{nil_from_length}
use Rattle.cat_search.specs.Steps.{IsNextRow, rows_of_parts_from}
use Rattle.cat_search.proofs.steps.next_step.Goals as goal

pub returns-in-Some : goal.returns-in-Some
returns-in-Some c = record { within = c.requires; rows = ap (λ l. l ++ rows_of_parts_from c.args.parts.now c.args.next) c.in-Some.ensures.cases.0 }

pub returns-in-None : goal.returns-in-None
returns-in-None c =
    let none : c.args.left.now ≡ [] = nil_from_length c.args.left.now c.in-None.ensures.cases in
    subst (λ l. MatchOption c.first_from.result (l ++ rows_of_parts_from c.args.parts.now c.args.next ≡ []) (λ step. IsNextRow c.args.parts.now c.args.next l step.0 step.1 step.2.now)) (sym none) c.first_from.ensures
