use Rattle.std.proofs.Common.{List, [], sym, subst}
use Rattle.std.specs.Prelude.{OnErr, OnOk}
use Rattle.cat_directory.specs.declared.name.FileName.{FileName}
use Rattle.cat_ledger_laws.specs.model.Users.{Changes}
use Rattle.cat_lifetimes.specs.refs.Counts.{names_in}
use Rattle.cat_ledger_state.proofs.installs.end_moves.Goals as goal

pub returns-clause-err : goal.returns-clause-err
returns-clause-err c =
    subst (λ r. OnErr r (Changes [] (names_in c.args.moves.taken.items) c.args.refs.now c.give-in-Err.new.self)) (sym c.in-Err.is)
    (subst (λ (ns : List FileName). Changes [] (names_in ns) c.args.refs.now c.give-in-Err.new.self) c.deref-in-Err.ensures.value c.give-in-Err.ensures)

pub returns-in-Ok-clause-ok : goal.returns-in-Ok-clause-ok
returns-in-Ok-clause-ok c =
    subst (λ r. OnOk r (Changes [] (names_in c.args.moves.given.items) c.args.refs.now c.give.new.self)) (sym c.in-Ok.is)
    (subst (λ (ns : List FileName). Changes [] (names_in ns) c.args.refs.now c.give.new.self) c.deref.ensures.value c.give.ensures)
