use Rattle.std.proofs.Common.{◌≤◌, ◌∙◌, map, sym, ap, subst, not}
use Rattle.cat_directory.specs.Names.{name_of}
use Rattle.cat_ledger_laws.specs.model.Users.{users_of, times}
use Rattle.cat_ledger_laws.specs.shape.Steps.{IsPruned}
use Rattle.cat_ledger_laws.proofs.shape.Views.{prunes_keep}
use Rattle.cat_lifetimes.specs.records.Records.{stays_in}
use Rattle.cat_ledger_state.specs.Cores.{shape_of_core}
use Rattle.cat_ledger_state.proofs.Viewing.{gone_fit, prune_is}
use Rattle.cat_ledger_state.proofs.Known.{given_past}
use Rattle.cat_ledger_state.proofs.state.Core.prune.Goals as goal

pub give-requires : goal.give-requires
give-requires c = λ q. subst (λ names. times q names ≤ users_of c.self.inside.refs q) (sym (ap (map name_of) c.deref.ensures.value ∙ c.in_ok-given.ensures))
    (gone_fit (shape_of_core c.self.inside) (λ v. not (stays_in c.self.inside.records c.args.count v)) c.self.invariant.shape q)

pub invariant_of-self : goal.invariant_of-self
invariant_of-self c =
    let pruned = prune_is (shape_of_core c.self.inside) c.args.count c.prune.new.self c.give.new.self (map name_of c.deref.result.now) c.prune.ensures.pruned
    (ap (map name_of) c.deref.ensures.value ∙ c.in_ok-given.ensures) c.give.ensures in
    record {
      shape = prunes_keep c.args.count (shape_of_core c.self.inside) _ pruned c.self.invariant.shape;
      waits = c.self.invariant.waits;
      few = c.self.invariant.few;
      merges = c.self.invariant.merges;
      known = given_past _ _ _ _ _ c.give.ensures c.self.invariant.known;
    }

pub returns-clause-ok : goal.returns-clause-ok
returns-clause-ok c =
    let pruned = prune_is (shape_of_core c.self.inside) c.args.count c.prune.new.self c.give.new.self (map name_of c.deref.result.now) c.prune.ensures.pruned
    (ap (map name_of) c.deref.ensures.value ∙ c.in_ok-given.ensures) c.give.ensures in
    let new = record (shape_of_core c.self.inside) { views = c.prune.new.self.views; holds = c.prune.new.self.holds; users = c.give.new.self } in
    subst (λ s. IsPruned c.args.count s new) c.self.view_is pruned
