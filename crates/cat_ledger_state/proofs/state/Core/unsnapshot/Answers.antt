use Rattle.std.proofs.Common.{List, map, filter, not, Some, ◌∙◌, ap, subst}
use Rattle.cat_model.specs.CommitFile.{CommitFile}
use Rattle.cat_directory.specs.Names.{name_of}
use Rattle.cat_ledger_laws.specs.shape.Shapes.{names_of_commits}
use Rattle.cat_ledger_laws.specs.shape.Steps.{IsUnsnapped, newest_generation}
use Rattle.cat_ledger_laws.proofs.shape.Committed.{unsnaps_keep}
use Rattle.cat_ledger_state.specs.Commits.{stays_with}
use Rattle.cat_ledger_state.specs.Cores.{shape_of_core}
use Rattle.cat_ledger_state.proofs.Committing.{leaving_fit}
use Rattle.cat_ledger_state.proofs.Releasing.{unsnapped_is}
use Rattle.cat_ledger_state.proofs.Known.{given_past}
use Rattle.cat_ledger_state.proofs.state.Core.unsnapshot.Goals as goal

pub give-requires : goal.give-requires
give-requires c =
    let given = ap (map name_of) c.deref-3.ensures.value ∙ c.in_ok-given.ensures
    ∙ ap (λ (cs : List CommitFile). names_of_commits (filter (λ (d : CommitFile). not (stays_with c.self.inside.snapshots (Some c.args.generation) c.newest_of-newest.result d.generation)) cs))
    c.deref-2.ensures.value in
    leaving_fit (shape_of_core c.self.inside) (λ n. not (stays_with c.self.inside.snapshots (Some c.args.generation) c.newest_of-newest.result n))
    (map name_of c.deref-3.result.now) c.self.invariant.shape given

pub invariant_of-self-2 : goal.invariant_of-self-2
invariant_of-self-2 c =
    let given = ap (map name_of) c.deref-3.ensures.value ∙ c.in_ok-given.ensures
    ∙ ap (λ (cs : List CommitFile). names_of_commits (filter (λ (d : CommitFile). not (stays_with c.self.inside.snapshots (Some c.args.generation) c.newest_of-newest.result d.generation)) cs))
    c.deref-2.ensures.value in
    let newest = c.newest_of-newest.ensures ∙ ap newest_generation c.deref.ensures.value in
    let unsnapped = unsnapped_is (shape_of_core c.self.inside) c.args.generation c.in_ok-left.left c.newest_of-newest.result c.release.new.self c.keep_staying.new.commits.items
    (map name_of c.deref-3.result.now) c.give.new.self newest c.in_ok-left.ensures.ok.0 c.in_ok-left.ensures.ok.1 given c.keep_staying.ensures c.give.ensures in
    record {
      shape = unsnaps_keep c.args.generation (shape_of_core c.self.inside) _ unsnapped c.self.invariant.shape;
      waits = c.self.invariant.waits;
      few = c.self.invariant.few;
      merges = c.self.invariant.merges;
      known = given_past _ _ _ _ _ c.give.ensures c.self.invariant.known;
    }

pub returns-clause-ok : goal.returns-clause-ok
returns-clause-ok c =
    let given = ap (map name_of) c.deref-3.ensures.value ∙ c.in_ok-given.ensures
    ∙ ap (λ (cs : List CommitFile). names_of_commits (filter (λ (d : CommitFile). not (stays_with c.self.inside.snapshots (Some c.args.generation) c.newest_of-newest.result d.generation)) cs))
    c.deref-2.ensures.value in
    let newest = c.newest_of-newest.ensures ∙ ap newest_generation c.deref.ensures.value in
    let unsnapped = unsnapped_is (shape_of_core c.self.inside) c.args.generation c.in_ok-left.left c.newest_of-newest.result c.release.new.self c.keep_staying.new.commits.items
    (map name_of c.deref-3.result.now) c.give.new.self newest c.in_ok-left.ensures.ok.0 c.in_ok-left.ensures.ok.1 given c.keep_staying.ensures c.give.ensures in
    let new = record (shape_of_core c.self.inside) {
      taken = c.release.new.self;
      commits = c.keep_staying.new.commits.items;
      users = c.give.new.self;
    } in
    subst (λ s. IsUnsnapped c.args.generation s new) c.self.view_is unsnapped
