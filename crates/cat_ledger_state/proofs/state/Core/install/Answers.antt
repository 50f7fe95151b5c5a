use Rattle.std.proofs.Common.{◌≤◌, ◌∙◌, [], ◌∷◌, inl, length, Option, refl, sym, ap, subst, arith}
use Rattle.std.specs.Prelude.{option_map}
use Rattle.cat_model.specs.Files.{Name}
use Rattle.cat_model.specs.Limits.{segment_limit}
use Rattle.cat_merge.specs.files.Making.{InMaking}
use Rattle.cat_ledger_laws.specs.model.Users.{Changes}
use Rattle.cat_ledger_laws.proofs.shape.MergeInstalls.{installs_keep}
use Rattle.cat_ledger_state.specs.Cores.{StayKnown, shape_of_core}
use Rattle.cat_ledger_state.proofs.Counting.{known_after}
use Rattle.cat_ledger_state.specs.Installs.{HasAllPassed, HasFailed, HasInstalled, IsOfMerge}
use Rattle.cat_ledger_state.proofs.Merging.{of_merge, source_counted, still_under, none_under}
use Rattle.cat_ledger_state.proofs.Failing.{writing_counts}
use Rattle.cat_ledger_state.proofs.Installing.{may_install, fails, fails_keep, installs, no_longer, installed_has, failed_has}
use Rattle.cat_ledger_state.proofs.Known.{given_past, merged_past, merging_taken, taken_past}
use Rattle.cat_ledger_state.proofs.state.Core.install.Goals as goal

pub install_merged-done-requires : goal.install_merged-done-requires
install_merged-done-requires g c =
    let some = sym c.take.ensures.value ∙ c.in-Some.is in
    let given = subst (λ n. Changes [] (Name.source n ∷ []) c.self.inside.refs c.give_source.new.refs) c.number.ensures c.give_source.ensures in
    may_install (shape_of_core c.self.inside) c.in-Some.merge c.len.result c.give_source.new.refs c.self.invariant.shape (ap (option_map (λ m. m.shape)) some)
    (still_under c.self.inside.schema c.self.inside.merging c.in-Some.merge some c.self.invariant.merges)
    (subst (λ s. HasAllPassed s.merging) (sym c.self.view_is) c.requires) c.len.ensures.len c.len.ensures.few given

pub invariant_of-self : goal.invariant_of-self
invariant_of-self g c =
    let some = sym c.take.ensures.value ∙ c.in-Some.is in
    let given = subst (λ n. Changes [] (Name.source n ∷ []) c.self.inside.refs c.give_source.new.refs) c.number.ensures c.give_source.ensures in
    let f = fails (shape_of_core c.self.inside) c.in-Some.merge c.give_source.new.refs c.install_merged-done.new.refs c.install_merged-done.new.current c.take.new.self
    c.self.invariant.shape (ap (option_map (λ m. m.shape)) some) given c.in-Err.ensures.err c.take.ensures.after c.in-Err.ensures.same in
    record {
      shape = fails_keep (shape_of_core c.self.inside) c.in-Some.merge.shape _ f c.self.invariant.shape;
      waits = c.self.invariant.waits;
      few = subst (λ ls. length ls ≤ segment_limit) (sym c.in-Err.ensures.err) c.self.invariant.few;
      merges = none_under c.self.inside.schema c.take.new.self c.take.ensures.after;
      known = c.in-Err.ensures.past c.self.inside.next_segment c.self.inside.next_generation
          (merging_taken (shape_of_core c.self.inside) c.in-Some.merge.shape c.self.invariant.shape (ap (option_map (λ m. m.shape)) some))
          (given_past _ _ _ _ _ c.give_source.ensures c.self.invariant.known);
    }

pub returns-in-Err-clause-err : goal.returns-in-Err-clause-err
returns-in-Err-clause-err g c =
    let some = sym c.take.ensures.value ∙ c.in-Some.is in
    let given = subst (λ n. Changes [] (Name.source n ∷ []) c.self.inside.refs c.give_source.new.refs) c.number.ensures c.give_source.ensures in
    let f = fails (shape_of_core c.self.inside) c.in-Some.merge c.give_source.new.refs c.install_merged-done.new.refs c.install_merged-done.new.current c.take.new.self
    c.self.invariant.shape (ap (option_map (λ m. m.shape)) some) given c.in-Err.ensures.err c.take.ensures.after c.in-Err.ensures.same in
    let new = record (shape_of_core c.self.inside) {
      leaves = c.install_merged-done.new.current;
      merging = option_map (λ m. m.shape) c.take.new.self;
      users = c.install_merged-done.new.refs;
    } in
    let told = g.D.Holder.bytes c.args.device.now in
    let told' = g.D.Holder.bytes c.install_merged-done.new.device in
    subst (λ s. HasFailed told s told' new) c.self.view_is
    (failed_has (shape_of_core c.self.inside) new c.in-Some.merge told told' f c.in-Err.ensures.others)

pub invariant_of-self-2 : goal.invariant_of-self-2
invariant_of-self-2 g c =
    let some = sym c.take.ensures.value ∙ c.in-Some.is in
    let making = ap (option_map (λ m. m.shape)) some in
    let given = subst (λ n. Changes [] (Name.source n ∷ []) c.self.inside.refs c.give_source.new.refs) c.number.ensures c.give_source.ensures in
    let is = installs (shape_of_core c.self.inside) c.in-Some.merge c.give_source.new.refs c.install_merged-done.new.refs c.install_merged-done.new.current c.take.new.self
    making (still_under c.self.inside.schema c.self.inside.merging c.in-Some.merge some c.self.invariant.merges)
    (subst (λ s. HasAllPassed s.merging) (sym c.self.view_is) c.requires) given c.in_default-done.ensures.users c.in_default-done.ensures.ok c.take.ensures.after in
    record {
      shape = installs_keep c.in-Some.merge.shape (shape_of_core c.self.inside) _ is c.self.invariant.shape;
      waits = c.self.invariant.waits;
      few = no_longer (shape_of_core c.self.inside) c.in-Some.merge c.install_merged-done.new.current segment_limit c.self.invariant.shape making c.self.invariant.few
          c.in_default-done.ensures.ok;
      merges = none_under c.self.inside.schema c.take.new.self c.take.ensures.after;
      known = taken_past _ _ _ _ c.self.inside.next_segment c.self.inside.next_generation c.self.inside.next_segment c.self.inside.next_generation (omega arith) (omega arith)
          (merged_past c.self.inside.next_segment c.self.inside.next_generation c.in-Some.merge c.self.inside.current
          (merging_taken (shape_of_core c.self.inside) c.in-Some.merge.shape c.self.invariant.shape making))
          c.in_default-done.ensures.users (given_past _ _ _ _ _ c.give_source.ensures c.self.invariant.known);
    }

pub returns-clause-ok : goal.returns-clause-ok
returns-clause-ok g c =
    let some = sym c.take.ensures.value ∙ c.in-Some.is in
    let under = still_under c.self.inside.schema c.self.inside.merging c.in-Some.merge some c.self.invariant.merges in
    let given = subst (λ n. Changes [] (Name.source n ∷ []) c.self.inside.refs c.give_source.new.refs) c.number.ensures c.give_source.ensures in
    let is = installs (shape_of_core c.self.inside) c.in-Some.merge c.give_source.new.refs c.install_merged-done.new.refs c.install_merged-done.new.current c.take.new.self
    (ap (option_map (λ m. m.shape)) some) under
    (subst (λ s. HasAllPassed s.merging) (sym c.self.view_is) c.requires) given c.in_default-done.ensures.users c.in_default-done.ensures.ok c.take.ensures.after in
    let new = record (shape_of_core c.self.inside) {
      leaves = c.install_merged-done.new.current;
      merging = option_map (λ m. m.shape) c.take.new.self;
      users = c.install_merged-done.new.refs;
    } in
    let told = g.D.Holder.bytes c.args.device.now in
    let told' = g.D.Holder.bytes c.install_merged-done.new.device in
    subst (λ s. HasInstalled told s told' new) c.self.view_is
    (installed_has (shape_of_core c.self.inside) new c.in-Some.merge told told' is under c.in_default-done.ensures.others c.in_default-done.ensures.written)

pub returns-in-Err-clause-known : goal.returns-in-Err-clause-known
returns-in-Err-clause-known g c =
    subst (λ s. StayKnown s.users c.install_merged-done.new.refs) c.self.view_is
    (λ q there. c.in-Err.ensures.known q (known_after _ _ c.self.inside.refs c.give_source.new.refs c.give_source.ensures q there))

pub returns-in-Err-clause-crash : goal.returns-in-Err-clause-crash
returns-in-Err-clause-crash g c = λ q apart. c.in-Err.ensures.crash q (λ is. apart (
    subst (λ s. IsOfMerge s.merging q) c.self.view_is
    (of_merge (λ o. IsOfMerge o q) c.self.inside.merging c.in-Some.merge (sym c.take.ensures.value ∙ c.in-Some.is) (inl is))))

pub returns-in-Err-clause-fails : goal.returns-in-Err-clause-fails
returns-in-Err-clause-fails g c = c.in-Err.ensures.fails

pub returns-in-Err-clause-rises : goal.returns-in-Err-clause-rises
returns-in-Err-clause-rises g c = (writing_counts _ c.in-Err.ensures.fails).rises

pub returns-in-Err-clause-refusal : goal.returns-in-Err-clause-refusal
returns-in-Err-clause-refusal g c = c.in-Err.ensures.refusal

pub returns-clause-crash : goal.returns-clause-crash
returns-clause-crash g c = λ q apart. c.in_default-done.ensures.crash q (λ is. apart (
    subst (λ s. IsOfMerge s.merging q) c.self.view_is
    (of_merge (λ o. IsOfMerge o q) c.self.inside.merging c.in-Some.merge (sym c.take.ensures.value ∙ c.in-Some.is) (inl is))))

pub returns-clause-fails : goal.returns-clause-fails
returns-clause-fails g c = c.in_default-done.ensures.fails

pub returns-clause-rises : goal.returns-clause-rises
returns-clause-rises g c = (writing_counts _ c.in_default-done.ensures.fails).rises

pub unreachable-requires : goal.unreachable-requires
unreachable-requires g c =
    subst (λ (o : Option InMaking). HasAllPassed (option_map (λ m. m.shape) o)) (sym c.take.ensures.value ∙ c.in_default.is)
    (subst (λ s. HasAllPassed s.merging) (sym c.self.view_is) c.requires)

pub give_source-requires : goal.give_source-requires
give_source-requires g c =
    source_counted (shape_of_core c.self.inside) c.self.inside.merging c.in-Some.merge c.number.result c.self.invariant.shape refl
    (sym c.take.ensures.value ∙ c.in-Some.is) c.number.ensures
