use Rattle.std.proofs.Common.{◌≡◌, ℕ, List, map, get_or, rules, arith, refl, sym, subst}
use Rattle.std.specs.Prelude.{◌==◌, count_by, length, Some}
use Rattle.std.proofs.lemmas.Result.{err_from_is_err_and}
use Rattle.std.specs.Map.{lookup}
use Rattle.cat_ledger_laws.specs.model.Users.{Used}
use Rattle.cat_directory.specs.declared.name.FileName.{FileName}
use Rattle.cat_directory.specs.declared.name.FileName.TheVariants.{Segment}
use Rattle.cat_directory.specs.Names.{same_name}
use Rattle.cat_lifetimes.specs.refs.Counts.{used_in, IsPending}
use Rattle.cat_lifetimes.specs.refs.Swept.{ArePending}
use Rattle.cat_lifetimes.proofs.refs.Sweeps.{Sweeping, DeletesOne, Drops, begin, go_on, finished, stopped, unused_at, still_known}
use Rattle.cat_lifetimes.proofs.refs.Unused.{none_left}
use Rattle.cat_lifetimes.proofs.refs.refs.FileRefs.sweep.Goals as goal

pub loop-name-init : goal.loop-name-init
loop-name-init g c = record {
  sweeping = subst (λ (us : List Used). Sweeping c.args.self.now us c.deref-name-items.result.now 0 (g.D.Holder.bytes c.args.directory.now) (g.D.Holder.bytes c.args.directory.now) (g.D.Holder.may_leave c.args.directory.now) (g.D.Holder.may_leave c.args.directory.now))
      (sym c.self.view_is) (begin c.args.self.now c.deref-name-items.result.now (g.D.Holder.bytes c.args.directory.now) (g.D.Holder.may_leave c.args.directory.now));
  once = c.in_ok-names.ensures.once;
  faults = refl;
  can = λ can. can;
}

pub loop-name-preserved : goal.loop-name-preserved
loop-name-preserved g c =
    let i : ℕ = c.loop-name.name-index in
    let names : List FileName = c.deref-name-items.result.now in
    let k : FileName = get_or names i (Segment 0) in
    let pending : ArePending c.args.self.now names = subst (λ (us : List Used). ArePending us names) c.self.view_is
    (subst (λ (l : List FileName). ArePending (map used_in c.self.inside.users.entries) l) (sym c.deref-name-items.ensures.value) c.in_ok-names.ensures.names) in
    let one : DeletesOne k (g.D.Holder.bytes c.loop-name.directory) (g.D.Holder.bytes c.delete.new.self) (g.D.Holder.may_leave c.loop-name.directory) (g.D.Holder.may_leave c.delete.new.self) =
    record { others = c.delete.ensures.others; crash = c.delete.ensures.crash; back = c.delete.ensures.back } in
    let drops : Drops c.loop-name.self-inside.users.entries c.remove.new.self.entries k = c.remove.ensures.updates.0 in
    let unused : lookup (same_name k) c.loop-name.self-inside.users.entries ≡ Some 0 = unused_at _ _ names i (Segment 0) _ _ _ _ pending c.loop-name-test.true c.loop-name.invariant.sweeping in
    record {
      sweeping = go_on _ _ _ names i (Segment 0) _ _ _ _ _ _ c.loop-name-test.true unused drops one c.in_ok-delete.ensures.ok c.loop-name.invariant.sweeping;
      once = c.remove.ensures.unique;
      faults = search rules;
      can = λ can. c.loop-name.invariant.can (c.delete.ensures.can can);
    }

pub returns-clause-files : goal.returns-clause-files
returns-clause-files g c =
    let i : ℕ = c.loop-name.name-index in
    let names : List FileName = c.deref-name-items.result.now in
    let pending : ArePending c.args.self.now names = subst (λ (us : List Used). ArePending us names) c.self.view_is
    (subst (λ (l : List FileName). ArePending (map used_in c.self.inside.users.entries) l) (sym c.deref-name-items.ensures.value) c.in_ok-names.ensures.names) in
    (finished _ _ names i _ _ _ _ pending c.loop-name-test.false c.loop-name.invariant.sweeping).0

pub returns-clause-ok : goal.returns-clause-ok
returns-clause-ok g c =
    let i : ℕ = c.loop-name.name-index in
    let names : List FileName = c.deref-name-items.result.now in
    let pending : ArePending c.args.self.now names = subst (λ (us : List Used). ArePending us names) c.self.view_is
    (subst (λ (l : List FileName). ArePending (map used_in c.self.inside.users.entries) l) (sym c.deref-name-items.ensures.value) c.in_ok-names.ensures.names) in
    let counted : length c.in_ok-names.names.items ≡ count_by (λ (u : Used). u.users == 0) c.args.self.now =
    subst (λ (us : List Used). length c.in_ok-names.names.items ≡ count_by (λ (u : Used). u.users == 0) us) c.self.view_is c.in_ok-names.ensures.count in
    (omega (arith, counted, c.len.ensures, c.in_ok-names.names.ok), (finished _ _ names i _ _ _ _ pending c.loop-name-test.false c.loop-name.invariant.sweeping).1)

pub returns-clause-done : goal.returns-clause-done
returns-clause-done g c =
    let i : ℕ = c.loop-name.name-index in
    let names : List FileName = c.deref-name-items.result.now in
    let pending : ArePending c.args.self.now names = subst (λ (us : List Used). ArePending us names) c.self.view_is
    (subst (λ (l : List FileName). ArePending (map used_in c.self.inside.users.entries) l) (sym c.deref-name-items.ensures.value) c.in_ok-names.ensures.names) in
    none_left c.loop-name.self-inside.users.entries c.loop-name.invariant.once
    (finished _ _ names i _ _ _ _ pending c.loop-name-test.false c.loop-name.invariant.sweeping).1

pub returns-clause-users : goal.returns-clause-users
returns-clause-users g c = c.loop-name.invariant.sweeping.users

pub returns-in_err-delete-clause-users : goal.returns-in_err-delete-clause-users
returns-in_err-delete-clause-users g c = c.loop-name.invariant.sweeping.users

pub returns-clause-known : goal.returns-clause-known
returns-clause-known g c = still_known _ _ c.deref-name-items.result.now c.loop-name.name-index _ _ _ _ c.loop-name.invariant.sweeping

pub returns-in_err-delete-clause-known : goal.returns-in_err-delete-clause-known
returns-in_err-delete-clause-known g c = still_known _ _ c.deref-name-items.result.now c.loop-name.name-index _ _ _ _ c.loop-name.invariant.sweeping

pub returns-in_err-delete-clause-files : goal.returns-in_err-delete-clause-files
returns-in_err-delete-clause-files g c =
    let i : ℕ = c.loop-name.name-index in
    let names : List FileName = c.deref-name-items.result.now in
    let k : FileName = get_or names i (Segment 0) in
    let pending : ArePending c.args.self.now names = subst (λ (us : List Used). ArePending us names) c.self.view_is
    (subst (λ (l : List FileName). ArePending (map used_in c.self.inside.users.entries) l) (sym c.deref-name-items.ensures.value) c.in_ok-names.ensures.names) in
    let one : DeletesOne k (g.D.Holder.bytes c.loop-name.directory) (g.D.Holder.bytes c.delete.new.self) (g.D.Holder.may_leave c.loop-name.directory) (g.D.Holder.may_leave c.delete.new.self) =
    record { others = c.delete.ensures.others; crash = c.delete.ensures.crash; back = c.delete.ensures.back } in
    (stopped _ _ names i (Segment 0) _ _ _ _ _ _ pending c.loop-name-test.true one c.in_err-delete.ensures.err c.loop-name.invariant.sweeping).0

pub returns-in_err-delete-clause-stays : goal.returns-in_err-delete-clause-stays
returns-in_err-delete-clause-stays g c =
    let i : ℕ = c.loop-name.name-index in
    let names : List FileName = c.deref-name-items.result.now in
    let k : FileName = get_or names i (Segment 0) in
    let pending : ArePending c.args.self.now names = subst (λ (us : List Used). ArePending us names) c.self.view_is
    (subst (λ (l : List FileName). ArePending (map used_in c.self.inside.users.entries) l) (sym c.deref-name-items.ensures.value) c.in_ok-names.ensures.names) in
    let one : DeletesOne k (g.D.Holder.bytes c.loop-name.directory) (g.D.Holder.bytes c.delete.new.self) (g.D.Holder.may_leave c.loop-name.directory) (g.D.Holder.may_leave c.delete.new.self) =
    record { others = c.delete.ensures.others; crash = c.delete.ensures.crash; back = c.delete.ensures.back } in
    let left : IsPending (map used_in c.loop-name.self-inside.users.entries) k =
    (stopped _ _ names i (Segment 0) _ _ _ _ _ _ pending c.loop-name-test.true one c.in_err-delete.ensures.err c.loop-name.invariant.sweeping).1 in
    let failed = err_from_is_err_and c.from_residual-in_err-delete.result c.from_residual-in_err-delete.ensures.1 in
    rw failed.1 (λ e. (k, left))

pub returns-in_err-delete-clause-device : goal.returns-in_err-delete-clause-device
returns-in_err-delete-clause-device g c =
    let failed = err_from_is_err_and c.from_residual-in_err-delete.result c.from_residual-in_err-delete.ensures.1 in
    rw failed.1 (λ e. c.loop-name.invariant.can c.in_err-delete.ensures.device.1)

pub returns-in_err-delete-clause-can : goal.returns-in_err-delete-clause-can
returns-in_err-delete-clause-can g c = λ can. c.loop-name.invariant.can (c.delete.ensures.can can)

pub returns-clause-can : goal.returns-clause-can
returns-clause-can g c = c.loop-name.invariant.can

pub returns-in_err-delete-clause-counted : goal.returns-in_err-delete-clause-counted
returns-in_err-delete-clause-counted g c =
    let failed = err_from_is_err_and c.from_residual-in_err-delete.result c.from_residual-in_err-delete.ensures.1 in
    rw (failed.1, failed.2, ← c.loop-name.invariant.faults) c.in_err-delete.ensures.counted

pub returns-clause-counted : goal.returns-clause-counted
returns-clause-counted g c = c.loop-name.invariant.faults
