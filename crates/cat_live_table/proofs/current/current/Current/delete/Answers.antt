use Rattle.std.proofs.Common.{◌≡◌, ◌<◌, length, arith, Some, None, OnErr, Ok, Err, Result, is_some, set, sym, ap, ◌∙◌, subst}
use Rattle.std.specs.HashMap.{get_by_text}
use Rattle.std.proofs.lemmas.Map.Text.{hash_map_updates_text}
use Rattle.std.proofs.lemmas.Grind.{common_steps}
use Rattle.cat_model.specs.Write.{Write}
use Rattle.cat_ledger_laws.specs.model.Leaves.{has_live_id, leaves_after}
use Rattle.cat_live_table.proofs.current.Currents.{contained, nothing, is_indexed, no_leaf, kill_within, kill_row, killed_there, deleted}
use Rattle.cat_live_table.proofs.current.current.Current.delete.Goals as goal

on_err : {T E P : Type 0} (r : Result T E) → P → OnErr r P
on_err (Ok x) p = tt
on_err (Err e) p = p

pub returns-in_default-clause-ok : goal.returns-in_default-clause-ok
returns-in_default-clause-ok c =
    subst (λ ls. ls ≡ leaves_after (Write.delete c.args.id.now) ls) c.self.view_is (nothing _ _ _ _ c.self.invariant c.args.id.now (sym (c.in_default.ensures ∙ c.get.ensures.value)))

pub returns-in_default-copied-clause-ok : goal.returns-in_default-copied-clause-ok
returns-in_default-copied-clause-ok c =
    absurd (is_indexed _ _ _ _ c.self.invariant c.args.id.now c.in-Some.field-0 (sym (c.in-Some.ensures ∙ c.get.ensures.value)) (sym (c.in_default-copied.ensures ∙ c.get-2.ensures.value)))

pub index_mut-leaf-requires : goal.index_mut-leaf-requires
index_mut-leaf-requires c =
    let within : c.in-Some-copied.index < length c.self.inside.leaves.items =
    kill_within _ _ _ _ c.self.invariant c.args.id.now c.in-Some.field-0 (no_leaf _ _ _ _ c.self.invariant) c.in-Some-copied.index (sym (c.in-Some.ensures ∙ c.get.ensures.value))
    (sym (c.in-Some-copied.ensures ∙ c.get-2.ensures.value)) in
    omega (arith, within, c.self.inside.leaves.ok)

pub kill-requires : goal.kill-requires
kill-requires c =
    kill_row _ _ _ _ c.self.invariant c.args.id.now c.in-Some.field-0 c.index_mut-leaf.result.now c.in-Some-copied.index (sym (c.in-Some.ensures ∙ c.get.ensures.value)) (sym (c.in-Some-copied.ensures ∙ c.get-2.ensures.value))
    c.index_mut-leaf.ensures.value

pub returns-in_err-kill-clause-live : goal.returns-in_err-kill-clause-live
returns-in_err-kill-clause-live c =
    let there : get_by_text c.self.inside.places c.args.id.now ≡ Some c.in-Some.field-0 = sym (c.in-Some.ensures ∙ c.get.ensures.value) in
    on_err c.from_residual.result (ap (has_live_id c.args.id.now) (sym c.self.view_is) ∙ sym (contained _ _ _ _ c.self.invariant c.args.id.now) ∙ ap is_some there)

pub invariant_of-self-2 : goal.invariant_of-self-2
invariant_of-self-2 c =
    let left : set c.self.inside.leaves.items c.in-Some-copied.index c.kill.new.self ≡ leaves_after (Write.delete c.args.id.now) c.self.inside.leaves.items =
    killed_there _ _ _ _ c.self.invariant c.args.id.now c.in-Some.field-0 c.index_mut-leaf.result.now c.in-Some-copied.index (sym (c.in-Some.ensures ∙ c.get.ensures.value))
    (sym (c.in-Some-copied.ensures ∙ c.get-2.ensures.value)) c.kill.new.self c.index_mut-leaf.ensures.value c.in_ok-kill.ensures.ok in
    rw left (deleted _ _ _ _ c.self.invariant c.args.id.now (get_by_text c.remove.new.self)
    (hash_map_updates_text c.args.id.now c.self.inside.places c.remove.new.self None c.remove.ensures.updates))

pub returns-clause-ok : goal.returns-clause-ok
returns-clause-ok c =
    killed_there _ _ _ _ c.self.invariant c.args.id.now c.in-Some.field-0 c.index_mut-leaf.result.now c.in-Some-copied.index (sym (c.in-Some.ensures ∙ c.get.ensures.value))
    (sym (c.in-Some-copied.ensures ∙ c.get-2.ensures.value)) c.kill.new.self c.index_mut-leaf.ensures.value c.in_ok-kill.ensures.ok
    ∙ ap (leaves_after (Write.delete c.args.id.now)) c.self.view_is

pub invariant_of-self : goal.invariant_of-self
invariant_of-self c = grind (arith, common_steps)
