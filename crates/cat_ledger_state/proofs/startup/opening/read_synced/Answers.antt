use Rattle.std.proofs.Common.{◌≡◌, sym, ap, ◌∙◌, inl, inr}
use Rattle.cat_base.specs.declared.refusal.Refusal.{Refusal}
use Rattle.cat_base.specs.declared.refusal.Refusal.TheVariants.{Device}
use Rattle.cat_model.specs.CommitFile.{commit_needs}
use Rattle.cat_directory.specs.Names.{name_of}
use Rattle.cat_ledger_laws.specs.model.Opening.{Restored}
use Rattle.cat_ledger_laws.specs.model.Users.{has_name}
use Rattle.cat_commits.proofs.reading.Reading.{passed}
use Rattle.cat_ledger_state.proofs.startup.Needed.{needed_there}
use Rattle.cat_ledger_state.proofs.startup.opening.read_synced.Goals as goal

pub returns-in_err-sync_needed-clause-device : goal.returns-in_err-sync_needed-clause-device
returns-in_err-sync_needed-clause-device g c =
    let needs = ap (λ (r : Restored). commit_needs r.commit) c.restored.view_is in
    passed (λ (e : Refusal). e ≡ Device → g.D.Holder.can_fail c.args.device.now) _ _ c.from_residual-in_err-sync_needed.ensures
    (λ is.
    elim (c.in_err-sync_needed.ensures.device is) [
      | inl can ↦ c.in_ok-restored.ensures.frame.can can
      | inr gone ↦ absurd
          (needed_there (g.D.Holder.bytes c.args.device.now) c.args.schema.now c.args.generation c.in_ok-restored.restored c.in_ok-restored.ensures.ok
          gone.0 (sym (ap (has_name (name_of gone.0)) needs) ∙ gone.1) (sym (c.in_ok-restored.ensures.frame.same gone.0) ∙ gone.2))
    ])

pub returns-clause-lasts : goal.returns-clause-lasts
returns-clause-lasts g c =
    let needs = ap (λ (r : Restored). commit_needs r.commit) c.restored.view_is in
    λ q there now e is left.
    c.in_ok-sync_needed.ensures.lasts q (ap (has_name (name_of q)) needs ∙ there) now e (c.in_ok-restored.ensures.frame.same q ∙ is) left
