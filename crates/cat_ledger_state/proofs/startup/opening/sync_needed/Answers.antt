use Rattle.std.proofs.Common.{◌∙◌, map, sym, ap, inl, inr}
use Rattle.std.proofs.lemmas.Result.{on_ok_weaker, IfErr-weaker}
use Rattle.cat_directory.specs.Names.{name_of}
use Rattle.cat_ledger_laws.specs.model.Users.{has_name}
use Rattle.cat_ledger_state.proofs.startup.Listing.{contained, named}
use Rattle.cat_ledger_state.proofs.startup.opening.sync_needed.Goals as goal

pub returns-clause-lasts : goal.returns-clause-lasts
returns-clause-lasts g c =
    let names = ap (map name_of) c.deref.ensures.value ∙ c.in_ok-needed.ensures in
    on_ok_weaker c.sync.result (λ durable q there. durable q (contained c.deref.result.now q (ap (has_name (name_of q)) names ∙ there))) c.sync.ensures.durable

pub returns-clause-device : goal.returns-clause-device
returns-clause-device g c =
    let names = ap (map name_of) c.deref.ensures.value ∙ c.in_ok-needed.ensures in
    IfErr-weaker c.sync.result _ _
    (λ e failed is.
    elim (failed.1) [
      | inl can ↦ inl can
      | inr gone ↦ inr (gone.0, sym (ap (has_name (name_of gone.0)) names) ∙ named c.deref.result.now gone.0 gone.1, gone.2)
    ])
    c.sync.ensures.device
