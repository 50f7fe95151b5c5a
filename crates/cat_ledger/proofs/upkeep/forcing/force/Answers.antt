use Rattle.std.proofs.Common.{◌≡◌, true, false, refl, sym, ap, ◌∙◌}
use Rattle.std.specs.Prelude.{is_some}
use Rattle.cat_ledger_laws.proofs.lines.Planned.{forces_wait}
use Rattle.cat_ledger.proofs.upkeep.forcing.force.Goals as goal

pub returns-then-is_merging-clause-ok : goal.returns-then-is_merging-clause-ok
returns-then-is_merging-clause-ok g c = λ policy.
    let told = g.D.Holder.bytes c.args.device.now in
    forces_wait policy c.args.core.now told told
    (λ none. let no : true ≡ false = sym c.if-is_merging.true ∙ c.is_merging.ensures ∙ ap is_some none in absurd cc)
    (λ q. refl)
