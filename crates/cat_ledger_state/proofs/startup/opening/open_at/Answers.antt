use Rattle.cat_directory.specs.Names.{name_of}
use Rattle.cat_ledger_laws.specs.shape.OpeningLaws.{MayHold}
use Rattle.cat_ledger_state.proofs.startup.Needed.{used_needed}
use Rattle.cat_ledger_state.proofs.startup.opening.open_at.Goals as goal

pub returns-clause-lasts : goal.returns-clause-lasts
returns-clause-lasts g c = λ q some.
    c.in_ok-restored.ensures.lasts q
    (used_needed (MayHold (g.D.Holder.bytes c.args.device.now)) c.args.schema c.args.generation c.in_ok-state_at.field-0.next_segment c.in_ok-state_at.field-0.next_generation
    c.in_ok-restored.restored c.in_ok-state_at.field-0.users c.in_ok-restored.ensures.ok c.in_ok-state_at.ensures.ok.counted (name_of q) some)
