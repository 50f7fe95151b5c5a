use Rattle.std.proofs.Common.{◌≡◌, ◌∙◌, true, ap, subst, arith}
use Rattle.std.proofs.lemmas.Grind.{elements}
use Rattle.cat_model.specs.Write.{Write}
use Rattle.cat_ledger_laws.specs.model.Leaves.{has_live_id, leaves_after}
use Rattle.cat_ledger_state.proofs.Writing.{put_undone}
use Rattle.cat_ledger_state.proofs.writes.put_over.Goals as goal

pub returns-in-Err-clause-waits : goal.returns-in-Err-clause-waits
returns-in-Err-clause-waits c =
    let id = c.deref.ensures ∙ c.in_ok-id.ensures.ok ∙ c.id.ensures.value in
    let alone = c.requires.alone (subst (λ t. has_live_id t c.args.current.now ≡ true) id c.in-Err.ensures.live) in
    let records = put_undone c.args.buffer.now.records c.put.new.self.records c.pop.new.self.records c.args.number c.args.item alone
    (ap (λ b. b.records) c.in_ok-put.ensures.ok) (ap (λ b. b.records) c.pop.ensures) in
    let schema = ap (λ b. b.schema) c.pop.ensures ∙ ap (λ b. b.schema) c.in_ok-put.ensures.ok in
    λ i. record { schema = schema i; records = records i }

pub returns-clause-killed : goal.returns-clause-killed
returns-clause-killed c =
    c.in_default.ensures.ok ∙ ap (λ t. leaves_after (Write.delete t) c.args.current.now) (c.deref.ensures ∙ c.in_ok-id.ensures.ok ∙ c.id.ensures.value)

pub pop-requires : goal.pop-requires
pop-requires c = grind (arith, elements)
