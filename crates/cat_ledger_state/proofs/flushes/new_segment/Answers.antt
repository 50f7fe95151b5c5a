use Rattle.std.proofs.Common.{◌∙◌, sym, ap, length, arith}
use Rattle.std.proofs.lemmas.Grind.{elements}
use Rattle.cat_ledger_state.proofs.Flushing.{leaf_made}
use Rattle.cat_ledger_state.proofs.flushes.new_segment.Goals as goal

pub returns-clause-leaf : goal.returns-clause-leaf
returns-clause-leaf c =
    let segment = c.in_ok-new.ensures.ok in
    c.new-leaf.ensures
    ∙ leaf_made c.args.number c.len.result c.args.buffer.now.schema c.args.buffer.now.records _ _ (segment ∙ c.in_ok-segment.ensures.segment)
    (c.in_ok-new-2.ensures.ok ∙ c.in_ok-live.ensures.ok) (c.len.ensures.same ∙ ap (λ s. length s.rows) (sym segment))

pub new-leaf-requires : goal.new-leaf-requires
new-leaf-requires c = grind (arith, elements)
