use Rattle.std.proofs.Common.{map, ap, ◌∙◌}
use Rattle.cat_model.specs.View.{row_of}
use Rattle.cat_live_table.proofs.buffer.Rows.{AreRows-of, rows-made}
use Rattle.cat_live_table.proofs.buffer.buffer.Buffer.seal.Goals as goal

pub of-requires : goal.of-requires
of-requires c =
    record { rows = rw (rows-made _ _ _ c.as_slice.ensures.value c.in_ok-rows.ensures.ok) (AreRows-of _ c.self.invariant.0 (rw (← c.self.view_is) at c.requires.some)) }

pub returns-clause-segment : goal.returns-clause-segment
returns-clause-segment c =
    let rows = rows-made _ _ _ c.as_slice.ensures.value c.in_ok-rows.ensures.ok ∙ ap (λ b. map row_of b.records) c.self.view_is in
    c.in_ok-of.ensures.ok ∙ (λ i. record { number = c.args.number; schema = (c.self.view_is i).schema; rows = rows i })
