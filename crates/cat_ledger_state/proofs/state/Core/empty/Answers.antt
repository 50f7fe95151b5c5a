use Rattle.std.proofs.Common.{◌≤◌, length, sym, ap, subst, arith}
use Rattle.cat_model.specs.Limits.{segment_limit}
use Rattle.cat_ledger_laws.specs.shape.Shapes.{IsShape}
use Rattle.cat_ledger_laws.proofs.shape.Opened.{empty_keep}
use Rattle.cat_ledger_state.proofs.Starting.{nothing_recorded, nothing_is}
use Rattle.cat_ledger_state.proofs.state.Core.empty.Goals as goal

pub invariant_of-result : goal.invariant_of-result
invariant_of-result c =
    let one = nothing_recorded c.args.schema c.in_ok-copy.field-0 c.new.result.items c.in_ok-view.view c.in_ok-records.records c.in_ok-copy.ensures c.new.ensures.items
    c.in_ok-view.ensures.ok c.in_ok-records.ensures.ok in
    let is = nothing_is c.args.schema c.args.refs c.args.next_segment c.args.next_generation c.new-3.result c.in_ok-buffer.buffer.records c.in_ok-records.records
    c.new-4.result.items c.new-5.result c.new-6.result c.new-3.ensures (ap (λ b. b.records) c.in_ok-buffer.ensures.ok) one c.new-4.ensures.items c.new-5.ensures
    c.new-6.ensures in
    record {
      shape = subst IsShape (sym is) (empty_keep c.args.schema c.args.refs c.args.next_segment c.args.next_generation c.requires.counted);
      waits = ap (λ b. b.schema) c.in_ok-buffer.ensures.ok;
      few = subst (λ ls. length ls ≤ segment_limit) (sym c.new-3.ensures) (omega arith);
      merges = tt;
      known = c.requires.known;
    }
