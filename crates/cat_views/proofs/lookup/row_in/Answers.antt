use Rattle.std.proofs.Common.{◌≡◌, ◌<◌, ◌∙◌, length, sym, ap, subst}
use Rattle.std.specs.List.{HoldsAt}
use Rattle.cat_model.specs.RowSets.{has_row}
use Rattle.cat_model.specs.View.{IsSegment}
use Rattle.cat_segment.specs.Filter.{id_hash}
use Rattle.cat_views.proofs.Stored.{IdsDiffer, none_in, dead_in}
use Rattle.cat_views.proofs.lookup.row_in.Goals as goal

pub returns-then-not-may_have : goal.returns-then-not-may_have
returns-then-not-may_have c =
    none_in c.args.id.now c.args.leaf.now c.segment.result.now.rows (ap (λ s. s.rows) c.segment.ensures)
    (λ k d within same. c.may_have.ensures c.if-not-may_have.true k d within (ap id_hash same ∙ sym c.requires))

pub returns-in_err-row : goal.returns-in_err-row
returns-in_err-row c = rw c.from_residual.ensures (none_in c.args.id.now c.args.leaf.now c.segment-2.result.now.rows (ap (λ s. s.rows) c.segment-2.ensures) c.in_err-row.ensures.lookup)

pub returns-then-is_live : goal.returns-then-is_live
returns-then-is_live c = record {
  within = subst (λ s. c.in_ok-row.row < length s.rows) c.segment-2.ensures c.in_ok-row.ensures.bound;
  named = subst (λ s. HoldsAt (λ r. r.id ≡ c.args.id.now) s.rows c.in_ok-row.row) c.segment-2.ensures c.in_ok-row.ensures.lookup;
  live = ap (λ s. has_row s c.in_ok-row.row) (sym c.live.ensures.value) ∙ sym c.is_live.ensures ∙ c.if-is_live.true;
  segment = subst IsSegment c.segment-3.ensures c.len.ensures.segment;
}

pub returns-else-is_live : goal.returns-else-is_live
returns-else-is_live c =
    let apart = subst (λ s. IdsDiffer s.rows) c.segment-3.ensures c.len.ensures.rows.distinct in
    let dead = ap (λ s. has_row s c.in_ok-row.row) (sym c.live.ensures.value) ∙ sym c.is_live.ensures ∙ c.if-is_live.false in
    dead_in c.args.id.now c.args.leaf.now c.segment-2.result.now.rows c.in_ok-row.row (ap (λ s. s.rows) c.segment-2.ensures) apart c.in_ok-row.ensures.bound c.in_ok-row.ensures.lookup dead
