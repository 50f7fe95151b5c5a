use Rattle.std.proofs.Common.{◌≤◌, ◌∙◌, ap, length, not, arith}
use Rattle.std.specs.Prelude.{ltb}
use Rattle.std.specs.List.{position}
use Rattle.cat_model.specs.Run.{is_full}
use Rattle.cat_model.specs.State.{held_in}
use Rattle.cat_lifetimes.specs.records.Records.{Records}
use Rattle.cat_ledger_laws.specs.shape.Steps.{tokens_of}
use Rattle.cat_lifetimes.proofs.records.Shown.{full_by}
use Rattle.cat_lifetimes.proofs.records.records.Records.is_full.Goals as goal

pub returns-then-len-ge-MAX_RECORDS : goal.returns-then-len-ge-MAX_RECORDS
returns-then-len-ge-MAX_RECORDS c =
    let first = c.first_free.ensures ∙ ap (position (λ r. not (ltb 0 r.holders))) c.deref.ensures.value in
    let long : 64 ≤ length c.self.inside.recorded.items = omega (arith, c.if-len-ge-MAX_RECORDS.true, c.len.ensures, c.deref.ensures.len, ap (λ l. length l) c.deref.ensures.value) in
    full_by c.self.inside.recorded.items c.self.inside.holds.keys c.first_free.result c.is_none.result c.self.invariant.0 first c.is_none.ensures long
    ∙ ap (λ (r : Records). is_full (held_in r.holds) (tokens_of r.views)) c.self.view_is
