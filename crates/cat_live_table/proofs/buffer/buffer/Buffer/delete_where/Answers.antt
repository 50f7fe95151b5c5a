use Rattle.std.proofs.Common.{rules, ◌≡◌, ap, ◌∙◌, not, filter}
use Rattle.std.specs.Map.{values_of}
use Rattle.indexmap.proofs.CallerLemmas.{filter-RetainsPairs}
use Rattle.cat_model.specs.Item.{Record}
use Rattle.cat_model.specs.Query.{matches}
use Rattle.cat_model.specs.Write.{Write}
use Rattle.cat_model.specs.Table.{without}
use Rattle.cat_query.specs.View.{query_of}
use Rattle.cat_live_table.proofs.buffer.Entries.{values-filter, keyed-filter}
use Rattle.cat_live_table.proofs.buffer.Kept.{IsBuffered-without}
use Rattle.cat_live_table.proofs.buffer.buffer.Buffer.delete_where.Goals as goal

kept : (c : goal.After-retain) → c.retain.new.self.entries ≡ filter (λ e. not (matches (query_of c.args.query.now) e.1.item)) c.self.inside.entries.entries
kept c = filter-RetainsPairs _ _ _ (λ k v b w g call. search rules) _ _ c.retain.ensures.filtered

less : (c : goal.After-retain) → values_of c.retain.new.self.entries ≡ without (values_of c.self.inside.entries.entries) (Write.delete_where (query_of c.args.query.now))
less c = ap values_of (kept c) ∙ values-filter (λ (r : Record). not (matches (query_of c.args.query.now) r.item)) c.self.inside.entries.entries

pub invariant_of-self : goal.invariant_of-self
invariant_of-self c = (
  rw (less c) (IsBuffered-without _ (Write.delete_where (query_of c.args.query.now)) c.self.invariant.0),
  rw (kept c) (keyed-filter (λ e. not (matches (query_of c.args.query.now) e.1.item)) c.self.inside.entries.entries c.self.invariant.1),
)

pub returns : goal.returns
returns c =
    let records = less c ∙ ap (λ b. without b.records (Write.delete_where (query_of c.args.query.now))) c.self.view_is in
    λ i. record { schema = (c.self.view_is i).schema; records = records i }
