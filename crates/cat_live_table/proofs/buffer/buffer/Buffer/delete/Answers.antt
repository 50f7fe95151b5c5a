use Rattle.std.proofs.Common.{◌≡◌, ap, ◌∙◌, is_some, not, filter}
use Rattle.std.specs.Map.{values_of}
use Rattle.cat_model.specs.Write.{Write}
use Rattle.cat_model.specs.Table.{without}
use Rattle.cat_live_table.specs.buffer.Buffered.{some_has_id}
use Rattle.cat_live_table.proofs.buffer.Entries.{is_key, taken_out, values_without, is_there, keyed-filter}
use Rattle.cat_live_table.proofs.buffer.Kept.{IsBuffered-without}
use Rattle.cat_live_table.proofs.buffer.buffer.Buffer.delete.Goals as goal

gone : (c : goal.Joined-shift_remove) → c.shift_remove.new.self.entries ≡ filter (λ e. not (is_key c.args.id.now e.0)) c.self.inside.entries.entries
gone c =
    let removed = c.shift_remove.ensures in
    removed.entries ∙ taken_out (is_key c.args.id.now) c.self.inside.entries.entries (rw removed.entries at removed.updates.1)

less : (c : goal.Joined-shift_remove) → values_of c.shift_remove.new.self.entries ≡ without (values_of c.self.inside.entries.entries) (Write.delete c.args.id.now)
less c = ap values_of (gone c) ∙ values_without c.args.id.now c.self.inside.entries.entries c.self.invariant.1

pub invariant_of-self : goal.invariant_of-self
invariant_of-self c = (
  rw (less c) (IsBuffered-without _ (Write.delete c.args.id.now) c.self.invariant.0),
  rw (gone c) (keyed-filter (λ e. not (is_key c.args.id.now e.0)) c.self.inside.entries.entries c.self.invariant.1),
)

pub returns-clause-removed : goal.returns-clause-removed
returns-clause-removed c =
    let records = less c ∙ ap (λ b. without b.records (Write.delete c.args.id.now)) c.self.view_is in
    λ i. record { schema = (c.self.view_is i).schema; records = records i }

pub returns-clause-found : goal.returns-clause-found
returns-clause-found c =
    c.is_some.ensures ∙ ap is_some c.shift_remove.ensures.value ∙ is_there c.args.id.now c.self.inside.entries.entries c.self.invariant.1 ∙ ap (λ b. some_has_id c.args.id.now b.records) c.self.view_is
