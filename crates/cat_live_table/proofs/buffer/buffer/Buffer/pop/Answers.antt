use Rattle.std.proofs.Common.{◌≡◌, ◌-◌, ◌<◌, length, take, ap, ◌∙◌, subst, arith}
use Rattle.std.specs.Map.{values_of}
use Rattle.std.proofs.lemmas.List.{length-map}
use Rattle.std.specs.Option.{option_to_list}
use Rattle.cat_live_table.specs.buffer.Buffered.{AreKeyed}
use Rattle.cat_live_table.proofs.buffer.Entries.{values_popped, keyed-front}
use Rattle.cat_live_table.proofs.buffer.Kept.{IsBuffered-take}
use Rattle.cat_live_table.proofs.buffer.buffer.Buffer.pop.Goals as goal

left : (c : goal.Joined-pop) → values_of c.pop.new.self.entries ≡ take (length (values_of c.self.inside.entries.entries) - 1) (values_of c.self.inside.entries.entries)
left c = values_popped c.self.inside.entries.entries c.pop.new.self.entries c.pop.result c.pop.ensures.entries (c.pop.ensures.found.1 some)
  where
    had : 0 < length (values_of c.self.inside.entries.entries)
    had = rw (← c.self.view_is) at c.requires

    some : 0 < length c.self.inside.entries.entries
    some = omega (arith, had, length-map c.self.inside.entries.entries (λ e. e.1))

pub invariant_of-self : goal.invariant_of-self
invariant_of-self c = (
  rw (left c) (IsBuffered-take _ _ c.self.invariant.0),
  keyed-front c.pop.new.self.entries (option_to_list c.pop.result) (subst AreKeyed c.pop.ensures.entries c.self.invariant.1),
)

pub returns : goal.returns
returns c =
    let records = left c ∙ ap (λ b. take (length b.records - 1) b.records) c.self.view_is in
    λ i. record { schema = (c.self.view_is i).schema; records = records i }
