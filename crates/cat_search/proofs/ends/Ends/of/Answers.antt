use Rattle.std.proofs.Common.{option_map, inl, inr}
use Rattle.cat_search.specs.Candidates.{standing_of}
use Rattle.cat_search.proofs.KeyEnds.{ends_added, ends_rising, ends_falling}
use Rattle.cat_search.proofs.ends.Ends.of.Goals as goal

pub returns-in-Falling : goal.returns-in-Falling
returns-in-Falling c =
    ends_falling c.args.order (option_map standing_of c.args.mark.now) c.args.best.now c.mark_key-first.result c.last_key-last.result c.is_none-missing.result
    c.mark_key-first.ensures c.last_key-last.ensures c.is_none-missing.ensures c.in-Falling.field-0 c.in-Falling.is

pub returns-in-Rising : goal.returns-in-Rising
returns-in-Rising c = elim c.in-Rising.is [
  | inl e ↦
      ends_rising c.args.order (option_map standing_of c.args.mark.now) c.args.best.now c.mark_key-first.result c.last_key-last.result c.is_none-missing.result
      c.mark_key-first.ensures c.last_key-last.ensures c.is_none-missing.ensures e.0 e.1
  | inr e ↦
      ends_added c.args.order (option_map standing_of c.args.mark.now) c.args.best.now c.mark_key-first.result c.last_key-last.result c.is_none-missing.result
      c.mark_key-first.ensures c.last_key-last.ensures c.is_none-missing.ensures e
]
