use Rattle.std.proofs.Common.{rules}
use Rattle.std.proofs.lemmas.List.Sorted.{answers_always}
use Rattle.cat_items.proofs.Names.{comes_before, rising_fields}
use Rattle.cat_items.proofs.schema.names_rise.Goals as goal

pub returns : goal.returns
returns c = rising_fields _ _ (c.is_sorted_by.ensures.cases comes_before (answers_always _ _ _ (λ f a r g called. search rules)))
