use Rattle.std.proofs.Common.{◌∙◌, map, ap}
use Rattle.cat_columns.proofs.Merged.{if_ok, union_is}
use Rattle.cat_columns.proofs.dictionary.Dictionary.union.Goals as goal

pub returns : goal.returns
returns c = record {
  ok = (if_ok _ _ (λ d is. is ∙ union_is c.args.sets.now _ c.in_ok-united.field-0.items (c.in_ok-copied.ensures.ok ∙ ap (map (λ t. t.now)) c.deref.ensures.value) c.in_ok-united.ensures.ok) c.unhinted.result c.unhinted.ensures.ok);
}
