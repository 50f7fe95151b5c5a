use Rattle.std.proofs.Common.{◌≡◌, [], ◌∷◌, ◌++◌, ap, ◌∙◌}
use Rattle.cat_model.specs.Layout.{pieces}
use Rattle.cat_merge.proofs.Cuts.{list_settled, on_ok, extended}
use Rattle.cat_merge.proofs.lists.Lists.push.Goals as goal

pub invariant_of-self : goal.invariant_of-self
invariant_of-self c =
    (list_settled c.self.inside.ends.items c.self.inside.numbers.items c.extend_from_slice-added.new.self.items c.end_list.new.ends.items c.end_list.new.numbers.items
    c.args.list.now c.len-start.result c.extend_from_slice-added.result c.end_list.result c.self.invariant
    (c.len-start.ensures ∙ c.self.inside.numbers.ok.0) (extended c.self.inside.numbers.items c.extend_from_slice-added.new.self.items c.args.list.now c.extend_from_slice-added.result c.extend_from_slice-added.ensures.items).0
    (extended c.self.inside.numbers.items c.extend_from_slice-added.new.self.items c.args.list.now c.extend_from_slice-added.result c.extend_from_slice-added.ensures.items).1 c.end_list.ensures.added c.end_list.ensures.same c.end_list.ensures.ended c.end_list.ensures.few
    c.end_list.ensures.err).0

pub returns : goal.returns
returns c = record {
  ok = on_ok c.end_list.result (pieces 0 c.end_list.new.ends.items c.end_list.new.numbers.items ≡ pieces 0 c.self.inside.ends.items c.self.inside.numbers.items ++ c.args.list.now ∷ [])
      (pieces 0 c.end_list.new.ends.items c.end_list.new.numbers.items ≡ c.args.self.now ++ c.args.list.now ∷ [])
      (list_settled c.self.inside.ends.items c.self.inside.numbers.items c.extend_from_slice-added.new.self.items c.end_list.new.ends.items c.end_list.new.numbers.items
      c.args.list.now c.len-start.result c.extend_from_slice-added.result c.end_list.result c.self.invariant
      (c.len-start.ensures ∙ c.self.inside.numbers.ok.0) (extended c.self.inside.numbers.items c.extend_from_slice-added.new.self.items c.args.list.now c.extend_from_slice-added.result c.extend_from_slice-added.ensures.items).0
      (extended c.self.inside.numbers.items c.extend_from_slice-added.new.self.items c.args.list.now c.extend_from_slice-added.result c.extend_from_slice-added.ensures.items).1 c.end_list.ensures.added c.end_list.ensures.same c.end_list.ensures.ended c.end_list.ensures.few
      c.end_list.ensures.err).1
      (λ e. e ∙ ap (λ l. l ++ c.args.list.now ∷ []) c.self.view_is);
}
