use Rattle.std.proofs.Common.{◌≡◌, [], ◌∷◌, ◌++◌, map, ap, ◌∙◌}
use Rattle.std.specs.Prelude.{slice_index}
use Rattle.cat_model.specs.Layout.{pieces}
use Rattle.cat_merge.proofs.Cuts.{list_settled, on_ok}
use Rattle.cat_merge.proofs.lists.Lists.push_found.Goals as goal

pub invariant_of-self : goal.invariant_of-self
invariant_of-self c =
    (list_settled c.self.inside.ends.items c.self.inside.numbers.items c.add_found-added.new.numbers.items c.end_list.new.ends.items c.end_list.new.numbers.items
    (map (slice_index c.args.found.now) c.args.indices.now) c.len-start.result c.add_found-added.result c.end_list.result c.self.invariant
    (c.len-start.ensures ∙ c.self.inside.numbers.ok.0) c.add_found-added.ensures.ok
    c.add_found-added.ensures.front c.end_list.ensures.added c.end_list.ensures.same c.end_list.ensures.ended c.end_list.ensures.few
    c.end_list.ensures.err).0

pub returns : goal.returns
returns c = record {
  ok = on_ok c.end_list.result (pieces 0 c.end_list.new.ends.items c.end_list.new.numbers.items ≡ pieces 0 c.self.inside.ends.items c.self.inside.numbers.items ++ (map (slice_index c.args.found.now) c.args.indices.now) ∷ [])
      (pieces 0 c.end_list.new.ends.items c.end_list.new.numbers.items ≡ c.args.self.now ++ (map (slice_index c.args.found.now) c.args.indices.now) ∷ [])
      (list_settled c.self.inside.ends.items c.self.inside.numbers.items c.add_found-added.new.numbers.items c.end_list.new.ends.items c.end_list.new.numbers.items
      (map (slice_index c.args.found.now) c.args.indices.now) c.len-start.result c.add_found-added.result c.end_list.result c.self.invariant
      (c.len-start.ensures ∙ c.self.inside.numbers.ok.0) c.add_found-added.ensures.ok
      c.add_found-added.ensures.front c.end_list.ensures.added c.end_list.ensures.same c.end_list.ensures.ended c.end_list.ensures.few
      c.end_list.ensures.err).1
      (λ e. e ∙ ap (λ l. l ++ (map (slice_index c.args.found.now) c.args.indices.now) ∷ []) c.self.view_is);
}
