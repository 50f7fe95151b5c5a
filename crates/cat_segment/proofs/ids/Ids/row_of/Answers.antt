use Rattle.std.proofs.Common.{◌<◌, [], length, rules, ap, ◌∙◌, arith}
use Rattle.std.proofs.lemmas.Fn.{always_returns_same}
use Rattle.std.proofs.lemmas.List.{get_or_default, get_or_read}
use Rattle.std.proofs.lemmas.Map.Lookups.{exact_bytes}
use Rattle.cat_model.specs.Text.{text_cmp}
use Rattle.cat_model.specs.Ordinals.{text_at}
use Rattle.cat_segment.proofs.Ordered.{id_absent, rows_within}
use Rattle.cat_segment.proofs.ids.Ids.row_of.Goals as goal

pub index-requires : goal.index-requires
index-requires c = search rules

row_within : (c : goal.After-row_known-1) → c.index.result.now < length c.self.inside.ids.items
row_within c =
    let by_id = c.self.inside.by_id.items in
    let inside : c.in-Ok.rank < length by_id = omega (arith, c.in-Ok.ensures.bound, ap length c.deref.ensures.value) in
    let here = get_or_read by_id c.in-Ok.rank c.index.result.now inside c.index.ensures 0 in
    omega (arith, here, rows_within c.self.inside.ids.items by_id c.self.invariant.0.rows c.in-Ok.rank 0 inside)

pub returns-in-Ok-clause-lookup : goal.returns-in-Ok-clause-lookup
returns-in-Ok-clause-lookup c = λ d.
    let ids = c.self.inside.ids.items in
    let by_id = c.self.inside.by_id.items in
    let inside : c.in-Ok.rank < length by_id = omega (arith, c.in-Ok.ensures.bound, ap length c.deref.ensures.value) in
    let here = get_or_read by_id c.in-Ok.rank c.index.result.now inside c.index.ensures 0 in
    let found = c.in-Ok.ensures.position (λ row. text_cmp (text_at ids row) c.args.id.now) (always_returns_same _ _ _ (λ a r f' k. search rules)) 0 in
    let same = exact_bytes _ _ (rw c.deref.ensures.value at found) in
    rw (← c.self.view_is) (get_or_default ids c.index.result.now d [] (row_within c) ∙ ap (text_at ids) here ∙ same)

pub returns-in-Ok-clause-bound : goal.returns-in-Ok-clause-bound
returns-in-Ok-clause-bound c = rw (← c.self.view_is) (row_within c)

pub returns-in-Err-clause-lookup : goal.returns-in-Err-clause-lookup
returns-in-Err-clause-lookup c =
    let ids = c.self.inside.ids.items in
    let by_id = c.self.inside.by_id.items in
    let parted = c.in-Err.ensures.position (λ row. text_cmp (text_at ids row) c.args.id.now) (always_returns_same _ _ _ (λ a r f' k. search rules)) in
    rw (← c.self.view_is) (id_absent ids by_id c.self.invariant.0 c.args.id.now c.in-Err.field-0 (rw c.deref.ensures.value at parted))
