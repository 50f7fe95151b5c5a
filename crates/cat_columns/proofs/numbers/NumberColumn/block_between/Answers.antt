use Rattle.std.proofs.Common.{◌+◌, ◌*◌, false, length, ap, ◌∙◌, get_or, map, arith, inl, inr}
use Rattle.std.proofs.lemmas.Bool.{cases_lt}
use Rattle.std.proofs.lemmas.List.{get_or_past, length-map}
use Rattle.cat_columns.specs.Columns.{is_between}
use Rattle.cat_columns.proofs.Presence.{length-numbers, number_tested}
use Rattle.cat_columns.proofs.numbers.NumberColumn.block_between.Goals as goal

pub block_at-requires-clause-few : goal.block_at-requires-clause-few
block_at-requires-clause-few c = omega (arith, c.self.invariant.few, c.self.invariant.same, ap length c.deref.ensures.value)

pub block_at-requires-clause-within : goal.block_at-requires-clause-within
block_at-requires-clause-within c =
    omega (arith, c.requires, c.self.invariant.same, length-numbers _ _ c.self.invariant.same, ap length c.self.view_is, ap length c.deref.ensures.value)

pub returns-clause-numbers : goal.returns-clause-numbers
returns-clause-numbers c = λ i n below there.
    let test = is_between c.args.low c.args.high in
    let row = 64 * c.args.block + i in
    c.block_at.ensures.bits i below ∙ ap (λ ns. get_or (map test ns) row false) c.deref.ensures.value
    ∙ number_tested test _ _ c.args.self.now row n c.self.invariant.same c.self.view_is there

pub returns-clause-rows : goal.returns-clause-rows
returns-clause-rows c = λ i past.
    let test = is_between c.args.low c.args.high in
    let long = length-numbers _ _ c.self.invariant.same in
    let seen = ap length c.self.view_is in
    let values = ap length c.deref.ensures.value in
    elim (cases_lt i 64) [
      | inl below ↦ c.block_at.ensures.bits i below ∙ get_or_past (map test c.deref.result.now) (64 * c.args.block + i) false (omega (arith, past, long, seen, values, length-map c.deref.result.now test))
      | inr over ↦ c.block_at.ensures.rest i over
    ]
