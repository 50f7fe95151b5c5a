use Rattle.std.proofs.Common.{◌≡◌, ◌<◌, ◌≤◌, ◌+◌, ◌-◌, ◌*◌, ◌^◌, ◌++◌, ◌∙◌, ℕ, None, false, true, get_or, option_map, sym, ap, subst, refl, arith, rules}
use Rattle.std.specs.List.{range_with_len}
use Rattle.std.specs.Prelude.{slice_index_or}
use Rattle.std.proofs.lemmas.Grind.{elements}
use Rattle.cat_model.specs.Page.{Key}
use Rattle.cat_search.specs.Blocks.{has_bit}
use Rattle.cat_search.specs.Candidates.{IsBestAt, TakesIn, mark_standing}
use Rattle.cat_search.proofs.Bars.{rank-at}
use Rattle.cat_search.proofs.BlockRows.{ArePassed, all_out_passed, bit_within, look_passed, no_bits, none_passed, taken_from}
use Rattle.cat_search.proofs.Gathered.{none}
use Rattle.cat_search.proofs.blocks.offer_block.Goals as goal

pub loop-left-init : goal.loop-left-init
loop-left-init c =
    let mark = mark_standing c.args.mark.now in
    let ranks = c.args.ranks.now in
    let numbers = c.args.numbers.now in
    let first = 64 * c.args.block in
    record {
      bound = omega arith;
      bits = λ i. ap (has_bit c.lets_in_of-asked.result) (let e : i ≡ 0 + i = omega arith in e);
      limit = refl;
      bar = c.of-bar.ensures;
      rows = λ ps h. none_passed mark ranks c.args.hits.now first (λ i. (i < 64) × (has_bit c.lets_in_of-asked.result i ≡ false)) ps c.args.best.now h
          (λ i o. c.of-bar.ensures (slice_index_or numbers (first + i) None) (c.lets_in_of-asked.ensures i o.0 o.1) (get_or ranks (first + i) none) (rank-at Key.number c.args.order numbers ranks c.requires.ranked (first + i) (slice_index_or numbers (first + i) None) refl));
    }

pub loop-left-preserved : goal.loop-left-preserved
loop-left-preserved c =
    let mark = mark_standing c.args.mark.now in
    let ranks = c.args.ranks.now in
    let hits = c.args.hits.now in
    let first = 64 * c.args.block in
    let k = c.loop-left.passed in
    let asked = c.lets_in_of-asked.result in
    let zeros = c.first_bit-zeros.result.0 in
    let held = c.loop-left.invariant in
    let here : has_bit asked (k + zeros) ≡ true = sym (held.bits zeros) ∙ c.first_bit-zeros.ensures.here in
    let fits : asked < 2 ^ 64 = search rules in
    let within = bit_within asked (k + zeros) fits here in
    let IsOut : ℕ → Type 0 = λ i. (i < 64) × (has_bit asked i ≡ false) in
    let next : k + zeros + 1 ≡ k + (zeros + 1) = omega arith in
    record {
      bound = omega (arith, within);
      bits = λ i. c.first_bit-zeros.ensures.above i ∙ held.bits (zeros + 1 + i) ∙ ap (has_bit asked) (let e : k + (zeros + 1 + i) ≡ k + (zeros + 1) + i = omega arith in e);
      limit = c.in_ok-offer_row.ensures.limit ∙ held.limit;
      bar = c.in_ok-offer_row.ensures.bar;
      rows = λ ps h.
          let before = all_out_passed mark ranks hits first IsOut ps c.loop-left.best k zeros (held.rows ps h) (λ i low high. (
            omega (arith, low, high, within),
            ap (has_bit asked) (let e : i ≡ k + (i - k) = omega (arith, low) in e) ∙ sym (held.bits (i - k)) ∙ c.first_bit-zeros.ensures.below (i - k) (omega (arith, low, high)),
          )) in
          let takes = taken_from mark ranks hits first k zeros c.loop-left.best c.offer_row.new.best c.in_ok-offer_row.ensures.best in
          subst (ArePassed mark ranks hits first IsOut ps c.offer_row.new.best) next
          (look_passed mark ranks hits first IsOut ps c.loop-left.best c.offer_row.new.best (k + zeros) c.in_ok-offer_row.ensures.limit before takes);
    }

pub returns-clause-best : goal.returns-clause-best
returns-clause-best c = λ ps h.
    let mark = mark_standing c.args.mark.now in
    let ranks = c.args.ranks.now in
    let hits = c.args.hits.now in
    let first = 64 * c.args.block in
    let k = c.loop-left.passed in
    let asked = c.lets_in_of-asked.result in
    let held = c.loop-left.invariant in
    let IsOut : ℕ → Type 0 = λ i. (i < 64) × (has_bit asked i ≡ false) in
    let bound = held.bound in
    let all = all_out_passed mark ranks hits first IsOut ps c.loop-left.best k (64 - k) (held.rows ps h) (λ i low high. (
      omega (arith, low, high, bound),
      ap (has_bit asked) (let e : i ≡ k + (i - k) = omega (arith, low) in e) ∙ sym (held.bits (i - k)) ∙ no_bits c.loop-left.left (i - k) c.loop-left-test.false,
    )) in
    let whole : k + (64 - k) ≡ 64 = omega (arith, bound) in
    let last = subst (ArePassed mark ranks hits first IsOut ps c.loop-left.best) whole all in
    last.best

pub overflow_mul-row : goal.overflow_mul-row
overflow_mul-row c = let few = c.len-rows.ensures.few in omega (arith, few, c.requires.within, c.requires.long)

pub overflow_add-row : goal.overflow_add-row
overflow_add-row c = let few = c.len-rows.ensures.few in omega (arith, few, c.requires.within, c.requires.long, c.loop-left.invariant.bound)

pub overflow_add-row-in-loop-left : goal.overflow_add-row-in-loop-left
overflow_add-row-in-loop-left c = let few = c.len-rows.ensures.few in omega (arith, few, c.requires.within, c.requires.long, c.loop-left.invariant.bound, c.first_bit-zeros.ensures.within)

pub loop-left-smaller : goal.loop-left-smaller
loop-left-smaller c =
    let k = c.loop-left.passed in
    let zeros = c.first_bit-zeros.result.0 in
    let asked = c.lets_in_of-asked.result in
    let here : has_bit asked (k + zeros) ≡ true = sym (c.loop-left.invariant.bits zeros) ∙ c.first_bit-zeros.ensures.here in
    let fits : asked < 2 ^ 64 = search rules in
    let within = bit_within asked (k + zeros) fits here in
    omega (arith, within)

pub lets_in_of-asked-requires : goal.lets_in_of-asked-requires
lets_in_of-asked-requires c = grind (arith, elements)
