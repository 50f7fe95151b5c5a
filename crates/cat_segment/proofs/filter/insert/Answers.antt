use Rattle.std.proofs.Common.{◌≡◌, ◌<◌, ◌/◌, ◌%◌, ℕ, Bool, true, ◌&&◌, List, length, ap, ap₂, arith, slice_set, subst, sym, ◌∙◌}
use Rattle.std.proofs.lemmas.Grind.{common_steps}
use Rattle.std.proofs.lemmas.List.{length-set}
use Rattle.cat_model.specs.RowSets.{has_row}
use Rattle.cat_segment.specs.Filter.{bit_of, may_have}
use Rattle.cat_segment.proofs.filter.insert.Goals as goal

both_set : (bits : List Bool) (a b : ℕ) → a < length bits → b < length bits
    → (has_row (slice_set (slice_set bits a true) b true) a && has_row (slice_set (slice_set bits a true) b true) b) ≡ true
both_set bits a b p q = grind (arith, common_steps)

both_here : (bits new : List Bool) (hash count a b : ℕ) → new ≡ slice_set (slice_set bits a true) b true → count ≡ length bits
    → a ≡ bit_of (hash / 4294967296) count → b ≡ bit_of (hash % 4294967296) count → a < count → b < count → may_have new hash ≡ true
both_here bits new hash count a b is many one two p q =
    let long : length new ≡ count = omega (arith, ap length is, length-set {A = Bool}, many) in
    ap₂ (λ i j. has_row new i && has_row new j) (ap (bit_of (hash / 4294967296)) long ∙ sym one) (ap (bit_of (hash % 4294967296)) long ∙ sym two)
    ∙ subst (λ l. (has_row l a && has_row l b) ≡ true) (sym is) (both_set bits a b (omega (arith, p, many)) (omega (arith, q, many)))

both_kept : (bits : List Bool) (a b other : ℕ) → may_have bits other ≡ true → may_have (slice_set (slice_set bits a true) b true) other ≡ true
both_kept bits a b other h = grind (arith, common_steps)

pub returns-clause-here : goal.returns-clause-here
returns-clause-here c =
    both_here c.args.bits.now c.insert-2.new.self c.args.hash c.len-count.result c.bit_of.result c.bit_of-2.result
    (c.insert-2.ensures ∙ ap (λ l. slice_set l c.bit_of-2.result true) c.insert.ensures) c.len-count.ensures.value
    c.bit_of.ensures.value c.bit_of-2.ensures.value c.bit_of.ensures.bound c.bit_of-2.ensures.bound

pub returns-clause-kept : goal.returns-clause-kept
returns-clause-kept c = λ other h.
    subst (λ (l : List Bool). may_have l other ≡ true) (sym (c.insert-2.ensures ∙ ap (λ l. slice_set l c.bit_of-2.result true) c.insert.ensures))
    (both_kept c.args.bits.now c.bit_of.result c.bit_of-2.result other h)
