use Rattle.std.proofs.Common.{◌≡◌, ◌<◌, ◌-◌, ◌++◌, ℕ, List, leb, inl, inr, true, false, length, take, drop, suc, sym, ◌∙◌, ap, subst, arith}
use Rattle.std.specs.Prelude.{AllPairs}
use Rattle.std.specs.List.{HoldsAt}
use Rattle.std.proofs.lemmas.List.{take_all}
use Rattle.std.proofs.lemmas.Bool.Decides.{leb_tells}
use Rattle.cat_model.specs.View.{Segment, Row, Leaf}
use Rattle.cat_model.specs.Merged.{rows_of_all}
use Rattle.cat_commits.proofs.reading.Ordered.{Ordered, Between, between, starts, ordered_more, not_ordered, rows_more, rows_all, in_order_by, last_in}
use Rattle.cat_commits.proofs.reading.order.in_order.Goals as goal

pub returns-then-write_number-last : goal.returns-then-write_number-last
returns-then-write_number-last c =
    let s : Segment = c.segment-segment.result.now in
    let leaf : Leaf = c.leaf-item.result in
    let rest = rows_of_all (drop (suc c.loop-leaf.leaf-index) c.args.leaves.now) in
    let first = starts s.rows c.write_number.result c.len-rows.ensures.rows.some c.len-rows.ensures.rows.positive c.write_number.ensures in (
      λ no. absurd (let wrong : false ≡ true = no in cc),
      λ k. absurd
          (not_ordered c.loop-leaf.last c.write_number.result (rows_of_all (take c.loop-leaf.leaf-index c.args.leaves.now)) s.rows rest c.loop-leaf.invariant first.0 first.1 (λ less. omega arith)
          (subst (AllPairs (λ (a b : Row). a.number < b.number))
          (rows_all c.args.leaves.now c.loop-leaf.leaf-index leaf c.loop-leaf-test.true (sym c.leaf-item.is) ∙ ap (λ (t : Segment). rows_of_all (take c.loop-leaf.leaf-index c.args.leaves.now) ++ (t.rows ++ rest)) (sym c.segment-segment.ensures))
          k.rising)),
    )

pub loop-leaf-preserved : goal.loop-leaf-preserved
loop-leaf-preserved c =
    let s : Segment = c.segment-segment.result.now in
    let leaf : Leaf = c.leaf-item.result in
    let end : HoldsAt (λ (r : Row). r.number ≡ c.write_number-last.result) s.rows (length s.rows - 1) =
    subst (λ (n : ℕ). HoldsAt (λ (r : Row). r.number ≡ c.write_number-last.result) s.rows (n - 1)) c.len-rows.ensures.same c.write_number-last.ensures in
    let more = between s.rows c.write_number.result c.write_number-last.result c.len-rows.ensures.rows.some c.len-rows.ensures.rows.positive c.len-rows.ensures.rows.rising c.write_number.ensures end in
    subst (Ordered c.write_number-last.result) (sym (rows_more c.args.leaves.now c.loop-leaf.leaf-index leaf c.loop-leaf-test.true (sym c.leaf-item.is)))
    (ordered_more c.loop-leaf.last c.write_number.result c.write_number-last.result (rows_of_all (take c.loop-leaf.leaf-index c.args.leaves.now)) leaf.segment.rows c.loop-leaf.invariant
    (subst (λ (t : Segment). Between c.write_number.result c.write_number-last.result t.rows) c.segment-segment.ensures more) (omega arith))

pub returns : goal.returns
returns c =
    let all : take c.loop-leaf.leaf-index c.args.leaves.now ≡ c.args.leaves.now = take_all c.loop-leaf.leaf-index c.args.leaves.now (omega arith) in
    let o : Ordered c.loop-leaf.last (rows_of_all c.args.leaves.now) = subst (λ (ls : List Leaf). Ordered c.loop-leaf.last (rows_of_all ls)) all c.loop-leaf.invariant in
    elim (leb_tells c.loop-leaf.last c.args.token) [
      | inl e ↦ (λ t. in_order_by c.loop-leaf.last c.args.token (rows_of_all c.args.leaves.now) o e.1, λ k. e.0)
      | inr e ↦ (λ t. absurd (let yes : leb c.loop-leaf.last c.args.token ≡ true = t in cc), λ k. absurd (omega (arith, last_in c.loop-leaf.last c.args.token (rows_of_all c.args.leaves.now) o k, e.1)))
    ]
