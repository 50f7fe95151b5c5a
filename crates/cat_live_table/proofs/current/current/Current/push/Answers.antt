use Rattle.std.proofs.Common.{◌≡◌, ℕ, ◌+◌, ◌++◌, ◌∷◌, [], length, map, Some, None, cond, eqb, hash_map_len, nat_eq, sym, ap, ap₂, ◌∙◌, subst, arith}
use Rattle.std.specs.HashMap.{get, get_by_text}
use Rattle.cat_ledger_laws.specs.model.Leaves.{AreLeaves}
use Rattle.cat_live_table.specs.current.Places.{placed_id_of, standing_in, placed_in_turn}
use Rattle.cat_live_table.proofs.current.Texts.{reordered_text}
use Rattle.cat_live_table.proofs.current.Currents.{renoted, pushed, is_new}
use Rattle.cat_live_table.proofs.current.current.Current.push.Goals as goal

pub invariant_of-self-in_err-reserve-2 : goal.invariant_of-self-in_err-reserve-2
invariant_of-self-in_err-reserve-2 c =
    renoted _ _ _ _ c.self.invariant _ _ _
    (reordered_text c.self.inside.places c.reserve.new.self c.reserve.ensures.entries.2) c.reserve-2.ensures.entries.2 c.reserve-2.ensures.entries.1

pub invariant_of-self-in_err-reserve-3 : goal.invariant_of-self-in_err-reserve-3
invariant_of-self-in_err-reserve-3 c =
    rw c.reserve-3.ensures.items (renoted _ _ _ _ c.self.invariant _ _ _
    (reordered_text c.self.inside.places c.reserve.new.self c.reserve.ensures.entries.2) c.reserve-2.ensures.entries.2 c.reserve-2.ensures.entries.1)

pub invariant_of-self-2 : goal.invariant_of-self-2
invariant_of-self-2 c =
    let items = rw c.unwrap.ensures at c.push-pushed.ensures.items in
    let apart : AreLeaves (c.self.inside.leaves.items ++ c.args.leaf ∷ []) = subst (λ ls. AreLeaves (ls ++ c.args.leaf ∷ [])) (sym c.self.view_is) c.requires in
    let updates = rw c.unwrap-before.ensures at c.insert-indexed.ensures.updates in
    let number : c.number-number.result ≡ c.args.leaf.segment.number = c.number-number.ensures ∙ ap (λ s. s.number) c.segment.ensures in
    let same_items : c.reserve-3.new.self.items ≡ c.self.inside.leaves.items = c.reserve-3.ensures.items in
    let same_length = ap length same_items in
    let long : c.len-2.result ≡ length c.self.inside.leaves.items = omega (arith, c.len-2.ensures, c.reserve-3.new.self.ok, same_length) in
    let old = rw c.unwrap-before.ensures at c.insert-indexed.ensures.old in
    let none : c.unwrap-before.result ≡ None =
    old ∙ ap (get nat_eq c.reserve-2.new.self) number ∙ c.reserve-2.ensures.entries.2 c.args.leaf.segment.number ∙ is_new _ _ _ _ c.self.invariant c.args.leaf apart in
    let grown = rw c.unwrap-before.ensures at c.insert-indexed.ensures.len in
    let more : hash_map_len c.insert-indexed.new.self ≡ hash_map_len c.self.inside.indices + 1 = rw none at grown ∙ ap (λ (n : ℕ). n + 1) c.reserve-2.ensures.entries.1 in
    rw (items, same_items)
    (pushed _ _ _ _ c.self.invariant c.args.leaf _ _ _ apart
    (λ q. c.place_all.ensures q ∙ ap (λ ks. placed_in_turn ks q (get_by_text c.reserve.new.self q)) c.in_ok-placings.ensures.ok
    ∙ ap (placed_in_turn (map placed_id_of (standing_in c.args.leaf)) q) (reordered_text c.self.inside.places c.reserve.new.self c.reserve.ensures.entries.2 q))
    (λ n. updates.0 n ∙ ap₂ (λ (m k : ℕ). cond (eqb m n) (Some k) (get nat_eq c.reserve-2.new.self n)) number long
    ∙ ap (cond (eqb c.args.leaf.segment.number n) (Some (length c.self.inside.leaves.items))) (c.reserve-2.ensures.entries.2 n))
    more)
