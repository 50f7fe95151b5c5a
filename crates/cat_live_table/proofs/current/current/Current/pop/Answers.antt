use Rattle.std.proofs.Common.{◌≡◌, ◌++◌, ◌∷◌, [], true, Bool, List, is_some, hash_map_len, nat_eq, cond, None, ℕ, eqb, ap, ◌∙◌, subst}
use Rattle.std.specs.HashMap.{get, get_by_text}
use Rattle.cat_model.specs.View.{selected}
use Rattle.cat_live_table.specs.current.Places.{forgotten}
use Rattle.cat_live_table.specs.current.Currents.{IsCurrent}
use Rattle.cat_live_table.proofs.current.Popped.{last_indexed, popped}
use Rattle.cat_live_table.proofs.current.current.Current.pop.Goals as goal

pub invariant_of-self-2 : goal.invariant_of-self-2
invariant_of-self-2 c =
    let leaf = c.in-Some.leaf in
    let front = c.pop.new.self.items in
    let old = c.self.inside.indices in
    let was : IsCurrent (get_by_text c.self.inside.places) (get nat_eq old) (hash_map_len old) (front ++ leaf ∷ []) =
    subst (IsCurrent (get_by_text c.self.inside.places) (get nat_eq old) (hash_map_len old)) c.in-Some.ensures.items c.self.invariant in
    let number : c.number.result ≡ leaf.segment.number = c.number.ensures ∙ ap (λ s. s.number) c.segment.ensures in
    let found : is_some c.remove.result ≡ true =
    ap is_some (c.remove.ensures.value ∙ ap (get nat_eq old) number ∙ was.indexed leaf.segment.number) ∙ last_indexed front leaf in
    let less = rw found at c.remove.ensures.len in
    popped _ _ _ _ _ _ front leaf was
    (λ q. c.forget.ensures q ∙ ap (λ (s : List Bool). forgotten (selected s leaf.segment.rows) q (get_by_text c.self.inside.places q)) (c.rows.ensures ∙ c.live.ensures.value))
    (λ n. c.remove.ensures.updates.0 n ∙ ap (λ (m : ℕ). cond (eqb m n) None (get nat_eq old n)) number)
    less
