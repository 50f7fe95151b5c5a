use Rattle.std.proofs.Common.{◌≡◌, ℕ, zero, suc, ◌-◌, List, ◌∷◌, get_or, slice_index, refl, sym, ap, arith}
use Rattle.cat_columns.proofs.sets.start_of.Goals as goal

end_before : (ends : List ℕ) (row : ℕ) → (row ≡ 0 → ⊥) → get_or ends (row - 1) 0 ≡ get_or (0 ∷ ends) row 0
end_before ends zero some = absurd (some refl)
end_before ends (suc row) some =
    let before : suc row - 1 ≡ row = omega arith in
    ap (λ (k : ℕ). get_or ends k 0) before

pub returns-then-row-eq0 : goal.returns-then-row-eq0
returns-then-row-eq0 c = sym (ap (slice_index (0 ∷ c.args.ends.now)) c.if-row-eq0.true)

pub returns-else-row-eq0 : goal.returns-else-row-eq0
returns-else-row-eq0 c = end_before c.args.ends.now c.args.row c.if-row-eq0.false
