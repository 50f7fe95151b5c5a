use Rattle.std.proofs.Common.{◌≡◌, ℕ, zero, suc, ◌-◌, List, [], ◌∷◌, ◌++◌, refl, sym, ap, ◌∙◌, append-nil, arith}
use Rattle.cat_columns.specs.Merged.{row_in}
use Rattle.cat_columns.proofs.inverted.merge.add_row.Goals as goal

row_behind : (code : ℕ) → (code ≡ 0 → ⊥) → row_in code ≡ (code - 1) ∷ []
row_behind zero some = absurd (some refl)
row_behind (suc row) some =
    let before : suc row - 1 ≡ row = omega arith in
    ap (λ (k : ℕ). k ∷ []) (sym before)

pub returns-in_ok-push : goal.returns-in_ok-push
returns-in_ok-push c = record { ok = c.in_ok-push.ensures.ok ∙ ap (λ (rows : List ℕ). c.args.list.now.items ++ rows) (sym (row_behind c.args.code c.if-code-ne0.true)) }

pub returns-else-code-ne0 : goal.returns-else-code-ne0
returns-else-code-ne0 c = record { ok = sym (ap (λ (code : ℕ). c.args.list.now.items ++ row_in code) c.if-code-ne0.false ∙ append-nil c.args.list.now.items) }
