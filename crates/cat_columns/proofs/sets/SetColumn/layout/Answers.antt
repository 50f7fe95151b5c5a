use Rattle.std.proofs.Common.{◌∙◌, ℕ, List, length, refl, sym, ap, subst}
use Rattle.cat_model.specs.Layout.{pieces, AreEnds}
use Rattle.cat_columns.proofs.Cuts.{rows_ends}
use Rattle.cat_columns.proofs.Laid.{labels_read}
use Rattle.cat_columns.proofs.sets.SetColumn.layout.Goals as goal

pub returns-clause-parts : goal.returns-clause-parts
returns-clause-parts c =
    subst (λ (l : List ℕ). AreEnds 0 l (length c.deref-2.result.now)) (sym c.deref.ensures.value) (subst (λ (l : List ℕ). AreEnds 0 c.self.inside.ends.items (length l)) (sym c.deref-2.ensures.value) c.self.invariant.parts)

pub returns-clause-laid : goal.returns-clause-laid
returns-clause-laid c =
    ap (λ (l : List ℕ). pieces 0 l c.deref-2.result.now) c.deref.ensures.value ∙ ap (pieces 0 c.self.inside.ends.items) c.deref-2.ensures.value
    ∙ sym (labels_read _ _ _ _ c.args.self.now refl c.self.invariant c.self.view_is).1

pub returns-clause-rows : goal.returns-clause-rows
returns-clause-rows c = ap length c.deref.ensures.value ∙ sym (rows_ends _ _ _ c.args.self.now c.self.invariant c.self.view_is)
