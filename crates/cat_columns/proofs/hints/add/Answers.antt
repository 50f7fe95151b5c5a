use Rattle.std.proofs.Common.{◌≡◌, ℕ, ◌<◌, List, length, get_or, slice_set, sym, ap, subst, inl, inr, ◌∙◌}
use Rattle.std.proofs.lemmas.Bool.{cases_eq}
use Rattle.std.proofs.lemmas.List.{get_or_default, get_or-set_same, get_or-set_other, length-set}
use Rattle.cat_columns.specs.declared.hints.Hint.{Hint}
use Rattle.cat_columns.specs.declared.hints.Hint.TheVariants.{Crowded, Empty}
use Rattle.cat_columns.specs.Hints.{Allows, slot_of}
use Rattle.cat_columns.proofs.hints.add.Goals as goal

-- what the slots let stand once one is written, where that lets stand what it did before
written : (old : List Hint) (slot : ℕ) (read hint : Hint) (at other : ℕ) → slot < length old → read ≡ get_or old slot Crowded → ((place : ℕ) → Allows read place → Allows hint place) → Allows (get_or old at Crowded) other
    → Allows (get_or (slice_set old slot hint) at Crowded) other
written old slot read hint at other lt is kept allows = elim (cases_eq at slot) [
  | inl same ↦
      subst (λ (k : ℕ). Allows (get_or (slice_set old slot hint) k Crowded) other) (sym same)
      (subst (λ (h : Hint). Allows h other) (sym (get_or-set_same old slot hint Crowded lt)) (kept other (subst (λ (h : Hint). Allows h other) (ap (λ (k : ℕ). get_or old k Crowded) same ∙ sym is) allows)))
  | inr apart ↦ subst (λ (h : Hint). Allows h other) (sym (get_or-set_other old slot at hint Crowded apart)) allows
]

pub returns-clause-long : goal.returns-clause-long
returns-clause-long c = length-set c.args.hints.now c.slot_of-slot.result c.joined.result

pub returns-clause-here : goal.returns-clause-here
returns-clause-here c =
    let hints = c.args.hints.now in
    let slot = c.slot_of-slot.result in
    let hint = c.joined.result in
    let long = length-set hints slot hint in
    subst (λ (n : ℕ). Allows (get_or (slice_set hints slot hint) (slot_of c.args.hash n) Crowded) c.args.place) (sym long)
    (subst (λ (k : ℕ). Allows (get_or (slice_set hints slot hint) k Crowded) c.args.place) c.slot_of-slot.ensures.value
    (subst (λ (h : Hint). Allows h c.args.place) (sym (get_or-set_same hints slot hint Crowded (c.slot_of-slot.ensures.bound c.requires.some))) c.joined.ensures.here))

pub returns-clause-kept : goal.returns-clause-kept
returns-clause-kept c = λ hash other allows.
    let hints = c.args.hints.now in
    let slot = c.slot_of-slot.result in
    let hint = c.joined.result in
    subst (λ (n : ℕ). Allows (get_or (slice_set hints slot hint) (slot_of hash n) Crowded) other) (sym (length-set hints slot hint))
    (written hints slot _ hint (slot_of hash (length hints)) other (c.slot_of-slot.ensures.bound c.requires.some) (get_or_default hints slot Empty Crowded (c.slot_of-slot.ensures.bound c.requires.some)) c.joined.ensures.kept allows)
