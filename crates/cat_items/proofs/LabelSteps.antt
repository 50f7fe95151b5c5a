-- A walk over the labels of an array.
use Rattle.std.proofs.Common.{◌≡◌, ℕ, suc, ◌<◌, ◌≤◌, ◌+◌, List, [], ◌∷◌, ◌++◌, length, get_or, drop, Bool, true, false, cond, Option, Some, None, refl, sym, ap, ◌∙◌, arith, rules, drop-cons, ltb, add-one, append_assoc}
use Rattle.std.specs.Option.{option_or, option_map_or}
use Rattle.serde_json.specs.View.{view, items_view}
use Rattle.serde_json.specs.declared.value.Value.{Value}
use Rattle.serde_json.specs.Events.{items_len}
use Rattle.serde_json.specs.Find.{as_str}
use Rattle.serde_json.proofs.Views.{items_len-items_view}
use Rattle.cat_base.specs.declared.refusal.Refusal.{Refusal}
use Rattle.cat_base.specs.declared.refusal.Refusal.TheVariants.{Large}
use Rattle.cat_model.specs.Text.{Text}
use Rattle.cat_items.specs.Reading.{some_label_fault, labels_fault, list_fault, label_texts}

-- where the label at the front has a fault, it is the first
pub faulty_label : (vs : List Value) (i : ℕ) (v : Value) (fault : Refusal) → i < length vs → v ≡ get_or vs i v → some_label_fault (view v) ≡ Some fault → labels_fault (items_view (drop i vs)) ≡ Some fault
faulty_label vs i v fault lt is faulty =
    ap (λ l. labels_fault (items_view l)) (drop-cons vs i v lt ∙ ap (λ x. x ∷ drop (suc i) vs) (sym is))
    ∙ ap (λ o. option_or o (labels_fault (items_view (drop (suc i) vs)))) faulty

pick_then : (b : Bool) (x y : Option Refusal) → b ≡ true → x ≡ cond b x y
pick_then true x y e = refl
pick_then false x y e = (cc)

pick_else : (b : Bool) (x y : Option Refusal) → b ≡ false → y ≡ cond b x y
pick_else true x y e = (cc)
pick_else false x y e = refl

over : (n : ℕ) → 64 < n → ltb 64 n ≡ true
over n h = grind (arith, rules)

within : (n : ℕ) → n ≤ 64 → ltb 64 n ≡ false
within n h = grind (arith, rules)

-- more than 64 labels are too many, whatever they are
pub list_over : (vs : List Value) → 64 < length vs → Some Large ≡ list_fault (items_view vs)
list_over vs h = pick_then (ltb 64 (items_len (items_view vs))) (Some Large) (labels_fault (items_view vs)) (ap (ltb 64) (items_len-items_view vs) ∙ over (length vs) h)

-- of at most 64 labels the first that is wrong decides
pub list_within : (vs : List Value) → length vs ≤ 64 → labels_fault (items_view vs) ≡ list_fault (items_view vs)
list_within vs h = pick_else (ltb 64 (items_len (items_view vs))) (Some Large) (labels_fault (items_view vs)) (ap (ltb 64) (items_len-items_view vs) ∙ within (length vs) h)

-- ---- the texts of the labels

from_here : (vs : List Value) (i : ℕ) (v : Value) → i < length vs → v ≡ get_or vs i v → label_texts (items_view (v ∷ drop (i + 1) vs)) ≡ label_texts (items_view (drop i vs))
from_here vs i v lt is = ap (λ j. label_texts (items_view (v ∷ drop j vs))) (add-one i) ∙ ap (λ x. label_texts (items_view (x ∷ drop (suc i) vs))) is ∙ ap (λ l. label_texts (items_view l)) (sym (drop-cons vs i v lt))

-- one more label
pub label_taken : (old new : List Text) (vs : List Value) (i : ℕ) (v : Value) (label copy : Text) → i < length vs → v ≡ get_or vs i v → Some label ≡ as_str (view v) → copy ≡ label → new ≡ old ++ copy ∷ []
    → new ++ label_texts (items_view (drop (i + 1) vs)) ≡ old ++ label_texts (items_view (drop i vs))
label_taken old new vs i v label copy lt is has same pushed =
    let rest = label_texts (items_view (drop (i + 1) vs)) in
    ap (λ l. l ++ rest) (pushed ∙ ap (λ s. old ++ s ∷ []) same)
    ∙ append_assoc old (label ∷ []) rest
    ∙ ap (λ o. old ++ option_map_or (λ s. s ∷ rest) o rest) has
    ∙ ap (λ l. old ++ l) (from_here vs i v lt is)

-- what is no text gives none
pub label_passed : (old new : List Text) (vs : List Value) (i : ℕ) (v : Value) → i < length vs → v ≡ get_or vs i v → None ≡ as_str (view v) → new ≡ old
    → new ++ label_texts (items_view (drop (i + 1) vs)) ≡ old ++ label_texts (items_view (drop i vs))
label_passed old new vs i v lt is has same =
    let rest = label_texts (items_view (drop (i + 1) vs)) in
    ap (λ l. l ++ rest) same
    ∙ ap (λ o. old ++ option_map_or (λ s. s ∷ rest) o rest) has
    ∙ ap (λ l. old ++ l) (from_here vs i v lt is)
