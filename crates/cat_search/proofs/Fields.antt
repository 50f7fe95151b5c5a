-- The field that a sort goes by, and what items have in it.
use Rattle.std.proofs.Common.{◌≡◌, ℕ, zero, suc, ◌<◌, ◌≤◌, List, [], ◌∷◌, length, get_or, map, Bool, true, false, cond, nat_lt, Option, Some, None, option_map, slice_get, refl, sym, ap, ◌∙◌, arith}
use Rattle.std.specs.Prelude.{position, find}
use Rattle.std.specs.List.{position_or_len}
use Rattle.std.proofs.lemmas.Bool.Decides.{nat_tests}
use Rattle.std.proofs.lemmas.List.{length-map}
use Rattle.std.proofs.lemmas.List.Folds.{find_at}
use Rattle.std.proofs.lemmas.Option.{slice_get_past, slice_get-get_or}
use Rattle.cat_model.specs.Text.{Text, same_text}
use Rattle.cat_model.specs.Item.{Field, Schema, FieldContent}
use Rattle.cat_model.specs.Page.{Key, key_in}
use Rattle.cat_model.specs.Answer.{is_sort_kind}
use Rattle.cat_query.specs.cat_items.declared.item.FieldValue.{FieldValue}
use Rattle.cat_query.specs.cat_items.Contents.{field_content_of}
use Rattle.cat_search.specs.Sorts.{index_named, can_sort_by}

-- ---- the index of a field

within : (i n : ℕ) → nat_lt i n ≡ true → i < n
within i n e = grind (arith, nat_tests)

past : (i n : ℕ) → nat_lt i n ≡ false → n ≤ i
past i n e = grind (arith, nat_tests)

first_at : (b : Bool) (j i n : ℕ) → nat_lt j n ≡ b → cond b (Some j) None ≡ Some i → (i ≡ j) × (j < n)
first_at true j i n t e = let same : j ≡ i = (cc) in (sym same, within j n t)
first_at false j i n t e = absurd (cc)

none_at : (b : Bool) (j n : ℕ) → nat_lt j n ≡ b → cond b (Some j) None ≡ None → n ≤ j
none_at true j n t e = absurd (cc)
none_at false j n t e = past j n t

module _ {X : Type 0} (p : X → Bool) (xs : List X) where
  pub position-is : (i : ℕ) → position p xs ≡ Some i → (i ≡ position_or_len p xs) × (i < length xs)
  position-is i e =
      let h = first_at (nat_lt (position_or_len p xs) (length xs)) (position_or_len p xs) i (length xs) refl e in
      let same : i ≡ position_or_len p xs = h.0 in
      (same, rw same h.1)

  pub found_at : (i : ℕ) (x : X) → position p xs ≡ Some i → x ≡ get_or xs i x → find p xs ≡ Some x
  found_at i x e at =
      let h = position-is i e in
      find_at p xs ∙ ap (slice_get xs) (sym h.0) ∙ slice_get-get_or xs i x h.1 ∙ ap Some (sym at)

  pub found_none : position p xs ≡ None → find p xs ≡ None
  found_none e = find_at p xs ∙ slice_get_past xs (position_or_len p xs) (none_at (nat_lt (position_or_len p xs) (length xs)) (position_or_len p xs) (length xs) refl e)

-- a field that was found by its name is where the name's index is, and tells whether one can sort by it
pub named_field : (name : Text) (gs fs : Schema) (i : ℕ) (x : Field) → gs ≡ fs → Some i ≡ position (λ f. same_text f.name name) gs → x ≡ get_or gs i x
    → (i ≡ index_named name fs) × (can_sort_by fs name ≡ is_sort_kind (Some x.kind))
named_field name gs fs i x same e at = (
  (position-is (λ f. same_text f.name name) gs i (sym e)).0 ∙ ap (index_named name) same,
  ap (λ hs. can_sort_by hs name) (sym same) ∙ ap (λ o. is_sort_kind (option_map (λ f. f.kind) o)) (found_at (λ f. same_text f.name name) gs i x (sym e) at),
)

pub no_field : (name : Text) (gs fs : Schema) → gs ≡ fs → None ≡ position (λ f. same_text f.name name) gs → can_sort_by fs name ≡ false
no_field name gs fs same e =
    ap (λ hs. can_sort_by hs name) (sym same) ∙ ap (λ o. is_sort_kind (option_map (λ f. f.kind) o)) (found_none (λ f. same_text f.name name) gs (sym e))

-- ---- what an item has in the field

pub part_is : (vs : List FieldValue) (ps : List FieldContent) (i : ℕ) (v : FieldValue) → map field_content_of vs ≡ map (λ p. p.content) ps → nat_lt i (length vs) ≡ true → v ≡ get_or vs i v
    → Some (field_content_of v) ≡ option_map (λ p. p.content) (slice_get ps i)
part_is [] ps i v e h at = absurd (let l : i < 0 = within i 0 h in omega (arith, l))
part_is (w ∷ vs) [] i v e h at = absurd (cc)
part_is (w ∷ vs) (p ∷ ps) zero v e h at = let here : field_content_of w ≡ p.content = (cc) in ap (λ x. Some (field_content_of x)) at ∙ ap Some here
part_is (w ∷ vs) (p ∷ ps) (suc i) v e h at =
    let later : map field_content_of vs ≡ map (λ q. q.content) ps = (cc) in
    let l : suc i < suc (length vs) = within (suc i) (suc (length vs)) h in
    part_is vs ps i v later (below i (length vs) (omega (arith, l))) at
  where
    below : (m n : ℕ) → m < n → nat_lt m n ≡ true
    below m n q = grind (arith, nat_tests)

pub no_part : (vs : List FieldValue) (ps : List FieldContent) (i : ℕ) → map field_content_of vs ≡ map (λ p. p.content) ps → nat_lt i (length vs) ≡ false
    → ◌≡◌ {A = Option Key} None (key_in (option_map (λ p. p.content) (slice_get ps i)))
no_part vs ps i e h =
    let long : length vs ≡ length ps = sym (length-map vs field_content_of) ∙ ap length e ∙ length-map ps (λ p. p.content) in
    let far : length vs ≤ i = past i (length vs) h in
    ap (λ o. key_in (option_map (λ p. p.content) o)) (sym (slice_get_past ps i (omega (arith, long, far))))
