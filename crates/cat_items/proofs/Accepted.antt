-- The fields that an item has, one by one.
use Rattle.std.proofs.Common.{◌≡◌, ℕ, suc, ◌+◌, ◌<◌, ◌≤◌, List, [], ◌∷◌, length, get_or, drop, refl, sym, ap, subst, ◌∙◌, arith, drop-cons, add-one}
use Rattle.std.specs.Prelude.{◌↔◌}
use Rattle.std.proofs.lemmas.List.{drop_all}
use Rattle.cat_model.specs.Item.{Field, AreFields}
use Rattle.cat_items.specs.declared.item.FieldValue.{FieldValue}
use Rattle.cat_items.specs.Contents.{named_contents, IsHad}

abbrev pub HasFrom : ℕ → List Field → List Field → List FieldValue → Type 0
HasFrom i fs own vs = AreFields (drop i fs) (named_contents (drop i own) (drop i vs))

moved : (fs fs' own own' : List Field) (vs vs' : List FieldValue) → fs ≡ fs' → own ≡ own' → vs ≡ vs' → AreFields fs (named_contents own vs) → AreFields fs' (named_contents own' vs')
moved fs fs' own own' vs vs' a b c h =
    subst (λ x. AreFields fs' (named_contents own' x)) c
    (subst (λ x. AreFields fs' (named_contents x vs)) b
    (subst (λ x. AreFields x (named_contents own vs)) a h))

from_here : {X : Type 0} (xs : List X) (i : ℕ) (x : X) → i < length xs → x ≡ get_or xs i x → drop i xs ≡ x ∷ drop (i + 1) xs
from_here xs i x lt is = drop-cons xs i x lt ∙ ap (λ y. y ∷ drop (suc i) xs) (sym is) ∙ ap (λ j. x ∷ drop j xs) (sym (add-one i))

module _ (fs own : List Field) (vs : List FieldValue) (P : Type 0) where
  -- the field at the front is had
  pub one_more : (i : ℕ) (f g : Field) (v : FieldValue) → i < length fs → i < length own → i < length vs → f ≡ get_or fs i f → g ≡ get_or own i g → v ≡ get_or vs i v
      → IsHad f g v → HasFrom i fs own vs ↔ P → HasFrom (i + 1) fs own vs ↔ P
  one_more i f g v lt lt' lt'' f_is g_is v_is had so_far =
      let a = from_here fs i f lt f_is in
      let b = from_here own i g lt' g_is in
      let c = from_here vs i v lt'' v_is in (
        λ h. so_far.0 (moved (f ∷ drop (i + 1) fs) (drop i fs) (g ∷ drop (i + 1) own) (drop i own) (v ∷ drop (i + 1) vs) (drop i vs) (sym a) (sym b) (sym c) (had, h)),
        λ p. (moved (drop i fs) (f ∷ drop (i + 1) fs) (drop i own) (g ∷ drop (i + 1) own) (drop i vs) (v ∷ drop (i + 1) vs) a b c (so_far.1 p)).1,
      )

  -- the field at the front isn't had
  pub one_wrong : (i : ℕ) (f g : Field) (v : FieldValue) → i < length fs → i < length own → i < length vs → f ≡ get_or fs i f → g ≡ get_or own i g → v ≡ get_or vs i v
      → ¬ (IsHad f g v) → HasFrom i fs own vs ↔ P → ¬ P
  one_wrong i f g v lt lt' lt'' f_is g_is v_is not_had so_far p =
      let a = from_here fs i f lt f_is in
      let b = from_here own i g lt' g_is in
      let c = from_here vs i v lt'' v_is in
      not_had (moved (drop i fs) (f ∷ drop (i + 1) fs) (drop i own) (g ∷ drop (i + 1) own) (drop i vs) (v ∷ drop (i + 1) vs) a b c (so_far.1 p)).0

  -- no field is left
  pub all_had : (i : ℕ) → length fs ≤ i → length fs ≡ length own → length vs ≡ length own → HasFrom i fs own vs ↔ P → P
  all_had i le same each so_far =
      let a = drop_all i fs le in
      let b = drop_all i own (omega arith) in
      let c = drop_all i vs (omega arith) in
      so_far.0 (moved [] (drop i fs) [] (drop i own) [] (drop i vs) (sym a) (sym b) (sym c) tt)

-- fields that are had are as many as the item's own
pub as_many : (fs own : List Field) (vs : List FieldValue) → length vs ≡ length own → AreFields fs (named_contents own vs) → length fs ≡ length own
as_many [] [] vs each h = refl
as_many [] (g ∷ own) [] each h = absurd (omega arith)
as_many [] (g ∷ own) (v ∷ vs) each h = absurd h
as_many (f ∷ fs) [] vs each h = absurd h
as_many (f ∷ fs) (g ∷ own) [] each h = absurd h
as_many (f ∷ fs) (g ∷ own) (v ∷ vs) each h = ap suc (as_many fs own vs (omega arith) h.1)
