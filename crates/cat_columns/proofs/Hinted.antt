-- What hints say of the texts that they are of.
use Rattle.std.proofs.Common.{◌≡◌, ◌≢◌, ℕ, ◌+◌, ◌<◌, List, [], length, get_or, sym, ap, ◌∙◌, subst, inl, inr, arith, refl, Option, Some, None}
use Rattle.std.specs.Prelude.{Contains, IfSome}
use Rattle.std.proofs.lemmas.Bool.{cases_lt}
use Rattle.std.proofs.lemmas.List.{get_or_default}
use Rattle.cat_model.specs.Text.{Text}
use Rattle.cat_model.specs.Ordinals.{text_at, IsOrdinal}
use Rattle.cat_columns.specs.declared.hints.Hint.{Hint}
use Rattle.cat_columns.specs.declared.hints.Hint.TheVariants.{Empty, One}
use Rattle.cat_columns.specs.Hints.{hint_of, Allows, AllowFirst, AreHints}
use Rattle.cat_columns.specs.TextHash.{text_hash}

-- one text more
pub allow_more : (texts : List Text) (i hash : ℕ) (old new : List Hint) → AllowFirst texts i old → hash ≡ text_hash (text_at texts i) → Allows (hint_of new hash) i
    → ((h o : ℕ) → Allows (hint_of old h) o → Allows (hint_of new h) o) → AllowFirst texts (i + 1) new
allow_more texts i hash old new before is here kept place lt = elim (cases_lt place i) [
  | inl under ↦ kept _ place (before place under)
  | inr over ↦
      let last : i ≡ place = omega arith in
      subst (λ p. Allows (hint_of new (text_hash (text_at texts p))) p) last (subst (λ h. Allows (hint_of new h) i) is here)
]

-- the hint of a text's hash lets it stand where it does
allowed : (ds : List Text) (hints : List Hint) (t : Text) → AreHints ds hints → (has : Contains ds t) → Allows (hint_of hints (text_hash t)) has.0
allowed ds hints t are has =
    let at : text_at ds has.0 ≡ t = get_or_default ds has.0 [] t has.1 ∙ has.2 in
    subst (λ u. Allows (hint_of hints (text_hash u)) has.0) at (are.allow has.0 has.1)

-- an empty slot tells that the text is absent
pub none_tells : (ds : List Text) (hints : List Hint) (t : Text) → AreHints ds hints → hint_of hints (text_hash t) ≡ Empty → IsOrdinal ds t None
none_tells ds hints t are is has = subst (λ h. Allows h has.0) is (allowed ds hints t are has)

other_has_none : (ds : List Text) (hints : List Hint) (t : Text) (only : ℕ) → AreHints ds hints → hint_of hints (text_hash t) ≡ One only
    → (only < length ds → text_at ds only ≢ t) → IsOrdinal ds t None
other_has_none ds hints t only are is other has =
    let same : only ≡ has.0 = subst (λ h. Allows h has.0) is (allowed ds hints t are has) in
    let at : text_at ds has.0 ≡ t = get_or_default ds has.0 [] t has.1 ∙ has.2 in
    other (subst (λ p. p < length ds) (sym same) has.1) (ap (text_at ds) same ∙ at)

-- what a look at the only place tells
pub one_tells : (ds : List Text) (hints : List Hint) (t : Text) (only : ℕ) (r : Option ℕ) → AreHints ds hints → hint_of hints (text_hash t) ≡ One only
    → IfSome r (λ o. (o < length ds) × (text_at ds o ≡ t)) → (r ≡ None → only < length ds → text_at ds only ≢ t) → IsOrdinal ds t r
one_tells ds hints t only None are is some none = other_has_none ds hints t only are is (none refl)
one_tells ds hints t only (Some o) are is some none = some
