-- Whether a text is one of a list.
use Rattle.std.proofs.Common.{◌≡◌, ◌↔◌, List, Bool, true, false, IsTrue, Contains, refl, sym, true≢false}
use Rattle.std.specs.Bool.{Decides}
use Rattle.std.specs.List.{list_any}
use Rattle.std.proofs.lemmas.Bool.Decides.{Decides-by_or}
use Rattle.std.proofs.lemmas.List.Elements.{Decides-contains}
use Rattle.std.proofs.lemmas.Slice.Eq.{bytes_eq-Decides}
use Rattle.cat_model.specs.Text.{Text, same_text}

any_Decides : (t : Text) (ts : List Text) → Decides (list_any (same_text t) ts) (Contains ts t)
any_Decides t ts =
    Decides-contains ts t (list_any (same_text t) ts)
    (Decides-by_or (same_text t) (λ y. y ≡ t) (list_any (same_text t)) (λ y. (λ e. sym ((bytes_eq-Decides t y).0 e), λ e. (bytes_eq-Decides t y).1 (sym e))) refl (λ x xs. refl) ts)

agreeing : {P : Type 0} (a b : Bool) → (IsTrue a ↔ P) → Decides b P → a ≡ b
agreeing true true h d = refl
agreeing true false h d = absurd (true≢false (sym (d.1 (h.0 refl))))
agreeing false true h d = absurd (true≢false (sym (h.1 (d.0 refl))))
agreeing false false h d = refl

pub any_from_Contains : (r : Bool) (t : Text) (ts : List Text) → (IsTrue r ↔ Contains ts t) → r ≡ list_any (same_text t) ts
any_from_Contains r t ts h = agreeing r (list_any (same_text t) ts) h (any_Decides t ts)
