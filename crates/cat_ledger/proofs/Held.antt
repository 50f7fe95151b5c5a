-- The view that a session holds under a token.
use Rattle.std.proofs.Common.{◌≡◌, ℕ, ◌&&◌, ◌||◌, Bool, true, false, List, [], ◌∷◌, map, Option, Some, None, refl, sym, ◌∙◌, ap, subst}
use Rattle.std.specs.Prelude.{◌==◌, option_map}
use Rattle.std.specs.List.{find, list_any}
use Rattle.cat_model.specs.Item.{Schema}
use Rattle.cat_model.specs.State as state
use Rattle.cat_model.specs.State.{has_hold, has_view, held_in}
use Rattle.cat_model.specs.View.{View}
use Rattle.cat_ledger_laws.specs.model.Ledger.{RecordedView, view_shown}
use Rattle.cat_ledger_laws.specs.shape.Shapes.{Shape, recorded_view}
use Rattle.cat_ledger_laws.specs.shape.Ties.{ToldFiles}
use Rattle.cat_ledger_laws.specs.lines.ReadLaws.{IsRecordedAs}
use Rattle.cat_ledger_laws.proofs.lines.Found.{any_weaker}
use Rattle.cat_ledger.specs.Lasting.{IsCarried}
use Rattle.cat_ledger.proofs.Made.{found_there}

second_true : (a b : Bool) → (a && b) ≡ true → b ≡ true
second_true true b e = e
second_true false b e = absurd (let no : false ≡ true = e in cc)

-- a token that a session holds is held
hold_counts : (hs : List state.Hold) (session t : ℕ) → has_hold hs session t ≡ true → held_in hs t ≡ true
hold_counts hs session t held =
    any_weaker (λ h. (h.session == session) && (h.token == t)) (λ h. h.token == t) (λ h own. second_true (h.session == session) (h.token == t) own) hs held

-- the recorded views of memory have the tokens of the model's
same_tokens : (schema : Schema) (t : ℕ) (vs : List RecordedView)
    → list_any (λ (v : View). v.token == t) (map (recorded_view schema) vs) ≡ has_view (map view_shown vs) t
same_tokens schema t [] = refl
same_tokens schema t (v ∷ vs) = ap (λ b. (v.token == t) || b) (same_tokens schema t vs)

-- each token that a session holds has a recorded view
pub held_are_there : (told : ToldFiles) (s : Shape) → IsCarried told s → (session t : ℕ) → has_hold s.holds session t ≡ true
    → list_any (λ (v : View). v.token == t) s.views ≡ true
held_are_there told s k session t =
    let l = k.0 in
    subst (λ (s : Shape). has_hold s.holds session t ≡ true → list_any (λ (v : View). v.token == t) s.views ≡ true) k.2.shape
    (λ held. same_tokens l.schema t l.views ∙ k.2.sound.sound.held t (hold_counts l.holds session t held))

-- so who finds none doesn't hold the token
pub unheld_where_none : (told : ToldFiles) (s : Shape) → IsCarried told s → (session t : ℕ) {X : Type 0} (value : X → View) (o : Option X)
    → option_map value o ≡ find (λ (v : View). v.token == t) s.views → has_hold s.holds session t ≡ true → o ≡ None → ⊥
unheld_where_none told s k session t value o same held none =
    found_there s.views t (held_are_there told s k session t held) (sym same ∙ ap (option_map value) none)

-- what is said of the view that is found is said of the recorded one
pub of_recorded : (P : View → Type 0) (views : List View) (t : ℕ) (view : View) → Some view ≡ find (λ (v : View). v.token == t) views → P view
    → (v : View) → IsRecordedAs views t v → P v
of_recorded P views t view found p v is = subst P (one (found ∙ is)) p
  where
    one : ◌≡◌ {A = Option View} (Some view) (Some v) → view ≡ v
    one same = cc
