-- What is said of the view that is held, and what a read makes of the sets and the notes.
use Rattle.std.proofs.Common.{◌≡◌, ◌∙◌, Option, Some, None, refl, sym, ap, subst, inr}
use Rattle.std.specs.Prelude.{Err, IfOk, IfSome, MatchOption, Ok, OnErr, OnOk, Result}
use Rattle.std.specs.Result.{IsErr}
use Rattle.cat_model.specs.Item.{Schema}
use Rattle.cat_model.specs.Query.{Query}
use Rattle.cat_model.specs.Text.{Text}
use Rattle.cat_model.specs.View.{View, segments_of}
use Rattle.cat_cached_sets.specs.cat_query.declared.query.Query as code
use Rattle.cat_protocol.specs.cat_search.Views.{Prepared}
use Rattle.cat_cached_sets.specs.filters.Filters.{Filters, noted_with, sets_used_in}
use Rattle.cat_commands.specs.searches.Uses.{Uses, UsesAndNotes, UsesSpelled}

-- what is said of whatever is held is said of this one
pub of_held : {A : Type 0} (P : A → Type 0) (held : Option A) (v : A) → held ≡ Some v → IfSome held P → P v
of_held P held v is h = subst (λ o. IfSome o P) is h

-- and the other way round
pub to_held : {A : Type 0} (P : A → Type 0) (held : Option A) (v : A) → held ≡ Some v → P v → IfSome held P
to_held P held v is h = subst (λ o. IfSome o P) (sym is) h

-- what is so of what is held
pub by_held : {A : Type 0} (N : Type 0) (P : A → Type 0) (held : Option A) (v : A) → held ≡ Some v → P v → MatchOption held N P
by_held N P held v is h = subst (λ o. MatchOption o N P) (sym is) h

-- what is so whatever is held, and where nothing is
pub by_any : {A : Type 0} (N : Type 0) (P : A → Type 0) (held : Option A) → N → ((v : A) → P v) → MatchOption held N P
by_any N P None none some = none
by_any N P (Some v) none some = some v

-- a note behind the uses
pub noted_after : (q p : Query) (view : View) (old used new : Filters) → Uses q view old used → p ≡ q → new ≡ record used { noted = noted_with p used.noted }
    → UsesAndNotes q view old new
noted_after q p view old used new uses same noted =
    noted ∙ ap (λ (f : Filters). record f { noted = noted_with p f.noted }) uses
    ∙ ap (λ (p : Query). record { cached = sets_used_in q (segments_of view.leaves) old.cached; noted = noted_with p old.noted; warming = old.warming }) same

-- whatever is held, nothing changed
pub unchanged : {A : Type 0} (view : A → View) (schema : Schema) (text : Text) (f : Filters) (held : Option A)
    → MatchOption held (f ≡ f) (λ h. UsesSpelled schema text (view h) f f)
unchanged view schema text f held = by_any (f ≡ f) (λ h. UsesSpelled schema text (view h) f f) held refl (λ h. inr refl)

-- what was made ready, where memory was found for it
pub prepared_is : {E : Type 0} (r : Result Prepared E) (p : Prepared) → r ≡ Ok p → (view : View) (query : code.Query)
    → IfOk r (λ p. p ≡ record { view = view; query = query }) → p ≡ record { view = view; query = query }
prepared_is r p is view query made = subst (λ r. IfOk r (λ p. p ≡ record { view = view; query = query })) is made

-- what a fault gives
pub no_ok : {X E : Type 0} (P : X → Type 0) (r : Result X E) → IsErr r → IfOk r P
no_ok P (Ok x) is = cc
no_ok P (Err e) is = tt

pub none_ok : {X E : Type 0} (A : Type 0) (r : Result X E) → IsErr r → OnOk r A
none_ok A (Ok x) is = cc
none_ok A (Err e) is = tt

pub at_err : {X E : Type 0} (A : Type 0) (r : Result X E) → A → OnErr r A
at_err A (Ok x) so = tt
at_err A (Err e) so = so
