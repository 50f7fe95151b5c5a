-- What clauses say of an item: one more of them, and past the last one.
use Rattle.std.proofs.Common.{◌≡◌, ℕ, ◌+◌, ◌<◌, ◌≤◌, Bool, true, false, ◌&&◌, ◌||◌, List, length, drop, get_or, refl, sym, ap, ◌∙◌}
use Rattle.std.proofs.lemmas.List.{drop_all}
use Rattle.cat_model.specs.Item.{Item}
use Rattle.cat_model.specs.Query as model
use Rattle.cat_model.specs.Query.{matches, obeyed, obeys, primary_matches, supported, supports}
use Rattle.cat_query.specs.declared.query.Clause.{Clause}
use Rattle.cat_query.specs.declared.query.Sign.{Sign}
use Rattle.cat_query.specs.declared.query.Sign.TheVariants as sign
use Rattle.cat_query.specs.View.{clauses_of, primary_of, sign_of}
use Rattle.cat_query.proofs.RowTests.{clauses_from}

or_false : (a : Bool) → (a || false) ≡ a
or_false true = refl
or_false false = refl

-- all of them are obeyed
pub all_heard : (item : Item) (cs : List Clause) (i : ℕ) → length cs ≤ i → (found : Bool) → obeyed (clauses_of cs) item ≡ obeyed (clauses_of (drop i cs)) item
    → supported (clauses_of cs) item ≡ (found || supported (clauses_of (drop i cs)) item) → found ≡ matches (clauses_of cs) item
all_heard item cs i past found obeys_all supports_all =
    sym (ap (λ b. b && supported (clauses_of cs) item) (obeys_all ∙ ap (λ l. obeyed (clauses_of l) item) (drop_all i cs past))
    ∙ supports_all ∙ ap (λ l. found || supported (clauses_of l) item) (drop_all i cs past) ∙ or_false found)

or_chain : (a b c : Bool) → (a || (b || c)) ≡ ((a || b) || c)
or_chain true b c = refl
or_chain false b c = refl

or_true : (a b : Bool) → (a || (true || b)) ≡ true
or_true true b = refl
or_true false b = refl

-- what one clause says, and what those behind it say
module _ (item : Item) (cs : List Clause) (i : ℕ) (c : Clause) (lt : i < length cs) (at : c ≡ get_or cs i c) (found : Bool) (is : found ≡ primary_matches (primary_of c.primary) item) (so : Bool)
    (obeys_all : obeyed (clauses_of cs) item ≡ obeyed (clauses_of (drop i cs)) item) (supports_all : supported (clauses_of cs) item ≡ (so || supported (clauses_of (drop i cs)) item)) where
  abbrev obeyed_behind : Bool
  obeyed_behind = obeyed (clauses_of (drop (i + 1) cs)) item

  abbrev supported_behind : Bool
  supported_behind = supported (clauses_of (drop (i + 1) cs)) item

  under : (s : Sign) → c.sign ≡ s → clauses_of (drop i cs) ≡ model.Query.clause (sign_of s) (primary_of c.primary) (clauses_of (drop (i + 1) cs))
  under s e = clauses_from cs i c lt at ∙ ap (λ x. model.Query.clause (sign_of x) (primary_of c.primary) (clauses_of (drop (i + 1) cs))) e

  obeyed_is : (s : Sign) → c.sign ≡ s → (b : Bool) → found ≡ b → obeyed (clauses_of cs) item ≡ (obeys (sign_of s) b && obeyed_behind)
  obeyed_is s e b f = obeys_all ∙ ap (λ q. obeyed q item) (under s e) ∙ ap (λ x. obeys (sign_of s) x && obeyed_behind) (sym is ∙ f)

  supported_is : (s : Sign) → c.sign ≡ s → (b : Bool) → found ≡ b → supported (clauses_of cs) item ≡ (so || (supports (sign_of s) b || supported_behind))
  supported_is s e b f = supports_all ∙ ap (λ q. so || supported q item) (under s e) ∙ ap (λ x. so || (supports (sign_of s) x || supported_behind)) (sym is ∙ f)

  pub must_obeyed : c.sign ≡ sign.Must → found ≡ true → obeyed (clauses_of cs) item ≡ obeyed_behind
  must_obeyed e f = obeyed_is sign.Must e true f

  pub must_supported : c.sign ≡ sign.Must → found ≡ true → (new : Bool) → new ≡ true → supported (clauses_of cs) item ≡ (new || supported_behind)
  must_supported e f new n = supported_is sign.Must e true f ∙ or_true so supported_behind ∙ ap (λ b. b || supported_behind) (sym n)

  pub must_fails : c.sign ≡ sign.Must → found ≡ false → false ≡ matches (clauses_of cs) item
  must_fails e f = sym (ap (λ b. b && supported (clauses_of cs) item) (obeyed_is sign.Must e false f))

  pub must_not_obeyed : c.sign ≡ sign.MustNot → found ≡ false → obeyed (clauses_of cs) item ≡ obeyed_behind
  must_not_obeyed e f = obeyed_is sign.MustNot e false f

  pub must_not_supported : c.sign ≡ sign.MustNot → (new : Bool) → new ≡ so → supported (clauses_of cs) item ≡ (new || supported_behind)
  must_not_supported e new n = supported_is sign.MustNot e found refl ∙ ap (λ b. b || supported_behind) (sym n)

  pub must_not_fails : c.sign ≡ sign.MustNot → found ≡ true → false ≡ matches (clauses_of cs) item
  must_not_fails e f = sym (ap (λ b. b && supported (clauses_of cs) item) (obeyed_is sign.MustNot e true f))

  pub should_obeyed : c.sign ≡ sign.Should → obeyed (clauses_of cs) item ≡ obeyed_behind
  should_obeyed e = obeyed_is sign.Should e found refl

  pub should_supported : c.sign ≡ sign.Should → (new : Bool) → new ≡ (so || found) → supported (clauses_of cs) item ≡ (new || supported_behind)
  should_supported e new n = supported_is sign.Should e found refl ∙ or_chain so found supported_behind ∙ ap (λ b. b || supported_behind) (sym n)
