-- Rows that are listed, as what a test says of each row.
use Rattle.std.proofs.Common.{◌≡◌, ℕ, Bool, true, false, ◌&&◌, ◌||◌, List, map, refl, sym, ap, ◌∙◌, Option, Some, None, IfSome, Bor}
use Rattle.cat_model.specs.Text.{Text}
use Rattle.cat_model.specs.Query as model
use Rattle.cat_model.specs.Query.{matches, obeys, supports, primary_matches}
use Rattle.cat_model.specs.RowSets.{indices}
use Rattle.cat_model.specs.View.{Row, item_in, row_matches}
use Rattle.cat_query.specs.declared.query.Clause.{Clause}
use Rattle.cat_query.specs.declared.query.Primary.{Primary}
use Rattle.cat_query.specs.declared.query.Primary.TheVariants.{Field}
use Rattle.cat_query.specs.declared.query.Test.{Test}
use Rattle.cat_query.specs.View.{clauses_of, primary_of, sole, tested}
use Rattle.cat_query.proofs.RowTests.{field_is, map_same}

-- rows that are listed are listed in other words
pub relisted : {a b : List Bool} (o : Option (Bor (List ℕ))) → a ≡ b → IfSome o (λ rows. rows.now ≡ indices a) → IfSome o (λ rows. rows.now ≡ indices b)
relisted None e is = tt
relisted (Some rows) e is = is ∙ ap indices e

alone : (b : Bool) → b ≡ ((obeys model.Sign.should b && true) && (supports model.Sign.should b || false))
alone true = refl
alone false = refl

-- one clause without a sign matches what its test says
pub sole_rows : (cs : List Clause) (p : Primary) (name : Text) (t : Test) → clauses_of cs ≡ sole (primary_of p) → p ≡ Field name t → (rows : List Row)
    → map (λ r. primary_matches (tested name t) (item_in r)) rows ≡ map (row_matches (clauses_of cs)) rows
sole_rows cs p name t is e rows =
    map_same (λ r. primary_matches (tested name t) (item_in r)) (row_matches (clauses_of cs))
    (λ r. alone (primary_matches (tested name t) (item_in r)) ∙ ap (λ q. matches q (item_in r)) (ap sole (sym (ap primary_of e ∙ field_is name t)) ∙ sym is)) rows

-- the rows of one clause without a sign are those that its primary matches
pub sole_set : (cs : List Clause) (p : model.Primary) → clauses_of cs ≡ sole p → (rows : List Row) → map (λ r. primary_matches p (item_in r)) rows ≡ map (row_matches (clauses_of cs)) rows
sole_set cs p is rows =
    map_same (λ r. primary_matches p (item_in r)) (row_matches (clauses_of cs))
    (λ r. alone (primary_matches p (item_in r)) ∙ ap (λ q. matches q (item_in r)) (sym is)) rows
