-- The query that a parsed query stands for.
use Rattle.std.specs.Prelude.{List, [], ◌∷◌, map, Bool, true, false}
use Rattle.cat_model.specs.Text.{Text}
use Rattle.cat_model.specs.Query as model
use Rattle.cat_query.specs.declared.query.Sign.{Sign}
use Rattle.cat_query.specs.declared.query.Sign.TheVariants as sign
use Rattle.cat_query.specs.declared.query.Test.{Test}
use Rattle.cat_query.specs.declared.query.Test.TheVariants as test
use Rattle.cat_query.specs.declared.query.Query.{Query}
use Rattle.cat_query.specs.declared.query.Primary.{Primary}
use Rattle.cat_query.specs.declared.query.Clause.{Clause}
use Rattle.cat_query.specs.declared.query.Primary.TheOpen.{Primary-F, Clause-F}
use Rattle.cat_query.specs.declared.query.Primary.TheFolds.{fold-Primary, fold-Clause}

abbrev pub sign_of : Sign → model.Sign
sign_of sign.Must = model.Sign.must
sign_of sign.MustNot = model.Sign.must_not
sign_of sign.Should = model.Sign.should

-- the test of the field of that name
abbrev pub tested : Text → Test → model.Primary
tested f (test.Word w) = model.Primary.word f w
tested f (test.WordPrefix p) = model.Primary.word_prefix f p
tested f (test.Keyword k) = model.Primary.keyword f k
tested f (test.KeywordPrefix p) = model.Primary.keyword_prefix f p
tested f (test.KeywordRange low high) = model.Primary.keyword_range f low high
tested f (test.Number n) = model.Primary.number f n
tested f (test.NumberRange low high) = model.Primary.number_range f low high
tested f (test.Label l) = model.Primary.label f l
tested f (test.LabelPrefix p) = model.Primary.label_prefix f p

-- a primary under its sign
abbrev pub Signed : Type 0
Signed = model.Sign × model.Primary

-- the query of these clauses
abbrev pub query_from : List Signed → model.Query
query_from [] = model.Query.no_clause
query_from (c ∷ cs) = model.Query.clause c.0 c.1 (query_from cs)

abbrev pub primary_step : Primary-F model.Primary Signed → model.Primary
primary_step Primary-F.Everything = model.Primary.everything
primary_step (Primary-F.Group clauses) = model.Primary.group (query_from clauses.items)
primary_step (Primary-F.Field name t) = tested name t

abbrev pub clause_step : Clause-F model.Primary Signed → Signed
clause_step c = (sign_of c.sign, c.primary)

abbrev pub primary_of : Primary → model.Primary
primary_of = fold-Primary model.Primary Signed primary_step clause_step

abbrev pub signed : Clause → Signed
signed = fold-Clause model.Primary Signed primary_step clause_step

abbrev pub clauses_of : List Clause → model.Query
clauses_of cs = query_from (map signed cs)

abbrev pub query_of : Query → model.Query
query_of q = clauses_of q.clauses.items

-- one clause without a sign
abbrev pub sole : model.Primary → model.Query
sole p = model.Query.clause model.Sign.should p model.Query.no_clause

-- the query is the one clause *:*, which no - stands before
abbrev pub is_everything : model.Query → Bool
is_everything (model.Query.clause model.Sign.must model.Primary.everything model.Query.no_clause) = true
is_everything (model.Query.clause model.Sign.should model.Primary.everything model.Query.no_clause) = true
is_everything _ = false
