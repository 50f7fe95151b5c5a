-- Queries as lists of tokens, by which a proof tells one from another.
use Rattle.std.specs.Prelude.{◌≡◌, List, [], ◌∷◌, ◌++◌, refl}
use Rattle.std.specs.Coded.{Coded, code_by, codes}
use Rattle.std.proofs.Common.{ap, sym, ◌∙◌, append_assoc, append-nil}
use Rattle.cat_model.specs.Text.{Text}
use Rattle.cat_model.specs.Query.{Query, Primary, Sign}
use Rattle.cat_query.specs.declared.query.Test.{Test}
use Rattle.cat_query.specs.declared.query.Test.TheVariants as test
use Rattle.cat_query.specs.View.{tested}

-- a clause that is no group, the beginning of a group, and the end of a list of clauses
data Token : Type 0 where
  lone : Sign → Token
  field : Sign → Text → Test → Token
  group : Sign → Token
  end : Token

abbrev mutual
  -- the tokens of a list of clauses
  query_tokens : Query → List Token
  query_tokens Query.no_clause = Token.end ∷ []
  query_tokens (Query.clause s p q) = clause_tokens s p ++ query_tokens q

  -- the tokens of a clause
  clause_tokens : Sign → Primary → List Token
  clause_tokens s Primary.everything = Token.lone s ∷ []
  clause_tokens s (Primary.word f w) = Token.field s f (test.Word w) ∷ []
  clause_tokens s (Primary.word_prefix f w) = Token.field s f (test.WordPrefix w) ∷ []
  clause_tokens s (Primary.keyword f w) = Token.field s f (test.Keyword w) ∷ []
  clause_tokens s (Primary.keyword_prefix f w) = Token.field s f (test.KeywordPrefix w) ∷ []
  clause_tokens s (Primary.keyword_range f a b) = Token.field s f (test.KeywordRange a b) ∷ []
  clause_tokens s (Primary.number f n) = Token.field s f (test.Number n) ∷ []
  clause_tokens s (Primary.number_range f a b) = Token.field s f (test.NumberRange a b) ∷ []
  clause_tokens s (Primary.label f w) = Token.field s f (test.Label w) ∷ []
  clause_tokens s (Primary.label_prefix f w) = Token.field s f (test.LabelPrefix w) ∷ []
  clause_tokens s (Primary.group g) = Token.group s ∷ query_tokens g

-- the clause before the first of these queries
abbrev clause_before : Sign → Primary → List Query → List Query
clause_before s p [] = []
clause_before s p (q ∷ qs) = Query.clause s p q ∷ qs

-- the first of these queries as a group before the second
abbrev group_before : Sign → List Query → List Query
group_before s [] = []
group_before s (g ∷ qs) = clause_before s (Primary.group g) qs

-- the queries with one token more before them
abbrev with_token : Token → List Query → List Query
with_token (Token.lone s) qs = clause_before s Primary.everything qs
with_token (Token.field s f t) qs = clause_before s (tested f t) qs
with_token (Token.group s) qs = group_before s qs
with_token Token.end qs = Query.no_clause ∷ qs

-- the queries whose tokens stand one behind another
abbrev queries_in : List Token → List Query
queries_in [] = []
queries_in (t ∷ ts) = with_token t (queries_in ts)

abbrev first_query : List Query → Query
first_query [] = Query.no_clause
first_query (q ∷ qs) = q

mutual
  query_tokens_told : (q : Query) (ts : List Token) → queries_in (query_tokens q ++ ts) ≡ q ∷ queries_in ts
  query_tokens_told Query.no_clause ts = refl
  query_tokens_told (Query.clause s p q) ts =
      ap queries_in (append_assoc (clause_tokens s p) (query_tokens q) ts) ∙ clause_told s p (query_tokens q ++ ts) q (queries_in ts) (query_tokens_told q ts)

  clause_told : (s : Sign) (p : Primary) (ts : List Token) (q : Query) (qs : List Query) → queries_in ts ≡ q ∷ qs → queries_in (clause_tokens s p ++ ts) ≡ Query.clause s p q ∷ qs
  clause_told s Primary.everything ts q qs e = ap (clause_before s Primary.everything) e
  clause_told s (Primary.word f w) ts q qs e = ap (clause_before s (Primary.word f w)) e
  clause_told s (Primary.word_prefix f w) ts q qs e = ap (clause_before s (Primary.word_prefix f w)) e
  clause_told s (Primary.keyword f w) ts q qs e = ap (clause_before s (Primary.keyword f w)) e
  clause_told s (Primary.keyword_prefix f w) ts q qs e = ap (clause_before s (Primary.keyword_prefix f w)) e
  clause_told s (Primary.keyword_range f a b) ts q qs e = ap (clause_before s (Primary.keyword_range f a b)) e
  clause_told s (Primary.number f n) ts q qs e = ap (clause_before s (Primary.number f n)) e
  clause_told s (Primary.number_range f a b) ts q qs e = ap (clause_before s (Primary.number_range f a b)) e
  clause_told s (Primary.label f w) ts q qs e = ap (clause_before s (Primary.label f w)) e
  clause_told s (Primary.label_prefix f w) ts q qs e = ap (clause_before s (Primary.label_prefix f w)) e
  clause_told s (Primary.group g) ts q qs e = ap (group_before s) (query_tokens_told g ts ∙ ap (λ r. g ∷ r) e)

back : (q : Query) → first_query (queries_in (query_tokens q)) ≡ q
back q = ap (λ ts. first_query (queries_in ts)) (sym (append-nil (query_tokens q))) ∙ ap first_query (query_tokens_told q [])

token_code : Coded (List Token)
token_code = Prim.hlevel codes

pub query_code : Coded Query
query_code = code_by (List Token) token_code query_tokens (λ ts. first_query (queries_in ts)) back
