-- Samples of query texts under a schema with a field of each kind: what they spell, and the places of their faults.
use Rattle.std.specs.Prelude.{ℕ, List, [], ◌∷◌, codes, negsuc, Some, None, replicate}
use Rattle.std.specs.List.{AllByRecursion, concat}
use Rattle.cat_model.specs.Text.{Text}
use Rattle.cat_model.specs.Item.{Schema, Kind}
use Rattle.cat_model.specs.Query.{Query, Primary, Sign}
use Rattle.cat_model.specs.Grammar.{Spells}
use Rattle.cat_model.specs.Faults.{Fault}

-- a field of each kind
abbrev pub sample_schema : Schema
sample_schema =
    record { name = codes "brand"; kind = Kind.keyword }
    ∷ record { name = codes "color"; kind = Kind.facet }
    ∷ record { name = codes "price"; kind = Kind.number }
    ∷ record { name = codes "title"; kind = Kind.text }
    ∷ []

-- a MUST of a range, a MUST_NOT of a prefix, and a group of two SHOULD
abbrev pub sample_text : Text
sample_text = codes "+price:[-5 TO *] -title:Re* ( color:\"a \\\"b\\\"\" brand:a )"

-- two SHOULD
abbrev pub sample_group : Query
sample_group =
    Query.clause Sign.should (Primary.label (codes "color") (codes "a \"b\""))
    (Query.clause Sign.should (Primary.keyword (codes "brand") (codes "a")) Query.no_clause)

-- what the text spells
abbrev pub sample_query : Query
sample_query =
    Query.clause Sign.must (Primary.number_range (codes "price") (Some (negsuc 4)) None)
    (Query.clause Sign.must_not (Primary.word_prefix (codes "title") (codes "re"))
    (Query.clause Sign.should (Primary.group sample_group) Query.no_clause))

-- texts that spell no query, each with the place of its fault
abbrev pub faulty_samples : List (Text × ℕ)
faulty_samples =
    -- the text ends too early
    (codes "", 0) ∷ (codes " ", 1) ∷ (codes "-", 1) ∷ (codes "(*:*", 4)
    -- no clause, where one has to begin
    ∷ (codes "- brand:a", 1) ∷ (codes "()", 1) ∷ (codes "*:* AND", 4) ∷ (codes "*:a", 0)
    -- too many `)`, and a byte that may not follow
    ∷ (codes "*:* )", 4) ∷ (codes "brand:a(", 7) ∷ (codes "title:re*d", 9)
    -- names without a field or a colon
    ∷ (codes "size:5", 0) ∷ (codes "brand", 0) ∷ (codes "(brand", 1) ∷ (codes "brand)", 0)
    -- no value, or a wrong one
    ∷ (codes "brand:", 6) ∷ (codes "(brand:\"a", 7) ∷ (codes "title:\"a\\n\"", 6) ∷ (codes "title:\"red shoe\"", 6)
    ∷ (codes "price:5x", 6) ∷ (codes "price:5*", 6) ∷ (codes "price:9223372036854775808", 6) ∷ (codes "color:[a TO b]", 6)
    -- the ninth group and the 65th clause
    ∷ (codes "(((((((((*:*)))))))))", 8) ∷ (concat (replicate 65 (codes "*:* ")), 256)
    ∷ []

-- the query and the faults are these
pub record SamplesAreJudged : Type 0 where
  pub spelled : Spells sample_schema sample_text sample_query
  pub refused : AllByRecursion (λ s. Fault sample_schema s.0 s.1) faulty_samples
