-- Queries and what they match: Lucene's BooleanQuery, with the MUST, MUST_NOT and SHOULD of BooleanClause.Occur, over
-- MatchAllDocsQuery, TermQuery, PrefixQuery, TermRangeQuery and the exact and range queries of LongField. Nothing is scored.
use Rattle.std.specs.Prelude.{ℤ, Bool, true, false, not, ◌&&◌, ◌||◌, Option, int_lt}
use Rattle.std.specs.List.{list_any}
use Rattle.std.specs.Option.{option_map_or}
use Rattle.cat_model.specs.Text.{Text, same_text, text_le, has_prefix}
use Rattle.cat_model.specs.Item.{Item, content_of, words_in, labels_in, keyword_in, number_in}

-- BooleanClause.Occur, without FILTER
pub data Sign : Type 0 where
  must : Sign
  must_not : Sign
  should : Sign

-- A query is a list of signed clauses. The name of a field stands first, and an end that is None is open.
mutual
  pub data Query : Type 0 where
    no_clause : Query
    clause : Sign → Primary → Query → Query

  pub data Primary : Type 0 where
    everything : Primary
    word : Text → Text → Primary
    word_prefix : Text → Text → Primary
    keyword : Text → Text → Primary
    keyword_prefix : Text → Text → Primary
    keyword_range : Text → Option Text → Option Text → Primary
    number : Text → ℤ → Primary
    number_range : Text → Option ℤ → Option ℤ → Primary
    label : Text → Text → Primary
    label_prefix : Text → Text → Primary
    group : Query → Primary

-- there is a value, and it passes the test
abbrev pub has_some : {X : Type 0} → (X → Bool) → Option X → Bool
has_some test x = option_map_or test x false

-- an open end bounds nothing
abbrev pub open_or : {X : Type 0} → (X → Bool) → Option X → Bool
open_or test x = option_map_or test x true

-- the first number is at most the second
abbrev pub int_le : ℤ → ℤ → Bool
int_le a b = not (int_lt b a)

-- what one clause says, where all clauses have to say yes
abbrev pub obeys : Sign → Bool → Bool
obeys Sign.must b = b
obeys Sign.must_not b = not b
obeys Sign.should b = true

-- what one clause says, where some clause has to say yes: it is a MUST, or a SHOULD that matches
abbrev pub supports : Sign → Bool → Bool
supports Sign.must b = true
supports Sign.must_not b = false
supports Sign.should b = b

-- what a query says of an item, and what a primary does
abbrev mutual
  -- each MUST matches and no MUST_NOT does
  pub obeyed : Query → Item → Bool
  obeyed Query.no_clause i = true
  obeyed (Query.clause s p q) i = obeys s (primary_matches p i) && obeyed q i

  -- some MUST is there or some SHOULD matches
  pub supported : Query → Item → Bool
  supported Query.no_clause i = false
  supported (Query.clause s p q) i = supports s (primary_matches p i) || supported q i

  pub primary_matches : Primary → Item → Bool
  primary_matches Primary.everything i = true
  primary_matches (Primary.word f w) i = list_any (same_text w) (words_in (content_of f i))
  primary_matches (Primary.word_prefix f p) i = list_any (has_prefix p) (words_in (content_of f i))
  primary_matches (Primary.keyword f k) i = option_map_or (same_text k) (keyword_in (content_of f i)) false
  primary_matches (Primary.keyword_prefix f p) i = option_map_or (has_prefix p) (keyword_in (content_of f i)) false
  primary_matches (Primary.keyword_range f low high) i =
      option_map_or (λ k. option_map_or (λ a. text_le a k) low true && option_map_or (text_le k) high true) (keyword_in (content_of f i)) false
  primary_matches (Primary.number f n) i = option_map_or (λ m. int_le n m && int_le m n) (number_in (content_of f i)) false
  primary_matches (Primary.number_range f low high) i =
      option_map_or (λ n. option_map_or (λ a. int_le a n) low true && option_map_or (int_le n) high true) (number_in (content_of f i)) false
  primary_matches (Primary.label f l) i = list_any (same_text l) (labels_in (content_of f i))
  primary_matches (Primary.label_prefix f p) i = list_any (has_prefix p) (labels_in (content_of f i))
  primary_matches (Primary.group q) i = obeyed q i && supported q i

-- Each MUST matches, no MUST_NOT does, and some MUST is there or some SHOULD matches.
abbrev pub matches : Query → Item → Bool
matches q i = obeyed q i && supported q i
