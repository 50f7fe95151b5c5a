-- What a query feeds a hasher: all of its tree.
use Rattle.std.specs.Prelude.{ℕ, ◌++◌}
use Rattle.std.specs.Hash as fed
use Rattle.std.specs.Hash.{HashWrites}
use Rattle.cat_model.specs.Query.{Query, Primary, Sign}
use Rattle.cat_query.specs.declared.query.Test.{Test}
use Rattle.cat_query.specs.declared.query.Test.TheVariants as test

abbrev pub fed_sign : Sign → HashWrites
fed_sign Sign.must = fed.u8 1
fed_sign Sign.must_not = fed.u8 2
fed_sign Sign.should = fed.u8 3

-- each primary begins with the number of its kind, and each query ends in 0
abbrev mutual
  pub fed_primary : Primary → HashWrites
  fed_primary Primary.everything = fed.u8 0
  fed_primary (Primary.word f w) = fed.u8 1 ++ (fed.str f ++ fed.str w)
  fed_primary (Primary.word_prefix f p) = fed.u8 2 ++ (fed.str f ++ fed.str p)
  fed_primary (Primary.keyword f k) = fed.u8 3 ++ (fed.str f ++ fed.str k)
  fed_primary (Primary.keyword_prefix f p) = fed.u8 4 ++ (fed.str f ++ fed.str p)
  fed_primary (Primary.keyword_range f low high) = fed.u8 5 ++ (fed.str f ++ (fed.option fed.str low ++ fed.option fed.str high))
  fed_primary (Primary.number f n) = fed.u8 6 ++ (fed.str f ++ fed.i64 n)
  fed_primary (Primary.number_range f low high) = fed.u8 7 ++ (fed.str f ++ (fed.option fed.i64 low ++ fed.option fed.i64 high))
  fed_primary (Primary.label f l) = fed.u8 8 ++ (fed.str f ++ fed.str l)
  fed_primary (Primary.label_prefix f p) = fed.u8 9 ++ (fed.str f ++ fed.str p)
  fed_primary (Primary.group q) = fed.u8 10 ++ fed_query q

  pub fed_query : Query → HashWrites
  fed_query Query.no_clause = fed.u8 0
  fed_query (Query.clause s p q) = fed_sign s ++ (fed_primary p ++ fed_query q)

-- the number of a test's kind, and what it holds
abbrev pub kind_number : Test → ℕ
kind_number (test.Word w) = 1
kind_number (test.WordPrefix p) = 2
kind_number (test.Keyword k) = 3
kind_number (test.KeywordPrefix p) = 4
kind_number (test.KeywordRange low high) = 5
kind_number (test.Number n) = 6
kind_number (test.NumberRange low high) = 7
kind_number (test.Label l) = 8
kind_number (test.LabelPrefix p) = 9

abbrev pub fed_test : Test → HashWrites
fed_test (test.Word w) = fed.str w
fed_test (test.WordPrefix p) = fed.str p
fed_test (test.Keyword k) = fed.str k
fed_test (test.KeywordPrefix p) = fed.str p
fed_test (test.KeywordRange low high) = fed.option fed.str low ++ fed.option fed.str high
fed_test (test.Number n) = fed.i64 n
fed_test (test.NumberRange low high) = fed.option fed.i64 low ++ fed.option fed.i64 high
fed_test (test.Label l) = fed.str l
fed_test (test.LabelPrefix p) = fed.str p
