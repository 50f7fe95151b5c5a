-- The grammar of query texts: a constructor for each way to write a thing. `+` and `-` are those of Lucene's classic
-- QueryParser, and a series of clauses is its BooleanQuery. The rest of the grammar and both limits are our own.
use Rattle.std.specs.Prelude.{◌≡◌, ◌≢◌, ℕ, ℤ, pos, neg_ℤ, ◌+◌, ◌-◌, ◌*◌, ◌^◌, ◌<◌, ◌≤◌, max, [], ◌∷◌, ◌++◌, Option, Some, None, ◌⊎◌, Bool, ◌||◌, not, ◌==◌, IsTrue}
use Rattle.std.specs.List.{AllByRecursion}
use Rattle.std.specs.Char.{is_ascii_digit}
use Rattle.cat_model.specs.Text.{Text}
use Rattle.cat_model.specs.Item.{Schema, Kind, kind_of, is_name_byte}
use Rattle.cat_model.specs.Query.{Query, Primary, Sign}
use Rattle.cat_model.specs.Limits.{clause_limit, depth_limit}
use Rattle.cat_model.specs.Words.{words, lowered, is_word_byte}

-- none of: space ( ) [ ] " * \
abbrev pub is_bare_byte : ℕ → Bool
is_bare_byte b = not (b == 32 || b == 40 || b == 41 || b == 91 || b == 93 || b == 34 || b == 42 || b == 92)

-- any number of spaces
abbrev pub AreSpaces : Text → Type 0
AreSpaces = AllByRecursion (λ b. b ≡ 32)

-- what stands behind the first quote, up to the second, and the text that it is
pub data Quotes : Text → Text → Type 0 where
  closed : Quotes (34 ∷ []) []
  plain : (b : ℕ) (t s : Text) → b ≢ 34 → b ≢ 92 → Quotes t s → Quotes (b ∷ t) (b ∷ s)
  escaped : (c : ℕ) (t s : Text) → (c ≡ 34) ⊎ (c ≡ 92) → Quotes t s → Quotes (92 ∷ c ∷ t) (c ∷ s)

-- one or more bytes that pass the test: a text without quotes is of bare bytes, and a number of digits
abbrev pub AreSome : (ℕ → Bool) → Text → Type 0
AreSome test t = (t ≢ []) × AllByRecursion (λ b. IsTrue (test b)) t

-- end = "*" | quoted | bare
pub data IsEnd : Text → Option Text → Type 0 where
  open_end : IsEnd (42 ∷ []) None
  quoted_end : (t s : Text) → Quotes t s → IsEnd (34 ∷ t) (Some s)
  bare_end : (t : Text) → AreSome is_bare_byte t → IsEnd t (Some t)

-- what a value asks, whatever its field
pub data Asks : Type 0 where
  is : Text → Asks
  begins : Text → Asks
  between : Option Text → Option Text → Asks

-- value = "[" end " TO " end "]" | quoted | bare | bare "*"
pub data IsValue : Text → Asks → Type 0 where
  quoted : (t s : Text) → Quotes t s → IsValue (34 ∷ t) (is s)
  bare : (t : Text) → AreSome is_bare_byte t → IsValue t (is t)
  range : (t u : Text) (low high : Option Text) → IsEnd t low → IsEnd u high
      → IsValue (91 ∷ (t ++ (32 ∷ 84 ∷ 79 ∷ 32 ∷ (u ++ 93 ∷ [])))) (between low high)
  prefix : (t : Text) → AreSome is_bare_byte t → IsValue (t ++ 42 ∷ []) (begins t)

-- the number that digits are, behind those that gave n
abbrev pub value_from : ℕ → Text → ℕ
value_from n [] = n
value_from n (b ∷ bs) = value_from (n * 10 + (b - 48)) bs

-- an optional `-` and one or more digits, in the range of an i64
pub data IsInteger : Text → ℤ → Type 0 where
  not_below : (t : Text) → AreSome is_ascii_digit t → value_from 0 t < 2 ^ 63 → IsInteger t (pos (value_from 0 t))
  below : (t : Text) → AreSome is_ascii_digit t → value_from 0 t ≤ 2 ^ 63 → IsInteger (45 ∷ t) (neg_ℤ (pos (value_from 0 t)))

-- the number that an end of a range is; an open end is none
abbrev pub IsBound : Option Text → Option ℤ → Type 0
IsBound None None = Unit {0}
IsBound (Some t) (Some z) = IsInteger t z
IsBound _ _ = ⊥

-- what a value means in the field f of a kind: a constructor for each cell of the table that isn't "wrong"
pub data Means (f : Text) : Kind → Asks → Primary → Type 0 where
  word : (t w : Text) → words t ≡ w ∷ [] → Means f Kind.text (is t) (Primary.word f w)
  word_prefix : (t : Text) → AllByRecursion (λ b. IsTrue (is_word_byte b)) t
      → Means f Kind.text (begins t) (Primary.word_prefix f (lowered t))
  keyword : (t : Text) → Means f Kind.keyword (is t) (Primary.keyword f t)
  keyword_prefix : (t : Text) → Means f Kind.keyword (begins t) (Primary.keyword_prefix f t)
  keyword_range : (low high : Option Text) → Means f Kind.keyword (between low high) (Primary.keyword_range f low high)
  number : (t : Text) (z : ℤ) → IsInteger t z → Means f Kind.number (is t) (Primary.number f z)
  number_range : (low high : Option Text) (a b : Option ℤ) → IsBound low a → IsBound high b
      → Means f Kind.number (between low high) (Primary.number_range f a b)
  label : (t : Text) → Means f Kind.facet (is t) (Primary.label f t)
  label_prefix : (t : Text) → Means f Kind.facet (begins t) (Primary.label_prefix f t)

-- name ":" value, for a field of the schema
pub data IsTerm (schema : Schema) : Text → Primary → Type 0 where
  term : (f t : Text) (k : Kind) (a : Asks) (p : Primary) → AllByRecursion (λ b. IsTrue (is_name_byte b)) f
      → kind_of schema f ≡ Some k → IsValue t a → Means f k a p → IsTerm schema (f ++ 58 ∷ t) p

mutual
  -- query = spaces* clause (spaces clause)* spaces*
  pub data IsQuery (schema : Schema) : Text → Query → Type 0 where
    query : (before text after : Text) (q : Query) → AreSpaces before → IsSeries schema text q → AreSpaces after
        → IsQuery schema (before ++ (text ++ after)) q

  -- clause (spaces clause)*
  pub data IsSeries (schema : Schema) : Text → Query → Type 0 where
    one : (t : Text) (s : Sign) (p : Primary) → IsClause schema t s p → IsSeries schema t (Query.clause s p Query.no_clause)
    more : (t gap u : Text) (s : Sign) (p : Primary) (q : Query) → IsClause schema t s p → AreSpaces gap → gap ≢ []
        → IsSeries schema u q → IsSeries schema (t ++ (gap ++ u)) (Query.clause s p q)

  -- clause = [ "+" | "-" ] primary
  pub data IsClause (schema : Schema) : Text → Sign → Primary → Type 0 where
    should : (t : Text) (p : Primary) → IsPrimary schema t p → IsClause schema t Sign.should p
    must : (t : Text) (p : Primary) → IsPrimary schema t p → IsClause schema (43 ∷ t) Sign.must p
    must_not : (t : Text) (p : Primary) → IsPrimary schema t p → IsClause schema (45 ∷ t) Sign.must_not p

  -- primary = "(" query ")" | "*:*" | name ":" value
  pub data IsPrimary (schema : Schema) : Text → Primary → Type 0 where
    in_parentheses : (t : Text) (q : Query) → IsQuery schema t q → IsPrimary schema (40 ∷ (t ++ 41 ∷ [])) (Primary.group q)
    all : IsPrimary schema (42 ∷ 58 ∷ 42 ∷ []) Primary.everything
    of_field : (t : Text) (p : Primary) → IsTerm schema t p → IsPrimary schema t p

-- the clauses in all, groups and what stands in them both counted; and how many groups stand inside one another
abbrev mutual
  pub clauses : Query → ℕ
  clauses Query.no_clause = 0
  clauses (Query.clause s p q) = 1 + clauses_in p + clauses q

  pub clauses_in : Primary → ℕ
  clauses_in (Primary.group q) = clauses q
  clauses_in _ = 0

abbrev mutual
  pub depth : Query → ℕ
  depth Query.no_clause = 0
  depth (Query.clause s p q) = max (depth_in p) (depth q)

  pub depth_in : Primary → ℕ
  depth_in (Primary.group q) = 1 + depth q
  depth_in _ = 0

-- The text spells the query: by the grammar, with no more clauses in all, and groups inside one another, than may be.
pub record Spells (schema : Schema) (text : Text) (q : Query) : Type 0 where
  pub grammar : IsQuery schema text q
  pub few : clauses q ≤ clause_limit
  pub shallow : depth q ≤ depth_limit
