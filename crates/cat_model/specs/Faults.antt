-- Where a text that spells no query goes wrong: at the farthest place that reading it from left to right comes to.
-- The faults and their places are our own; Lucene's ParseException has a line and a column.
use Rattle.std.specs.Prelude.{◌≡◌, ℕ, ◌+◌, ◌<◌, ◌≤◌, [], ◌∷◌, ◌++◌, length, Some, Bool, true, false, ◌&&◌, ◌||◌, not, ◌==◌, IsTrue}
use Rattle.std.specs.List.{AllByRecursion}
use Rattle.std.specs.Char.{is_ascii_lowercase}
use Rattle.cat_model.specs.Text.{Text}
use Rattle.cat_model.specs.Item.{Schema, Kind, kind_of, is_name_byte}
use Rattle.cat_model.specs.Limits.{clause_limit, depth_limit}
use Rattle.cat_model.specs.Query.{Query, Primary}
use Rattle.cat_model.specs.Grammar.{is_bare_byte, Asks, IsValue, Means, Spells}

-- What may come next: a clause (the flag says that the group, or the text, has none yet), what stands behind the sign
-- if there is one, the value behind the name of a field of this kind and its colon, or what follows a primary; with the
-- number of clauses begun and of groups open.
pub data Next : Type 0 where
  a_clause : ℕ → ℕ → Bool → Next
  a_primary : ℕ → ℕ → Next
  a_value : Text → Kind → ℕ → ℕ → Next
  an_end : ℕ → ℕ → Next

-- a bare text, or its star, doesn't go on in what follows
abbrev pub CutsValue : Text → Type 0
CutsValue [] = Unit {0}
CutsValue (b ∷ rest) = IsTrue (not (is_bare_byte b) && not (b == 42))

-- a value that isn't cut short; one that ends in a quote, a bracket or a star is whole whatever follows
pub data IsWhole : Text → Text → Asks → Type 0 where
  cut : (t rest : Text) (a : Asks) → IsValue t a → CutsValue rest → IsWhole t rest a
  shut : (t rest : Text) (b : ℕ) (a : Asks) → IsValue (t ++ b ∷ []) a → IsTrue (b == 34 || b == 93 || b == 42)
      → IsWhole (t ++ b ∷ []) rest a

-- One step: where this comes next, and the text goes on with `taken` and then `behind`, `taken` is passed, and that comes next. A sign is
-- `+` or `-`, and a primary begins with `(`, `*` or a lower letter.
pub data PassesOver (schema : Schema) : Next → (taken behind : Text) → Next → Type 0 where
  space : (behind : Text) (c g : ℕ) (new : Bool) → PassesOver schema (a_clause c g new) (32 ∷ []) behind (a_clause c g new)
  sign : (b : ℕ) (behind : Text) (c g : ℕ) (new : Bool) → IsTrue (b == 43 || b == 45) → c < clause_limit
      → PassesOver schema (a_clause c g new) (b ∷ []) behind (a_primary (c + 1) g)
  no_sign : (b : ℕ) (behind : Text) (c g : ℕ) (new : Bool) → IsTrue (b == 40 || b == 42 || is_ascii_lowercase b) → c < clause_limit
      → PassesOver schema (a_clause c g new) [] (b ∷ behind) (a_primary (c + 1) g)
  opened : (behind : Text) (c g : ℕ) → g < depth_limit → PassesOver schema (a_primary c g) (40 ∷ []) behind (a_clause c (g + 1) true)
  everything : (behind : Text) (c g : ℕ) → PassesOver schema (a_primary c g) (42 ∷ 58 ∷ 42 ∷ []) behind (an_end c g)
  field : (name behind : Text) (c g : ℕ) (k : Kind) → AllByRecursion (λ b. IsTrue (is_name_byte b)) name
      → kind_of schema name ≡ Some k → PassesOver schema (a_primary c g) (name ++ 58 ∷ []) behind (a_value name k c g)
  value : (name t behind : Text) (c g : ℕ) (k : Kind) (a : Asks) (p : Primary) → IsWhole t behind a → Means name k a p
      → PassesOver schema (a_value name k c g) t behind (an_end c g)
  gap : (behind : Text) (c g : ℕ) → PassesOver schema (an_end c g) (32 ∷ []) behind (a_clause c g false)
  shut : (behind : Text) (c g : ℕ) → PassesOver schema (an_end c (g + 1)) (41 ∷ []) behind (an_end c g)
  shut_behind_space : (behind : Text) (c g : ℕ) → PassesOver schema (a_clause c (g + 1) false) (41 ∷ []) behind (an_end c g)

-- From left to right: after the front, with the rest of the text before it, what may come next.
pub data ReadsTo (schema : Schema) (text : Text) : (front rest : Text) → Next → Type 0 where
  start : ReadsTo schema text [] text (a_clause 0 0 true)
  step : (front taken behind : Text) (next new : Next) → ReadsTo schema text front (taken ++ behind) next
      → PassesOver schema next taken behind new → ReadsTo schema text (front ++ taken) behind new

-- The text spells no query, and this is the farthest place that it is read to, a count of bytes from its beginning. No step fits
-- there: a clause past the last that may be; a byte that begins no clause, or after a sign no primary; a `)` of a group without a
-- clause, or where no group is open; a group inside as many as may be; a star that doesn't begin `*:*`; a name that isn't a field,
-- or isn't followed by a colon; behind the colon no value, or one that is wrong for the field's kind; after a primary, another byte
-- than a space and a `)`; the end of the text with a group open, just after a sign, or without any clause.
pub record Fault (schema : Schema) (text : Text) (place : ℕ) : Type 0 where
  pub front : Text
  pub rest : Text
  pub next : Next
  pub reads : ReadsTo schema text front rest next
  pub here : length front ≡ place
  pub farthest : (f r : Text) (n : Next) → ReadsTo schema text f r n → length f ≤ place
  pub wrong : (q : Query) → Spells schema text q → ⊥
