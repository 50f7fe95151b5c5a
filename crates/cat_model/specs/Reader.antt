-- How a query text is read, as functions. Nothing to believe: the laws of queries tie it to the grammar and to the faults,
-- and a parser in code is proved to give what it gives. Below `read_query` an Err is the number of bytes that are
-- left from the fault on.
use Rattle.std.specs.Prelude.{◌+◌, ◌-◌, ◌^◌, ℕ, ℤ, pos, neg_ℤ, zero, suc, List, [], ◌∷◌, length, take, drop, Option, Some, None, option_map, option_and_then, Result, Ok, Err, Bool, true, false, ◌&&◌, ◌||◌, ◌==◌, ltb, leb, nat_eq, if◌then◌else◌}
use Rattle.std.specs.List.{prefix_len, starts_with, list_all}
use Rattle.std.specs.Char.{is_ascii_digit}
use Rattle.cat_model.specs.Text.{Text}
use Rattle.cat_model.specs.Item.{Schema, Kind, kind_of, is_name_byte}
use Rattle.cat_model.specs.Limits.{clause_limit, depth_limit}
use Rattle.cat_model.specs.Query.{Query, Primary, Sign}
use Rattle.cat_model.specs.Words.{words, lowered, is_word_byte}
use Rattle.cat_model.specs.Grammar.{is_bare_byte, Asks, value_from}

infixl 10 ◌>>=◌
-- go on with what was read, unless a fault was met
abbrev pub ◌>>=◌ : {A B : Type 0} → Result A ℕ → (A → Result B ℕ) → Result B ℕ
(Ok x) >>= f = f x
(Err left) >>= f = Err left

-- what was read, or a fault with so many bytes left
abbrev pub or_fault : {A : Type 0} → ℕ → Option A → Result A ℕ
or_fault left None = Err left
or_fault left (Some x) = Ok x

-- ---- values, each with what stands behind it

-- the byte is one of the text
abbrev pub with_byte : ℕ → Option (Text × Text) → Option (Text × Text)
with_byte b None = None
with_byte b (Some x) = Some (b ∷ x.0, x.1)

-- what stands behind a quote, up to the next one; the flag says that a backslash came just before
unfoldable pub quoted_at : Bool → Text → Option (Text × Text)
quoted_at escaped [] = None
quoted_at true (b ∷ bs) = if b == 34 || b == 92 then with_byte b (quoted_at false bs) else None
quoted_at false (b ∷ bs) =
    if b == 34 then Some ([], bs) else if b == 92 then quoted_at true bs else with_byte b (quoted_at false bs)

-- the longest bare text
abbrev pub run_at : Text → Option (Text × Text)
run_at text =
    if prefix_len is_bare_byte text == 0 then None else Some (take (prefix_len is_bare_byte text) text, drop (prefix_len is_bare_byte text) text)

-- a star at once behind a bare text makes it a prefix
abbrev pub starred : Text → Text → Asks × Text
starred t [] = (Asks.is t, [])
starred t (b ∷ bs) = if b == 42 then (Asks.begins t, bs) else (Asks.is t, b ∷ bs)

-- a value without quotes: a text, or a prefix with its star
abbrev pub bare_at : Text → Option (Asks × Text)
bare_at text = option_map (λ x. starred x.0 x.1) (run_at text)

-- a closed end of a range
abbrev pub closed_end_at : Text → Option (Text × Text)
closed_end_at [] = None
closed_end_at (b ∷ bs) = if b == 34 then quoted_at false bs else run_at (b ∷ bs)

-- an end of a range: open, or a text
unfoldable pub end_at : Text → Option (Option Text × Text)
end_at [] = None
end_at (b ∷ bs) = if b == 42 then Some (None, bs) else option_map (λ x. (Some x.0, x.1)) (closed_end_at (b ∷ bs))

-- what stands behind ` TO `
abbrev pub to_at : Text → Option Text
to_at text = if starts_with nat_eq text (32 ∷ 84 ∷ 79 ∷ 32 ∷ []) then Some (drop 4 text) else None

-- what stands behind `]`
abbrev pub bracket_at : Text → Option Text
bracket_at [] = None
bracket_at (b ∷ bs) = if b == 93 then Some bs else None

-- what stands behind ` TO `, up to `]`
abbrev pub high_at : Option Text → Text → Option (Asks × Text)
high_at low text =
    option_and_then (λ high. option_map (λ rest. (Asks.between low high.0, rest)) (bracket_at high.1)) (end_at text)

-- what stands behind `[`, up to `]`
unfoldable pub range_at : Text → Option (Asks × Text)
range_at text = option_and_then (λ low. option_and_then (high_at low.0) (to_at low.1)) (end_at text)

-- a value, by its first byte
unfoldable pub value_at : Text → Option (Asks × Text)
value_at [] = None
value_at (b ∷ bs) =
    if b == 34 then option_map (λ x. (Asks.is x.0, x.1)) (quoted_at false bs) else if b == 91 then range_at bs else bare_at (b ∷ bs)

-- ---- what a value means in a field

-- a text is a word where it has one word and no more
abbrev pub only_word : Text → List Text → Option Primary
only_word f [] = None
only_word f (w ∷ []) = Some (Primary.word f w)
only_word f (w ∷ v ∷ ws) = None

-- one or more digits
abbrev pub are_digits : Text → Bool
are_digits t = ltb 0 (length t) && list_all is_ascii_digit t

-- the number of 64 bits that a text is, if it is one
unfoldable pub integer_of : Text → Option ℤ
integer_of [] = None
integer_of (b ∷ bs) =
    if b == 45 then (if are_digits bs && leb (value_from 0 bs) (2 ^ 63) then Some (neg_ℤ (pos (value_from 0 bs))) else None)
    else (if are_digits (b ∷ bs) && ltb (value_from 0 (b ∷ bs)) (2 ^ 63) then Some (pos (value_from 0 (b ∷ bs))) else None)

-- the number that an end of a range is; an open end stays open
abbrev pub bound_of : Option Text → Option (Option ℤ)
bound_of None = Some None
bound_of (Some t) = option_map (λ z. Some z) (integer_of t)

-- what a value means in the field f of a kind, if it means anything
unfoldable pub meaning : Text → Kind → Asks → Option Primary
meaning f Kind.text (Asks.is t) = only_word f (words t)
meaning f Kind.text (Asks.begins t) = if list_all is_word_byte t then Some (Primary.word_prefix f (lowered t)) else None
meaning f Kind.text (Asks.between low high) = None
meaning f Kind.keyword (Asks.is t) = Some (Primary.keyword f t)
meaning f Kind.keyword (Asks.begins t) = Some (Primary.keyword_prefix f t)
meaning f Kind.keyword (Asks.between low high) = Some (Primary.keyword_range f low high)
meaning f Kind.number (Asks.is t) = option_map (λ z. Primary.number f z) (integer_of t)
meaning f Kind.number (Asks.begins t) = None
meaning f Kind.number (Asks.between low high) =
    option_and_then (λ a. option_map (λ b. Primary.number_range f a b) (bound_of high)) (bound_of low)
meaning f Kind.facet (Asks.is t) = Some (Primary.label f t)
meaning f Kind.facet (Asks.begins t) = Some (Primary.label_prefix f t)
meaning f Kind.facet (Asks.between low high) = None

-- ---- primaries

-- the longest name, and what stands behind it
abbrev pub name_at : Text → Text
name_at text = take (prefix_len is_name_byte text) text

-- what stands behind the longest name
abbrev pub behind_name : Text → Text
behind_name text = drop (prefix_len is_name_byte text) text

-- what stands behind `:`
abbrev pub colon_at : ℕ → Text → Result Text ℕ
colon_at left [] = Err left
colon_at left (b ∷ bs) = if b == 58 then Ok bs else Err left

-- a name, a colon and a value that the field can have
unfoldable pub term_at : Schema → Text → Result (Primary × Text) ℕ
term_at schema text = do
  kind ← or_fault (length text) (kind_of schema (name_at text))
  behind ← colon_at (length text) (behind_name text)
  value ← or_fault (length behind) (value_at behind)
  primary ← or_fault (length behind) (meaning (name_at text) kind value.0)
  Ok (primary, value.1)

-- `*:*`
abbrev pub everything_at : Text → Result (Primary × Text) ℕ
everything_at text =
    if starts_with nat_eq text (42 ∷ 58 ∷ 42 ∷ []) then Ok (Primary.everything, drop 3 text) else Err (length text)

-- a primary that is no group
unfoldable pub leaf_at : Schema → Text → Result (Primary × Text) ℕ
leaf_at schema [] = Err 0
leaf_at schema (b ∷ bs) = if b == 42 then everything_at (b ∷ bs) else term_at schema (b ∷ bs)

-- What stands in a group, or is the whole text: from the number of clauses that may still come and the text on, the query,
-- how many clauses may come after it, and the rest, which is nothing or begins with `)`.
abbrev pub Inside : Type 0
Inside = ℕ → Text → Result (Query × ℕ × Text) ℕ

-- the `)` of a group
abbrev pub grouped : Query × ℕ × Text → Result (Primary × ℕ × Text) ℕ
grouped (q, clauses, []) = Err 0
grouped (q, clauses, b ∷ bs) = Ok (Primary.group q, clauses, bs)

-- a primary, from the number of clauses that may still come and the text on
unfoldable pub primary_at : Schema → Inside → ℕ → Text → Result (Primary × ℕ × Text) ℕ
primary_at schema inside clauses [] = Err 0
primary_at schema inside clauses (b ∷ bs) =
    if b == 40 then (inside clauses bs >>= grouped) else (leaf_at schema (b ∷ bs) >>= λ p. Ok (p.0, clauses, p.1))

-- ---- clauses

-- what stands behind the spaces
abbrev pub after_spaces : Text → Text
after_spaces [] = []
after_spaces (b ∷ bs) = if b == 32 then after_spaces bs else b ∷ bs

-- the end of the text, or the `)` of a group
abbrev pub ends : Text → Bool
ends [] = true
ends (b ∷ bs) = b == 41

-- what may follow a primary
abbrev pub breaks : Text → Bool
breaks [] = true
breaks (b ∷ bs) = b == 32 || b == 41

-- a sign, and what stands behind it; no sign is a SHOULD
abbrev pub sign_at : Text → Sign × Text
sign_at [] = (Sign.should, [])
sign_at (b ∷ bs) = if b == 43 then (Sign.must, bs) else if b == 45 then (Sign.must_not, bs) else (Sign.should, b ∷ bs)

-- a clause, where one more may come
unfoldable pub clause_at : Schema → Inside → ℕ → Text → Result (Sign × Primary × ℕ × Text) ℕ
clause_at schema inside zero text = Err (length text)
clause_at schema inside (suc clauses) text =
    primary_at schema inside clauses (sign_at text).1 >>= λ p. Ok ((sign_at text).0, p.0, p.1, p.2)

-- what stands behind the spaces after a primary
abbrev pub gap_at : Text → Result Text ℕ
gap_at text = if breaks text then Ok (after_spaces text) else Err (length text)

-- Clauses, at least one, up to the end. There are at most as many as the first number, since no more may come.
unfoldable pub clauses_at : Schema → Inside → ℕ → ℕ → Text → Result (Query × ℕ × Text) ℕ
clauses_at schema inside zero clauses text = Err (length text)
clauses_at schema inside (suc n) clauses text = do
  first ← clause_at schema inside clauses text
  rest ← gap_at first.3
  others ← if ends rest then Ok (Query.no_clause, first.2, rest) else clauses_at schema inside n first.2 rest
  Ok (Query.clause first.0 first.1 others.0, others.1, others.2)

-- the first number says how many groups may stand inside one another, this one among them
unfoldable pub content_at : Schema → ℕ → Inside
content_at schema zero clauses text = Err (length text + 1)
content_at schema (suc groups) clauses text =
    if ends (after_spaces text) then Err (length (after_spaces text))
    else clauses_at schema (content_at schema groups) clauses clauses (after_spaces text)

-- ---- the whole text

-- nothing stands behind the query
abbrev pub whole : Query × ℕ × Text → Result Query ℕ
whole (q, clauses, []) = Ok q
whole (q, clauses, b ∷ bs) = Err (length (b ∷ bs))

-- the place of a fault, from the bytes that are left
abbrev pub placed : ℕ → Result Query ℕ → Result Query ℕ
placed total (Ok q) = Ok q
placed total (Err left) = Err (total - left)

-- as many clauses in all as may be, and groups in the text, which itself counts as one
unfoldable pub read_query : Schema → Text → Result Query ℕ
read_query schema text = placed (length text) (content_at schema (depth_limit + 1) clause_limit text >>= whole)
