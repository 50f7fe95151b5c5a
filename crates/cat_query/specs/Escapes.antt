-- Texts as they stand between the quotes of a query text, where a backslash comes before each quote and each backslash.
use Rattle.std.specs.Prelude.{ℕ, suc, [], ◌∷◌, Option, Some, None, option_map, ◌==◌, ◌||◌, ◌&&◌, not, Bool, true, false, if◌then◌else◌}
use Rattle.cat_model.specs.Text.{Text}

-- the text without its backslashes; the flag says that one came just before
abbrev pub unescaped_from : Bool → Text → Text
unescaped_from escaped [] = []
unescaped_from true (b ∷ bs) = b ∷ unescaped_from false bs
unescaped_from false (b ∷ bs) = if b == 92 then unescaped_from true bs else b ∷ unescaped_from false bs

abbrev pub unescaped : Text → Text
unescaped text = unescaped_from false text

-- behind each backslash that isn't itself escaped stands a quote or a backslash
abbrev pub is_escaped_from : Bool → Text → Bool
is_escaped_from escaped [] = not escaped
is_escaped_from true (b ∷ bs) = (b == 34 || b == 92) && is_escaped_from false bs
is_escaped_from false (b ∷ bs) = if b == 92 then is_escaped_from true bs else is_escaped_from false bs

abbrev pub is_escaped : Text → Bool
is_escaped text = is_escaped_from false text

-- how many bytes stand before the closing quote; none closes where it isn't there, or an escape is wrong before it
abbrev pub closing_quote_from : Bool → Text → Option ℕ
closing_quote_from escaped [] = None
closing_quote_from true (b ∷ bs) = if b == 34 || b == 92 then option_map (λ n. suc n) (closing_quote_from false bs) else None
closing_quote_from false (b ∷ bs) = if b == 34 then Some 0 else option_map (λ n. suc n) (closing_quote_from (b == 92) bs)

-- a byte that is no backslash
abbrev pub is_no_backslash : ℕ → Bool
is_no_backslash b = not (b == 92)
