-- Rows that can't come into a page, by the ordinals of their keywords.
use Rattle.std.specs.Prelude.{◌≡◌, ℕ, ◌<◌, ◌≤◌, Bool, true, false, ◌&&◌, nat_le, nat_lt, List, length, Option, Some, None, option_map, IfSome}
use Rattle.std.specs.Ordering.{is_lt}
use Rattle.cat_model.specs.Ordinals.{text_at}
use Rattle.cat_model.specs.Page.{Key}
use Rattle.cat_model.specs.Text.{Text, text_cmp}
use Rattle.cat_search.specs.declared.ordinal_bar.OrdinalBar.{OrdinalBar}
use Rattle.cat_search.specs.declared.standings.Candidate.{Candidate}
use Rattle.cat_search.specs.declared.sort.Order.{Order}
use Rattle.cat_search.specs.Bars.{IsLeftOut}
use Rattle.cat_search.specs.Standings.{HitStanding}
use Rattle.cat_search.specs.BestItems.{BestItems}

-- the text is below the end, and nothing is below an open one
abbrev pub is_below_end : Text → Option Text → Bool
is_below_end text None = false
is_below_end text (Some low) = is_lt (text_cmp text low)

-- the text is above the end, and nothing is above an open one
abbrev pub is_above_end : Text → Option Text → Bool
is_above_end text None = false
is_above_end text (Some high) = is_lt (text_cmp high text)

-- the texts before the ordinal are below the end
abbrev pub AreTextsBelow : Option Text → List Text → ℕ → Type 0
AreTextsBelow low texts ordinal = (i : ℕ) → i < ordinal → i < length texts → is_below_end (text_at texts i) low ≡ true

-- the texts from the ordinal on are above the end
abbrev pub AreAbove : Option Text → List Text → ℕ → Type 0
AreAbove high texts ordinal = (i : ℕ) → ordinal ≤ i → i < length texts → is_above_end (text_at texts i) high ≡ true

-- the bar's ordinals are those of its texts
pub record AreOrdinalsOf (texts : List Text) (bar : OrdinalBar) : Type 0 where
  pub below : AreTextsBelow (option_map (λ t. t.now) bar.low) texts bar.from
  pub above : AreAbove (option_map (λ t. t.now) bar.high) texts bar.before

-- a row with the text of this ordinal has to be looked at
abbrev pub lets_ordinal_in : OrdinalBar → Option ℕ → Bool
lets_ordinal_in bar None = bar.missing
lets_ordinal_in bar (Some i) = nat_le bar.from i && nat_lt i bar.before

-- the key of a row with the text of this ordinal
abbrev pub keyword_key : List Text → Option ℕ → Option Key
keyword_key texts i = option_map Key.keyword (option_map (text_at texts) i)

-- what the bar keeps out by the ordinal of its text is left out
abbrev pub IsOrdinalBarOf : Order → Option HitStanding → BestItems Candidate → List Text → OrdinalBar → Type 0
IsOrdinalBarOf o mark kept texts bar =
    (i : Option ℕ) → IfSome i (λ k. k < length texts) → lets_ordinal_in bar i ≡ false → IsLeftOut o mark kept (keyword_key texts i)

-- the bar keeps out the ordinal of this text, or of none
abbrev pub KeepsOut : List Text → OrdinalBar → Option Text → Type 0
KeepsOut texts bar text =
    (i : Option ℕ) × IfSome i (λ k. k < length texts) × (lets_ordinal_in bar i ≡ false) × (option_map (text_at texts) i ≡ text)
