-- Rows at the head of a walk that are no hits, and what is left behind them.
use Rattle.std.proofs.Common.{◌≡◌, ℕ, ◌+◌, ◌<◌, ◌≤◌, List, [], ◌∷◌, ◌++◌, length, filter, take, drop, get_or, Option, Bool, true, false, cond, refl, sym, ◌∙◌, ap, subst, append_assoc}
use Rattle.std.specs.List.{All, AllByRecursion}
use Rattle.std.proofs.lemmas.List.{drop_all, take_more, take-append-drop}
use Rattle.std.proofs.lemmas.List.Elements.{All-append, All-from_recursion, filter-append, recursion_from_All}
use Rattle.cat_model.specs.RowSets.{has_row}
use Rattle.cat_model.proofs.Places.{EachPair, each_pair, all_pairs}
use Rattle.cat_views.specs.cat_segment.RowParts.{parts_of}
use Rattle.cat_views.specs.cat_segment.declared.row_parts.RowParts.{RowParts}
use Rattle.cat_views.proofs.Selected.{All-right, Pairs-right}
use Rattle.cat_search.specs.Standings.{HitStanding, standing_before}
use Rattle.cat_search.specs.Steps.{IsBehindMisses, rows_of_parts_from}
use Rattle.cat_search.specs.Walks.{IsOrderedRun, standing_at}
use Rattle.cat_search.proofs.Gathered.{standings_at}
use Rattle.cat_search.proofs.Stepped.{rows_step, taken}

abbrev pub IsMiss : List Bool → ℕ → Type 0
IsMiss hits row = has_row hits row ≡ false

none_kept : (hits : List Bool) (rows : List ℕ) → AllByRecursion (IsMiss hits) rows → filter (has_row hits) rows ≡ []
none_kept hits [] a = refl
none_kept hits (row ∷ rows) a = ap (λ b. cond b (row ∷ filter (has_row hits) rows) (filter (has_row hits) rows)) a.0 ∙ none_kept hits rows a.1

-- one more row that is no hit
pub missed_more : (hits : List Bool) (rows : List ℕ) (n : ℕ) → n < length rows → All (IsMiss hits) (take n rows) → has_row hits (get_or rows n 0) ≡ false → All (IsMiss hits) (take (n + 1) rows)
missed_more hits rows n within all none =
    let one = All-from_recursion (IsMiss hits) (get_or rows n 0 ∷ []) (none, tt) in
    subst (All (IsMiss hits)) (sym (take_more rows n 0 within)) (All-append (IsMiss hits) (take n rows) (get_or rows n 0 ∷ []) all one)

-- where none of the first rows is a hit, the others are left
pub missed_cut : (hits : List Bool) (part back : List ℕ) (n : ℕ) → All (IsMiss hits) (take n part) → IsBehindMisses hits (part ++ back) (drop n part ++ back)
missed_cut hits part back n none = record {
  missed = take n part;
  none = none;
  cut = ap (λ l. l ++ back) (sym (take-append-drop n part)) ∙ append_assoc (take n part) (drop n part) back;
}

-- rows behind misses, of which the first ones are missed too
pub missed_on : (hits : List Bool) (rows part back : List ℕ) (n : ℕ) → IsBehindMisses hits rows (part ++ back) → All (IsMiss hits) (take n part) → IsBehindMisses hits rows (drop n part ++ back)
missed_on hits rows part back n is none =
    let more = missed_cut hits part back n none in
    record {
      missed = is.missed ++ more.missed;
      none = All-append (IsMiss hits) is.missed more.missed is.none more.none;
      cut = is.cut ∙ ap (λ l. is.missed ++ l) more.cut ∙ sym (append_assoc is.missed more.missed (drop n part ++ back));
    }

-- a part of which all rows are missed, and then the next one
pub missed_part : (hits : List Bool) (rows part : List ℕ) (parts : RowParts) (i n : ℕ) → i < length (parts_of parts) → length part ≤ n → IsBehindMisses hits rows (part ++ rows_of_parts_from parts i) → All (IsMiss hits) (take n part) → IsBehindMisses hits rows (get_or (parts_of parts) i [] ++ rows_of_parts_from parts (i + 1))
missed_part hits rows part parts i n within all is none =
    subst (IsBehindMisses hits rows)
    (ap (λ l. l ++ rows_of_parts_from parts i) (drop_all n part all) ∙ rows_step parts i within)
    (missed_on hits rows part (rows_of_parts_from parts i) n is none)

all_front : (P : ℕ → Type 0) (part back : List ℕ) → AllByRecursion P (part ++ back) → AllByRecursion P part
all_front P [] back a = tt
all_front P (row ∷ part) back a = (a.0, all_front P part back a.1)

module _ (hits : List Bool) (rows left : List ℕ) (is : IsBehindMisses hits rows left) where
  -- what holds of all rows holds of what is left
  pub missed_rows : (P : ℕ → Type 0) → All P rows → All P left
  missed_rows P all = All-from_recursion P left (All-right P is.missed left (subst (AllByRecursion P) is.cut (recursion_from_All P rows all)))

  -- what is left stands in the order of the rows
  pub missed_runs : (ranks : List HitStanding) → IsOrderedRun ranks rows → IsOrderedRun ranks left
  missed_runs ranks run = record {
    within = missed_rows (λ row. row < length ranks) run.within;
    rising = all_pairs follows left (Pairs-right follows is.missed left (subst (EachPair follows) is.cut (each_pair follows rows run.rising)));
  }
    where
      follows : ℕ → ℕ → Type 0
      follows a b = standing_before (standing_at ranks a) (standing_at ranks b) ≡ true

  -- what is missed is nothing to a page
  pub missed_taken : (mark : Option HitStanding) (ranks : List HitStanding) → taken mark ranks hits left ≡ taken mark ranks hits rows
  missed_taken mark ranks =
      ap (standings_at mark ranks)
      (sym (ap (filter (has_row hits)) is.cut ∙ filter-append (has_row hits) is.missed left ∙ ap (λ l. l ++ filter (has_row hits) left) (none_kept hits is.missed (recursion_from_All (IsMiss hits) is.missed is.none))))

-- what holds of all rows holds of the part that comes first of what is left
pub missed_front : (hits : List Bool) (rows part back : List ℕ) → IsBehindMisses hits rows (part ++ back) → (P : ℕ → Type 0) → All P rows → All P part
missed_front hits rows part back is P all = All-from_recursion P part (all_front P part back (recursion_from_All P (part ++ back) (missed_rows hits rows (part ++ back) is P all)))
