-- The hits that stand before a mark in order of addition.
use Rattle.std.proofs.Common.{◌≡◌, ℕ, zero, suc, ◌<◌, ◌≤◌, List, [], ◌∷◌, ◌++◌, length, map, filter, replicate, drop, get_or, ltb, Bool, true, false, Option, refl, sym, ap, ◌∙◌, arith}
use Rattle.std.proofs.lemmas.Bool.Decides.{nat_tests}
use Rattle.std.proofs.lemmas.List.{drop_all}
use Rattle.cat_model.specs.View.{Row, selected}
use Rattle.cat_model.proofs.HitOrder.{is_lt-nat_cmp}
use Rattle.cat_search.specs.declared.sort.Order.TheVariants as order
use Rattle.cat_search.specs.Standings.{Rank, HitStanding, standing_before}
use Rattle.cat_search.specs.Pages.{behind}
use Rattle.cat_search.specs.Rows.{row_standing}

abbrev added : Row → HitStanding
added row = row_standing order.Added row

-- a mark without a key doesn't come before a row that an earlier write put, or the same
not_beyond : (m : HitStanding) (row : Row) → m.rank ≡ Rank.missing → row.number ≤ m.number → standing_before m (added row) ≡ false
not_beyond m row is le =
    let up : ltb m.number row.number ≡ false = grind (arith, nat_tests, le) in
    rw is (is_lt-nat_cmp m.number row.number ∙ up)

pub passed : (m : HitStanding) (k : ℕ) (set : List Bool) (rows : List Row) → m.rank ≡ Rank.missing → ((i : ℕ) (d : Row) → i < k → i < length rows → (get_or rows i d).number ≤ m.number)
    → filter (standing_before m) (selected (replicate k false ++ drop k set) (map added rows)) ≡ filter (standing_before m) (selected set (map added rows))
passed m zero set rows is up_to = refl
passed m (suc k) [] rows is up_to = none k rows
  where
    none : (j : ℕ) (rs : List Row) → filter (standing_before m) (selected (replicate (suc j) false ++ []) (map added rs)) ≡ []
    none j [] = refl
    none zero (r ∷ rs) = refl
    none (suc j) (r ∷ rs) = none j rs
passed m (suc k) (b ∷ bs) [] is up_to = refl
passed m (suc k) (true ∷ bs) (r ∷ rows) is up_to =
    let here : standing_before m (added r) ≡ false = not_beyond m r is (up_to 0 r (omega arith) (omega arith)) in
    let rest = passed m k bs rows is (λ i d lt within. up_to (suc i) d (omega arith) (omega arith)) in
    rw here rest
passed m (suc k) (false ∷ bs) (r ∷ rows) is up_to = passed m k bs rows is (λ i d lt within. up_to (suc i) d (omega arith) (omega arith))

-- ---- a segment that is passed as a whole

selected_none : {X : Type 0} (k : ℕ) (xs : List X) → selected (replicate k false ++ []) xs ≡ []
selected_none zero xs = refl
selected_none (suc k) [] = refl
selected_none (suc k) (x ∷ xs) = selected_none k xs

-- where all rows are passed, no hit stands behind the mark
pub all_passed : (mark : Option HitStanding) (k : ℕ) (hits : List Bool) (ranks : List HitStanding) → length hits ≤ k
    → behind mark (selected (replicate k false ++ drop k hits) ranks) ≡ behind mark (selected hits ranks) → behind mark (selected hits ranks) ≡ []
all_passed mark k hits ranks all same =
    sym same ∙ ap (behind mark) (ap (λ (l : List Bool). selected (replicate k false ++ l) ranks) (drop_all k hits all) ∙ selected_none k ranks)
