-- The run of each segment, and what comes first, from those of the segment behind it.
use Rattle.std.proofs.Common.{◌≡◌, ℕ, suc, ◌+◌, ◌-◌, zero, ◌*◌, ◌^◌, ◌<◌, ◌≤◌, List, [], ◌∷◌, length, take, drop, sum, get_or, Some, None, refl, sym, ap, ap₂, subst, inl, inr, ◌⊎◌, ◌∙◌, Option, arith}
use Rattle.std.specs.Prelude.{All, ◌≢◌, option_map}
use Rattle.std.proofs.lemmas.Bool.{cases_lt}
use Rattle.std.proofs.lemmas.List.Elements.{All-nil, All-cons, All-head, All-tail, All-take, All-drop, All-weaker, All-from_get_or}
use Rattle.std.proofs.lemmas.List.{length-take, length-drop, get_or-take, get_or-drop, drop_more}
use Rattle.std.proofs.lemmas.List.Sums.{sum_by-cons, sum_by_more, sum_by-le}
use Rattle.cat_model.specs.Limits.{row_limit}
use Rattle.cat_model.specs.Window.{IsLevel, IsMergeable, IsFirst, IsWindow}
use Rattle.cat_merge.specs.declared.policy.Run.{Run}
use Rattle.cat_merge.specs.declared.policy.Candidate.{Candidate}
use Rattle.cat_merge.specs.Runs.{AreOfLevel, IsMergeRun, IsFirstFrom}

-- so many rows have one level
one_level : (factor least rows k l : ℕ) → IsLevel factor least rows k → IsLevel factor least rows l → k ≡ l
one_level factor least rows k l one two = elim (cases_lt k l) [
  | inl under ↦ absurd (omega (arith, one.fits, two.lowest k under))
  | inr other ↦ elim (cases_lt l k) [
    | inl over ↦ absurd (omega (arith, two.fits, one.lowest l over))
    | inr same ↦ omega (arith, other, same)
  ]
]

pub no_run : (factor least : ℕ) → IsMergeRun factor least [] (record { level = 0; count = 0; rows = 0 })
no_run factor least = record {
  few = omega arith;
  within = omega arith;
  level = All-nil (λ rows. IsLevel factor least rows 0);
  rows = refl;
  longest = λ level count some few within are. absurd (omega (arith, some, within));
}

-- the sizes that come first have the level of the first one, and so has what comes behind it
longest_one :
    (factor least y level : ℕ) (ys : List ℕ) (next : Run) → IsMergeRun factor least ys next → IsLevel factor least y level
    → (0 < next.count → next.level ≡ level → ⊥)
    → (other count : ℕ) → 0 < count → count ≤ factor → count ≤ suc (length ys) → AreOfLevel factor least other (take count (y ∷ ys))
    → (count ≤ 1) × (other ≡ level)
longest_one factor least y level ys next run is never other zero above few within are = absurd (omega (arith, above))
longest_one factor least y level ys next run is never other (suc zero) above few within are =
    (omega arith, one_level factor least y other level (All-head (λ rows. IsLevel factor least rows other) y [] are) is)
longest_one factor least y level ys next run is never other (suc (suc count)) above few within are =
    let first : other ≡ level = one_level factor least y other level (All-head (λ rows. IsLevel factor least rows other) y (take (suc count) ys) are) is in
    let more : (suc count ≤ next.count) × (other ≡ next.level)
    = run.longest other (suc count) (omega arith) (omega (arith, few)) (omega (arith, within)) (All-tail (λ rows. IsLevel factor least rows other) y (take (suc count) ys) are) in
    absurd (never (omega (arith, more.0)) (sym more.1 ∙ first))

-- one segment is a run, where there is none behind it, or one of another level
pub run_begins :
    (factor least y level : ℕ) (ys : List ℕ) (next : Run) → 1 ≤ factor → IsMergeRun factor least ys next → IsLevel factor least y level
    → (0 < next.count → next.level ≡ level → ⊥) → IsMergeRun factor least (y ∷ ys) (record { level = level; count = 1; rows = y })
run_begins factor least y level ys next some run is never = record {
  few = some;
  within = omega arith;
  level = All-cons (λ rows. IsLevel factor least rows level) y [] is (All-nil (λ rows. IsLevel factor least rows level));
  rows = omega arith;
  longest = longest_one factor least y level ys next run is never;
}

-- a run of the same level goes on
longest_more :
    (factor least y : ℕ) (ys : List ℕ) (next : Run) → IsMergeRun factor least ys next → IsLevel factor least y next.level
    → (other count : ℕ) → 0 < count → count ≤ factor → count ≤ suc (length ys) → AreOfLevel factor least other (take count (y ∷ ys))
    → (count ≤ suc next.count) × (other ≡ next.level)
longest_more factor least y ys next run is other zero above few within are = absurd (omega (arith, above))
longest_more factor least y ys next run is other (suc zero) above few within are =
    (omega arith, one_level factor least y other next.level (All-head (λ rows. IsLevel factor least rows other) y [] are) is)
longest_more factor least y ys next run is other (suc (suc count)) above few within are =
    let more : (suc count ≤ next.count) × (other ≡ next.level)
    = run.longest other (suc count) (omega arith) (omega (arith, few)) (omega (arith, within)) (All-tail (λ rows. IsLevel factor least rows other) y (take (suc count) ys) are) in
    (omega (arith, more.0), more.1)

-- with one segment more
pub run_grows :
    (factor least y : ℕ) (ys : List ℕ) (next : Run) → next.count < factor → IsMergeRun factor least ys next → IsLevel factor least y next.level
    → IsMergeRun factor least (y ∷ ys) (record { level = next.level; count = suc next.count; rows = next.rows + y })
run_grows factor least y ys next few run is = record {
  few = omega (arith, few);
  within = omega (arith, run.within);
  level = All-cons (λ rows. IsLevel factor least rows next.level) y (take next.count ys) is run.level;
  rows = omega (arith, run.rows, sum_by-cons (λ x. x) y (take next.count ys));
  longest = longest_more factor least y ys next run is;
}

-- fewer of a run have its level too
fewer_of :
    (factor least level n m : ℕ) (ys : List ℕ) → n ≤ m → m ≤ length ys → AreOfLevel factor least level (take m ys) → AreOfLevel factor least level (take n ys)
fewer_of factor least level n m ys le within are k d below =
    let in' : k < n = omega (arith, length-take n ys) in
    let all : IsLevel factor least (get_or (take m ys) k d) level = are k d (omega (arith, length-take m ys)) in
    rw (get_or-take n ys k d in', ← get_or-take m ys k d (omega arith)) all

-- what the sizes of a run that is full have without its last
without_last : (ys : List ℕ) (rows full count : ℕ) → full ≡ suc count → full ≤ length ys → rows ≡ sum (take full ys) → rows ≡ sum (take count ys) + get_or ys count 0
without_last ys rows full count e within is =
    let short : count < length ys = omega arith in
    is ∙ ap (λ n. sum (take n ys)) (let same : full ≡ count + 1 = omega arith in same) ∙ sum_by_more (λ x. x) ys count 0 short

-- and where there are enough, without its last
pub run_moves :
    (factor least y : ℕ) (ys : List ℕ) (next : Run) (count : ℕ) → next.count ≡ suc count → factor ≡ suc count → IsMergeRun factor least ys next
    → IsLevel factor least y next.level
    → IsMergeRun factor least (y ∷ ys) (record { level = next.level; count = suc count; rows = next.rows + y - get_or ys count 0 })
run_moves factor least y ys next count full enough run is =
    let split : next.rows ≡ sum (take count ys) + get_or ys count 0 = without_last ys next.rows next.count count full run.within run.rows in
    record {
      few = omega (arith, enough);
      within = omega (arith, run.within, full);
      level = All-cons (λ rows. IsLevel factor least rows next.level) y (take count ys) is
          (fewer_of factor least next.level count next.count ys (omega (arith, full)) run.within run.level);
      rows = omega (arith, sum_by-cons (λ x. x) y (take count ys), split);
      longest = λ other many above few within are.
          (omega (arith, few, enough), (longest_more factor least y ys next run is other many above few within are).1);
    }

-- ---- by the index of the first size

same_run : (factor least : ℕ) (sizes : List ℕ) (level count rows level' count' rows' : ℕ) → level ≡ level' → count ≡ count' → rows ≡ rows'
    → IsMergeRun factor least sizes (record { level = level; count = count; rows = rows })
    → IsMergeRun factor least sizes (record { level = level'; count = count'; rows = rows' })
same_run factor least sizes level count rows level' count' rows' e f g is =
    subst (λ n. IsMergeRun factor least sizes (record { level = level'; count = count'; rows = n })) g
    (subst (λ n. IsMergeRun factor least sizes (record { level = level'; count = n; rows = rows })) f
    (subst (λ n. IsMergeRun factor least sizes (record { level = n; count = count; rows = rows })) e is))

at_index : (factor least : ℕ) (sizes : List ℕ) (index : ℕ) (run : Run) → index < length sizes
    → IsMergeRun factor least (get_or sizes index 0 ∷ drop (index + 1) sizes) run → IsMergeRun factor least (drop index sizes) run
at_index factor least sizes index run within is = subst (λ l. IsMergeRun factor least l run) (sym (drop_more sizes index 0 within)) is

pub begins_at : (factor least : ℕ) (sizes : List ℕ) (index level rows : ℕ) (next : Run) → 1 ≤ factor → index < length sizes → rows ≡ get_or sizes index 0
    → IsMergeRun factor least (drop (index + 1) sizes) next → IsLevel factor least (get_or sizes index 0) level
    → (next.count ≡ 0) ⊎ (next.level ≢ level) → IsMergeRun factor least (drop index sizes) (record { level = level; count = 1; rows = rows })
begins_at factor least sizes index level rows next some within e run is never =
    at_index factor least sizes index (record { level = level; count = 1; rows = rows }) within
    (same_run factor least (get_or sizes index 0 ∷ drop (index + 1) sizes) level 1 (get_or sizes index 0) level 1 rows refl refl (sym e)
    (run_begins factor least (get_or sizes index 0) level (drop (index + 1) sizes) next some run is (apart never)))
  where
    apart : (next.count ≡ 0) ⊎ (next.level ≢ level) → 0 < next.count → next.level ≡ level → ⊥
    apart (inl none) above same = omega (arith, none, above)
    apart (inr other) above same = other same

pub grows_at : (factor least : ℕ) (sizes : List ℕ) (index level rows : ℕ) (next : Run) → index < length sizes → rows ≡ get_or sizes index 0
    → IsMergeRun factor least (drop (index + 1) sizes) next → IsLevel factor least (get_or sizes index 0) level → next.level ≡ level → next.count < factor
    → IsMergeRun factor least (drop index sizes) (record { level = level; count = next.count + 1; rows = next.rows + rows })
grows_at factor least sizes index level rows next within e run is same few =
    at_index factor least sizes index (record { level = level; count = next.count + 1; rows = next.rows + rows }) within
    (same_run factor least (get_or sizes index 0 ∷ drop (index + 1) sizes) next.level (suc next.count) (next.rows + get_or sizes index 0)
    level (next.count + 1) (next.rows + rows) same (omega arith) (omega (arith, e))
    (run_grows factor least (get_or sizes index 0) (drop (index + 1) sizes) next few run (subst (λ l. IsLevel factor least (get_or sizes index 0) l) (sym same) is)))

-- the last size of a full run
last_of : (factor least : ℕ) (sizes : List ℕ) (index count last : ℕ) (next : Run) → next.count ≡ suc count → last ≡ get_or sizes (index + next.count) 0
    → last ≡ get_or (drop (index + 1) sizes) count 0
last_of factor least sizes index count last next full e =
    e ∙ ap (λ k. get_or sizes k 0) (let same : index + next.count ≡ index + 1 + count = omega (arith, full) in same) ∙ sym (get_or-drop (index + 1) sizes count 0)

moves_by : (factor least : ℕ) (sizes : List ℕ) (index level rows last count : ℕ) (next : Run) → index < length sizes → rows ≡ get_or sizes index 0
    → last ≡ get_or sizes (index + next.count) 0 → IsMergeRun factor least (drop (index + 1) sizes) next → IsLevel factor least (get_or sizes index 0) level
    → next.level ≡ level → factor ≡ next.count → next.count ≡ suc count
    → IsMergeRun factor least (drop index sizes) (record { level = level; count = next.count; rows = next.rows + rows - last })
moves_by factor least sizes index level rows last count next within e f run is same full some =
    at_index factor least sizes index (record { level = level; count = next.count; rows = next.rows + rows - last }) within
    (same_run factor least (get_or sizes index 0 ∷ drop (index + 1) sizes) next.level (suc count)
    (next.rows + get_or sizes index 0 - get_or (drop (index + 1) sizes) count 0)
    level next.count (next.rows + rows - last) same (sym some)
    (ap₂ (λ (a b : ℕ). next.rows + a - b) (sym e) (sym (last_of factor least sizes index count last next some f)))
    (run_moves factor least (get_or sizes index 0) (drop (index + 1) sizes) next count some (full ∙ some) run
    (subst (λ l. IsLevel factor least (get_or sizes index 0) l) (sym same) is)))

pub moves_at : (factor least : ℕ) (sizes : List ℕ) (index level rows last : ℕ) (next : Run) → index < length sizes → rows ≡ get_or sizes index 0
    → last ≡ get_or sizes (index + next.count) 0 → IsMergeRun factor least (drop (index + 1) sizes) next → IsLevel factor least (get_or sizes index 0) level
    → next.level ≡ level → factor ≤ next.count → 0 < next.count
    → IsMergeRun factor least (drop index sizes) (record { level = level; count = next.count; rows = next.rows + rows - last })
moves_at factor least sizes index level rows last next within e f run is same full some =
    moves_by factor least sizes index level rows last (next.count - 1) next within e f run is same (omega (arith, full, run.few)) (omega (arith, some))

-- the last size of a full run is among its rows
pub last_within : (factor least : ℕ) (sizes : List ℕ) (index last : ℕ) (next : Run) → last ≡ get_or sizes (index + next.count) 0
    → IsMergeRun factor least (drop (index + 1) sizes) next → 0 < next.count → last ≤ next.rows
last_within factor least sizes index last next f run some =
    let split : next.rows ≡ sum (take (next.count - 1) (drop (index + 1) sizes)) + get_or (drop (index + 1) sizes) (next.count - 1) 0
    = without_last (drop (index + 1) sizes) next.rows next.count (next.count - 1) (omega (arith, some)) run.within run.rows in
    omega (arith, split, last_of factor least sizes index (next.count - 1) last next (omega (arith, some)) f)

-- no run has more rows than a u64 can count
pub rows_fit : (factor least : ℕ) (sizes : List ℕ) (index : ℕ) (next : Run) → factor ≤ 100 → ((i : ℕ) → get_or sizes i 0 < 2 ^ 32)
    → IsMergeRun factor least (drop (index + 1) sizes) next → next.rows ≤ 100 * 2 ^ 32
rows_fit factor least sizes index next few fit run =
    let part : List ℕ = take next.count (drop (index + 1) sizes) in
    let all : All (λ n. n < 2 ^ 32) part = All-take (λ n. n < 2 ^ 32) next.count (drop (index + 1) sizes) (All-drop (λ n. n < 2 ^ 32) (index + 1) sizes
    (All-from_get_or (λ n. n < 2 ^ 32) sizes 0 (λ i within. fit i))) in
    let most : sum part ≤ length part * 2 ^ 32 = sum_by-le (λ x. x) (2 ^ 32) part (All-weaker (λ n. n < 2 ^ 32) (λ n. n ≤ 2 ^ 32) (λ n lt. omega (arith, lt)) part all) in
    let short : length part ≤ 100 = omega (arith, length-take next.count (drop (index + 1) sizes), run.few, few) in
    omega (arith, most, short, run.rows)

-- ---- what comes first

-- what can be merged from an index on makes a run there
merged_run :
    (factor least : ℕ) (sizes : List ℕ) (from level : ℕ) (run : Run) → 0 < factor → IsMergeRun factor least (drop from sizes) run
    → IsMergeable factor least sizes level from → (run.count ≡ factor) × (level ≡ run.level) × (run.rows ≤ row_limit)
merged_run factor least sizes from level run some is m =
    let l : (factor ≤ run.count) × (level ≡ run.level) = is.longest level factor some (omega arith) (omega (arith, m.within, length-drop from sizes)) m.levels in
    let all : run.count ≡ factor = omega (arith, l.0, is.few) in
    (all, l.1, omega (arith, m.few, is.rows ∙ ap (λ n. sum (take n (drop from sizes))) all))

-- the first index, or one behind it
abbrev AtOrBehind : (from index : ℕ) → Type 0
AtOrBehind from index = (index ≡ from) ⊎ (from + 1 ≤ index)

at_or_behind : (from index : ℕ) → from ≤ index → AtOrBehind from index
at_or_behind from index le = elim (cases_lt from index) [
  | inl behind ↦ inr (omega (arith, behind))
  | inr here ↦ inl (omega (arith, here, le))
]

-- nothing that can be merged begins where the run is shorter, or has more rows
nothing_here :
    (factor least : ℕ) (sizes : List ℕ) (from level index : ℕ) (run : Run) → 0 < factor → IsMergeRun factor least (drop from sizes) run
    → (run.count < factor) ⊎ (row_limit < run.rows) → index ≡ from → IsMergeable factor least sizes level index → ⊥
nothing_here factor least sizes from level index run some is never here m =
    let all : (run.count ≡ factor) × (level ≡ run.level) × (run.rows ≤ row_limit)
    = merged_run factor least sizes from level run some is (subst (λ i. IsMergeable factor least sizes level i) here m) in
    elim never [ inl short ↦ omega (arith, short, all.0) | inr many ↦ omega (arith, many, all.2) ]

pub nothing_first :
    (factor least : ℕ) (sizes : List ℕ) (from : ℕ) (run : Run) (behind : Option Candidate) → 0 < factor → IsMergeRun factor least (drop from sizes) run
    → (run.count < factor) ⊎ (row_limit < run.rows) → IsFirstFrom factor least sizes (from + 1) behind → IsFirstFrom factor least sizes from behind
nothing_first factor least sizes from run None some is never first = λ level index le m. elim (at_or_behind from index le) [
  | inl here ↦ nothing_here factor least sizes from level index run some is never here m
  | inr behind ↦ first level index behind m
]
nothing_first factor least sizes from run (Some c) some is never first = (
  first.0,
  λ level index le m. elim (at_or_behind from index le) [
    | inl here ↦ absurd (nothing_here factor least sizes from level index run some is never here m)
    | inr behind ↦ first.1 level index behind m
  ],
)

-- what comes first behind stays so, where its level is lower
pub lower_first :
    (factor least : ℕ) (sizes : List ℕ) (from : ℕ) (run : Run) (c : Candidate) → 0 < factor → IsMergeRun factor least (drop from sizes) run
    → c.level < run.level → IsFirstFrom factor least sizes (from + 1) (Some c) → IsFirstFrom factor least sizes from (Some c)
lower_first factor least sizes from run c some is lower first = (
  first.0,
  λ level index le m. elim (at_or_behind from index le) [
    | inl here ↦ inl (omega (arith, lower, (merged_run factor least sizes from level run some is (subst (λ i. IsMergeable factor least sizes level i) here m)).1))
    | inr behind ↦ first.1 level index behind m
  ],
)

-- a run that is full, and has few rows, can be merged
full_run :
    (factor least : ℕ) (sizes : List ℕ) (from : ℕ) (run : Run) → 0 < factor → IsMergeRun factor least (drop from sizes) run → factor ≤ run.count
    → run.rows ≤ row_limit → IsMergeable factor least sizes run.level from
full_run factor least sizes from run some is full few =
    let all : run.count ≡ factor = omega (arith, full, is.few) in
    record {
      within = omega (arith, is.within, length-drop from sizes, full, some);
      levels = subst (λ n. AreOfLevel factor least run.level (take n (drop from sizes))) all is.level;
      few = omega (arith, few, is.rows ∙ ap (λ n. sum (take n (drop from sizes))) all);
    }

-- it comes before what comes first behind it, unless that has a lower level
pub run_first :
    (factor least : ℕ) (sizes : List ℕ) (from : ℕ) (run : Run) (behind : Option Candidate) → 0 < factor → IsMergeRun factor least (drop from sizes) run
    → factor ≤ run.count → run.rows ≤ row_limit → ((c : Candidate) → behind ≡ Some c → run.level ≤ c.level)
    → IsFirstFrom factor least sizes (from + 1) behind → IsFirstFrom factor least sizes from (Some (record { level = run.level; index = from }))
run_first factor least sizes from run behind some is full few low first = (
  full_run factor least sizes from run some is full few,
  λ level index le m. elim (at_or_behind from index le) [
    | inl here ↦ inr (sym (merged_run factor least sizes from level run some is (subst (λ i. IsMergeable factor least sizes level i) here m)).1, le)
    | inr far ↦ before behind low first level index far m
  ],
)
  where
    higher : (c : Candidate) (level index : ℕ) → from + 1 ≤ index → run.level ≤ c.level → IsFirst c.level c.index level index → IsFirst run.level from level index
    higher c level index far le (inl less) = inl (omega (arith, less, le))
    higher c level index far le (inr same) = elim (cases_lt run.level level) [
      | inl less ↦ inl less
      | inr more ↦ inr (omega (arith, more, le, same.0), omega (arith, far))
    ]

    before : (behind : Option Candidate) → ((c : Candidate) → behind ≡ Some c → run.level ≤ c.level) → IsFirstFrom factor least sizes (from + 1) behind
        → (level index : ℕ) → from + 1 ≤ index → IsMergeable factor least sizes level index → IsFirst run.level from level index
    before None low first level index far m = absurd (first level index far m)
    before (Some c) low first level index far m = higher c level index far (low c refl) (first.1 level index far m)

-- what comes first from the first segment on is the window
pub window_first : (factor least : ℕ) (sizes : List ℕ) (first : Option Candidate) → IsFirstFrom factor least sizes 0 first
    → IsWindow factor least sizes (option_map (λ c. c.index) first)
window_first factor least sizes None never = IsWindow.no_window (λ level index m. never level index (omega arith) m)
window_first factor least sizes (Some c) first = IsWindow.window c.level c.index first.0 (λ level index m. first.1 level index (omega arith) m)
