-- Rows in the order of their writes, segment by segment.
use Rattle.std.proofs.Common.{◌≡◌, ℕ, zero, suc, ◌+◌, ◌-◌, ◌<◌, ◌≤◌, List, [], ◌∷◌, ◌++◌, length, get_or, take, drop, sym, ◌∙◌, ap, arith, inl, inr, append-nil}
use Rattle.std.specs.Prelude.{All, AllPairs}
use Rattle.std.specs.List.{HoldsAt, AllByRecursion}
use Rattle.std.proofs.lemmas.Bool.Decides.{eqb_tells}
use Rattle.std.proofs.lemmas.List.{take_more, take-append-drop}
use Rattle.std.proofs.lemmas.List.Elements.{All-from_recursion, recursion_from_All}
use Rattle.std.proofs.lemmas.Grind.{flat_map-append}
use Rattle.std.proofs.Math.Seq.{drop-cons}
use Rattle.cat_model.specs.View.{Row, Leaf}
use Rattle.cat_model.specs.Merged.{rows_of_all}
use Rattle.cat_model.proofs.Lists.{All-weaken}
use Rattle.cat_ledger_laws.specs.model.Portions.{Apart}
use Rattle.cat_ledger_laws.proofs.model.Users.{All-split, Apart-split, Apart-join}
use Rattle.cat_ledger_laws.proofs.model.Commits.{AllPairs-from_Apart}
use Rattle.cat_commits.specs.reading.Judged.{AreInOrder}

pub Apart-from_AllPairs : {X : Type 0} (R : X → X → Type 0) (xs : List X) → AllPairs R xs → Apart R xs
Apart-from_AllPairs R [] h = tt
Apart-from_AllPairs R (x ∷ xs) h = (
  recursion_from_All (R x) xs (λ k d lt. h zero (suc k) d (omega arith) (omega arith)),
  Apart-from_AllPairs R xs (λ i j d l m. h (suc i) (suc j) d (omega arith) (omega arith)),
)

pub All-join : {X : Type 0} (P : X → Type 0) (xs ys : List X) → AllByRecursion P xs → AllByRecursion P ys → AllByRecursion P (xs ++ ys)
All-join P [] ys a b = b
All-join P (x ∷ xs) ys a b = (a.0, All-join P xs ys a.1 b)

-- Numbers rise over the rows, up to `last`, which is the least bound of them.
pub record Ordered (last : ℕ) (rows : List Row) : Type 0 where
  pub rising : Apart (λ a b. a.number < b.number) rows
  pub below : AllByRecursion (λ r. r.number ≤ last) rows
  pub least : (bound : ℕ) → AllByRecursion (λ r. r.number ≤ bound) rows → last ≤ bound

-- the rows of one segment, from its first number to its last
pub record Between (first last : ℕ) (rows : List Row) : Type 0 where
  pub some : 1 ≤ first
  pub rising : Apart (λ a b. a.number < b.number) rows
  pub low : AllByRecursion (λ r. first ≤ r.number) rows
  pub high : AllByRecursion (λ r. r.number ≤ last) rows
  pub first_there : (bound : ℕ) → AllByRecursion (λ r. bound < r.number) rows → bound < first
  pub last_there : (bound : ℕ) → AllByRecursion (λ r. r.number ≤ bound) rows → last ≤ bound
  pub up : first ≤ last

pub no_rows : Ordered 0 []
no_rows = record { rising = tt; below = tt; least = λ bound h. omega arith }

low_at : (rows : List Row) (first : ℕ) → AllPairs (λ a b. a.number < b.number) rows → HoldsAt (λ r. r.number ≡ first) rows 0
    → (k : ℕ) (d : Row) → k < length rows → first ≤ (get_or rows k d).number
low_at rows first rising at zero d lt = omega (arith, at d)
low_at rows first rising at (suc k) d lt = omega (arith, at d, rising zero (suc k) d (omega arith) lt)

high_at : (rows : List Row) (last n : ℕ) → AllPairs (λ a b. a.number < b.number) rows → HoldsAt (λ r. r.number ≡ last) rows n → n < length rows
    → (k : ℕ) (d : Row) → k < suc n → (get_or rows k d).number ≤ last
high_at rows last n rising at long k d lt = elim (eqb_tells k n) [
  | inl e ↦ let same : (get_or rows k d).number ≡ (get_or rows n d).number = ap (λ (m : ℕ). (get_or rows m d).number) e.1 in omega (arith, at d, same)
  | inr e ↦ let less : k < n = omega (arith, e.1) in omega (arith, at d, rising k n d less long)
]

pub between : (rows : List Row) (first last : ℕ) → 1 ≤ length rows → All (λ r. 1 ≤ r.number) rows → AllPairs (λ a b. a.number < b.number) rows
    → HoldsAt (λ r. r.number ≡ first) rows 0 → HoldsAt (λ r. r.number ≡ last) rows (length rows - 1) → Between first last rows
between [] first last some positive rising at end = absurd (omega (arith, some))
between (row ∷ rows) first last some positive rising at end =
    let n : ℕ = length (row ∷ rows) - 1 in
    let long : n < length (row ∷ rows) = omega (arith, some) in
    record {
      some = omega (arith, at row, positive zero row (omega (arith, some)));
      rising = Apart-from_AllPairs (λ a b. a.number < b.number) (row ∷ rows) rising;
      low = recursion_from_All (λ r. first ≤ r.number) (row ∷ rows) (low_at (row ∷ rows) first rising at);
      high = recursion_from_All (λ r. r.number ≤ last) (row ∷ rows) (λ k d lt. high_at (row ∷ rows) last n rising end long k d (omega arith));
      first_there = λ bound h. omega (arith, at row, h.0);
      last_there = λ bound h. omega (arith, end row, All-from_recursion (λ r. r.number ≤ bound) (row ∷ rows) h n row long);
      up = omega (arith, at row, high_at (row ∷ rows) last n rising end long zero row (omega arith));
    }

-- a segment more, whose first number is above all before
pub ordered_more : (last first end : ℕ) (rows more : List Row) → Ordered last rows → Between first end more → last < first → Ordered end (rows ++ more)
ordered_more last first end rows more o b above =
    let up : last ≤ end = omega (arith, b.up, above) in
    record {
      rising = Apart-join (λ a b. a.number < b.number) rows more o.rising b.rising
          (All-weaken (λ (r : Row). r.number ≤ last) (λ r. AllByRecursion (λ s. r.number < s.number) more)
          (λ r h. All-weaken (λ (s : Row). first ≤ s.number) (λ s. r.number < s.number) (λ s k. omega (arith, h, k, above)) more b.low) rows o.below);
      below = All-join (λ r. r.number ≤ end) rows more
          (All-weaken (λ (r : Row). r.number ≤ last) (λ r. r.number ≤ end) (λ r h. omega (arith, h, up)) rows o.below) b.high;
      least = λ bound h. b.last_there bound (All-split (λ (r : Row). r.number ≤ bound) rows more h).1;
    }

-- how the rows of a segment begin
pub starts : (rows : List Row) (first : ℕ) → 1 ≤ length rows → All (λ r. 1 ≤ r.number) rows → HoldsAt (λ r. r.number ≡ first) rows 0
    → (1 ≤ first) × ((bound : ℕ) → AllByRecursion (λ r. bound < r.number) rows → bound < first)
starts [] first some positive at = absurd (omega (arith, some))
starts (row ∷ rows) first some positive at = (omega (arith, at row, positive zero row (omega (arith, some))), λ bound h. omega (arith, at row, h.0))

-- a segment whose first number isn't
pub not_ordered : (last first : ℕ) (rows more rest : List Row) → Ordered last rows → 1 ≤ first → ((bound : ℕ) → AllByRecursion (λ (r : Row). bound < r.number) more → bound < first)
    → (last < first → ⊥) → AllPairs (λ a b. a.number < b.number) (rows ++ (more ++ rest)) → ⊥
not_ordered last first rows more rest o some there low rising =
    let all = Apart-split (λ (a b : Row). a.number < b.number) rows (more ++ rest) (Apart-from_AllPairs (λ (a b : Row). a.number < b.number) (rows ++ (more ++ rest)) rising) in
    let below : AllByRecursion (λ (r : Row). r.number ≤ first - 1) rows =
    All-weaken (λ (r : Row). AllByRecursion (λ s. r.number < s.number) (more ++ rest)) (λ r. r.number ≤ first - 1)
    (λ r h. omega (arith, there r.number (All-split (λ (s : Row). r.number < s.number) more rest h).0)) rows all.2 in
    low (omega (arith, o.least (first - 1) below, some))

-- ---- of leaves

pub rows_more : (leaves : List Leaf) (i : ℕ) (leaf : Leaf) → i < length leaves → get_or leaves i leaf ≡ leaf
    → rows_of_all (take (i + 1) leaves) ≡ rows_of_all (take i leaves) ++ leaf.segment.rows
rows_more leaves i leaf lt is =
    ap rows_of_all (take_more leaves i leaf lt) ∙ flat_map-append (λ (l : Leaf). l.segment.rows) (take i leaves) (get_or leaves i leaf ∷ [])
    ∙ ap (λ (l : Leaf). rows_of_all (take i leaves) ++ (l.segment.rows ++ [])) is ∙ ap (λ rs. rows_of_all (take i leaves) ++ rs) (append-nil leaf.segment.rows)

pub rows_all : (leaves : List Leaf) (i : ℕ) (leaf : Leaf) → i < length leaves → get_or leaves i leaf ≡ leaf
    → rows_of_all leaves ≡ rows_of_all (take i leaves) ++ (leaf.segment.rows ++ rows_of_all (drop (suc i) leaves))
rows_all leaves i leaf lt is =
    ap rows_of_all (sym (take-append-drop i leaves)) ∙ flat_map-append (λ (l : Leaf). l.segment.rows) (take i leaves) (drop i leaves)
    ∙ ap (λ ls. rows_of_all (take i leaves) ++ rows_of_all ls) (drop-cons leaves i leaf lt ∙ ap (λ l. l ∷ drop (suc i) leaves) is)

-- all rows are ordered, and the last number is compared to the token
pub in_order_by : (last token : ℕ) (rows : List Row) → Ordered last rows → last ≤ token → AreInOrder token rows
in_order_by last token rows o low = record {
  rising = AllPairs-from_Apart (λ a b. a.number < b.number) rows o.rising;
  seen = All-from_recursion (λ r. r.number ≤ token) rows (All-weaken (λ (r : Row). r.number ≤ last) (λ r. r.number ≤ token) (λ r h. omega (arith, h, low)) rows o.below);
}

pub last_in : (last token : ℕ) (rows : List Row) → Ordered last rows → AreInOrder token rows → last ≤ token
last_in last token rows o k = o.least token (recursion_from_All (λ r. r.number ≤ token) rows k.seen)
