-- Live sets of kept rows, settled one by one.
use Rattle.std.proofs.Common.{◌≡◌, ℕ, zero, suc, ◌+◌, ◌-◌, ◌<◌, ◌≤◌, Bool, true, false, List, [], ◌∷◌, ◌++◌, length, take, replicate, get_or, set, refl, sym, ap, ap₂, ◌∙◌, arith}
use Rattle.std.specs.Prelude.{All, count_by, if◌then◌else◌}
use Rattle.std.specs.List.{flat_map}
use Rattle.std.proofs.Math.Seq.{take-nil}
use Rattle.std.proofs.lemmas.List.{append_assoc, length-append, length-replicate, get_or_at, set_at, append-nil, length-take-le, take_all, take_at}
use Rattle.std.proofs.lemmas.List.Elements.{All-take}
use Rattle.cat_model.specs.RowSets.{has_row}
use Rattle.cat_model.specs.Merged.{rows_of_all, live_of_all, AreDeletedFrom}
use Rattle.cat_model.specs.View.{Leaf, live_rows, selected}
use Rattle.cat_merge.specs.Merging.{with_live}
use Rattle.cat_merge.specs.Places.{no_leaf}
use Rattle.cat_merge.specs.Walk.{AreInputs}
use Rattle.cat_model.proofs.Merged.{marked-none, marked-append, LessLive-length}
use Rattle.cat_merge.proofs.Passed.{selected_more, flat_more, front_long, length-selected, length-live_of_all, rows-live}

-- ---- the rows before the one that is settled, and those behind it

replicate_one : (n : ℕ) → 0 < n → replicate n true ≡ true ∷ replicate (n - 1) true
replicate_one n some = ap (λ k. replicate k true) (let e : n ≡ suc (n - 1) = omega (arith, some) in e)

split : (front settled : List Bool) (n : ℕ) → 0 < n → front ++ (settled ++ replicate n true) ≡ (front ++ settled) ++ true ∷ replicate (n - 1) true
split front settled n some = sym (append_assoc front settled (replicate n true)) ∙ ap (λ l. (front ++ settled) ++ l) (replicate_one n some)

pub settles_within : (front settled live : List Bool) (n next : ℕ) → 0 < n → live ≡ front ++ (settled ++ replicate n true) → next ≡ length front + length settled → next < length live
settles_within front settled live n next some is at =
    omega (arith, at, some, ap length is, length-append front (settled ++ replicate n true), length-append settled (replicate n true), length-replicate n true)

pub settles_live : (front settled live : List Bool) (n next : ℕ) → 0 < n → live ≡ front ++ (settled ++ replicate n true) → next ≡ length front + length settled
    → has_row live next ≡ true
settles_live front settled live n next some is at =
    ap (λ l. has_row l next) (is ∙ split front settled n some)
    ∙ get_or_at (front ++ settled) true (replicate (n - 1) true) false next (length-append front settled ∙ sym at)

pub settles : (front settled live after : List Bool) (n next : ℕ) (b : Bool) → 0 < n → live ≡ front ++ (settled ++ replicate n true) → next ≡ length front + length settled
    → after ≡ set live next b → after ≡ front ++ ((settled ++ b ∷ []) ++ replicate (n - 1) true)
settles front settled live after n next b some is at e =
    e ∙ ap (λ l. set l next b) (is ∙ split front settled n some)
    ∙ set_at (front ++ settled) true (replicate (n - 1) true) b next (length-append front settled ∙ sym at)
    ∙ append_assoc front settled (b ∷ replicate (n - 1) true)
    ∙ ap (λ l. front ++ l) (sym (append_assoc settled (b ∷ []) (replicate (n - 1) true)))

-- ---- the rows of one input

-- the front of a live set
pub front_is : (live : List Bool) (first : ℕ) → first ≤ length live → length (take first live) ≡ first
front_is live first le = length-take-le first live le

-- no more rows are kept of the first ones than of all
kept_front : (before now : List Bool) (k : ℕ) → length (selected (take k before) (take k now)) ≤ length (selected before now)
kept_front [] now k = omega (arith, ap (λ (l : List Bool). length (selected l (take k now))) (take-nil k))
kept_front (b ∷ before) [] k = omega (arith, ap (λ (l : List Bool). length (selected (take k (b ∷ before)) l)) (take-nil k), ap length (marked-none {A = Bool} (take k (b ∷ before))))
kept_front (b ∷ before) (c ∷ now) zero = omega arith
kept_front (true ∷ before) (c ∷ now) (suc k) = omega (arith, kept_front before now k)
kept_front (false ∷ before) (c ∷ now) (suc k) = kept_front before now k

module _ (before now : List Bool) (long : length now ≡ length before) (row : ℕ) (within : row < length before) where
  abbrev so_far : List Bool
  so_far = selected (take row before) (take row now)

  abbrev one_more : List Bool
  one_more = selected (take (row + 1) before) (take (row + 1) now)

  pub one_kept : has_row before row ≡ true → one_more ≡ so_far ++ has_row now row ∷ []
  one_kept is =
      selected_more before now row false (sym long) (omega (arith, within, long))
      ∙ ap (λ b. so_far ++ (if b then has_row now row ∷ [] else [])) is

  pub none_kept : has_row before row ≡ false → one_more ≡ so_far
  none_kept is =
      selected_more before now row false (sym long) (omega (arith, within, long))
      ∙ ap (λ b. so_far ++ (if b then has_row now row ∷ [] else [])) is ∙ append-nil so_far

  -- where one more is kept, there is room for it
  pub room_left : (first next all : ℕ) → has_row before row ≡ true → next ≡ first + length so_far → first + length (selected before now) ≤ all → 0 < all - next
  room_left first next all is at room =
      let grown : length one_more ≡ length so_far + 1 = ap length (one_kept is) ∙ length-append so_far (has_row now row ∷ []) in
      omega (arith, at, room, kept_front before now (row + 1), grown)

  -- with the row settled
  pub row_settled : (front live after : List Bool) (first next all : ℕ) → has_row before row ≡ true → length front ≡ first → next ≡ first + length so_far
      → first + length (selected before now) ≤ all → live ≡ front ++ (so_far ++ replicate (all - next) true) → after ≡ set live next (has_row now row)
      → after ≡ front ++ (one_more ++ replicate (all - (next + 1)) true)
  row_settled front live after first next all is long' at room e f =
      settles front so_far live after (all - next) next (has_row now row) (room_left first next all is at room) e (omega (arith, at, long')) f
      ∙ ap₂ (λ (l : List Bool) (n : ℕ). front ++ (l ++ replicate n true)) (sym (one_kept is)) (omega arith)

-- ---- the live sets of all inputs

-- there is one for each input, as long as that of the beginning
pub deleted_at : (inputs : List Leaf) (lives : List (List Bool)) → AreDeletedFrom inputs (with_live inputs lives) → (i : ℕ) → i < length inputs
    → (i < length lives) × (length (get_or lives i []) ≡ length (get_or inputs i no_leaf).live)
deleted_at [] lives h i lt = absurd (omega (arith, lt))
deleted_at (x ∷ inputs) [] h i lt = absurd h
deleted_at (x ∷ inputs) (l ∷ lives) h zero lt = (omega arith, sym (LessLive-length x.live l h.1))
deleted_at (x ∷ inputs) (l ∷ lives) h (suc i) lt =
    let later : (i < length lives) × (length (get_or lives i []) ≡ length (get_or inputs i no_leaf).live) = deleted_at inputs lives h.2 i (omega (arith, lt)) in
    (omega (arith, later.0), later.1)

live_of_all-with_live : (inputs : List Leaf) (lives : List (List Bool)) → live_of_all (with_live inputs lives) ≡ flat_map (λ l. l) (take (length inputs) lives)
live_of_all-with_live [] lives = refl
live_of_all-with_live (x ∷ inputs) [] = refl
live_of_all-with_live (x ∷ inputs) (l ∷ lives) = ap (λ r. l ++ r) (live_of_all-with_live inputs lives)

-- of the first inputs, the rows kept that are live now
abbrev pub settled_of : List Leaf → List (List Bool) → ℕ → List Bool
settled_of inputs lives i = selected (live_of_all (take i inputs)) (flat_map (λ l. l) (take i lives))

pub settled_all : (inputs : List Leaf) (lives : List (List Bool)) (i : ℕ) → i ≡ length inputs → settled_of inputs lives i ≡ selected (live_of_all inputs) (live_of_all (with_live inputs lives))
settled_all inputs lives i end =
    ap₂ (λ (a : List Leaf) (b : List Bool). selected (live_of_all a) b) (take_all i inputs (omega (arith, end)))
    (ap (λ n. flat_map (λ l. l) (take n lives)) end ∙ sym (live_of_all-with_live inputs lives))

-- the fronts of both are as long
fronts_long : (inputs : List Leaf) (lives : List (List Bool)) (i : ℕ) → ((k : ℕ) → k < length inputs → (k < length lives) × (length (get_or lives k []) ≡ length (get_or inputs k no_leaf).live))
    → i ≤ length inputs → length (live_of_all (take i inputs)) ≡ length (flat_map {X = List Bool} (λ l. l) (take i lives))
fronts_long inputs lives zero each le = refl
fronts_long [] lives (suc i) each le = absurd (omega (arith, le))
fronts_long (x ∷ inputs) [] (suc i) each le = absurd (omega (arith, (each 0 (omega arith)).0))
fronts_long (x ∷ inputs) (l ∷ lives) (suc i) each le =
    length-append x.live (live_of_all (take i inputs))
    ∙ ap₂ (λ (a b : ℕ). a + b) (sym (each 0 (omega arith)).1) (fronts_long inputs lives i (λ k lt. let next : (suc k < suc (length lives)) × (length (get_or lives k []) ≡ length (get_or inputs k no_leaf).live) = each (suc k) (omega (arith, lt)) in (omega (arith, next.0), next.1)) (omega (arith, le)))
    ∙ sym (length-append l (flat_map (λ l. l) (take i lives)))

-- as many rows are live as there are in the live sets
pub length-live_rows : (leaves : List Leaf) → All (λ leaf. length leaf.live ≡ length leaf.segment.rows) leaves → length (flat_map live_rows leaves) ≡ count_by (λ b. b) (live_of_all leaves)
length-live_rows leaves full =
    ap length (sym (rows-live leaves full)) ∙ length-selected (live_of_all leaves) (rows_of_all leaves) (length-live_of_all leaves full)

module _ (inputs : List Leaf) (lives : List (List Bool)) (h : AreDeletedFrom inputs (with_live inputs lives)) (i : ℕ) (lt : i < length inputs) where
  abbrev before : List Bool
  before = (get_or inputs i no_leaf).live

  abbrev now : List Bool
  now = get_or lives i []

  pub settled_more : settled_of inputs lives (i + 1) ≡ settled_of inputs lives i ++ selected before now
  settled_more =
      ap₂ (λ (a b : List Bool). selected a b) (flat_more (λ (leaf : Leaf). leaf.live) inputs i no_leaf lt) (flat_more {X = List Bool} (λ l. l) lives i [] (deleted_at inputs lives h i lt).0)
      ∙ marked-append (live_of_all (take i inputs)) before (flat_map (λ l. l) (take i lives)) now
      (fronts_long inputs lives i (deleted_at inputs lives h) (omega (arith, lt)))

  -- no more are kept than of all
  pub settled_few : AreInputs inputs → length (settled_of inputs lives i) + length (selected before now) ≤ length (flat_map live_rows inputs)
  settled_few are =
      let all : List Leaf = take (i + 1) inputs in
      let same : length (settled_of inputs lives (i + 1)) ≡ length (settled_of inputs lives i) + length (selected before now)
      = ap length settled_more ∙ length-append (settled_of inputs lives i) (selected before now) in
      let lived : length (settled_of inputs lives (i + 1)) ≡ count_by (λ b. b) (live_of_all all)
      = length-selected (live_of_all all) (flat_map (λ l. l) (take (i + 1) lives)) (fronts_long inputs lives (i + 1) (deleted_at inputs lives h) (omega (arith, lt))) in
      let rows : length (flat_map live_rows all) ≡ count_by (λ b. b) (live_of_all all) = length-live_rows all (All-take (λ leaf. length leaf.live ≡ length leaf.segment.rows) (i + 1) inputs are.live) in
      omega (arith, same, lived, rows, front_long live_rows inputs (i + 1))

  -- ---- with the rows of this input settled
  module _ (are : AreInputs inputs) (live : List Bool) (next : ℕ) (at : next ≡ length (settled_of inputs lives i))
      (is : live ≡ settled_of inputs lives i ++ replicate (length (flat_map live_rows inputs) - next) true) where
    pub input_long : length live ≡ length (flat_map live_rows inputs)
    input_long =
        omega (
          arith,
          ap length is,
          length-append (settled_of inputs lives i) (replicate (length (flat_map live_rows inputs) - next) true),
          length-replicate (length (flat_map live_rows inputs) - next) true,
          at,
          settled_few are,
        )

    pub input_room : next + length (selected before now) ≤ length live
    input_room = omega (arith, at, settled_few are, input_long)

    pub input_settled : (end : ℕ) (after : List Bool) → end ≡ next + length (selected before now)
        → after ≡ take next live ++ (selected before now ++ replicate (length live - end) true)
        → (end ≡ length (settled_of inputs lives (i + 1))) × (after ≡ settled_of inputs lives (i + 1) ++ replicate (length (flat_map live_rows inputs) - end) true)
    input_settled end after e f =
        let more : settled_of inputs lives (i + 1) ≡ settled_of inputs lives i ++ selected before now = settled_more in
        let rest : List Bool = replicate (length live - end) true in (
          omega (arith, e, at, ap length more, length-append (settled_of inputs lives i) (selected before now)),
          f ∙ ap (λ l. l ++ (selected before now ++ rest)) (ap (take next) is ∙ take_at (settled_of inputs lives i) (replicate (length (flat_map live_rows inputs) - next) true) next (sym at))
              ∙ sym (append_assoc (settled_of inputs lives i) (selected before now) rest)
              ∙ ap₂ (λ (a : List Bool) (n : ℕ). a ++ replicate (n - end) true) (sym more) input_long,
        )

-- at the end all are
pub settled_end : (inputs : List Leaf) (lives : List (List Bool)) (i next : ℕ) (live : List Bool) → AreInputs inputs → AreDeletedFrom inputs (with_live inputs lives) → i ≡ length inputs
    → next ≡ length (settled_of inputs lives i) → live ≡ settled_of inputs lives i ++ replicate (length (flat_map live_rows inputs) - next) true
    → live ≡ selected (live_of_all inputs) (live_of_all (with_live inputs lives))
settled_end inputs lives i next live are h end at is =
    let whole : List Leaf = take i inputs in
    let lived : length (settled_of inputs lives i) ≡ count_by (λ b. b) (live_of_all whole)
    = length-selected (live_of_all whole) (flat_map (λ l. l) (take i lives)) (fronts_long inputs lives i (deleted_at inputs lives h) (omega (arith, end))) in
    let rows : length (flat_map live_rows inputs) ≡ count_by (λ b. b) (live_of_all inputs) = length-live_rows inputs are.live in
    let same : whole ≡ inputs = take_all i inputs (omega (arith, end)) in
    let none : length (flat_map live_rows inputs) - next ≡ 0 = omega (arith, at, lived, rows, ap (λ l. count_by (λ b. b) (live_of_all l)) same) in
    is ∙ ap (λ n. settled_of inputs lives i ++ replicate n true) none ∙ append-nil (settled_of inputs lives i) ∙ settled_all inputs lives i end
