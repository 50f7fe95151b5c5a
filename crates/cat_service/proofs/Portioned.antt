-- What is told of the segments that stand, from the ledger's portions: how their live rows fall, and how many items there are.
use Rattle.std.proofs.Common.{◌≡◌, ℕ, suc, ◌+◌, ◌<◌, ◌≤◌, List, [], ◌∷◌, ◌++◌, length, map, take, drop, sum, zero, Bool, true, false, cond, refl, sym, ◌∙◌, ap, subst, arith, inl, inr}
use Rattle.std.specs.Prelude.{◌⊎◌, ◌&&◌, All, count_by, not, Ok}
use Rattle.std.specs.List.{AllByRecursion}
use Rattle.std.proofs.lemmas.List.{drop-drop, length-append, length-map, map-append, take-append-drop}
use Rattle.std.proofs.lemmas.List.Elements.{All-from_recursion}
use Rattle.std.proofs.lemmas.List.Sums.{sum_by-cons}
use Rattle.cat_model.specs.Item.{Record, Schema}
use Rattle.cat_model.specs.Run.{Answer, News, Reply, SegmentStat}
use Rattle.cat_model.specs.Standings.{LiveRowsFall}
use Rattle.cat_model.specs.View.{Leaf, row_of, selected}
use Rattle.cat_model.specs.Write.{Write, removes}
use Rattle.cat_ledger_laws.specs.model.Plans.{sizes_of}
use Rattle.cat_ledger_laws.specs.model.Portions.{IsMergingOf, Merging, Portion, Reduced, all_live, all_records, installed, leaf_of, live_after, live_records, lives_of, merged, portion_window_now, portions_after, records_of, settled}

-- ---- what is told

-- how many rows are live
abbrev lives : List Bool → ℕ
lives bs = count_by (λ b. b) bs

-- of a portion: its number, how many records it has, and how many of them are live
abbrev pub portion_told : Portion → SegmentStat
portion_told p = record { number = p.number; rows = length p.records; live = lives p.live }

abbrev pub portions_told : List Portion → List SegmentStat
portions_told ps = map portion_told ps

-- of the segment that a flush makes of so many items that wait
abbrev pub flushed_told : (next waiting : ℕ) → SegmentStat
flushed_told next waiting = record { number = next; rows = waiting; live = waiting }

-- Why the segments change, but for which merge ends. Live rows fall, and nothing else does; or before that one segment more came, of all that
-- waited where some did, under the next number; or some that stood side by side became one or none, as is told.
abbrev pub SegmentsGo : Reply → (old : List SegmentStat) → (next waiting : ℕ) → (new : List SegmentStat) → (after : ℕ) → Type 0
SegmentsGo r old next waiting new after = (mid : List SegmentStat) × LiveRowsFall mid new × ((mid ≡ old)
    ⊎ ((0 < waiting) × (mid ≡ old ++ flushed_told next waiting ∷ []) × (after ≡ next + 1))
    ⊎ ((front taken made back : List SegmentStat) × (r ≡ Ok (Answer.news News.done)) × (old ≡ front ++ (taken ++ back))
    × (mid ≡ front ++ (made ++ back)) × (0 < length taken) × (length made ≤ 1)))

-- ---- live rows fall

-- where the segments are the same, no row is lost
pub falls_not : (xs : List SegmentStat) → LiveRowsFall xs xs
falls_not [] = tt
falls_not (x ∷ xs) = (refl, refl, omega arith, falls_not xs)

pub same_falls : (ps qs : List Portion) → qs ≡ ps → LiveRowsFall (portions_told ps) (portions_told qs)
same_falls ps qs e = subst (λ xs. LiveRowsFall (portions_told ps) (portions_told xs)) (sym e) (falls_not (portions_told ps))

-- a live set's first row is live or not, and the rest are counted apart
counted : (b : Bool) (bs : List Bool) → lives (b ∷ bs) ≡ cond b 1 0 + lives bs
counted b bs = sum_by-cons (λ (x : Bool). cond x 1 0) b bs

fewer_with : (a b : Bool) (old new : List Bool) → lives new ≤ lives old → lives ((a && not b) ∷ new) ≤ lives (a ∷ old)
fewer_with true true old new h = let x = counted true old in let y = counted false new in omega (arith, x, y, h)
fewer_with true false old new h = let x = counted true old in let y = counted true new in omega (arith, x, y, h)
fewer_with false b old new h = let x = counted false old in let y = counted false new in omega (arith, x, y, h)

fewer : (w : Write) (bs : List Bool) (rs : List Record) → lives (live_after w bs rs) ≤ lives bs
fewer w [] rs = omega arith
fewer w (b ∷ bs) [] = omega arith
fewer w (b ∷ bs) (r ∷ rs) = fewer_with b (removes w r.item) bs (live_after w bs rs) (fewer w bs rs)

-- a write takes rows out at most
pub falls_after : (w : Write) (ps : List Portion) → LiveRowsFall (portions_told ps) (portions_told (portions_after w ps))
falls_after w [] = tt
falls_after w (p ∷ ps) = (refl, refl, fewer w p.live p.records, falls_after w ps)

-- ---- why segments change

-- the segments stay, or one more comes last, of all that waited where some did, under the next number
abbrev pub SegmentsFlow : (old : List SegmentStat) → (next waiting : ℕ) → (new : List SegmentStat) → (after : ℕ) → Type 0
SegmentsFlow old next waiting new after =
    (new ≡ old) ⊎ ((0 < waiting) × (new ≡ old ++ flushed_told next waiting ∷ []) × (after ≡ next + 1))

-- and behind that live rows fall, and the number stays taken
pub flow_goes : (r : Reply) (old mid new : List SegmentStat) (next waiting taken after : ℕ) → SegmentsFlow old next waiting mid taken
    → (taken ≡ next + 1 → after ≡ next + 1) → LiveRowsFall mid new → SegmentsGo r old next waiting new after
flow_goes r old mid new next waiting taken after flow stays falls = (mid, falls, elim flow [ inl same ↦ inl same | inr more ↦ inr (inl (more.0, more.1, stays more.2)) ])

-- ---- a flush

all_counted : (rs : List Record) → lives (map (λ (r : Record). true) rs) ≡ length rs
all_counted [] = refl
all_counted (r ∷ rs) = let a = counted true (map (λ (r : Record). true) rs) in let b = all_counted rs in omega (arith, a, b)

-- the new segment is told with all its rows live
pub told_flushed : (ps : List Portion) (n : ℕ) (rs : List Record)
    → portions_told (ps ++ all_live n rs ∷ []) ≡ portions_told ps ++ flushed_told n (length rs) ∷ []
told_flushed ps n rs =
    map-append portion_told ps (all_live n rs ∷ [])
    ∙ ap (λ k. portions_told ps ++ record { number = n; rows = length rs; live = k } ∷ []) (all_counted rs)

-- ---- a merge

reduced_length : (ps qs : List Portion) → Reduced ps qs → length qs ≡ length ps
reduced_length [] [] h = refl
reduced_length [] (q ∷ qs) h = absurd h
reduced_length (p ∷ ps) [] h = absurd h
reduced_length (p ∷ ps) (q ∷ qs) h = ap suc (reduced_length ps qs h.3)

-- what stands before a place, so many from there on, and the rest
parted : {X : Type 0} (n m : ℕ) (xs : List X) → xs ≡ take n xs ++ (take m (drop n xs) ++ drop (n + m) xs)
parted n m xs =
    sym (take-append-drop n xs)
    ∙ ap (λ ys. take n xs ++ ys) (sym (take-append-drop m (drop n xs)) ∙ ap (λ ys. take m (drop n xs) ++ ys) (drop-drop m n xs))

pub told_parts : (xs ys zs : List Portion) → portions_told (xs ++ (ys ++ zs)) ≡ portions_told xs ++ (portions_told ys ++ portions_told zs)
told_parts xs ys zs = map-append portion_told xs (ys ++ zs) ∙ ap (λ l. portions_told xs ++ l) (map-append portion_told ys zs)

one_at_most : (rs : List Record) (p : Portion) → length (merged rs p) ≤ 1
one_at_most [] p = omega arith
one_at_most (r ∷ rs) p = omega arith

pub rows_told : (ps : List Portion) → map (λ (x : SegmentStat). x.rows) (portions_told ps) ≡ sizes_of ps
rows_told [] = refl
rows_told (p ∷ ps) = ap (λ ns. length p.records ∷ ns) (rows_told ps)

pub rows_summed : (ps : List Portion) → length (all_records ps) ≡ sum (sizes_of ps)
rows_summed [] = refl
rows_summed (p ∷ ps) =
    let a = length-append p.records (all_records ps) in
    let b = sum_by-cons (λ (n : ℕ). n) (length p.records) (sizes_of ps) in
    let h = rows_summed ps in omega (arith, a, b, h)

-- segments in which rows were deleted have as many rows
reduced_sizes : (ps qs : List Portion) → Reduced ps qs → sizes_of qs ≡ sizes_of ps
reduced_sizes [] [] h = refl
reduced_sizes [] (q ∷ qs) h = absurd h
reduced_sizes (p ∷ ps) [] h = absurd h
reduced_sizes (p ∷ ps) (q ∷ qs) h = ap (λ (rs : List Record). length rs ∷ sizes_of qs) h.1 ∙ ap (λ ns. length p.records ∷ ns) (reduced_sizes ps qs h.3)

-- of the rows that the inputs have as many as the merge
pub taken_rows : (m : Merging) (ps : List Portion) → IsMergingOf ps m
    → sum (map (λ (x : SegmentStat). x.rows) (portions_told (portion_window_now m ps))) ≡ length (all_records m.inputs)
taken_rows m ps h =
    ap sum (rows_told (portion_window_now m ps) ∙ reduced_sizes m.inputs (portion_window_now m ps) h.stand) ∙ sym (rows_summed m.inputs)

fewer_taken : {X : Type 0} (n : ℕ) (xs : List X) → length (take n xs) ≤ length xs
fewer_taken zero xs = omega arith
fewer_taken (suc n) [] = omega arith
fewer_taken (suc n) (x ∷ xs) = let h = fewer_taken n xs in omega (arith, h)

fewer_selected : (bs : List Bool) (rs : List Record) → length (selected bs rs) ≤ length rs
fewer_selected [] rs = omega arith
fewer_selected (b ∷ bs) [] = omega arith
fewer_selected (true ∷ bs) (r ∷ rs) = let h = fewer_selected bs rs in omega (arith, h)
fewer_selected (false ∷ bs) (r ∷ rs) = let h = fewer_selected bs rs in omega (arith, h)

-- and no more rows are kept
kept_rows : (m : Merging) (ps : List Portion) → IsMergingOf ps m → length m.kept ≤ length (all_records m.inputs)
kept_rows m ps h =
    let a = ap length h.kept in
    let b = fewer_selected (take m.passed (lives_of m.inputs)) (take m.passed (all_records m.inputs)) in
    let d = fewer_taken m.passed (all_records m.inputs) in omega (arith, a, b, d)

made_of : (P : SegmentStat → Type 0) (rs : List Record) (p : Portion) → P (portion_told p) → All P (portions_told (merged rs p))
made_of P [] p h = All-from_recursion P [] tt
made_of P (r ∷ rs) p h = All-from_recursion P (portion_told p ∷ []) (h, tt)

-- the segment that is made has the merge's number, and no more rows
pub made_so : (m : Merging) (ps : List Portion) → IsMergingOf ps m
    → All (λ (x : SegmentStat). (x.number ≡ m.number) × (x.rows ≤ length (all_records m.inputs))) (portions_told (merged m.kept (settled m ps)))
made_so m ps h =
    made_of (λ (x : SegmentStat). (x.number ≡ m.number) × (x.rows ≤ length (all_records m.inputs))) m.kept (settled m ps) (refl, kept_rows m ps h)

-- what stands before the inputs, the inputs as they stand now, and the rest
pub parts_of : (m : Merging) (ps : List Portion) → portions_told ps
    ≡ portions_told (take m.index ps) ++ (portions_told (portion_window_now m ps) ++ portions_told (drop (m.index + length m.inputs) ps))
parts_of m ps =
    ap portions_told (parted m.index (length m.inputs) ps) ∙ told_parts (take m.index ps) (portion_window_now m ps) (drop (m.index + length m.inputs) ps)

pub some_taken : (m : Merging) (ps : List Portion) → IsMergingOf ps m → 0 < length (portions_told (portion_window_now m ps))
some_taken m ps h =
    let a = reduced_length m.inputs (portion_window_now m ps) h.stand in
    let b = length-map (portion_window_now m ps) portion_told in
    let d = h.some in omega (arith, a, b, d)

pub one_made : (m : Merging) (ps : List Portion) → length (portions_told (merged m.kept (settled m ps))) ≤ 1
one_made m ps =
    let a = one_at_most m.kept (settled m ps) in let b = length-map (merged m.kept (settled m ps)) portion_told in omega (arith, a, b)

-- the inputs, some that stand side by side, become one or none
pub merge_goes : (r : Reply) (m : Merging) (ps : List Portion) (next waiting after : ℕ) → r ≡ Ok (Answer.news News.done) → IsMergingOf ps m
    → SegmentsGo r (portions_told ps) next waiting (portions_told (installed m ps)) after
merge_goes r m ps next waiting after is h = (
  portions_told (installed m ps),
  falls_not (portions_told (installed m ps)),
  inr (inr (
    portions_told (take m.index ps),
    portions_told (portion_window_now m ps),
    portions_told (merged m.kept (settled m ps)),
    portions_told (drop (m.index + length m.inputs) ps),
    is,
    parts_of m ps,
    told_parts (take m.index ps) (merged m.kept (settled m ps)) (drop (m.index + length m.inputs) ps),
    some_taken m ps h,
    one_made m ps,
  )),
)

-- ---- of leaves and records

-- what is told of the leaf that a portion is seen as
abbrev told_of : Leaf → SegmentStat
told_of leaf = record { number = leaf.segment.number; rows = length leaf.segment.rows; live = lives leaf.live }

pub leaves_told : (schema : Schema) (ps : List Portion) → map told_of (map (leaf_of schema) ps) ≡ portions_told ps
leaves_told schema [] = refl
leaves_told schema (p ∷ ps) =
    ap (λ k. record { number = p.number; rows = k; live = lives p.live } ∷ map told_of (map (leaf_of schema) ps)) (length-map p.records row_of)
    ∙ ap (λ l. portion_told p ∷ l) (leaves_told schema ps)

length-selected : (bs : List Bool) (rs : List Record) → length bs ≡ length rs → length (selected bs rs) ≡ lives bs
length-selected [] rs e = refl
length-selected (b ∷ bs) [] e = absurd (omega (arith, e))
length-selected (true ∷ bs) (r ∷ rs) e = let h = length-selected bs rs (omega (arith, e)) in let a = counted true bs in omega (arith, h, a)
length-selected (false ∷ bs) (r ∷ rs) e = let h = length-selected bs rs (omega (arith, e)) in let a = counted false bs in omega (arith, h, a)

-- as many records are live as are told to be
pub live_told : (ps : List Portion) → AllByRecursion (λ (p : Portion). length p.live ≡ length p.records) ps
    → sum (map (λ (x : SegmentStat). x.live) (portions_told ps)) ≡ length (records_of ps)
live_told [] h = refl
live_told (p ∷ ps) h =
    let a = sum_by-cons (λ (n : ℕ). n) (lives p.live) (map (λ (x : SegmentStat). x.live) (portions_told ps)) in
    let b = length-append (live_records p) (records_of ps) in
    let d = length-selected p.live p.records h.0 in
    let e = live_told ps h.1 in omega (arith, a, b, d, e)
