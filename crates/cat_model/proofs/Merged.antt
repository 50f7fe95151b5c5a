-- What a merged segment shows.
use Rattle.std.proofs.Common.{◌≡◌, ℕ, suc, List, [], ◌∷◌, ◌++◌, length, map, take, sum, ◌≤◌, Bool, true, false, refl, sym, ◌∙◌, ap, ap₂, arith}
use Rattle.std.specs.List.{flat_map, AllByRecursion}
use Rattle.std.proofs.lemmas.List.{map-append, take-map}
use Rattle.std.proofs.lemmas.List.Elements.{recursion_from_All}
use Rattle.cat_model.specs.View.{Row, Leaf, row_of, selected, sourced, live_rows}
use Rattle.cat_model.specs.Merged.{LessLive, AreDeletedFrom, rows_of_all, live_of_all, records_of_all}
use Rattle.cat_model.specs.SegmentLaws.{MergedShowTheEnd, KeptAreSourced}
use Rattle.cat_model.proofs.Sources.{selected-map, rows-sourced}

pub marked-none : {A : Type 0} (bs : List Bool) → selected {A = A} bs [] ≡ []
marked-none [] = refl
marked-none (b ∷ bs) = refl

pub marked-append : {A : Type 0} (bs cs : List Bool) (xs ys : List A) → length bs ≡ length xs → selected (bs ++ cs) (xs ++ ys) ≡ selected bs xs ++ selected cs ys
marked-append [] cs [] ys e = refl
marked-append [] cs (x ∷ xs) ys e = absurd (omega (arith, e))
marked-append (b ∷ bs) cs [] ys e = absurd (omega (arith, e))
marked-append (true ∷ bs) cs (x ∷ xs) ys e = ap (λ l. x ∷ l) (marked-append bs cs xs ys (omega (arith, e)))
marked-append (false ∷ bs) cs (x ∷ xs) ys e = marked-append bs cs xs ys (omega (arith, e))

-- ---- live sets that lost rows

pub LessLive-length : (a b : List Bool) → LessLive a b → length a ≡ length b
LessLive-length [] [] h = refl
LessLive-length [] (c ∷ b) h = absurd h
LessLive-length (x ∷ a) [] h = absurd h
LessLive-length (x ∷ a) (c ∷ b) h = ap suc (LessLive-length a b h.1)

pub LessLive-append : (a b c d : List Bool) → LessLive a b → LessLive c d → LessLive (a ++ c) (b ++ d)
LessLive-append [] [] c d h k = k
LessLive-append [] (y ∷ b) c d h k = absurd h
LessLive-append (x ∷ a) [] c d h k = absurd h
LessLive-append (x ∷ a) (y ∷ b) c d h k = (h.0, LessLive-append a b c d h.1 k)

-- what was kept at the beginning, live where it is live now, is what is live now
pub settle : {A : Type 0} (a b : List Bool) (xs : List A) → LessLive a b → selected (selected a b) (selected a xs) ≡ selected b xs
settle [] [] xs h = refl
settle [] (y ∷ b) xs h = absurd h
settle (x ∷ a) [] xs h = absurd h
settle (x ∷ a) (y ∷ b) [] h = marked-none (selected (x ∷ a) (y ∷ b))
settle (true ∷ a) (true ∷ b) (z ∷ xs) h = ap (λ l. z ∷ l) (settle a b xs h.1)
settle (true ∷ a) (false ∷ b) (z ∷ xs) h = settle a b xs h.1
settle (false ∷ a) (true ∷ b) (z ∷ xs) h = absurd (let no : false ≡ true = h.0 refl in cc)
settle (false ∷ a) (false ∷ b) (z ∷ xs) h = settle a b xs h.1

-- ---- leaves

abbrev FullLeaf : Leaf → Type 0
FullLeaf leaf = length leaf.live ≡ length leaf.segment.rows

rows-live : (leaves : List Leaf) → AllByRecursion FullLeaf leaves → selected (live_of_all leaves) (rows_of_all leaves) ≡ flat_map live_rows leaves
rows-live [] a = refl
rows-live (x ∷ leaves) a = marked-append x.live (live_of_all leaves) x.segment.rows (rows_of_all leaves) a.0 ∙ ap (λ l. live_rows x ++ l) (rows-live leaves a.1)

deleted_rows : (before after : List Leaf) → AreDeletedFrom before after → rows_of_all after ≡ rows_of_all before
deleted_rows [] [] h = refl
deleted_rows [] (y ∷ after) h = absurd h
deleted_rows (x ∷ before) [] h = absurd h
deleted_rows (x ∷ before) (y ∷ after) h = ap₂ (λ (a b : List Row). a ++ b) (ap (λ s. s.rows) h.0) (deleted_rows before after h.2)

deleted_live : (before after : List Leaf) → AreDeletedFrom before after → LessLive (live_of_all before) (live_of_all after)
deleted_live [] [] h = tt
deleted_live [] (y ∷ after) h = absurd h
deleted_live (x ∷ before) [] h = absurd h
deleted_live (x ∷ before) (y ∷ after) h = LessLive-append x.live y.live (live_of_all before) (live_of_all after) h.1 (deleted_live before after h.2)

deleted_full : (before after : List Leaf) → AreDeletedFrom before after → AllByRecursion FullLeaf before → AllByRecursion FullLeaf after
deleted_full [] [] h a = tt
deleted_full [] (y ∷ after) h a = absurd h
deleted_full (x ∷ before) [] h a = absurd h
deleted_full (x ∷ before) (y ∷ after) h a = (sym (LessLive-length x.live y.live h.1) ∙ a.0 ∙ ap (λ s. length s.rows) (sym h.0), deleted_full before after h.2 a.1)

pub merged_show_the_end : MergedShowTheEnd
merged_show_the_end number schema before after full h =
    let a : AllByRecursion FullLeaf before = recursion_from_All FullLeaf before full in
    ap (selected (selected (live_of_all before) (live_of_all after))) (sym (rows-live before a))
    ∙ settle (live_of_all before) (live_of_all after) (rows_of_all before) (deleted_live before after h)
    ∙ ap (selected (live_of_all after)) (sym (deleted_rows before after h))
    ∙ rows-live after (deleted_full before after h a)

-- ---- with their sources

all_sourced : (files : ℕ → List ℕ) (leaves : List Leaf) → AllByRecursion (λ leaf. sum (map (λ (r : Row). r.length) leaf.segment.rows) ≤ length (files leaf.segment.number)) leaves
    → map row_of (records_of_all files leaves) ≡ rows_of_all leaves
all_sourced files [] h = refl
all_sourced files (x ∷ leaves) h =
    map-append row_of (sourced x.segment.rows (files x.segment.number)) (records_of_all files leaves)
    ∙ ap₂ (λ (a b : List Row). a ++ b) (rows-sourced x.segment.rows (files x.segment.number) h.0) (all_sourced files leaves h.1)

pub kept_are_sourced : KeptAreSourced
kept_are_sourced files inputs passed h =
    selected-map row_of (take passed (live_of_all inputs)) (take passed (records_of_all files inputs))
    ∙ ap (selected (take passed (live_of_all inputs)))
    (sym (take-map row_of passed (records_of_all files inputs)) ∙ ap (take passed) (all_sourced files inputs (recursion_from_All _ inputs h)))
