-- What a merge makes of segments (SegmentMerger; IndexWriter.commitMerge, which carries over the deletes that came meanwhile).
use Rattle.std.specs.Prelude.{◌≡◌, ℕ, true, Bool, List, [], ◌∷◌, take}
use Rattle.std.specs.List.{flat_map}
use Rattle.cat_model.specs.Item.{Schema, Record}
use Rattle.cat_model.specs.View.{Row, Leaf, live_rows, selected, sourced}

-- all rows of the inputs one after the other, deleted ones too
abbrev pub rows_of_all : List Leaf → List Row
rows_of_all inputs = flat_map (λ leaf. leaf.segment.rows) inputs

-- which of them are live
abbrev pub live_of_all : List Leaf → List Bool
live_of_all inputs = flat_map (λ leaf. leaf.live) inputs

-- the rows that are kept of the first so many: those that were live at the beginning
abbrev pub rows_kept : List Leaf → ℕ → List Row
rows_kept inputs passed = selected (take passed (live_of_all inputs)) (take passed (rows_of_all inputs))

-- all records of the inputs, where the files with the sources of their rows hold these bytes, by the numbers of the segments
abbrev pub records_of_all : (ℕ → List ℕ) → List Leaf → List Record
records_of_all files inputs = flat_map (λ leaf. sourced leaf.segment.rows (files leaf.segment.number)) inputs

-- the records that are kept of the first so many
abbrev pub records_kept : (ℕ → List ℕ) → List Leaf → ℕ → List Record
records_kept files inputs passed = selected (take passed (live_of_all inputs)) (take passed (records_of_all files inputs))

-- the new segment beside its live set: the rows that were live at the beginning, and live those that are so at the end
abbrev pub merged_leaf : ℕ → Schema → List Leaf → List Leaf → Leaf
merged_leaf number schema before after = record {
  segment = record { number = number; schema = schema; rows = flat_map live_rows before };
  live = selected (live_of_all before) (live_of_all after);
}

-- the second live set has as many values, and none live that the first has dead
abbrev pub LessLive : List Bool → List Bool → Type 0
LessLive [] [] = Unit {0}
LessLive [] (c ∷ after) = ⊥
LessLive (b ∷ before) [] = ⊥
LessLive (b ∷ before) (c ∷ after) = (c ≡ true → b ≡ true) × LessLive before after

-- the inputs at the end: the same segments, with rows deleted at most
abbrev pub AreDeletedFrom : List Leaf → List Leaf → Type 0
AreDeletedFrom [] [] = Unit {0}
AreDeletedFrom [] (y ∷ after) = ⊥
AreDeletedFrom (x ∷ before) [] = ⊥
AreDeletedFrom (x ∷ before) (y ∷ after) = (y.segment ≡ x.segment) × LessLive x.live y.live × AreDeletedFrom before after
