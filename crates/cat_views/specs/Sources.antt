-- The stored sources of the rows of a view.
use Rattle.std.specs.Prelude.{◌≡◌, ◌≢◌, ◌+◌, ◌≤◌, ◌<◌, ℕ, Bool, true, List, length, map, take, drop, slice_index, Option, Some, None, option_map, find, All, Contains}
use Rattle.std.specs.List.{flat_map, list_any, HoldsAt}
use Rattle.cat_model.specs.Answer.{HasNoLineFeed, stored}
use Rattle.cat_model.specs.RowSets.{has_row}
use Rattle.cat_model.specs.Text.{Text, same_text}
use Rattle.cat_model.specs.View.{Row, Leaf, View, IsSegment, live_rows, records_in, selected, sourced}
use Rattle.cat_segment.specs.Sources.{source_offset}
use Rattle.cat_directory.specs.Devices.{Told}
use Rattle.cat_directory.specs.declared.name.FileName.{FileName}
use Rattle.cat_directory.specs.declared.name.FileName.TheVariants as file

-- the row has the id
abbrev pub has_id : Text → Row → Bool
has_id id row = same_text row.id id

-- some live row of the leaf has the id
abbrev pub has_live : Text → Leaf → Bool
has_live id leaf = list_any (has_id id) (live_rows leaf)

-- the length of the text that the live row of this id came as
abbrev pub length_in : List Leaf → Text → Option ℕ
length_in leaves id = option_map (λ row. row.length) (find (has_id id) (flat_map live_rows leaves))

abbrev pub stored_length : View → Text → Option ℕ
stored_length view id = length_in view.leaves id

-- the length of the text that the row of this index came as
abbrev pub length_at : Leaf → ℕ → ℕ
length_at leaf row = slice_index (map (λ r. r.length) leaf.segment.rows) row

-- the source of the row of this index, where files hold the sources of the segments' rows, by the segments' numbers
abbrev pub source_of_row : (ℕ → List ℕ) → Leaf → ℕ → Text
source_of_row files leaf row = take (length_at leaf row) (drop (source_offset leaf.segment.rows row) (files leaf.segment.number))

-- the source of the live row of this id
abbrev pub stored_in : (ℕ → List ℕ) → List Leaf → Text → Option Text
stored_in files leaves id = stored (flat_map (λ leaf. selected leaf.live (sourced leaf.segment.rows (files leaf.segment.number))) leaves) id

-- the row of this index is live in the leaf, and has the id
pub record IsLiveIn (id : Text) (leaf : Leaf) (row : ℕ) : Type 0 where
  pub within : row < length leaf.segment.rows
  pub named : HoldsAt (λ r. r.id ≡ id) leaf.segment.rows row
  pub live : has_row leaf.live row ≡ true
  pub segment : IsSegment leaf.segment

-- it is the live row of the id in all the leaves
pub record IsLiveRowOf (id : Text) (leaves : List Leaf) (leaf : Leaf) (row : ℕ) : Type 0 where
  pub among : Contains leaves leaf
  pub has : has_live id leaf ≡ true
  pub within : row < length leaf.segment.rows
  pub some : 1 ≤ length_at leaf row
  pub long : length_in leaves id ≡ Some (length_at leaf row)
  pub source : (files : ℕ → List ℕ) → stored_in files leaves id ≡ Some (source_of_row files leaf row)

-- what a device tells of the file with the sources of the leaf that has the id live
abbrev pub TellsSource : (FileName → Told) → (ℕ → List ℕ) → View → Text → Type 0
TellsSource told files view id =
    All (λ leaf. has_live id leaf ≡ true → told (file.Source leaf.segment.number) ≡ Some (Some (files leaf.segment.number))) view.leaves

-- the file of the live row of the id holds its source whole, as one line
pub record HoldsSource (files : ℕ → List ℕ) (view : View) (id : Text) : Type 0 where
  pub whole : option_map (λ text. length text) (stored (records_in files view) id) ≡ stored_length view id
  pub one_line : HasNoLineFeed (stored (records_in files view) id)

-- The file with the source of the live row of the id isn't told to be absent, nor to end before the source does.
pub record MayReachSource (told : FileName → Told) (view : View) (id : Text) : Type 0 where
  pub leaf : Leaf
  pub row : ℕ
  pub live : IsLiveRowOf id view.leaves leaf row
  pub there : told (file.Source leaf.segment.number) ≢ Some None
  pub whole : (bytes : Text) → told (file.Source leaf.segment.number) ≡ Some (Some bytes)
      → source_offset leaf.segment.rows row + length_at leaf row ≤ length bytes
