-- What was gathered: the rows of each word, and where they end once they are laid one word behind another.
use Rattle.std.specs.Prelude.{ℕ, ◌+◌, List, [], ◌∷◌, length, map, slice_index_or, bytes_eq}
use Rattle.std.specs.declared.option.Option.{Option}
use Rattle.std.specs.Option.{option_map_or}
use Rattle.std.specs.HashMap.{HashMap, get_by}
use Rattle.std.specs.Borrow.{Bor}
use Rattle.std.specs.declared.vec.Vec.{Vec}
use Rattle.smallvec.specs.SmallVec.{SmallVec}
use Rattle.cat_model.specs.RowSets.{indices}
use Rattle.cat_model.specs.Text.{Text}
use Rattle.cat_columns.specs.inverted.Postings.{is_among}

-- what the map has under the word
abbrev pub found : {X S : Type 0} → Text → HashMap (Bor (List ℕ)) X S → Option X
found word m = get_by (λ k. bytes_eq word k.now) m

-- the rows that the map has under the word, none where it has nothing
abbrev pub listed : {Z S : Type 0} → Text → HashMap (Bor (List ℕ)) (Vec ℕ Z) S → List ℕ
listed word m = option_map_or (λ rows. rows.items) (found word m) []

-- where each of the lists ends once they stand one behind another, the first from `from` on
abbrev pub ends_from : ℕ → List (List ℕ) → List ℕ
ends_from from [] = []
ends_from from (list ∷ lists) = (from + length list) ∷ ends_from (from + length list) lists

-- the lists of a list of lists
abbrev pub lists_in : {S : Type 0} → Vec (SmallVec ℕ) S → List (List ℕ)
lists_in v = map (λ list. list.items) v.items

-- the list of the ordinal
abbrev pub list_of_ordinal : {S : Type 0} → Vec (SmallVec ℕ) S → ℕ → List ℕ
list_of_ordinal v ordinal = slice_index_or (lists_in v) ordinal []

-- the rows whose ordinals have this one
abbrev pub rows_at : ℕ → List (List ℕ) → List ℕ
rows_at ordinal rows = indices (map (λ ordinals. is_among ordinals ordinal) rows)
