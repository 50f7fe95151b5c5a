-- What a commit lists, by the numbers of its segments, and what the next one lists.
use Rattle.std.specs.Prelude.{ℕ, suc, ◌==◌, cond, List, [], ◌∷◌, map, find, Option, Some, None, option_map}
use Rattle.cat_model.specs.View.{Leaf}
use Rattle.cat_ledger_laws.specs.model.Calls.{same_live, all_alive}
use Rattle.cat_ledger_laws.specs.shape.Shapes.{ListedLive}
use Rattle.cat_ledger_laws.specs.shape.Steps.{file_for}

-- the index of the first entry of this number
abbrev pub index_of : ℕ → List ListedLive → Option ℕ
index_of n [] = None
index_of n (x ∷ xs) = cond (x.number == n) (Some 0) (option_map suc (index_of n xs))

-- the first entry of this number
abbrev pub entry_of : ℕ → List ListedLive → Option ListedLive
entry_of n xs = find (λ x. x.number == n) xs

-- the file that has the leaf's live set, where this is what was listed of its segment, 0 for none
abbrev pub file_beside : Option ListedLive → ℕ → Leaf → ℕ
file_beside None g leaf = cond (all_alive leaf.live) 0 g
file_beside (Some x) g leaf = cond (all_alive leaf.live) 0 (cond (same_live x.live leaf.live) (cond (x.file == 0) g x.file) g)

-- what the commit of the generation lists of a leaf, where the one before it lists these
abbrev pub listed_after : List ListedLive → ℕ → Leaf → ListedLive
listed_after old g leaf = record { number = leaf.segment.number; live = leaf.live; file = file_for old g leaf }

-- what it lists of these leaves
abbrev pub listing_after : List ListedLive → ℕ → List Leaf → List ListedLive
listing_after old g leaves = map (listed_after old g) leaves
