-- Which files a commit begins, and which may not last yet.
use Rattle.std.specs.Prelude.{ℕ, ◌==◌, Bool, cond, List, [], ◌∷◌, ◌++◌, map}
use Rattle.std.specs.List.{flat_map, list_any}
use Rattle.cat_model.specs.Files.{Name}
use Rattle.cat_model.specs.CommitFile.{listed_names}
use Rattle.cat_ledger_laws.specs.shape.Shapes.{ListedLive}

-- the name of the entry's live file, where the commit of the generation writes it
abbrev pub new_live_of : ℕ → ListedLive → List Name
new_live_of g x = cond (x.file == g) (Name.live x.number x.file ∷ []) []

-- the names of the live files that it writes
abbrev pub new_live : ℕ → List ListedLive → List Name
new_live g xs = flat_map (new_live_of g) xs

-- the names that it begins: its own file, and the new live files
abbrev pub begun : ℕ → List ListedLive → List Name
begun g xs = Name.commit g ∷ new_live g xs

-- the number is listed
abbrev pub is_listed : ℕ → List ListedLive → Bool
is_listed n xs = list_any (λ (x : ListedLive). x.number == n) xs

-- the files of the entry's segment, where it isn't listed
abbrev pub unsynced_segment : Bool → ListedLive → List Name
unsynced_segment listed x = cond listed [] (Name.segment x.number ∷ Name.source x.number ∷ [])

-- the files of the entry that may not last yet, where the commit before lists these: those of a segment that it doesn't list, and a
-- new live file
abbrev pub unsynced_of : List ListedLive → ℕ → ListedLive → List Name
unsynced_of old g x = unsynced_segment (is_listed x.number old) x ++ new_live_of g x

-- those of all entries
abbrev pub unsynced_in : List ListedLive → ℕ → List ListedLive → List Name
unsynced_in old g xs = flat_map (unsynced_of old g) xs

-- the files of the segments of entries
abbrev pub needed_by : List ListedLive → List Name
needed_by xs = flat_map listed_names (map (λ (x : ListedLive). record { number = x.number; file = x.file }) xs)
