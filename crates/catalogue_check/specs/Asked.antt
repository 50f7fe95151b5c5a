-- What the words behind the program's name ask for.
use Rattle.std.specs.Prelude.{ℕ, Bool, true, false, List, [], ◌∷◌, codes, bytes_eq}
use Rattle.catalogue_check.specs.declared.arguments.Task.{Task}
use Rattle.catalogue_check.specs.declared.arguments.Task.TheVariants as task

-- What can be asked for: to judge the folder of a path, to drop its torn commit as well, or nothing that the program does.
pub data Asked : Type 0 where
  judge : (path : List ℕ) → Asked
  drop_torn : (path : List ℕ) → Asked
  nothing : Asked

-- whether the word asks to drop
unfoldable pub is_drop_word : List ℕ → Bool
is_drop_word word = bytes_eq word (codes "--drop-torn")

-- the one where the word is `--drop-torn`, and else the other
abbrev pub if_drop : Bool → Asked → Asked → Asked
if_drop true asked other = asked
if_drop false asked other = other

-- One word, but `--drop-torn`, asks to judge the folder of that path. `--drop-torn` with one word behind it, whatever that is,
-- asks to drop in the folder of that path.
abbrev pub asked_of : List (List ℕ) → Asked
asked_of [] = Asked.nothing
asked_of (word ∷ []) = if_drop (is_drop_word word) Asked.nothing (Asked.judge word)
asked_of (word ∷ path ∷ []) = if_drop (is_drop_word word) (Asked.drop_torn path) Asked.nothing
asked_of (word ∷ path ∷ other ∷ words) = Asked.nothing

-- what a task is there for
abbrev pub task_told : Task → Asked
task_told (task.Judge path) = Asked.judge path.now
task_told (task.DropTorn path) = Asked.drop_torn path.now
task_told task.Usage = Asked.nothing
