-- What the words behind the program's name ask for.
use Rattle.std.specs.Prelude.{ℕ, Bool, true, false, ◌&&◌, List, [], ◌∷◌, Option, None, Some, find, codes, bytes_eq}
use Rattle.std.specs.Fmt.{decimal}
use Rattle.std.specs.List.{range_with_len}
use Rattle.catalogue.specs.declared.arguments.Task.{Task}
use Rattle.catalogue.specs.declared.arguments.Task.TheVariants as task

-- What can be asked for: to serve in memory, to serve over the folder of a path, the same with each session in a thread, in memory or
-- over a folder by so many threads, the version, or nothing that the program does.
pub data Asked : Type 0 where
  in_memory : Asked
  in_folder : (path : List ℕ) → Asked
  in_threads : (path : List ℕ) → Asked
  streamed_in_memory : (count : ℕ) → Asked
  streamed_in_folder : (count : ℕ) (path : List ℕ) → Asked
  version : Asked
  nothing : Asked

-- what a word with a path behind it asks for: whether it is `run`, and whether it is `threads`
abbrev pub with_path : Bool → Bool → List ℕ → Asked
with_path true is_threads path = Asked.in_folder path
with_path false true path = Asked.in_threads path
with_path false false path = Asked.nothing

-- what one word asks for: whether it is `run`, and whether it is `--version`
abbrev pub alone : Bool → Bool → Asked
alone true is_version = Asked.in_memory
alone false true = Asked.version
alone false false = Asked.nothing

-- the number of threads that a word spells, 1 to 64 in decimal
unfoldable pub count_spelled : List ℕ → Option ℕ
count_spelled word = find (λ n. bytes_eq word (decimal n)) (range_with_len 1 64)

-- what is asked for by so many threads, in memory
abbrev pub by_threads : Bool → Option ℕ → Asked
by_threads false count = Asked.nothing
by_threads true None = Asked.nothing
by_threads true (Some count) = Asked.streamed_in_memory count

-- and over the folder of a path
abbrev pub by_threads_at : Bool → Option ℕ → List ℕ → Asked
by_threads_at false count path = Asked.nothing
by_threads_at true None path = Asked.nothing
by_threads_at true (Some count) path = Asked.streamed_in_folder count path

-- No word, or `run` alone, asks to serve in memory. `run` or `threads` with one word behind it, whatever that is, asks for the folder
-- of that path. `run --threads` with a number of threads behind it asks to serve by so many, in memory or over the folder of the word
-- behind that. `--version` alone asks for the version.
abbrev pub asked_of : List (List ℕ) → Asked
asked_of [] = Asked.in_memory
asked_of (word ∷ []) = alone (bytes_eq word (codes "run")) (bytes_eq word (codes "--version"))
asked_of (word ∷ path ∷ []) = with_path (bytes_eq word (codes "run")) (bytes_eq word (codes "threads")) path
asked_of (word ∷ option ∷ count ∷ []) =
    by_threads (bytes_eq word (codes "run") && bytes_eq option (codes "--threads")) (count_spelled count)
asked_of (word ∷ option ∷ count ∷ path ∷ []) =
    by_threads_at (bytes_eq word (codes "run") && bytes_eq option (codes "--threads")) (count_spelled count) path
asked_of (a ∷ b ∷ c ∷ d ∷ e ∷ words) = Asked.nothing

-- what a task is there for
abbrev pub task_told : Task → Asked
task_told task.InMemory = Asked.in_memory
task_told (task.InFolder path) = Asked.in_folder path.now
task_told (task.InThreads path) = Asked.in_threads path.now
task_told (task.StreamedInMemory count) = Asked.streamed_in_memory count
task_told (task.StreamedInFolder count path) = Asked.streamed_in_folder count path.now
task_told task.Version = Asked.version
task_told task.Usage = Asked.nothing
