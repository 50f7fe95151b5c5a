-- What the program asks of its system, and what it tells.
use Rattle.std.specs.Prelude.{ℕ, Bool, List, Option, Result}
use Rattle.std.specs.declared.alloc.AllocError.{AllocError}
use Rattle.cat_directory.specs.declared.lock.LockRefusal.{LockRefusal}
use Rattle.catalogue.specs.declared.endings.RunFault.{RunFault}

-- One of these, with what was answered: F is the type of folders, L that of their locks, I and O those of standard input and standard
-- output.
pub data Act (F L I O : Type 0) : Type 0 where
  -- the words behind the program's name, unless they can't be read
  heard : (words : Option (List (List ℕ))) → Act F L I O
  -- the lock of the folder at the path, which is given back
  locked : (path : List ℕ) (answer : Result L LockRefusal) → Act F L I O
  unlocked : (lock : L) → Act F L I O
  -- the folder at the path, which is let go as it is then; and so many shelves of it, and whether they were had
  opened : (path : List ℕ) (answer : Result F AllocError) → Act F L I O
  left : (folder : F) → Act F L I O
  shelved : (path : List ℕ) (count : ℕ) (had : Bool) → Act F L I O
  -- standard input and standard output, which are let go as they are then
  streamed : (input : I) (output : O) → Act F L I O
  closed_input : (input : I) → Act F L I O
  closed_output : (output : O) → Act F L I O
  -- on standard error, why serving ended early, or how the program is called
  reported : (fault : RunFault) → Act F L I O
  told_usage : Act F L I O
  -- the version, and whether it was written
  told_version : (written : Bool) → Act F L I O
