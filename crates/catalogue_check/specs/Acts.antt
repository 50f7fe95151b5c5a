-- What the program asks of its system, and what it tells.
use Rattle.std.specs.Prelude.{ℕ, List, Option, Result}
use Rattle.std.specs.declared.alloc.AllocError.{AllocError}
use Rattle.cat_directory.specs.declared.lock.LockRefusal.{LockRefusal}
use Rattle.cat_check.specs.declared.checked.Checked.{Checked}
use Rattle.cat_check.specs.declared.dropping.Standing.{Standing}
use Rattle.catalogue_check.specs.declared.news.News.{News}

-- One of these, with what was answered: F is the type of folders, and L that of their locks.
pub data CheckAct (F L : Type 0) : Type 0 where
  -- the words behind the program's name, unless they can't be read
  heard : (words : Option (List (List ℕ))) → CheckAct F L
  -- the folder at the path, which is let go as it is then
  opened : (path : List ℕ) (answer : Result F AllocError) → CheckAct F L
  left : (folder : F) → CheckAct F L
  -- the lock of the folder at the path, or a share of it, either of which is given back
  locked : (path : List ℕ) (answer : Result L LockRefusal) → CheckAct F L
  shared : (path : List ℕ) (answer : Result L LockRefusal) → CheckAct F L
  unlocked : (lock : L) → CheckAct F L
  -- what is found, what was dropped, and the news
  found : (checked : Checked) → CheckAct F L
  dropped : (standing : Standing) → CheckAct F L
  said : (news : News) → CheckAct F L
