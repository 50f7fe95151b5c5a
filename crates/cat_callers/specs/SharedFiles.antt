-- How many calls of shared files have failed.
use Rattle.std.specs.Prelude.{ℕ}
use Rattle.cat_callers.specs.declared.memory.SharedMemory.{SharedMemory}

abbrev pub shared_failures : {R : Type 0} → SharedMemory R → ℕ
shared_failures files = files.failures
