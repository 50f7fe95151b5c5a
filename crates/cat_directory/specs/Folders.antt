-- What each kind of the system's error is told as, and which names a folder lists.
use Rattle.std.specs.Prelude.{List, Contains}
use Rattle.std.specs.List.{All}
use Rattle.std.specs.List.Sorted.{IsStrictlySortedBy}
use Rattle.std.specs.declared.io.ErrorKind.{ErrorKind}
use Rattle.std.specs.declared.io.ErrorKind.TheVariants.{NotFound, UnexpectedEof, OutOfMemory}
use Rattle.cat_model.specs.cat_base.declared.refusal.Refusal.{Refusal}
use Rattle.cat_model.specs.cat_base.declared.refusal.Refusal.TheVariants.{Damaged, Memory, Device}
use Rattle.cat_model.specs.Files.{IsFileName}
use Rattle.cat_directory.specs.declared.name.FileName.{FileName}
use Rattle.cat_directory.specs.Names.{name_cmp, name_of}

-- to a call that asks for a file's size: it is absent, or the device failed
abbrev pub sizing_refusal : ErrorKind → Refusal
sizing_refusal NotFound = Damaged
sizing_refusal UnexpectedEof = Damaged
sizing_refusal kind = Device

-- to a call that reads a file's bytes: it is absent or too short, memory is wanting, or the device failed
abbrev pub reading_refusal : ErrorKind → Refusal
reading_refusal OutOfMemory = Memory
reading_refusal kind = sizing_refusal kind

-- to a call that lists names: memory is wanting, or the device failed
abbrev pub listing_refusal : ErrorKind → Refusal
listing_refusal OutOfMemory = Memory
listing_refusal kind = Device

-- each name has the form of a file's
abbrev pub AllFormed : List FileName → Type 0
AllFormed names = All (λ name. IsFileName (name_of name)) names

-- names in the order of their texts, each once, and each of the form of a file's
pub record AreListed (names : List FileName) : Type 0 where
  pub rising : IsStrictlySortedBy name_cmp names
  pub formed : (name : FileName) → Contains names name → IsFileName (name_of name)
