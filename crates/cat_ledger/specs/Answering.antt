-- What a ledger makes of what a session says.
use Rattle.std.specs.Prelude.{◌≡◌, ℕ, List, map, Result, Ok, Err}
use Rattle.std.specs.List.Sorted.{IsPermutation, IsSorted}
use Rattle.cat_base.specs.declared.refusal.Refusal.{Refusal}
use Rattle.cat_model.specs.Files.{Name}
use Rattle.cat_model.specs.Heard.{IsCommand}
use Rattle.cat_model.specs.Lines.{Said}
use Rattle.cat_model.specs.Run.{Answer, Command, Reply}
use Rattle.cat_items.specs.Reading.{json}
use Rattle.cat_directory.specs.Names.{file_text, name_cmp, name_of}
use Rattle.cat_directory.specs.declared.name.FileName.{FileName}
use Rattle.cat_ledger_laws.specs.shape.Ties.{ToldFiles}
use Rattle.cat_ledger_laws.specs.lines.LineLaws.{line_of}
use Rattle.cat_ledger_laws.specs.lines.RunLaws as lines
use Rattle.cat_ledger.specs.Ledgers.{LedgerOnDevice, device_in, policy_in, shape_in}

-- The reply answers the command of the session, for every ledger of the model that is carried. The first argument says what a device
-- tells of its files.
abbrev pub AnswersCommand : {D : Type 0} → (D → ToldFiles) → ℕ → Command → LedgerOnDevice D → Reply → LedgerOnDevice D → Type 0
AnswersCommand bytes session c old reply new =
    lines.AnswersCarried (policy_in old) (bytes (device_in old)) (shape_in old) (line_of session c) reply (bytes (device_in new)) (shape_in new)

-- so it does what is said, under the schema
abbrev pub AnswersSaid : {D : Type 0} → (D → ToldFiles) → ℕ → Said → LedgerOnDevice D → Reply → LedgerOnDevice D → Type 0
AnswersSaid bytes session said old reply new =
    (c : Command) × IsCommand json (shape_in old).schema said c × AnswersCommand bytes session c old reply new

-- a number, as the answer of a line; a refusal stays
abbrev pub number_reply : Result ℕ Refusal → Reply
number_reply (Ok n) = Ok (Answer.number n)
number_reply (Err e) = Err e

-- The names of just these files are told, in the byte order of their texts.
pub record TellsNames (needed : List Name) (told : Answer) : Type 0 where
  pub listed : List FileName
  pub names : List FileName
  pub all : map name_of listed ≡ needed
  pub same : IsPermutation listed names
  pub rising : IsSorted name_cmp names
  pub texts : told ≡ Answer.names (map file_text names)
