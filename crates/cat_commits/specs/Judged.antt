-- What was judged of a commit's file, and the commit that it tells.
use Rattle.std.specs.Prelude.{◌≡◌, IfOk}
use Rattle.std.specs.List.{flat_map}
use Rattle.cat_model.specs.CommitFile as model
use Rattle.cat_commits.specs.declared.decoding.Judged.{Judged}
use Rattle.cat_commits.specs.Layouts.{CommitStart, start_in}

-- the start of the commit's file
abbrev pub commit_start_of : model.CommitFile → CommitStart
commit_start_of c = record { version = c.version; generation = c.generation; token = c.token; next = c.next; text = c.text }

pub record TellsCommit (judged : Judged) (c : model.CommitFile) : Type 0 where
  pub start : start_in judged.start ≡ commit_start_of c
  pub schema : IfOk judged.schema (λ s. s ≡ c.schema)
  pub listing : judged.listing.now ≡ flat_map model.spelled_listed c.segments
