-- What the causes of replies leave a service to tell of merges.
use Rattle.std.specs.Prelude.{◌≡◌, ℕ, ◌<◌, Bool, true, false, List, ◌∷◌, ◌++◌, length, map, filter_map, Ok, Err}
use Rattle.std.specs.List.{AllByRecursion}
use Rattle.cat_model.specs.Heard.{Json}
use Rattle.cat_model.specs.Reasons.{IsCausedIn}
use Rattle.cat_model.specs.Run.{Answer, Chore, Command, Exchange, News, Reply, Run, Stat}
use Rattle.cat_model.specs.Served.{exchange}
use Rattle.cat_model.specs.Text.{Text}
use Rattle.cat_model.specs.Told.{DirectoryKind}
use Rattle.cat_service.specs.theorem.MissingSets.{was_told}

-- a MERGE was told this
abbrev pub merge_was_told : ℕ → News → Exchange
merge_was_told session news = was_told session (Command.chore Chore.merge) (Answer.news news)

-- a STAT was told this
abbrev pub stat_was_told : ℕ → Stat → Exchange
stat_was_told session stat = was_told session (Command.chore Chore.stat) (Answer.news (News.state stat))

-- ---- kinds of lines

-- a MERGE or a FORCE that was told that it began a merge
abbrev pub begins_merge : Command → Reply → Bool
begins_merge (Command.chore Chore.merge) (Ok (Answer.news (News.begun_merge k))) = true
begins_merge (Command.chore Chore.force) (Ok (Answer.news (News.begun_merge k))) = true
begins_merge c reply = false

-- a MERGE that was told that it passed rows
abbrev pub passes_rows : Command → Reply → Bool
passes_rows (Command.chore Chore.merge) (Ok (Answer.news (News.copied n))) = true
passes_rows c reply = false

-- a MERGE that was told that the merge is done, or that was refused
abbrev pub ends_merge : Command → Reply → Bool
ends_merge (Command.chore Chore.merge) (Ok (Answer.news News.done)) = true
ends_merge (Command.chore Chore.merge) (Err e) = true
ends_merge c reply = false

-- the exchange is of this kind, and none of these are
abbrev pub Is : (Command → Reply → Bool) → Exchange → Type 0
Is kind e = kind e.line.command e.reply ≡ true

abbrev pub NoneIs : (Command → Reply → Bool) → Run → Type 0
NoneIs kind run = AllByRecursion (λ e. kind e.line.command e.reply ≡ false) run

-- ---- what a STAT tells

-- some segments stand, and each has rows
abbrev pub HasRows : Stat → Type 0
HasRows stat = (0 < length stat.segments) × AllByRecursion (λ s. 0 < s.rows) stat.segments

abbrev pub numbers_in : Stat → List ℕ
numbers_in stat = map (λ s. s.number) stat.segments

-- ---- the whole

-- Of the lines of a call in a row. Of two MERGEs that pass rows of one merge the second tells more rows. No merge is begun while one is in the
-- making, which none has ended. A merge of rows isn't done before some were passed. And where a merge is done, of rows, and the segments
-- stand that stood when it began, others stand behind it.
pub record TellsMerges (run : Run) : Type 0 where
  pub copied : (before between rest : Run) (one two n m : ℕ) → NoneIs begins_merge between
      → run ≡ before ++ merge_was_told one (News.copied n) ∷ (between ++ merge_was_told two (News.copied m) ∷ rest) → n < m
  pub begun : (before between rest : Run) (e f : Exchange) → Is begins_merge e → Is begins_merge f → NoneIs ends_merge between
      → run ≡ before ++ e ∷ (between ++ f ∷ rest) → ⊥
  pub passed : (before between rest : Run) (one two : ℕ) (e : Exchange) (stat : Stat) → HasRows stat → Is begins_merge e
      → NoneIs begins_merge between → NoneIs passes_rows between
      → run ≡ before ++ stat_was_told one stat ∷ e ∷ (between ++ merge_was_told two News.done ∷ rest) → ⊥
  pub made : (before between rest : Run) (one two three four : ℕ) (e : Exchange) (stat then behind : Stat) → HasRows stat → Is begins_merge e
      → NoneIs begins_merge between → numbers_in then ≡ numbers_in stat
      → run ≡ before ++ stat_was_told one stat ∷ e ∷ (between ++ stat_was_told two then ∷ merge_was_told three News.done ∷ stat_was_told four behind ∷ rest)
      → numbers_in behind ≡ numbers_in then → ⊥

-- so it is of each call whose replies have their causes
abbrev pub MergesGoOn : Json → {D : Type 0} → DirectoryKind D → Type 0
MergesGoOn json {D} kind = (device left : D) (first : Text) (lines : List Text) (text : Text)
    → (c : IsCausedIn json kind device left first lines text) → TellsMerges (filter_map exchange c.served.fitting)
