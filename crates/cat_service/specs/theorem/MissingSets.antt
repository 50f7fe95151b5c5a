-- What the causes of replies leave a service to tell of cached sets, where a query was found in a view of an item that was put.
use Rattle.std.specs.Prelude.{◌≡◌, ℕ, false, List, [], ◌∷◌, filter_map, Option, Ok}
use Rattle.cat_model.specs.Answer.{Found, Read}
use Rattle.cat_model.specs.Heard.{Json}
use Rattle.cat_model.specs.Item.{Item}
use Rattle.cat_model.specs.Page.{Sort}
use Rattle.cat_model.specs.Query.{Query}
use Rattle.cat_model.specs.Reasons.{IsCausedIn}
use Rattle.cat_model.specs.Run.{Answer, Chore, Command, Exchange, News, Run, Stat}
use Rattle.cat_model.specs.Served.{exchange}
use Rattle.cat_model.specs.Text.{Text, same_text}
use Rattle.cat_model.specs.Told.{DirectoryKind}

-- what a session said was answered with OK
abbrev pub was_told : ℕ → Command → Answer → Exchange
was_told session command answer = record { line = record { session = session; command = command }; reply = Ok answer }

-- a session's command was told a number
abbrev pub was_numbered : ℕ × ℕ → Command → Exchange
was_numbered told command = was_told told.0 command (Answer.number told.1)

-- a WARM was told this
abbrev pub warmed : ℕ → News → Exchange
warmed session news = was_told session (Command.chore Chore.warm) (Answer.news news)

-- An item that is put, and a query that is found, with the page that is asked; and of each line its session, with what it is told.
pub record PutAndFound : Type 0 where
  pub item : Item
  pub query : Query
  pub token : ℕ
  pub limit : ℕ
  pub sort : Sort
  pub mark : Option ℕ
  pub put : ℕ × ℕ
  pub refreshed : ℕ × ℕ
  pub opened : ℕ × ℕ
  pub found : ℕ × Found

-- PUT, REFRESH, OPEN and FIND in a row, each answered with OK, and what comes then
abbrev pub put_and_found : PutAndFound → Run → Run
put_and_found t rest =
    was_numbered t.put (Command.put (Ok t.item))
    ∷ was_numbered t.refreshed Command.refresh
    ∷ was_numbered t.opened Command.open_newest
    ∷ was_told t.found.0 (Command.read t.token (Read.find t.limit t.sort t.mark (Ok t.query))) (Answer.found t.found.1)
    ∷ rest

-- a set is made and stored by two WARMs, and another item is put and written, and what comes then
abbrev pub set_and_put : (sessions : ℕ × ℕ) → Item → (put refreshed : ℕ × ℕ) → Run → Run
set_and_put sessions other put refreshed rest =
    warmed sessions.0 News.begun_warming
    ∷ warmed sessions.1 News.stored
    ∷ was_numbered put (Command.put (Ok other))
    ∷ was_numbered refreshed Command.refresh
    ∷ rest

-- Where a call begins so, a set is missing, and none is cached: a WARM isn't told that there is nothing to do, and a STAT counts no set. Where it
-- opened neither an item nor a segment, and a set was made and stored then, one is missing again once another item was put and written.
pub record MissingSetsAreTold (json : Json) {D : Type 0} (kind : DirectoryKind D) : Type 0 where
  pub warm : (device left : D) (first : Text) (lines : List Text) (text : Text) (c : IsCausedIn json kind device left first lines text)
      → (t : PutAndFound) (session : ℕ) (rest : Run)
      → filter_map exchange c.served.fitting ≡ put_and_found t (warmed session News.idle ∷ rest) → ⊥
  pub stat : (device left : D) (first : Text) (lines : List Text) (text : Text) (c : IsCausedIn json kind device left first lines text)
      → (t : PutAndFound) (session : ℕ) (told : Stat) (rest : Run) → filter_map exchange c.served.fitting
      ≡ put_and_found t (was_told session (Command.chore Chore.stat) (Answer.news (News.state told)) ∷ rest) → told.cached ≡ 0
  pub again : (device left : D) (first : Text) (lines : List Text) (text : Text) (c : IsCausedIn json kind device left first lines text)
      → c.served.from.start.records ≡ [] → c.opened.stat.segments ≡ []
      → (t : PutAndFound) (sessions : ℕ × ℕ) (other : Item) (put refreshed : ℕ × ℕ) (session : ℕ) (rest : Run) → same_text other.id t.item.id ≡ false
      → filter_map exchange c.served.fitting ≡ put_and_found t (set_and_put sessions other put refreshed (warmed session News.idle ∷ rest)) → ⊥
