-- The laws of how one list of accepted writes agrees with a ledger.
use Rattle.std.specs.Prelude.{◌≡◌, ℕ, ◌+◌, ◌-◌, ◌≤◌, Bool, List, [], ◌∷◌, ◌++◌, length, None, Ok}
use Rattle.cat_model.specs.Table.{Opened, table}
use Rattle.cat_model.specs.Run.{Command, Reply, accepted_by, greatest, view_tokens_by}
use Rattle.cat_model.specs.View.{View, Shows}
use Rattle.cat_model.specs.Write.{Write}
use Rattle.cat_ledger_laws.specs.model.Plans.{MergePolicy}
use Rattle.cat_ledger_laws.specs.shape.Shapes.{Shape}
use Rattle.cat_ledger_laws.specs.shape.Steps.{tokens_of}
use Rattle.cat_ledger_laws.specs.shape.Ties.{ToldFiles}
use Rattle.cat_ledger_laws.specs.lines.LineLaws.{line_of, tells}
use Rattle.cat_ledger_laws.specs.lines.ReadLaws.{IsRecordedAs}
use Rattle.cat_ledger_laws.specs.lines.RefusalLaws.{command_of}
use Rattle.cat_ledger_laws.specs.lines.RunLaws.{AnswersCarried, AreAlike, Stands}
use Rattle.cat_threads.specs.history.Entries.{entry, writes_in}
use Rattle.cat_threads.specs.history.Rules.{Sight, scribe}
use Rattle.cat_threads.specs.sharing.Agrees.{Agrees}

-- What stands for a run of no lines agrees with the empty list.
abbrev pub FreshAgree : Type 0
FreshAgree = (told : ToldFiles) (s : Shape) (from : Opened) (sessions : List ℕ) (v : Sight)
    → from.start.schema ≡ s.schema → Stands told s from [] → v ≡ scribe [] 0 sessions [] → Agrees told s from sessions v

-- The number of writes is that of the start, and as many as the list has.
abbrev pub CountsAgree : Type 0
CountsAgree = (told : ToldFiles) (s : Shape) (from : Opened) (sessions : List ℕ) (v : Sight)
    → Agrees told s from sessions v → s.count ≡ from.start.token + length v.list

-- The token of the newest view is the scribe's, and no greater than the number of writes.
abbrev pub NewestAgree : Type 0
NewestAgree = (told : ToldFiles) (s : Shape) (from : Opened) (sessions : List ℕ) (v : Sight)
    → Agrees told s from sessions v → (greatest (tokens_of s.views) ≡ from.start.token + v.token) × (v.token ≤ length v.list)

-- The view that is recorded under a token has the start's fields, and shows the list's table at the token, which lies between the start's
-- and that of now.
pub record IsOfList (from : Opened) (v : Sight) (view : View) : Type 0 where
  pub fields : view.schema ≡ from.start.schema
  pub low : from.start.token ≤ view.token
  pub upto : view.token ≤ from.start.token + length v.list
  pub table : Shows view (table from.start (writes_in v.list) view.token)

abbrev pub ViewsAgree : Type 0
ViewsAgree = (told : ToldFiles) (s : Shape) (from : Opened) (sessions : List ℕ) (v : Sight) (view : View)
    → Agrees told s from sessions v → IsRecordedAs s.views view.token view → IsOfList from v view

-- A write that is answered a number is one more of the list.
abbrev pub NotedAgree : Type 0
NotedAgree = (policy : MergePolicy) (told told' : ToldFiles) (s new : Shape) (from : Opened) (sessions : List ℕ) (v w : Sight) (session n : ℕ) (write : Write)
    → Agrees told s from sessions v → AnswersCarried policy told s (line_of session (command_of write)) (tells n) told' new
    → w ≡ scribe (v.list ++ entry session write ∷ []) v.token sessions [] → Agrees told' new from sessions w

-- A REFRESH that is answered makes the number of writes the newest token.
abbrev pub RefreshAgrees : Type 0
RefreshAgrees = (policy : MergePolicy) (told told' : ToldFiles) (s new : Shape) (from : Opened) (sessions : List ℕ) (v w : Sight) (session n : ℕ)
    → Agrees told s from sessions v → n ≡ s.count → AnswersCarried policy told s (line_of session Command.refresh) (tells n) told' new
    → w ≡ scribe v.list (n - from.start.token) sessions [] → Agrees told' new from sessions w

-- A PRUNE leaves the newest view, whatever is replied to it.
abbrev pub PrunedAgree : Type 0
PrunedAgree = (policy : MergePolicy) (told told' : ToldFiles) (s new : Shape) (from : Opened) (sessions : List ℕ) (v w : Sight) (session n : ℕ) (r : Reply)
    → Agrees told s from sessions v → AnswersCarried policy told s (line_of session (Command.prune n)) r told' new
    → w ≡ scribe v.list v.token sessions [] → Agrees told' new from sessions w

-- whatever reply is shown so: the exchange has no write, and leaves the views
abbrev pub IsStill : Command → Reply → Type 0
IsStill c r = (fitting : Reply) → AreAlike r fitting
    → (accepted_by c fitting ≡ None) × ((held : ℕ → Bool) (ts : List ℕ) → view_tokens_by held ts c fitting ≡ ts)

-- What else is answered changes neither the list nor the token.
abbrev pub StillAgree : Type 0
StillAgree = (policy : MergePolicy) (told told' : ToldFiles) (s new : Shape) (from : Opened) (sessions : List ℕ) (v w : Sight) (session : ℕ) (c : Command) (r : Reply)
    → Agrees told s from sessions v → IsStill c r → AnswersCarried policy told s (line_of session c) r told' new
    → w ≡ scribe v.list v.token sessions [] → Agrees told' new from sessions w
