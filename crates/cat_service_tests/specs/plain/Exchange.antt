-- Lines that were answered, as exchanges of a run.
use Rattle.std.specs.Prelude.{◌≡◌, ◌⊎◌, ℕ, List, [], ◌∷◌, Option, Some, None, Result, Ok, Err}
use Rattle.cat_base.specs.declared.refusal.Refusal.{Refusal}
use Rattle.cat_base.specs.declared.refusal.Refusal.TheVariants.{Memory}
use Rattle.cat_model.specs.Text.{Text}
use Rattle.cat_model.specs.Item.{Schema}
use Rattle.cat_model.specs.Answer.{Read, Found}
use Rattle.cat_model.specs.Grammar.{Spells}
use Rattle.cat_model.specs.Heard.{IsQueryOf}
use Rattle.cat_model.specs.Page.{Page}
use Rattle.cat_model.specs.Query.{Query}
use Rattle.cat_model.specs.Run as run
use Rattle.cat_model.specs.State.{State}
use Rattle.cat_search.specs.cat_query.View.{query_of}
use Rattle.cat_query.specs.declared.query.Query as code
use Rattle.cat_search.specs.declared.ask.Ask.{Ask}
use Rattle.cat_search.specs.Sorts.{sort_of}
use Rattle.cat_service.specs.cat_protocol.declared.lines.line.Line.{Line}
use Rattle.cat_service_tests.specs.declared.plain.reply.Reply.{Reply}
use Rattle.cat_service_tests.specs.plain.Line.{plain_of}
use Rattle.cat_service_tests.specs.plain.Reply.{plain_reply}
use Rattle.cat_service_tests.specs.plain.Plain.{PlainService, DoesPlainly}
use Rattle.cat_service.specs.Lines.{IsCommandOf}

-- From old, a service in memory may give this reply to the line and go on to new.
abbrev pub DoesLine : Schema → State → Line → run.Reply → State → Type 0
DoesLine schema old line r new = (c : run.Command) × IsCommandOf schema (plain_of line.command) c × DoesPlainly schema old line.session c r new

-- the exchange is of this line, with its item, id or query looked at under the schema, and of this reply
pub record IsExchangeOf (schema : Schema) (line : Line) (answered : Reply) (e : run.Exchange) : Type 0 where
  pub session : e.line.session ≡ line.session
  pub command : IsCommandOf schema (plain_of line.command) e.line.command
  pub reply : e.reply ≡ plain_reply answered.answer

-- the run is of these lines with their replies, in turn
abbrev pub AreExchanges : Schema → List Line → List Reply → run.Run → Type 0
AreExchanges schema [] [] [] = Unit {0}
AreExchanges schema (line ∷ lines) (reply ∷ replies) (e ∷ es) = IsExchangeOf schema line reply e × AreExchanges schema lines replies es
AreExchanges schema _ _ _ = ⊥

-- the text is a query, and this one where there was memory for it
abbrev pub IsReadQuery : Schema → Text → Option code.Query → Type 0
IsReadQuery schema text (Some q) = Spells schema text (query_of q)
IsReadQuery schema text None = (q : Query) × Spells schema text q

-- what a FIND reads
abbrev pub find_of : Ask → Result Query Refusal → Read
find_of ask q = Read.find ask.count (sort_of ask.sort) ask.after q

-- What is told of a read of a page: what its answer is, or want of memory where that is a page.
abbrev pub TellsFound : Result Found Refusal → Result Page Refusal → Type 0
TellsFound answer (Ok p) = answer ≡ Ok (Found.page p)
TellsFound answer (Err e) = (answer ≡ Err e) ⊎ ((e ≡ Memory) × (f : Found) × (answer ≡ Ok f))

-- the page that is told, or the refusal
abbrev pub page_reply : Result Page Refusal → run.Reply
page_reply (Ok p) = Ok (run.Answer.found (Found.page p))
page_reply (Err e) = Err e

-- The service may reply so to a FIND of the session, whose text is a query or has a fault. It changes nothing.
abbrev pub DoesFind : PlainService → ℕ → ℕ → Ask → Text → run.Reply → Type 0
DoesFind w s t ask text r =
    (q : Result Query Refusal) × IsQueryOf w.schema text q × DoesPlainly w.schema w.state s (run.Command.read t (find_of ask q)) r w.state

-- The service may reply so to a DELW of a session, whose text is a query or has a fault, and go on to new.
abbrev pub DoesDeleteWhere : PlainService → ℕ → Text → run.Reply → State → Type 0
DoesDeleteWhere w s text r new =
    (q : Result Query Refusal) × IsQueryOf w.schema text q × DoesPlainly w.schema w.state s (run.Command.delete_where q) r new

-- The service may reply so to a FACETS of the session, whose text is a query or has a fault. It changes nothing.
abbrev pub DoesFacets : PlainService → ℕ → ℕ → Text → ℕ → Text → run.Reply → Type 0
DoesFacets w s t dim n text r =
    (q : Result Query Refusal) × IsQueryOf w.schema text q
    × DoesPlainly w.schema w.state s (run.Command.read t (Read.facets dim n q)) r w.state
