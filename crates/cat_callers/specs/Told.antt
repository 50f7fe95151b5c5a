-- What a session's line is told, by what its pass has seen before and after, and by the session's rights.
use Rattle.std.specs.Prelude.{◌≡◌, ◌≢◌, ◌⊎◌, ℕ, List, Option, None, Some, option_map, length, Result, Ok, Err, IfErr}
use Rattle.cat_base.specs.declared.refusal.Refusal.{Refusal}
use Rattle.cat_base.specs.declared.refusal.Refusal.TheVariants.{Damaged, Device, Full, Gone, Id, Line as NoForm, Memory, NotHeld, Spent}
use Rattle.cat_model.specs.Answer.{Found, HasNoLineFeed, Read, answer, query_refusal, stored}
use Rattle.cat_model.specs.Heard.{IsQueryOf, commit_text_of, id_of}
use Rattle.cat_model.specs.Item.{Item}
use Rattle.cat_model.specs.Lines.{Said}
use Rattle.cat_model.specs.Query.{Query}
use Rattle.cat_model.specs.Run.{Answer, Reply, found_reply, or_not_held}
use Rattle.cat_model.specs.Table.{Start, table}
use Rattle.cat_model.specs.Text.{Text}
use Rattle.cat_model.specs.View.{View, needs, records_in}
use Rattle.cat_model.specs.Write.{Write}
use Rattle.cat_items.specs.Reading.{item_of}
use Rattle.cat_threads.specs.cat_commands.cat_cached_sets.cat_views.Holds.{HeldView}
use Rattle.cat_threads.specs.cat_commands.cat_cached_sets.cat_views.Sources.{TellsSource, stored_length}
use Rattle.cat_threads.specs.cat_commands.cat_ledger.Answering.{TellsNames}
use Rattle.cat_threads.specs.cat_commands.cat_ledger.cat_lifetimes.rights.Rights.{PutsIn, TakesOut, right_of}
use Rattle.cat_ledger_laws.specs.lines.LineLaws.{tells}
use Rattle.cat_ledger_laws.specs.shape.Ties.{ToldFiles}
use Rattle.cat_threads.specs.cat_commands.cat_protocol.replies.Reply.{reply_of}
use Rattle.cat_threads.specs.history.Entries.{LogEntry, writes_in}
use Rattle.cat_threads.specs.declared.service.chores.Outcome.{Outcome}
use Rattle.cat_threads.specs.service.Chores.{IsToldOver, answer_told, chore_done, said_by}
use Rattle.cat_threads.specs.service.Passes.{Granted, Idle, Refreshed, Seen, Wrote}
use Rattle.cat_threads.specs.sharing.Grounds.{Ground, IsOn}
use Rattle.cat_callers.specs.Sessions.{Kept}

-- ---- writes

-- the write that puts the item, takes out the item of the id, or those that the query matches; or the refusal of the text
abbrev pub putting : Result Item Refusal → Result Write Refusal
putting (Ok i) = Ok (Write.put i)
putting (Err e) = Err e

abbrev pub deleting : Result Text Refusal → Result Write Refusal
deleting (Ok id) = Ok (Write.delete id)
deleting (Err e) = Err e

abbrev pub deleting_where : Result Query Refusal → Result Write Refusal
deleting_where (Ok q) = Ok (Write.delete_where q)
deleting_where (Err e) = Err e

-- why a write may be refused that its text doesn't forbid
abbrev pub StopsWrite : Refusal → Type 0
StopsWrite e = (e ≡ Memory) ⊎ (e ≡ Device) ⊎ (e ≡ Spent)

-- Either the write that is asked for was made: the one list has it at the number that is told, under the session, behind all that the
-- session had seen. Or it is refused, and the list has no other write of the session than before.
pub data ToldWrite (from : Ground) (asked : Result Write Refusal → Type 0) (v w : Seen) : Reply → Type 0 where
  wrote : (n : ℕ) (write : Write) → asked (Ok write) → Wrote from.start.token n write v w → ToldWrite from asked v w (tells n)
  refused : (e : Refusal) → asked (Err e) ⊎ StopsWrite e → Idle v w → ToldWrite from asked v w (Err e)

-- ---- views

-- why no view is recorded
abbrev pub StopsRefresh : Refusal → Type 0
StopsRefresh e = (e ≡ Full) ⊎ (e ≡ Memory) ⊎ (e ≡ Device) ⊎ (e ≡ Spent)

-- the token that is told has all that the session had seen
pub data ToldRefresh (from : Ground) (v w : Seen) : Reply → Type 0 where
  recorded : (t : ℕ) → Refreshed from.start.token t v w → ToldRefresh from v w (tells t)
  refused : (e : Refusal) → StopsRefresh e → ToldRefresh from v w (Err e)

-- the session has a right to the view of the token
abbrev pub Holds : List HeldView → ℕ → ℕ → Type 0
Holds rights session t = (h : HeldView) × (right_of rights session t ≡ Some h)

-- it is the token that was asked for, if one was
abbrev pub IsAskedFor : Option ℕ → ℕ → Type 0
IsAskedFor None t = Unit {0}
IsAskedFor (Some asked) t = t ≡ asked

-- The session gets a right, to the view of the token that it asked for, or of one no older than what it had seen recorded; or it has it
-- already.
pub data ToldOpen (from : Ground) (asked : Option ℕ) (v w : Seen) (old new : List HeldView) : Reply → Type 0 where
  given : (h : HeldView) → Granted from asked v w h → PutsIn h old new → ToldOpen from asked v w old new (tells h.view.token)
  had : (t : ℕ) (h : HeldView) → IsAskedFor asked t → right_of old v.session t ≡ Some h → new ≡ old → ToldOpen from asked v w old new (tells t)
  refused : (e : Refusal) → (e ≡ Gone) ⊎ (e ≡ Memory) → (asked ≡ None → e ≢ Gone) → new ≡ old → ToldOpen from asked v w old new (Err e)

-- The session's right ends, or it has none.
pub data ToldClose (session t : ℕ) (old new : List HeldView) : Reply → Type 0 where
  ended : (h : HeldView) → right_of old session t ≡ Some h → TakesOut session t old new → ToldClose session t old new (tells t)
  uncounted : (h : HeldView) → right_of old session t ≡ Some h → TakesOut session t old new → ToldClose session t old new (Err NotHeld)
  unheld : right_of old session t ≡ None → new ≡ old → ToldClose session t old new (Err NotHeld)

-- ---- reads

-- What is told is answered over the table of the one list at the token, whatever start has the rows that the service began with; or, where
-- the session has no right, it is the refusal of the text or that.
pub data ToldRead (from : Ground) (v : Seen) (rights : List HeldView) (t : ℕ) (asked : Read) : Reply → Type 0 where
  found : (h : HeldView) (r : Reply) → right_of rights v.session t ≡ Some h
      → ((start : Start) → IsOn from start → r ≡ found_reply (answer h.view.schema (table start (writes_in v.list) t) asked))
      → ToldRead from v rights t asked r
  unheld : right_of rights v.session t ≡ None → ToldRead from v rights t asked (or_not_held (query_refusal asked))
  stopped : ToldRead from v rights t asked (Err Memory)

-- so of a read whose query the text is
pub data ToldQuery (from : Ground) (v : Seen) (rights : List HeldView) (t : ℕ) (text : Text) (asked : Result Query Refusal → Read) : Reply → Type 0 where
  answered : (q : Result Query Refusal) (r : Reply) → IsQueryOf from.start.schema text q → ToldRead from v rights t (asked q) r
      → ToldQuery from v rights t text asked r
  stopped : ToldQuery from v rights t text asked (Err Memory)

-- the text is as long as its row says, has no line feed, and where the shelf tells the files of sources, it is the one that they have
pub record IsSource (told : ToldFiles) (view : View) (id : Text) (source : Option Text) : Type 0 where
  pub long : option_map (λ text. length text) source ≡ stored_length view id
  pub line : HasNoLineFeed source
  pub read : (files : ℕ → List ℕ) → TellsSource told files view id → source ≡ stored (records_in files view) id

pub data ToldGet (told : ToldFiles) (session : ℕ) (rights : List HeldView) (t : ℕ) (text : Text) : Reply → Type 0 where
  wrong : (e : Refusal) → id_of text ≡ Err e → ToldGet told session rights t text (Err e)
  unheld : id_of text ≡ Ok text → right_of rights session t ≡ None → ToldGet told session rights t text (Err NotHeld)
  found : (h : HeldView) (source : Option Text) → right_of rights session t ≡ Some h → IsSource told h.view text source
      → ToldGet told session rights t text (Ok (Answer.found (Found.source source)))
  stopped : (e : Refusal) → (e ≡ Memory) ⊎ (e ≡ Device) ⊎ (e ≡ Damaged) → ToldGet told session rights t text (Err e)

pub data ToldNames (session : ℕ) (rights : List HeldView) (t : ℕ) : Reply → Type 0 where
  named : (h : HeldView) (a : Answer) → right_of rights session t ≡ Some h → TellsNames (needs h.view) a → ToldNames session rights t (Ok a)
  unheld : right_of rights session t ≡ None → ToldNames session rights t (Err NotHeld)
  stopped : ToldNames session rights t (Err Memory)

-- ---- upkeep

-- What a ledger that has the writes of some list of the service's answers to what is said, where session 0 says it. The ledger has the
-- writes of that list still.
pub record ToldBy {D : Type 0} (bytes : D → ToldFiles) (from : Ground) (said : Said) (r : Reply) : Type 0 where
  pub list : List LogEntry
  pub outcome : Outcome
  pub over : IsToldOver bytes from list outcome
  pub said_is : said_by (chore_done outcome) ≡ said
  pub told_is : reply_of (answer_told outcome) ≡ r

abbrev pub serves : {D : Type 0} → (D → ToldFiles) → Ground → Said → Reply → Type 0
serves bytes from said r = ToldBy bytes from said r

-- what a COMMIT of the text is told: why that can't be one, or what the service answers, or that memory for it is wanting
pub data ToldCommit (serves : Said → Reply → Type 0) (text : Text) : Reply → Type 0 where
  wrong : (e : Refusal) → commit_text_of text ≡ Err e → ToldCommit serves text (Err e)
  stopped : ToldCommit serves text (Err Memory)
  served : (r : Reply) → commit_text_of text ≡ Ok text → serves (Said.commit text) r → ToldCommit serves text r

-- what upkeep that session 0 alone may ask for is told
pub record ToldUpkeep (serves : Said → Reply → Type 0) (session : ℕ) (said : Said) (r : Reply) : Type 0 where
  pub others : session ≢ 0 → r ≡ Err NoForm
  pub mine : session ≡ 0 → serves said r

-- ---- a line

-- it makes no write, and the session's rights stay
abbrev pub Rests : Seen → Kept → Seen → Kept → Type 0
Rests v k w l = Idle v w × (l.rights ≡ k.rights)

-- What a line is told, by what it says, by what the shelf tells of its files, and by what the service answers to a line that serves all
-- sessions.
abbrev pub Tells : ToldFiles → Ground → (Said → Reply → Type 0) → Option Said → Seen → Kept → Seen → Kept → Reply → Type 0
Tells told from serves None v k w l r = Rests v k w l × (r ≡ Err NoForm)
Tells told from serves (Some (Said.put text)) v k w l r =
    (l.rights ≡ k.rights) × ToldWrite from (λ a. a ≡ putting (item_of from.start.schema text)) v w r
Tells told from serves (Some (Said.delete text)) v k w l r = (l.rights ≡ k.rights) × ToldWrite from (λ a. a ≡ deleting (id_of text)) v w r
Tells told from serves (Some (Said.delete_where text)) v k w l r =
    (l.rights ≡ k.rights)
    × ToldWrite from (λ a. (q : Result Query Refusal) × IsQueryOf from.start.schema text q × (a ≡ deleting_where q)) v w r
Tells told from serves (Some Said.refresh) v k w l r = Rests v k w l × ToldRefresh from v w r
Tells told from serves (Some Said.open_newest) v k w l r = Idle v w × ToldOpen from None v w k.rights l.rights r
Tells told from serves (Some (Said.open_at t)) v k w l r = Idle v w × ToldOpen from (Some t) v w k.rights l.rights r
Tells told from serves (Some (Said.close t)) v k w l r = Idle v w × ToldClose v.session t k.rights l.rights r
Tells told from serves (Some (Said.find t n sort mark text)) v k w l r =
    Rests v k w l × ToldQuery from v k.rights t text (Read.find n sort mark) r
Tells told from serves (Some (Said.facets t dim n text)) v k w l r =
    Rests v k w l × ToldQuery from v k.rights t text (Read.facets dim n) r
Tells told from serves (Some (Said.get t text)) v k w l r = Rests v k w l × ToldGet told v.session k.rights t text r
Tells told from serves (Some (Said.files_of_token t)) v k w l r = Rests v k w l × ToldNames v.session k.rights t r
Tells told from serves (Some (Said.commit text)) v k w l r = Rests v k w l × ToldCommit serves text r
Tells told from serves (Some (Said.chore c)) v k w l r = Rests v k w l × ToldUpkeep serves v.session (Said.chore c) r
Tells told from serves (Some said) v k w l r = Rests v k w l × serves said r
