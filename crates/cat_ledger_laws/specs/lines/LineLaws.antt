-- The laws that tie what memory and its device carry to the replies to lines, command by command.
use Rattle.std.specs.Prelude.{◌≡◌, ℕ, ◌+◌, ◌-◌, ◌<◌, ◌&&◌, ◌==◌, not, false, length, Ok, Err, IsTrue}
use Rattle.std.specs.List.{list_any}
use Rattle.cat_model.specs.cat_base.declared.refusal.Refusal.{Refusal}
use Rattle.cat_model.specs.cat_base.declared.refusal.Refusal.TheVariants.{Memory}
use Rattle.cat_model.specs.Text.{Text}
use Rattle.cat_model.specs.Item.{Item, IsItem}
use Rattle.cat_model.specs.Query.{Query}
use Rattle.cat_model.specs.Write.{Write}
use Rattle.cat_model.specs.Limits.{last_number, snapshot_limit}
use Rattle.cat_model.specs.Run.{Command, Line, Answer, Reply, is_full, is_looked_at, may_refuse}
use Rattle.cat_model.specs.State.{held_in, snapshots_in}
use Rattle.cat_ledger_laws.specs.model.Ledger.{Ledger}
use Rattle.cat_ledger_laws.specs.model.Plans.{MergePolicy}
use Rattle.cat_ledger_laws.specs.model.Calls.{wrote, Flushes, RecordsView, Pruned, Committed, Snaps, Unsnapped}
use Rattle.cat_ledger_laws.specs.model.Replies.{MakesRoom, IsLeft, Calls}
use Rattle.cat_ledger_laws.specs.shape.Shapes.{Shape}
use Rattle.cat_ledger_laws.specs.shape.Steps.{tokens_of}
use Rattle.cat_ledger_laws.specs.shape.Ties.{ToldFiles, Makes, TouchesNothing}
use Rattle.cat_ledger_laws.specs.lines.RunLaws.{AnswersCarried}

-- the line of a session
abbrev pub line_of : ℕ → Command → Line
line_of session c = record { session = session; command = c }

-- nothing has changed, in memory or on the device
abbrev pub NothingChanges : ToldFiles → Shape → ToldFiles → Shape → Type 0
NothingChanges told s told' new = (new ≡ s) × TouchesNothing told told'

-- the reply that tells a number
abbrev pub tells : ℕ → Reply
tells n = Ok (Answer.number n)

-- What the model's calls make of each ledger that is carried answers the line.
abbrev pub CallsAnswer : Type 0
CallsAnswer = (policy : MergePolicy) (told told' : ToldFiles) (s new : Shape) (line : Line) (reply : Reply)
    → Makes (λ l l'. Calls policy l line reply l') told s told' new → AnswersCarried policy told s line reply told' new

-- ---- what is carried out

-- there is room in the buffer, or a flush makes some; then the item is put
abbrev pub Puts : Item → Ledger → Ledger → Type 0
Puts i l new = (mid : Ledger) × MakesRoom l mid × (new ≡ wrote mid (Write.put i))

abbrev pub PutsAnswer : Type 0
PutsAnswer = (policy : MergePolicy) (told told' : ToldFiles) (s new : Shape) (session : ℕ) (i : Item) → s.count < last_number → IsItem s.schema i
    → Makes (Puts i) told s told' new → AnswersCarried policy told s (line_of session (Command.put (Ok i))) (tells (s.count + 1)) told' new

abbrev pub DeletesAnswer : Type 0
DeletesAnswer = (policy : MergePolicy) (told told' : ToldFiles) (s new : Shape) (session : ℕ) (id : Text) → s.count < last_number
    → Makes (λ l l'. l' ≡ wrote l (Write.delete id)) told s told' new
    → AnswersCarried policy told s (line_of session (Command.delete (Ok id))) (tells (s.count + 1)) told' new

abbrev pub QueryDeletesAnswer : Type 0
QueryDeletesAnswer = (policy : MergePolicy) (told told' : ToldFiles) (s new : Shape) (session : ℕ) (q : Query) → s.count < last_number
    → Makes (λ l l'. l' ≡ wrote l (Write.delete_where q)) told s told' new
    → AnswersCarried policy told s (line_of session (Command.delete_where (Ok q))) (tells (s.count + 1)) told' new

-- a view of now stands, or may: not all are held, or more may stand
abbrev pub MayRefresh : Shape → Type 0
MayRefresh s = (not (list_any (λ v. v.token == s.count) s.views) && is_full (held_in s.holds) (tokens_of s.views)) ≡ false

-- what waits is flushed, and a view of now is recorded
abbrev pub Refreshes : Ledger → Ledger → Type 0
Refreshes l new = (mid : Ledger) × Flushes l mid × RecordsView mid new

abbrev pub RefreshesAnswer : Type 0
RefreshesAnswer = (policy : MergePolicy) (told told' : ToldFiles) (s new : Shape) (session : ℕ) → MayRefresh s
    → Makes Refreshes told s told' new → AnswersCarried policy told s (line_of session Command.refresh) (tells s.count) told' new

abbrev pub PrunesAnswer : Type 0
PrunesAnswer = (policy : MergePolicy) (told told' : ToldFiles) (s new : Shape) (session n : ℕ)
    → Makes (Pruned n) told s told' new
    → AnswersCarried policy told s (line_of session (Command.prune n)) (tells (length s.views - length new.views)) told' new

-- what waits is flushed, and a commit of now is kept
abbrev pub Commits : Text → Ledger → Ledger → Type 0
Commits text l new = (mid : Ledger) × Flushes l mid × Committed text mid new

abbrev pub CommitsAnswer : Type 0
CommitsAnswer = (policy : MergePolicy) (told told' : ToldFiles) (s new : Shape) (session : ℕ) (text : Text)
    → Makes (Commits text) told s told' new → AnswersCarried policy told s (line_of session (Command.commit (Ok text))) (tells s.next_generation) told' new

abbrev pub SnapsAnswer : Type 0
SnapsAnswer = (policy : MergePolicy) (told told' : ToldFiles) (s new : Shape) (session g : ℕ) → snapshots_in s.taken g < snapshot_limit
    → Makes (Snaps g) told s told' new → AnswersCarried policy told s (line_of session Command.snapshot) (tells g) told' new

abbrev pub UnsnapsAnswer : Type 0
UnsnapsAnswer = (policy : MergePolicy) (told told' : ToldFiles) (s new : Shape) (session g : ℕ) → 0 < snapshots_in s.taken g
    → Makes (Unsnapped g) told s told' new
    → AnswersCarried policy told s (line_of session (Command.release_snapshot g)) (tells (snapshots_in s.taken g - 1)) told' new

-- ---- what is stopped

-- Want of memory may stop each line that is looked at.
abbrev pub MemoryAnswers : Type 0
MemoryAnswers = (policy : MergePolicy) (told told' : ToldFiles) (s new : Shape) (line : Line) → IsTrue (is_looked_at line.session line.command)
    → Makes IsLeft told s told' new → AnswersCarried policy told s line (Err Memory) told' new

-- A PUT may be stopped where a number is left for it.
abbrev pub StoppedPutsAnswer : Type 0
StoppedPutsAnswer = (policy : MergePolicy) (told told' : ToldFiles) (s new : Shape) (session : ℕ) (i : Item) (e : Refusal)
    → s.count < last_number → IsTrue (may_refuse (Command.put (Ok i)) e)
    → Makes IsLeft told s told' new → AnswersCarried policy told s (line_of session (Command.put (Ok i))) (Err e) told' new

-- A REFRESH may be stopped where a view of now may stand.
abbrev pub StoppedRefreshesAnswer : Type 0
StoppedRefreshesAnswer = (policy : MergePolicy) (told told' : ToldFiles) (s new : Shape) (session : ℕ) (e : Refusal)
    → MayRefresh s → IsTrue (may_refuse Command.refresh e)
    → Makes IsLeft told s told' new → AnswersCarried policy told s (line_of session Command.refresh) (Err e) told' new
