-- Runs: lists of lines with their replies, and which replies fit.
--
-- After Lucene: REFRESH, OPEN, CLOSE and PRUNE are record, acquire, release and prune of SearcherLifetimeManager; COMMIT is
-- IndexWriter.commit under KeepOnlyLastCommitDeletionPolicy, and its text is IndexWriter.setLiveCommitData; SNAP and UNSNAP
-- are snapshot and release of SnapshotDeletionPolicy. Our own are: that a token is the number of writes, that at most
-- `view_limit` views are recorded, pruning by a count, holds by session, and the order of the refusals.
--
-- Some replies are left open here. FILES may tell any names: which files are needed is said where files are. What maintenance
-- tells, STAT's numbers too, is pinned by its form alone (`may_tell`): a run doesn't say when segments are merged, nor what a cache
-- keeps. A COMMIT may be told any generation above those before it. What these tell is said of a service as it stands between
-- two lines (`Standings`).
--
-- Each command but `formless` is what some line says (`Said` of Lines.antt), and is answered.
use Rattle.std.specs.Prelude.{◌≡◌, ◌⊎◌, ℕ, ◌+◌, ◌-◌, ◌<◌, ◌≤◌, Bool, true, false, not, ◌&&◌, ◌||◌, ltb, max, List, [], ◌∷◌, ◌++◌, length, filter, filter_map, map, count_by, Option, Some, None, option_to_list, find, Result, Ok, Err, cond, IsTrue, ◌==◌}
use Rattle.std.specs.List.{list_any, list_all, last_or}
use Rattle.std.specs.Option.{option_map_or, unwrap_or}
use Rattle.std.specs.Result.{result_map_both}
use Rattle.cat_base.specs.declared.refusal.Refusal.{Refusal}
use Rattle.cat_base.specs.Refusals.{number_of}
use Rattle.cat_base.specs.declared.refusal.Refusal.TheVariants.{Line as NoForm, Spent, NotHeld, Gone, Full, NoCommit, NoSnapshot, Device, Damaged, Memory}
use Rattle.cat_model.specs.Text.{Text}
use Rattle.cat_model.specs.Item.{Item, Record, Schema}
use Rattle.cat_model.specs.Query.{Query}
use Rattle.cat_model.specs.Write.{Write}
use Rattle.cat_model.specs.Table.{Start, Opened, CommitText, table, count}
use Rattle.cat_model.specs.Answer.{Read, Found, answer, query_refusal}
use Rattle.cat_model.specs.Limits.{last_number, snapshot_limit, view_limit}

-- the maintenance that session 0 alone may ask for
pub data Chore : Type 0 where
  merge : Chore
  force : Chore
  warm : Chore
  sweep : Chore
  stat : Chore

-- A command with its arguments read: a wrong item, id, query or text is the refusal of its fault.
pub data Command : Type 0 where
  formless : Command
  put : Result Item Refusal → Command
  delete : Result Text Refusal → Command
  delete_where : Result Query Refusal → Command
  refresh : Command
  open_newest : Command
  open_at : ℕ → Command
  close : ℕ → Command
  read : ℕ → Read → Command
  prune : ℕ → Command
  commit : Result Text Refusal → Command
  snapshot : Command
  release_snapshot : ℕ → Command
  files_of_token : ℕ → Command
  files_of_commit : ℕ → Command
  text_of_commit : ℕ → Command
  chore : Chore → Command

-- a session, and what it says
pub record Line : Type 0 where
  pub session : ℕ
  pub command : Command

-- what STAT tells of a segment: its number, how many rows it has, and how many of them are live
pub record SegmentStat : Type 0 where
  pub number : ℕ
  pub rows : ℕ
  pub live : ℕ

-- what STAT tells: how many writes were accepted, records wait in the buffer, views are recorded, sets of rows are cached
-- and files wait to be deleted; and each segment
pub record Stat : Type 0 where
  pub writes : ℕ
  pub buffered : ℕ
  pub views : ℕ
  pub cached : ℕ
  pub pending : ℕ
  pub segments : List SegmentStat

-- what maintenance tells
pub data News : Type 0 where
  idle : News
  busy : News
  begun_merge : ℕ → News
  copied : ℕ → News
  done : News
  begun_warming : News
  warmed : ℕ → News
  stored : News
  swept : ℕ → News
  state : Stat → News

-- the forms that the line's reply may have
abbrev pub may_tell : Chore → News → Bool
may_tell Chore.merge News.idle = true
may_tell Chore.merge (News.begun_merge k) = true
may_tell Chore.merge (News.copied r) = true
may_tell Chore.merge News.done = true
may_tell Chore.force News.idle = true
may_tell Chore.force (News.begun_merge k) = true
may_tell Chore.force News.busy = true
may_tell Chore.warm News.idle = true
may_tell Chore.warm News.begun_warming = true
may_tell Chore.warm (News.warmed r) = true
may_tell Chore.warm News.stored = true
may_tell Chore.sweep (News.swept n) = true
may_tell Chore.stat (News.state st) = true
may_tell _ _ = false

-- what stands after OK
pub data Answer : Type 0 where
  number : ℕ → Answer
  found : Found → Answer
  names : List Text → Answer
  commit_text : Text → Answer
  news : News → Answer

-- an answer or a refusal
abbrev pub Reply : Type 0
Reply = Result Answer Refusal

-- a line and the reply to it
pub record Exchange : Type 0 where
  pub line : Line
  pub reply : Reply

-- what was said and replied, in order
abbrev pub Run : Type 0
Run = List Exchange

-- the accepted write of an exchange
abbrev pub accepted_by : Command → Reply → Option Write
accepted_by (Command.put (Ok i)) (Ok a) = Some (Write.put i)
accepted_by (Command.delete (Ok id)) (Ok a) = Some (Write.delete id)
accepted_by (Command.delete_where (Ok q)) (Ok a) = Some (Write.delete_where q)
accepted_by _ _ = None

-- the write that the exchange adds to those accepted, if it does
abbrev pub accepted : Exchange → Option Write
accepted e = accepted_by e.line.command e.reply

-- the accepted writes of a run, in order
abbrev pub writes : Run → List Write
writes run = filter_map (λ e. accepted_by e.line.command e.reply) run

-- the number of writes at the end of the run
abbrev pub now : Start → Run → ℕ
now start run = count start (writes run)

-- whether the exchange begins a hold of t (true), ends one (false), or neither
abbrev pub hold_by : ℕ → Command → Reply → Option Bool
hold_by t Command.open_newest (Ok (Answer.number u)) = cond (u == t) (Some true) None
hold_by t (Command.open_at v) (Ok (Answer.number u)) = cond (u == t) (Some true) None
hold_by t (Command.close u) (Ok a) = cond (u == t) (Some false) None
hold_by t _ _ = None

-- the session has been answered an OPEN with this token, and no CLOSE of it after that
abbrev pub holds : ℕ → ℕ → Run → Bool
holds s t run = unwrap_or (last_or None (filter_map (λ e. cond (e.line.session == s) (hold_by t e.line.command e.reply) None) run)) false

-- some session that has spoken holds the token
abbrev pub is_held : Run → ℕ → Bool
is_held run t = list_any (λ e. holds e.line.session t run) run

-- the token is one of the list
abbrev pub has : List ℕ → ℕ → Bool
has ts t = list_any (λ u. u == t) ts

-- without the least token that no session holds
abbrev pub without_least_free : (ℕ → Bool) → List ℕ → List ℕ
without_least_free held ts = filter (λ t. held t || list_any (λ u. not (held u) && ltb u t) ts) ts

-- those that are held or among the greatest max n 1
abbrev pub pruned : (ℕ → Bool) → ℕ → List ℕ → List ℕ
pruned held n ts = filter (λ t. held t || ltb (count_by (λ u. ltb t u) ts) (max n 1)) ts

-- with this token recorded: nothing changes where it is so already, and at the limit the least one that is not held goes
abbrev pub with_view : (ℕ → Bool) → List ℕ → ℕ → List ℕ
with_view held ts t = cond (has ts t) ts (cond (ltb (length ts) view_limit) ts (without_least_free held ts) ++ t ∷ [])

-- the tokens of the recorded views after an exchange, by what was held before it
abbrev pub view_tokens_by : (ℕ → Bool) → List ℕ → Command → Reply → List ℕ
view_tokens_by held ts Command.refresh (Ok (Answer.number t)) = with_view held ts t
view_tokens_by held ts (Command.prune n) (Ok a) = pruned held n ts
view_tokens_by held ts _ _ = ts

-- the tokens after the rest of a run, where these stood after its past
abbrev pub view_tokens_from : List ℕ → Run → Run → List ℕ
view_tokens_from ts past [] = ts
view_tokens_from ts past (e ∷ rest) =
    view_tokens_from (view_tokens_by (is_held past) ts e.line.command e.reply) (past ++ e ∷ []) rest

-- the tokens of the recorded views at the end of the run, rising; a service opens with one, of its start
abbrev pub view_tokens : Start → Run → List ℕ
view_tokens start run = view_tokens_from (start.token ∷ []) [] run

-- the commit that a COMMIT made: the generation that it was answered, with its text
abbrev pub commit_by : Command → Reply → Option CommitText
commit_by (Command.commit (Ok text)) (Ok (Answer.number g)) = Some (record { generation = g; text = text })
commit_by _ _ = None

-- the commits so far, kept or not: the opened one first, where one was opened
abbrev pub commits : Opened → Run → List CommitText
commits from run = option_to_list from.commit ++ filter_map (λ e. commit_by e.line.command e.reply) run

-- the commit, if there is one, has this generation
abbrev pub has_generation : ℕ → Option CommitText → Bool
has_generation g c = list_any (λ x. x.generation == g) (option_to_list c)

-- How many writes were accepted before the commit of this generation, if the rest of a run made it behind its past. A COMMIT that was
-- answered OK has all writes of its past.
abbrev pub committed_from : Start → ℕ → Run → Run → Option ℕ
committed_from start g past [] = None
committed_from start g past (e ∷ rest) =
    cond (has_generation g (commit_by e.line.command e.reply)) (Some (now start past)) (committed_from start g (past ++ e ∷ []) rest)

-- how many writes were accepted before the commit of this generation: the opened one, where one was opened, has those of the start
abbrev pub committed_at : Opened → Run → ℕ → Option ℕ
committed_at from run g = cond (has_generation g from.commit) (Some from.start.token) (committed_from from.start g [] run)

-- their generations
abbrev pub generations : Opened → Run → List ℕ
generations from run = map (λ c. c.generation) (commits from run)

-- the one of the commits that has this generation
abbrev pub commit_under : List CommitText → ℕ → Option CommitText
commit_under cs g = find (λ c. c.generation == g) cs

-- its text
abbrev pub text_under : List CommitText → ℕ → Text
text_under cs g = option_map_or (λ c. c.text) (find (λ c. c.generation == g) cs) []

-- the newest commit, which is kept (KeepOnlyLastCommitDeletionPolicy)
abbrev pub newest_commit : Opened → Run → Option ℕ
newest_commit from run = last_or None (generations from run)

-- the exchange takes a snapshot of g (SnapshotDeletionPolicy.snapshot)
abbrev pub takes_snapshot : ℕ → Command → Reply → Bool
takes_snapshot g Command.snapshot (Ok (Answer.number h)) = g == h
takes_snapshot g _ _ = false

-- the exchange gives a snapshot of g back (SnapshotDeletionPolicy.release)
abbrev pub gives_snapshot : ℕ → Command → Reply → Bool
gives_snapshot g (Command.release_snapshot h) (Ok a) = g == h
gives_snapshot g _ _ = false

-- snapshots of g that are taken and not released
abbrev pub snapshots : Run → ℕ → ℕ
snapshots run g =
    count_by (λ e. takes_snapshot g e.line.command e.reply) run - count_by (λ e. gives_snapshot g e.line.command e.reply) run

-- the commit is the newest, or has a snapshot
abbrev pub is_kept : Opened → Run → ℕ → Bool
is_kept from run g = list_any (λ h. g == h) (option_to_list (newest_commit from run)) || ltb 0 (snapshots run g)

-- whether the session's command is looked at at all
abbrev pub is_looked_at : ℕ → Command → Bool
is_looked_at s Command.formless = false
is_looked_at s (Command.chore c) = s == 0
is_looked_at s _ = true

-- a limit that is used up, a failing device and a damaged file, each where it may refuse in place of the command's answer
abbrev pub refusals_of : Command → List Refusal
refusals_of (Command.put i) = Spent ∷ Device ∷ []
refusals_of Command.refresh = Spent ∷ Device ∷ []
refusals_of (Command.read t (Read.get id)) = Device ∷ Damaged ∷ []
refusals_of (Command.commit text) = Spent ∷ Device ∷ []
refusals_of (Command.chore Chore.merge) = Spent ∷ Device ∷ Damaged ∷ []
refusals_of (Command.chore Chore.force) = Spent ∷ Device ∷ []
refusals_of (Command.chore Chore.sweep) = Device ∷ []
refusals_of _ = []

-- one of these or want of memory, by their numbers
abbrev pub may_refuse : Command → Refusal → Bool
may_refuse c e = list_any (λ other. number_of e == number_of other) (Memory ∷ refusals_of c)

-- what was found is told, or why nothing was
abbrev pub found_reply : Result Found Refusal → Reply
found_reply r = result_map_both Answer.found (λ e. e) r

-- a fault of the read comes before that its token is not held
abbrev pub or_not_held : Option Refusal → Reply
or_not_held fault = Err (unwrap_or fault NotHeld)

-- the reply to a read, by whether its token is held: the answer over the table at it
abbrev pub read_reply : Bool → Schema → List Record → Read → Reply
read_reply held schema rs asked =
    cond held (result_map_both Answer.found (λ e. e) (answer schema rs asked)) (Err (unwrap_or (query_refusal asked) NotHeld))

-- the reply to a write after so many
abbrev pub write_reply : ℕ → Reply
write_reply n = cond (ltb n last_number) (Ok (Answer.number (n + 1))) (Err Spent)

-- the reply to SNAP: the newest commit, if there is one and it may have one snapshot more
abbrev pub snapshot_of : (ℕ → ℕ) → Option ℕ → Reply
snapshot_of taken None = Err NoCommit
snapshot_of taken (Some g) = cond (ltb (taken g) snapshot_limit) (Ok (Answer.number g)) (Err Spent)

-- each of the tokens is held, and no more may stand
abbrev pub is_full : (ℕ → Bool) → List ℕ → Bool
is_full held ts = not (ltb (length ts) view_limit) && list_all held ts

-- the greatest of the tokens
abbrev pub greatest : List ℕ → ℕ
greatest [] = 0
greatest (t ∷ ts) = max t (greatest ts)

-- the fitting replies, the causes of `may_refuse` apart
abbrev pub Answers : Opened → Run → ℕ → Command → Reply → Type 0
Answers from past s Command.formless r = r ≡ Err NoForm
Answers from past s (Command.put (Ok i)) r = r ≡ write_reply (now from.start past)
Answers from past s (Command.put (Err e)) r = r ≡ Err e
Answers from past s (Command.delete (Ok id)) r = r ≡ write_reply (now from.start past)
Answers from past s (Command.delete (Err e)) r = r ≡ Err e
Answers from past s (Command.delete_where (Ok q)) r = r ≡ write_reply (now from.start past)
Answers from past s (Command.delete_where (Err e)) r = r ≡ Err e
Answers from past s Command.refresh r =
    r ≡ cond (not (has (view_tokens from.start past) (now from.start past)) && is_full (is_held past) (view_tokens from.start past))
    (Err Full)
    (Ok (Answer.number (now from.start past)))
Answers from past s Command.open_newest r = r ≡ Ok (Answer.number (greatest (view_tokens from.start past)))
Answers from past s (Command.open_at t) r = r ≡ cond (has (view_tokens from.start past) t) (Ok (Answer.number t)) (Err Gone)
Answers from past s (Command.close t) r = r ≡ cond (holds s t past) (Ok (Answer.number t)) (Err NotHeld)
Answers from past s (Command.read t asked) r =
    r ≡ read_reply (holds s t past) from.start.schema (table from.start (writes past) t) asked
Answers from past s (Command.prune n) r =
    r ≡ Ok (Answer.number (length (view_tokens from.start past) - length (pruned (is_held past) n (view_tokens from.start past))))
Answers from past s (Command.commit (Err e)) r = r ≡ Err e
Answers from past s (Command.commit (Ok text)) r =
    cond (list_all (λ h. ltb h last_number) (generations from past))
    ((g : ℕ) × (r ≡ Ok (Answer.number g)) × (0 < g) × (g ≤ last_number) × IsTrue (list_all (λ h. ltb h g) (generations from past)))
    (r ≡ Err Spent)
Answers from past s Command.snapshot r = r ≡ snapshot_of (snapshots past) (newest_commit from past)
Answers from past s (Command.release_snapshot g) r =
    r ≡ cond (ltb 0 (snapshots past g)) (Ok (Answer.number (snapshots past g - 1))) (Err NoSnapshot)
Answers from past s (Command.files_of_token t) r =
    cond (holds s t past) ((ns : List Text) × (r ≡ Ok (Answer.names ns))) (r ≡ Err NotHeld)
Answers from past s (Command.files_of_commit g) r =
    cond (is_kept from past g) ((ns : List Text) × (r ≡ Ok (Answer.names ns))) (r ≡ Err NoCommit)
Answers from past s (Command.text_of_commit g) r =
    r ≡ cond (is_kept from past g) (Ok (Answer.commit_text (text_under (commits from past) g))) (Err NoCommit)
Answers from past s (Command.chore c) r =
    cond (s == 0) ((n : News) × (r ≡ Ok (Answer.news n)) × IsTrue (may_tell c n)) (r ≡ Err NoForm)

-- the exchange is a refusal that may stand in place of the answer
abbrev pub Refuses : Command → Reply → Type 0
Refuses c r = (e : Refusal) × (r ≡ Err e) × IsTrue (may_refuse c e)

-- Want of memory may stop every line that is looked at, also one that is due another refusal. The other refusals of
-- `may_refuse` come last: an OK would fit. So a COMMIT judges its generation before it does anything: where none is left it
-- is 16, and never 30.
abbrev pub Stops : Opened → Run → ℕ → Command → Reply → Type 0
Stops from past s c r =
    ((r ≡ Err Memory) × IsTrue (is_looked_at s c)) ⊎ (Refuses c r × ((a : Answer) × Answers from past s c (Ok a)))

-- the reply fits the run before it
abbrev pub Fits : Opened → Run → Exchange → Type 0
Fits from past e = Answers from past e.line.session e.line.command e.reply ⊎ Stops from past e.line.session e.line.command e.reply

-- so with each exchange of the rest of a run, by what was before it
abbrev pub EachBehind : (Run → Exchange → Type 0) → Run → Run → Type 0
EachBehind So past [] = Unit {0}
EachBehind So past (e ∷ rest) = So past e × EachBehind So (past ++ e ∷ []) rest

-- each reply of the rest fits what was before it
abbrev pub FitsFrom : Opened → Run → Run → Type 0
FitsFrom from past rest = EachBehind (Fits from) past rest

-- each reply fits the run before it
abbrev pub IsRun : Opened → Run → Type 0
IsRun from run = EachBehind (Fits from) [] run
