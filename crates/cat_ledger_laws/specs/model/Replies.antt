-- What the ledger's calls make of it for each command, and the reply to it. Not to be believed: the laws tie it to the steps
-- of the service, and by it the calls in code are proved.
use Rattle.std.specs.Prelude.{◌≡◌, ◌≢◌, ◌⊎◌, ℕ, ◌+◌, ◌-◌, ◌<◌, ◌≤◌, ◌==◌, ltb, List, [], length, map, cond, Some, None, Ok, Err, IsTrue}
use Rattle.cat_model.specs.cat_base.declared.refusal.Refusal.TheVariants.{Line as NoForm, Spent, Full, Gone, NotHeld, NoCommit, NoSnapshot, Memory}
use Rattle.cat_model.specs.Text.{Text}
use Rattle.cat_model.specs.Item.{IsItem}
use Rattle.cat_model.specs.Write.{Write}
use Rattle.cat_model.specs.Files.{Name}
use Rattle.cat_model.specs.Run.{Chore, News, Command, Line, Answer, Reply, greatest, may_tell, text_under, snapshot_of, read_reply}
use Rattle.cat_model.specs.Limits.{last_number, buffer_limit}
use Rattle.cat_model.specs.State.{told_by, has_hold, has_commit, snapshots_in, table_under, refuses_refresh, with_hold, without_hold, Halts}
use Rattle.cat_model.specs.Window.{IsWindow}
use Rattle.cat_ledger_laws.specs.model.Portions.{Merging}
use Rattle.cat_ledger_laws.specs.model.Ledger.{Ledger, state_of}
use Rattle.cat_ledger_laws.specs.model.Calls.{tokens_in, has_recorded, newest_in, wrote, Flushes, Flushed, RecordsView, Pruned, MergeBegun, Copied, records_passed_on, Installed, Committed, Snaps, Unsnapped, MayLeave, Ended}
use Rattle.cat_ledger_laws.specs.model.Plans.{MergePolicy, sizes_of, live_sets_of, MayBeForced}

-- a PUT that finds the buffer full flushes first
abbrev pub MakesRoom : Ledger → Ledger → Type 0
MakesRoom l mid = cond (ltb (length l.buffered) buffer_limit) (mid ≡ l) (Flushed l mid)

-- What maintenance tells, and what it makes of the ledger. A merge in the making goes on; else that of the window is begun, if there
-- is one. FORCE begins one of all segments where none is in the making.
abbrev pub Maintains : MergePolicy → Chore → News → Ledger → Ledger → Type 0
Maintains policy Chore.merge News.idle l new = (l.merging ≡ None) × IsWindow policy.factor policy.least (sizes_of l.portions) None × (new ≡ l)
Maintains policy Chore.merge (News.begun_merge k) l new =
    (k ≡ policy.factor) × (index : ℕ) × IsWindow policy.factor policy.least (sizes_of l.portions) (Some index) × MergeBegun index k l new
Maintains policy Chore.merge (News.copied n) l new = (m : Merging) × Copied m l new × (n ≡ (records_passed_on m).passed)
Maintains policy Chore.merge News.done l new = (m : Merging) × Installed m l new
Maintains policy Chore.force News.idle l new =
    (l.merging ≡ None) × (MayBeForced (sizes_of l.portions) (live_sets_of l.portions) → ⊥) × (new ≡ l)
Maintains policy Chore.force News.busy l new = (l.merging ≢ None) × (new ≡ l)
Maintains policy Chore.force (News.begun_merge k) l new =
    (k ≡ length l.portions) × MayBeForced (sizes_of l.portions) (live_sets_of l.portions) × MergeBegun 0 k l new
Maintains policy Chore.sweep (News.swept n) l new = MayLeave [] l new
Maintains policy c n l new = IsTrue (may_tell c n) × (new ≡ l)

-- the ledger after the reply to SNAP
abbrev pub SnapsBy : Ledger → Reply → Ledger → Type 0
SnapsBy l (Ok (Answer.number g)) new = Snaps g l new
SnapsBy l _ new = new ≡ l

-- the reply to a command that nothing stops
abbrev pub CarriesOut : MergePolicy → Ledger → ℕ → Command → Reply → Ledger → Type 0
CarriesOut policy l s Command.formless r new = (r ≡ Err NoForm) × (new ≡ l)
CarriesOut policy l s (Command.put (Ok i)) r new =
    cond (ltb l.count last_number)
    ((mid : Ledger) × MakesRoom l mid × IsItem l.schema i × (r ≡ Ok (Answer.number (l.count + 1))) × (new ≡ wrote mid (Write.put i)))
    ((r ≡ Err Spent) × (new ≡ l))
CarriesOut policy l s (Command.put (Err e)) r new = (r ≡ Err e) × (new ≡ l)
CarriesOut policy l s (Command.delete (Ok id)) r new =
    cond (ltb l.count last_number) ((r ≡ Ok (Answer.number (l.count + 1))) × (new ≡ wrote l (Write.delete id))) ((r ≡ Err Spent) × (new ≡ l))
CarriesOut policy l s (Command.delete (Err e)) r new = (r ≡ Err e) × (new ≡ l)
CarriesOut policy l s (Command.delete_where (Ok q)) r new =
    cond (ltb l.count last_number) ((r ≡ Ok (Answer.number (l.count + 1))) × (new ≡ wrote l (Write.delete_where q))) ((r ≡ Err Spent) × (new ≡ l))
CarriesOut policy l s (Command.delete_where (Err e)) r new = (r ≡ Err e) × (new ≡ l)
CarriesOut policy l s Command.refresh r new =
    cond (refuses_refresh (state_of l))
    ((r ≡ Err Full) × (new ≡ l))
    ((mid : Ledger) × Flushes l mid × RecordsView mid new × (r ≡ Ok (Answer.number l.count)))
CarriesOut policy l s Command.open_newest r new =
    (r ≡ Ok (Answer.number (greatest (tokens_in l.views))))
    × (new ≡ record l { holds = (with_hold (state_of l) s (greatest (tokens_in l.views))).holds })
CarriesOut policy l s (Command.open_at t) r new =
    cond (has_recorded l.views t)
    ((r ≡ Ok (Answer.number t)) × (new ≡ record l { holds = (with_hold (state_of l) s t).holds }))
    ((r ≡ Err Gone) × (new ≡ l))
CarriesOut policy l s (Command.close t) r new =
    cond (has_hold l.holds s t)
    ((r ≡ Ok (Answer.number t)) × (new ≡ record l { holds = (without_hold (state_of l) s t).holds }))
    ((r ≡ Err NotHeld) × (new ≡ l))
CarriesOut policy l s (Command.read t asked) r new =
    (r ≡ read_reply (has_hold l.holds s t) l.schema (table_under (state_of l).views t) asked) × (new ≡ l)
CarriesOut policy l s (Command.files_of_token t) r new =
    cond (has_hold l.holds s t) ((ns : List Text) × (r ≡ Ok (Answer.names ns))) (r ≡ Err NotHeld) × (new ≡ l)
CarriesOut policy l s (Command.chore c) r new =
    cond (s == 0) ((n : News) × (r ≡ Ok (Answer.news n)) × Maintains policy c n l new) ((r ≡ Err NoForm) × (new ≡ l))
CarriesOut policy l s (Command.prune n) r new = (r ≡ Ok (Answer.number (length l.views - length new.views))) × Pruned n l new
CarriesOut policy l s (Command.commit (Err e)) r new = (r ≡ Err e) × (new ≡ l)
CarriesOut policy l s (Command.commit (Ok text)) r new =
    (mid : Ledger) × Flushes l mid × Committed text mid new × (r ≡ Ok (Answer.number mid.next_generation))
CarriesOut policy l s Command.snapshot r new = (r ≡ snapshot_of (snapshots_in l.taken) (newest_in l.commits)) × SnapsBy l r new
CarriesOut policy l s (Command.release_snapshot g) r new =
    cond (ltb 0 (snapshots_in l.taken g))
    ((r ≡ Ok (Answer.number (snapshots_in l.taken g - 1))) × Unsnapped g l new)
    ((r ≡ Err NoSnapshot) × (new ≡ l))
CarriesOut policy l s (Command.files_of_commit g) r new =
    cond (has_commit (state_of l).commits g) ((ns : List Text) × (r ≡ Ok (Answer.names ns))) (r ≡ Err NoCommit)
    × (new ≡ l)
CarriesOut policy l s (Command.text_of_commit g) r new =
    (r ≡ cond (has_commit (state_of l).commits g) (Ok (Answer.commit_text (text_under (map told_by (state_of l).commits) g))) (Err NoCommit))
    × (new ≡ l)

-- what a command leaves that was stopped: a flush that ended stays done, the merge in the making may have ended, files that
-- were begun are known, and numbers that were taken stay taken, of each kind one at most
pub record IsLeft (l new : Ledger) : Type 0 where
  pub flushed : Ledger
  pub ended : Ledger
  pub begun : List Name
  pub flush : (flushed ≡ l) ⊎ Flushed l flushed
  pub merge : (ended ≡ flushed) ⊎ ((m : Merging) × Ended m flushed ended)
  pub one_segment : new.next_segment ≤ l.next_segment + 1
  pub rest : MayLeave begun ended new

-- a COMMIT that finds no generation left is refused before it does anything
abbrev pub FindsNone : Ledger → Command → Reply → Ledger → Type 0
FindsNone l (Command.commit (Ok text)) r new = (r ≡ Err Spent) × (last_number < l.next_generation) × (new ≡ l)
FindsNone l _ r new = ⊥

-- where none is left, nothing but want of memory stops a COMMIT
abbrev pub MayStop : Ledger → Command → Reply → Type 0
MayStop l (Command.commit (Ok text)) r = (r ≡ Err Memory) ⊎ (l.next_generation ≤ last_number)
MayStop l _ r = Unit {0}

-- The ledger's calls for a line, with the reply, where segments are merged by the policy. What stops a command changes nothing that shows.
abbrev pub Calls : MergePolicy → Ledger → Line → Reply → Ledger → Type 0
Calls policy l line r new =
    CarriesOut policy l line.session line.command r new
    ⊎ (Halts l.schema (state_of l) line.session line.command r × IsLeft l new × MayStop l line.command r)
    ⊎ FindsNone l line.command r new
