-- What a call of the ledger's model makes of what a standing tells of it.
use Rattle.std.proofs.Common.{◌≡◌, ℕ, ◌+◌, ◌≤◌, List, [], ◌∷◌, length, Bool, true, false, true≢false, cond, ltb, refl, sym, ◌∙◌, ap, subst, arith, inl, inr}
use Rattle.std.specs.Prelude.{◌⊎◌, ◌==◌, not, filter, option_to_list, Ok, Err}
use Rattle.std.proofs.lemmas.List.{length-append}
use Rattle.std.proofs.lemmas.List.Filters.{length-filter_both}
use Rattle.cat_base.specs.declared.refusal.Refusal.{Refusal}
use Rattle.cat_base.specs.declared.refusal.Refusal.TheVariants.{Full, Memory, Spent}
use Rattle.cat_model.specs.Item.{Record, Schema}
use Rattle.cat_model.specs.Limits.{buffer_limit, last_number}
use Rattle.cat_model.specs.Run.{Answer, Chore, Command, Line, News, Reply, accepted_by}
use Rattle.cat_model.specs.Standings.{LiveRowsFall, moves_files}
use Rattle.cat_model.specs.State.{Halts, has_hold, refuses_refresh, snapshots_in}
use Rattle.cat_model.specs.Table.{without}
use Rattle.cat_model.specs.Write.{Write, removes}
use Rattle.cat_ledger_laws.specs.model.Calls.{Flushed, Flushes, RecordsNow, has_recorded, wrote}
use Rattle.cat_ledger_laws.specs.model.Ledger.{Ledger, state_of}
use Rattle.cat_ledger_laws.specs.model.Plans.{MergePolicy}
use Rattle.cat_ledger_laws.specs.model.Portions.{IsMerging}
use Rattle.cat_ledger_laws.specs.model.Replies.{Calls, CarriesOut, FindsNone, IsLeft, Maintains, SnapsBy}
use Rattle.cat_service.proofs.Portioned.{SegmentsFlow, SegmentsGo, falls_after, falls_not, flow_goes, merge_goes, portions_told, same_falls, told_flushed}

-- ---- lists

filtered : {X : Type 0} (p : X → Bool) (xs : List X) → length (filter p xs) ≤ length xs
filtered p xs = let e = length-filter_both p (λ x. not (p x)) (λ x. refl) xs in omega (arith, e)

-- ---- what is made of a ledger

-- how many writes the exchange adds to those accepted: one or none
abbrev pub writes_by : Command → Reply → ℕ
writes_by c reply = length (option_to_list (accepted_by c reply))

abbrev pub commits : Command → Bool
commits (Command.commit text) = true
commits c = false

-- a COMMIT that was answered OK took the generation
abbrev pub IsTakenBy : Command → Reply → (next new : ℕ) → Type 0
IsTakenBy c r next new = (a : Answer) → commits c ≡ true → r ≡ Ok a → new ≡ next + 1

-- a REFRESH or a COMMIT, behind which nothing waits
abbrev pub flushes : Command → Bool
flushes Command.refresh = true
flushes (Command.commit text) = true
flushes c = false

-- where one was answered OK, nothing waits
abbrev pub IsFlushedBy : Command → Reply → List Record → Type 0
IsFlushedBy c r waiting = (a : Answer) → flushes c ≡ true → r ≡ Ok a → length waiting ≡ 0

-- another line, or a refused one, owes neither
commit_flushes : (c : Command) → commits c ≡ true → flushes c ≡ true
commit_flushes (Command.commit text) commit = refl
commit_flushes _ commit = absurd (cc commit)

no_flush : (c : Command) (r : Reply) (waiting : List Record) → flushes c ≡ false → IsFlushedBy c r waiting
no_flush c r waiting other a flush ok = absurd (true≢false (sym flush ∙ other))

none_taken : (c : Command) (r : Reply) (next new : ℕ) → flushes c ≡ false → IsTakenBy c r next new
none_taken c r next new other a commit ok = absurd (true≢false (sym (commit_flushes c commit) ∙ other))

refused : {M : Type 0} (r : Reply) (e : Refusal) (a : Answer) → r ≡ Err e → r ≡ Ok a → M
refused r e a is ok = absurd (let no : ◌≡◌ {A = Reply} (Err e) (Ok a) = sym is ∙ ok in cc)

-- a chore, which alone may begin, move or end a merge
abbrev pub is_chore : Command → Bool
is_chore (Command.chore what) = true
is_chore c = false

-- another line that isn't refused leaves the merge in the making
abbrev pub LeavesMaking : Command → Reply → Ledger → Ledger → Type 0
LeavesMaking c r l new = is_chore c ≡ false → ((e : Refusal) × (r ≡ Err e)) ⊎ (new.merging ≡ l.merging)

-- the names that are known, with their users, and the numbers that come next are as they were
pub record FilesStay (l new : Ledger) : Type 0 where
  pub users : new.users ≡ l.users
  pub segment : new.next_segment ≡ l.next_segment
  pub generation : new.next_generation ≡ l.next_generation

-- so behind a line that moves no file and isn't refused
abbrev pub LeavesFiles : Command → Reply → Ledger → Ledger → Type 0
LeavesFiles c r l new = moves_files c ≡ false → ((e : Refusal) × (r ≡ Err e)) ⊎ FilesStay l new

files_same : (l new : Ledger) → new ≡ l → FilesStay l new
files_same l new k = record {
  users = ap (λ (x : Ledger). x.users) k;
  segment = ap (λ (x : Ledger). x.next_segment) k;
  generation = ap (λ (x : Ledger). x.next_generation) k;
}

-- so is all that a standing tells of it, but for the writes
pub record Moved (c : Command) (r : Reply) (l new : Ledger) : Type 0 where
  pub taken : IsTakenBy c r l.next_generation new.next_generation
  pub segments : SegmentsGo r (portions_told l.portions) l.next_segment (length l.buffered) (portions_told new.portions) new.next_segment
  pub flushed : IsFlushedBy c r new.buffered
  pub waits : length new.buffered ≤ length l.buffered + writes_by c r
  pub making : LeavesMaking c r l new
  pub files : LeavesFiles c r l new

-- what a flush, or nothing, makes of it
pub record Flows (l new : Ledger) : Type 0 where
  segments : SegmentsFlow (portions_told l.portions) l.next_segment (length l.buffered) (portions_told new.portions) new.next_segment
  waits : length new.buffered ≤ length l.buffered
  merging : new.merging ≡ l.merging
  next : new.next_generation ≡ l.next_generation

same_flows : (l new : Ledger) → new ≡ l → Flows l new
same_flows l new k = record {
  segments = inl (ap (λ (x : Ledger). portions_told x.portions) k);
  waits = (let a = ap (λ (x : Ledger). length x.buffered) k in omega (arith, a));
  merging = ap (λ (x : Ledger). x.merging) k;
  next = ap (λ (x : Ledger). x.next_generation) k;
}

flushed_flows : (l mid : Ledger) → Flushed l mid → Flows l mid
flushed_flows l mid k = record {
  segments = inr (
    k.some,
    ap (λ (x : Ledger). portions_told x.portions) k.rest ∙ told_flushed l.portions l.next_segment l.buffered,
    ap (λ (x : Ledger). x.next_segment) k.rest,
  );
  waits = (let a = ap (λ (x : Ledger). length x.buffered) k.rest in omega (arith, a));
  merging = ap (λ (x : Ledger). x.merging) k.rest;
  next = ap (λ (x : Ledger). x.next_generation) k.rest;
}

flush_flows : (l mid : Ledger) → Flushes l mid → Flows l mid
flush_flows l mid (inl k) = same_flows l mid k.1
flush_flows l mid (inr k) = flushed_flows l mid k

-- behind a flush nothing waits
flushes_all : (l mid : Ledger) → Flushes l mid → length mid.buffered ≡ 0
flushes_all l mid (inl k) = ap (λ (x : Ledger). length x.buffered) k.1 ∙ ap length k.0
flushes_all l mid (inr k) = ap (λ (x : Ledger). length x.buffered) k.rest

records_wait : (mid new : Ledger) (b : Bool) → cond b (new ≡ mid) (RecordsNow mid new) → length new.buffered ≡ length mid.buffered
records_wait mid new true k = ap (λ (x : Ledger). length x.buffered) k
records_wait mid new false k = ap (λ (x : Ledger). length x.buffered) k.rest

room_flows : (l mid : Ledger) (b : Bool) → cond b (mid ≡ l) (Flushed l mid) → Flows l mid
room_flows l mid true k = same_flows l mid k
room_flows l mid false k = flushed_flows l mid k

module _ (c : Command) (r : Reply) (l new : Ledger) where
  -- nothing changed that is told, or what a flush makes of it
  flows : IsTakenBy c r l.next_generation new.next_generation → IsFlushedBy c r new.buffered → Flows l new → LeavesFiles c r l new → Moved c r l new
  flows taken flushed f files = record {
    taken = taken;
    segments =
        flow_goes r (portions_told l.portions) (portions_told new.portions) (portions_told new.portions) l.next_segment (length l.buffered)
        new.next_segment new.next_segment f.segments (λ e. e) (falls_not (portions_told new.portions));
    flushed = flushed;
    waits = (let a = f.waits in omega (arith, a));
    making = λ other. inr f.merging;
    files = files;
  }

  -- the segments stay
  stay : new.portions ≡ l.portions → SegmentsGo r (portions_told l.portions) l.next_segment (length l.buffered) (portions_told new.portions) new.next_segment
  stay p =
      flow_goes r (portions_told l.portions) (portions_told new.portions) (portions_told new.portions) l.next_segment (length l.buffered)
      new.next_segment new.next_segment (inl (ap portions_told p)) (λ e. e) (falls_not (portions_told new.portions))

  still : flushes c ≡ false → new.portions ≡ l.portions → new.buffered ≡ l.buffered → new.merging ≡ l.merging → LeavesFiles c r l new
      → Moved c r l new
  still other p b m files = record {
    taken = none_taken c r l.next_generation new.next_generation other;
    segments = stay p;
    flushed = no_flush c r new.buffered other;
    waits = (let a = ap length b in omega (arith, a));
    making = λ other. inr m;
    files = files;
  }

  -- a write more
  wrote_moves : (mid : Ledger) (w : Write) → flushes c ≡ false → Flows l mid → LeavesFiles c r l mid → writes_by c r ≡ 1
      → new ≡ wrote mid w → Moved c r l new
  wrote_moves mid w other f files one is = record {
    taken = none_taken c r l.next_generation new.next_generation other;
    segments =
        flow_goes r (portions_told l.portions) (portions_told mid.portions) (portions_told new.portions) l.next_segment (length l.buffered)
        mid.next_segment new.next_segment f.segments (λ e. ap (λ (x : Ledger). x.next_segment) is ∙ e)
        (subst (λ ps. LiveRowsFall (portions_told mid.portions) (portions_told ps)) (sym (ap (λ (x : Ledger). x.portions) is)) (falls_after w mid.portions));
    flushed = no_flush c r new.buffered other;
    waits =
        (let a = ap (λ (x : Ledger). length x.buffered) is in
        let b = put_more w in
        let d = f.waits in omega (arith, a, b, d, one));
    making = λ other. inr (ap (λ (x : Ledger). x.merging) is ∙ f.merging);
    files = λ none. elim (files none) [
      | inl k ↦ inl k
      | inr k ↦ inr (record {
        users = ap (λ (x : Ledger). x.users) is ∙ k.users;
        segment = ap (λ (x : Ledger). x.next_segment) is ∙ k.segment;
        generation = ap (λ (x : Ledger). x.next_generation) is ∙ k.generation;
      })
    ];
  }
    where
      put_more : (w : Write) → length ((wrote mid w).buffered) ≤ length mid.buffered + 1
      put_more (Write.put i) =
          let a = length-append (without mid.buffered (Write.put i)) (record { number = mid.count + 1; item = i } ∷ []) in
          let b = filtered (λ (x : Record). not (removes (Write.put i) x.item)) mid.buffered in omega (arith, a, b)
      put_more (Write.delete id) = let b = filtered (λ (x : Record). not (removes (Write.delete id) x.item)) mid.buffered in omega (arith, b)
      put_more (Write.delete_where q) = let b = filtered (λ (x : Record). not (removes (Write.delete_where q) x.item)) mid.buffered in omega (arith, b)

-- ---- maintenance

module _ (policy : MergePolicy) (s : ℕ) (r : Reply) (l new : Ledger) where
  abbrev Does : Chore → Type 0
  Does what = Moved (Command.chore what) r l new

  same : (what : Chore) → new ≡ l → Does what
  same what k = flows (Command.chore what) r l new (none_taken (Command.chore what) r l.next_generation new.next_generation refl)
      (no_flush (Command.chore what) r new.buffered refl) (same_flows l new k) (λ none. inr (files_same l new k))

  maintains : (what : Chore) (n : News) → IsMerging l.portions l.merging → r ≡ Ok (Answer.news n) → Maintains policy what n l new → Does what
  maintains Chore.merge News.idle making is m = same Chore.merge m.2
  maintains Chore.merge (News.begun_merge k) making is m = record {
    taken = none_taken (Command.chore Chore.merge) r l.next_generation new.next_generation refl;
    segments = stay (Command.chore Chore.merge) r l new (ap (λ (x : Ledger). x.portions) m.3.rest);
    flushed = no_flush (Command.chore Chore.merge) r new.buffered refl;
    waits = (let a = ap (λ (x : Ledger). length x.buffered) m.3.rest in omega (arith, a));
    making = λ other. absurd (true≢false other);
    files = λ none. absurd (true≢false none);
  }
  maintains Chore.merge (News.copied n) making is m = record {
    taken = none_taken (Command.chore Chore.merge) r l.next_generation new.next_generation refl;
    segments = stay (Command.chore Chore.merge) r l new (ap (λ (x : Ledger). x.portions) m.1.rest);
    flushed = no_flush (Command.chore Chore.merge) r new.buffered refl;
    waits = (let a = ap (λ (x : Ledger). length x.buffered) m.1.rest in omega (arith, a));
    making = λ other. absurd (true≢false other);
    files = λ none. absurd (true≢false none);
  }
  maintains Chore.merge News.done making is m = record {
    taken = none_taken (Command.chore Chore.merge) r l.next_generation new.next_generation refl;
    segments =
        subst (λ ps. SegmentsGo r (portions_told l.portions) l.next_segment (length l.buffered) (portions_told ps) new.next_segment) (sym (ap (λ (x : Ledger). x.portions) m.1.rest))
        (merge_goes r m.0 l.portions l.next_segment (length l.buffered) new.next_segment is (subst (IsMerging l.portions) m.1.making making));
    flushed = no_flush (Command.chore Chore.merge) r new.buffered refl;
    waits = (let a = ap (λ (x : Ledger). length x.buffered) m.1.rest in omega (arith, a));
    making = λ other. absurd (true≢false other);
    files = λ none. absurd (true≢false none);
  }
  maintains Chore.force News.idle making is m = same Chore.force m.2
  maintains Chore.force News.busy making is m = same Chore.force m.1
  maintains Chore.force (News.begun_merge k) making is m = record {
    taken = none_taken (Command.chore Chore.force) r l.next_generation new.next_generation refl;
    segments = stay (Command.chore Chore.force) r l new (ap (λ (x : Ledger). x.portions) m.2.rest);
    flushed = no_flush (Command.chore Chore.force) r new.buffered refl;
    waits = (let a = ap (λ (x : Ledger). length x.buffered) m.2.rest in omega (arith, a));
    making = λ other. absurd (true≢false other);
    files = λ none. absurd (true≢false none);
  }
  maintains Chore.sweep (News.swept n) making is m =
      still (Command.chore Chore.sweep) r l new refl (ap (λ (x : Ledger). x.portions) m.rest) (ap (λ (x : Ledger). x.buffered) m.rest) (ap (λ (x : Ledger). x.merging) m.rest)
      (λ none. absurd (true≢false none))
  maintains what n making is m = same what m.1

-- ---- what answers a command

pub by_bool : {M : Type 0} (b : Bool) (A B : Type 0) → (A → M) → (B → M) → cond b A B → M
by_bool true A B f g x = f x
by_bool false A B f g x = g x

module _ (policy : MergePolicy) (s : ℕ) (r : Reply) (l new : Ledger) where
  kept : (c : Command) → flushes c ≡ false → new ≡ l → Moved c r l new
  kept c other k =
      flows c r l new (none_taken c r l.next_generation new.next_generation other) (no_flush c r new.buffered other) (same_flows l new k)
      (λ none. inr (files_same l new k))

  -- what is refused
  refuses : (c : Command) (e : Refusal) → r ≡ Err e → new ≡ l → Moved c r l new
  refuses c e is k = flows c r l new (λ a commit ok. refused r e a is ok) (λ a flush ok. refused r e a is ok) (same_flows l new k)
      (λ none. inl (e, is))

  -- one write more, where it was accepted
  writes : (c : Command) (w : Write) (a : Answer) → flushes c ≡ false → (mid : Ledger) → Flows l mid → LeavesFiles c r l mid
      → (r ≡ Ok a → writes_by c r ≡ 1) → r ≡ Ok a → new ≡ wrote mid w → Moved c r l new
  writes c w a other mid f files one is wrote_it = wrote_moves c r l new mid w other f files (one is) wrote_it

  records_flow : (mid : Ledger) (b : Bool) → Flows l mid → cond b (new ≡ mid) (RecordsNow mid new) → Flows l new
  records_flow mid true f k = subst (Flows l) (sym k) f
  records_flow mid false f k = record {
    segments =
        subst (λ (x : Ledger). SegmentsFlow (portions_told l.portions) l.next_segment (length l.buffered) (portions_told x.portions) x.next_segment) (sym k.rest)
        f.segments;
    waits = (let a = ap (λ (x : Ledger). length x.buffered) k.rest in let b = f.waits in omega (arith, a, b));
    merging = ap (λ (x : Ledger). x.merging) k.rest ∙ f.merging;
    next = ap (λ (x : Ledger). x.next_generation) k.rest ∙ f.next;
  }

  abbrev Snaps : Type 0
  Snaps = Moved Command.snapshot r l new

  snaps : (x : Reply) → SnapsBy l x new → Snaps
  snaps (Ok (Answer.number g)) m =
      still Command.snapshot r l new refl (ap (λ (x : Ledger). x.portions) m.rest) (ap (λ (x : Ledger). x.buffered) m.rest) (ap (λ (x : Ledger). x.merging) m.rest)
      (λ none. inr (record {
        users = ap (λ (x : Ledger). x.users) m.rest;
        segment = ap (λ (x : Ledger). x.next_segment) m.rest;
        generation = ap (λ (x : Ledger). x.next_generation) m.rest;
      }))
  snaps (Ok (Answer.found f)) m = kept Command.snapshot refl m
  snaps (Ok (Answer.names ns)) m = kept Command.snapshot refl m
  snaps (Ok (Answer.commit_text t)) m = kept Command.snapshot refl m
  snaps (Ok (Answer.news n)) m = kept Command.snapshot refl m
  snaps (Err e) m = kept Command.snapshot refl m

  carries_out : (c : Command) → IsMerging l.portions l.merging → CarriesOut policy l s c r new → Moved c r l new
  carries_out Command.formless making m = kept Command.formless refl m.1
  carries_out (Command.put (Ok i)) making m = by_bool (ltb l.count last_number) _ _
      (λ x. writes (Command.put (Ok i)) (Write.put i) (Answer.number (l.count + 1)) refl x.0 (room_flows l x.0 (ltb (length l.buffered) buffer_limit) x.1)
      (λ none. absurd (true≢false none)) (λ is. ap (writes_by (Command.put (Ok i))) is) x.3 x.4)
      (λ x. kept (Command.put (Ok i)) refl x.1) m
  carries_out (Command.put (Err e)) making m = kept (Command.put (Err e)) refl m.1
  carries_out (Command.delete (Ok id)) making m = by_bool (ltb l.count last_number) _ _
      (λ x. writes (Command.delete (Ok id)) (Write.delete id) (Answer.number (l.count + 1)) refl l (same_flows l l refl)
      (λ none. inr (files_same l l refl)) (λ is. ap (writes_by (Command.delete (Ok id))) is) x.0 x.1)
      (λ x. kept (Command.delete (Ok id)) refl x.1) m
  carries_out (Command.delete (Err e)) making m = kept (Command.delete (Err e)) refl m.1
  carries_out (Command.delete_where (Ok q)) making m = by_bool (ltb l.count last_number) _ _
      (λ x. writes (Command.delete_where (Ok q)) (Write.delete_where q) (Answer.number (l.count + 1)) refl l (same_flows l l refl)
      (λ none. inr (files_same l l refl)) (λ is. ap (writes_by (Command.delete_where (Ok q))) is) x.0 x.1)
      (λ x. kept (Command.delete_where (Ok q)) refl x.1) m
  carries_out (Command.delete_where (Err e)) making m = kept (Command.delete_where (Err e)) refl m.1
  carries_out Command.refresh making m = by_bool (refuses_refresh (state_of l)) _ _ (λ x. refuses Command.refresh Full x.0 x.1)
      (λ x. flows Command.refresh r l new (λ a commit ok. absurd (cc commit))
      (λ a flush ok. records_wait x.0 new (has_recorded x.0.views x.0.count) x.2 ∙ flushes_all l x.0 x.1)
      (records_flow x.0 (has_recorded x.0.views x.0.count) (flush_flows l x.0 x.1) x.2) (λ none. absurd (true≢false none))) m
  carries_out Command.open_newest making m =
      still Command.open_newest r l new refl (ap (λ (y : Ledger). y.portions) m.1) (ap (λ (y : Ledger). y.buffered) m.1) (ap (λ (y : Ledger). y.merging) m.1)
      (λ none. inr (record { users = ap (λ (y : Ledger). y.users) m.1; segment = ap (λ (y : Ledger). y.next_segment) m.1; generation = ap (λ (y : Ledger). y.next_generation) m.1 }))
  carries_out (Command.open_at t) making m = by_bool (has_recorded l.views t) _ _
      (λ x. still (Command.open_at t) r l new refl (ap (λ (y : Ledger). y.portions) x.1) (ap (λ (y : Ledger). y.buffered) x.1) (ap (λ (y : Ledger). y.merging) x.1)
      (λ none. inr (record { users = ap (λ (y : Ledger). y.users) x.1; segment = ap (λ (y : Ledger). y.next_segment) x.1; generation = ap (λ (y : Ledger). y.next_generation) x.1 })))
      (λ x. kept (Command.open_at t) refl x.1) m
  carries_out (Command.close t) making m = by_bool (has_hold l.holds s t) _ _
      (λ x. still (Command.close t) r l new refl (ap (λ (y : Ledger). y.portions) x.1) (ap (λ (y : Ledger). y.buffered) x.1) (ap (λ (y : Ledger). y.merging) x.1)
      (λ none. inr (record { users = ap (λ (y : Ledger). y.users) x.1; segment = ap (λ (y : Ledger). y.next_segment) x.1; generation = ap (λ (y : Ledger). y.next_generation) x.1 })))
      (λ x. kept (Command.close t) refl x.1) m
  carries_out (Command.read t asked) making m = kept (Command.read t asked) refl m.1
  carries_out (Command.files_of_token t) making m = kept (Command.files_of_token t) refl m.1
  carries_out (Command.chore what) making m = by_bool (s == 0) _ _ (λ x. maintains policy s r l new what x.0 making x.1 x.2) (λ x. kept (Command.chore what) refl x.1) m
  carries_out (Command.prune n) making m =
      still (Command.prune n) r l new refl (ap (λ (x : Ledger). x.portions) m.1.rest) (ap (λ (x : Ledger). x.buffered) m.1.rest) (ap (λ (x : Ledger). x.merging) m.1.rest)
      (λ none. absurd (true≢false none))
  carries_out (Command.commit (Err e)) making m = refuses (Command.commit (Err e)) e m.0 m.1
  carries_out (Command.commit (Ok text)) making m =
      let f = flush_flows l m.0 m.1 in record {
        taken = λ a commit ok. ap (λ (x : Ledger). x.next_generation) m.2.rest ∙ ap (λ n. n + 1) f.next;
        segments =
            flow_goes r (portions_told l.portions) (portions_told m.0.portions) (portions_told new.portions) l.next_segment (length l.buffered)
            m.0.next_segment new.next_segment f.segments (λ e. ap (λ (x : Ledger). x.next_segment) m.2.rest ∙ e)
            (same_falls m.0.portions new.portions (ap (λ (x : Ledger). x.portions) m.2.rest));
        flushed = λ a flush ok. ap (λ (x : Ledger). length x.buffered) m.2.rest ∙ flushes_all l m.0 m.1;
        waits = (let a = ap (λ (x : Ledger). length x.buffered) m.2.rest in let b = f.waits in omega (arith, a, b));
        making = λ other. inr (ap (λ (x : Ledger). x.merging) m.2.rest ∙ f.merging);
        files = λ none. absurd (true≢false none);
      }
  carries_out Command.snapshot making m = snaps r m.1
  carries_out (Command.release_snapshot g) making m = by_bool (ltb 0 (snapshots_in l.taken g)) _ _
      (λ x. still (Command.release_snapshot g) r l new refl (ap (λ (y : Ledger). y.portions) x.1.rest) (ap (λ (y : Ledger). y.buffered) x.1.rest) (ap (λ (y : Ledger). y.merging) x.1.rest)
      (λ none. absurd (true≢false none)))
      (λ x. kept (Command.release_snapshot g) refl x.1) m
  carries_out (Command.files_of_commit g) making m = kept (Command.files_of_commit g) refl m.1
  carries_out (Command.text_of_commit g) making m = kept (Command.text_of_commit g) refl m.1

-- ---- what stops a command

pub halted : (schema : Schema) (l : Ledger) (s : ℕ) (c : Command) (r : Reply) → Halts schema (state_of l) s c r → (e : Refusal) × (r ≡ Err e)
halted schema l s c r (inl x) = (Memory, x.0)
halted schema l s c r (inr x) = (x.0.0, x.0.1)

left_moves : (c : Command) (r : Reply) (l new : Ledger) → (e : Refusal) × (r ≡ Err e) → IsLeft l new → Moved c r l new
left_moves c r l new (e, is) h =
    let f : Flows l h.flushed = elim h.flush [ inl k ↦ same_flows l h.flushed k | inr k ↦ flushed_flows l h.flushed k ] in
    let p : h.ended.portions ≡ h.flushed.portions = elim h.merge [ inl k ↦ ap (λ (x : Ledger). x.portions) k | inr k ↦ ap (λ (x : Ledger). x.portions) k.1.rest ] in
    let b : h.ended.buffered ≡ h.flushed.buffered = elim h.merge [ inl k ↦ ap (λ (x : Ledger). x.buffered) k | inr k ↦ ap (λ (x : Ledger). x.buffered) k.1.rest ] in
    let n : h.ended.next_segment ≡ h.flushed.next_segment =
    elim h.merge [ inl k ↦ ap (λ (x : Ledger). x.next_segment) k | inr k ↦ ap (λ (x : Ledger). x.next_segment) k.1.rest ] in record {
      taken = λ a commit ok. refused r e a is ok;
      segments =
          flow_goes r (portions_told l.portions) (portions_told h.flushed.portions) (portions_told new.portions) l.next_segment (length l.buffered)
          h.flushed.next_segment new.next_segment f.segments (λ e. let x = h.one_segment in let y = h.rest.segments in omega (arith, x, y, n, e))
          (same_falls h.flushed.portions new.portions (ap (λ (x : Ledger). x.portions) h.rest.rest ∙ p));
      flushed = λ a flush ok. refused r e a is ok;
      waits = (let x = ap (λ (x : Ledger). length x.buffered) h.rest.rest in let y = ap length b in let z = f.waits in omega (arith, x, y, z));
      making = λ other. inl (e, is);
      files = λ none. inl (e, is);
    }

none_moves : (c : Command) (r : Reply) (l new : Ledger) → FindsNone l c r new → Moved c r l new
none_moves (Command.commit (Ok text)) r l new m =
    flows (Command.commit (Ok text)) r l new (λ a commit ok. refused r Spent a m.0 ok) (λ a flush ok. refused r Spent a m.0 ok) (same_flows l new m.2)
    (λ none. absurd (true≢false none))
none_moves _ r l new m = absurd m

-- What a call makes of it, whatever it answers.
pub calls_move : (policy : MergePolicy) (l new : Ledger) (line : Line) (r : Reply) → IsMerging l.portions l.merging → Calls policy l line r new
    → Moved line.command r l new
calls_move policy l new line r making (inl m) = carries_out policy line.session r l new line.command making m
calls_move policy l new line r making (inr (inl m)) = left_moves line.command r l new (halted l.schema l line.session line.command r m.0) m.1
calls_move policy l new line r making (inr (inr m)) = none_moves line.command r l new m
