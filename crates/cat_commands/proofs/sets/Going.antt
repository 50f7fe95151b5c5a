-- What each call makes of the segments of a ledger's list and recorded views: what holds of each of them, and of each that comes under
-- a number that none had, holds afterwards.
use Rattle.std.proofs.Common.{◌≡◌, ◌⊎◌, ℕ, ◌+◌, ◌≤◌, ◌++◌, List, [], ◌∷◌, length, take, drop, Bool, true, false, cond, ltb, Option, Some, refl, sym, subst, inl, inr, arith}
use Rattle.std.specs.Prelude.{◌==◌, IsSomeAnd, Ok, Err}
use Rattle.std.specs.List.{AllByRecursion}
use Rattle.std.proofs.lemmas.List.Elements.{All-drop, All-from_recursion, All-take, recursion_from_All}
use Rattle.cat_model.specs.Files.{Name}
use Rattle.cat_model.specs.Item.{Record, Schema}
use Rattle.cat_model.specs.Limits.{last_number, buffer_limit}
use Rattle.cat_model.specs.Run.{Answer, Chore, Command, Line, News, Reply}
use Rattle.cat_model.specs.State.{Hold, held_in, has_hold, refuses_refresh, snapshots_in}
use Rattle.cat_model.specs.Text.{Text}
use Rattle.cat_model.specs.View.{Segment}
use Rattle.cat_model.specs.Write.{Write}
use Rattle.cat_model.proofs.Lists.{All-both, All-kept}
use Rattle.cat_ledger_laws.specs.model.Calls.{MergeBegun, Committed, Copied, Ended, Flushed, Flushes, Installed, MayLeave, Pruned, RecordsNow, Snaps, Unsnapped, has_recorded, stays_pruned, stays_recorded, tokens_in, recorded_view_now, views_that, wrote}
use Rattle.cat_ledger_laws.specs.model.Ledger.{Ledger, RecordedView, state_of}
use Rattle.cat_ledger_laws.specs.model.Plans.{MergePolicy}
use Rattle.cat_ledger_laws.specs.model.Portions.{Merging, Portion, all_live, live_after, merged, segment_of, settled}
use Rattle.cat_ledger_laws.specs.model.Replies.{Calls, CarriesOut, FindsNone, IsLeft, Maintains, SnapsBy}
use Rattle.cat_ledger_laws.proofs.model.Shown.{All-map}

All-first : {X : Type 0} (P : X → Type 0) (n : ℕ) (xs : List X) → AllByRecursion P xs → AllByRecursion P (take n xs)
All-first P n xs h = recursion_from_All P (take n xs) (All-take P n xs (All-from_recursion P xs h))

All-last : {X : Type 0} (P : X → Type 0) (n : ℕ) (xs : List X) → AllByRecursion P xs → AllByRecursion P (drop n xs)
All-last P n xs h = recursion_from_All P (drop n xs) (All-drop P n xs (All-from_recursion P xs h))

-- no segment of the ledger has had the number: it wasn't taken, or the merge in the making took it
abbrev pub Unused : Ledger → ℕ → Type 0
Unused l n = (l.next_segment ≤ n) ⊎ IsSomeAnd l.merging (λ m. m.number ≡ n)

-- where a merge is in the making, it has its number
its_number : (o : Option Merging) (m : Merging) (n : ℕ) → o ≡ Some m → m.number ≡ n → IsSomeAnd o (λ m. m.number ≡ n)
its_number o m n is e = subst (λ (o : Option Merging). IsSomeAnd o (λ m. m.number ≡ n)) (sym is) e

module _ (P : Segment → Type 0) where
  -- it holds of the segment of the portion, of each of the view's, and of each of the ledger's list and recorded views
  abbrev pub OfPortion : Schema → Portion → Type 0
  OfPortion schema p = P (segment_of schema p)

  abbrev pub OfView : Schema → RecordedView → Type 0
  OfView schema v = AllByRecursion (OfPortion schema) v.portions

  abbrev pub OfLedger : Ledger → Type 0
  OfLedger l = AllByRecursion (OfPortion l.schema) l.portions × AllByRecursion (OfView l.schema) l.views

  pub record Goes (l new : Ledger) : Type 0 where
    pub next : l.next_segment ≤ new.next_segment
    pub making : (n : ℕ) → IsSomeAnd new.merging (λ m. m.number ≡ n) → Unused l n
    pub holds : ((s : Segment) → Unused l s.number → P s) → OfLedger l → OfLedger new

  -- ---- one after another

  unused_before : (l mid : Ledger) (n : ℕ) → Goes l mid → Unused mid n → Unused l n
  unused_before l mid n g (inl h) = inl (omega (arith, g.next, h))
  unused_before l mid n g (inr h) = g.making n h

  go_on : (l mid new : Ledger) → Goes l mid → Goes mid new → Goes l new
  go_on l mid new a b = record {
    next = omega (arith, a.next, b.next);
    making = λ n h. unused_before l mid n a (b.making n h);
    holds = λ free h. b.holds (λ s u. free s (unused_before l mid s.number a u)) (a.holds free h);
  }

  same : (l new : Ledger) → new ≡ l → Goes l new
  same l new e = subst (Goes l) (sym e) (record { next = omega arith; making = λ n h. inr h; holds = λ free h. h })

  -- ---- the writes, and the flush

  wrote_goes : (l : Ledger) (w : Write) → Goes l (wrote l w)
  wrote_goes l w = record {
    next = omega arith;
    making = λ n h. inr h;
    holds = λ free h. (All-map (OfPortion l.schema) (λ (p : Portion). record p { live = live_after w p.live p.records }) l.portions h.0, h.1);
  }

  wrote_to : (l new : Ledger) (w : Write) → new ≡ wrote l w → Goes l new
  wrote_to l new w e = subst (Goes l) (sym e) (wrote_goes l w)

  flushed_goes : (l new : Ledger) → Flushed l new → Goes l new
  flushed_goes l new k = subst (Goes l) (sym k.rest) (record {
    next = omega arith;
    making = λ n h. inr h;
    holds = λ free h. (All-both (OfPortion l.schema) l.portions (all_live l.next_segment l.buffered ∷ []) h.0 (free (segment_of l.schema (all_live l.next_segment l.buffered)) (inl (omega arith)), tt), h.1);
  })

  flush_goes : (l new : Ledger) → Flushes l new → Goes l new
  flush_goes l new (inl k) = same l new k.1
  flush_goes l new (inr k) = flushed_goes l new k

  -- ---- views

  records_go : (l new : Ledger) (b : Bool) → cond b (new ≡ l) (RecordsNow l new) → Goes l new
  records_go l new true k = same l new k
  records_go l new false k =
      let stays : ℕ → Bool = stays_recorded (held_in l.holds) (tokens_in l.views) in
      subst (Goes l) (sym k.rest) (record {
        next = omega arith;
        making = λ n h. inr h;
        holds = λ free h. (h.0, All-both (OfView l.schema) (views_that stays l.views) (recorded_view_now l ∷ []) (All-kept (OfView l.schema) (λ v. stays v.token) l.views h.1) (h.0, tt));
      })

  pruned_goes : (n : ℕ) (l new : Ledger) → Pruned n l new → Goes l new
  pruned_goes n l new k = subst (Goes l) (sym k.rest) (record {
    next = omega arith;
    making = λ n h. inr h;
    holds = λ free h. (h.0, All-kept (OfView l.schema) (λ v. stays_pruned (held_in l.holds) n (tokens_in l.views) v.token) l.views h.1);
  })

  -- ---- a merge

  begun_goes : (index k : ℕ) (l new : Ledger) → MergeBegun index k l new → Goes l new
  begun_goes index k l new b = subst (Goes l) (sym b.rest) (record {
    next = omega arith;
    making = λ n h. let e : l.next_segment ≡ n = h in inl (omega arith);
    holds = λ free h. h;
  })

  copied_goes : (m : Merging) (l new : Ledger) → Copied m l new → Goes l new
  copied_goes m l new k = subst (Goes l) (sym k.rest) (record {
    next = omega arith;
    making = λ n h. inr (its_number l.merging m n k.making h);
    holds = λ free h. h;
  })

  merged_holds : (schema : Schema) (kept : List Record) (p : Portion) → OfPortion schema p → AllByRecursion (OfPortion schema) (merged kept p)
  merged_holds schema [] p h = tt
  merged_holds schema (r ∷ rs) p h = (h, tt)

  installed_goes : (m : Merging) (l new : Ledger) → Installed m l new → Goes l new
  installed_goes m l new k = subst (Goes l) (sym k.rest) (record {
    next = omega arith;
    making = λ n h. absurd h;
    holds = λ free h. (
      All-both (OfPortion l.schema) (take m.index l.portions) (merged m.kept (settled m l.portions) ++ drop (m.index + length m.inputs) l.portions)
          (All-first (OfPortion l.schema) m.index l.portions h.0)
          (All-both (OfPortion l.schema) (merged m.kept (settled m l.portions)) (drop (m.index + length m.inputs) l.portions)
          (merged_holds l.schema m.kept (settled m l.portions) (free (segment_of l.schema (settled m l.portions)) (inr (its_number l.merging m m.number k.making refl))))
          (All-last (OfPortion l.schema) (m.index + length m.inputs) l.portions h.0)),
      h.1,
    );
  })

  ended_goes : (m : Merging) (l new : Ledger) → Ended m l new → Goes l new
  ended_goes m l new k = subst (Goes l) (sym k.rest) (record { next = omega arith; making = λ n h. absurd h; holds = λ free h. h })

  -- ---- commits, holds, sweeps and refusals

  committed_goes : (text : Text) (l new : Ledger) → Committed text l new → Goes l new
  committed_goes text l new k = subst (Goes l) (sym k.rest) (record { next = omega arith; making = λ n h. inr h; holds = λ free h. h })

  snapped_goes : (g : ℕ) (l new : Ledger) → Snaps g l new → Goes l new
  snapped_goes g l new k = subst (Goes l) (sym k.rest) (record { next = omega arith; making = λ n h. inr h; holds = λ free h. h })

  unsnapped_goes : (g : ℕ) (l new : Ledger) → Unsnapped g l new → Goes l new
  unsnapped_goes g l new k = subst (Goes l) (sym k.rest) (record { next = omega arith; making = λ n h. inr h; holds = λ free h. h })

  held_goes : (l new : Ledger) (hs : List Hold) → new ≡ record l { holds = hs } → Goes l new
  held_goes l new hs e = subst (Goes l) (sym e) (record { next = omega arith; making = λ n h. inr h; holds = λ free h. h })

  may_leave_goes : (begun : List Name) (l new : Ledger) → MayLeave begun l new → Goes l new
  may_leave_goes begun l new k = subst (Goes l) (sym k.rest) (record { next = k.segments; making = λ n h. inr h; holds = λ free h. h })

  -- ---- lines

  module _ (l : Ledger) (s : ℕ) (r : Reply) (new : Ledger) where
    stays : new ≡ l → Goes l new
    stays e = same l new e

    maintains_goes : (policy : MergePolicy) (c : Chore) (n : News) → Maintains policy c n l new → Goes l new
    maintains_goes policy Chore.merge News.idle m = stays m.2
    maintains_goes policy Chore.merge (News.begun_merge k) m = begun_goes m.1 k l new m.3
    maintains_goes policy Chore.merge (News.copied n) m = copied_goes m.0 l new m.1
    maintains_goes policy Chore.merge News.done m = installed_goes m.0 l new m.1
    maintains_goes policy Chore.force News.idle m = stays m.2
    maintains_goes policy Chore.force News.busy m = stays m.1
    maintains_goes policy Chore.force (News.begun_merge k) m = begun_goes 0 k l new m.2
    maintains_goes policy Chore.sweep (News.swept n) m = may_leave_goes [] l new m
    maintains_goes policy c n m = stays m.1

    snaps_go : (x : Reply) → SnapsBy l x new → Goes l new
    snaps_go (Ok (Answer.number g)) m = snapped_goes g l new m
    snaps_go (Ok (Answer.found f)) m = stays m
    snaps_go (Ok (Answer.names ns)) m = stays m
    snaps_go (Ok (Answer.commit_text t)) m = stays m
    snaps_go (Ok (Answer.news n)) m = stays m
    snaps_go (Err e) m = stays m

    by_bool : (b : Bool) (A B : Type 0) → (A → Goes l new) → (B → Goes l new) → cond b A B → Goes l new
    by_bool true A B f g x = f x
    by_bool false A B f g x = g x

    room_goes : (b : Bool) (mid : Ledger) → cond b (mid ≡ l) (Flushed l mid) → Goes l mid
    room_goes true mid k = same l mid k
    room_goes false mid k = flushed_goes l mid k

    serves_go : (policy : MergePolicy) (c : Command) → CarriesOut policy l s c r new → Goes l new
    serves_go policy Command.formless m = stays m.1
    serves_go policy (Command.put (Ok i)) m = by_bool (ltb l.count last_number) _ _
        (λ x. go_on l x.0 new (room_goes (ltb (length l.buffered) buffer_limit) x.0 x.1) (wrote_to x.0 new (Write.put i) x.4)) (λ x. stays x.1) m
    serves_go policy (Command.put (Err e)) m = stays m.1
    serves_go policy (Command.delete (Ok id)) m = by_bool (ltb l.count last_number) _ _ (λ x. wrote_to l new (Write.delete id) x.1) (λ x. stays x.1) m
    serves_go policy (Command.delete (Err e)) m = stays m.1
    serves_go policy (Command.delete_where (Ok q)) m = by_bool (ltb l.count last_number) _ _ (λ x. wrote_to l new (Write.delete_where q) x.1) (λ x. stays x.1) m
    serves_go policy (Command.delete_where (Err e)) m = stays m.1
    serves_go policy Command.refresh m = by_bool (refuses_refresh (state_of l)) _ _ (λ x. stays x.1)
        (λ x. go_on l x.0 new (flush_goes l x.0 x.1) (records_go x.0 new (has_recorded x.0.views x.0.count) x.2)) m
    serves_go policy Command.open_newest m = held_goes l new _ m.1
    serves_go policy (Command.open_at t) m = by_bool (has_recorded l.views t) _ _ (λ x. held_goes l new _ x.1) (λ x. stays x.1) m
    serves_go policy (Command.close t) m = by_bool (has_hold l.holds s t) _ _ (λ x. held_goes l new _ x.1) (λ x. stays x.1) m
    serves_go policy (Command.read t asked) m = stays m.1
    serves_go policy (Command.files_of_token t) m = stays m.1
    serves_go policy (Command.chore c) m = by_bool (s == 0) _ _ (λ x. maintains_goes policy c x.0 x.2) (λ x. stays x.1) m
    serves_go policy (Command.prune n) m = pruned_goes n l new m.1
    serves_go policy (Command.commit (Err e)) m = stays m.1
    serves_go policy (Command.commit (Ok text)) m = go_on l m.0 new (flush_goes l m.0 m.1) (committed_goes text m.0 new m.2)
    serves_go policy Command.snapshot m = snaps_go r m.1
    serves_go policy (Command.release_snapshot g) m = by_bool (ltb 0 (snapshots_in l.taken g)) _ _ (λ x. unsnapped_goes g l new x.1) (λ x. stays x.1) m
    serves_go policy (Command.files_of_commit g) m = stays m.1
    serves_go policy (Command.text_of_commit g) m = stays m.1

    left_goes : IsLeft l new → Goes l new
    left_goes h =
        let f : Goes l h.flushed = elim h.flush [ inl k ↦ same l h.flushed k | inr k ↦ flushed_goes l h.flushed k ] in
        let e : Goes h.flushed h.ended = elim h.merge [ inl k ↦ same h.flushed h.ended k | inr k ↦ ended_goes k.0 h.flushed h.ended k.1 ] in
        go_on l h.ended new (go_on l h.flushed h.ended f e) (may_leave_goes h.begun h.ended new h.rest)

    none_goes : (c : Command) → FindsNone l c r new → Goes l new
    none_goes (Command.commit (Ok text)) m = stays m.2
    none_goes _ m = absurd m

  pub calls_go : (policy : MergePolicy) (l new : Ledger) (line : Line) (r : Reply) → Calls policy l line r new → Goes l new
  calls_go policy l new line r (inl m) = serves_go l line.session r new policy line.command m
  calls_go policy l new line r (inr (inl m)) = left_goes l line.session r new m.1
  calls_go policy l new line r (inr (inr m)) = none_goes l line.session r new line.command m
