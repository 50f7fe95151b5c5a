-- How many numbers an answered line takes.
use Rattle.std.proofs.Common.{◌≡◌, ℕ, ◌+◌, ◌≤◌, [], length, Bool, true, false, cond, ltb, refl, sym, ◌∙◌, ap, ap₂, subst, arith, inl, inr}
use Rattle.std.specs.Prelude.{◌==◌, Ok, Err}
use Rattle.cat_model.specs.Files.{Name}
use Rattle.cat_model.specs.Limits.{last_number, buffer_limit}
use Rattle.cat_model.specs.Run.{Chore, News, Command, Line, Answer, Reply}
use Rattle.cat_model.specs.State.{refuses_refresh, has_hold, snapshots_in}
use Rattle.cat_ledger_laws.specs.model.Calls.{has_recorded, Flushes, Flushed, RecordsNow, MayLeave}
use Rattle.cat_ledger_laws.specs.model.Ledger.{Ledger, state_of}
use Rattle.cat_ledger_laws.specs.model.Plans.{MergePolicy}
use Rattle.cat_ledger_laws.specs.model.Replies.{Maintains, SnapsBy, CarriesOut, IsLeft, FindsNone, Calls}
use Rattle.cat_ledger_laws.specs.shape.Shapes.{Shape}
use Rattle.cat_ledger_laws.specs.lines.StayLaws.{IsOneMoreAtMost, NumbersRiseByOne}
use Rattle.cat_ledger_laws.proofs.lines.StopAnswers.{takes_one}

-- the numbers of a ledger that come next, each the same or one more
record Rises (l new : Ledger) : Type 0 where
  segment : IsOneMoreAtMost l.next_segment new.next_segment
  generation : IsOneMoreAtMost l.next_generation new.next_generation

-- the same, and of the kind of commits just the same
record Flows (l new : Ledger) : Type 0 where
  segment : IsOneMoreAtMost l.next_segment new.next_segment
  generation : new.next_generation ≡ l.next_generation

rises : (l new : Ledger) → Flows l new → Rises l new
rises l new f = record { segment = f.segment; generation = (omega (arith, f.generation), omega (arith, f.generation)) }

stays : (l new : Ledger) → new.next_segment ≡ l.next_segment → new.next_generation ≡ l.next_generation → Flows l new
stays l new n g = record { segment = (omega (arith, n), omega (arith, n)); generation = g }

same_flows : (l new : Ledger) → new ≡ l → Flows l new
same_flows l new k = stays l new (ap (λ (x : Ledger). x.next_segment) k) (ap (λ (x : Ledger). x.next_generation) k)

one_more : (l new : Ledger) → new.next_segment ≡ l.next_segment + 1 → new.next_generation ≡ l.next_generation → Flows l new
one_more l new n g = record { segment = (omega (arith, n), omega (arith, n)); generation = g }

flushed_flows : (l mid : Ledger) → Flushed l mid → Flows l mid
flushed_flows l mid k = one_more l mid (ap (λ (x : Ledger). x.next_segment) k.rest) (ap (λ (x : Ledger). x.next_generation) k.rest)

flush_flows : (l mid : Ledger) → Flushes l mid → Flows l mid
flush_flows l mid (inl k) = same_flows l mid k.1
flush_flows l mid (inr k) = flushed_flows l mid k

-- a call behind it that takes no number
still : (l mid new : Ledger) → Flows l mid → new.next_segment ≡ mid.next_segment → new.next_generation ≡ mid.next_generation → Flows l new
still l mid new f n g = record {
  segment = (let a = f.segment.0 in omega (arith, n, a), let b = f.segment.1 in omega (arith, n, b));
  generation = g ∙ f.generation;
}

records_flow : (l mid new : Ledger) (b : Bool) → Flows l mid → cond b (new ≡ mid) (RecordsNow mid new) → Flows l new
records_flow l mid new true f k = still l mid new f (ap (λ (x : Ledger). x.next_segment) k) (ap (λ (x : Ledger). x.next_generation) k)
records_flow l mid new false f k = still l mid new f (ap (λ (x : Ledger). x.next_segment) k.rest) (ap (λ (x : Ledger). x.next_generation) k.rest)

module _ (l : Ledger) (s : ℕ) (r : Reply) (new : Ledger) where
  same : new ≡ l → Rises l new
  same k = rises l new (same_flows l new k)

  apart : new.next_segment ≡ l.next_segment → new.next_generation ≡ l.next_generation → Rises l new
  apart n g = rises l new (stays l new n g)

  begins : new.next_segment ≡ l.next_segment + 1 → new.next_generation ≡ l.next_generation → Rises l new
  begins n g = rises l new (one_more l new n g)

  maintains_rises : (policy : MergePolicy) (c : Chore) (n : News) → Maintains policy c n l new → Rises l new
  maintains_rises policy Chore.merge News.idle m = same m.2
  maintains_rises policy Chore.merge (News.begun_merge k) m = begins (ap (λ (x : Ledger). x.next_segment) m.3.rest) (ap (λ (x : Ledger). x.next_generation) m.3.rest)
  maintains_rises policy Chore.merge (News.copied n) m = apart (ap (λ (x : Ledger). x.next_segment) m.1.rest) (ap (λ (x : Ledger). x.next_generation) m.1.rest)
  maintains_rises policy Chore.merge News.done m = apart (ap (λ (x : Ledger). x.next_segment) m.1.rest) (ap (λ (x : Ledger). x.next_generation) m.1.rest)
  maintains_rises policy Chore.force News.idle m = same m.2
  maintains_rises policy Chore.force News.busy m = same m.1
  maintains_rises policy Chore.force (News.begun_merge k) m = begins (ap (λ (x : Ledger). x.next_segment) m.2.rest) (ap (λ (x : Ledger). x.next_generation) m.2.rest)
  maintains_rises policy Chore.sweep (News.swept n) m = record {
    segment = (m.segments, takes_one [] (Name.source l.next_segment) l.next_segment new.next_segment m.one_segment);
    generation = (m.generations, takes_one [] (Name.commit l.next_generation) l.next_generation new.next_generation m.one_generation);
  }
  maintains_rises policy c n m = same m.1

  snaps_rise : (x : Reply) → SnapsBy l x new → Rises l new
  snaps_rise (Ok (Answer.number g)) m = apart (ap (λ (x : Ledger). x.next_segment) m.rest) (ap (λ (x : Ledger). x.next_generation) m.rest)
  snaps_rise (Ok (Answer.found f)) m = same m
  snaps_rise (Ok (Answer.names ns)) m = same m
  snaps_rise (Ok (Answer.commit_text t)) m = same m
  snaps_rise (Ok (Answer.news n)) m = same m
  snaps_rise (Err e) m = same m

  by_bool : (b : Bool) (A B : Type 0) → (A → Rises l new) → (B → Rises l new) → cond b A B → Rises l new
  by_bool true A B f g x = f x
  by_bool false A B f g x = g x

  room_flows : (b : Bool) (mid : Ledger) → cond b (mid ≡ l) (Flushed l mid) → Flows l mid
  room_flows true mid k = same_flows l mid k
  room_flows false mid k = flushed_flows l mid k

  serves_rise : (policy : MergePolicy) (c : Command) → CarriesOut policy l s c r new → Rises l new
  serves_rise policy Command.formless m = same m.1
  serves_rise policy (Command.put (Ok i)) m = by_bool (ltb l.count last_number) _ _
      (λ x. rises l new (still l x.0 new (room_flows (ltb (length l.buffered) buffer_limit) x.0 x.1) (ap (λ (y : Ledger). y.next_segment) x.4) (ap (λ (y : Ledger). y.next_generation) x.4))) (λ x. same x.1) m
  serves_rise policy (Command.put (Err e)) m = same m.1
  serves_rise policy (Command.delete (Ok id)) m = by_bool (ltb l.count last_number) _ _ (λ x. apart (ap (λ (y : Ledger). y.next_segment) x.1) (ap (λ (y : Ledger). y.next_generation) x.1)) (λ x. same x.1) m
  serves_rise policy (Command.delete (Err e)) m = same m.1
  serves_rise policy (Command.delete_where (Ok q)) m = by_bool (ltb l.count last_number) _ _ (λ x. apart (ap (λ (y : Ledger). y.next_segment) x.1) (ap (λ (y : Ledger). y.next_generation) x.1)) (λ x. same x.1) m
  serves_rise policy (Command.delete_where (Err e)) m = same m.1
  serves_rise policy Command.refresh m = by_bool (refuses_refresh (state_of l)) _ _ (λ x. same x.1)
      (λ x. rises l new (records_flow l x.0 new (has_recorded x.0.views x.0.count) (flush_flows l x.0 x.1) x.2)) m
  serves_rise policy Command.open_newest m = apart (ap (λ (y : Ledger). y.next_segment) m.1) (ap (λ (y : Ledger). y.next_generation) m.1)
  serves_rise policy (Command.open_at t) m = by_bool (has_recorded l.views t) _ _ (λ x. apart (ap (λ (y : Ledger). y.next_segment) x.1) (ap (λ (y : Ledger). y.next_generation) x.1)) (λ x. same x.1) m
  serves_rise policy (Command.close t) m = by_bool (has_hold l.holds s t) _ _ (λ x. apart (ap (λ (y : Ledger). y.next_segment) x.1) (ap (λ (y : Ledger). y.next_generation) x.1)) (λ x. same x.1) m
  serves_rise policy (Command.read t asked) m = same m.1
  serves_rise policy (Command.files_of_token t) m = same m.1
  serves_rise policy (Command.chore c) m = by_bool (s == 0) _ _ (λ x. maintains_rises policy c x.0 x.2) (λ x. same x.1) m
  serves_rise policy (Command.prune n) m = apart (ap (λ (x : Ledger). x.next_segment) m.1.rest) (ap (λ (x : Ledger). x.next_generation) m.1.rest)
  serves_rise policy (Command.commit (Err e)) m = same m.1
  serves_rise policy (Command.commit (Ok text)) m =
      let f = flush_flows l m.0 m.1 in
      let n : new.next_segment ≡ m.0.next_segment = ap (λ (x : Ledger). x.next_segment) m.2.rest in
      let g : new.next_generation ≡ m.0.next_generation + 1 = ap (λ (x : Ledger). x.next_generation) m.2.rest in
      let a = f.segment.0 in
      let b = f.segment.1 in
      let h = f.generation in
      record { segment = (omega (arith, n, a), omega (arith, n, b)); generation = (omega (arith, g, h), omega (arith, g, h)) }
  serves_rise policy Command.snapshot m = snaps_rise r m.1
  serves_rise policy (Command.release_snapshot g) m = by_bool (ltb 0 (snapshots_in l.taken g)) _ _ (λ x. apart (ap (λ (x : Ledger). x.next_segment) x.1.rest) (ap (λ (x : Ledger). x.next_generation) x.1.rest)) (λ x. same x.1) m
  serves_rise policy (Command.files_of_commit g) m = same m.1
  serves_rise policy (Command.text_of_commit g) m = same m.1

  left_rises : IsLeft l new → Rises l new
  left_rises h =
      let f : Flows l h.flushed = elim h.flush [ inl k ↦ same_flows l h.flushed k | inr k ↦ flushed_flows l h.flushed k ] in
      let n : h.ended.next_segment ≡ h.flushed.next_segment =
      elim h.merge [ inl k ↦ ap (λ (x : Ledger). x.next_segment) k | inr k ↦ ap (λ (x : Ledger). x.next_segment) k.1.rest ] in
      let g : h.ended.next_generation ≡ h.flushed.next_generation =
      elim h.merge [ inl k ↦ ap (λ (x : Ledger). x.next_generation) k | inr k ↦ ap (λ (x : Ledger). x.next_generation) k.1.rest ] in
      let few = takes_one h.begun (Name.commit h.ended.next_generation) h.ended.next_generation new.next_generation h.rest.one_generation in
      let a = f.segment.0 in
      let b = h.rest.segments in
      let c = h.one_segment in
      let d = f.generation in
      let e = h.rest.generations in record {
        segment = (omega (arith, n, a, b), c);
        generation = (omega (arith, g, d, e), omega (arith, g, d, few));
      }

  none_rises : (c : Command) → FindsNone l c r new → Rises l new
  none_rises (Command.commit (Ok text)) m = same m.2
  none_rises _ m = absurd m

calls_rise : (policy : MergePolicy) (l new : Ledger) (line : Line) (r : Reply) → Calls policy l line r new → Rises l new
calls_rise policy l new line r (inl m) = serves_rise l line.session r new policy line.command m
calls_rise policy l new line r (inr (inl m)) = left_rises l line.session r new m.1
calls_rise policy l new line r (inr (inr m)) = none_rises l line.session r new line.command m

both : (a b a' b' : ℕ) → a ≡ b → a' ≡ b' → IsOneMoreAtMost a a' → IsOneMoreAtMost b b'
both a b a' b' e f k = (let x = k.0 in omega (arith, e, f, x), let y = k.1 in omega (arith, e, f, y))

pub numbers_rise : NumbersRiseByOne
numbers_rise policy told told' s new line reply l files c answers =
    let x = answers l files c in
    let k = calls_rise policy l x.0 line x.2 x.4 in (
      both l.next_segment s.next_segment x.0.next_segment new.next_segment (ap (λ (s : Shape). s.next_segment) c.shape) (ap (λ (s : Shape). s.next_segment) x.5.shape) k.segment,
      both l.next_generation s.next_generation x.0.next_generation new.next_generation (ap (λ (s : Shape). s.next_generation) c.shape) (ap (λ (s : Shape). s.next_generation) x.5.shape) k.generation,
    )
