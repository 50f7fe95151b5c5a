-- No call gives a number out twice.
use Rattle.std.proofs.Common.{◌≡◌, ◌⊎◌, ℕ, ◌+◌, ◌≤◌, Bool, true, false, cond, List, [], Option, Some, None, refl, sym, ◌∙◌, ap, arith, inl, inr}
use Rattle.std.specs.Prelude.{ltb, ◌==◌, Result, Ok, Err}
use Rattle.cat_model.specs.Files.{Name}
use Rattle.cat_model.specs.Limits.{buffer_limit, last_number}
use Rattle.cat_model.specs.Run.{Answer, Chore, Command, Line, News, Reply}
use Rattle.cat_model.specs.State.{has_hold, refuses_refresh, snapshots_in}
use Rattle.cat_model.specs.Text.{Text}
use Rattle.cat_model.specs.Write.{Write}
use Rattle.cat_ledger_laws.specs.model.Calls.{Committed, Flushed, Flushes, MayLeave, MergeBegun, Pruned, RecordsNow, RecordsView, Snaps, Unsnapped, has_recorded, wrote}
use Rattle.cat_ledger_laws.specs.model.Ledger.{Ledger, state_of}
use Rattle.cat_ledger_laws.specs.model.Plans.{MergePolicy}
use Rattle.cat_ledger_laws.specs.model.Portions.{Merging}
use Rattle.cat_ledger_laws.specs.model.Replies.{Calls, CarriesOut, FindsNone, IsLeft, Maintains, MakesRoom, SnapsBy}
use Rattle.cat_ledger_laws.specs.model.Taking.{CallsTakeOn, TakesOn}

-- where nothing of these changes but that numbers rise
stays_on : (l new : Ledger) → l.next_segment ≤ new.next_segment → l.next_generation ≤ new.next_generation → new.merging ≡ l.merging → TakesOn l new
stays_on l new segments generations same = record { segments = segments; generations = generations; merging = λ m making. inl (m, sym same ∙ making, refl) }

no_less : {m n : ℕ} → n ≡ m → m ≤ n
no_less same = omega (arith, same)

pub takes_none : (l new : Ledger) → new ≡ l → TakesOn l new
takes_none l new k =
    stays_on l new (no_less (ap (λ (x : Ledger). x.next_segment) k)) (no_less (ap (λ (x : Ledger). x.next_generation) k)) (ap (λ (x : Ledger). x.merging) k)

-- one call behind another
pub takes_then : (l mid new : Ledger) → TakesOn l mid → TakesOn mid new → TakesOn l new
takes_then l mid new a b = record {
  segments = omega (arith, a.segments, b.segments);
  generations = omega (arith, a.generations, b.generations);
  merging = λ m making. elim (b.merging m making) [
    | inl old ↦ elim (a.merging old.0 old.1) [
      | inl first ↦ inl (first.0, first.1, old.2 ∙ first.2)
      | inr new ↦ inr (omega (arith, old.2, new))
    ]
    | inr new ↦ inr (omega (arith, a.segments, new))
  ];
}

-- a call that leaves the numbers and the merge
same_numbers : (l new : Ledger) → new.next_segment ≡ l.next_segment → new.next_generation ≡ l.next_generation → new.merging ≡ l.merging → TakesOn l new
same_numbers l new segments generations same = stays_on l new (no_less segments) (no_less generations) same

pub takes_write : (w : Write) (l new : Ledger) → new ≡ wrote l w → TakesOn l new
takes_write w l new k =
    same_numbers l new (ap (λ (x : Ledger). x.next_segment) k) (ap (λ (x : Ledger). x.next_generation) k) (ap (λ (x : Ledger). x.merging) k)

pub takes_flushed : (l new : Ledger) → Flushed l new → TakesOn l new
takes_flushed l new k =
    let more : new.next_segment ≡ l.next_segment + 1 = ap (λ (x : Ledger). x.next_segment) k.rest in
    stays_on l new (omega (arith, more)) (no_less (ap (λ (x : Ledger). x.next_generation) k.rest)) (ap (λ (x : Ledger). x.merging) k.rest)

pub takes_flush : (l new : Ledger) → Flushes l new → TakesOn l new
takes_flush l new (inl k) = takes_none l new k.1
takes_flush l new (inr k) = takes_flushed l new k

takes_room : (l new : Ledger) (b : Bool) → cond b (new ≡ l) (Flushed l new) → TakesOn l new
takes_room l new true k = takes_none l new k
takes_room l new false k = takes_flushed l new k

takes_recorded : (l new : Ledger) (b : Bool) → cond b (new ≡ l) (RecordsNow l new) → TakesOn l new
takes_recorded l new true k = takes_none l new k
takes_recorded l new false k =
    same_numbers l new (ap (λ (x : Ledger). x.next_segment) k.rest) (ap (λ (x : Ledger). x.next_generation) k.rest) (ap (λ (x : Ledger). x.merging) k.rest)

pub takes_view : (l new : Ledger) → RecordsView l new → TakesOn l new
takes_view l new k = takes_recorded l new (has_recorded l.views l.count) k

pub takes_pruned : (n : ℕ) (l new : Ledger) → Pruned n l new → TakesOn l new
takes_pruned n l new k =
    same_numbers l new (ap (λ (x : Ledger). x.next_segment) k.rest) (ap (λ (x : Ledger). x.next_generation) k.rest) (ap (λ (x : Ledger). x.merging) k.rest)

pub takes_committed : (text : Text) (l new : Ledger) → Committed text l new → TakesOn l new
takes_committed text l new k =
    let more : new.next_generation ≡ l.next_generation + 1 = ap (λ (x : Ledger). x.next_generation) k.rest in
    stays_on l new (no_less (ap (λ (x : Ledger). x.next_segment) k.rest)) (omega (arith, more)) (ap (λ (x : Ledger). x.merging) k.rest)

pub takes_snap : (g : ℕ) (l new : Ledger) → Snaps g l new → TakesOn l new
takes_snap g l new k =
    same_numbers l new (ap (λ (x : Ledger). x.next_segment) k.rest) (ap (λ (x : Ledger). x.next_generation) k.rest) (ap (λ (x : Ledger). x.merging) k.rest)

pub takes_unsnap : (g : ℕ) (l new : Ledger) → Unsnapped g l new → TakesOn l new
takes_unsnap g l new k =
    same_numbers l new (ap (λ (x : Ledger). x.next_segment) k.rest) (ap (λ (x : Ledger). x.next_generation) k.rest) (ap (λ (x : Ledger). x.merging) k.rest)

pub takes_sweep : (begun : List Name) (l new : Ledger) → MayLeave begun l new → TakesOn l new
takes_sweep begun l new k = stays_on l new k.segments k.generations (ap (λ (x : Ledger). x.merging) k.rest)

-- no merge is in the making behind it
no_merge : (l new : Ledger) → new.next_segment ≡ l.next_segment → new.next_generation ≡ l.next_generation → new.merging ≡ None → TakesOn l new
no_merge l new segments generations none = record {
  segments = no_less segments;
  generations = no_less generations;
  merging = λ m making. absurd (let no : None ≡ Some m = sym none ∙ making in cc);
}

one_merge : (a b : Merging) → ◌≡◌ {A = Option Merging} (Some a) (Some b) → a ≡ b
one_merge a b e = cc

-- the merge in the making has this number
numbered : (l new : Ledger) (m : Merging) → new.merging ≡ Some m → l.next_segment ≤ new.next_segment → l.next_generation ≤ new.next_generation
    → ((n : Merging) × (l.merging ≡ Some n) × (m.number ≡ n.number)) ⊎ (l.next_segment ≤ m.number) → TakesOn l new
numbered l new m is segments generations so = record {
  segments = segments;
  generations = generations;
  merging = λ k making.
      let same : k ≡ m = one_merge k m (sym making ∙ is) in
      elim so [ inl old ↦ inl (old.0, old.1, ap (λ (x : Merging). x.number) same ∙ old.2) | inr new ↦ inr (omega (arith, new, ap (λ (x : Merging). x.number) same)) ];
}

takes_begun : (index k : ℕ) (l new : Ledger) → MergeBegun index k l new → TakesOn l new
takes_begun index k l new b =
    let more : new.next_segment ≡ l.next_segment + 1 = ap (λ (x : Ledger). x.next_segment) b.rest in
    numbered l new _ (ap (λ (x : Ledger). x.merging) b.rest) (omega (arith, more)) (no_less (ap (λ (x : Ledger). x.next_generation) b.rest)) (inr (omega arith))

pub takes_maintain : (policy : MergePolicy) (c : Chore) (n : News) (l new : Ledger) → Maintains policy c n l new → TakesOn l new
takes_maintain policy Chore.merge News.idle l new k = takes_none l new k.2
takes_maintain policy Chore.merge (News.begun_merge n) l new k = takes_begun k.1 n l new k.3
takes_maintain policy Chore.merge (News.copied n) l new k =
    numbered l new _ (ap (λ (x : Ledger). x.merging) k.1.rest) (no_less (ap (λ (x : Ledger). x.next_segment) k.1.rest))
    (no_less (ap (λ (x : Ledger). x.next_generation) k.1.rest)) (inl (k.0, k.1.making, refl))
takes_maintain policy Chore.merge News.done l new k =
    no_merge l new (ap (λ (x : Ledger). x.next_segment) k.1.rest) (ap (λ (x : Ledger). x.next_generation) k.1.rest) (ap (λ (x : Ledger). x.merging) k.1.rest)
takes_maintain policy Chore.force News.idle l new k = takes_none l new k.2
takes_maintain policy Chore.force News.busy l new k = takes_none l new k.1
takes_maintain policy Chore.force (News.begun_merge n) l new k = takes_begun 0 n l new k.2
takes_maintain policy Chore.sweep (News.swept n) l new k = takes_sweep [] l new k
takes_maintain policy c n l new k = takes_none l new k.1

pub takes_left : (l new : Ledger) → IsLeft l new → TakesOn l new
takes_left l new k = takes_then l k.flushed new flushed (takes_then k.flushed k.ended new ended (takes_sweep k.begun k.ended new k.rest))
  where
    flushed : TakesOn l k.flushed
    flushed = elim k.flush [ inl e ↦ takes_none l k.flushed e | inr e ↦ takes_flushed l k.flushed e ]

    ended : TakesOn k.flushed k.ended
    ended = elim k.merge [
      | inl e ↦ takes_none k.flushed k.ended e
      | inr e ↦ no_merge k.flushed k.ended (ap (λ (x : Ledger). x.next_segment) e.1.rest) (ap (λ (x : Ledger). x.next_generation) e.1.rest) (ap (λ (x : Ledger). x.merging) e.1.rest)
    ]

-- ---- all of them

takes_snaps : (l : Ledger) (r : Reply) (new : Ledger) → SnapsBy l r new → TakesOn l new
takes_snaps l (Ok (Answer.number g)) new k = takes_snap g l new k
takes_snaps l _ new k = takes_none l new k

-- of two cases, each of which takes on
by_either : (b : Bool) (A B : Type 0) (l new : Ledger) → (A → TakesOn l new) → (B → TakesOn l new) → cond b A B → TakesOn l new
by_either true A B l new f g k = f k
by_either false A B l new f g k = g k

takes_out : (policy : MergePolicy) (l : Ledger) (s : ℕ) (c : Command) (r : Reply) (new : Ledger) → CarriesOut policy l s c r new → TakesOn l new
takes_out policy l s Command.formless r new k = takes_none l new k.1
takes_out policy l s (Command.put (Ok i)) r new k =
    by_either (ltb l.count last_number) _ _ l new
    (λ k. takes_then l k.0 new (takes_room l k.0 _ k.1) (takes_write (Write.put i) k.0 new k.4)) (λ k. takes_none l new k.1) k
takes_out policy l s (Command.put (Err e)) r new k = takes_none l new k.1
takes_out policy l s (Command.delete (Ok id)) r new k =
    by_either (ltb l.count last_number) _ _ l new (λ k. takes_write (Write.delete id) l new k.1) (λ k. takes_none l new k.1) k
takes_out policy l s (Command.delete (Err e)) r new k = takes_none l new k.1
takes_out policy l s (Command.delete_where (Ok q)) r new k =
    by_either (ltb l.count last_number) _ _ l new (λ k. takes_write (Write.delete_where q) l new k.1) (λ k. takes_none l new k.1) k
takes_out policy l s (Command.delete_where (Err e)) r new k = takes_none l new k.1
takes_out policy l s Command.refresh r new k =
    by_either (refuses_refresh (state_of l)) _ _ l new (λ k. takes_none l new k.1)
    (λ k. takes_then l k.0 new (takes_flush l k.0 k.1) (takes_view k.0 new k.2)) k
takes_out policy l s Command.open_newest r new k =
    same_numbers l new (ap (λ (x : Ledger). x.next_segment) k.1) (ap (λ (x : Ledger). x.next_generation) k.1) (ap (λ (x : Ledger). x.merging) k.1)
takes_out policy l s (Command.open_at t) r new k =
    by_either (has_recorded l.views t) _ _ l new
    (λ k. same_numbers l new (ap (λ (x : Ledger). x.next_segment) k.1) (ap (λ (x : Ledger). x.next_generation) k.1) (ap (λ (x : Ledger). x.merging) k.1))
    (λ k. takes_none l new k.1) k
takes_out policy l s (Command.close t) r new k =
    by_either (has_hold l.holds s t) _ _ l new
    (λ k. same_numbers l new (ap (λ (x : Ledger). x.next_segment) k.1) (ap (λ (x : Ledger). x.next_generation) k.1) (ap (λ (x : Ledger). x.merging) k.1))
    (λ k. takes_none l new k.1) k
takes_out policy l s (Command.read t asked) r new k = takes_none l new k.1
takes_out policy l s (Command.files_of_token t) r new k = takes_none l new k.1
takes_out policy l s (Command.chore c) r new k = by_either (s == 0) _ _ l new (λ k. takes_maintain policy c k.0 l new k.2) (λ k. takes_none l new k.1) k
takes_out policy l s (Command.prune n) r new k = takes_pruned n l new k.1
takes_out policy l s (Command.commit (Err e)) r new k = takes_none l new k.1
takes_out policy l s (Command.commit (Ok text)) r new k = takes_then l k.0 new (takes_flush l k.0 k.1) (takes_committed text k.0 new k.2)
takes_out policy l s Command.snapshot r new k = takes_snaps l r new k.1
takes_out policy l s (Command.release_snapshot g) r new k =
    by_either (ltb 0 (snapshots_in l.taken g)) _ _ l new (λ k. takes_unsnap g l new k.1) (λ k. takes_none l new k.1) k
takes_out policy l s (Command.files_of_commit g) r new k = takes_none l new k.1
takes_out policy l s (Command.text_of_commit g) r new k = takes_none l new k.1

found_none : (l : Ledger) (c : Command) (r : Reply) (new : Ledger) → FindsNone l c r new → TakesOn l new
found_none l (Command.commit (Ok text)) r new k = takes_none l new k.2
found_none l _ r new k = absurd k

pub calls_take_on : CallsTakeOn
calls_take_on policy l new line r (inl k) = takes_out policy l line.session line.command r new k
calls_take_on policy l new line r (inr (inl k)) = takes_left l new k.1
calls_take_on policy l new line r (inr (inr k)) = found_none l line.command r new k
