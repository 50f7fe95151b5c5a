-- Maintenance, lines that are stopped, and what they leave.
use Rattle.std.proofs.Common.{◌≡◌, ℕ, ◌<◌, ◌≤◌, List, [], ◌∷◌, length, map, Bool, true, false, cond, ltb, Option, Some, None, refl, sym, ap, subst, arith, inl, inr, ◌+◌, ◌∙◌}
use Rattle.std.specs.Prelude.{◌⊎◌, Ok, Err, IsTrue}
use Rattle.std.specs.List.{flat_map, last_or, AllByRecursion}
use Rattle.std.proofs.lemmas.Bool.Decides.{nat_tests}
use Rattle.cat_model.specs.cat_base.declared.refusal.Refusal.TheVariants.{Spent}
use Rattle.cat_model.specs.Answer.{Read, Found, stored}
use Rattle.cat_model.specs.Limits.{last_number, buffer_limit}
use Rattle.cat_model.specs.Run.{Chore, News, Command, Answer, Reply, may_tell, read_reply}
use Rattle.cat_model.specs.State.{State, Commit, has_hold, is_below, newest_of, committed, table_under}
use Rattle.cat_ledger_laws.specs.model.Calls.{Flushes, Flushed, MayLeave, TakesOne}
use Rattle.cat_ledger_laws.specs.model.Ledger.{Ledger, LedgerCommit, IsLedger, IsPast, commit_shown, names_of_portion, names_of_view, names_of_commit, names_of_merging, state_of}
use Rattle.cat_ledger_laws.specs.model.Replies.{Maintains, IsLeft}
use Rattle.cat_ledger_laws.proofs.model.Users.{All-split, All-four}
use Rattle.cat_ledger_laws.specs.shape.Shapes.{Shape}
use Rattle.cat_ledger_laws.proofs.shape.Told.{makes_of, makes_still}
use Rattle.cat_ledger_laws.specs.lines.LineLaws.{line_of}
use Rattle.cat_ledger_laws.specs.lines.StopLaws.{ChoresAnswer, SweepsTell, WarmsTell, StatsTell, StoppedCommitsAnswer, StoppedChoresAnswer, StoppedGetsAnswer, NothingIsLeft, BegunAreLeft, FlushesAreLeft, RoomIsLeft, FlushedAreLeft, EndedAreLeft}
use Rattle.cat_ledger_laws.proofs.lines.LineAnswers.{alike_self, answers_by, given}
use Rattle.cat_ledger_laws.proofs.lines.HoldAnswers.{held_as}
use Rattle.cat_model.specs.Files.{Name}
use Rattle.cat_ledger_laws.specs.model.Users.{has_name}

-- ---- maintenance

pub chores_answer : ChoresAnswer
chores_answer policy told told' s new c n = answers_by policy told told' s new (line_of 0 (Command.chore c)) (Ok (Answer.news n)) (Maintains policy c n) (λ l l' e k. inl (n, refl, k))

pub sweeps_tell : SweepsTell
sweeps_tell policy told told' s new n m = m

pub warms_tell : WarmsTell
warms_tell policy told told' s new n may still = makes_still (Maintains policy Chore.warm n) told told' s new still.0 still.1 (λ l e. (may, refl))

pub stats_tell : StatsTell
stats_tell policy told told' s new stat still = makes_still (Maintains policy Chore.stat (News.state stat)) told told' s new still.0 still.1 (λ l e. (refl, refl))

-- ---- a COMMIT

below_last : (g : ℕ) (o : Option ℕ) (ks : List ℕ) → is_below o g ≡ true → AllByRecursion (λ k. k < g) ks → is_below (last_or o ks) g ≡ true
below_last g o [] h a = h
below_last g o (k ∷ ks) h a = below_last g (Some k) ks (let less : k < g = a.0 in grind (arith, nat_tests)) a.1

generations_below : (n g h : ℕ) → g ≤ h → (cs : List LedgerCommit) → AllByRecursion (IsPast n g) (flat_map names_of_commit cs) → AllByRecursion (λ k. k < h) (map (λ (c : Commit). c.generation) (map commit_shown cs))
generations_below n g h up [] a = tt
generations_below n g h up (c ∷ cs) a =
    let r = All-split (IsPast n g) (names_of_commit c) (flat_map names_of_commit cs) a in
    let less : c.generation < g = r.0.0.1 in
    (omega arith, generations_below n g h up cs r.1)

-- the newest commit is below a number that the next generation is at most
newest_below : (l : Ledger) → IsLedger l → (h : ℕ) → l.next_generation ≤ h → is_below (newest_of (state_of l).commits) h ≡ true
newest_below l ok h up =
    let past = All-four (IsPast l.next_segment l.next_generation) (flat_map names_of_portion l.portions) (flat_map names_of_view l.views) (flat_map names_of_commit l.commits) (names_of_merging l.merging) ok.fresh in
    below_last h None (map (λ (c : Commit). c.generation) (map commit_shown l.commits)) refl (generations_below l.next_segment l.next_generation h up l.commits past.commits)

pub stopped_commits_answer : StoppedCommitsAnswer
stopped_commits_answer policy told told' s new session text refusal left may m l files c =
    let x = m l files c in
    let g : ℕ = l.next_generation in
    let st : State = state_of l in
    let after : State = committed st (record { generation = g; text = text }) in
    let fits : g ≤ last_number = subst (λ (s : Shape). s.next_generation ≤ last_number) (sym c.shape) left in
    let could : cond (is_below (newest_of st.commits) last_number)
    ((h : ℕ) × ◌≡◌ {A = Reply} (Ok (Answer.number g)) (Ok (Answer.number h)) × (0 < h) × (h ≤ last_number) × IsTrue (is_below (newest_of st.commits) h)
    × (after ≡ committed st (record { generation = h; text = text })))
    (◌≡◌ {A = Reply} (Ok (Answer.number g)) (Err Spent) × (after ≡ st)) =
    given (◌≡◌ {A = Reply} (Ok (Answer.number g)) (Err Spent) × (after ≡ st)) (is_below (newest_of st.commits) last_number) (newest_below l c.sound last_number fits)
    (g, refl, c.sound.numbers.1, fits, newest_below l c.sound g (omega arith), refl) in (
      x.0,
      x.1,
      Err refusal,
      record { alike = alike_self (Err refusal); same = λ h. refl },
      inr (inl (inr ((refusal, refl, may), (Answer.number g, (after, could))), x.2, inr fits)),
      x.3,
    )

-- ---- maintenance that is stopped

some_news : (c : Chore) → (n : News) × IsTrue (may_tell c n)
some_news Chore.merge = (News.idle, refl)
some_news Chore.force = (News.idle, refl)
some_news Chore.warm = (News.idle, refl)
some_news Chore.sweep = (News.swept 0, refl)
some_news Chore.stat = (News.state (record { writes = 0; buffered = 0; views = 0; cached = 0; pending = 0; segments = [] }), refl)

pub stopped_chores_answer : StoppedChoresAnswer
stopped_chores_answer policy told told' s new c refusal may = answers_by policy told told' s new (line_of 0 (Command.chore c)) (Err refusal) IsLeft (λ l l' e k.
    let n = some_news c in
    inr (inl (inr ((refusal, refl, may), (Answer.news n.0, (state_of l, ((n.0, refl, n.1), refl)))), k, tt)))

-- ---- a GET that is stopped

pub stopped_gets_answer : StoppedGetsAnswer
stopped_gets_answer policy told told' s new session t id refusal held may = answers_by policy told told' s new (line_of session (Command.read t (Read.get (Ok id)))) (Err refusal) IsLeft (λ l l' e k.
    let found : Found = Found.source (stored (table_under (state_of l).views t) id) in
    let due : read_reply (has_hold l.holds session t) l.schema (table_under (state_of l).views t) (Read.get (Ok id)) ≡ Ok (Answer.found found) =
    ap (λ b. read_reply b l.schema (table_under (state_of l).views t) (Read.get (Ok id))) (held_as s l e session t true held) in
    inr (inl (inr ((refusal, refl, may), (Answer.found found, (state_of l, (sym due, refl)))), k, tt)))

-- ---- what is left

-- nothing was begun, and nothing taken
untouched : (l : Ledger) → IsLedger l → MayLeave [] l l
untouched l ok = record {
  known = λ q h. absurd (let no : false ≡ true = h in cc);
  users = λ q. refl;
  segments = omega arith;
  generations = omega arith;
  one_segment = inl refl;
  one_generation = inl refl;
  left = (ok.fits.1, ok.fits.2);
  rest = refl;
}

flush_made : (l mid : Ledger) → Flushes l mid → (mid ≡ l) ⊎ Flushed l mid
flush_made l mid (inl k) = inl k.1
flush_made l mid (inr k) = inr k

room_made : (l mid : Ledger) (b : Bool) → cond b (mid ≡ l) (Flushed l mid) → (mid ≡ l) ⊎ Flushed l mid
room_made l mid true k = inl k
room_made l mid false k = inr k

-- a flush takes one number, if there was one
flush_takes : (l mid : Ledger) → (mid ≡ l) ⊎ Flushed l mid → mid.next_segment ≤ l.next_segment + 1
flush_takes l mid (inl k) = let same : mid.next_segment ≡ l.next_segment = ap (λ (x : Ledger). x.next_segment) k in omega (arith, same)
flush_takes l mid (inr k) = let one : mid.next_segment ≡ l.next_segment + 1 = ap (λ (x : Ledger). x.next_segment) k.rest in omega (arith, one)

-- one number is taken at most
pub takes_one : (begun : List Name) (q : Name) (n next : ℕ) → TakesOne begun q n next → next ≤ n + 1
takes_one begun q n next (inl k) = omega (arith, k)
takes_one begun q n next (inr k) = omega (arith, k.0)

-- and none where the file wasn't begun
takes_none : (begun : List Name) (q : Name) (n next : ℕ) → has_name q begun ≡ false → TakesOne begun q n next → next ≡ n
takes_none begun q n next out (inl k) = k
takes_none begun q n next out (inr k) = absurd (let both : true ≡ false = sym k.1 ∙ out in cc)

-- a flush, if there was one, with nothing begun after it
flush_left : (l mid : Ledger) → IsLedger mid → (mid ≡ l) ⊎ Flushed l mid → IsLeft l mid
flush_left l mid ok f =
    record { flushed = mid; ended = mid; begun = []; flush = f; merge = inl refl; one_segment = flush_takes l mid f; rest = untouched mid ok }

pub nothing_is_left : NothingIsLeft
nothing_is_left told told' s new still l files c =
    let x = makes_still (λ l l'. l' ≡ l) told told' s new still.0 still.1 (λ l e. refl) l files c in
    (x.0, x.1, flush_left l x.0 x.3.sound (inl x.2), x.3)

pub begun_are_left : BegunAreLeft
begun_are_left begun told told' s new = makes_of (MayLeave begun) IsLeft told told' s new (λ l l' e k. record {
  flushed = l;
  ended = l;
  begun = begun;
  flush = inl refl;
  merge = inl refl;
  one_segment = takes_one begun (Name.source l.next_segment) l.next_segment l'.next_segment k.one_segment;
  rest = k;
})

pub flushes_are_left : FlushesAreLeft
flushes_are_left told told' s new m l files c =
    let x = m l files c in
    (x.0, x.1, flush_left l x.0 x.3.sound (flush_made l x.0 x.2), x.3)

pub room_is_left : RoomIsLeft
room_is_left told told' s new m l files c =
    let x = m l files c in
    (x.0, x.1, flush_left l x.0 x.3.sound (room_made l x.0 (ltb (length l.buffered) buffer_limit) x.2), x.3)

pub flushed_are_left : FlushedAreLeft
flushed_are_left begun told told' told'' s mid new none_begun first second l files c =
    let x = first l files c in
    let y = second x.0 x.1 x.3 in
    let flush = flush_made l x.0 x.2 in
    let at_mid : mid.next_segment ≡ x.0.next_segment = ap (λ (s : Shape). s.next_segment) (sym x.3.shape) in
    let none : has_name (Name.source x.0.next_segment) begun ≡ false = subst (λ n. has_name (Name.source n) begun ≡ false) at_mid none_begun in
    let still : y.0.next_segment ≡ x.0.next_segment =
    takes_none begun (Name.source x.0.next_segment) x.0.next_segment y.0.next_segment none y.2.one_segment in
    let one : x.0.next_segment ≤ l.next_segment + 1 = flush_takes l x.0 flush in (
      y.0,
      y.1,
      record { flushed = x.0; ended = x.0; begun = begun; flush = flush; merge = inl refl; one_segment = omega (arith, still, one); rest = y.2 },
      y.3,
    )

pub ended_are_left : EndedAreLeft
ended_are_left m told told' s new call l files c =
    let x = call l files c in
    let same : x.0.next_segment ≡ l.next_segment = ap (λ (y : Ledger). y.next_segment) x.2.2.rest in
    let one : x.0.next_segment ≤ l.next_segment + 1 = omega (arith, same) in (
      x.0,
      x.1,
      record { flushed = l; ended = x.0; begun = []; flush = inl refl; merge = inr (x.2.0, x.2.2); one_segment = one; rest = untouched x.0 x.3.sound },
      x.3,
    )
