-- The ledger's calls for a line are a step of the service.
use Rattle.std.proofs.Common.{◌≡◌, ℕ, ◌+◌, ◌-◌, ◌≤◌, ◌<◌, List, [], ◌∷◌, ◌++◌, length, map, Bool, true, false, cond, not, ◌&&◌, ◌||◌, ltb, Option, Some, None, refl, ltb-true, sym, ◌∙◌, ap, ap₂, subst, arith, inl, inr}
use Rattle.std.specs.Prelude.{◌==◌, ◌⊎◌, Ok, Err, IsTrue}
use Rattle.std.specs.List.{filter}
use Rattle.std.proofs.lemmas.Bool.Decides.{nat_tests, eqb_tells}
use Rattle.cat_model.specs.cat_base.declared.refusal.Refusal.TheVariants.{Line as NoForm, Spent, Full, Gone, NotHeld, NoSnapshot}
use Rattle.cat_model.specs.Text.{Text}
use Rattle.cat_model.specs.Item.{Item, IsItem}
use Rattle.cat_model.specs.Query.{Query}
use Rattle.cat_model.specs.Write.{Write}
use Rattle.cat_model.specs.Run.{Chore, News, Command, Answer, Reply, greatest, may_tell, has}
use Rattle.cat_model.specs.Limits.{last_number, buffer_limit}
use Rattle.cat_model.specs.State.{State, RecordedTable, Hold, tokens, has_view, has_hold, held_in, snapshots_in, newest_of, is_below, refuses_refresh, refreshed, views_pruned, written, with_hold, without_hold, committed, GivesSnapshot, Snapped, Moves, Halts, IsSound}
use Rattle.cat_model.proofs.Lists.{list_any-append}
use Rattle.cat_model.proofs.Runs.{greatest_in, or_true}
use Rattle.cat_ledger_laws.specs.model.Ledger.{Ledger, RecordedView, IsLedger, state_of, view_shown}
use Rattle.cat_ledger_laws.specs.model.Calls.{tokens_in, has_recorded, wrote, Flushes, Flushed, RecordsView, Pruned, views_that, stays_pruned, Committed, Unsnapped}
use Rattle.cat_ledger_laws.specs.model.Plans.{MergePolicy}
use Rattle.cat_ledger_laws.specs.model.Replies.{MakesRoom, Maintains, SnapsBy, CarriesOut, IsLeft, FindsNone}
use Rattle.cat_ledger_laws.specs.model.Laws.{CallsAreSteps}
use Rattle.cat_ledger_laws.proofs.model.Flushes.{flushed, flushes_change_no_state, writes_are_written}
use Rattle.cat_ledger_laws.proofs.model.Merges.{merges_change_no_state}
use Rattle.cat_ledger_laws.proofs.model.Begins.{begun_change_no_state, copies_change_no_state, ends_change_no_state, refusals_change_no_state, holds_are_apart}
use Rattle.cat_ledger_laws.proofs.model.Views.{views_are_recorded, views_are_pruned, tokens-shown, has-shown, length-map, pruned_shown, or_left}
use Rattle.cat_ledger_laws.proofs.model.Commits.{commits_are_kept, snapshots_are_taken, snapshots_are_given}

-- ---- holds and views

or_split : (a b : Bool) → (a || b) ≡ true → (a ≡ true) ⊎ (b ≡ true)
or_split true b e = inl refl
or_split false b e = inr e

-- a hold of a token that has a view
sound_opened : (vs : List RecordedTable) (hs : List Hold) (s t : ℕ) (b : Bool) → IsSound vs hs → has_view vs t ≡ true → IsSound vs (cond b hs (hs ++ record { session = s; token = t } ∷ []))
sound_opened vs hs s t true ok h = ok
sound_opened vs hs s t false ok h = record {
  some_view = ok.some_view;
  held = λ u k. elim (or_split (held_in hs u) ((t == u) || false) (sym (list_any-append (λ x. x.token == u) hs (record { session = s; token = t } ∷ [])) ∙ k)) [
    | inl e ↦ ok.held u e
    | inr e ↦ elim (eqb_tells t u) [ inl f ↦ subst (λ v. has_view vs v ≡ true) f.1 h | inr f ↦ absurd (let no : false ≡ true = sym (ap (λ b. b || false) f.0) ∙ e in cc) ]
  ];
}

kept_held : (p : Hold → Bool) (hs : List Hold) (t : ℕ) → held_in (filter p hs) t ≡ true → held_in hs t ≡ true
kept_held p [] t h = h
kept_held p (x ∷ hs) t h = at (p x) (kept_held p hs t) h
  where
    at : (b : Bool) → (held_in (filter p hs) t ≡ true → held_in hs t ≡ true) → held_in (cond b (x ∷ filter p hs) (filter p hs)) t ≡ true → held_in (x ∷ hs) t ≡ true
    at true f h = elim (or_split (x.token == t) (held_in (filter p hs) t) h) [ inl e ↦ or_left (x.token == t) (held_in hs t) e | inr e ↦ ap (λ b. (x.token == t) || b) (f e) ∙ or_true (x.token == t) ]
    at false f h = ap (λ b. (x.token == t) || b) (f h) ∙ or_true (x.token == t)

sound_closed : (vs : List RecordedTable) (hs : List Hold) (p : Hold → Bool) → IsSound vs hs → IsSound vs (filter p hs)
sound_closed vs hs p ok = record { some_view = ok.some_view; held = λ t h. ok.held t (kept_held p hs t h) }

has-tokens : (vs : List RecordedTable) (t : ℕ) → has (tokens vs) t ≡ has_view vs t
has-tokens [] t = refl
has-tokens (v ∷ vs) t = ap (λ b. (v.token == t) || b) (has-tokens vs t)

newest_there : (l : Ledger) → IsLedger l → has_view (state_of l).views (greatest (tokens_in l.views)) ≡ true
newest_there l ok =
    let vs : List RecordedTable = map view_shown l.views in
    sym (has-tokens vs (greatest (tokens_in l.views))) ∙ ap (λ ts. has ts (greatest (tokens_in l.views))) (tokens-shown l.views)
    ∙ greatest_in (tokens_in l.views) (omega (arith, length-map (λ (v : RecordedView). v.token) l.views, length-map view_shown l.views, ok.sound.some_view))

below_less : (o : Option ℕ) (g h : ℕ) → is_below o g ≡ true → g ≤ h → is_below o h ≡ true
below_less None g h e k = refl
below_less (Some n) g h e k = grind (arith, nat_tests)

-- ---- each command

Done : Ledger → ℕ → Command → Reply → Ledger → Type 0
Done l s c r new = IsLedger new × Moves l.schema (state_of l) s c r (state_of new)

module _ (l : Ledger) (s : ℕ) (r : Reply) (new : Ledger) (ok : IsLedger l) where
  stays : (new ≡ l) → IsLedger new × (state_of new ≡ state_of l)
  stays k = (subst IsLedger (sym k) ok, ap state_of k)

  room : (b : Bool) (mid : Ledger) → cond b (mid ≡ l) (Flushed l mid) → IsLedger mid × (state_of mid ≡ state_of l)
  room true mid k = (subst IsLedger (sym k) ok, ap state_of k)
  room false mid k = let f = flushed l mid ok k in (f.0, f.1)

  room_schema : (b : Bool) (mid : Ledger) → cond b (mid ≡ l) (Flushed l mid) → mid.schema ≡ l.schema
  room_schema true mid k = ap (λ (x : Ledger). x.schema) k
  room_schema false mid k = ap (λ (x : Ledger). x.schema) k.rest

  put_by : (i : Item) (b : Bool) → ltb l.count last_number ≡ b
      → cond b ((mid : Ledger) × MakesRoom l mid × IsItem l.schema i × (r ≡ Ok (Answer.number (l.count + 1))) × (new ≡ wrote mid (Write.put i))) ((r ≡ Err Spent) × (new ≡ l))
      → IsLedger new × (r ≡ cond b (Ok (Answer.number (l.count + 1))) (Err Spent)) × (state_of new ≡ cond b (written (state_of l) (Write.put i)) (state_of l))
  put_by i true h (mid, made, item, e, k) =
      let b : Bool = ltb (length l.buffered) buffer_limit in
      let f = room b mid made in
      let few : mid.count < last_number = subst (λ n. n < last_number) (sym (ap (λ (st : State). st.count) f.1)) (ltb-true l.count last_number h) in
      let w = writes_are_written mid (Write.put i) f.0 few (subst (λ schema. IsItem schema i) (sym (room_schema b mid made)) item) in
      (subst IsLedger (sym k) w.0, e, ap state_of k ∙ w.1 ∙ ap (λ st. written st (Write.put i)) f.1)
  put_by i false h m = let k = stays m.1 in (k.0, m.0, k.1)

  delete_by : (id : Text) (b : Bool) → ltb l.count last_number ≡ b
      → cond b ((r ≡ Ok (Answer.number (l.count + 1))) × (new ≡ wrote l (Write.delete id))) ((r ≡ Err Spent) × (new ≡ l))
      → IsLedger new × (r ≡ cond b (Ok (Answer.number (l.count + 1))) (Err Spent)) × (state_of new ≡ cond b (written (state_of l) (Write.delete id)) (state_of l))
  delete_by id true h m = let w = writes_are_written l (Write.delete id) ok (ltb-true l.count last_number h) tt in (subst IsLedger (sym m.1) w.0, m.0, ap state_of m.1 ∙ w.1)
  delete_by id false h m = let k = stays m.1 in (k.0, m.0, k.1)

  delete_where_by : (q : Query) (b : Bool) → ltb l.count last_number ≡ b
      → cond b ((r ≡ Ok (Answer.number (l.count + 1))) × (new ≡ wrote l (Write.delete_where q))) ((r ≡ Err Spent) × (new ≡ l))
      → IsLedger new × (r ≡ cond b (Ok (Answer.number (l.count + 1))) (Err Spent)) × (state_of new ≡ cond b (written (state_of l) (Write.delete_where q)) (state_of l))
  delete_where_by q true h m = let w = writes_are_written l (Write.delete_where q) ok (ltb-true l.count last_number h) tt in (subst IsLedger (sym m.1) w.0, m.0, ap state_of m.1 ∙ w.1)
  delete_where_by q false h m = let k = stays m.1 in (k.0, m.0, k.1)

  refresh_by : (b : Bool) → cond b ((r ≡ Err Full) × (new ≡ l)) ((mid : Ledger) × Flushes l mid × RecordsView mid new × (r ≡ Ok (Answer.number l.count)))
      → IsLedger new × (r ≡ cond b (Err Full) (Ok (Answer.number l.count))) × (state_of new ≡ cond b (state_of l) (refreshed (state_of l)))
  refresh_by true m = let k = stays m.1 in (k.0, m.0, k.1)
  refresh_by false (mid, f, rec, e) =
      let k = flushes_change_no_state l mid ok f in
      let v = views_are_recorded mid new k.0 k.2 rec in
      (v.0, e, v.1 ∙ ap refreshed k.1)

  open_by : (t : ℕ) (b : Bool) → has_recorded l.views t ≡ b → cond b ((r ≡ Ok (Answer.number t)) × (new ≡ record l { holds = (with_hold (state_of l) s t).holds })) ((r ≡ Err Gone) × (new ≡ l))
      → IsLedger new × (r ≡ cond b (Ok (Answer.number t)) (Err Gone)) × (state_of new ≡ cond b (with_hold (state_of l) s t) (state_of l))
  open_by t true e m =
      let h = holds_are_apart l (with_hold (state_of l) s t).holds ok (sound_opened (state_of l).views l.holds s t (has_hold l.holds s t) ok.sound (has-shown l.views t ∙ e)) in
      (subst IsLedger (sym m.1) h.0, m.0, ap state_of m.1)
  open_by t false e m = let k = stays m.1 in (k.0, m.0, k.1)

  close_by : (t : ℕ) (b : Bool) → cond b ((r ≡ Ok (Answer.number t)) × (new ≡ record l { holds = (without_hold (state_of l) s t).holds })) ((r ≡ Err NotHeld) × (new ≡ l))
      → IsLedger new × (r ≡ cond b (Ok (Answer.number t)) (Err NotHeld)) × (state_of new ≡ cond b (without_hold (state_of l) s t) (state_of l))
  close_by t true m =
      let h = holds_are_apart l (without_hold (state_of l) s t).holds ok (sound_closed (state_of l).views l.holds (λ h. not ((h.session == s) && (h.token == t))) ok.sound) in
      (subst IsLedger (sym m.1) h.0, m.0, ap state_of m.1)
  close_by t false m = let k = stays m.1 in (k.0, m.0, k.1)

  maintains : (policy : MergePolicy) (c : Chore) (n : News) → Maintains policy c n l new → IsLedger new × (state_of new ≡ state_of l) × IsTrue (may_tell c n)
  maintains policy Chore.merge News.idle m = let x = stays m.2 in (x.0, x.1, refl)
  maintains policy Chore.merge (News.begun_merge k) m = let x = begun_change_no_state m.1 k l new ok m.3 in (x.0, x.1, refl)
  maintains policy Chore.merge (News.copied n) m = let x = copies_change_no_state m.0 l new ok m.1 in (x.0, x.1, refl)
  maintains policy Chore.merge News.done m = let x = merges_change_no_state m.0 l new ok m.1 in (x.0, x.1, refl)
  maintains policy Chore.force News.idle m = let x = stays m.2 in (x.0, x.1, refl)
  maintains policy Chore.force News.busy m = let x = stays m.1 in (x.0, x.1, refl)
  maintains policy Chore.force (News.begun_merge k) m = let x = begun_change_no_state 0 k l new ok m.2 in (x.0, x.1, refl)
  maintains policy Chore.sweep (News.swept n) m = let x = refusals_change_no_state [] l new ok m in (x.0, x.1, refl)
  maintains policy c n m = let x = stays m.1 in (x.0, x.1, m.0)

  chore_by : (policy : MergePolicy) (c : Chore) (b : Bool) → cond b ((n : News) × (r ≡ Ok (Answer.news n)) × Maintains policy c n l new) ((r ≡ Err NoForm) × (new ≡ l))
      → IsLedger new × cond b ((n : News) × (r ≡ Ok (Answer.news n)) × IsTrue (may_tell c n)) (r ≡ Err NoForm) × (state_of new ≡ state_of l)
  chore_by policy c true (n, e, m) = let k = maintains policy c n m in (k.0, (n, e, k.2), k.1)
  chore_by policy c false m = let k = stays m.1 in (k.0, m.0, k.1)

  snaps_by : (x : Reply) → SnapsBy l x new → IsLedger new × Snapped (state_of l) x (state_of new)
  snaps_by (Ok (Answer.number g)) m = snapshots_are_taken g l new ok m
  snaps_by (Ok (Answer.found f)) m = stays m
  snaps_by (Ok (Answer.names ns)) m = stays m
  snaps_by (Ok (Answer.commit_text t)) m = stays m
  snaps_by (Ok (Answer.news n)) m = stays m
  snaps_by (Err e) m = stays m

  release_by : (g : ℕ) (b : Bool) → cond b ((r ≡ Ok (Answer.number (snapshots_in l.taken g - 1))) × Unsnapped g l new) ((r ≡ Err NoSnapshot) × (new ≡ l))
      → IsLedger new × (r ≡ cond b (Ok (Answer.number (snapshots_in l.taken g - 1))) (Err NoSnapshot)) × cond b (GivesSnapshot (state_of l) g (state_of new)) (state_of new ≡ state_of l)
  release_by g true m = let k = snapshots_are_given g l new ok m.1 in (k.0, m.0, k.1)
  release_by g false m = let k = stays m.1 in (k.0, m.0, k.1)

  commit_moves : (text : Text) (mid : Ledger) → Flushes l mid → Committed text mid new → r ≡ Ok (Answer.number mid.next_generation) → IsLedger new × Moves l.schema (state_of l) s (Command.commit (Ok text)) r (state_of new)
  commit_moves text mid f call e =
      let g : ℕ = mid.next_generation in
      let k = flushes_change_no_state l mid ok f in
      let c = commits_are_kept text mid new k.0 k.2 call in
      let below : is_below (newest_of (state_of l).commits) g ≡ true = ap (λ (st : State). is_below (newest_of st.commits) g) (sym k.1) ∙ c.2 in
      let low : is_below (newest_of (state_of l).commits) last_number ≡ true = below_less (newest_of (state_of l).commits) g last_number below call.left in (
        c.0,
        subst (λ b. cond b ((h : ℕ) × (r ≡ Ok (Answer.number h)) × (0 < h) × (h ≤ last_number) × IsTrue (is_below (newest_of (state_of l).commits) h) × (state_of new ≡ committed (state_of l) (record { generation = h; text = text }))) ((r ≡ Err Spent) × (state_of new ≡ state_of l)))
            (sym low) (g, e, k.0.numbers.1, call.left, below, c.1 ∙ ap (λ st. committed st (record { generation = g; text = text })) k.1),
      )

  prune_moves : (n : ℕ) → r ≡ Ok (Answer.number (length l.views - length new.views)) → Pruned n l new → IsLedger new × Moves l.schema (state_of l) s (Command.prune n) r (state_of new)
  prune_moves n e call =
      let k = views_are_pruned n l new ok call in
      let gone : length new.views ≡ length (views_pruned (held_in l.holds) n (state_of l).views) =
      ap (λ (x : Ledger). length x.views) call.rest ∙ sym (length-map view_shown (views_that (stays_pruned (held_in l.holds) n (tokens_in l.views)) l.views)) ∙ ap length (pruned_shown (held_in l.holds) n l.views) in
      (k.0, (e ∙ ap₂ (λ (a b : ℕ). Ok (Answer.number (a - b))) (sym (length-map view_shown l.views)) gone, k.1))

  serves : (policy : MergePolicy) (c : Command) → CarriesOut policy l s c r new → IsLedger new × Moves l.schema (state_of l) s c r (state_of new)
  serves policy Command.formless m = let k = stays m.1 in (k.0, (m.0, k.1))
  serves policy (Command.put (Ok i)) m = let k = put_by i (ltb l.count last_number) refl m in (k.0, (k.1, k.2))
  serves policy (Command.put (Err e)) m = let k = stays m.1 in (k.0, (m.0, k.1))
  serves policy (Command.delete (Ok id)) m = let k = delete_by id (ltb l.count last_number) refl m in (k.0, (k.1, k.2))
  serves policy (Command.delete (Err e)) m = let k = stays m.1 in (k.0, (m.0, k.1))
  serves policy (Command.delete_where (Ok q)) m = let k = delete_where_by q (ltb l.count last_number) refl m in (k.0, (k.1, k.2))
  serves policy (Command.delete_where (Err e)) m = let k = stays m.1 in (k.0, (m.0, k.1))
  serves policy Command.refresh m = let k = refresh_by (refuses_refresh (state_of l)) m in (k.0, (k.1, k.2))
  serves policy Command.open_newest m =
      let t : ℕ = greatest (tokens_in l.views) in
      let h = holds_are_apart l (with_hold (state_of l) s t).holds ok (sound_opened (state_of l).views l.holds s t (has_hold l.holds s t) ok.sound (newest_there l ok)) in
      let same : greatest (tokens_in l.views) ≡ greatest (tokens (state_of l).views) = ap greatest (sym (tokens-shown l.views)) in
      (subst IsLedger (sym m.1) h.0, (m.0 ∙ ap (λ n. Ok (Answer.number n)) same, ap state_of m.1 ∙ ap (with_hold (state_of l) s) same))
  serves policy (Command.open_at t) m =
      let k = open_by t (has_recorded l.views t) refl m in
      let e : has_recorded l.views t ≡ has_view (state_of l).views t = sym (has-shown l.views t) in
      (k.0, (k.1 ∙ ap (λ b. cond b (Ok (Answer.number t)) (Err Gone)) e, k.2 ∙ ap (λ b. cond b (with_hold (state_of l) s t) (state_of l)) e))
  serves policy (Command.close t) m = let k = close_by t (has_hold l.holds s t) m in (k.0, (k.1, k.2))
  serves policy (Command.read t asked) m = let k = stays m.1 in (k.0, (m.0, k.1))
  serves policy (Command.files_of_token t) m = let k = stays m.1 in (k.0, (m.0, k.1))
  serves policy (Command.chore c) m = let k = chore_by policy c (s == 0) m in (k.0, (k.1, k.2))
  serves policy (Command.prune n) m = prune_moves n m.0 m.1
  serves policy (Command.commit (Err e)) m = let k = stays m.1 in (k.0, (m.0, k.1))
  serves policy (Command.commit (Ok text)) (mid, f, call, e) = commit_moves text mid f call e
  serves policy Command.snapshot m = let k = snaps_by r m.1 in (k.0, (m.0, k.1))
  serves policy (Command.release_snapshot g) m = let k = release_by g (ltb 0 (snapshots_in l.taken g)) m in (k.0, (k.1, k.2))
  serves policy (Command.files_of_commit g) m = let k = stays m.1 in (k.0, (m.0, k.1))
  serves policy (Command.text_of_commit g) m = let k = stays m.1 in (k.0, (m.0, k.1))

  left : IsLeft l new → IsLedger new × (state_of new ≡ state_of l)
  left h =
      let f : IsLedger h.flushed × (state_of h.flushed ≡ state_of l) = elim h.flush [ inl k ↦ (subst IsLedger (sym k) ok, ap state_of k) | inr k ↦ let f = flushed l h.flushed ok k in (f.0, f.1) ] in
      let e : IsLedger h.ended × (state_of h.ended ≡ state_of h.flushed) = elim h.merge [ inl k ↦ (subst IsLedger (sym k) f.0, ap state_of k) | inr k ↦ ends_change_no_state k.0 h.flushed h.ended f.0 k.1 ] in
      let x = refusals_change_no_state h.begun h.ended new e.0 h.rest in
      (x.0, x.1 ∙ e.1 ∙ f.1)

-- a COMMIT that finds no generation left: the newest commit has the last one, or an OK could have been told
module _ (l : Ledger) (s : ℕ) (r : Reply) (new : Ledger) (ok : IsLedger l) where
  Stepped : Command → Type 0
  Stepped c = Moves l.schema (state_of l) s c r (state_of new) ⊎ (Halts l.schema (state_of l) s c r × (state_of new ≡ state_of l))

  spent_by : (text : Text) (b : Bool) → is_below (newest_of (state_of l).commits) last_number ≡ b → r ≡ Err Spent → state_of new ≡ state_of l → Stepped (Command.commit (Ok text))
  unfolding Stepped
  spent_by text true e told' same =
      let st : State = state_of l in
      inr (
        inr (
          (Spent, told', refl),
          (
            Answer.number last_number,
            (
              committed st (record { generation = last_number; text = text }),
              subst (λ b. cond b ((g : ℕ) × (◌≡◌ {A = Reply} (Ok (Answer.number last_number)) (Ok (Answer.number g))) × (0 < g) × (g ≤ last_number) × IsTrue (is_below (newest_of st.commits) g) × (committed st (record { generation = last_number; text = text }) ≡ committed st (record { generation = g; text = text }))) ((◌≡◌ {A = Reply} (Ok (Answer.number last_number)) (Err Spent)) × (committed st (record { generation = last_number; text = text }) ≡ st)))
                  (sym e) (last_number, refl, omega arith, omega arith, e, refl),
            ),
          ),
        ),
        same,
      )
  spent_by text false e told' same = inl (subst (λ b. cond b ((g : ℕ) × (r ≡ Ok (Answer.number g)) × (0 < g) × (g ≤ last_number) × IsTrue (is_below (newest_of (state_of l).commits) g) × (state_of new ≡ committed (state_of l) (record { generation = g; text = text }))) ((r ≡ Err Spent) × (state_of new ≡ state_of l))) (sym e) (told', same))

  finds_none : (c : Command) → FindsNone l c r new → IsLedger new × Stepped c
  finds_none (Command.commit (Ok text)) m = (subst IsLedger (sym m.2) ok, spent_by text (is_below (newest_of (state_of l).commits) last_number) refl m.0 (ap state_of m.2))
  finds_none _ m = absurd m

pub calls_are_steps : CallsAreSteps
unfolding Stepped
calls_are_steps policy l new line r ok (inl m) = let k = serves l line.session r new ok policy line.command m in (k.0, inl k.1)
calls_are_steps policy l new line r ok (inr (inl m)) = let k = left l line.session r new ok m.1 in (k.0, inr (m.0, k.1))
calls_are_steps policy l new line r ok (inr (inr m)) = finds_none l line.session r new ok line.command m
