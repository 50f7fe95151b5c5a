-- What a call of the ledger's model makes of the merge in the making, and of which merge the segments change, as a standing says it.
use Rattle.std.proofs.Common.{◌≡◌, ◌≢◌, ℕ, ◌+◌, ◌≤◌, List, length, map, take, drop, sum, Bool, true, false, true≢false, cond, ltb, refl, sym, ◌∙◌, ap, subst, arith, inl, inr}
use Rattle.std.specs.Prelude.{◌⊎◌, ◌==◌, Option, None, Some, Result, Ok, Err}
use Rattle.std.specs.Result.{result_map_both}
use Rattle.std.proofs.Math.Seq.{take-length}
use Rattle.std.proofs.lemmas.List.{drop-map, length-map, take-map}
use Rattle.cat_base.specs.declared.refusal.Refusal.{Refusal}
use Rattle.cat_base.specs.declared.refusal.Refusal.TheVariants.{Full, Gone, Line as NoForm, NoCommit, NoSnapshot, NotHeld, Spent}
use Rattle.cat_model.specs.Answer.{Found}
use Rattle.cat_model.specs.Limits.{last_number, row_limit, snapshot_limit}
use Rattle.cat_model.specs.Run.{Answer, Chore, Command, News, Reply, SegmentStat, snapshot_of}
use Rattle.cat_model.specs.Standings.{ForceTells, LiveRowsFall, MergeMoves, MergeTells, Progress, SegmentsMove, Standing, segment_rows}
use Rattle.cat_model.specs.State.{has_commit, has_hold, refuses_refresh, snapshots_in}
use Rattle.cat_model.specs.Window.{IsWindow}
use Rattle.cat_ledger_laws.specs.model.Calls.{Installed, has_recorded, newest_in}
use Rattle.cat_ledger_laws.specs.model.Ledger.{Ledger, state_of}
use Rattle.cat_ledger_laws.specs.model.Plans.{MergePolicy, sizes_of}
use Rattle.cat_ledger_laws.specs.model.Portions.{IsMerging, Merging, Portion, all_records, installed, merged, portion_window_now, settled}
use Rattle.cat_ledger_laws.specs.model.Replies.{Calls, CarriesOut, IsLeft, Maintains}
use Rattle.cat_service.proofs.Moved.{Moved, by_bool, halted}
use Rattle.cat_service.proofs.Portioned.{SegmentsFlow, SegmentsGo, made_so, one_made, parts_of, portion_told, portions_told, rows_summed, rows_told, same_falls, some_taken, taken_rows, told_parts}

-- ---- what is told

-- of a merge: the number that its segment takes, and how far it is
abbrev pub told_of_merge : Merging → ℕ × Progress
told_of_merge m = (m.number, record { passed = m.passed; rows = length (all_records m.inputs) })

abbrev pub merge_told : Option Merging → Option (ℕ × Progress)
merge_told None = None
merge_told (Some m) = Some (told_of_merge m)

-- how a ledger stands, with what else a standing tells
abbrev pub standing_by : Standing → List SegmentStat → ℕ → Option (ℕ × Progress) → ℕ → Standing
standing_by base segments buffered merging next =
    record base { stat = record base.stat { buffered = buffered; segments = segments }; merging = merging; next_segment = next }

abbrev pub ledger_standing : Standing → Ledger → Standing
ledger_standing base l = standing_by base (portions_told l.portions) (length l.buffered) (merge_told l.merging) l.next_segment

-- the rows of some segments that stand side by side
window_rows : (k index : ℕ) (ps : List Portion)
    → length (all_records (take k (drop index ps))) ≡ sum (take k (drop index (map (λ (x : SegmentStat). x.rows) (portions_told ps))))
window_rows k index ps =
    rows_summed (take k (drop index ps))
    ∙ ap sum (sym (take-map (λ (p : Portion). length p.records) k (drop index ps)) ∙ ap (take k) (sym (drop-map (λ (p : Portion). length p.records) index ps)))
    ∙ ap (λ ns. sum (take k (drop index ns))) (sym (rows_told ps))

-- and of all
all_rows : (k : ℕ) (ps : List Portion) → k ≡ length ps → length (all_records (take k ps)) ≡ sum (map (λ (x : SegmentStat). x.rows) (portions_told ps))
all_rows k ps is =
    ap (λ j. length (all_records (take j ps))) is ∙ ap (λ xs. length (all_records xs)) (take-length ps) ∙ rows_summed ps ∙ ap sum (sym (rows_told ps))

some_making : (m : Option Merging) → m ≢ None → (p : ℕ × Progress) × (merge_told m ≡ Some p)
some_making None some = absurd (some refl)
some_making (Some m) some = (told_of_merge m, refl)

abbrev pub is_merge : Command → Bool
is_merge (Command.chore Chore.merge) = true
is_merge c = false

-- ---- maintenance

module _ (policy : MergePolicy) (base : Standing) (l new : Ledger) where
  abbrev st : Standing
  st = ledger_standing base l

  abbrev left : Option (ℕ × Progress)
  left = merge_told new.merging

  abbrev pub Moves : Command → Reply → Type 0
  Moves c r = MergeMoves policy.factor policy.least st c r left

  same : new ≡ l → left ≡ st.merging
  same k = ap (λ (x : Ledger). merge_told x.merging) k

  window : (o : Option ℕ) → IsWindow policy.factor policy.least (sizes_of l.portions) o → IsWindow policy.factor policy.least (segment_rows st) o
  window o = subst (λ ns. IsWindow policy.factor policy.least ns o) (sym (rows_told l.portions))

  merge_tells : (n : News) → Maintains policy Chore.merge n l new → MergeTells policy.factor policy.least st n left
  merge_tells News.idle m = (ap merge_told m.0, window None m.1, same m.2 ∙ ap merge_told m.0)
  merge_tells (News.begun_merge k) m = (
    (ap merge_told m.3.idle, m.1, window (Some m.1) m.2),
    m.0,
    ap (λ (x : Ledger). merge_told x.merging) m.3.rest ∙ ap (λ n. Some (l.next_segment, record { passed = 0; rows = n })) (window_rows k m.1 l.portions),
  )
  merge_tells (News.copied n) m = (
    told_of_merge m.0,
    ap merge_told m.1.making,
    m.1.left,
    m.2,
    ap (λ (x : Ledger). merge_told x.merging) m.1.rest
        ∙ ap (λ k. Some (m.0.number, record { passed = k; rows = length (all_records m.0.inputs) })) (sym m.2),
  )
  merge_tells News.done m = (told_of_merge m.0, ap merge_told m.1.making, m.1.all, ap (λ (x : Ledger). merge_told x.merging) m.1.rest)
  merge_tells News.busy m = absurd (true≢false (sym m.0))
  merge_tells News.begun_warming m = absurd (true≢false (sym m.0))
  merge_tells (News.warmed r) m = absurd (true≢false (sym m.0))
  merge_tells News.stored m = absurd (true≢false (sym m.0))
  merge_tells (News.swept n) m = absurd (true≢false (sym m.0))
  merge_tells (News.state x) m = absurd (true≢false (sym m.0))

  force_tells : (n : News) → Maintains policy Chore.force n l new → ForceTells st n left
  force_tells News.idle m = (
    ap merge_told m.0,
    λ two few. m.1 (record {
      some = (let a = length-map l.portions (λ (p : Portion). length p.records) in let c = length-map l.portions portion_told in omega (arith, a, c, two));
      useful = λ one. absurd (let a = length-map l.portions (λ (p : Portion). length p.records) in let c = length-map l.portions portion_told in omega (arith, a, c, two, one));
      few = subst (λ ns. sum ns ≤ row_limit) (rows_told l.portions) few;
    }),
    same m.2 ∙ ap merge_told m.0,
  )
  force_tells News.busy m = let p = some_making l.merging m.0 in (p.0, p.1, same m.1 ∙ p.1)
  force_tells (News.begun_merge k) m = (
    (
      ap merge_told m.2.idle,
      (let a = m.1.some in let b = length-map l.portions (λ (p : Portion). length p.records) in let c = length-map l.portions portion_told in omega (arith, a, b, c)),
      subst (λ ns. sum ns ≤ row_limit) (sym (rows_told l.portions)) m.1.few,
    ),
    m.0 ∙ sym (length-map l.portions portion_told),
    ap (λ (x : Ledger). merge_told x.merging) m.2.rest ∙ ap (λ n. Some (l.next_segment, record { passed = 0; rows = n })) (all_rows k l.portions m.0),
  )
  force_tells (News.copied n) m = absurd (true≢false (sym m.0))
  force_tells News.done m = absurd (true≢false (sym m.0))
  force_tells News.begun_warming m = absurd (true≢false (sym m.0))
  force_tells (News.warmed r) m = absurd (true≢false (sym m.0))
  force_tells News.stored m = absurd (true≢false (sym m.0))
  force_tells (News.swept n) m = absurd (true≢false (sym m.0))
  force_tells (News.state x) m = absurd (true≢false (sym m.0))

  maintains : (what : Chore) (n : News) (r : Reply) → r ≡ Ok (Answer.news n) → Maintains policy what n l new → Moves (Command.chore what) r
  maintains Chore.merge n r is m = subst (Moves (Command.chore Chore.merge)) (sym is) (merge_tells n m)
  maintains Chore.force n r is m = subst (Moves (Command.chore Chore.force)) (sym is) (force_tells n m)
  maintains Chore.warm n r is m = same m.1
  maintains Chore.sweep (News.swept n) r is m = ap (λ (x : Ledger). merge_told x.merging) m.rest
  maintains Chore.sweep News.idle r is m = same m.1
  maintains Chore.sweep News.busy r is m = same m.1
  maintains Chore.sweep (News.begun_merge k) r is m = same m.1
  maintains Chore.sweep (News.copied n) r is m = same m.1
  maintains Chore.sweep News.done r is m = same m.1
  maintains Chore.sweep News.begun_warming r is m = same m.1
  maintains Chore.sweep (News.warmed n) r is m = same m.1
  maintains Chore.sweep News.stored r is m = same m.1
  maintains Chore.sweep (News.state x) r is m = same m.1
  maintains Chore.stat n r is m = same m.1

  -- a chore that is refused leaves it, or it is a MERGE
  refuses : (what : Chore) (r : Reply) (e : Refusal) → r ≡ Err e → left ≡ st.merging → Moves (Command.chore what) r
  refuses Chore.merge r e is k = subst (Moves (Command.chore Chore.merge)) (sym is) (inl k)
  refuses Chore.force r e is k = subst (Moves (Command.chore Chore.force)) (sym is) k
  refuses Chore.warm r e is k = k
  refuses Chore.sweep r e is k = k
  refuses Chore.stat r e is k = k

  -- what a refused MERGE leaves
  given_up : IsLeft l new → (left ≡ st.merging) ⊎ (left ≡ None)
  given_up h =
      let f : h.flushed.merging ≡ l.merging = elim h.flush [ inl k ↦ ap (λ (x : Ledger). x.merging) k | inr k ↦ ap (λ (x : Ledger). x.merging) k.rest ] in
      let r : new.merging ≡ h.ended.merging = ap (λ (x : Ledger). x.merging) h.rest.rest in
      elim h.merge [
        | inl k ↦ inl (ap merge_told (r ∙ ap (λ (x : Ledger). x.merging) k ∙ f))
        | inr k ↦ inr (ap merge_told (r ∙ ap (λ (x : Ledger). x.merging) k.1.rest))
      ]

  -- a line that is refused, and is no MERGE, leaves it: so the service says
  abbrev pub KeepsMaking : Command → Reply → Type 0
  KeepsMaking c r = is_merge c ≡ false → (e : Refusal) → r ≡ Err e → left ≡ st.merging

  stopped : (what : Chore) (r : Reply) (e : Refusal) → r ≡ Err e → IsLeft l new → KeepsMaking (Command.chore what) r → Moves (Command.chore what) r
  stopped Chore.merge r e is h kept = subst (Moves (Command.chore Chore.merge)) (sym is) (given_up h)
  stopped Chore.force r e is h kept = refuses Chore.force r e is (kept refl e is)
  stopped Chore.warm r e is h kept = kept refl e is
  stopped Chore.sweep r e is h kept = kept refl e is
  stopped Chore.stat r e is h kept = kept refl e is

  chore_moves : (what : Chore) (session : ℕ) (r : Reply) → KeepsMaking (Command.chore what) r
      → Calls policy l (record { session = session; command = Command.chore what }) r new → Moves (Command.chore what) r
  chore_moves what session r kept (inl m) =
      by_bool (session == 0) _ _ (λ x. maintains what x.0 r x.1 x.2) (λ x. refuses what r NoForm x.0 (same x.1)) m
  chore_moves what session r kept (inr (inl m)) =
      let e = halted l.schema l session (Command.chore what) r m.0 in stopped what r e.0 e.1 m.1 kept
  chore_moves what session r kept (inr (inr m)) = absurd m

  -- another line leaves it
  stays : (c : Command) (r : Reply) → ((e : Refusal) → r ≡ Err e → left ≡ st.merging) → ((e : Refusal) × (r ≡ Err e)) ⊎ (new.merging ≡ l.merging) → left ≡ st.merging
  stays c r kept (inl k) = kept k.0 k.1
  stays c r kept (inr k) = ap merge_told k

  -- What a call makes of it, whatever it answers.
  pub merge_moves : (session : ℕ) (c : Command) (r : Reply) → KeepsMaking c r → Moved c r l new
      → Calls policy l (record { session = session; command = c }) r new → Moves c r
  merge_moves session (Command.chore what) r kept moved m = chore_moves what session r kept m
  merge_moves session Command.formless r kept moved m = stays Command.formless r (kept refl) (moved.making refl)
  merge_moves session (Command.put item) r kept moved m = stays (Command.put item) r (kept refl) (moved.making refl)
  merge_moves session (Command.delete id) r kept moved m = stays (Command.delete id) r (kept refl) (moved.making refl)
  merge_moves session (Command.delete_where q) r kept moved m = stays (Command.delete_where q) r (kept refl) (moved.making refl)
  merge_moves session Command.refresh r kept moved m = stays Command.refresh r (kept refl) (moved.making refl)
  merge_moves session Command.open_newest r kept moved m = stays Command.open_newest r (kept refl) (moved.making refl)
  merge_moves session (Command.open_at t) r kept moved m = stays (Command.open_at t) r (kept refl) (moved.making refl)
  merge_moves session (Command.close t) r kept moved m = stays (Command.close t) r (kept refl) (moved.making refl)
  merge_moves session (Command.read t asked) r kept moved m = stays (Command.read t asked) r (kept refl) (moved.making refl)
  merge_moves session (Command.prune n) r kept moved m = stays (Command.prune n) r (kept refl) (moved.making refl)
  merge_moves session (Command.commit text) r kept moved m = stays (Command.commit text) r (kept refl) (moved.making refl)
  merge_moves session Command.snapshot r kept moved m = stays Command.snapshot r (kept refl) (moved.making refl)
  merge_moves session (Command.release_snapshot g) r kept moved m = stays (Command.release_snapshot g) r (kept refl) (moved.making refl)
  merge_moves session (Command.files_of_token t) r kept moved m = stays (Command.files_of_token t) r (kept refl) (moved.making refl)
  merge_moves session (Command.files_of_commit g) r kept moved m = stays (Command.files_of_commit g) r (kept refl) (moved.making refl)
  merge_moves session (Command.text_of_commit g) r kept moved m = stays (Command.text_of_commit g) r (kept refl) (moved.making refl)

-- ---- of which merge segments change

abbrev is_done : Reply → Bool
is_done (Ok (Answer.news News.done)) = true
is_done r = false

-- where `done` is told, another reply isn't
other_told : {M : Type 0} (x : Reply) → ◌≡◌ {A = Reply} (Ok (Answer.news News.done)) x → is_done x ≡ false → M
other_told x is other = absurd (true≢false (ap is_done is ∙ other))

one_of : (b : Bool) (x y : Reply) → is_done x ≡ false → is_done y ≡ false → is_done (cond b x y) ≡ false
one_of true x y h k = h
one_of false x y h k = k

no_read : (held : Bool) (x : Result Found Refusal) (e : Refusal) → is_done (cond held (result_map_both Answer.found (λ y. y) x) (Err e)) ≡ false
no_read true (Ok f) e = refl
no_read true (Err y) e = refl
no_read false x e = refl

no_snapshot : (taken : ℕ → ℕ) (o : Option ℕ) → is_done (snapshot_of taken o) ≡ false
no_snapshot taken None = refl
no_snapshot taken (Some g) = one_of (ltb (taken g) snapshot_limit) (Ok (Answer.number g)) (Err Spent) refl refl

module _ (policy : MergePolicy) (session : ℕ) (l new : Ledger) where
  abbrev done : Reply
  done = Ok (Answer.news News.done)

  abbrev Installs : Type 0
  Installs = (m : Merging) × Installed m l new

  of_chore : (what : Chore) (n : News) → ◌≡◌ {A = Reply} done (Ok (Answer.news n)) → Maintains policy what n l new → Installs
  of_chore Chore.merge News.done is m = m
  of_chore Chore.force News.done is m = absurd (true≢false (sym m.0))
  of_chore Chore.warm News.done is m = absurd (true≢false (sym m.0))
  of_chore Chore.sweep News.done is m = absurd (true≢false (sym m.0))
  of_chore Chore.stat News.done is m = absurd (true≢false (sym m.0))
  of_chore what News.idle is m = other_told (Ok (Answer.news News.idle)) is refl
  of_chore what News.busy is m = other_told (Ok (Answer.news News.busy)) is refl
  of_chore what (News.begun_merge k) is m = other_told (Ok (Answer.news (News.begun_merge k))) is refl
  of_chore what (News.copied n) is m = other_told (Ok (Answer.news (News.copied n))) is refl
  of_chore what News.begun_warming is m = other_told (Ok (Answer.news News.begun_warming)) is refl
  of_chore what (News.warmed n) is m = other_told (Ok (Answer.news (News.warmed n))) is refl
  of_chore what News.stored is m = other_told (Ok (Answer.news News.stored)) is refl
  of_chore what (News.swept n) is m = other_told (Ok (Answer.news (News.swept n))) is refl
  of_chore what (News.state x) is m = other_told (Ok (Answer.news (News.state x))) is refl

  -- a line that is told `done` installed a merge
  installs : (c : Command) → CarriesOut policy l session c done new → Installs
  installs Command.formless m = other_told (Err NoForm) m.0 refl
  installs (Command.put (Ok i)) m = by_bool (ltb l.count last_number) _ _ (λ x. other_told (Ok (Answer.number (l.count + 1))) x.3 refl) (λ x. other_told (Err Spent) x.0 refl) m
  installs (Command.put (Err e)) m = other_told (Err e) m.0 refl
  installs (Command.delete (Ok id)) m = by_bool (ltb l.count last_number) _ _ (λ x. other_told (Ok (Answer.number (l.count + 1))) x.0 refl) (λ x. other_told (Err Spent) x.0 refl) m
  installs (Command.delete (Err e)) m = other_told (Err e) m.0 refl
  installs (Command.delete_where (Ok q)) m = by_bool (ltb l.count last_number) _ _ (λ x. other_told (Ok (Answer.number (l.count + 1))) x.0 refl) (λ x. other_told (Err Spent) x.0 refl) m
  installs (Command.delete_where (Err e)) m = other_told (Err e) m.0 refl
  installs Command.refresh m = by_bool (refuses_refresh (state_of l)) _ _ (λ x. other_told (Err Full) x.0 refl) (λ x. other_told (Ok (Answer.number l.count)) x.3 refl) m
  installs Command.open_newest m = other_told _ m.0 refl
  installs (Command.open_at t) m = by_bool (has_recorded l.views t) _ _ (λ x. other_told (Ok (Answer.number t)) x.0 refl) (λ x. other_told (Err Gone) x.0 refl) m
  installs (Command.close t) m = by_bool (has_hold l.holds session t) _ _ (λ x. other_told (Ok (Answer.number t)) x.0 refl) (λ x. other_told (Err NotHeld) x.0 refl) m
  installs (Command.read t asked) m = other_told _ m.0 (no_read (has_hold l.holds session t) _ _)
  installs (Command.files_of_token t) m = by_bool (has_hold l.holds session t) _ _ (λ x. other_told (Ok (Answer.names x.0)) x.1 refl) (λ x. other_told (Err NotHeld) x refl) m.0
  installs (Command.chore what) m = by_bool (session == 0) _ _ (λ x. of_chore what x.0 x.1 x.2) (λ x. other_told (Err NoForm) x.0 refl) m
  installs (Command.prune n) m = other_told _ m.0 refl
  installs (Command.commit (Err e)) m = other_told (Err e) m.0 refl
  installs (Command.commit (Ok text)) m = other_told _ m.3 refl
  installs Command.snapshot m = other_told _ m.0 (no_snapshot (snapshots_in l.taken) (newest_in l.commits))
  installs (Command.release_snapshot g) m = by_bool (ltb 0 (snapshots_in l.taken g)) _ _ (λ x. other_told _ x.0 refl) (λ x. other_told (Err NoSnapshot) x.0 refl) m
  installs (Command.files_of_commit g) m = by_bool (has_commit (state_of l).commits g) _ _ (λ x. other_told (Ok (Answer.names x.0)) x.1 refl) (λ x. other_told (Err NoCommit) x refl) m.0
  installs (Command.text_of_commit g) m = other_told _ m.0 (one_of (has_commit (state_of l).commits g) _ _ refl refl)

  called : (c : Command) → Calls policy l (record { session = session; command = c }) done new → Installs
  called c (inl m) = installs c m
  called c (inr (inl m)) = let e = halted l.schema l session c done m.0 in other_told (Err e.0) e.1 refl
  called (Command.commit (Ok text)) (inr (inr m)) = other_told (Err Spent) m.0 refl
  called _ (inr (inr m)) = absurd m

-- what stands behind a line, as a standing says it
abbrev pub SegmentsStand : Standing → Reply → (new : List SegmentStat) → (after : ℕ) → Type 0
SegmentsStand s r new after = (mid : List SegmentStat) × LiveRowsFall mid new × SegmentsMove s r mid after

module _ (base : Standing) (l new : Ledger) where
  -- of the merge that was installed
  merged_stand : (m : Merging) → Installed m l new → IsMerging l.portions l.merging
      → SegmentsStand (ledger_standing base l) (Ok (Answer.news News.done)) (portions_told new.portions) new.next_segment
  merged_stand m k making =
      let h = subst (IsMerging l.portions) k.making making in (
        portions_told (installed m l.portions),
        same_falls (installed m l.portions) new.portions (ap (λ (x : Ledger). x.portions) k.rest),
        (
          told_of_merge m,
          portions_told (take m.index l.portions),
          portions_told (portion_window_now m l.portions),
          portions_told (merged m.kept (settled m l.portions)),
          portions_told (drop (m.index + length m.inputs) l.portions),
          ap merge_told k.making,
          parts_of m l.portions,
          told_parts (take m.index l.portions) (merged m.kept (settled m l.portions)) (drop (m.index + length m.inputs) l.portions),
          some_taken m l.portions h,
          taken_rows m l.portions h,
          one_made m l.portions,
          made_so m l.portions h,
        ),
      )

  -- Why segments change, whatever is answered.
  pub segments_stand : (policy : MergePolicy) (session : ℕ) (c : Command) (r : Reply) → IsMerging l.portions l.merging → Moved c r l new
      → Calls policy l (record { session = session; command = c }) r new
      → SegmentsStand (ledger_standing base l) r (portions_told new.portions) new.next_segment
  segments_stand policy session c r making moved m = by r moved.segments m
    where
      Goes : Reply → Type 0
      Goes r = SegmentsGo r (portions_told l.portions) l.next_segment (length l.buffered) (portions_told new.portions) new.next_segment

      Stands : Reply → Type 0
      Stands r = SegmentsStand (ledger_standing base l) r (portions_told new.portions) new.next_segment

      -- told anything else they stay, or one more comes last
      other : (r : Reply) → is_done r ≡ false → Goes r
          → (mid : List SegmentStat) × LiveRowsFall mid (portions_told new.portions)
          × SegmentsFlow (portions_told l.portions) l.next_segment (length l.buffered) mid new.next_segment
      other r differs h = (
        h.0,
        h.1,
        elim h.2 [
          | inl stay ↦ inl stay
          | inr more ↦ elim more [ inl one ↦ inr one | inr k ↦ absurd (true≢false (sym (ap is_done k.4) ∙ differs)) ]
        ],
      )

      by : (r : Reply) → Goes r → Calls policy l (record { session = session; command = c }) r new → Stands r
      by (Ok (Answer.news News.done)) h m = let k = called policy session l new c m in merged_stand k.0 k.1 making
      by (Ok (Answer.news News.idle)) h m = other _ refl h
      by (Ok (Answer.news News.busy)) h m = other _ refl h
      by (Ok (Answer.news (News.begun_merge k))) h m = other _ refl h
      by (Ok (Answer.news (News.copied n))) h m = other _ refl h
      by (Ok (Answer.news News.begun_warming)) h m = other _ refl h
      by (Ok (Answer.news (News.warmed n))) h m = other _ refl h
      by (Ok (Answer.news News.stored)) h m = other _ refl h
      by (Ok (Answer.news (News.swept n))) h m = other _ refl h
      by (Ok (Answer.news (News.state x))) h m = other _ refl h
      by (Ok (Answer.number n)) h m = other _ refl h
      by (Ok (Answer.found f)) h m = other _ refl h
      by (Ok (Answer.names ns)) h m = other _ refl h
      by (Ok (Answer.commit_text text)) h m = other _ refl h
      by (Err e) h m = other _ refl h

-- ---- of a standing

-- What is so of a ledger's standing is so of one that tells the same.
pub standing_over : (P : Standing → Type 0) (base : Standing) (segments segments' : List SegmentStat) (waiting waiting' : ℕ)
    (merging merging' : Option (ℕ × Progress)) (next next' : ℕ) → segments ≡ segments' → waiting ≡ waiting' → merging ≡ merging' → next ≡ next'
    → P (standing_by base segments waiting merging next) → P (standing_by base segments' waiting' merging' next')
standing_over P base segments segments' waiting waiting' merging merging' next next' a b c d =
    subst P (λ i. standing_by base (a i) (b i) (c i) (d i))
