-- Each reply has its cause in how the world stands before its line.
use Rattle.std.proofs.Common.{◌≡◌, ◌≢◌, ℕ, ◌+◌, ◌<◌, ◌≤◌, List, [], ◌∷◌, length, map, sum, Bool, true, false, true≢false, cond, refl, sym, ◌∙◌, ap, subst, arith, inl, inr}
use Rattle.std.specs.Prelude.{◌⊎◌, ◌==◌, count_by, Option, None, Some, IfSome, Result, Ok, Err, IsTrue, option_map}
use Rattle.std.specs.List.{AllByRecursion, flat_map}
use Rattle.std.proofs.lemmas.List.{length-append, length-map}
use Rattle.cat_base.specs.declared.refusal.Refusal.{Refusal}
use Rattle.cat_base.specs.declared.refusal.Refusal.TheVariants.{Damaged, Device, Id, Memory, Spent}
use Rattle.cat_model.specs.Answer.{Found, Read}
use Rattle.cat_model.specs.Heard.{IsCommand, commit_text_of, id_of}
use Rattle.cat_model.specs.Item.{Record, Schema, is_id}
use Rattle.cat_model.specs.Limits.{row_limit, segment_limit}
use Rattle.cat_model.specs.Lines.{Said}
use Rattle.cat_model.specs.Promised.{refuses_commit}
use Rattle.cat_model.specs.Run.{Answer, Chore, Command, Exchange, Fits, News, Reply, Run, SegmentStat, may_refuse, view_tokens}
use Rattle.cat_model.specs.Served.{Outcome}
use Rattle.cat_model.specs.State.{RecordedTable, table_recorded}
use Rattle.cat_model.specs.Table.{Opened}
use Rattle.cat_model.specs.Text.{Text}
use Rattle.cat_model.specs.View.{Leaf}
use Rattle.cat_model.specs.Window.{IsWindow}
use Rattle.cat_model.proofs.DeviceTold.{HasNoDevice, device_told, said_no_device}
use Rattle.cat_items.specs.Reading.{json}
use Rattle.cat_directory.specs.Devices.{CountsOne}
use Rattle.cat_commands.specs.cat_cached_sets.filters.Filters.{Filters}
use Rattle.cat_commands.specs.cat_ledger.Lasting.{AlwaysTells}
use Rattle.cat_commands.specs.cat_ledger_state.Cores.{HasRowsLeft, MayNotFlush}
use Rattle.cat_commands.specs.cat_ledger.upkeep.Due.{IsMergeDue}
use Rattle.cat_commands.specs.ledger.Chores.{pending_in, segment_told, stat_in}
use Rattle.cat_ledger_laws.specs.lines.PlanLaws.{live_sets_in, sizes_in}
use Rattle.cat_ledger_laws.specs.lines.RunLaws.{ReplyLike, IsShown, Stands}
use Rattle.cat_ledger_laws.specs.model.Ledger.{IsLedger, IsPast, Ledger, names_of_commit, names_of_merging, names_of_portion, names_of_view, table_of, view_shown}
use Rattle.cat_ledger_laws.specs.model.Plans.{MayBeForced, MergePolicy}
use Rattle.cat_ledger_laws.specs.model.Portions.{ArePortions, Merging, records_of}
use Rattle.cat_ledger_laws.specs.model.Users.{Used}
use Rattle.cat_ledger_laws.specs.shape.Shapes.{MergingShape, Shape, merging_shape, recorded_view, shape_of as shape_of_ledger}
use Rattle.cat_ledger_laws.specs.shape.Ties.{ToldFiles}
use Rattle.cat_service.proofs.Gets.{damaged_get}
use Rattle.cat_ledger_laws.proofs.model.Users.{All-four}
use Rattle.cat_ledger_laws.proofs.shape.MergeShapes.{many_shown}
use Rattle.cat_service.proofs.Lacking.{no_input_lacks}
use Rattle.cat_service.proofs.Making.{KeepsMaking, Moves, SegmentsStand, is_merge, ledger_standing, merge_moves, merge_told, segments_stand, standing_over}
use Rattle.cat_service.proofs.Moved.{FilesStay, Moved, calls_move, commits, flushes, writes_by}
use Rattle.cat_service.proofs.Portioned.{SegmentsGo, leaves_told, live_told, portions_told}
use Rattle.cat_service.specs.Causes.{HasFewPending, IsCountedTo, IsDamagedTo, IsSpentTo, SweepsSo, TakesNumbers, TellsSo, may_move}
use Rattle.cat_service.specs.Lines.{IsCommandOf}
use Rattle.cat_service.specs.Reasons.{IsCausedBy, progress_of, standing_of_service}
use Rattle.cat_model.specs.Standings.{Cache, CacheMoves, HasNoRoom, HasReason, IsDamagedFor, IsSpentFor, IsToForce, IsToldOf, IsToMerge, MergeMoves, MovesOn, Progress, Standing, moves_files, segment_rows}
use Rattle.cat_service.specs.Worlds.{Service, device_of, policy_of, shape_of_service}

-- ---- replies that are alike

-- they are the same, or both tell a source
abbrev TellSources : Reply → Reply → Type 0
TellSources reply fitting =
    (a b : Text) × (reply ≡ Ok (Answer.found (Found.source (Some a)))) × (fitting ≡ Ok (Answer.found (Found.source (Some b))))

alike_cases : (reply fitting : Reply) → ReplyLike reply fitting → (reply ≡ fitting) ⊎ TellSources reply fitting
alike_cases (Ok (Answer.number n)) fitting alike = inl alike
alike_cases (Ok (Answer.found (Found.page p))) fitting alike = inl alike
alike_cases (Ok (Answer.found (Found.facets f))) fitting alike = inl alike
alike_cases (Ok (Answer.found (Found.source None))) fitting alike = inl alike
alike_cases (Ok (Answer.found (Found.source (Some text)))) (Ok (Answer.found (Found.source (Some other)))) alike = inr (text, other, refl, refl)
alike_cases (Ok (Answer.found (Found.source (Some text)))) (Ok (Answer.found (Found.source None))) alike = inl alike
alike_cases (Ok (Answer.found (Found.source (Some text)))) (Ok (Answer.found (Found.page p))) alike = inl alike
alike_cases (Ok (Answer.found (Found.source (Some text)))) (Ok (Answer.found (Found.facets f))) alike = inl alike
alike_cases (Ok (Answer.found (Found.source (Some text)))) (Ok (Answer.number n)) alike = inl alike
alike_cases (Ok (Answer.found (Found.source (Some text)))) (Ok (Answer.names ns)) alike = inl alike
alike_cases (Ok (Answer.found (Found.source (Some text)))) (Ok (Answer.commit_text t)) alike = inl alike
alike_cases (Ok (Answer.found (Found.source (Some text)))) (Ok (Answer.news n)) alike = inl alike
alike_cases (Ok (Answer.found (Found.source (Some text)))) (Err e) alike = inl alike
alike_cases (Ok (Answer.names ns)) fitting alike = inl alike
alike_cases (Ok (Answer.commit_text t)) fitting alike = inl alike
alike_cases (Ok (Answer.news n)) fitting alike = inl alike
alike_cases (Err e) fitting alike = inl alike

-- what is so whichever source is told is so of both, or of none
alike_on : (P : Reply → Type 0) → ((a b : Text) → P (Ok (Answer.found (Found.source (Some a)))) → P (Ok (Answer.found (Found.source (Some b)))))
    → (reply fitting : Reply) → ReplyLike reply fitting → (P reply → P fitting) × (P fitting → P reply)
alike_on P same reply fitting alike = elim (alike_cases reply fitting alike) [
  | inl e ↦ (subst P e, subst P (sym e))
  | inr e ↦ (λ p. subst P (sym e.3) (same e.0 e.1 (subst P e.2 p)), λ p. subst P (sym e.2) (same e.1 e.0 (subst P e.3 p)))
]

-- a refusal is told as it fits
refused_alike : (x : Refusal) (reply fitting : Reply) → ReplyLike reply fitting → fitting ≡ Err x → reply ≡ Err x
refused_alike x reply fitting alike =
    (alike_on (λ r. r ≡ Err x) (λ a b e. absurd (let no : ◌≡◌ {A = Reply} (Ok (Answer.found (Found.source (Some a)))) (Err x) = e in cc)) reply fitting alike).1

-- ---- parts of a standing

sizes_told : (leaves : List Leaf) → map (λ (x : SegmentStat). x.rows) (map segment_told leaves) ≡ sizes_in leaves
sizes_told [] = refl
sizes_told (leaf ∷ leaves) = ap (λ ns. length leaf.segment.rows ∷ ns) (sizes_told leaves)

some_waits : (rs : List Record) → rs ≢ [] → 0 < length rs
some_waits [] some = absurd (some refl)
some_waits (r ∷ rs) some = omega arith

none_passes : (m : Option MergingShape) → m ≡ None → option_map progress_of m ≡ None
none_passes m e = ap (option_map progress_of) e

rows_left : (m : Option MergingShape) → HasRowsLeft m → (p : ℕ × Progress) × (option_map progress_of m ≡ Some p) × (p.1.passed < p.1.rows)
rows_left None h = absurd h
rows_left (Some m) h = (progress_of m, refl, h)

module _ {D : Type 0} (bytes : D → ToldFiles) (can_fail : D → Type 0) (faults : D → ℕ) (old : Service D) (tried : List ℕ) (cache : Cache) where
  abbrev s : Shape
  s = shape_of_service old

  abbrev st : Standing
  st = standing_of_service faults cache tried old

  sizes : segment_rows st ≡ sizes_in s.leaves
  sizes = sizes_told s.leaves

  many : length st.stat.segments ≡ length s.leaves
  many = length-map s.leaves segment_told

  no_room : MayNotFlush s → HasNoRoom st
  no_room h = (some_waits s.buffered h.0, elim h.1 [ inl n ↦ inl n | inr n ↦ inr (subst (λ k. segment_limit ≤ k) (sym many) n) ])

  to_merge : IsMergeDue (policy_of old) s → IsToMerge (policy_of old).factor (policy_of old).least st
  to_merge h = (none_passes s.merging h.0, h.1, subst (λ ns. IsWindow (policy_of old).factor (policy_of old).least ns (Some h.1)) (sym sizes) h.2)

  to_force : s.merging ≡ None → MayBeForced (sizes_in s.leaves) (live_sets_in s.leaves) → IsToForce st
  to_force none h = (
    none_passes s.merging none,
    (let a = h.some in let b = length-map s.leaves (λ (leaf : Leaf). length leaf.segment.rows) in let c = many in omega (arith, a, b, c)),
    subst (λ ns. sum ns ≤ row_limit) (sym sizes) h.few,
  )

  -- ---- of commands

  abbrev SpentFor : Command → Type 0
  SpentFor c = IsSpentFor (policy_of old).factor (policy_of old).least st c

  abbrev DamagedFor : Opened → Run → Command → Type 0
  DamagedFor from past c = IsDamagedFor (AlwaysTells bytes) from past st c

  abbrev FitsTo : Opened → Run → ℕ → Command → Type 0
  FitsTo from past session c = Fits from past (record { line = record { session = session; command = c }; reply = Err Damaged })

  spent_for : (schema : Schema) (said : Option Said) (c : Command) → IsCommandOf schema said c → IsSpentTo (policy_of old) s said
      → IsSpentFor (policy_of old).factor (policy_of old).least st c
  spent_for schema said c is m = by said is m
    where
      by : (said : Option Said) → IsCommandOf schema said c → IsSpentTo (policy_of old) s said → SpentFor c
      by None is m = subst SpentFor (sym is) tt
      by (Some (Said.put text)) is m =
          subst SpentFor (sym is) (elim m [ inl n ↦ inl n | inr n ↦ inr (n.0, no_room n.1) ])
      by (Some (Said.delete text)) is m = subst SpentFor (sym is) tt
      by (Some (Said.delete_where text)) is m = subst SpentFor (sym is.2) tt
      by (Some Said.refresh) is m = subst SpentFor (sym is) (no_room m)
      by (Some Said.open_newest) is m = subst SpentFor (sym is) tt
      by (Some (Said.open_at t)) is m = subst SpentFor (sym is) tt
      by (Some (Said.close t)) is m = subst SpentFor (sym is) tt
      by (Some (Said.find t n sort mark text)) is m = subst SpentFor (sym is.2) tt
      by (Some (Said.facets t dim n text)) is m = subst SpentFor (sym is.2) tt
      by (Some (Said.get t text)) is m = subst SpentFor (sym is) tt
      by (Some (Said.files_of_token t)) is m = subst SpentFor (sym is) tt
      by (Some (Said.files_of_commit g)) is m = subst SpentFor (sym is) tt
      by (Some (Said.commit text)) is m = subst SpentFor (sym is) (elim m [ inl n ↦ inl n | inr n ↦ inr (no_room n) ])
      by (Some (Said.text_of_commit g)) is m = subst SpentFor (sym is) tt
      by (Some Said.snapshot) is m = subst SpentFor (sym is) tt
      by (Some (Said.release_snapshot g)) is m = subst SpentFor (sym is) tt
      by (Some (Said.prune n)) is m = subst SpentFor (sym is) tt
      by (Some (Said.chore Chore.merge)) is m = subst SpentFor (sym is) (to_merge m.0, m.1)
      by (Some (Said.chore Chore.force)) is m = subst SpentFor (sym is) (to_force m.0.0 m.0.1, m.1)
      by (Some (Said.chore Chore.warm)) is m = subst SpentFor (sym is) tt
      by (Some (Said.chore Chore.sweep)) is m = subst SpentFor (sym is) tt
      by (Some (Said.chore Chore.stat)) is m = subst SpentFor (sym is) tt

  counted_for : (from : Opened) (past : Run) (session : ℕ) (schema : Schema) (said : Option Said) (c : Command) → IsCommandOf schema said c
      → Fits from past (record { line = record { session = session; command = c }; reply = Err Device }) → (counted : Type 0)
      → IsCountedTo counted said → counted
  counted_for from past session schema said c is fits counted m = by said is m
    where
      told : HasNoDevice c → IsTrue (may_refuse c Device)
      told form = device_told from past session c form fits

      -- no run tells this command that the device failed
      not_told : (said : Said) (d : Command) → IsCommand json schema said c → c ≡ d → may_refuse d Device ≡ false → counted
      not_told said d is same none =
          absurd (true≢false (sym (subst (λ k. IsTrue (may_refuse k Device)) same (told (said_no_device json schema said c is))) ∙ none))

      by : (said : Option Said) → IsCommandOf schema said c → IsCountedTo counted said → counted
      by None is m =
          absurd (true≢false (sym (subst (λ k. IsTrue (may_refuse k Device)) is (told (subst HasNoDevice (sym is) tt)))))
      by (Some (Said.put text)) is m = m
      by (Some (Said.delete text)) is m = not_told (Said.delete text) (Command.delete (id_of text)) is is refl
      by (Some (Said.delete_where text)) is m = not_told (Said.delete_where text) (Command.delete_where is.0) is is.2 refl
      by (Some Said.refresh) is m = m
      by (Some Said.open_newest) is m = not_told Said.open_newest Command.open_newest is is refl
      by (Some (Said.open_at t)) is m = not_told (Said.open_at t) (Command.open_at t) is is refl
      by (Some (Said.close t)) is m = not_told (Said.close t) (Command.close t) is is refl
      by (Some (Said.find t n sort mark text)) is m =
          not_told (Said.find t n sort mark text) (Command.read t (Read.find n sort mark is.0)) is is.2 refl
      by (Some (Said.facets t dim n text)) is m = not_told (Said.facets t dim n text) (Command.read t (Read.facets dim n is.0)) is is.2 refl
      by (Some (Said.get t text)) is m = m
      by (Some (Said.files_of_token t)) is m = not_told (Said.files_of_token t) (Command.files_of_token t) is is refl
      by (Some (Said.files_of_commit g)) is m = not_told (Said.files_of_commit g) (Command.files_of_commit g) is is refl
      by (Some (Said.commit text)) is m = m
      by (Some (Said.text_of_commit g)) is m = not_told (Said.text_of_commit g) (Command.text_of_commit g) is is refl
      by (Some Said.snapshot) is m = not_told Said.snapshot Command.snapshot is is refl
      by (Some (Said.release_snapshot g)) is m = not_told (Said.release_snapshot g) (Command.release_snapshot g) is is refl
      by (Some (Said.prune n)) is m = not_told (Said.prune n) (Command.prune n) is is refl
      by (Some (Said.chore Chore.merge)) is m = m
      by (Some (Said.chore Chore.force)) is m = m
      by (Some (Said.chore Chore.warm)) is m = not_told (Said.chore Chore.warm) (Command.chore Chore.warm) is is refl
      by (Some (Said.chore Chore.sweep)) is m = m
      by (Some (Said.chore Chore.stat)) is m = not_told (Said.chore Chore.stat) (Command.chore Chore.stat) is is refl

  -- ---- what is told

  abbrev Told : Command → Reply → Type 0
  Told c r = IsToldOf st c r

  commit_told : (sets left : Filters) (said : Text) (text : Result Text Refusal) (r : Reply) → TellsSo (policy_of old) s sets left (Some (Said.commit said)) r → Told (Command.commit text) r
  commit_told sets left said text (Ok (Answer.number g)) m = m
  commit_told sets left said text (Ok (Answer.found f)) m = tt
  commit_told sets left said text (Ok (Answer.names ns)) m = tt
  commit_told sets left said text (Ok (Answer.commit_text t)) m = tt
  commit_told sets left said text (Ok (Answer.news n)) m = tt
  commit_told sets left said text (Err e) m = tt

  chore_told : (sets left : Filters) → length cache.sets ≡ length sets.cached → (what : Chore) (r : Reply) → TellsSo (policy_of old) s sets left (Some (Said.chore what)) r → Told (Command.chore what) r
  chore_told sets left counts Chore.merge (Ok (Answer.news n)) m = tt
  chore_told sets left counts Chore.force (Ok (Answer.news n)) m = tt
  chore_told sets left counts Chore.warm (Ok (Answer.news n)) m = tt
  chore_told sets left counts Chore.sweep (Ok (Answer.news n)) m = m
  chore_told sets left counts Chore.stat (Ok (Answer.news n)) m = m ∙ ap (λ k. News.state (stat_in k s)) (sym counts)
  chore_told sets left counts Chore.merge (Ok (Answer.number g)) m = tt
  chore_told sets left counts Chore.force (Ok (Answer.number g)) m = tt
  chore_told sets left counts Chore.warm (Ok (Answer.number g)) m = tt
  chore_told sets left counts Chore.sweep (Ok (Answer.number g)) m = tt
  chore_told sets left counts Chore.stat (Ok (Answer.number g)) m = tt
  chore_told sets left counts Chore.merge (Ok (Answer.found f)) m = tt
  chore_told sets left counts Chore.force (Ok (Answer.found f)) m = tt
  chore_told sets left counts Chore.warm (Ok (Answer.found f)) m = tt
  chore_told sets left counts Chore.sweep (Ok (Answer.found f)) m = tt
  chore_told sets left counts Chore.stat (Ok (Answer.found f)) m = tt
  chore_told sets left counts Chore.merge (Ok (Answer.names ns)) m = tt
  chore_told sets left counts Chore.force (Ok (Answer.names ns)) m = tt
  chore_told sets left counts Chore.warm (Ok (Answer.names ns)) m = tt
  chore_told sets left counts Chore.sweep (Ok (Answer.names ns)) m = tt
  chore_told sets left counts Chore.stat (Ok (Answer.names ns)) m = tt
  chore_told sets left counts Chore.merge (Ok (Answer.commit_text t)) m = tt
  chore_told sets left counts Chore.force (Ok (Answer.commit_text t)) m = tt
  chore_told sets left counts Chore.warm (Ok (Answer.commit_text t)) m = tt
  chore_told sets left counts Chore.sweep (Ok (Answer.commit_text t)) m = tt
  chore_told sets left counts Chore.stat (Ok (Answer.commit_text t)) m = tt
  chore_told sets left counts Chore.merge (Err e) m = tt
  chore_told sets left counts Chore.force (Err e) m = tt
  chore_told sets left counts Chore.warm (Err e) m = tt
  chore_told sets left counts Chore.sweep (Err e) m = tt
  chore_told sets left counts Chore.stat (Err e) m = tt

  told_for : (sets left : Filters) → length cache.sets ≡ length sets.cached → (schema : Schema) (said : Option Said) (c : Command) (r : Reply)
      → IsCommandOf schema said c → TellsSo (policy_of old) s sets left said r → Told c r
  told_for sets left counts schema None c r is m = subst (λ k. Told k r) (sym is) tt
  told_for sets left counts schema (Some (Said.commit text)) c r is m = subst (λ k. Told k r) (sym is) (commit_told sets left text (commit_text_of text) r m)
  told_for sets left counts schema (Some (Said.chore what)) c r is m = subst (λ k. Told k r) (sym is) (chore_told sets left counts what r m)
  told_for sets left counts schema (Some (Said.put text)) c r is m = subst (λ k. Told k r) (sym is) tt
  told_for sets left counts schema (Some (Said.delete text)) c r is m = subst (λ k. Told k r) (sym is) tt
  told_for sets left counts schema (Some (Said.delete_where text)) c r is m = subst (λ k. Told k r) (sym is.2) tt
  told_for sets left counts schema (Some Said.refresh) c r is m = subst (λ k. Told k r) (sym is) tt
  told_for sets left counts schema (Some Said.open_newest) c r is m = subst (λ k. Told k r) (sym is) tt
  told_for sets left counts schema (Some (Said.open_at t)) c r is m = subst (λ k. Told k r) (sym is) tt
  told_for sets left counts schema (Some (Said.close t)) c r is m = subst (λ k. Told k r) (sym is) tt
  told_for sets left counts schema (Some (Said.find t n sort mark text)) c r is m = subst (λ k. Told k r) (sym is.2) tt
  told_for sets left counts schema (Some (Said.facets t dim n text)) c r is m = subst (λ k. Told k r) (sym is.2) tt
  told_for sets left counts schema (Some (Said.get t text)) c r is m = subst (λ k. Told k r) (sym is) tt
  told_for sets left counts schema (Some (Said.files_of_token t)) c r is m = subst (λ k. Told k r) (sym is) tt
  told_for sets left counts schema (Some (Said.files_of_commit g)) c r is m = subst (λ k. Told k r) (sym is) tt
  told_for sets left counts schema (Some (Said.text_of_commit g)) c r is m = subst (λ k. Told k r) (sym is) tt
  told_for sets left counts schema (Some Said.snapshot) c r is m = subst (λ k. Told k r) (sym is) tt
  told_for sets left counts schema (Some (Said.release_snapshot g)) c r is m = subst (λ k. Told k r) (sym is) tt
  told_for sets left counts schema (Some (Said.prune n)) c r is m = subst (λ k. Told k r) (sym is) tt

  -- of what is found nothing is said
  found_told : (c : Command) (f : Found) → Told c (Ok (Answer.found f))
  found_told Command.formless f = tt
  found_told (Command.put item) f = tt
  found_told (Command.delete id) f = tt
  found_told (Command.delete_where q) f = tt
  found_told Command.refresh f = tt
  found_told Command.open_newest f = tt
  found_told (Command.open_at t) f = tt
  found_told (Command.close t) f = tt
  found_told (Command.read t asked) f = tt
  found_told (Command.prune n) f = tt
  found_told (Command.commit text) f = tt
  found_told Command.snapshot f = tt
  found_told (Command.release_snapshot g) f = tt
  found_told (Command.files_of_token t) f = tt
  found_told (Command.files_of_commit g) f = tt
  found_told (Command.text_of_commit g) f = tt
  found_told (Command.chore Chore.merge) f = tt
  found_told (Command.chore Chore.force) f = tt
  found_told (Command.chore Chore.warm) f = tt
  found_told (Command.chore Chore.sweep) f = tt
  found_told (Command.chore Chore.stat) f = tt

  -- ---- a damaged file

  damaged_for : (from : Opened) (past : Run) (session : ℕ) (schema : Schema) (said : Option Said) (c : Command)
      → IsCommandOf schema said c → Stands (bytes (device_of old)) s from past
      → Fits from past (record { line = record { session = session; command = c }; reply = Err Damaged })
      → IsDamagedTo (bytes (device_of old)) s said → IsDamagedFor (AlwaysTells bytes) from past st c
  damaged_for from past session schema said c is stands fits m = by said is m
    where
      got : (t : ℕ) (text : Text) (b : Bool) → is_id text ≡ b → IsDamagedTo (bytes (device_of old)) s (Some (Said.get t text))
          → FitsTo from past session (Command.read t (Read.get (cond b (Ok text) (Err Id)))) → DamagedFor from past (Command.read t (Read.get (cond b (Ok text) (Err Id))))
      got t text true e m fits = λ always one_line. damaged_get (bytes (device_of old)) s from past stands (λ q. always (device_of old) q) session t text fits m one_line
      got t text false e m fits = tt

      by : (said : Option Said) → IsCommandOf schema said c → IsDamagedTo (bytes (device_of old)) s said → DamagedFor from past c
      by None is m = subst (DamagedFor from past) (sym is) tt
      by (Some (Said.put text)) is m = subst (DamagedFor from past) (sym is) tt
      by (Some (Said.delete text)) is m = subst (DamagedFor from past) (sym is) tt
      by (Some (Said.delete_where text)) is m = subst (DamagedFor from past) (sym is.2) tt
      by (Some Said.refresh) is m = subst (DamagedFor from past) (sym is) tt
      by (Some Said.open_newest) is m = subst (DamagedFor from past) (sym is) tt
      by (Some (Said.open_at t)) is m = subst (DamagedFor from past) (sym is) tt
      by (Some (Said.close t)) is m = subst (DamagedFor from past) (sym is) tt
      by (Some (Said.find t n sort mark text)) is m = subst (DamagedFor from past) (sym is.2) tt
      by (Some (Said.facets t dim n text)) is m = subst (DamagedFor from past) (sym is.2) tt
      by (Some (Said.get t text)) is m = subst (DamagedFor from past) (sym is) (got t text (is_id text) refl m (subst (FitsTo from past session) is fits))
      by (Some (Said.files_of_token t)) is m = subst (DamagedFor from past) (sym is) tt
      by (Some (Said.files_of_commit g)) is m = subst (DamagedFor from past) (sym is) tt
      by (Some (Said.commit text)) is m = subst (DamagedFor from past) (sym is) tt
      by (Some (Said.text_of_commit g)) is m = subst (DamagedFor from past) (sym is) tt
      by (Some Said.snapshot) is m = subst (DamagedFor from past) (sym is) tt
      by (Some (Said.release_snapshot g)) is m = subst (DamagedFor from past) (sym is) tt
      by (Some (Said.prune n)) is m = subst (DamagedFor from past) (sym is) tt
      by (Some (Said.chore Chore.merge)) is m =
          let left = rows_left s.merging m.0 in
          subst (DamagedFor from past) (sym is) (
            (λ always. no_input_lacks (bytes (device_of old)) s stands.ledger stands.files stands.carries (λ q. always (device_of old) q) m.2),
            left.0,
            left.1,
            left.2,
          )
      by (Some (Said.chore Chore.force)) is m = subst (DamagedFor from past) (sym is) tt
      by (Some (Said.chore Chore.warm)) is m = subst (DamagedFor from past) (sym is) tt
      by (Some (Said.chore Chore.sweep)) is m = subst (DamagedFor from past) (sym is) tt
      by (Some (Said.chore Chore.stat)) is m = subst (DamagedFor from past) (sym is) tt

-- ---- from one line to the next

-- which source is told matters to no write
sources_write : (c : Command) (f g : Found) → writes_by c (Ok (Answer.found f)) ≡ writes_by c (Ok (Answer.found g))
sources_write Command.formless f g = refl
sources_write (Command.put (Ok i)) f g = refl
sources_write (Command.put (Err e)) f g = refl
sources_write (Command.delete (Ok id)) f g = refl
sources_write (Command.delete (Err e)) f g = refl
sources_write (Command.delete_where (Ok q)) f g = refl
sources_write (Command.delete_where (Err e)) f g = refl
sources_write Command.refresh f g = refl
sources_write Command.open_newest f g = refl
sources_write (Command.open_at t) f g = refl
sources_write (Command.close t) f g = refl
sources_write (Command.read t asked) f g = refl
sources_write (Command.prune n) f g = refl
sources_write (Command.commit text) f g = refl
sources_write Command.snapshot f g = refl
sources_write (Command.release_snapshot n) f g = refl
sources_write (Command.files_of_token t) f g = refl
sources_write (Command.files_of_commit n) f g = refl
sources_write (Command.text_of_commit n) f g = refl
sources_write (Command.chore what) f g = refl

-- and to no segment
sources_go : (a b : Text) (old new : List SegmentStat) (next waiting after : ℕ)
    → SegmentsGo (Ok (Answer.found (Found.source (Some a)))) old next waiting new after
    → SegmentsGo (Ok (Answer.found (Found.source (Some b)))) old next waiting new after
sources_go a b old new next waiting after h = (
  h.0,
  h.1,
  elim h.2 [
    | inl same ↦ inl same
    | inr more ↦ inr (elim more [
      | inl one ↦ inl one
      | inr k ↦ absurd (let no : ◌≡◌ {A = Reply} (Ok (Answer.found (Found.source (Some a)))) (Ok (Answer.news News.done)) = k.4 in cc)
    ])
  ],
)

-- so of all that a call makes of a ledger
sources_move : (c : Command) (l new : Ledger) (a b : Text) → Moved c (Ok (Answer.found (Found.source (Some a)))) l new
    → Moved c (Ok (Answer.found (Found.source (Some b)))) l new
sources_move c l new a b m = record {
  taken = λ x commit ok. m.taken (Answer.found (Found.source (Some a))) commit refl;
  segments = sources_go a b (portions_told l.portions) (portions_told new.portions) l.next_segment (length l.buffered) new.next_segment m.segments;
  flushed = λ x flush ok. m.flushed (Answer.found (Found.source (Some a))) flush refl;
  waits = subst (λ n. length new.buffered ≤ length l.buffered + n) (sources_write c (Found.source (Some a)) (Found.source (Some b))) m.waits;
  making = λ other. elim (m.making other) [
    | inl refused ↦ absurd (let no : ◌≡◌ {A = Reply} (Ok (Answer.found (Found.source (Some a)))) (Err refused.0) = refused.1 in cc)
    | inr same ↦ inr same
  ];
  files = λ none. elim (m.files none) [
    | inl refused ↦ absurd (let no : ◌≡◌ {A = Reply} (Ok (Answer.found (Found.source (Some a)))) (Err refused.0) = refused.1 in cc)
    | inr same ↦ inr same
  ];
}

-- and of the merge in the making
sources_make : (policy : MergePolicy) (s : Standing) (c : Command) (a b : Text) (new : Option (ℕ × Progress))
    → MergeMoves policy.factor policy.least s c (Ok (Answer.found (Found.source (Some a)))) new
    → MergeMoves policy.factor policy.least s c (Ok (Answer.found (Found.source (Some b)))) new
sources_make policy s Command.formless a b new h = h
sources_make policy s (Command.put item) a b new h = h
sources_make policy s (Command.delete id) a b new h = h
sources_make policy s (Command.delete_where q) a b new h = h
sources_make policy s Command.refresh a b new h = h
sources_make policy s Command.open_newest a b new h = h
sources_make policy s (Command.open_at t) a b new h = h
sources_make policy s (Command.close t) a b new h = h
sources_make policy s (Command.read t asked) a b new h = h
sources_make policy s (Command.prune n) a b new h = h
sources_make policy s (Command.commit text) a b new h = h
sources_make policy s Command.snapshot a b new h = h
sources_make policy s (Command.release_snapshot n) a b new h = h
sources_make policy s (Command.files_of_token t) a b new h = h
sources_make policy s (Command.files_of_commit n) a b new h = h
sources_make policy s (Command.text_of_commit n) a b new h = h
sources_make policy s (Command.chore Chore.merge) a b new h = h
sources_make policy s (Command.chore Chore.force) a b new h = h
sources_make policy s (Command.chore Chore.warm) a b new h = h
sources_make policy s (Command.chore Chore.sweep) a b new h = h
sources_make policy s (Command.chore Chore.stat) a b new h = h

-- the merge of a ledger is told as memory has it
merging_shown : (schema : Schema) (m : Option Merging) → option_map progress_of (merging_shape schema m) ≡ merge_told m
merging_shown schema None = refl
merging_shown schema (Some m) = ap (λ n. Some (m.number, record { passed = m.passed; rows = n })) (many_shown schema m.inputs)

making_told : (l : Ledger) (s : Shape) → shape_of_ledger l ≡ s → merge_told l.merging ≡ option_map progress_of s.merging
making_told l s is = sym (merging_shown l.schema l.merging) ∙ ap (λ (x : Shape). option_map progress_of x.merging) is

-- the segments that a ledger stands for are told as memory has them
shapes_told : (l : Ledger) (s : Shape) → shape_of_ledger l ≡ s → portions_told l.portions ≡ map segment_told s.leaves
shapes_told l s is = sym (leaves_told l.schema l.portions) ∙ ap (λ (x : Shape). map segment_told x.leaves) is

-- what waits and the live rows are the table
items_told : (l : Ledger) (s : Shape) → shape_of_ledger l ≡ s → ArePortions l.portions
    → length s.buffered + sum (map (λ (x : SegmentStat). x.live) (map segment_told s.leaves)) ≡ length (table_of l)
items_told l s is whole =
    let a = ap (λ (x : Shape). length x.buffered) is in
    let b = ap (λ (xs : List SegmentStat). sum (map (λ (x : SegmentStat). x.live) xs)) (shapes_told l s is) in
    let d = live_told l.portions whole.lengths in
    let e = length-append (records_of l.portions) l.buffered in omega (arith, a, b, d, e)

-- a merge in the making has a number that was given out
making_below : (l : Ledger) → IsLedger l → IfSome (merge_told l.merging) (λ (m : ℕ × Progress). m.0 < l.next_segment)
making_below l sound =
    by l.merging (All-four (IsPast l.next_segment l.next_generation) (flat_map names_of_portion l.portions) (flat_map names_of_view l.views)
    (flat_map names_of_commit l.commits) (names_of_merging l.merging) sound.fresh).merging
  where
    by : (o : Option Merging) → AllByRecursion (IsPast l.next_segment l.next_generation) (names_of_merging o)
        → IfSome (merge_told o) (λ (m : ℕ × Progress). m.0 < l.next_segment)
    by None h = tt
    by (Some m) h = h.0.1

shape_below : (l : Ledger) (s : Shape) → shape_of_ledger l ≡ s → IsLedger l → IfSome (option_map progress_of s.merging) (λ (m : ℕ × Progress). m.0 < s.next_segment)
shape_below l s is sound =
    subst (λ n. IfSome (option_map progress_of s.merging) (λ (m : ℕ × Progress). m.0 < n)) (ap (λ (x : Shape). x.next_segment) is)
    (subst (λ o. IfSome o (λ (m : ℕ × Progress). m.0 < l.next_segment)) (making_told l s is) (making_below l sound))

-- ---- lines that move no file

-- the numbers that come next are as they were, and as many files wait to be deleted
abbrev pub FilesStand : Shape → Shape → Type 0
FilesStand s new = (new.next_segment ≡ s.next_segment) × (new.next_generation ≡ s.next_generation) × (pending_in new ≡ pending_in s)

files_unchanged : (s new : Shape) → new ≡ s → FilesStand s new
files_unchanged s new k = (ap (λ (x : Shape). x.next_segment) k, ap (λ (x : Shape). x.next_generation) k, ap pending_in k)

files_stay : (l l' : Ledger) (s new : Shape) → shape_of_ledger l ≡ s → shape_of_ledger l' ≡ new → FilesStay l l' → FilesStand s new
files_stay l l' s new is is' k = (
  sym (ap (λ (x : Shape). x.next_segment) is') ∙ k.segment ∙ ap (λ (x : Shape). x.next_segment) is,
  sym (ap (λ (x : Shape). x.next_generation) is') ∙ k.generation ∙ ap (λ (x : Shape). x.next_generation) is,
  sym (ap pending_in is') ∙ ap (λ us. count_by (λ (u : Used). u.users == 0) us) k.users ∙ ap pending_in is,
)

-- the command moves files, or doesn't, as what is said does
says_still : (schema : Schema) (said : Option Said) (c : Command) → IsCommandOf schema said c → moves_files c ≡ false → may_move said ≡ false
says_still schema said c is none = by said is
  where
    moves : {M : Type 0} (d : Command) → c ≡ d → moves_files d ≡ true → M
    moves d is true_of = absurd (true≢false (sym true_of ∙ ap moves_files (sym is) ∙ none))

    by : (said : Option Said) → IsCommandOf schema said c → may_move said ≡ false
    by None is = refl
    by (Some (Said.put text)) is = moves _ is refl
    by (Some (Said.delete text)) is = refl
    by (Some (Said.delete_where text)) is = refl
    by (Some Said.refresh) is = moves _ is refl
    by (Some Said.open_newest) is = refl
    by (Some (Said.open_at t)) is = refl
    by (Some (Said.close t)) is = refl
    by (Some (Said.find t n sort mark text)) is = refl
    by (Some (Said.facets t dim n text)) is = refl
    by (Some (Said.get t text)) is = refl
    by (Some (Said.files_of_token t)) is = refl
    by (Some (Said.files_of_commit g)) is = refl
    by (Some (Said.commit text)) is = moves _ is refl
    by (Some (Said.text_of_commit g)) is = refl
    by (Some Said.snapshot) is = refl
    by (Some (Said.release_snapshot g)) is = moves _ is refl
    by (Some (Said.prune n)) is = moves _ is refl
    by (Some (Said.chore Chore.merge)) is = moves _ is refl
    by (Some (Said.chore Chore.force)) is = moves _ is refl
    by (Some (Said.chore Chore.warm)) is = refl
    by (Some (Said.chore Chore.sweep)) is = moves _ is refl
    by (Some (Said.chore Chore.stat)) is = refl

flushes_of : (c : Command) (text : Result Text Refusal) → (c ≡ Command.refresh) ⊎ (c ≡ Command.commit text) → flushes c ≡ true
flushes_of c text (inl is) = ap flushes is
flushes_of c text (inr is) = ap flushes is

-- what a refused COMMIT tries: a generation that it takes
abbrev pub Tries : {D : Type 0} → (tried after : List ℕ) → Service D → Service D → Command → Reply → Type 0
Tries tried after old new c r =
    (after ≡ tried) ⊎ ((refuses_commit c r ≡ true)
    × (after ≡ (shape_of_service old).next_generation ∷ tried) × ((shape_of_service old).next_generation < (shape_of_service new).next_generation))

-- a SWEEP that is answered leaves nothing that waits
abbrev pub Sweeps : {D : Type 0} → Service D → Command → Reply → Type 0
Sweeps new c r = (a : Answer) → c ≡ Command.chore Chore.sweep → r ≡ Ok a → pending_in (shape_of_service new) ≡ 0

abbrev is_sweep : Command → Bool
is_sweep (Command.chore Chore.sweep) = true
is_sweep c = false

no_sweep : (c d : Command) → c ≡ d → is_sweep d ≡ false → c ≡ Command.chore Chore.sweep → ⊥
no_sweep c d is other sweeps = true≢false (ap is_sweep (sym sweeps ∙ is) ∙ other)

-- one that is told what is found isn't refused
found_no_refusal : (c : Command) (f : Found) → refuses_commit c (Ok (Answer.found f)) ≡ true → ⊥
found_no_refusal (Command.commit (Ok text)) f m = absurd (cc m)
found_no_refusal _ f m = absurd (cc m)

module _ {D : Type 0} (bytes : D → ToldFiles) (can_fail : D → Type 0) (faults : D → ℕ) (tried after : List ℕ) (cache made : Cache) where
  -- what waited is gone behind a SWEEP, as it is told
  swept_for : (old new : Service D) (schema : Schema) (said : Option Said) (c : Command) (r : Reply) → IsCommandOf schema said c
      → SweepsSo bytes old.ledger new.ledger said r → Sweeps new c r
  swept_for old new schema said c r is m a sweeps ok = by said is (subst (SweepsSo bytes old.ledger new.ledger said) ok m)
    where
      other : (d : Command) → c ≡ d → is_sweep d ≡ false → pending_in (shape_of_service new) ≡ 0
      other d same none = absurd (no_sweep c d same none sweeps)

      by : (said : Option Said) → IsCommandOf schema said c → SweepsSo bytes old.ledger new.ledger said (Ok a) → pending_in (shape_of_service new) ≡ 0
      by (Some (Said.chore Chore.sweep)) is m = m.done
      by None is m = other Command.formless is refl
      by (Some (Said.put text)) is m = other _ is refl
      by (Some (Said.delete text)) is m = other _ is refl
      by (Some (Said.delete_where text)) is m = other _ is.2 refl
      by (Some Said.refresh) is m = other _ is refl
      by (Some Said.open_newest) is m = other _ is refl
      by (Some (Said.open_at t)) is m = other _ is refl
      by (Some (Said.close t)) is m = other _ is refl
      by (Some (Said.find t n sort mark text)) is m = other _ is.2 refl
      by (Some (Said.facets t dim n text)) is m = other _ is.2 refl
      by (Some (Said.get t text)) is m = other _ is refl
      by (Some (Said.files_of_token t)) is m = other _ is refl
      by (Some (Said.files_of_commit g)) is m = other _ is refl
      by (Some (Said.commit text)) is m = other _ is refl
      by (Some (Said.text_of_commit g)) is m = other _ is refl
      by (Some Said.snapshot) is m = other _ is refl
      by (Some (Said.release_snapshot g)) is m = other _ is refl
      by (Some (Said.prune n)) is m = other _ is refl
      by (Some (Said.chore Chore.merge)) is m = other _ is refl
      by (Some (Said.chore Chore.force)) is m = other _ is refl
      by (Some (Said.chore Chore.warm)) is m = other _ is refl
      by (Some (Said.chore Chore.stat)) is m = other _ is refl

  -- how it stood, and how it stands
  abbrev before : Service D → Standing
  before old = standing_of_service faults cache tried old

  abbrev StandOn : Service D → Service D → Reply → Type 0
  StandOn old new r = SegmentsStand (before old) r (map segment_told (shape_of_service new).leaves) (shape_of_service new).next_segment

  abbrev MakesOn : Service D → Service D → Command → Reply → Type 0
  MakesOn old new c r =
      MergeMoves (policy_of old).factor (policy_of old).least (before old) c r (option_map progress_of (shape_of_service new).merging)

  -- what is so of the ledger's standing is so of the one that memory has
  over : (P : Standing → Type 0) (old : Service D) (l : Ledger) → shape_of_ledger l ≡ shape_of_service old → P (ledger_standing (before old) l) → P (before old)
  over P old l is =
      standing_over P (before old) (portions_told l.portions) (map segment_told (shape_of_service old).leaves) (length l.buffered)
      (length (shape_of_service old).buffered) (merge_told l.merging) (option_map progress_of (shape_of_service old).merging) l.next_segment
      (shape_of_service old).next_segment (shapes_told l (shape_of_service old) is) (ap (λ (x : Shape). length x.buffered) is)
      (making_told l (shape_of_service old) is) (ap (λ (x : Shape). x.next_segment) is)

  stand_over : (old new : Service D) (r : Reply) (l l' : Ledger) → shape_of_ledger l ≡ shape_of_service old → shape_of_ledger l' ≡ shape_of_service new
      → SegmentsStand (ledger_standing (before old) l) r (portions_told l'.portions) l'.next_segment → StandOn old new r
  stand_over old new r l l' is is' h =
      subst (λ n. SegmentsStand (before old) r (map segment_told (shape_of_service new).leaves) n) (ap (λ (x : Shape). x.next_segment) is')
      (subst (λ xs. SegmentsStand (before old) r xs l'.next_segment) (shapes_told l' (shape_of_service new) is')
      (over (λ s. SegmentsStand s r (portions_told l'.portions) l'.next_segment) old l is h))

  makes_over : (old new : Service D) (c : Command) (r : Reply) (l l' : Ledger) → shape_of_ledger l ≡ shape_of_service old
      → shape_of_ledger l' ≡ shape_of_service new → Moves (policy_of old) (before old) l l' c r → MakesOn old new c r
  makes_over old new c r l l' is is' h =
      subst (MergeMoves (policy_of old).factor (policy_of old).least (before old) c r) (making_told l' (shape_of_service new) is')
      (over (λ s. MergeMoves (policy_of old).factor (policy_of old).least s c r (merge_told l'.merging)) old l is h)

  -- a refused line that is no MERGE keeps the merge in the making
  keeps_making : (old new : Service D) (schema : Schema) (said : Option Said) (c : Command) (r : Reply) (l l' : Ledger) → IsCommandOf schema said c
      → shape_of_ledger l ≡ shape_of_service old → shape_of_ledger l' ≡ shape_of_service new
      → ((e : Refusal) → r ≡ Err e → said ≢ Some (Said.chore Chore.merge) → (shape_of_service new).merging ≡ (shape_of_service old).merging)
      → KeepsMaking (policy_of old) (before old) l l' c r
  keeps_making old new schema said c r l l' is shaped shaped' kept differs e refused =
      making_told l' (shape_of_service new) shaped'
      ∙ ap (option_map progress_of)
      (kept e refused (λ same. true≢false (sym (ap is_merge (subst (λ x. IsCommandOf schema x c) same is)) ∙ differs)))
      ∙ sym (making_told l (shape_of_service old) shaped)

  -- what a call made of a ledger is made of the standing that memory has of it
  moves_on : (old new : Service D) (c : Command) (r : Reply) (l l' : Ledger) → shape_of_ledger l ≡ shape_of_service old → shape_of_ledger l' ≡ shape_of_service new
      → TakesNumbers (shape_of_service old) (shape_of_service new) → HasFewPending (shape_of_service old) → faults (device_of old) ≤ faults (device_of new) → Moved c r l l' → StandOn old new r → Sweeps new c r → Tries tried after old new c r
      → (moves_files c ≡ false → FilesStand (shape_of_service old) (shape_of_service new)) → IsLedger l'
      → CacheMoves (standing_of_service faults cache tried old) c r (standing_of_service faults made after new)
      → MovesOn (standing_of_service faults cache tried old) c r (standing_of_service faults made after new)
  moves_on old new c r l l' is is' numbers few rises m stand swept tries still sound cached = record {
    segment = numbers.segment;
    generation = numbers.generation;
    taken = λ text a is_commit ok.
        sym (ap (λ (x : Shape). x.next_generation) is') ∙ m.taken a (ap commits is_commit) ok ∙ ap (λ (x : Shape). x.next_generation + 1) is;
    segments = stand;
    flushed = λ text a which ok. sym (ap (λ (x : Shape). length x.buffered) is') ∙ m.flushed a (flushes_of c text which) ok;
    waits =
        (let a = ap (λ (x : Shape). length x.buffered) is in
        let b = ap (λ (x : Shape). length x.buffered) is' in
        let h = m.waits in omega (arith, a, b, h));
    cache = cached;
    swept = swept;
    still = still;
    few = few;
    making = shape_below l' (shape_of_service new) is' sound;
    failures = rises;
    tried = tries;
  }

  -- so whichever source is told
  sources_try : (c : Command) (old new : Service D) (a b : Text) → Tries tried after old new c (Ok (Answer.found (Found.source (Some a))))
      → Tries tried after old new c (Ok (Answer.found (Found.source (Some b))))
  sources_try c old new a b (inl same) = inl same
  sources_try c old new a b (inr h) = absurd (found_no_refusal c (Found.source (Some a)) h.0)

  -- The reply that fits has its cause, where the one that was told has it.
  pub reasoned : (from : Opened) (past : Run) (old new : Service D) (e : Exchange) (fitting : Reply)
      → Stands (bytes (device_of old)) (shape_of_service old) from past → Fits from past (record { line = e.line; reply = fitting })
      → IsShown (bytes (device_of old)) e.reply fitting → IsCausedBy bytes can_fail faults old (Outcome.replied e) new
      → Tries tried after old new e.line.command e.reply → length cache.sets ≡ length old.sets.cached
      → CacheMoves (standing_of_service faults cache tried old) e.line.command fitting (standing_of_service faults made after new)
      → HasReason (AlwaysTells bytes) (policy_of old).factor (policy_of old).least from past (standing_of_service faults cache tried old)
      (record { line = e.line; reply = fitting }) (standing_of_service faults made after new)
  reasoned from past old new e fitting stands fits shown (said, is, cause, numbers, answers, same, sets, few) tries counts cached =
      let c = e.line.command in
      let schema = (shape_of_service old).schema in
      let l = stands.ledger in
      let answered = answers l stands.files stands.carries in
      let moved : Moved c answered.2 l answered.0 = calls_move (policy_of old) l answered.0 e.line answered.2 stands.carries.sound.merging answered.4 in
      let told_moved : Moved c e.reply l answered.0 =
      (alike_on (λ r. Moved c r l answered.0) (sources_move c l answered.0) e.reply answered.2 answered.3.alike).1 moved in
      let stand : StandOn old new answered.2 =
      stand_over old new answered.2 l answered.0 stands.carries.shape answered.5.shape
      (segments_stand (before old) l answered.0 (policy_of old) e.line.session c answered.2 stands.carries.sound.merging moved answered.4) in
      let makes : MakesOn old new c answered.2 =
      makes_over old new c answered.2 l answered.0 stands.carries.shape answered.5.shape
      (merge_moves (policy_of old) (before old) l answered.0 e.line.session c answered.2
      (keeps_making old new schema said c answered.2 l answered.0 is stands.carries.shape answered.5.shape
      (λ x k. cause.making x (refused_alike x e.reply answered.2 answered.3.alike k))) moved answered.4) in
      let fit_moved : Moved c fitting l answered.0 = (alike_on (λ r. Moved c r l answered.0) (sources_move c l answered.0) e.reply fitting shown.alike).0 told_moved in record {
        spent = λ k. spent_for bytes can_fail faults old tried cache schema said c is (cause.spent (refused_alike Spent e.reply fitting shown.alike k));
        counted = λ k.
            counted_for bytes can_fail faults old tried cache from past e.line.session schema said c is (subst (λ r. Fits from past (record { line = e.line; reply = r })) k fits)
            (CountsOne (faults (device_of old)) (faults (device_of new))) (cause.counted (refused_alike Device e.reply fitting shown.alike k));
        quiet = λ k. cause.quiet (refused_alike Memory e.reply fitting shown.alike k);
        damaged = λ k.
            damaged_for bytes can_fail faults old tried cache from past e.line.session schema said c is stands (subst (λ r. Fits from past (record { line = e.line; reply = r })) k fits)
            (cause.damaged (refused_alike Damaged e.reply fitting shown.alike k));
        told =
            (alike_on (λ r. IsToldOf (standing_of_service faults cache tried old) c r)
            (λ a b h. found_told bytes can_fail faults old tried cache c (Found.source (Some b))) e.reply fitting shown.alike).0 (told_for bytes can_fail faults old tried cache old.sets new.sets counts schema said c e.reply is cause.told);
        merges =
            (alike_on (MakesOn old new c) (λ a b h. sources_make (policy_of old) (before old) c a b (option_map progress_of (shape_of_service new).merging) h) e.reply fitting
            shown.alike).0
            ((alike_on (MakesOn old new c) (λ a b h. sources_make (policy_of old) (before old) c a b (option_map progress_of (shape_of_service new).merging) h) e.reply
            answered.2 answered.3.alike).1 makes);
        items = items_told l (shape_of_service old) stands.carries.shape stands.carries.sound.portions ∙ ap length stands.stands.shows.table_now;
        writes = ap (λ (x : Shape). x.count) (sym stands.carries.shape) ∙ stands.stands.shows.count_now;
        views =
            (let a = ap (λ (x : Shape). length x.views) stands.carries.shape in
            let b = length-map l.views (recorded_view l.schema) in
            let d = length-map l.views view_shown in
            let f = ap (λ (vs : List RecordedTable). length vs) stands.stands.shows.views_now in
            let g = length-map (view_tokens from.start past) (table_recorded from.start past) in omega (arith, a, b, d, f, g));
        moves =
            moves_on old new c fitting l answered.0 stands.carries.shape answered.5.shape numbers few cause.rises fit_moved
            ((alike_on (StandOn old new) (λ a b h. h) e.reply fitting shown.alike).0 ((alike_on (StandOn old new) (λ a b h. h) e.reply answered.2 answered.3.alike).1 stand))
            ((alike_on (Sweeps new c) (λ a b h x sweeps ok. h (Answer.found (Found.source (Some a))) sweeps refl) e.reply fitting shown.alike).0
            (swept_for old new schema said c e.reply is cause.swept))
            ((alike_on (Tries tried after old new c) (λ a b h. sources_try c old new a b h) e.reply fitting shown.alike).0 tries)
            (λ none. elim (moved.files none) [
              | inl refused ↦ files_unchanged (shape_of_service old) (shape_of_service new)
                  (cause.still refused.0 (refused_alike refused.0 e.reply answered.2 answered.3.alike refused.1) (says_still schema said c is none))
              | inr same ↦ files_stay l answered.0 (shape_of_service old) (shape_of_service new) stands.carries.shape answered.5.shape same
            ]) answered.5.sound cached;
      }
