-- Where none of the refusals is due that a run tells, an OK fits it.
use Rattle.std.proofs.Common.{◌≡◌, ◌≢◌, ℕ, ◌+◌, ◌-◌, ◌<◌, ◌≤◌, List, [], ◌∷◌, length, map, Bool, true, false, cond, ltb, refl, sym, ◌∙◌, ap, subst, arith, inl, inr}
use Rattle.std.specs.Prelude.{◌==◌, Option, None, Some, Result, Ok, Err, IfErr, option_map, is_some, IsTrue}
use Rattle.std.specs.List.{find, list_any}
use Rattle.std.proofs.lemmas.Bool.Decides.{eqb_tells, nat_tests}
use Rattle.cat_base.specs.declared.refusal.Refusal.{Refusal}
use Rattle.cat_base.specs.declared.refusal.Refusal.TheVariants.{Count, Device, Full, Gone, Mark, Memory, NoCommit, NoSnapshot, NotFacet, NotHeld, SortField, Spent}
use Rattle.cat_model.specs.Answer.{Found, Read, answer, can_sort, has_mark, is_facet_kind, stored}
use Rattle.cat_model.specs.CommitFile.{CommitFile}
use Rattle.cat_model.specs.Facets.{facets_in}
use Rattle.cat_model.specs.Item.{Record, Schema, kind_of}
use Rattle.cat_model.specs.Limits.{last_number, page_limit, snapshot_limit}
use Rattle.cat_model.specs.Page.{Sort, page_of}
use Rattle.cat_model.specs.Query.{Query}
use Rattle.cat_model.specs.Run.{Answer, Chore, Command, News, Reply, found_reply, greatest, may_tell, read_reply, snapshot_of, text_under}
use Rattle.cat_model.specs.State.{Commit, Moves, RecordedTable, State, Step, Taken, commits_kept, found_table, has_commit, has_hold, has_view, held_in, newest_of, refreshed, refuses_refresh, snapshots_in, table_under, told_by, tokens, views_pruned, with_hold, written}
use Rattle.cat_model.specs.Text.{Text}
use Rattle.cat_model.specs.View.{Shows, View}
use Rattle.cat_model.specs.Write.{Write}
use Rattle.cat_model.proofs.States.{steps_keep_runs}
use Rattle.cat_ledger_laws.specs.model.Ledger.{Ledger, commit_file, commit_shown, state_of, view_shown}
use Rattle.cat_ledger_laws.specs.model.Plans.{MergePolicy}
use Rattle.cat_ledger_laws.specs.model.Portions.{records_of}
use Rattle.cat_ledger_laws.specs.model.Replies.{Calls}
use Rattle.cat_ledger_laws.specs.model.Stored.{FileBytes}
use Rattle.cat_ledger_laws.proofs.model.Shown.{rows-shown}
use Rattle.cat_ledger_laws.specs.shape.Shapes.{Shape, recorded_view, shape_of}
use Rattle.cat_ledger_laws.specs.shape.Steps.{newest_generation}
use Rattle.cat_ledger_laws.specs.shape.Ties.{Carries, ToldFiles}
use Rattle.cat_ledger_laws.proofs.shape.Leaves.{any_map, map_twice}
use Rattle.cat_ledger_laws.specs.lines.LineLaws.{MayRefresh, line_of, tells}
use Rattle.cat_ledger_laws.specs.lines.ReadLaws.{IsRecordedAs, kept_under}
use Rattle.cat_ledger_laws.proofs.lines.Found.{any_found, find_map, found_in}
use Rattle.cat_ledger_laws.proofs.lines.HoldAnswers.{held_as, recorded_as}
use Rattle.cat_ledger_laws.proofs.lines.LineAnswers.{below, given, refresh_may}
use Rattle.cat_ledger_laws.proofs.lines.StopAnswers.{nothing_is_left, stopped_commits_answer}
use Rattle.std.specs.List.{last_or}
use Rattle.cat_service.specs.Wanting.{IsOkDue}

-- an OK may be told of the ledger's state, with what it would leave
abbrev pub HasOk : Ledger → ℕ → Command → Type 0
HasOk l session c = (a : Answer) × (mid : State) × Moves l.schema (state_of l) session c (Ok a) mid

-- where it may be of each ledger that is carried, an OK fits each run
pub ok_carried : (told : ToldFiles) (s : Shape) (session : ℕ) (c : Command)
    → ((l : Ledger) (files : FileBytes) → Carries told s l files → HasOk l session c) → IsOkDue told s session c
ok_carried told s session c may from run fields is_run stands =
    let l = stands.ledger in
    let ok = may l stands.files stands.carries in
    let same : from.start.schema ≡ l.schema = fields ∙ ap (λ (s : Shape). s.schema) (sym stands.carries.shape) in
    let step : Step from.start.schema (state_of l) (line_of session c) (Ok ok.0) ok.1 =
    subst (λ schema. Step schema (state_of l) (line_of session c) (Ok ok.0) ok.1) (sym same) (inl ok.2) in
    (ok.0, (steps_keep_runs from run (state_of l) ok.1 (line_of session c) (Ok ok.0) is_run stands.stands step).0)

-- so it is where it may be of each ledger of the shape
pub ok_shaped : (told : ToldFiles) (s : Shape) (session : ℕ) (c : Command) → ((l : Ledger) → shape_of l ≡ s → HasOk l session c)
    → IsOkDue told s session c
ok_shaped told s session c may = ok_carried told s session c (λ l files carries. may l carries.shape)

module _ (s : Shape) (l : Ledger) (e : shape_of l ≡ s) (session : ℕ) where
  abbrev st : State
  st = state_of l

  -- ---- writes

  pub delete_ok : (id : Text) → s.count < last_number → HasOk l session (Command.delete (Ok id))
  delete_ok id left =
      let due : cond (ltb l.count last_number) (tells (l.count + 1)) (Err Spent) ≡ tells (l.count + 1) =
      ap (λ b. cond b (tells (l.count + 1)) (Err Spent))
      (below l.count last_number (subst (λ (s : Shape). s.count < last_number) (sym e) left)) in
      (Answer.number (l.count + 1), cond (ltb l.count last_number) (written st (Write.delete id)) st, (sym due, refl))

  -- ---- views

  pub refresh_ok : MayRefresh s → HasOk l session Command.refresh
  refresh_ok allowed =
      let due : cond (refuses_refresh st) (Err Full) (tells l.count) ≡ tells l.count =
      ap (λ b. cond b (Err Full) (tells l.count)) (refresh_may s l e allowed) in
      (Answer.number l.count, cond (refuses_refresh st) st (refreshed st), (sym due, refl))

  pub newest_ok : HasOk l session Command.open_newest
  newest_ok = (Answer.number (greatest (tokens st.views)), with_hold st session (greatest (tokens st.views)), (refl, refl))

  pub open_ok : (t : ℕ) → list_any (λ v. v.token == t) s.views ≡ true → HasOk l session (Command.open_at t)
  open_ok t there =
      let recorded : has_view st.views t ≡ true = any_map view_shown (λ (v : RecordedTable). v.token == t) l.views ∙ recorded_as s l e t ∙ there in
      let due : cond (has_view st.views t) (tells t) (Err Gone) ≡ tells t = ap (λ b. cond b (tells t) (Err Gone)) recorded in
      (Answer.number t, cond (has_view st.views t) (with_hold st session t) st, (sym due, refl))

  pub prune_ok : (n : ℕ) → HasOk l session (Command.prune n)
  prune_ok n = (
    Answer.number (length st.views - length (views_pruned (held_in st.holds) n st.views)),
    record st { views = views_pruned (held_in st.holds) n st.views },
    (refl, refl),
  )

  -- ---- reads

  read_ok : (t : ℕ) (asked : Read) (found : Found) → has_hold s.holds session t ≡ true → answer l.schema (table_under st.views t) asked ≡ Ok found
      → HasOk l session (Command.read t asked)
  read_ok t asked found held is =
      let due : read_reply (has_hold l.holds session t) l.schema (table_under st.views t) asked ≡ Ok (Answer.found found) =
      ap (λ b. read_reply b l.schema (table_under st.views t) asked) (held_as s l e session t true held) ∙ ap found_reply is in
      (Answer.found found, st, (sym due, refl))

  -- what is answered over the records that the view shows which is recorded under the token
  pub held_read_ok : (t : ℕ) (view : View) (asked : Read) → has_hold s.holds session t ≡ true → IsRecordedAs s.views t view
      → ((rs : List Record) → Shows view rs → (found : Found) × (answer view.schema rs asked ≡ Ok found))
      → HasOk l session (Command.read t asked)
  held_read_ok t view asked held is finds =
      let x = found_in (recorded_view l.schema) (λ (v : View). v.token == t) l.views view (ap (λ (s : Shape). find (λ (v : View). v.token == t) s.views) e ∙ is) in
      let table : table_under st.views t ≡ records_of x.0.portions =
      ap found_table (find_map view_shown (λ (v : RecordedTable). v.token == t) l.views ∙ ap (option_map view_shown) x.2) in
      let shown : Shows (recorded_view l.schema x.0) (table_under st.views t) =
      subst (λ rs. Shows (recorded_view l.schema x.0) rs) (sym table) (rows-shown l.schema x.0.portions) in
      let found = finds (table_under st.views t) (subst (λ v. Shows v (table_under st.views t)) x.1 shown) in
      let fields : view.schema ≡ l.schema = ap (λ (v : View). v.schema) (sym x.1) in
      read_ok t asked found.0 held (ap (λ schema. answer schema (table_under st.views t) asked) (sym fields) ∙ found.1)

  pub get_ok : (t : ℕ) (id : Text) → has_hold s.holds session t ≡ true → HasOk l session (Command.read t (Read.get (Ok id)))
  get_ok t id held = read_ok t (Read.get (Ok id)) (Found.source (stored (table_under st.views t) id)) held refl

  -- ---- names and texts

  pub token_files_ok : (t : ℕ) → has_hold s.holds session t ≡ true → HasOk l session (Command.files_of_token t)
  token_files_ok t held =
      (Answer.names [], st, (given (◌≡◌ {A = Reply} (Ok (Answer.names [])) (Err NotHeld)) (has_hold l.holds session t) (held_as s l e session t true held) ([], refl), refl))

  commit_there : (g : ℕ) (commit : CommitFile) → kept_under s.commits g ≡ Some commit → has_commit st.commits g ≡ true
  commit_there g commit is =
      any_map commit_shown (λ (c : Commit). g == c.generation) l.commits
      ∙ sym (any_map (commit_file l.schema) (λ (c : CommitFile). g == c.generation) l.commits)
      ∙ any_found (λ (c : CommitFile). c.generation == g) (λ (c : CommitFile). g == c.generation) (λ c. grind (arith, nat_tests)) (map (commit_file l.schema) l.commits)
      ∙ ap (λ (s : Shape). is_some (kept_under s.commits g)) e
      ∙ ap is_some is

  pub commit_files_ok : (g : ℕ) (commit : CommitFile) → kept_under s.commits g ≡ Some commit → HasOk l session (Command.files_of_commit g)
  commit_files_ok g commit is =
      (Answer.names [], st, (given (◌≡◌ {A = Reply} (Ok (Answer.names [])) (Err NoCommit)) (has_commit st.commits g) (commit_there g commit is) ([], refl), refl))

  pub note_ok : (g : ℕ) (commit : CommitFile) → kept_under s.commits g ≡ Some commit → HasOk l session (Command.text_of_commit g)
  note_ok g commit is =
      let text : Text = text_under (map told_by st.commits) g in
      let due : ◌≡◌ {A = Reply} (cond (has_commit st.commits g) (Ok (Answer.commit_text text)) (Err NoCommit)) (Ok (Answer.commit_text text)) =
      ap (λ b. cond b (Ok (Answer.commit_text text)) (Err NoCommit)) (commit_there g commit is) in
      (Answer.commit_text text, st, (sym due, refl))

  -- ---- snapshots

  -- with so many of the generation
  abbrev counting : ℕ → ℕ → List Taken
  counting g n = record { generation = g; snapshots = n } ∷ l.taken

  one_more : (g h : ℕ) → snapshots_in (counting g (snapshots_in l.taken g + 1)) h ≡ snapshots_in l.taken h + cond (h == g) 1 0
  one_more g h =
      elim (eqb_tells g h) [
        | inl k ↦ rw (k.0, sym_test g h true k.0) (ap (λ n. snapshots_in l.taken n + 1) k.1)
        | inr k ↦ rw (k.0, sym_test g h false k.0) (omega arith)
      ]
    where
      sym_test : (g h : ℕ) (b : Bool) → (g == h) ≡ b → (h == g) ≡ b
      sym_test g h b is = grind (arith, nat_tests)

  one_less : (g h : ℕ) → snapshots_in (counting g (snapshots_in l.taken g - 1)) h ≡ snapshots_in l.taken h - cond (h == g) 1 0
  one_less g h =
      elim (eqb_tells g h) [
        | inl k ↦ rw (k.0, sym_test g h true k.0) (ap (λ n. snapshots_in l.taken n - 1) k.1)
        | inr k ↦ rw (k.0, sym_test g h false k.0) (omega arith)
      ]
    where
      sym_test : (g h : ℕ) (b : Bool) → (g == h) ≡ b → (h == g) ≡ b
      sym_test g h b is = grind (arith, nat_tests)

  newest_as : newest_of st.commits ≡ newest_generation s.commits
  newest_as =
      ap (last_or None) (map_twice commit_shown (λ (c : Commit). c.generation) l.commits ∙ sym (map_twice (commit_file l.schema) (λ (c : CommitFile). c.generation) l.commits))
      ∙ ap (λ (s : Shape). newest_generation s.commits) e

  pub snap_ok : (g : ℕ) → newest_generation s.commits ≡ Some g → snapshots_in s.taken g < snapshot_limit → HasOk l session Command.snapshot
  snap_ok g newest few =
      let may : ltb (snapshots_in l.taken g) snapshot_limit ≡ true =
      below (snapshots_in l.taken g) snapshot_limit (subst (λ (s : Shape). snapshots_in s.taken g < snapshot_limit) (sym e) few) in
      let told_so : snapshot_of (snapshots_in l.taken) (Some g) ≡ tells g = ap (λ b. cond b (tells g) (Err Spent)) may in (
        Answer.number g,
        record st { taken = counting g (snapshots_in l.taken g + 1) },
        (sym (ap (snapshot_of (snapshots_in l.taken)) (newest_as ∙ newest) ∙ told_so), record { taken = one_more g; rest = refl }),
      )

  pub unsnap_ok : (g : ℕ) → 0 < snapshots_in s.taken g → HasOk l session (Command.release_snapshot g)
  unsnap_ok g some =
      let has : ltb 0 (snapshots_in l.taken g) ≡ true = below 0 (snapshots_in l.taken g) (subst (λ (s : Shape). 0 < snapshots_in s.taken g) (sym e) some) in
      let taken : List Taken = counting g (snapshots_in l.taken g - 1) in
      let mid : State = record st { taken = taken; commits = commits_kept taken st.commits } in
      let due : cond (ltb 0 (snapshots_in l.taken g)) (tells (snapshots_in l.taken g - 1)) (Err NoSnapshot) ≡ tells (snapshots_in l.taken g - 1) =
      ap (λ b. cond b (tells (snapshots_in l.taken g - 1)) (Err NoSnapshot)) has in
      (Answer.number (snapshots_in l.taken g - 1), mid, (sym due, given (mid ≡ st) (ltb 0 (snapshots_in l.taken g)) has (record { taken = one_less g; rest = refl })))

-- ---- commits

-- a COMMIT that a device could stop has its OK due
stopped_ok : (policy : MergePolicy) (l new : Ledger) (session : ℕ) (text : Text) (r : Reply) → Err Device ≡ r
    → Calls policy l (line_of session (Command.commit (Ok text))) r new → HasOk l session (Command.commit (Ok text))
stopped_ok policy l new session text r is (inl k) = absurd (let no : ◌≡◌ {A = Reply} (Err Device) (tells k.0.next_generation) = is ∙ k.3 in cc)
stopped_ok policy l new session text r is (inr (inl (inl h, left, may))) = absurd (let no : ◌≡◌ {A = Reply} (Err Device) (Err Memory) = is ∙ h.0 in cc)
stopped_ok policy l new session text r is (inr (inl (inr h, left, may))) = (h.1.0, h.1.1.0, h.1.1.1)
stopped_ok policy l new session text r is (inr (inr k)) = absurd (let no : ◌≡◌ {A = Reply} (Err Device) (Err Spent) = is ∙ k.0 in cc)

pub commit_ok : (told : ToldFiles) (s : Shape) (session : ℕ) (text : Text) → s.next_generation ≤ last_number
    → IsOkDue told s session (Command.commit (Ok text))
commit_ok told s session text left = ok_carried told s session (Command.commit (Ok text)) (λ l files carries.
    let x = stopped_commits_answer any_policy told told s s session text Device left refl (nothing_is_left told told s s (refl, λ q. refl)) l files carries in
    stopped_ok any_policy l x.0 session text x.2 x.3.alike x.4)
  where
    any_policy : MergePolicy
    any_policy = record { factor = 0; least = 0 }

-- ---- maintenance

some_news : (c : Chore) → (n : News) × IsTrue (may_tell c n)
some_news Chore.merge = (News.idle, refl)
some_news Chore.force = (News.idle, refl)
some_news Chore.warm = (News.idle, refl)
some_news Chore.sweep = (News.swept 0, refl)
some_news Chore.stat = (News.state (record { writes = 0; buffered = 0; views = 0; cached = 0; pending = 0; segments = [] }), refl)

pub chore_ok : (told : ToldFiles) (s : Shape) (session : ℕ) (c : Chore) → session ≡ 0 → IsOkDue told s session (Command.chore c)
chore_ok told s session c zero = subst (λ n. IsOkDue told s n (Command.chore c)) (sym zero) (ok_shaped told s 0 (Command.chore c) (λ l e.
    let n = some_news c in (Answer.news n.0, state_of l, ((n.0, refl, n.1), refl))))

-- ---- what a read finds to which no refusal is due

module _ {X : Type 0} (given : Result X Refusal) (wants : given ≡ Err Memory) where
  pub other : (e : Refusal) → e ≢ Memory → given ≡ Err e → ⊥
  other e differs is = differs (same_refusal e Memory (sym is ∙ wants))
    where
      same_refusal : (a b : Refusal) → ◌≡◌ {A = Result X Refusal} (Err a) (Err b) → a ≡ b
      same_refusal a b e = cc

  page_found : (many sorts marks : Bool) (p : Found)
      → IfErr (cond many (Err Count) (cond sorts (cond marks (Ok p) (Err Mark)) (Err SortField))) (λ e. given ≡ Err e)
      → (found : Found) × (◌≡◌ {A = Result Found Refusal} (cond many (Err Count) (cond sorts (cond marks (Ok p) (Err Mark)) (Err SortField))) (Ok found))
  page_found true sorts marks p due = absurd (other Count (λ is. cc is) due)
  page_found false false marks p due = absurd (other SortField (λ is. cc is) due)
  page_found false true false p due = absurd (other Mark (λ is. cc is) due)
  page_found false true true p due = (p, refl)

  counts_found : (facet many : Bool) (p : Found)
      → IfErr (cond facet (cond many (Err Count) (Ok p)) (Err NotFacet)) (λ e. given ≡ Err e)
      → (found : Found) × (◌≡◌ {A = Result Found Refusal} (cond facet (cond many (Err Count) (Ok p)) (Err NotFacet)) (Ok found))
  counts_found false many p due = absurd (other NotFacet (λ is. cc is) due)
  counts_found true true p due = absurd (other Count (λ is. cc is) due)
  counts_found true false p due = (p, refl)

  -- the answer to a FIND whose refusals would have been given
  pub find_owed : (schema : Schema) (rs : List Record) (n : ℕ) (sort : Sort) (mark : Option ℕ) (q : Query)
      → IfErr (answer schema rs (Read.find n sort mark (Ok q))) (λ e. given ≡ Err e)
      → (found : Found) × (answer schema rs (Read.find n sort mark (Ok q)) ≡ Ok found)
  find_owed schema rs n sort mark q due =
      page_found (ltb page_limit n) (can_sort schema sort) (has_mark rs mark) (Found.page (page_of rs q sort mark n)) due

  -- and to a FACETS
  pub facets_owed : (schema : Schema) (rs : List Record) (dim : Text) (n : ℕ) (q : Query)
      → IfErr (answer schema rs (Read.facets dim n (Ok q))) (λ e. given ≡ Err e)
      → (found : Found) × (answer schema rs (Read.facets dim n (Ok q)) ≡ Ok found)
  facets_owed schema rs dim n q due =
      counts_found (is_facet_kind (kind_of schema dim)) (ltb page_limit n) (Found.facets (facets_in rs q dim n)) due
