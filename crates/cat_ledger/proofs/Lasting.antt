-- What keeps the newest commit: no call touches one of its files.
use Rattle.std.proofs.Common.{◌≡◌, ◌⊎◌, ℕ, ◌<◌, ◌≤◌, Bool, true, false, ◌||◌, List, [], ◌∷◌, map, filter, length, cond, Option, Some, None, refl, sym, ◌∙◌, ap, ap₂, subst, arith, inl, inr}
use Rattle.std.specs.Prelude.{ltb, option_map, ◌==◌}
use Rattle.std.specs.List.{flat_map, last_or, list_any, AllByRecursion}
use Rattle.cat_model.specs.CommitFile.{CommitFile, ListedSegment, commit_needs, listed_names}
use Rattle.cat_model.specs.Files.{Name}
use Rattle.cat_model.specs.Item.{Item, Schema}
use Rattle.cat_model.specs.Limits.{buffer_limit}
use Rattle.cat_model.specs.Run.{Chore, News}
use Rattle.cat_model.specs.State.{Taken, has_hold, snapshots_in, stays_kept}
use Rattle.cat_model.specs.Text.{Text}
use Rattle.cat_model.specs.Write.{Write}
use Rattle.cat_model.proofs.Commits.{is_newest-self}
use Rattle.cat_model.proofs.Lists.{All-weaken}
use Rattle.cat_model.proofs.Runs.{last_or-append}
use Rattle.cat_directory.specs.Devices.{FileContent, IsSettled, NoMore, Told}
use Rattle.cat_directory.specs.Names.{name_of}
use Rattle.cat_directory.specs.declared.name.FileName.{FileName}
use Rattle.cat_ledger_laws.specs.model.Calls.{Flushed, Flushes, MayLeave, RecordsNow, has_recorded, listed_in, wrote}
use Rattle.cat_ledger_laws.specs.model.Ledger as model
use Rattle.cat_ledger_laws.specs.model.Ledger.{IsNew, IsOther, IsPast, LedgerCommit, NotOf, commit_file, listed_segment, names_of_commit, names_of_merging, names_of_portion, names_of_view, names_used}
use Rattle.cat_ledger_laws.specs.model.Plans.{MergePolicy}
use Rattle.cat_ledger_laws.specs.model.Portions.{Merging}
use Rattle.cat_ledger_laws.specs.model.Replies.{IsLeft, Maintains}
use Rattle.cat_ledger_laws.specs.model.Users.{has_name, same_file_name, times, users_of}
use Rattle.cat_ledger_laws.proofs.model.Counted.{same_name_is}
use Rattle.cat_ledger_laws.proofs.model.Stored.{each_used}
use Rattle.cat_ledger_laws.proofs.model.Users.{All-four, All-split}
use Rattle.cat_ledger_laws.specs.shape.Shapes.{IsShape, ListedLive, Shape, listed_live, merging_shape, names_of_commits, shape_of}
use Rattle.cat_ledger_laws.specs.shape.CommitLaws.{names_begun}
use Rattle.cat_ledger_laws.specs.shape.Steps.{IsCommitted, Leaves, commit_file_now, newest_generation}
use Rattle.cat_ledger_laws.specs.shape.Ties.{Makes, ToldFiles, file_of}
use Rattle.cat_ledger_laws.proofs.shape.Told.{file_of_name, name_of_file}
use Rattle.cat_ledger_laws.proofs.shape.Committed.{commits_named}
use Rattle.cat_ledger_laws.proofs.shape.Leaves.{map_twice}
use Rattle.cat_ledger_laws.proofs.shape.Listed.{names_are_begun}
use Rattle.cat_ledger_laws.proofs.shape.Writes.{sweeps_make}
use Rattle.cat_ledger_laws.specs.lines.HoldLaws.{holding, letting_go}
use Rattle.cat_ledger_laws.specs.lines.LineLaws.{Puts, Refreshes}
use Rattle.cat_ledger_laws.proofs.lines.HoldAnswers.{closes_answer, opens_answer}
use Rattle.cat_ledger_state.specs.cat_commits.writing.Unsynced.{needed_by}
use Rattle.cat_ledger_state.specs.cat_commits.writing.Laws.{NeededAreSynced}
use Rattle.cat_ledger_state.specs.Commits.{names_synced}
use Rattle.cat_ledger_state.specs.Installs.{IsOfMerge}
use Rattle.cat_ledger.proofs.Made.{none_is}
use Rattle.cat_ledger.specs.Lasting.{AlwaysTells, IsCarried, IsLasting, needs_of, newest_needs}

abbrev segment_listed : ListedLive → ListedSegment
segment_listed x = record { number = x.number; file = x.file }

-- ---- the names of the newest commit

-- a name of the list is so, where all of them are
named : (P : Name → Type 0) (names : List Name) (q : Name) → AllByRecursion P names → has_name q names ≡ true → P q
named P [] q all e = absurd (let no : false ≡ true = e in cc)
named P (x ∷ xs) q all e = by (same_file_name q x) refl (named P xs q all.1) e
  where
    by : (b : Bool) → same_file_name q x ≡ b → (has_name q xs ≡ true → P q) → (b || has_name q xs) ≡ true → P q
    by true is rest k = subst P (sym (same_name_is q x is)) all.0
    by false is rest k = rest k

-- what is so of each name of commits is so of those of the newest
newest_among : (P : Name → Type 0) (o : Option CommitFile) (cs : List CommitFile) → AllByRecursion P (needs_of o) → AllByRecursion P (names_of_commits cs)
    → AllByRecursion P (needs_of (last_or o cs))
newest_among P o [] first all = first
newest_among P o (c ∷ cs) first all =
    let both = All-split P (commit_needs c) (names_of_commits cs) all in
    newest_among P (Some c) cs both.0 both.1

-- the same shape has the same newest commit
pub same_needs : (s s' : Shape) → s' ≡ s → newest_needs s'.commits ≡ newest_needs s.commits
same_needs s s' e = ap (λ (x : Shape). newest_needs x.commits) e

-- the number of the last is the last number
last_number : (o : Option CommitFile) (cs : List CommitFile)
    → last_or (option_map (λ (d : CommitFile). d.generation) o) (map (λ (d : CommitFile). d.generation) cs) ≡ option_map (λ (d : CommitFile). d.generation) (last_or o cs)
last_number o [] = refl
last_number o (d ∷ cs) = last_number (Some d) cs

-- the newest commit stays, whatever goes
module _ (taken : List Taken) where
  abbrev staying : Option ℕ → List CommitFile → List CommitFile
  staying newest cs = filter (λ (c : CommitFile). stays_kept taken newest c.generation) cs

  stays_last : (newest : Option ℕ) (o p : Option CommitFile) (c : CommitFile) (cs : List CommitFile)
      → newest ≡ last_or (Some c.generation) (map (λ (d : CommitFile). d.generation) cs)
      → last_or p (staying newest (c ∷ cs)) ≡ last_or o (c ∷ cs)
  stays_last newest o p c [] e =
      let yes : stays_kept taken newest c.generation ≡ true =
      ap (λ n. stays_kept taken n c.generation) e ∙ ap (λ b. b || ltb 0 (snapshots_in taken c.generation)) (is_newest-self c.generation) in
      ap (λ b. last_or p (cond b (c ∷ []) [])) yes
  stays_last newest o p c (d ∷ cs) e =
      by (stays_kept taken newest c.generation) (stays_last newest (Some c) (Some c) d cs e) (stays_last newest (Some c) p d cs e)
    where
      by : (b : Bool) → last_or (Some c) (staying newest (d ∷ cs)) ≡ last_or (Some c) (d ∷ cs) → last_or p (staying newest (d ∷ cs)) ≡ last_or (Some c) (d ∷ cs)
          → last_or p (cond b (c ∷ staying newest (d ∷ cs)) (staying newest (d ∷ cs))) ≡ last_or (Some c) (d ∷ cs)
      by true h k = h
      by false h k = k

  pub newest_stays : (cs : List CommitFile)
      → newest_needs (filter (λ (c : CommitFile). stays_kept taken (newest_generation cs) c.generation) cs) ≡ newest_needs cs
  newest_stays [] = refl
  newest_stays (c ∷ cs) = ap needs_of (stays_last (newest_generation (c ∷ cs)) None None c cs refl)

  -- with its number
  pub newest_same : (cs : List CommitFile)
      → newest_generation (filter (λ (c : CommitFile). stays_kept taken (newest_generation cs) c.generation) cs) ≡ newest_generation cs
  newest_same [] = refl
  newest_same (c ∷ cs) =
      last_number None (staying (newest_generation (c ∷ cs)) (c ∷ cs))
      ∙ ap (option_map (λ (d : CommitFile). d.generation)) (stays_last (newest_generation (c ∷ cs)) None None c cs refl)
      ∙ sym (last_number None (c ∷ cs))

-- ---- what holds of each of them

-- a name without the number of the merge in the making is none that it writes
not_of : (schema : Schema) (o : Option Merging) (n : Name) → NotOf o n → IsOfMerge (merging_shape schema o) (file_of n) → ⊥
not_of schema None n other of = of
not_of schema (Some m) n other of = elim of [ inl e ↦ segment n other (ap name_of e) | inr e ↦ source n other (ap name_of e) ]
  where
    segment : (n : Name) → IsOther m.number n → name_of (file_of n) ≡ Name.segment m.number → ⊥
    segment n other e = absurd (subst (IsOther m.number) (sym (name_of_file n) ∙ e) other refl)

    source : (n : Name) → IsOther m.number n → name_of (file_of n) ≡ Name.source m.number → ⊥
    source n other e = absurd (subst (IsOther m.number) (sym (name_of_file n) ∙ e) other refl)

module _ (s : Shape) (its : IsShape s) where
  abbrev IsNeeded : FileName → Type 0
  IsNeeded q = has_name (name_of q) (newest_needs s.commits) ≡ true

  -- what is so of each name that a commit of the ledger has
  newest_so : (P : Shape → Name → Type 0) → AllByRecursion (P (shape_of its.0)) (flat_map names_of_commit its.0.commits) → (q : FileName) → IsNeeded q
      → P s (name_of q)
  newest_so P all q needed =
      let l : model.Ledger = its.0 in
      let among : AllByRecursion (P (shape_of l)) (names_of_commits (map (commit_file l.schema) l.commits)) =
      subst (AllByRecursion (P (shape_of l))) (sym (commits_named l.schema l.commits)) all in
      named (P s) (newest_needs s.commits) (name_of q)
      (subst (λ (s : Shape). AllByRecursion (P s) (newest_needs s.commits)) its.1 (newest_among (P (shape_of l)) None (shape_of l).commits tt among)) needed

  -- it has a user
  pub newest_used : (q : FileName) → IsNeeded q → 0 < users_of s.users (name_of q)
  newest_used =
      let l : model.Ledger = its.0 in
      let used = All-four (λ n. 0 < users_of l.users n) (flat_map names_of_portion l.portions) (flat_map names_of_view l.views)
      (flat_map names_of_commit l.commits) (names_of_merging l.merging)
      (All-weaken (λ n. 0 < times n (names_used l)) (λ n. 0 < users_of l.users n) (λ n h. subst (λ k. 0 < k) (sym (its.2.users n)) h) (names_used l)
      (each_used [] (names_used l))) in
      newest_so (λ s n. 0 < users_of s.users n) used.commits

  -- its number was taken
  pub newest_old : (q : FileName) → IsNeeded q → IsNew s.next_segment s.next_generation (name_of q) → ⊥
  newest_old q needed =
      let l : model.Ledger = its.0 in
      let past = All-four (IsPast l.next_segment l.next_generation) (flat_map names_of_portion l.portions) (flat_map names_of_view l.views)
      (flat_map names_of_commit l.commits) (names_of_merging l.merging) its.2.fresh in
      past_old s.next_segment s.next_generation (name_of q)
      (newest_so (λ s n. IsPast s.next_segment s.next_generation n) past.commits q needed)
    where
      past_old : (n g : ℕ) (q : Name) → IsPast n g q → IsNew n g q → ⊥
      past_old n g (Name.segment m) past new = absurd (omega (arith, past.1, new))
      past_old n g (Name.source m) past new = absurd (omega (arith, past.1, new))
      past_old n g (Name.live m d) past new = absurd (omega (arith, past.1.1, new))
      past_old n g (Name.commit d) past new = absurd (omega (arith, past.1, new))

  -- it is none of the merge in the making
  newest_apart : (q : FileName) → IsNeeded q → IsOfMerge s.merging q → ⊥
  newest_apart q needed of =
      let l : model.Ledger = its.0 in
      newest_so (λ s n. IsOfMerge s.merging (file_of n) → ⊥)
      (All-weaken (NotOf l.merging) (λ n. IsOfMerge (merging_shape l.schema l.merging) (file_of n) → ⊥) (not_of l.schema l.merging)
      (flat_map names_of_commit l.commits) its.2.alone.commits)
      q needed (subst (IsOfMerge s.merging) (sym (file_of_name q)) of)

  -- no file of the newest commit is new, or of the merge in the making
  pub newest_spared : (left left' : FileName → FileContent → Type 0)
      → ((q : FileName) → (IsNew s.next_segment s.next_generation (name_of q) → ⊥) → (IsOfMerge s.merging q → ⊥) → NoMore (left q) (left' q))
      → (q : FileName) → IsNeeded q → NoMore (left q) (left' q)
  newest_spared left left' spares q needed = spares q (newest_old q needed) (newest_apart q needed)

-- ---- calls that change no commit

-- the commits and the fields are the same, and generations that were taken stay taken
pub record LetsCommits (l l' : model.Ledger) : Type 0 where
  pub commits : l'.commits ≡ l.commits
  pub schema : l'.schema ≡ l.schema
  pub next : l.next_generation ≤ l'.next_generation

no_less : {m n : ℕ} → n ≡ m → m ≤ n
no_less same = omega (arith, same)

lets_all : (l l' : model.Ledger) → l' ≡ l → LetsCommits l l'
lets_all l l' k = record { commits = ap (λ (x : model.Ledger). x.commits) k; schema = ap (λ (x : model.Ledger). x.schema) k; next = no_less (ap (λ (x : model.Ledger). x.next_generation) k) }

lets_on : (l mid l' : model.Ledger) → LetsCommits l mid → LetsCommits mid l' → LetsCommits l l'
lets_on l mid l' a b = record { commits = b.commits ∙ a.commits; schema = b.schema ∙ a.schema; next = omega (arith, a.next, b.next) }

pub lets_write : (w : Write) (l l' : model.Ledger) → l' ≡ wrote l w → LetsCommits l l'
lets_write w l l' k = record { commits = ap (λ (x : model.Ledger). x.commits) k; schema = ap (λ (x : model.Ledger). x.schema) k; next = no_less (ap (λ (x : model.Ledger). x.next_generation) k) }

lets_flushed : (l l' : model.Ledger) → Flushed l l' → LetsCommits l l'
lets_flushed l l' k = record { commits = ap (λ (x : model.Ledger). x.commits) k.rest; schema = ap (λ (x : model.Ledger). x.schema) k.rest; next = no_less (ap (λ (x : model.Ledger). x.next_generation) k.rest) }

pub lets_flush : (l l' : model.Ledger) → Flushes l l' → LetsCommits l l'
lets_flush l l' (inl k) = lets_all l l' k.1
lets_flush l l' (inr k) = lets_flushed l l' k

lets_room : (l l' : model.Ledger) (b : Bool) → cond b (l' ≡ l) (Flushed l l') → LetsCommits l l'
lets_room l l' true k = lets_all l l' k
lets_room l l' false k = lets_flushed l l' k

pub lets_put : (i : Item) (l l' : model.Ledger) → Puts i l l' → LetsCommits l l'
lets_put i l l' k = lets_on l k.0 l' (lets_room l k.0 (ltb (length l.buffered) buffer_limit) k.1) (lets_write (Write.put i) k.0 l' k.2)

lets_record : (l l' : model.Ledger) (b : Bool) → cond b (l' ≡ l) (RecordsNow l l') → LetsCommits l l'
lets_record l l' true k = lets_all l l' k
lets_record l l' false k = record { commits = ap (λ (x : model.Ledger). x.commits) k.rest; schema = ap (λ (x : model.Ledger). x.schema) k.rest; next = no_less (ap (λ (x : model.Ledger). x.next_generation) k.rest) }

pub lets_refresh : (l l' : model.Ledger) → Refreshes l l' → LetsCommits l l'
lets_refresh l l' k = lets_on l k.0 l' (lets_flush l k.0 k.1) (lets_record k.0 l' (has_recorded k.0.views k.0.count) k.2)

pub lets_left : (l l' : model.Ledger) → IsLeft l l' → LetsCommits l l'
lets_left l l' k = lets_on l k.flushed l' flushed (lets_on k.flushed k.ended l' ended rest)
  where
    flushed : LetsCommits l k.flushed
    flushed = elim k.flush [ inl e ↦ lets_all l k.flushed e | inr e ↦ lets_flushed l k.flushed e ]

    ended : LetsCommits k.flushed k.ended
    ended = elim k.merge [
      | inl e ↦ lets_all k.flushed k.ended e
      | inr e ↦ record { commits = ap (λ (x : model.Ledger). x.commits) e.1.rest; schema = ap (λ (x : model.Ledger). x.schema) e.1.rest; next = no_less (ap (λ (x : model.Ledger). x.next_generation) e.1.rest) }
    ]

    rest : LetsCommits k.ended l'
    rest = record { commits = ap (λ (x : model.Ledger). x.commits) k.rest.rest; schema = ap (λ (x : model.Ledger). x.schema) k.rest.rest; next = k.rest.generations }

pub lets_maintain : (policy : MergePolicy) (c : Chore) (n : News) (l l' : model.Ledger) → Maintains policy c n l l' → LetsCommits l l'
lets_maintain policy Chore.merge News.idle l l' k = lets_all l l' k.2
lets_maintain policy Chore.merge (News.begun_merge n) l l' k =
    record { commits = ap (λ (x : model.Ledger). x.commits) k.3.rest; schema = ap (λ (x : model.Ledger). x.schema) k.3.rest; next = no_less (ap (λ (x : model.Ledger). x.next_generation) k.3.rest) }
lets_maintain policy Chore.merge (News.copied n) l l' k =
    record { commits = ap (λ (x : model.Ledger). x.commits) k.1.rest; schema = ap (λ (x : model.Ledger). x.schema) k.1.rest; next = no_less (ap (λ (x : model.Ledger). x.next_generation) k.1.rest) }
lets_maintain policy Chore.merge News.done l l' k =
    record { commits = ap (λ (x : model.Ledger). x.commits) k.1.rest; schema = ap (λ (x : model.Ledger). x.schema) k.1.rest; next = no_less (ap (λ (x : model.Ledger). x.next_generation) k.1.rest) }
lets_maintain policy Chore.force News.idle l l' k = lets_all l l' k.2
lets_maintain policy Chore.force News.busy l l' k = lets_all l l' k.1
lets_maintain policy Chore.force (News.begun_merge n) l l' k =
    record { commits = ap (λ (x : model.Ledger). x.commits) k.2.rest; schema = ap (λ (x : model.Ledger). x.schema) k.2.rest; next = no_less (ap (λ (x : model.Ledger). x.next_generation) k.2.rest) }
lets_maintain policy Chore.sweep (News.swept n) l l' k =
    record { commits = ap (λ (x : model.Ledger). x.commits) k.rest; schema = ap (λ (x : model.Ledger). x.schema) k.rest; next = k.generations }
lets_maintain policy c n l l' k = lets_all l l' k.1

pub lets_sweep : (l l' : model.Ledger) → MayLeave [] l l' → LetsCommits l l'
lets_sweep l l' k =
    record { commits = ap (λ (x : model.Ledger). x.commits) k.rest; schema = ap (λ (x : model.Ledger). x.schema) k.rest; next = k.generations }

-- ---- what a call keeps

pub carried_shape : (told : ToldFiles) (s : Shape) → IsCarried told s → IsShape s
carried_shape told s k = (k.0, k.2.shape, k.2.sound)

pub carried_on : (call : model.Ledger → model.Ledger → Type 0) (told told' : ToldFiles) (s s' : Shape) → Makes call told s told' s' → IsCarried told s → IsCarried told' s'
carried_on call told told' s s' makes k = let next = makes k.0 k.1 k.2 in (next.0, next.1, next.3)

-- memory has the same commits, where the model has,
pub commits_on : (call : model.Ledger → model.Ledger → Type 0) → ((l l' : model.Ledger) → call l l' → LetsCommits l l') → (told told' : ToldFiles) (s s' : Shape)
    → Makes call told s told' s' → IsCarried told s → s'.commits ≡ s.commits
commits_on call lets told told' s s' makes k =
    let next = makes k.0 k.1 k.2 in
    let same = lets k.0 next.0 next.2 in
    ap (λ (x : Shape). x.commits) (sym next.3.shape)
    ∙ ap₂ (λ (schema : Schema) (cs : List LedgerCommit). map (commit_file schema) cs) same.schema same.commits
    ∙ ap (λ (x : Shape). x.commits) k.2.shape

-- and its generations go up
pub next_on : (call : model.Ledger → model.Ledger → Type 0) → ((l l' : model.Ledger) → call l l' → LetsCommits l l') → (told told' : ToldFiles) (s s' : Shape)
    → Makes call told s told' s' → IsCarried told s → s.next_generation ≤ s'.next_generation
next_on call lets told told' s s' makes k =
    let next = makes k.0 k.1 k.2 in
    let less = (lets k.0 next.0 next.2).next in
    let was = ap (λ (x : Shape). x.next_generation) k.2.shape in
    let is = ap (λ (x : Shape). x.next_generation) next.3.shape in
    omega (arith, less, was, is)

module _ {D : Type 0} (bytes : D → ToldFiles) (left : D → FileName → FileContent → Type 0)
    (stay : (d : D) (q : FileName) (e : FileContent) → bytes d q ≡ Some e → left d q e) where
  -- a file that was settled stays so, where a crash leaves no more of it
  settled_still : (d d' : D) (q : FileName) → AlwaysTells bytes → IsSettled (bytes d q) (left d q) → NoMore (left d q) (left d' q) → IsSettled (bytes d' q) (left d' q)
  settled_still d d' q tells settled less now e after might = by (bytes d q) refl
    where
      by : (t : Told) → bytes d q ≡ t → e ≡ now
      by None none = absurd (tells d q none)
      by (Some was) told = settled was e told (less e might) ∙ sym (settled was now told (less now (stay d' q now after)))

  -- what is kept is kept, where a crash leaves no more of the newest commit's files, and that is the same one
  pub kept_still : (d d' : D) (s s' : Shape) → IsCarried (bytes d') s' → newest_needs s'.commits ≡ newest_needs s.commits
      → ((q : FileName) → has_name (name_of q) (newest_needs s.commits) ≡ true → NoMore (left d q) (left d' q))
      → IsLasting bytes left d s → IsLasting bytes left d' s'
  kept_still d d' s s' carried same spared kept = record {
    carried = carried;
    lasts = λ tells q needed.
        let before = subst (λ ns. has_name (name_of q) ns ≡ true) same needed in
        settled_still d d' q tells (kept.lasts tells q before) (spared q before);
  }

  -- so it is after a call that changes no commit, and spares all files but new ones and those of the merge in the making
  pub call_keeps : (call : model.Ledger → model.Ledger → Type 0) → ((l l' : model.Ledger) → call l l' → LetsCommits l l') → (d d' : D) (s s' : Shape) → Makes call (bytes d) s (bytes d') s'
      → ((q : FileName) → (IsNew s.next_segment s.next_generation (name_of q) → ⊥) → (IsOfMerge s.merging q → ⊥) → NoMore (left d q) (left d' q))
      → IsLasting bytes left d s → IsLasting bytes left d' s'
  call_keeps call lets d d' s s' makes spares kept =
      kept_still d d' s s' (carried_on call (bytes d) (bytes d') s s' makes kept.carried)
      (ap newest_needs (commits_on call lets (bytes d) (bytes d') s s' makes kept.carried))
      (newest_spared s (carried_shape (bytes d) s kept.carried) (left d) (left d') spares) kept

  -- or that changes no file
  pub memory_keeps : (call : model.Ledger → model.Ledger → Type 0) (d : D) (s s' : Shape) → newest_needs s'.commits ≡ newest_needs s.commits
      → Makes call (bytes d) s (bytes d) s' → IsLasting bytes left d s → IsLasting bytes left d s'
  memory_keeps call d s s' same makes kept =
      kept_still d d s s' (carried_on call (bytes d) (bytes d) s s' makes kept.carried) same (λ q needed e might. might) kept

  -- or neither memory nor a file, nor lets a crash leave more
  pub reading_keeps : (d d' : D) (s : Shape) → ((q : FileName) → bytes d' q ≡ bytes d q) → ((q : FileName) → NoMore (left d q) (left d' q))
      → IsLasting bytes left d s → IsLasting bytes left d' s
  reading_keeps d d' s same spared kept =
      kept_still d d' s s (subst (λ (told : ToldFiles). IsCarried told s) (λ i q. sym (same q) i) kept.carried) refl (λ q needed. spared q) kept

  -- a sweep touches no file that has users
  pub sweep_keeps : (d d' : D) (s s' : Shape) → Leaves [] s s' → ((q : FileName) → 0 < users_of s.users (name_of q) → bytes d' q ≡ bytes d q)
      → ((q : FileName) → 0 < users_of s.users (name_of q) → NoMore (left d q) (left d' q)) → IsLasting bytes left d s → IsLasting bytes left d' s'
  sweep_keeps d d' s s' swept used spared kept =
      kept_still d d' s s' (carried_on (MayLeave []) (bytes d) (bytes d') s s' (sweeps_make s s' (bytes d) (bytes d') swept used) kept.carried)
      (same_needs _ _ swept.rest)
      (λ q needed. spared q (newest_used s (carried_shape (bytes d) s kept.carried) q needed)) kept

  -- What was opened lasts once it was swept, where the files that it uses were settled.
  pub opened_lasts : (d d' d'' : D) (s s' : Shape) → IsShape s → IsCarried (bytes d'') s' → Leaves [] s s'
      → ((q : FileName) → 0 < users_of s.users (name_of q) → IsSettled (bytes d q) (left d' q))
      → ((q : FileName) → 0 < users_of s.users (name_of q) → bytes d'' q ≡ bytes d q)
      → ((q : FileName) → 0 < users_of s.users (name_of q) → NoMore (left d' q) (left d'' q))
      → IsLasting bytes left d'' s'
  opened_lasts d d' d'' s s' its carried swept settled used spared = record {
    carried = carried;
    lasts = λ tells q needed now e after might.
        let some = newest_used s its q (subst (λ (x : Shape). has_name (name_of q) (newest_needs x.commits) ≡ true) swept.rest needed) in
        settled q some now e (sym (used q some) ∙ after) (spared q some e might);
  }

-- ---- holds

-- what is carried is carried with a hold more, of a view that is recorded,
pub held_carried : (policy : MergePolicy) (told : ToldFiles) (s s' : Shape) (session t : ℕ) → list_any (λ v. v.token == t) s.views ≡ true
    → s' ≡ holding session t s → IsCarried told s → IsCarried told s'
held_carried policy told s s' session t there same k =
    let next = opens_answer policy told told s s' session t there same (λ q. refl) k.0 k.1 k.2 in (next.0, next.1, next.5)

-- or without one that there was
pub let_go_carried : (policy : MergePolicy) (told : ToldFiles) (s s' : Shape) (session t : ℕ) → has_hold s.holds session t ≡ true
    → s' ≡ letting_go session t s → IsCarried told s → IsCarried told s'
let_go_carried policy told s s' session t held same k =
    let next = closes_answer policy told told s s' session t held same (λ q. refl) k.0 k.1 k.2 in (next.0, next.1, next.5)

-- ---- a commit

-- the name stands in the second list, so in both one behind the other
in_second : (a b : Bool) → b ≡ true → (a || b) ≡ true
in_second true b e = refl
in_second false b e = e

-- the files of what the newest commit lists are files that it needs
newest_lists : (schema : Schema) (o : Option LedgerCommit) (cs : List LedgerCommit) (n : Name) → has_name n (needed_by (map listed_live (listed_in (last_or o cs)))) ≡ true
    → has_name n (needs_of (last_or (option_map (commit_file schema) o) (map (commit_file schema) cs))) ≡ true
newest_lists schema None [] n e = absurd (let no : false ≡ true = e in cc)
newest_lists schema (Some c) [] n e =
    in_second (same_file_name n (Name.commit c.generation)) (has_name n (flat_map listed_names (map listed_segment c.listed)))
    (subst (λ (xs : List ListedSegment). has_name n (flat_map listed_names xs) ≡ true) (map_twice listed_live segment_listed c.listed) e)
newest_lists schema o (c ∷ cs) n e = newest_lists schema (Some c) cs n e

listed_needed : (s : Shape) → IsShape s → (n : Name) → has_name n (needed_by s.listed) ≡ true → has_name n (newest_needs s.commits) ≡ true
listed_needed s its n =
    subst (λ (s : Shape). has_name n (needed_by s.listed) ≡ true → has_name n (newest_needs s.commits) ≡ true) its.1
    (newest_lists its.0.schema None its.0.commits n)

-- what a commit of now needs is synced with it, or the newest one needs it too
pub now_needs : NeededAreSynced → (text : Text) (s : Shape) → IsShape s → (n : Name) → has_name n (commit_needs (commit_file_now text s)) ≡ true
    → (has_name n (Name.commit s.next_generation ∷ names_synced s) ≡ true) ⊎ (has_name n (newest_needs s.commits) ≡ true)
now_needs law text s its n needed =
    elim (law s.listed s.leaves (record { generation = s.next_generation; token = s.count; next_segment = s.next_segment; text = text; schema = s.schema }) n needed) [
      | inl synced ↦ inl synced
      | inr before ↦ inr (listed_needed s its n before)
    ]

module _ {D : Type 0} (bytes : D → ToldFiles) (left : D → FileName → FileContent → Type 0)
    (stay : (d : D) (q : FileName) (e : FileContent) → bytes d q ≡ Some e → left d q e) where
  -- A commit of now lasts, where what is synced with it is settled, and nothing more may be left of any other file but those that it begins.
  pub commit_lasts : NeededAreSynced → (text : Text) (d d' : D) (s s' : Shape) → IsCommitted text s s' → IsCarried (bytes d') s'
      → ((q : FileName) → has_name (name_of q) (Name.commit s.next_generation ∷ names_synced s) ≡ true → IsSettled (bytes d' q) (left d' q))
      → ((q : FileName) → has_name (name_of q) (names_begun s) ≡ false → NoMore (left d q) (left d' q))
      → IsLasting bytes left d s → IsLasting bytes left d' s'
  commit_lasts law text d d' s s' committed carried settled spared kept = record {
    carried = carried;
    lasts = λ tells q needed.
        let its = carried_shape (bytes d) s kept.carried in
        let now : newest_needs s'.commits ≡ commit_needs (commit_file_now text s) =
        ap (λ (x : Shape). newest_needs x.commits) committed.rest ∙ ap needs_of (last_or-append None (filter (λ (c : CommitFile). stays_kept s.taken (Some s.next_generation) c.generation) s.commits) (commit_file_now text s)) in
        elim (now_needs law text s its (name_of q) (subst (λ ns. has_name (name_of q) ns ≡ true) now needed)) [
          | inl synced ↦ settled q synced
          | inr before ↦ settled_still bytes left stay d d' q tells (kept.lasts tells q before)
              (spared q (none_is s.next_segment s.next_generation (names_begun s) (name_of q) (names_are_begun text s its).new (newest_old s its q before)))
        ];
  }
