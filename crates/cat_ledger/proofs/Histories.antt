-- What calls in a row leave of commits.
use Rattle.std.proofs.Common.{◌≡◌, ◌⊎◌, ℕ, ◌<◌, ◌≤◌, Bool, true, false, ◌||◌, cond, List, [], ◌∷◌, ◌++◌, map, filter, Option, Some, None, refl, sym, ◌∙◌, ap, ap₂, subst, arith, inl, inr}
use Rattle.std.specs.Prelude.{◌≢◌, ◌==◌, option_map, IfSome, IfOk, OnOk, OnErr, Result, Ok, Err}
use Rattle.std.specs.List.{flat_map, last_or, AllByRecursion}
use Rattle.std.proofs.lemmas.Bool.{cases_lt}
use Rattle.std.proofs.lemmas.List.Elements.{All-from_recursion, recursion_from_All}
use Rattle.cat_base.specs.declared.refusal.Refusal.{Refusal}
use Rattle.cat_model.specs.CommitFile.{CommitFile, commit_needs, listed_names}
use Rattle.cat_model.specs.Files.{Name}
use Rattle.cat_model.specs.Item.{Schema}
use Rattle.cat_model.specs.State.{stays_kept}
use Rattle.cat_model.specs.Text.{Text}
use Rattle.cat_directory.specs.Devices.{FileContent, IsSettled, NoMore, OrGone, Told}
use Rattle.cat_directory.specs.Names.{name_of}
use Rattle.cat_directory.specs.declared.name.FileName.{FileName}
use Rattle.cat_directory.specs.declared.name.FileName.TheVariants as file
use Rattle.cat_ledger_laws.specs.model.Ledger as model
use Rattle.cat_ledger_laws.specs.model.Ledger.{IsNew, LedgerCommit, commit_file}
use Rattle.cat_ledger_laws.specs.model.Plans as plans
use Rattle.cat_ledger_laws.specs.model.Stored.{FileBytes, IsCommitStored}
use Rattle.cat_ledger_laws.specs.model.Taking.{TakesOn}
use Rattle.cat_ledger_laws.specs.model.Users.{has_name, same_file_name}
use Rattle.cat_ledger_laws.proofs.model.Counted.{same_name_is}
use Rattle.cat_ledger_laws.specs.shape.CommitLaws.{names_begun}
use Rattle.cat_ledger_laws.specs.shape.Shapes.{ListedLive, Shape}
use Rattle.cat_ledger_laws.specs.shape.Steps.{IsCommitted, Leaves, commit_file_now, listed_now, newest_generation}
use Rattle.cat_ledger_laws.specs.shape.Ties.{IsTold, Makes, ToldFiles}
use Rattle.cat_ledger_laws.specs.shape.Tried.{IsFreshAhead, IsTriedCommit, LeavesTried, SparesTaken, TriedCommit}
use Rattle.cat_ledger_laws.proofs.shape.Told.{same_again}
use Rattle.cat_ledger_laws.proofs.shape.Tried.{tried_stay}
use Rattle.cat_ledger_laws.specs.lines.LineLaws.{Commits}
use Rattle.cat_ledger_laws.specs.lines.TriedLaws.{IsPromisedBy}
use Rattle.cat_ledger_state.specs.Cores.{flush_begins, is_begun}
use Rattle.cat_ledger_state.specs.Installs.{IsOfMerge}
use Rattle.cat_ledger_state.specs.startup.Opened.{HasOpened}
use Rattle.cat_ledger.specs.upkeep.Spared.{SparesCommits}
use Rattle.cat_ledger.specs.Histories.{Call, Event, FoundIsTaken, FoundIsTried, Goes, GoesOn, GoesRefused, IsAnswered, IsCrashed, IsHistory, IsLastAnswered, IsPastNewest, IsTried, IsUnanswered, LeavesNoneAhead, MayHaveTried, NewestIsAnswered, NewestIsFound, NoneIsAhead, NoneIsLost, SparesOtherCommits, events_of, newest_after, newest_commit_in, image_tells}
use Rattle.cat_ledger.specs.Lasting.{AlwaysTells, IsCarried, IsLasting, NewestLasts, needs_of, newest_needs}
use Rattle.cat_ledger.specs.Ledgers.{LedgerOnDevice, device_in, shape_in}
use Rattle.cat_ledger.proofs.Lasting.{LetsCommits, carried_shape, commits_on, newest_old, next_on}
use Rattle.cat_ledger.proofs.Taken.{call_spared, files_spared, still_spared, takes_commit}

abbrev generation_of : CommitFile → ℕ
generation_of c = c.generation

-- ---- the newest commit's own file

or_true : (b c : Bool) → b ≡ true → (b || c) ≡ true
or_true true c e = refl
or_true false c e = absurd (let no : false ≡ true = e in cc)

own_named : (c : CommitFile) → has_name (Name.commit c.generation) (commit_needs c) ≡ true
own_named c =
    or_true (same_file_name (Name.commit c.generation) (Name.commit c.generation)) (has_name (Name.commit c.generation) (flat_map listed_names c.segments))
    (same_again (Name.commit c.generation))

-- the newest commit needs it
own_last : (o : Option CommitFile) (cs : List CommitFile) (n : ℕ) → last_or (option_map generation_of o) (map generation_of cs) ≡ Some n
    → has_name (Name.commit n) (needs_of (last_or o cs)) ≡ true
own_last None [] n e = absurd (let no : None ≡ Some n = e in cc)
own_last (Some c) [] n e =
    let is : Some c.generation ≡ Some n = e in
    let same : c.generation ≡ n = cc in
    subst (λ m. has_name (Name.commit m) (commit_needs c) ≡ true) same (own_named c)
own_last o (c ∷ cs) n e = own_last (Some c) cs n e

pub own_needed : (s : Shape) (n : ℕ) → newest_generation s.commits ≡ Some n → has_name (Name.commit n) (newest_needs s.commits) ≡ true
own_needed s n e = own_last None s.commits n e

-- it stands, where the files of all commits do
stored_last : (files : FileBytes) (schema : Schema) (o : Option LedgerCommit) (cs : List LedgerCommit) (n : ℕ) → IfSome o (IsCommitStored files schema)
    → AllByRecursion (IsCommitStored files schema) cs
    → last_or (option_map (λ (c : LedgerCommit). c.generation) o) (map generation_of (map (commit_file schema) cs)) ≡ Some n
    → (bytes : Text) × (files (Name.commit n) ≡ Some bytes)
stored_last files schema None [] n first all e = absurd (let no : None ≡ Some n = e in cc)
stored_last files schema (Some c) [] n first all e =
    let is : Some c.generation ≡ Some n = e in
    let same : c.generation ≡ n = cc in
    (first.commit.bytes, subst (λ m. files (Name.commit m) ≡ Some first.commit.bytes) same first.commit.there)
stored_last files schema o (c ∷ cs) n first all e = stored_last files schema (Some c) cs n all.0 all.1 e

-- so the device tells of it, where it tells of files
own_told : (told : ToldFiles) (s : Shape) (n : ℕ) → IsCarried told s → newest_generation s.commits ≡ Some n → (content : FileContent)
    → told (file.Commit n) ≡ Some content → (bytes : Text) × (content ≡ Some bytes)
own_told told s n k e content is =
    let l : model.Ledger = k.0 in
    let files : FileBytes = k.1 in
    let stands = stored_last files l.schema None l.commits n tt k.2.stored.commits (ap (λ (x : Shape). newest_generation x.commits) k.2.shape ∙ e) in
    let agrees : IsTold (Some content) (files (Name.commit n)) = subst (λ (t : Told). IsTold t (files (Name.commit n))) is (k.2.agrees (Name.commit n)) in
    (stands.0, agrees ∙ stands.1)

-- a commit that comes next is past the newest one
pub comes_past : (told : ToldFiles) (s : Shape) → IsCarried told s → IsPastNewest (newest_generation s.commits) s.next_generation
comes_past told s k = by (newest_generation s.commits) refl
  where
    by : (o : Option ℕ) → newest_generation s.commits ≡ o → IsPastNewest o s.next_generation
    by None e = tt
    by (Some n) e = elim (cases_lt n s.next_generation) [
      | inl less ↦ less
      | inr more ↦ absurd (newest_old s (carried_shape told s k) (file.Commit n) (own_needed s n e) more)
    ]

-- what the asked generation is
asked_next : (told : ToldFiles) (s : Shape) → IsCarried told s → (g : ℕ) → g ≡ s.next_generation
    → (g ≡ s.next_generation) × IsPastNewest (newest_generation s.commits) g
asked_next told s carried g same = (same, subst (λ n. IsPastNewest (newest_generation s.commits) n) (sym same) (comes_past told s carried))

-- the last commit is the one that was put behind the others
newest_last : (o : Option ℕ) (cs : List CommitFile) (c : CommitFile) → last_or o (map generation_of (cs ++ c ∷ [])) ≡ Some c.generation
newest_last o [] c = refl
newest_last o (d ∷ cs) c = newest_last (Some d.generation) cs c

pub newest_put : (cs : List CommitFile) (c : CommitFile) → newest_generation (cs ++ c ∷ []) ≡ Some c.generation
newest_put cs c = newest_last None cs c

-- what memory has that a commit was put to
pub newest_committed : (text : Text) (s s' : Shape) (g : ℕ) → IsCommitted text s s' → g ≡ s.next_generation → newest_generation s'.commits ≡ Some g
newest_committed text s s' g committed number =
    ap (λ (x : Shape). newest_generation x.commits) committed.rest
    ∙ newest_put (filter (λ (c : CommitFile). stays_kept s.taken (Some s.next_generation) c.generation) s.commits) (commit_file_now text s)
    ∙ ap (λ n. Some n) (sym number)

pub next_committed : (text : Text) (n : ℕ) (s s' : Shape) → IsCommitted text s s' → s.next_generation ≡ n → n < s'.next_generation
next_committed text n s s' committed same = omega (arith, same, ap (λ (x : Shape). x.next_generation) committed.rest)

-- ---- files of commits

-- a flush begins none,
pub flush_spares : (s : Shape) (could can : FileName → FileContent → Type 0) → ((q : FileName) → is_begun (flush_begins s) q ≡ false → NoMore (could q) (can q))
    → SparesCommits could can
flush_spares s could can crash g = crash (file.Commit g) refl

-- and a commit its own alone
none_live : (g n : ℕ) (xs : List ListedLive)
    → has_name (Name.commit g) (flat_map (λ (x : ListedLive). cond (x.file == n) (Name.live x.number x.file ∷ []) []) xs) ≡ false
none_live g n [] = refl
none_live g n (x ∷ xs) = by (x.file == n) (none_live g n xs)
  where
    rest : List Name
    rest = flat_map (λ (x : ListedLive). cond (x.file == n) (Name.live x.number x.file ∷ []) []) xs

    by : (b : Bool) → has_name (Name.commit g) rest ≡ false → has_name (Name.commit g) (cond b (Name.live x.number x.file ∷ []) [] ++ rest) ≡ false
    by true e = e
    by false e = e

other_number : (g n : ℕ) → g ≢ n → (g == n) ≡ false
other_number g n other = by (g == n) refl
  where
    by : (b : Bool) → (g == n) ≡ b → (g == n) ≡ false
    by true e = absurd (other (let same : Name.commit g ≡ Name.commit n = same_name_is (Name.commit g) (Name.commit n) e in cc))
    by false e = e

pub commit_spares_others : (s : Shape) (n : ℕ) (could can : FileName → FileContent → Type 0) → s.next_generation ≡ n
    → ((q : FileName) → is_begun (names_begun s) q ≡ false → NoMore (could q) (can q)) → SparesOtherCommits n could can
commit_spares_others s n could can same crash g other =
    crash (file.Commit g) (ap₂ (λ (a b : Bool). a || b) (other_number g s.next_generation (λ e. other (e ∙ same))) (none_live g s.next_generation (listed_now s)))

-- ---- results

-- what a commit's answer says of its generation
pub if_answered : (A : Type 0) (P : ℕ → Type 0) (n next : ℕ) (newest : Option ℕ) (r : Result ℕ Refusal) → IfOk r (λ g. g ≡ n) → IfOk r (λ g. newest ≡ Some g) → OnOk r (n < next)
    → OnOk r A → ((g : ℕ) → g ≡ n → newest ≡ Some g → n < next → A → P g) → IfOk r P
if_answered A P n next newest (Ok g) number is more made f = f g number is more made
if_answered A P n next newest (Err e) number is more made f = tt

pub on_both : {X E A B C : Type 0} (r : Result X E) → (A → B → C) → OnErr r A → OnErr r B → OnErr r C
on_both (Ok x) f a b = tt
on_both (Err e) f a b = f a b

-- ---- calls

-- no commit was tried
other_none : (t : TriedCommit) → Event.Other ≡ Event.Refused t → ⊥
other_none t e = cc

answered_none : (g : ℕ) (t : TriedCommit) → Event.Answered g ≡ Event.Refused t → ⊥
answered_none g t e = cc

-- or this one
one_tried : (t u : TriedCommit) → Event.Refused t ≡ Event.Refused u → t ≡ u
one_tried t u e = cc

module _ {D : Type 0} (bytes : D → ToldFiles) (left : D → FileName → FileContent → Type 0) where
  -- a call that does nothing
  pub nothing_goes : (l : LedgerOnDevice D) → Goes bytes left Event.Other l l
  nothing_goes l = record {
    newest = refl;
    next = omega arith;
    asked = λ g no. absurd no;
    taken = λ g no. absurd no;
    files = λ g other e after. inl after;
    spared = still_spared (left (device_in l)) (left (device_in l)) (shape_in l) (shape_in l) refl refl refl (λ q e after. after);
    tried = λ t no. absurd (other_none t no);
  }

  pub nothing_goes_on : (l : LedgerOnDevice D) → GoesOn bytes left l l
  nothing_goes_on l = record { history = nothing_goes l; policy = refl }

  -- the policy stays beside what a call makes of commits
  pub goes_so : {d d' : D} {s s' : Shape} {policy : plans.MergePolicy}
      → Goes bytes left Event.Other (record { device = d; core = s; policy = policy }) (record { device = d'; core = s'; policy = policy })
      → GoesOn bytes left (record { device = d; core = s; policy = policy }) (record { device = d'; core = s'; policy = policy })
  goes_so goes = record { history = goes; policy = refl }

  -- a call that leaves the files, the commits, the numbers and the merge in the making as they are,
  pub memory_goes : (d : D) (s s' : Shape) (policy policy' : plans.MergePolicy) → newest_generation s'.commits ≡ newest_generation s.commits
      → s'.next_generation ≡ s.next_generation → s'.next_segment ≡ s.next_segment → s'.merging ≡ s.merging
      → Goes bytes left Event.Other (record { device = d; core = s; policy = policy }) (record { device = d; core = s'; policy = policy' })
  memory_goes d s s' policy policy' commits same segments merging = record {
    newest = commits;
    next = omega (arith, same);
    asked = λ g no. absurd no;
    taken = λ g no. absurd no;
    files = λ g other e after. inl after;
    spared = still_spared (left d) (left d) s s' segments same merging (λ q e after. after);
    tried = λ t no. absurd (other_none t no);
  }

  -- or memory as it is, where a crash leaves no more,
  pub reading_goes : (d d' : D) (s : Shape) (policy policy' : plans.MergePolicy) → ((q : FileName) → NoMore (left d q) (left d' q))
      → Goes bytes left Event.Other (record { device = d; core = s; policy = policy }) (record { device = d'; core = s; policy = policy' })
  reading_goes d d' s policy policy' crash = record {
    newest = refl;
    next = omega arith;
    asked = λ g no. absurd no;
    taken = λ g no. absurd no;
    files = λ g other e after. inl (crash (file.Commit g) e after);
    spared = still_spared (left d) (left d') s s refl refl refl crash;
    tried = λ t no. absurd (other_none t no);
  }

  module _ (call : model.Ledger → model.Ledger → Type 0) (lets : (l l' : model.Ledger) → call l l' → LetsCommits l l')
      (takes : (l l' : model.Ledger) → call l l' → TakesOn l l') (d d' : D) (s s' : Shape) (policy policy' : plans.MergePolicy)
      (makes : Makes call (bytes d) s (bytes d') s') (carried : IsCarried (bytes d) s) where
    -- or makes of each ledger one with the same commits, and leaves files as they are or takes them away
    pub gone_goes : ((q : FileName) → OrGone (left d q) (left d' q))
        → Goes bytes left Event.Other (record { device = d; core = s; policy = policy }) (record { device = d'; core = s'; policy = policy' })
    gone_goes back = record {
      newest = ap newest_generation (commits_on call lets (bytes d) (bytes d') s s' makes carried);
      next = next_on call lets (bytes d) (bytes d') s s' makes carried;
      asked = λ g no. absurd no;
      taken = λ g no. absurd no;
      files = λ g other. back (file.Commit g);
      spared = call_spared (left d) (left d') call takes (bytes d) (bytes d') s s' makes carried (λ q old apart. back q);
      tried = λ t no. absurd (other_none t no);
    }

    module _ (crash : (q : FileName) → (IsNew s.next_segment s.next_generation (name_of q) → ⊥) → (IsOfMerge s.merging q → ⊥) → NoMore (left d q) (left d' q)) where
      taken_spared : SparesTaken (left d) (left d') s s'
      taken_spared = call_spared (left d) (left d') call takes (bytes d) (bytes d') s s' makes carried (files_spared (left d) (left d') s crash)

      -- or spares those of commits, and those whose number was taken, but for those of the merge in the making
      pub call_goes : SparesCommits (left d) (left d')
          → Goes bytes left Event.Other (record { device = d; core = s; policy = policy }) (record { device = d'; core = s'; policy = policy' })
      call_goes spared = record {
        newest = ap newest_generation (commits_on call lets (bytes d) (bytes d') s s' makes carried);
        next = next_on call lets (bytes d) (bytes d') s s' makes carried;
        asked = λ g no. absurd no;
        taken = λ g no. absurd no;
        files = λ g other e after. inl (spared g e after);
        spared = taken_spared;
        tried = λ t no. absurd (other_none t no);
      }

      -- a commit that is refused, whose generation is taken
      refused_goes : (t : TriedCommit) → t.commit.generation ≡ s.next_generation → s.next_generation < s'.next_generation
          → SparesOtherCommits s.next_generation (left d) (left d')
          → (AlwaysTells bytes → (IsFreshAhead (left d) s → IsTriedCommit (left d') s' t) × IsPromisedBy (bytes d) s t)
          → Goes bytes left (Event.Refused t) (record { device = d; core = s; policy = policy }) (record { device = d'; core = s'; policy = policy' })
      refused_goes t number next spared tries = record {
        newest = ap newest_generation (commits_on call lets (bytes d) (bytes d') s s' makes carried);
        next = omega (arith, next);
        asked = λ g same. asked_next (bytes d) s carried g (same ∙ number);
        taken = λ g same. omega (arith, same, number, next);
        files = λ g other e after. inl (spared g (λ is. other (is ∙ sym number)) e after);
        spared = taken_spared;
        tried = λ u is always.
            subst (λ (v : TriedCommit). (IsFreshAhead (left d) s → IsTriedCommit (left d') s' v) × IsPromisedBy (bytes d) s v) (one_tried t u is) (tries always);
      }

      -- whether it has tried one, or began no file
      pub refused_or_other : (text : Text) → MayHaveTried bytes left text d s d' s' → SparesOtherCommits s.next_generation (left d) (left d')
          → IsLasting bytes left d s
          → GoesRefused bytes left text (record { device = d; core = s; policy = policy }) (record { device = d'; core = s'; policy = policy' })
      refused_or_other text (inl kept) spared lasts = inl (call_goes kept)
      refused_or_other text (inr k) spared lasts = inr (k.0, k.1, refused_goes k.0 k.2 k.3 spared (k.4 lasts))

  -- and one that is answered
  pub answered_goes : (text : Text) (d d' : D) (s s' : Shape) (policy policy' : plans.MergePolicy) (g : ℕ) → IsCarried (bytes d) s
      → g ≡ s.next_generation → newest_generation s'.commits ≡ Some g → s.next_generation < s'.next_generation
      → ((h : ℕ) → h ≢ s.next_generation → NoMore (left d (file.Commit h)) (left d' (file.Commit h)))
      → Makes (Commits text) (bytes d) s (bytes d') s'
      → ((q : FileName) → (IsNew s.next_segment s.next_generation (name_of q) → ⊥) → (IsOfMerge s.merging q → ⊥) → NoMore (left d q) (left d' q))
      → Goes bytes left (Event.Answered g) (record { device = d; core = s; policy = policy }) (record { device = d'; core = s'; policy = policy' })
  answered_goes text d d' s s' policy policy' g carried number newest next others makes crash = record {
    newest = newest;
    next = omega (arith, next);
    asked = λ h same. asked_next (bytes d) s carried h (same ∙ number);
    taken = λ h same. omega (arith, same, number, next);
    files = λ h other e after. inl (others h (λ is. other (is ∙ sym number)) e after);
    spared = call_spared (left d) (left d') (Commits text) (takes_commit text) (bytes d) (bytes d') s s' makes carried (files_spared (left d) (left d') s crash);
    tried = λ t no. absurd (answered_none g t no);
  }

-- ---- the last commit that was answered

-- a commit of this generation was refused that tried one, and none has been answered since
abbrev HasTriedOne : List Event → ℕ → Type 0
HasTriedOne events g = (t : TriedCommit) × (t.commit.generation ≡ g) × IsTried events t

-- one event more before the others
tried_later : (event : Event) (events : List Event) (g : ℕ) → HasTriedOne events g → HasTriedOne (event ∷ events) g
tried_later event events g k = (
  k.0,
  k.1,
  record { before = event ∷ k.2.before; since = k.2.since; split = ap (λ es. event ∷ es) k.2.split; none = k.2.none },
)

answered_later : (event : Event) (events : List Event) (g : ℕ) → IsAnswered events g → IsAnswered (event ∷ events) g
answered_later event events g t = record { before = event ∷ t.before; since = t.since; split = ap (λ es. event ∷ es) t.split; none = t.none }

last_answered : (first mid last : Option ℕ) (event : Event) (events : List Event) → mid ≡ newest_after event first → IsLastAnswered mid events last
    → IsLastAnswered first (event ∷ events) last
last_answered first mid last event events is (inl k) = inl (k.0, answered_later event events k.0 k.1, k.2)
last_answered first mid last Event.Other events is (inr k) =
    inr (All-from_recursion IsUnanswered (Event.Other ∷ events) (tt, recursion_from_All IsUnanswered events k.0), k.1 ∙ is)
last_answered first mid last (Event.Refused t) events is (inr k) =
    inr (All-from_recursion IsUnanswered (Event.Refused t ∷ events) (tt, recursion_from_All IsUnanswered events k.0), k.1 ∙ is)
last_answered first mid last (Event.Answered h) events is (inr k) =
    inl (h, record { before = []; since = events; split = refl; none = k.0 }, k.1 ∙ is)

-- ---- what stands past the newest commit

past_more : (o : Option ℕ) (g h : ℕ) → IsPastNewest o g → g < h → IsPastNewest o h
past_more None g h past less = tt
past_more (Some n) g h past less = omega (arith, past, less)

pub same_or : (g h : ℕ) → (g ≡ h) ⊎ (g ≢ h)
same_or g h = elim (cases_lt g h) [
  | inl less ↦ inr (λ e. omega (arith, less, e))
  | inr more ↦ elim (cases_lt h g) [
    | inl greater ↦ inr (λ e. omega (arith, greater, e))
    | inr fewer ↦ inl (omega (arith, more, fewer))
  ]
]

module _ {D : Type 0} (bytes : D → ToldFiles) (left : D → FileName → FileContent → Type 0) where
  pub newest_is_answered : (last : LedgerOnDevice D) → NewestIsAnswered bytes left last
  newest_is_answered last first [] h = inr (All-from_recursion IsUnanswered [] tt, ap (λ (l : LedgerOnDevice D). newest_commit_in l) h)
  newest_is_answered last first (call ∷ calls) h =
      last_answered (newest_commit_in first) (newest_commit_in call.after) (newest_commit_in last) call.event (events_of calls) h.0.newest (newest_is_answered last call.after calls h.1)

  -- Past the newest commit a crash leaves only own files of these generations, of which none is past the one that comes next.
  record IsAhead (T : ℕ → Type 0) (l : LedgerOnDevice D) : Type 0 where
    files : (g : ℕ) (e : FileContent) → IsPastNewest (newest_commit_in l) g → left (device_in l) (file.Commit g) e → (e ≡ None) ⊎ T g
    past : (g : ℕ) → T g → g ≤ (shape_in l).next_generation

  abbrev or_refused : (ℕ → Type 0) → ℕ → ℕ → Type 0
  or_refused T h g = T g ⊎ (g ≡ h)

  other_ahead : (T : ℕ → Type 0) (l l' : LedgerOnDevice D) → Goes bytes left Event.Other l l' → IsAhead T l → IsAhead T l'
  other_ahead T l l' go a = record {
    files = λ g e past after. elim (go.files g (λ no. no) e after) [
      | inl before ↦ a.files g e (subst (λ (o : Option ℕ). IsPastNewest o g) go.newest past) before
      | inr gone ↦ inl gone
    ];
    past = λ g t. omega (arith, a.past g t, go.next);
  }

  refused_ahead : (T : ℕ → Type 0) (t : TriedCommit) (l l' : LedgerOnDevice D) → Goes bytes left (Event.Refused t) l l' → IsAhead T l
      → IsAhead (or_refused T t.commit.generation) l'
  refused_ahead T t l l' go a = record {
    files = λ g e past after. elim (same_or g t.commit.generation) [
      | inl same ↦ inr (inr same)
      | inr other ↦ elim (go.files g other e after) [
        | inl before ↦ elim (a.files g e (subst (λ (o : Option ℕ). IsPastNewest o g) go.newest past) before) [ inl none ↦ inl none | inr k ↦ inr (inl k) ]
        | inr gone ↦ inl gone
      ]
    ];
    past = λ g which. elim which [ inl k ↦ omega (arith, a.past g k, go.next) | inr same ↦ omega (arith, same, (go.asked t.commit.generation refl).0, go.next) ];
  }

  answered_ahead : (T : ℕ → Type 0) (h : ℕ) (l l' : LedgerOnDevice D) → Goes bytes left (Event.Answered h) l l' → IsAhead T l → IsAhead (λ g. ⊥) l'
  answered_ahead T h l l' go a = record {
    files = λ g e past after.
        let asked = go.asked h refl in
        let more : h < g = subst (λ (o : Option ℕ). IsPastNewest o g) go.newest past in
        elim (go.files g (λ same. omega (arith, same, more)) e after) [
          | inl before ↦ elim (a.files g e (past_more (newest_commit_in l) h g asked.1 more) before) [
            | inl none ↦ inl none
            | inr t ↦ absurd (omega (arith, a.past g t, asked.0, more))
          ]
          | inr gone ↦ inl gone
        ];
    past = λ g no. absurd no;
  }

  -- What stands past the newest commit was tried: of these generations, where none was answered since, or since.
  abbrev IsLeft : (ℕ → Type 0) → List Event → ℕ → FileContent → Type 0
  IsLeft T events g e = (e ≡ None) ⊎ ((AllByRecursion IsUnanswered events × T g) ⊎ HasTriedOne events g)

  after_other : (T : ℕ → Type 0) (events : List Event) (g : ℕ) (e : FileContent) → IsLeft T events g e → IsLeft T (Event.Other ∷ events) g e
  after_other T events g e (inl none) = inl none
  after_other T events g e (inr (inl k)) = inr (inl ((tt, k.0), k.1))
  after_other T events g e (inr (inr tried)) = inr (inr (tried_later Event.Other events g tried))

  after_refused : (T : ℕ → Type 0) (t : TriedCommit) (events : List Event) (g : ℕ) (e : FileContent) → IsLeft (or_refused T t.commit.generation) events g e
      → IsLeft T (Event.Refused t ∷ events) g e
  after_refused T t events g e (inl none) = inl none
  after_refused T t events g e (inr (inl (k, inl so))) = inr (inl ((tt, k), so))
  after_refused T t events g e (inr (inl (k, inr same))) =
      inr (inr (t, sym same, record { before = []; since = events; split = refl; none = All-from_recursion IsUnanswered events k }))
  after_refused T t events g e (inr (inr tried)) = inr (inr (tried_later (Event.Refused t) events g tried))

  after_answered : (T : ℕ → Type 0) (h : ℕ) (events : List Event) (g : ℕ) (e : FileContent) → IsLeft (λ n. ⊥) events g e
      → IsLeft T (Event.Answered h ∷ events) g e
  after_answered T h events g e (inl none) = inl none
  after_answered T h events g e (inr (inl k)) = absurd k.1
  after_answered T h events g e (inr (inr tried)) = inr (inr (tried_later (Event.Answered h) events g tried))

  ahead_after : (T : ℕ → Type 0) (first : LedgerOnDevice D) (calls : List (Call D)) (last : LedgerOnDevice D) → IsAhead T first → IsHistory bytes left first calls last
      → (g : ℕ) (e : FileContent) → IsPastNewest (newest_commit_in last) g → left (device_in last) (file.Commit g) e → IsLeft T (events_of calls) g e
  ahead_after T first [] last a h g e past after =
      let now : IsAhead T last = subst (λ (l : LedgerOnDevice D). IsAhead T l) (sym h) a in
      elim (now.files g e past after) [ inl none ↦ inl none | inr t ↦ inr (inl (tt, t)) ]
  ahead_after T first (call ∷ calls) last a h g e past after =
      by call.event h.0 (λ T mid. ahead_after T call.after calls last mid h.1 g e past after)
    where
      by : (event : Event) → Goes bytes left event first call.after → ((T : ℕ → Type 0) → IsAhead T call.after → IsLeft T (events_of calls) g e)
          → IsLeft T (event ∷ events_of calls) g e
      by Event.Other go rest = after_other T (events_of calls) g e (rest T (other_ahead T first call.after go a))
      by (Event.Refused t) go rest =
          after_refused T t (events_of calls) g e (rest (or_refused T t.commit.generation) (refused_ahead T t first call.after go a))
      by (Event.Answered n) go rest = after_answered T n (events_of calls) g e (rest (λ m. ⊥) (answered_ahead T n first call.after go a))

  -- so, where nothing was ahead at first
  tried_after : (first : LedgerOnDevice D) (calls : List (Call D)) (last : LedgerOnDevice D) → LeavesNoneAhead left first → IsHistory bytes left first calls last
      → (g : ℕ) (e : FileContent) → IsPastNewest (newest_commit_in last) g → left (device_in last) (file.Commit g) e → (e ≡ None) ⊎ HasTriedOne (events_of calls) g
  tried_after first calls last none h g e past after =
      elim (ahead_after (λ n. ⊥) first calls last (record { files = λ g e past after. inl (none g e past after); past = λ g no. absurd no }) h g e past after) [
        | inl gone ↦ inl gone
        | inr more ↦ elim more [ inl k ↦ absurd k.1 | inr tried ↦ inr tried ]
      ]

  -- ---- the generations that were taken

  next_rises : (first : LedgerOnDevice D) (calls : List (Call D)) (last : LedgerOnDevice D) → IsHistory bytes left first calls last
      → (shape_in first).next_generation ≤ (shape_in last).next_generation
  next_rises first [] last h = omega (arith, ap (λ (l : LedgerOnDevice D). (shape_in l).next_generation) h)
  next_rises first (call ∷ calls) last h = omega (arith, h.0.next, next_rises call.after calls last h.1)

  -- A crash leaves nothing of the own file of a commit past the newest whose number wasn't given out.
  abbrev NoneIsBegun : LedgerOnDevice D → Type 0
  NoneIsBegun l = (g : ℕ) (e : FileContent) → (shape_in l).next_generation ≤ g → IsPastNewest (newest_commit_in l) g → left (device_in l) (file.Commit g) e → e ≡ None

  -- where the newest was one of these, it is past that before
  newest_before : (event : Event) (l l' : LedgerOnDevice D) → Goes bytes left event l l' → (g : ℕ) → IsPastNewest (newest_commit_in l') g → IsPastNewest (newest_commit_in l) g
  newest_before Event.Other l l' go g past = subst (λ (o : Option ℕ). IsPastNewest o g) go.newest past
  newest_before (Event.Refused t) l l' go g past = subst (λ (o : Option ℕ). IsPastNewest o g) go.newest past
  newest_before (Event.Answered h) l l' go g past =
      past_more (newest_commit_in l) h g (go.asked h refl).1 (subst (λ (o : Option ℕ). IsPastNewest o g) go.newest past)

  none_begun : (event : Event) (l l' : LedgerOnDevice D) → Goes bytes left event l l' → NoneIsBegun l → NoneIsBegun l'
  none_begun event l l' go none g e low past after = elim (go.files g (λ begun. omega (arith, low, go.taken g begun)) e after) [
    | inl before ↦ none g e (omega (arith, go.next, low)) (newest_before event l l' go g past) before
    | inr gone ↦ gone
  ]

  -- so where a commit is tried none is ahead
  fresh_ahead : (t : TriedCommit) (l l' : LedgerOnDevice D) → Goes bytes left (Event.Refused t) l l' → NoneIsBegun l → IsFreshAhead (left (device_in l)) (shape_in l)
  fresh_ahead t l l' go none g low e before = none g e low (past (go.asked t.commit.generation refl)) before
    where
      past : (t.commit.generation ≡ (shape_in l).next_generation) × IsPastNewest (newest_commit_in l) t.commit.generation → IsPastNewest (newest_commit_in l) g
      past asked = elim (cases_lt t.commit.generation g) [
        | inl less ↦ past_more (newest_commit_in l) t.commit.generation g asked.1 less
        | inr more ↦ subst (λ n. IsPastNewest (newest_commit_in l) n) (omega (arith, asked.0, low, more)) asked.1
      ]

  -- what was tried stays so
  tried_on : (t : TriedCommit) (first : LedgerOnDevice D) (calls : List (Call D)) (last : LedgerOnDevice D) → IsHistory bytes left first calls last
      → IsTriedCommit (left (device_in first)) (shape_in first) t → IsTriedCommit (left (device_in last)) (shape_in last) t
  tried_on t first [] last h tried = subst (λ (l : LedgerOnDevice D). IsTriedCommit (left (device_in l)) (shape_in l) t) (sym h) tried
  tried_on t first (call ∷ calls) last h tried =
      tried_on t call.after calls last h.1 (tried_stay left (device_in first) (device_in call.after) (shape_in first) (shape_in call.after) t h.0.spared tried)

  -- so what a refused commit tried is left as it was then
  refused_stays : AlwaysTells bytes → (first : LedgerOnDevice D) (calls : List (Call D)) (last : LedgerOnDevice D) → NoneIsBegun first
      → IsHistory bytes left first calls last → (before since : List Event) (t : TriedCommit) → events_of calls ≡ before ++ Event.Refused t ∷ since
      → IsTriedCommit (left (device_in last)) (shape_in last) t
  refused_stays always first [] last none h [] since t e = absurd (let no : [] ≡ Event.Refused t ∷ since = e in cc)
  refused_stays always first [] last none h (x ∷ before) since t e = absurd (let no : [] ≡ x ∷ (before ++ Event.Refused t ∷ since) = e in cc)
  refused_stays always first (call ∷ calls) last none h [] since t e =
      let both : (call.event ∷ events_of calls) ≡ (Event.Refused t ∷ since) = e in
      let is : call.event ≡ Event.Refused t = cc in
      let go : Goes bytes left (Event.Refused t) first call.after = subst (λ (event : Event). Goes bytes left event first call.after) is h.0 in
      tried_on t call.after calls last h.1 ((go.tried t refl always).0 (fresh_ahead t first call.after go none))
  refused_stays always first (call ∷ calls) last none h (x ∷ before) since t e =
      let both : (call.event ∷ events_of calls) ≡ (x ∷ (before ++ Event.Refused t ∷ since)) = e in
      let rest : events_of calls ≡ (before ++ Event.Refused t ∷ since) = cc in
      refused_stays always call.after calls last (none_begun call.event first call.after h.0 none) h.1 before since t rest

  -- ---- what is found after a crash

  module _ (last : LedgerOnDevice D) (carried : IsCarried (bytes (device_in last)) (shape_in last))
      (lasts : AlwaysTells bytes → NewestLasts (bytes (device_in last)) (left (device_in last)) (shape_in last)) where
    -- the newest commit's own file is there
    own_stands : AlwaysTells bytes → (n : ℕ) → newest_commit_in last ≡ Some n → (image : FileName → FileContent) → IsCrashed (left (device_in last)) image
        → (text : Text) × (image (file.Commit n) ≡ Some text)
    own_stands always n newest image crashed = by (bytes (device_in last) (file.Commit n)) refl
      where
        by : (t : Told) → bytes (device_in last) (file.Commit n) ≡ t → (text : Text) × (image (file.Commit n) ≡ Some text)
        by None e = absurd (always (device_in last) (file.Commit n) e)
        by (Some content) e =
            let own = own_told (bytes (device_in last)) (shape_in last) n carried newest content e in
            (own.0, lasts always (file.Commit n) (own_needed (shape_in last) n newest) content (image (file.Commit n)) e (crashed (file.Commit n)) ∙ own.1)

    -- a commit of this generation was tried, and is left as it was then
    abbrev WasTried : List (Call D) → ℕ → Type 0
    WasTried calls g = (t : TriedCommit) × (t.commit.generation ≡ g) × IsTried (events_of calls) t × LeavesTried (left (device_in last)) t

    pub found_is_tried : FoundIsTried bytes left last
    found_is_tried first calls always none h image g crashed found = by (newest_commit_in last) refl
      where
        left_so : HasTriedOne (events_of calls) g → WasTried calls g
        left_so k = (
          k.0,
          k.1,
          k.2,
          (refused_stays always first calls last (λ n e low past. none n e past) h k.2.before k.2.since k.0 k.2.split).leaves,
        )

        past : IsPastNewest (newest_commit_in last) g → WasTried calls g
        past more = elim (tried_after first calls last none h g (image (file.Commit g)) more (crashed (file.Commit g))) [
          | inl gone ↦ absurd (found.there (ap (λ (c : FileContent). Some c) gone))
          | inr tried ↦ left_so tried
        ]

        by : (o : Option ℕ) → newest_commit_in last ≡ o → (newest_commit_in last ≡ Some g) ⊎ WasTried calls g
        by None e = inr (past (subst (λ (o : Option ℕ). IsPastNewest o g) (sym e) tt))
        by (Some n) e = elim (cases_lt n g) [
          | inl more ↦ inr (past (subst (λ (o : Option ℕ). IsPastNewest o g) (sym e) more))
          | inr less ↦
              let own = own_stands always n e image crashed in
              let greatest : n ≤ g = found.greatest n own.0 (ap (λ (c : FileContent). Some c) own.1) in
              let same : n ≡ g = omega (arith, less, greatest) in
              inl (e ∙ ap (λ m. Some m) same)
        ]

    pub found_is_taken : FoundIsTaken bytes left last
    found_is_taken first calls always none h image g crashed found = elim (found_is_tried first calls always none h image g crashed found) [
      | inl newest ↦
          subst (λ (o : Option ℕ). IsPastNewest o (shape_in last).next_generation) newest (comes_past (bytes (device_in last)) (shape_in last) carried)
      | inr k ↦
          let stays = refused_stays always first calls last (λ n e low past. none n e past) h k.2.before k.2.since k.0 k.2.split in
          omega (arith, k.1, stays.taken.generation)
    ]

    pub none_is_lost : NoneIsLost bytes left last
    none_is_lost always image crashed lost = by (newest_commit_in last) refl
      where
        by : (o : Option ℕ) → newest_commit_in last ≡ o → newest_commit_in last ≡ None
        by None e = e
        by (Some n) e = let own = own_stands always n e image crashed in absurd (lost n own.0 (ap (λ (c : FileContent). Some c) own.1))

    one_content : (a b : FileContent) → ◌≡◌ {A = Told} (Some a) (Some b) → a ≡ b
    one_content a b e = cc

    pub newest_is_found : NewestIsFound bytes left last
    newest_is_found newest always is image mended crashed same gone = (
      record {
        there = λ no. gone_not own.0 (sym (same (file.Commit newest) (own_needed (shape_in last) newest is) ∙ own.1)
            ∙ one_content (mended (file.Commit newest)) None no);
        greatest = λ g text e. elim (cases_lt newest g) [
          | inl more ↦ absurd (gone_not text (sym (one_content (mended (file.Commit g)) (Some text) e) ∙ gone g more))
          | inr less ↦ less
        ];
      },
      λ q needed. by q needed (bytes (device_in last) q) refl,
    )
      where
        own : (text : Text) × (image (file.Commit newest) ≡ Some text)
        own = own_stands always newest is image crashed

        gone_not : (text : Text) → ◌≡◌ {A = FileContent} (Some text) None → ⊥
        gone_not text e = cc

        by : (q : FileName) → has_name (name_of q) (newest_needs (shape_in last).commits) ≡ true → (t : Told) → bytes (device_in last) q ≡ t
            → bytes (device_in last) q ≡ image_tells mended q
        by q needed None e = absurd (always (device_in last) q e)
        by q needed (Some content) e =
            e ∙ ap (λ (c : FileContent). Some c) (sym (same q needed ∙ lasts always q needed content (image q) e (crashed q)))

-- ---- what was opened

-- a file of a commit that isn't told to be there is told to be absent, where a device tells of it
absent : (told : ToldFiles) (g : ℕ) → told (file.Commit g) ≢ None → ((text : Text) → told (file.Commit g) ≡ Some (Some text) → ⊥) → told (file.Commit g) ≡ Some None
absent told g tells none = by (told (file.Commit g)) refl
  where
    by : (t : Told) → told (file.Commit g) ≡ t → told (file.Commit g) ≡ Some None
    by None e = absurd (tells e)
    by (Some None) e = e
    by (Some (Some text)) e = absurd (none text e)

-- past the newest commit none is there
absent_past : (told : ToldFiles) (schema : Schema) (told' : ToldFiles) (mid s : Shape) (g : ℕ) → HasOpened told schema told' mid → Leaves [] mid s
    → IsPastNewest (newest_generation s.commits) g → (text : Text) → told (file.Commit g) ≡ Some (Some text) → ⊥
absent_past told schema told' mid s g (inr o) swept past text e = o.none g text e
absent_past told schema told' mid s g (inl o) swept past text e =
    let commits : newest_generation s.commits ≡ Some o.restored.commit.generation =
    ap (λ (x : Shape). newest_generation x.commits) swept.rest ∙ ap (λ (x : Shape). newest_generation x.commits) o.memory in
    let more : o.restored.commit.generation < g = subst (λ (n : Option ℕ). IsPastNewest n g) commits past in
    omega (arith, more, o.held.commit.number, o.newest.greatest g text e)

pub opened_ahead : (told : ToldFiles) (schema : Schema) (told' : ToldFiles) (mid s : Shape) (left left' : FileName → FileContent → Type 0)
    → ((q : FileName) → told q ≢ None) → HasOpened told schema told' mid → Leaves [] mid s
    → ((q : FileName) → told q ≡ Some None → IsSettled (told q) (left q)) → ((q : FileName) → OrGone (left q) (left' q)) → NoneIsAhead left' s
opened_ahead told schema told' mid s left left' tells opened swept gone back g e past after =
    let none = absent told g (tells (file.Commit g)) (absent_past told schema told' mid s g opened swept past) in
    elim (back (file.Commit g) e after) [ inl before ↦ gone (file.Commit g) none None e none before | inr removed ↦ removed ]
