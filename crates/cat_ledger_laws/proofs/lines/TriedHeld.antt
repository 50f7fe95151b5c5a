-- The files of a commit that was tried hold it, once its own file is whole: as if it had been answered.
use Rattle.std.proofs.Common.{◌≡◌, ◌⊎◌, ℕ, ◌+◌, ◌-◌, ◌≤◌, Bool, true, false, ◌||◌, cond, not, List, [], ◌∷◌, ◌++◌, map, filter, Some, None, refl, sym, ◌∙◌, ap, ap₂, subst, arith, inl, inr, append-nil}
use Rattle.std.specs.Prelude.{◌==◌, count_by}
use Rattle.std.specs.List.{flat_map, list_any, AllByRecursion}
use Rattle.std.proofs.lemmas.Bool.Decides.{eqb_tells}
use Rattle.std.proofs.lemmas.List.Sums.{sum_by-cons}
use Rattle.cat_model.specs.CommitFile.{CommitFile, IsCommitFile, SpellsCommit, commit_needs, spelled_commit}
use Rattle.cat_model.specs.Files.{Name}
use Rattle.cat_model.specs.Item.{Record}
use Rattle.cat_model.specs.Limits.{last_number}
use Rattle.cat_model.specs.LiveFile.{SpellsLive}
use Rattle.cat_model.specs.Opens.{HoldsCommit}
use Rattle.cat_model.specs.State.{stays_kept}
use Rattle.cat_model.specs.Text.{Text}
use Rattle.cat_model.specs.Told.{FileContent}
use Rattle.cat_model.specs.View.{Leaf}
use Rattle.cat_model.proofs.Lists.{list_any-append}
use Rattle.cat_directory.specs.Devices.{Told}
use Rattle.cat_directory.specs.Names.{name_of}
use Rattle.cat_directory.specs.declared.name.FileName.{FileName}
use Rattle.cat_directory.specs.declared.name.FileName.TheVariants as file
use Rattle.cat_ledger_laws.specs.model.Calls.{Committed, commit_of, commits_that, newest_listed}
use Rattle.cat_ledger_laws.specs.model.Ledger.{Ledger, IsWholeCommit, commit_file, portions_in, table_of}
use Rattle.cat_ledger_laws.specs.model.Portions.{records_of}
use Rattle.cat_ledger_laws.specs.model.Stored.{FileBytes, IsCommitStored}
use Rattle.cat_ledger_laws.specs.model.Users.{Changes, Used, has_name, is_known, same_file_name, times, users_of}
use Rattle.cat_ledger_laws.proofs.model.Commits.{portions_listed}
use Rattle.cat_ledger_laws.proofs.model.Counted.{same_name_is}
use Rattle.cat_ledger_laws.proofs.model.Users.{All-split}
use Rattle.cat_ledger_laws.specs.shape.CommitLaws.{HasNewLive, WritesCommit, shape_files_begun}
use Rattle.cat_ledger_laws.specs.shape.Shapes.{Shape, IsShape, names_of_commits, shape_of}
use Rattle.cat_ledger_laws.specs.shape.Steps.{IsCommitted, commit_file_now, file_for, listed_now}
use Rattle.cat_ledger_laws.specs.shape.Ties.{Carries, IsTold, ToldFiles, TellsBytes, TouchesOnly, file_of}
use Rattle.cat_ledger_laws.specs.shape.Tried.{TriedCommit, tells_image}
use Rattle.cat_ledger_laws.proofs.shape.Committed.{commits_make, now_said}
use Rattle.cat_ledger_laws.proofs.shape.Leaves.{any_map}
use Rattle.cat_ledger_laws.proofs.shape.Listed.{leaving_are_counted}
use Rattle.cat_ledger_laws.proofs.lines.Held.{held_commit}
use Rattle.cat_ledger_laws.specs.lines.TriedLaws.{TriedHold, whole_files}

-- ---- users that are counted anew

-- the users that there were, with those taken and without those given
abbrev moved_to : List Name → List Name → List Used → Name → ℕ
moved_to taken given old q = users_of old q + times q taken - times q given

abbrev counted_of : (Name → ℕ) → Name → Used
counted_of f q = record { name = q; users = f q }

users_listed : (f : Name → ℕ) (names : List Name) (q : Name) → users_of (map (counted_of f) names) q ≡ cond (has_name q names) (f q) 0
users_listed f [] q = refl
users_listed f (n ∷ names) q = by (same_file_name q n) refl (users_listed f names q)
  where
    by : (b : Bool) → same_file_name q n ≡ b → users_of (map (counted_of f) names) q ≡ cond (has_name q names) (f q) 0
        → cond b (f n) (users_of (map (counted_of f) names) q) ≡ cond (b || has_name q names) (f q) 0
    by true e rest = ap f (sym (same_name_is q n e))
    by false e rest = rest

unknown_unused : (us : List Used) (q : Name) → is_known us q ≡ false → users_of us q ≡ 0
unknown_unused [] q e = refl
unknown_unused (u ∷ us) q e = by (same_file_name q u.name) e (unknown_unused us q)
  where
    by : (b : Bool) → (b || is_known us q) ≡ false → (is_known us q ≡ false → users_of us q ≡ 0) → cond b u.users (users_of us q) ≡ 0
    by true e rest = absurd (let no : true ≡ false = e in cc)
    by false e rest = rest e

unnamed_never : (names : List Name) (q : Name) → has_name q names ≡ false → times q names ≡ 0
unnamed_never [] q e = refl
unnamed_never (n ∷ names) q e = sum_by-cons (λ m. cond (same_file_name q m) 1 0) n names ∙ by (same_file_name q n) e (unnamed_never names q)
  where
    by : (b : Bool) → (b || has_name q names) ≡ false → (has_name q names ≡ false → times q names ≡ 0) → cond b 1 0 + times q names ≡ 0
    by true e rest = absurd (let no : true ≡ false = e in cc)
    by false e rest = omega (arith, rest e)

neither : (a b : Bool) → (a || b) ≡ false → (a ≡ false) × (b ≡ false)
neither true b e = absurd (let no : true ≡ false = e in cc)
neither false b e = (refl, e)

-- there are users with these taken and those given, of which no more are given than there are
module _ (old : List Used) (taken given : List Name) where
  abbrev moved : List Used
  moved = map (counted_of (moved_to taken given old)) (map (λ (u : Used). u.name) old ++ taken)

  named : (q : Name) → has_name q (map (λ (u : Used). u.name) old ++ taken) ≡ (is_known old q || has_name q taken)
  named q =
      list_any-append (same_file_name q) (map (λ (u : Used). u.name) old) taken
      ∙ ap (λ b. b || has_name q taken) (any_map (λ (u : Used). u.name) (same_file_name q) old)

  known : (q : Name) → is_known moved q ≡ (is_known old q || has_name q taken)
  known q = any_map (counted_of (moved_to taken given old)) (λ (u : Used). same_file_name q u.name) (map (λ (u : Used). u.name) old ++ taken) ∙ named q

  balanced : (q : Name) (b : Bool) → times q given ≤ users_of old q → has_name q (map (λ (u : Used). u.name) old ++ taken) ≡ b
      → cond b (moved_to taken given old q) 0 + times q given ≡ users_of old q + times q taken
  balanced q true low e = omega (arith, low)
  balanced q false low e =
      let none = neither (is_known old q) (has_name q taken) (sym (named q) ∙ e) in
      let no_user : users_of old q ≡ 0 = unknown_unused old q none.0 in
      let no_taken : times q taken ≡ 0 = unnamed_never taken q none.1 in
      omega (arith, no_user, no_taken, low)

  changed : ((q : Name) → times q given ≤ users_of old q) → Changes taken given old moved
  changed enough = record {
    users = λ q.
        ap (λ n. n + times q given) (users_listed (moved_to taken given old) (map (λ (u : Used). u.name) old ++ taken) q)
        ∙ balanced q (has_name q (map (λ (u : Used). u.name) old ++ taken)) (enough q) refl;
    known = known;
  }

-- ---- as if it had been answered

module _ (text : Text) (s : Shape) (its : IsShape s) (left : s.next_generation ≤ last_number) where
  abbrev given : List Name
  given = names_of_commits (filter (λ c. not (stays_kept s.taken (Some s.next_generation) c.generation)) s.commits)

  users : List Used
  users = moved s.users (commit_needs (commit_file_now text s)) given

  move : Changes (commit_needs (commit_file_now text s)) given s.users users
  unfolding users
  move = changed s.users (commit_needs (commit_file_now text s)) given (λ q. leaving_are_counted s (λ h. not (stays_kept s.taken (Some s.next_generation) h)) q its)

  -- what memory had, had it been answered
  answered : Shape
  answered = record s {
    commits = filter (λ c. stays_kept s.taken (Some s.next_generation) c.generation) s.commits ++ commit_file_now text s ∷ [];
    listed = listed_now s;
    users = users;
    next_generation = s.next_generation + 1;
  }

  is_committed : IsCommitted text s answered
  unfolding answered
  is_committed = record { left = left; users = move; rest = refl }

-- ---- its files

image_tells : (FileName → FileContent) → ToldFiles
image_tells image q = Some (image q)

same_again : (n : ℕ) → (n == n) ≡ true
same_again n = elim (eqb_tells n n) [ inl e ↦ e.0 | inr e ↦ absurd (e.1 refl) ]

own_whole : (t : TriedCommit) → whole_files t (file.Commit t.commit.generation) ≡ Some (spelled_commit t.commit)
own_whole t = ap (λ b. cond b (Some (spelled_commit t.commit)) (t.files (file.Commit t.commit.generation))) (same_again t.commit.generation)

module _ (text : Text) (told told' : ToldFiles) (s : Shape) (t : TriedCommit) (same : t.commit ≡ commit_file_now text s)
    (tells : (q : FileName) → told' q ≡ Some (t.files q)) where
  others_whole : (q : FileName) → has_name (name_of q) (shape_files_begun s) ≡ false → whole_files t q ≡ t.files q
  others_whole (file.Segment n) e = refl
  others_whole (file.Source n) e = refl
  others_whole (file.Live n d) e = refl
  others_whole (file.Commit g) e =
      let own : (g == s.next_generation) ≡ false = (neither (g == s.next_generation) (has_name (Name.commit g) (map (λ (leaf : Leaf). Name.live leaf.segment.number s.next_generation) s.leaves)) e).0 in
      let other : (g == t.commit.generation) ≡ false = ap (λ (c : CommitFile). g == c.generation) same ∙ own in
      ap (λ b. cond b (Some (spelled_commit t.commit)) (t.files (file.Commit g))) other

  touches : TouchesOnly (shape_files_begun s) told told' → TouchesOnly (shape_files_begun s) told (image_tells (whole_files t))
  unfolding image_tells
  touches only q e = ap (λ (c : FileContent). Some c) (others_whole q e) ∙ sym (tells q) ∙ only q e

  lives : (leaves : List Leaf) → AllByRecursion (HasNewLive told' s) leaves → AllByRecursion (HasNewLive (image_tells (whole_files t)) s) leaves
  unfolding image_tells
  lives [] a = tt
  lives (leaf ∷ leaves) a = (
    (λ new. let own = a.0 new in (own.0, subst (λ (u : Told). IsTold u (Some own.0)) (tells (file.Live leaf.segment.number s.next_generation)) own.1, own.2)),
    lives leaves a.1,
  )

  writes : IsCommitFile (commit_file_now text s) → TouchesOnly (shape_files_begun s) told told' → AllByRecursion (HasNewLive told' s) s.leaves
      → WritesCommit text s told (image_tells (whole_files t))
  unfolding image_tells
  writes form only live = record {
    others = touches only;
    commit = (
      spelled_commit t.commit,
      subst (λ g. whole_files t (file.Commit g) ≡ Some (spelled_commit t.commit)) (ap (λ (c : CommitFile). c.generation) same) (own_whole t),
      record { form = form; spelled = ap spelled_commit same },
    );
    live = lives s.leaves live;
  }

-- ---- what they hold

last_of : {X : Type 0} (P : X → Type 0) (xs : List X) (x : X) → AllByRecursion P (xs ++ x ∷ []) → P x
last_of P xs x a = (All-split P xs (x ∷ []) a).1.0

same_kind : (told : ToldFiles) (image : FileName → FileContent) → told ≡ image_tells image → (λ (q : Name). told (file_of q)) ≡ tells_image image
unfolding image_tells
same_kind told image e = λ i q. e i (file_of q)

module _ (text : Text) (told'' : ToldFiles) (l : Ledger) (empty : l.buffered ≡ []) (l' : Ledger) (files' : FileBytes) (call : Committed text l l')
    (new : Shape) (carries : Carries told'' new l' files') where
  commits : l'.commits ≡ commits_that (stays_kept l.taken (Some l.next_generation)) l.commits ++ commit_of text l ∷ []
  commits = ap (λ (x : Ledger). x.commits) call.rest

  fields : l'.schema ≡ l.schema
  fields = ap (λ (x : Ledger). x.schema) call.rest

  counts : l'.count ≡ l.count
  counts = ap (λ (x : Ledger). x.count) call.rest

  stored : IsCommitStored files' l.schema (commit_of text l)
  stored =
      last_of (IsCommitStored files' l.schema) (commits_that (stays_kept l.taken (Some l.next_generation)) l.commits) (commit_of text l)
      (subst (λ cs. AllByRecursion (IsCommitStored files' l.schema) cs) commits (subst (λ f. AllByRecursion (IsCommitStored files' f) l'.commits) fields carries.stored.commits))

  whole : IsWholeCommit l.schema l'.count (commit_of text l)
  whole =
      last_of (IsWholeCommit l.schema l'.count) (commits_that (stays_kept l.taken (Some l.next_generation)) l.commits) (commit_of text l)
      (subst (λ cs. AllByRecursion (IsWholeCommit l.schema l'.count) cs) commits (subst (λ f. AllByRecursion (IsWholeCommit f l'.count) l'.commits) fields carries.sound.commits))

  table : records_of (portions_in (commit_of text l)) ≡ table_of l
  table =
      ap records_of (portions_listed (newest_listed l.commits) l.next_generation l.portions)
      ∙ sym (append-nil (records_of l.portions))
      ∙ ap (λ rs. records_of l.portions ++ rs) (sym empty)

  holds : HoldsCommit (λ (q : Name). told'' (file_of q)) l.schema l.next_generation (commit_file l.schema (commit_of text l)) (table_of l)
  holds = subst (HoldsCommit (λ (q : Name). told'' (file_of q)) l.schema l.next_generation (commit_file l.schema (commit_of text l))) table
      (held_commit told'' files' carries.agrees l.schema (commit_of text l) whole.1 stored)

pub tried_hold : TriedHold
unfolding image_tells
tried_hold text told told' s l files t carries empty form left only live same tells =
    let its : IsShape s = (l, carries.shape, carries.sound) in
    let made = commits_make text s (answered text s its left) told (image_tells (whole_files t)) empty (is_committed text s its left) (writes text told told' s t same tells form only live) l files carries in
    let waits : l.buffered ≡ [] = ap (λ (x : Shape). x.buffered) carries.shape ∙ empty in
    let held : HoldsCommit (tells_image (whole_files t)) l.schema l.next_generation (commit_file l.schema (commit_of text l)) (table_of l) =
    holds text (image_tells (whole_files t)) l waits made.0 made.1 made.2 (answered text s its left) made.3 in
    let said : t.commit ≡ commit_file l.schema (commit_of text l) = same ∙ ap (λ (x : Shape). commit_file_now text x) (sym carries.shape) ∙ now_said text l in
    subst (λ (x : Shape). HoldsCommit (tells_image (whole_files t)) x.schema x.next_generation t.commit (table_of l)) carries.shape
    (subst (λ (d : CommitFile). HoldsCommit (tells_image (whole_files t)) l.schema l.next_generation d (table_of l)) (sym said) held)
