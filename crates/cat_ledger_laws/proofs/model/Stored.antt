-- The files that are needed are there after each call.
use Rattle.std.proofs.Common.{◌≡◌, ◌≢◌, ℕ, ◌+◌, ◌<◌, List, [], ◌∷◌, ◌++◌, length, map, take, drop, Bool, true, false, cond, not, ◌&&◌, ◌||◌, Option, Some, None, refl, sym, ◌∙◌, ap, ap₂, subst, arith, append_assoc, inl, inr}
use Rattle.std.specs.Prelude.{◌==◌}
use Rattle.std.specs.List.{flat_map, list_all, last_or, AllByRecursion}
use Rattle.std.proofs.lemmas.Bool.Decides.{nat_tests, eqb_tells}
use Rattle.cat_model.specs.Item.{Schema, Record}
use Rattle.cat_model.specs.Files.{Name}
use Rattle.cat_model.specs.LiveFile.{LiveRows, SpellsLive}
use Rattle.cat_model.proofs.Lists.{All-weaken, All-both, All-kept}
use Rattle.cat_ledger_laws.specs.model.Portions.{Portion, all_live, portions_after, Merging, settled, merged}
use Rattle.cat_ledger_laws.specs.model.Users.{same_file_name, has_name, times}
use Rattle.cat_model.specs.CommitFile.{live_names}
use Rattle.cat_ledger_laws.specs.model.Ledger.{Ledger, RecordedView, Listed, LedgerCommit, IsLedger, names_used, names_of_portion, names_of_view, names_of_listed, names_of_commit, names_of_merging, IsPast, IsNew, IsOther, IsAlone}
use Rattle.cat_ledger_laws.specs.model.Stored.{FileBytes, joined_sources, IsStored, IsSegmentStored, IsLiveStored, HasLive, IsCommitStored, IsMergeStored, AreStored, SparesFiles, ChangesOnly}
use Rattle.cat_ledger_laws.specs.model.Calls.{all_alive, same_live, portion_file_in, portion_file_for, listed_in, newest_listed, commit_of, recorded_view_now, files_begun}
use Rattle.cat_ledger_laws.specs.model.Laws.{FilesStay, WritesStore, FlushesStore, RecordsStore, PrunesStore, CommitsStore, UnsnapsStore, BegunStore, CopiesStore, MergesStore, EndsStore, RefusalsStore, SweepsSpare}
use Rattle.cat_ledger_laws.proofs.model.Users.{All-split, times-append, Four, All-four}
use Rattle.cat_ledger_laws.proofs.model.Merges.{three}

-- ---- files that stay

module _ (fs gs : FileBytes) where
  Same : Name → Type 0
  Same q = gs q ≡ fs q

  stored_stay : (schema : Schema) (p : Portion) → SparesFiles (names_of_portion p) fs gs → IsStored fs schema p → IsStored gs schema p
  stored_stay schema p s ok = record { segment = record { bytes = ok.segment.bytes; there = s.0 ∙ ok.segment.there; spelled = ok.segment.spelled }; source = s.1.0 ∙ ok.source }

  portions_stay : (schema : Schema) (ps : List Portion) → SparesFiles (flat_map names_of_portion ps) fs gs → AllByRecursion (IsStored fs schema) ps → AllByRecursion (IsStored gs schema) ps
  portions_stay schema [] s a = tt
  portions_stay schema (p ∷ ps) s a = (stored_stay schema p (s.0, (s.1.0, tt)) a.0, portions_stay schema ps s.1.1 a.1)

  views_stay : (schema : Schema) (vs : List RecordedView) → SparesFiles (flat_map names_of_view vs) fs gs → AllByRecursion (λ v. AllByRecursion (IsStored fs schema) v.portions) vs → AllByRecursion (λ v. AllByRecursion (IsStored gs schema) v.portions) vs
  views_stay schema [] s a = tt
  views_stay schema (v ∷ vs) s a =
      let r = All-split (λ q. gs q ≡ fs q) (names_of_view v) (flat_map names_of_view vs) s in
      (portions_stay schema v.portions r.0 a.0, views_stay schema vs r.1 a.1)

  live_stay : (x : Listed) (b : Bool) → SparesFiles (cond b [] (Name.live x.portion.number x.file ∷ [])) fs gs → cond b (AllByRecursion (λ b. b ≡ true) x.portion.live) (IsLiveStored fs x) → cond b (AllByRecursion (λ b. b ≡ true) x.portion.live) (IsLiveStored gs x)
  live_stay x true s a = a
  live_stay x false s a = record { bytes = a.bytes; there = s.0 ∙ a.there; spelled = a.spelled }

  listed_stay : (schema : Schema) (xs : List Listed) → SparesFiles (flat_map names_of_listed xs) fs gs → AllByRecursion (λ x. IsStored fs schema x.portion) xs → AllByRecursion (HasLive fs) xs
      → AllByRecursion (λ x. IsStored gs schema x.portion) xs × AllByRecursion (HasLive gs) xs
  listed_stay schema [] s a h = (tt, tt)
  listed_stay schema (x ∷ xs) s a h =
      let r = All-split (λ q. gs q ≡ fs q) (live_names x.portion.number x.file) (flat_map names_of_listed xs) (s_rest s) in
      let rest = listed_stay schema xs r.1 a.1 h.1 in
      ((stored_stay schema x.portion (s.0, (s.1.0, tt)) a.0, rest.0), (live_stay x (x.file == 0) r.0 h.0, rest.1))
    where
      s_rest : SparesFiles (names_of_listed x ++ flat_map names_of_listed xs) fs gs → SparesFiles (live_names x.portion.number x.file ++ flat_map names_of_listed xs) fs gs
      s_rest s = s.1.1

  commits_stay : (schema : Schema) (cs : List LedgerCommit) → SparesFiles (flat_map names_of_commit cs) fs gs → AllByRecursion (IsCommitStored fs schema) cs → AllByRecursion (IsCommitStored gs schema) cs
  commits_stay schema [] s a = tt
  commits_stay schema (c ∷ cs) s a =
      let r = All-split (λ q. gs q ≡ fs q) (names_of_commit c) (flat_map names_of_commit cs) s in
      let x = listed_stay schema c.listed r.0.1 a.0.portions a.0.live in
      (record { commit = record { bytes = a.0.commit.bytes; there = r.0.0 ∙ a.0.commit.there; spelled = a.0.commit.spelled }; portions = x.0; live = x.1 }, commits_stay schema cs r.1 a.1)

  merge_stays : (o : Option Merging) → SparesFiles (names_of_merging o) fs gs → IsMergeStored fs o → IsMergeStored gs o
  merge_stays None s a = tt
  merge_stays (Some m) s a = s.0 ∙ a

pub files_stay : FilesStay
files_stay l fs gs ok s =
    let f : Four (λ q. gs q ≡ fs q) (flat_map names_of_portion l.portions) (flat_map names_of_view l.views) (flat_map names_of_commit l.commits) (names_of_merging l.merging) = All-four (λ q. gs q ≡ fs q) _ _ _ _ s in
    record {
      portions = portions_stay fs gs l.schema l.portions f.portions ok.portions;
      views = views_stay fs gs l.schema l.views f.views ok.views;
      commits = commits_stay fs gs l.schema l.commits f.commits ok.commits;
      merging = merge_stays fs gs l.merging f.merging ok.merging;
    }

-- ---- names that are new

and_no : (b : Bool) → (b && false) ≡ false
and_no true = refl
and_no false = refl

less_differs : (a b : ℕ) → a < b → (a == b) ≡ false
less_differs a b l = elim (eqb_tells a b) [ inl e ↦ absurd (omega (arith, e.1)) | inr e ↦ e.0 ]

differs : (a b : ℕ) → a ≢ b → (a == b) ≡ false
differs a b n = elim (eqb_tells a b) [ inl e ↦ absurd (n e.1) | inr e ↦ e.0 ]

new_portion : (n g : ℕ) (q : Name) → IsPast n g q → has_name q (Name.segment n ∷ Name.source n ∷ []) ≡ false
new_portion n g (Name.segment m) p = rw (less_differs m n p.1) refl
new_portion n g (Name.source m) p = rw (less_differs m n p.1) refl
new_portion n g (Name.live m d) p = refl
new_portion n g (Name.commit d) p = refl

new_source : (n g : ℕ) (q : Name) → IsPast n g q → has_name q (Name.source n ∷ []) ≡ false
new_source n g (Name.segment m) p = refl
new_source n g (Name.source m) p = rw (less_differs m n p.1) refl
new_source n g (Name.live m d) p = refl
new_source n g (Name.commit d) p = refl

other_source : (n : ℕ) (q : Name) → IsOther n q → has_name q (Name.source n ∷ []) ≡ false
other_source n (Name.segment m) p = refl
other_source n (Name.source m) p = rw (differs m n p) refl
other_source n (Name.live m d) p = refl
other_source n (Name.commit d) p = refl

other_segment : (n : ℕ) (q : Name) → IsOther n q → has_name q (Name.segment n ∷ []) ≡ false
other_segment n (Name.segment m) p = rw (differs m n p) refl
other_segment n (Name.source m) p = refl
other_segment n (Name.live m d) p = refl
other_segment n (Name.commit d) p = refl

new_live : (n g : ℕ) (ps : List Portion) (q : Name) → IsPast n g q → has_name q (map (λ (p : Portion). Name.live p.number g) ps) ≡ false
new_live n g [] q p = refl
new_live n g (x ∷ ps) (Name.segment m) p = new_live n g ps (Name.segment m) p
new_live n g (x ∷ ps) (Name.source m) p = new_live n g ps (Name.source m) p
new_live n g (x ∷ ps) (Name.live m d) p = ap (λ b. ((m == x.number) && b) || has_name (Name.live m d) (map (λ (p : Portion). Name.live p.number g) ps)) (less_differs d g p.1.1) ∙ ap (λ b. b || has_name (Name.live m d) (map (λ (p : Portion). Name.live p.number g) ps)) (and_no (m == x.number)) ∙ new_live n g ps (Name.live m d) p
new_live n g (x ∷ ps) (Name.commit d) p = new_live n g ps (Name.commit d) p

new_commit : (n g : ℕ) (ps : List Portion) (q : Name) → IsPast n g q → has_name q (Name.commit g ∷ map (λ (p : Portion). Name.live p.number g) ps) ≡ false
new_commit n g ps (Name.segment m) p = new_live n g ps (Name.segment m) p
new_commit n g ps (Name.source m) p = new_live n g ps (Name.source m) p
new_commit n g ps (Name.live m d) p = new_live n g ps (Name.live m d) p
new_commit n g ps (Name.commit d) p = rw (less_differs d g p.1) (new_live n g ps (Name.commit d) p)

spared : (P : Name → Type 0) (but names : List Name) (fs gs : FileBytes) → ChangesOnly but fs gs → ((q : Name) → P q → has_name q but ≡ false) → AllByRecursion P names → SparesFiles names fs gs
spared P but names fs gs leaves new a = All-weaken P (λ q. gs q ≡ fs q) (λ q p. leaves q (new q p)) names a

past_new : (n g : ℕ) (q b : Name) → IsPast n g q → IsNew n g b → same_file_name q b ≡ false
past_new n g (Name.segment m) (Name.segment k) p h = less_differs m k (omega (arith, p.1, h))
past_new n g (Name.source m) (Name.source k) p h = less_differs m k (omega (arith, p.1, h))
past_new n g (Name.live m d) (Name.live k e) p h = let less : d < e = (let d_low : d < g = p.1.1 in omega (arith, h)) in ap (λ b. (m == k) && b) (less_differs d e less) ∙ and_no (m == k)
past_new n g (Name.commit d) (Name.commit e) p h = less_differs d e (omega (arith, p.1, h))
past_new n g (Name.segment m) (Name.source k) p h = refl
past_new n g (Name.segment m) (Name.live k e) p h = refl
past_new n g (Name.segment m) (Name.commit e) p h = refl
past_new n g (Name.source m) (Name.segment k) p h = refl
past_new n g (Name.source m) (Name.live k e) p h = refl
past_new n g (Name.source m) (Name.commit e) p h = refl
past_new n g (Name.live m d) (Name.segment k) p h = refl
past_new n g (Name.live m d) (Name.source k) p h = refl
past_new n g (Name.live m d) (Name.commit e) p h = refl
past_new n g (Name.commit d) (Name.segment k) p h = refl
past_new n g (Name.commit d) (Name.source k) p h = refl
past_new n g (Name.commit d) (Name.live k e) p h = refl

none_begun : (n g : ℕ) (begun : List Name) → AllByRecursion (IsNew n g) begun → (q : Name) → IsPast n g q → has_name q begun ≡ false
none_begun n g [] a q p = refl
none_begun n g (b ∷ begun) a q p = rw (past_new n g q b p a.0) (none_begun n g begun a.1 q p)

-- ---- calls

pub refusals_store : RefusalsStore
refusals_store begun l new fs gs sound ok call fresh leaves =
    let stays : AreStored gs l = files_stay l fs gs ok (spared (IsPast l.next_segment l.next_generation) begun (names_used l) fs gs leaves (none_begun l.next_segment l.next_generation begun fresh) sound.fresh) in
    subst (AreStored gs) (sym call.rest) (record { portions = stays.portions; views = stays.views; commits = stays.commits; merging = stays.merging })

pub writes_store : WritesStore
writes_store l w fs ok = record { portions = written l.portions ok.portions; views = ok.views; commits = ok.commits; merging = ok.merging }
  where
    written : (ps : List Portion) → AllByRecursion (IsStored fs l.schema) ps → AllByRecursion (IsStored fs l.schema) (portions_after w ps)
    written [] a = tt
    written (p ∷ ps) a = (record { segment = record { bytes = a.0.segment.bytes; there = a.0.segment.there; spelled = a.0.segment.spelled }; source = a.0.source }, written ps a.1)

pub flushes_store : FlushesStore
flushes_store l new fs gs sound ok call leaves there =
    let stays : AreStored gs l = files_stay l fs gs ok (spared (IsPast l.next_segment l.next_generation) (names_of_portion (all_live l.next_segment l.buffered)) (names_used l) fs gs leaves (new_portion l.next_segment l.next_generation) sound.fresh) in
    subst (AreStored gs) (sym call.rest) (record {
      portions = All-both (IsStored gs l.schema) l.portions (all_live l.next_segment l.buffered ∷ []) stays.portions (there, tt);
      views = stays.views;
      commits = stays.commits;
      merging = stays.merging;
    })

pub records_store : RecordsStore
records_store l new fs ok call = subst (AreStored fs) (sym call.rest) (record {
  portions = ok.portions;
  views = All-both (λ v. AllByRecursion (IsStored fs l.schema) v.portions) _ (recorded_view_now l ∷ []) (All-kept (λ v. AllByRecursion (IsStored fs l.schema) v.portions) _ l.views ok.views) (ok.portions, tt);
  commits = ok.commits;
  merging = ok.merging;
})

pub prunes_store : PrunesStore
prunes_store n l new fs ok call = subst (AreStored fs) (sym call.rest) (record {
  portions = ok.portions;
  views = All-kept (λ v. AllByRecursion (IsStored fs l.schema) v.portions) _ l.views ok.views;
  commits = ok.commits;
  merging = ok.merging;
})

pub unsnaps_store : UnsnapsStore
unsnaps_store g l new fs ok call = subst (AreStored fs) (sym call.rest) (record {
  portions = ok.portions;
  views = ok.views;
  commits = All-kept (IsCommitStored fs l.schema) _ l.commits ok.commits;
  merging = ok.merging;
})

pub begun_store : BegunStore
begun_store index k l new fs gs sound ok call leaves there =
    let stays : AreStored gs l = files_stay l fs gs ok (spared (IsPast l.next_segment l.next_generation) (Name.source l.next_segment ∷ []) (names_used l) fs gs leaves (new_source l.next_segment l.next_generation) sound.fresh) in
    subst (AreStored gs) (sym call.rest) (record { portions = stays.portions; views = stays.views; commits = stays.commits; merging = there })

-- what stays where only files of the merge in the making change
module _ (m : Merging) (l : Ledger) (fs gs : FileBytes) (but : List Name) (sound : IsLedger l) (ok : AreStored fs l) (making : l.merging ≡ Some m) (leaves : ChangesOnly but fs gs) (new : (q : Name) → IsOther m.number q → has_name q but ≡ false) where
  alone : IsAlone (Some m) l.portions l.views l.commits
  alone = subst (λ o. IsAlone o l.portions l.views l.commits) making sound.alone

  spare_portions : SparesFiles (flat_map names_of_portion l.portions) fs gs
  spare_portions = spared (IsOther m.number) but _ fs gs leaves new alone.portions

  others_portions : AllByRecursion (IsStored gs l.schema) l.portions
  others_portions = portions_stay fs gs l.schema l.portions spare_portions ok.portions

  others_views : AllByRecursion (λ v. AllByRecursion (IsStored gs l.schema) v.portions) l.views
  others_views = views_stay fs gs l.schema l.views (spared (IsOther m.number) but _ fs gs leaves new alone.views) ok.views

  others_commits : AllByRecursion (IsCommitStored gs l.schema) l.commits
  others_commits = commits_stay fs gs l.schema l.commits (spared (IsOther m.number) but _ fs gs leaves new alone.commits) ok.commits

pub copies_store : CopiesStore
copies_store m l new fs gs sound ok call leaves there =
    let but : List Name = Name.source m.number ∷ [] in
    subst (AreStored gs) (sym call.rest) (record {
      portions = others_portions m l fs gs but sound ok call.making leaves (other_source m.number);
      views = others_views m l fs gs but sound ok call.making leaves (other_source m.number);
      commits = others_commits m l fs gs but sound ok call.making leaves (other_source m.number);
      merging = there;
    })

other_both : (n : ℕ) (q : Name) → IsOther n q → has_name q (Name.source n ∷ Name.segment n ∷ []) ≡ false
other_both n (Name.segment m) p = rw (differs m n p) refl
other_both n (Name.source m) p = rw (differs m n p) refl
other_both n (Name.live m d) p = refl
other_both n (Name.commit d) p = refl

pub ends_store : EndsStore
ends_store m l new fs gs sound ok call leaves =
    let but : List Name = Name.source m.number ∷ Name.segment m.number ∷ [] in
    subst (AreStored gs) (sym call.rest) (record {
      portions = others_portions m l fs gs but sound ok call.making leaves (other_both m.number);
      views = others_views m l fs gs but sound ok call.making leaves (other_both m.number);
      commits = others_commits m l fs gs but sound ok call.making leaves (other_both m.number);
      merging = tt;
    })

pub merges_store : MergesStore
merges_store m l new fs gs sound ok call leaves there =
    let but : List Name = Name.segment m.number ∷ [] in
    let k : ℕ = length m.inputs in
    let kept : fs (Name.source m.number) ≡ Some (joined_sources m.kept) = subst (IsMergeStored fs) call.making ok.merging in
    let source : gs (Name.source m.number) ≡ Some (joined_sources m.kept) = leaves (Name.source m.number) refl ∙ kept in
    let P : Portion → Type 0 = IsStored gs l.schema in
    let all : AllByRecursion P l.portions = others_portions m l fs gs but sound ok call.making leaves (other_segment m.number) in
    let one = All-split P (take m.index l.portions) _ (subst (AllByRecursion P) (three l.portions m.index k) all) in
    let two = All-split P (take k (drop m.index l.portions)) (drop (m.index + k) l.portions) one.1 in
    subst (AreStored gs) (sym call.rest) (record {
      portions = All-both P (take m.index l.portions) _ one.0 (All-both P (merged m.kept (settled m l.portions)) (drop (m.index + k) l.portions) (mid m.kept (λ s. record { segment = s; source = source }) there) two.1);
      views = others_views m l fs gs but sound ok call.making leaves (other_segment m.number);
      commits = others_commits m l fs gs but sound ok call.making leaves (other_segment m.number);
      merging = tt;
    })
  where
    mid : (rs : List Record) → (IsSegmentStored gs l.schema (settled m l.portions) → IsStored gs l.schema (settled m l.portions))
        → AllByRecursion (IsSegmentStored gs l.schema) (merged rs (settled m l.portions)) → AllByRecursion (IsStored gs l.schema) (merged rs (settled m l.portions))
    mid [] f a = tt
    mid (r ∷ rs) f a = (f a.0, tt)

-- ---- COMMIT

all_true : (bs : List Bool) → list_all (λ b. b) bs ≡ true → AllByRecursion (λ b. b ≡ true) bs
all_true [] e = tt
all_true (true ∷ bs) e = (refl, all_true bs e)
all_true (false ∷ bs) e = absurd (let no : false ≡ true = e in cc)

same_bool : (b c : Bool) → cond b c (not c) ≡ true → b ≡ c
same_bool true c e = sym e
same_bool false true e = absurd (let no : false ≡ true = e in cc)
same_bool false false e = refl

and_both : (a b : Bool) → (a && b) ≡ true → (a ≡ true) × (b ≡ true)
and_both true b e = (refl, e)
and_both false b e = absurd (let no : false ≡ true = e in cc)

same_live_is : (bs cs : List Bool) → same_live bs cs ≡ true → bs ≡ cs
same_live_is [] [] e = refl
same_live_is [] (c ∷ cs) e = absurd (let no : false ≡ true = e in cc)
same_live_is (b ∷ bs) [] e = absurd (let no : false ≡ true = e in cc)
same_live_is (b ∷ bs) (c ∷ cs) e = let k = and_both (cond b c (not c)) (same_live bs cs) e in ap₂ (λ (x : Bool) (xs : List Bool). x ∷ xs) (same_bool b c k.0) (same_live_is bs cs k.1)

same_number : (a b : ℕ) → (a == b) ≡ true → a ≡ b
same_number a b e = elim (eqb_tells a b) [ inl h ↦ h.1 | inr h ↦ absurd (let no : false ≡ true = sym h.0 ∙ e in cc) ]

module _ (gs : FileBytes) (p : Portion) where
  stored_at : Listed → Type 0
  stored_at x = IsLiveStored gs x

  moved : (x : Listed) → x.portion.number ≡ p.number → x.portion.live ≡ p.live → IsLiveStored gs x → IsLiveStored gs (record { portion = p; file = x.file })
  moved x n e h = record {
    bytes = h.bytes;
    there = ap (λ k. gs (Name.live k x.file)) (sym n) ∙ h.there;
    spelled = subst (λ (r : LiveRows). SpellsLive h.bytes r) (λ i. record { number = n i; generation = x.file; live = e i }) h.spelled;
  }

  -- a live set that some commit has is in the file of it
  found : (xs : List Listed) → AllByRecursion (HasLive gs) xs → (portion_file_in xs p == 0) ≡ false → IsLiveStored gs (record { portion = p; file = portion_file_in xs p })
  found [] a e = absurd (let no : true ≡ false = e in cc)
  found (x ∷ xs) a e = by ((x.portion.number == p.number) && same_live x.portion.live p.live) refl (found xs a.1) e
    where
      by : (b : Bool) → ((x.portion.number == p.number) && same_live x.portion.live p.live) ≡ b → ((portion_file_in xs p == 0) ≡ false → IsLiveStored gs (record { portion = p; file = portion_file_in xs p }))
          → (cond b x.file (portion_file_in xs p) == 0) ≡ false → IsLiveStored gs (record { portion = p; file = cond b x.file (portion_file_in xs p) })
      by true h rest e =
          let k = and_both (x.portion.number == p.number) (same_live x.portion.live p.live) h in
          moved x (same_number x.portion.number p.number k.0) (same_live_is x.portion.live p.live k.1) (subst (λ c. cond c (AllByRecursion (λ b. b ≡ true) x.portion.live) (IsLiveStored gs x)) e a.0)
      by false h rest e = rest e

  has_live : (xs : List Listed) (g : ℕ) → 0 < g → AllByRecursion (HasLive gs) xs → (portion_file_for xs g p ≡ g → IsLiveStored gs (record { portion = p; file = g })) → HasLive gs (record { portion = p; file = portion_file_for xs g p })
  has_live xs g some a own = by (all_alive p.live) refl (portion_file_in xs p == 0) refl own
    where
      has_own : IsLiveStored gs (record { portion = p; file = g }) → HasLive gs (record { portion = p; file = g })
      has_own h = subst (λ c. cond c (AllByRecursion (λ b. b ≡ true) p.live) (IsLiveStored gs (record { portion = p; file = g }))) (sym (differs g 0 (λ e. omega (arith, some, e)))) h

      by : (b : Bool) → all_alive p.live ≡ b → (c : Bool) → (portion_file_in xs p == 0) ≡ c → (cond b 0 (cond c g (portion_file_in xs p)) ≡ g → IsLiveStored gs (record { portion = p; file = g }))
          → HasLive gs (record { portion = p; file = cond b 0 (cond c g (portion_file_in xs p)) })
      by true e c k h = all_true p.live e
      by false e true k h = has_own (h refl)
      by false e false k h = subst (λ c. cond c (AllByRecursion (λ b. b ≡ true) p.live) (IsLiveStored gs (record { portion = p; file = portion_file_in xs p }))) (sym k) (found xs a k)

newest_live : (gs : FileBytes) (schema : Schema) (o : Option LedgerCommit) (cs : List LedgerCommit) → AllByRecursion (HasLive gs) (listed_in o) → AllByRecursion (IsCommitStored gs schema) cs → AllByRecursion (HasLive gs) (listed_in (last_or o cs))
newest_live gs schema o [] h a = h
newest_live gs schema o (c ∷ cs) h a = newest_live gs schema (Some c) cs a.0.live a.1

pub commits_store : CommitsStore
commits_store text l new fs gs sound ok call leaves there own =
    let g : ℕ = l.next_generation in
    let xs : List Listed = newest_listed l.commits in
    let stays : AreStored gs l = files_stay l fs gs ok (spared (IsPast l.next_segment g) (files_begun l) (names_used l) fs gs leaves (new_commit l.next_segment g l.portions) sound.fresh) in
    let reused : AllByRecursion (HasLive gs) xs = newest_live gs l.schema None l.commits tt stays.commits in
    subst (AreStored gs) (sym call.rest) (record {
      portions = stays.portions;
      views = stays.views;
      commits = All-both (IsCommitStored gs l.schema) _ (commit_of text l ∷ []) (All-kept (IsCommitStored gs l.schema) _ l.commits stays.commits)
          (record { commit = there; portions = segments l.portions stays.portions; live = lives l.portions own reused }, tt);
      merging = stays.merging;
    })
  where
    segments : (ps : List Portion) → AllByRecursion (IsStored gs l.schema) ps → AllByRecursion {X = Listed} (λ x. IsStored gs l.schema x.portion) (map (λ p. record { portion = p; file = portion_file_for (newest_listed l.commits) l.next_generation p }) ps)
    segments [] a = tt
    segments (p ∷ ps) a = (a.0, segments ps a.1)

    lives : (ps : List Portion) → AllByRecursion (λ p. portion_file_for (newest_listed l.commits) l.next_generation p ≡ l.next_generation → IsLiveStored gs (record { portion = p; file = l.next_generation })) ps → AllByRecursion (HasLive gs) (newest_listed l.commits)
        → AllByRecursion (HasLive gs) (map (λ p. record { portion = p; file = portion_file_for (newest_listed l.commits) l.next_generation p }) ps)
    lives [] a r = tt
    lives (p ∷ ps) a r = (has_live gs p (newest_listed l.commits) l.next_generation sound.numbers.1 r a.0, lives ps a.1 r)

-- ---- sweeps

same_self : (q : Name) → same_file_name q q ≡ true
same_self (Name.segment n) = grind (arith, nat_tests)
same_self (Name.source n) = grind (arith, nat_tests)
same_self (Name.live n d) = let a : (n == n) ≡ true = grind (arith, nat_tests) in let b : (d == d) ≡ true = grind (arith, nat_tests) in rw (a, b) refl
same_self (Name.commit g) = grind (arith, nat_tests)

pub each_used : (before names : List Name) → AllByRecursion (λ q. 0 < times q (before ++ names)) names
each_used before [] = tt
each_used before (x ∷ names) = (
  (let one : times x (x ∷ []) ≡ 1 = rw (same_self x) refl in omega (arith, times-append x before (x ∷ names), times-append x (x ∷ []) names, one)),
  subst (λ ns. AllByRecursion (λ q. 0 < times q ns) names) (append_assoc before (x ∷ []) names) (each_used (before ++ x ∷ []) names),
)

pub sweeps_spare : SweepsSpare
sweeps_spare l fs gs sound swept = All-weaken (λ q. 0 < times q (names_used l)) (λ q. gs q ≡ fs q) (λ q h. swept q (subst (λ n. 0 < n) (sym (sound.users q)) h)) (names_used l) (each_used [] (names_used l))
