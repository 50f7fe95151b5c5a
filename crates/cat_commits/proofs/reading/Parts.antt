-- The parts of a leaf, and leaves in a list.
use Rattle.std.proofs.Common.{◌≡◌, ◌≢◌, ℕ, zero, suc, ◌+◌, ◌<◌, ◌≤◌, ◌==◌, List, [], ◌∷◌, ◌++◌, length, get_or, take, map, Bool, true, false, cond, replicate, Some, None, refl, sym, ◌∙◌, ap, subst, arith, inl, inr}
use Rattle.std.specs.Prelude.{All, AllPairs, ◌⊎◌}
use Rattle.std.specs.List.{AllByRecursion, HoldsAt, flat_map}
use Rattle.std.proofs.lemmas.Bool.Decides.{eqb_tells}
use Rattle.std.proofs.lemmas.List.{take_more}
use Rattle.std.proofs.lemmas.List.Elements.{All-from_recursion}
use Rattle.cat_directory.specs.Devices.{Told}
use Rattle.cat_directory.specs.declared.name.FileName.{FileName}
use Rattle.cat_directory.specs.declared.name.FileName.TheVariants as file
use Rattle.cat_model.specs.Text.{Text}
use Rattle.cat_model.specs.Item.{Schema}
use Rattle.cat_model.specs.Files.{Name}
use Rattle.cat_model.specs.CommitFile.{ListedSegment, CommitFile, SpellsCommit}
use Rattle.cat_model.specs.Layout.{SpellsSegment}
use Rattle.cat_model.specs.LiveFile.{LiveRows, SpellsLive}
use Rattle.cat_model.specs.Merged.{rows_of_all}
use Rattle.cat_model.specs.View.{Segment, Row, Leaf, IsView, live_rows}
use Rattle.cat_ledger_laws.specs.model.Portions.{Apart}
use Rattle.cat_ledger_laws.proofs.model.Commits.{AllPairs-from_Apart}
use Rattle.cat_ledger_laws.specs.model.Opening.{Restored, HasCommit, HasLiveFile, HasSources, IsLeafOf, AreLeavesOf, IsRestored, IsForeign}
use Rattle.cat_commits.specs.reading.Leaf.{IsSegmentReadAs, HasLiveRows}
use Rattle.cat_commits.specs.reading.Judged.{AreInOrder, Differ, live_ids}
use Rattle.cat_ledger_laws.specs.shape.Ties.{ToldFiles, IsTold}
use Rattle.cat_ledger_laws.specs.shape.OpeningLaws.{MayHold}
use Rattle.cat_commits.specs.reading.Told.{Tells}
use Rattle.cat_commits.proofs.reading.Agreeing.{SegmentsLaw, LiveLaw, one_text, segment_agrees}
use Rattle.cat_commits.proofs.reading.Ordered.{Apart-from_AllPairs}

-- what is told of each file is what is told of all
pub as_one : (old new : ToldFiles) → ((q : FileName) → new q ≡ old q) → new ≡ old
as_one old new same = λ i q. same q i

-- ---- a segment

pub told_there : (told : ToldFiles) (schema : Schema) (number : ℕ) (s : Segment) (r : IsSegmentReadAs (Tells told) schema number s) → told (file.Segment number) ≡ Some (Some r.segment.bytes)
told_there told schema number s r = subst (λ (n : ℕ). told (file.Segment n) ≡ Some (Some r.segment.bytes)) r.numbered r.segment.there

pub spells_told : (told : ToldFiles) (schema : Schema) (number : ℕ) (b : Text) (s : Segment) → IsTold (told (file.Segment number)) (Some b) → IsSegmentReadAs (Tells told) schema number s → SpellsSegment b s
spells_told told schema number b s may r =
    subst (λ (t : Text). SpellsSegment t s) (one_text (told (file.Segment number)) b r.segment.bytes may (told_there told schema number s r)) r.segment.spelled

-- another segment than was asked for
pub is_other : SegmentsLaw → (told : ToldFiles) (schema : Schema) (number : ℕ) (b : Text) (read s : Segment) → IsTold (told (file.Segment number)) (Some b) → SpellsSegment b read
    → ((read.number ≡ number) × (read.schema ≡ schema) → ⊥) → IsSegmentReadAs (Tells told) schema number s → ⊥
is_other law told schema number b read s may spelled not r =
    let same : read ≡ s = law b read s spelled (spells_told told schema number b s may r) in
    not (ap (λ (x : Segment). x.number) same ∙ r.numbered, ap (λ (x : Segment). x.schema) same ∙ r.fields)

pub read_as : (told : ToldFiles) (schema : Schema) (number : ℕ) (b : Text) (s : Segment) → IsTold (told (file.Segment number)) (Some b) → SpellsSegment b s → (s.number ≡ number) × (s.schema ≡ schema)
    → IsSegmentReadAs (MayHold told) schema number s
read_as told schema number b s may spelled is = record {
  numbered = is.0;
  fields = is.1;
  segment = record { bytes = b; there = subst (λ (n : ℕ). IsTold (told (file.Segment n)) (Some b)) (sym is.0) may; spelled = spelled };
}

-- ---- a live file

live_record : ℕ → ℕ → List Bool → LiveRows
live_record n d live = record { number = n; generation = d; live = live }

module _ (told : ToldFiles) (n d : ℕ) (b : Text) (may : IsTold (told (file.Live n d)) (Some b)) where
  -- the file that was read is that of the two numbers
  pub live_as : (rows : LiveRows) → SpellsLive b rows → rows.number ≡ n → rows.generation ≡ d → HasLiveFile (MayHold told) (record { number = n; file = d }) rows.live
  live_as rows spelled e f = record {
    bytes = b;
    there = may;
    spelled = subst (SpellsLive b) (λ i. record { number = e i; generation = f i; live = rows.live }) spelled;
  }

  pub live_spells : (live : List Bool) → HasLiveFile (Tells told) (record { number = n; file = d }) live → SpellsLive b (record { number = n; generation = d; live = live })
  live_spells live h = subst (λ (t : Text). SpellsLive t (record { number = n; generation = d; live = live })) (one_text (told (file.Live n d)) b h.bytes may h.there) h.spelled

  -- or of others, or of other rows
  pub live_other : LiveLaw → (rows : LiveRows) (count : ℕ) (live : List Bool) → SpellsLive b rows → ((rows.number ≡ n) × (rows.generation ≡ d) × (length rows.live ≡ count) → ⊥)
      → HasLiveFile (Tells told) (record { number = n; file = d }) live → length live ≡ count → ⊥
  live_other law rows count live spelled not h long =
      let same : rows ≡ record { number = n; generation = d; live = live } = law b rows (record { number = n; generation = d; live = live }) spelled (live_spells live h) in
      not (ap (λ (r : LiveRows). r.number) same, (ap (λ (r : LiveRows). r.generation) same), ap (λ (r : LiveRows). length r.live) same ∙ long)

-- ---- which rows are live

pub live_all : (holds : Name → Text → Type 0) (x : ListedSegment) (rows : ℕ) → 0 ≡ x.file → HasLiveRows holds x rows (replicate rows true)
live_all holds x rows e = subst (λ (f : ℕ). cond (f == 0) (replicate rows true ≡ replicate rows true) (HasLiveFile holds (record { number = x.number; file = f }) (replicate rows true))) e refl

pub live_of : (holds : Name → Text → Type 0) (x : ListedSegment) (rows n d : ℕ) (live : List Bool) → n ≡ x.number → d ≡ x.file → 0 < d → HasLiveFile holds (record { number = n; file = d }) live → HasLiveRows holds x rows live
live_of holds x rows n d live e f some h = by (eqb_tells x.file 0)
  where
    own : HasLiveFile holds x live
    own = subst (λ (y : ListedSegment). HasLiveFile holds y live) (λ i. record { number = e i; file = f i }) h

    by : (((x.file == 0) ≡ true) × (x.file ≡ 0)) ⊎ (((x.file == 0) ≡ false) × (x.file ≢ 0)) → HasLiveRows holds x rows live
    by (inl k) = absurd (omega (arith, f, some, k.1))
    by (inr k) = subst (λ (c : Bool). cond c (live ≡ replicate rows true) (HasLiveFile holds x live)) (sym k.0) own

pub of_live : (holds : Name → Text → Type 0) (x : ListedSegment) (rows n d : ℕ) (live : List Bool) → n ≡ x.number → d ≡ x.file → 0 < d → HasLiveRows holds x rows live → HasLiveFile holds (record { number = n; file = d }) live
of_live holds x rows n d live e f some h = by (eqb_tells x.file 0)
  where
    by : (((x.file == 0) ≡ true) × (x.file ≡ 0)) ⊎ (((x.file == 0) ≡ false) × (x.file ≢ 0)) → HasLiveFile holds (record { number = n; file = d }) live
    by (inl k) = absurd (omega (arith, f, some, k.1))
    by (inr k) =
        let own : HasLiveFile holds x live = subst (λ (c : Bool). cond c (live ≡ replicate rows true) (HasLiveFile holds x live)) k.0 h in
        subst (λ (y : ListedSegment). HasLiveFile holds y live) (λ i. record { number = sym e i; file = sym f i }) own

-- ---- a leaf

pub leaf_is : (holds : Name → Text → Type 0) (schema : Schema) (x : ListedSegment) (n rows : ℕ) (s : Segment) (live : List Bool) → n ≡ x.number → rows ≡ length s.rows
    → IsSegmentReadAs holds schema n s → HasLiveRows holds x rows live → length live ≡ rows → HasSources holds s → IsLeafOf holds schema x (record { segment = s; live = live })
leaf_is holds schema x n rows s live e long r h count sources = record {
  number = r.numbered ∙ e;
  fields = r.fields;
  segment = r.segment;
  live = subst (λ (k : ℕ). HasLiveRows holds x k live) long h;
  rows = count ∙ long;
  sources = sources;
}

pub leaf_read : (holds : Name → Text → Type 0) (schema : Schema) (x : ListedSegment) (n : ℕ) (leaf : Leaf) → n ≡ x.number → IsLeafOf holds schema x leaf → IsSegmentReadAs holds schema n leaf.segment
leaf_read holds schema x n leaf e is = record { numbered = is.number ∙ sym e; fields = is.fields; segment = is.segment }

-- the segment that was read is the leaf's
pub leaf_segment : SegmentsLaw → (told : ToldFiles) (schema : Schema) (x : ListedSegment) (n : ℕ) (s : Segment) (leaf : Leaf) → n ≡ x.number → IsSegmentReadAs (MayHold told) schema n s
    → IsLeafOf (Tells told) schema x leaf → leaf.segment ≡ s
leaf_segment law told schema x n s leaf e r is = segment_agrees law told s leaf.segment (is.number ∙ sym e ∙ sym r.numbered) r.segment is.segment

module _ (law : SegmentsLaw) (told now : ToldFiles) (schema : Schema) (x : ListedSegment) (n : ℕ) (s : Segment) (leaf : Leaf) (e : n ≡ x.number) (same : now ≡ told)
    (r : IsSegmentReadAs (MayHold told) schema n s) (is : IsLeafOf (Tells told) schema x leaf) where
  -- the live rows are refused that the leaf has
  pub live_refuted : (rows : ℕ) → rows ≡ length s.rows → ((live : List Bool) → HasLiveRows (Tells now) x rows live → length live ≡ rows → ⊥) → ⊥
  live_refuted rows long refuted =
      let seg : leaf.segment ≡ s = leaf_segment law told schema x n s leaf e r is in
      let count : length leaf.segment.rows ≡ rows = ap (λ (t : Segment). length t.rows) seg ∙ sym long in
      refuted leaf.live (subst (λ (t : ToldFiles). HasLiveRows (Tells t) x rows leaf.live) (sym same) (subst (λ (k : ℕ). HasLiveRows (Tells told) x k leaf.live) count is.live)) (is.rows ∙ count)

  -- or its sources
  pub sources_refuted : (HasSources (Tells now) s → ⊥) → ⊥
  sources_refuted refuted =
      refuted (subst (λ (t : ToldFiles). HasSources (Tells t) s) (sym same) (subst (λ (t : Segment). HasSources (Tells told) t) (leaf_segment law told schema x n s leaf e r is) is.sources))

pub parts_are : (told now then : ToldFiles) (schema : Schema) (x : ListedSegment) (n rows : ℕ) (s : Segment) (live : List Bool) → n ≡ x.number → now ≡ told → then ≡ told → rows ≡ length s.rows
    → IsSegmentReadAs (MayHold told) schema n s → HasLiveRows (MayHold now) x rows live → length live ≡ rows → HasSources (MayHold then) s
    → IsLeafOf (MayHold told) schema x (record { segment = s; live = live })
parts_are told now then schema x n rows s live e same again long r h count sources =
    leaf_is (MayHold told) schema x n rows s live e long r (subst (λ (t : ToldFiles). HasLiveRows (MayHold t) x rows live) same h) count (subst (λ (t : ToldFiles). HasSources (MayHold t) s) again sources)

-- ---- leaves

pub leaves_more : (holds : Name → Text → Type 0) (schema : Schema) (xs : List ListedSegment) (ls : List Leaf) (x : ListedSegment) (l : Leaf)
    → AreLeavesOf holds schema xs ls → IsLeafOf holds schema x l → AreLeavesOf holds schema (xs ++ x ∷ []) (ls ++ l ∷ [])
leaves_more holds schema [] [] x l h k = (k, tt)
leaves_more holds schema [] (m ∷ ls) x l h k = absurd h
leaves_more holds schema (y ∷ xs) [] x l h k = absurd h
leaves_more holds schema (y ∷ xs) (m ∷ ls) x l h k = (h.0, leaves_more holds schema xs ls x l h.1 k)

pub leaf_at : (holds : Name → Text → Type 0) (schema : Schema) (xs : List ListedSegment) (ls : List Leaf) (i : ℕ) (d : ListedSegment) → i < length xs
    → AreLeavesOf holds schema xs ls → (l : Leaf) × IsLeafOf holds schema (get_or xs i d) l
leaf_at holds schema [] ls i d lt h = absurd (omega (arith, lt))
leaf_at holds schema (x ∷ xs) [] i d lt h = absurd h
leaf_at holds schema (x ∷ xs) (l ∷ ls) zero d lt h = (l, h.0)
leaf_at holds schema (x ∷ xs) (l ∷ ls) (suc i) d lt h = leaf_at holds schema xs ls i d (omega (arith, lt)) h.1

-- the file of a segment that was read isn't told to be absent
pub not_absent : (t : Told) (b : Text) → IsTold t (Some b) → t ≢ Some None
not_absent None b may absent = let no : None ≡ Some None = absent in cc
not_absent (Some None) b may absent = cc
not_absent (Some (Some bs)) b may absent = cc

pub leaf_there : (told : ToldFiles) (schema : Schema) (x : ListedSegment) (l : Leaf) → IsLeafOf (MayHold told) schema x l → told (file.Segment x.number) ≢ Some None
leaf_there told schema x l is =
    subst (λ (n : ℕ). told (file.Segment n) ≢ Some None) is.number (not_absent (told (file.Segment l.segment.number)) is.segment.bytes is.segment.there)

pub read_there : (told : ToldFiles) (schema : Schema) (number n : ℕ) (s : Segment) → number ≡ n → IsSegmentReadAs (MayHold told) schema number s → told (file.Segment n) ≢ Some None
read_there told schema number n s is r =
    subst (λ (k : ℕ). told (file.Segment k) ≢ Some None) (r.numbered ∙ is) (not_absent (told (file.Segment s.number)) r.segment.bytes r.segment.there)

-- the next leaf can't be read
pub leaf_refuted : (told now : ToldFiles) (schema : Schema) (xs : List ListedSegment) (ls : List Leaf) (i : ℕ) (d : ListedSegment) → i < length xs → now ≡ told
    → ((l : Leaf) → IsLeafOf (Tells now) schema (get_or xs i d) l → ⊥) → AreLeavesOf (Tells told) schema xs ls → ⊥
leaf_refuted told now schema xs ls i d lt same refuted are =
    let found = leaf_at (Tells told) schema xs ls i d lt are in
    refuted found.0 (subst (λ (t : ToldFiles). IsLeafOf (Tells t) schema (get_or xs i d) found.0) (sym same) found.1)

-- or is
pub leaves_next : (told now : ToldFiles) (schema : Schema) (xs : List ListedSegment) (ls new : List Leaf) (l : Leaf) (i : ℕ) (d : ListedSegment) → i < length xs → now ≡ told
    → IsLeafOf (MayHold now) schema (get_or xs i d) l → AreLeavesOf (MayHold told) schema (take i xs) ls → new ≡ ls ++ l ∷ [] → AreLeavesOf (MayHold told) schema (take (i + 1) xs) new
leaves_next told now schema xs ls new l i d lt same is are e =
    subst (λ (m : List Leaf). AreLeavesOf (MayHold told) schema (take (i + 1) xs) m) (sym e)
    (subst (λ (ys : List ListedSegment). AreLeavesOf (MayHold told) schema ys (ls ++ l ∷ [])) (sym (take_more xs i d lt))
    (leaves_more (MayHold told) schema (take i xs) ls (get_or xs i d) l are (subst (λ (t : ToldFiles). IsLeafOf (MayHold t) schema (get_or xs i d) l) same is)))

-- the first listed segment's file is there where another is looked for: the leaf of each before was read
pub first_there : (told now : ToldFiles) (schema : Schema) (xs : List ListedSegment) (ls : List Leaf) (i : ℕ) (d : ListedSegment) → i < length xs → now ≡ told
    → AreLeavesOf (MayHold told) schema (take i xs) ls → now (file.Segment (get_or xs i d).number) ≢ Some None
    → (0 < length xs) × HoldsAt (λ x. told (file.Segment x.number) ≢ Some None) xs 0
first_there told now schema [] ls i d lt same are there = absurd (omega (arith, lt))
first_there told now schema (x ∷ xs) ls zero d lt same are there = (omega arith, λ e absent. there (subst (λ (t : ToldFiles). t (file.Segment x.number) ≡ Some None) (sym same) absent))
first_there told now schema (x ∷ xs) [] (suc i) d lt same are there = absurd are
first_there told now schema (x ∷ xs) (l ∷ ls) (suc i) d lt same are there = (omega arith, λ e. leaf_there told schema x l are.0)

-- ---- a view

numbers_differ : (holds : Name → Text → Type 0) (schema : Schema) (x : ListedSegment) (l : Leaf) (xs : List ListedSegment) (ls : List Leaf) → IsLeafOf holds schema x l → AreLeavesOf holds schema xs ls
    → AllByRecursion (λ (y : ListedSegment). x.number ≢ y.number) xs → AllByRecursion (λ (m : Leaf). l.segment.number ≢ m.segment.number) ls
numbers_differ holds schema x l [] [] is h a = tt
numbers_differ holds schema x l [] (m ∷ ls) is h a = absurd h
numbers_differ holds schema x l (y ∷ xs) [] is h a = absurd h
numbers_differ holds schema x l (y ∷ xs) (m ∷ ls) is h a = (λ e. a.0 (sym is.number ∙ e ∙ h.0.number), numbers_differ holds schema x l xs ls is h.1 a.1)

numbers_apart : (holds : Name → Text → Type 0) (schema : Schema) (xs : List ListedSegment) (ls : List Leaf) → AreLeavesOf holds schema xs ls
    → Apart (λ (a b : ListedSegment). a.number ≢ b.number) xs → Apart (λ (a b : Leaf). a.segment.number ≢ b.segment.number) ls
numbers_apart holds schema [] [] h a = tt
numbers_apart holds schema [] (l ∷ ls) h a = absurd h
numbers_apart holds schema (x ∷ xs) [] h a = absurd h
numbers_apart holds schema (x ∷ xs) (l ∷ ls) h a = (numbers_differ holds schema x l xs ls h.0 h.1 a.0, numbers_apart holds schema xs ls h.1 a.1)

each_leaf : (holds : Name → Text → Type 0) (schema : Schema) (P : Leaf → Type 0) → ((x : ListedSegment) (l : Leaf) → IsLeafOf holds schema x l → P l)
    → (xs : List ListedSegment) (ls : List Leaf) → AreLeavesOf holds schema xs ls → AllByRecursion P ls
each_leaf holds schema P f [] [] h = tt
each_leaf holds schema P f [] (l ∷ ls) h = absurd h
each_leaf holds schema P f (x ∷ xs) [] h = absurd h
each_leaf holds schema P f (x ∷ xs) (l ∷ ls) h = (f x l h.0, each_leaf holds schema P f xs ls h.1)

apart_ids : (rows : List Row) → Apart (λ (a b : Text). a ≢ b) (map (λ (r : Row). r.id) rows) → Apart (λ (a b : Row). a.id ≢ b.id) rows
apart_ids [] h = tt
apart_ids (r ∷ rows) h = (all_ids rows h.0, apart_ids rows h.1)
  where
    all_ids : (rows : List Row) → AllByRecursion (λ (b : Text). r.id ≢ b) (map (λ (r : Row). r.id) rows) → AllByRecursion (λ (b : Row). r.id ≢ b.id) rows
    all_ids [] h = tt
    all_ids (s ∷ rows) h = (h.0, all_ids rows h.1)

ids_apart : (rows : List Row) → Apart (λ (a b : Row). a.id ≢ b.id) rows → Apart (λ (a b : Text). a ≢ b) (map (λ (r : Row). r.id) rows)
ids_apart [] h = tt
ids_apart (r ∷ rows) h = (all_ids rows h.0, ids_apart rows h.1)
  where
    all_ids : (rows : List Row) → AllByRecursion (λ (b : Row). r.id ≢ b.id) rows → AllByRecursion (λ (b : Text). r.id ≢ b) (map (λ (r : Row). r.id) rows)
    all_ids [] h = tt
    all_ids (s ∷ rows) h = (h.0, all_ids rows h.1)

pub view_of_leaves : (holds : Name → Text → Type 0) (schema : Schema) (token : ℕ) (xs : List ListedSegment) (ls : List Leaf) → AreLeavesOf holds schema xs ls
    → AllPairs (λ (a b : ListedSegment). a.number ≢ b.number) xs → AreInOrder token (rows_of_all ls) → Differ (live_ids ls) → IsView (record { schema = schema; leaves = ls; token = token })
view_of_leaves holds schema token xs ls h numbers order ids = record {
  numbers = AllPairs-from_Apart _ ls (numbers_apart holds schema xs ls h (Apart-from_AllPairs (λ (a b : ListedSegment). a.number ≢ b.number) xs numbers));
  schemas = All-from_recursion _ ls (each_leaf holds schema (λ l. l.segment.schema ≡ schema) (λ x l is. is.fields) xs ls h);
  live = All-from_recursion _ ls (each_leaf holds schema (λ l. length l.live ≡ length l.segment.rows) (λ x l is. is.rows) xs ls h);
  rising = order.rising;
  distinct = AllPairs-from_Apart _ (flat_map live_rows ls) (apart_ids (flat_map live_rows ls) (Apart-from_AllPairs (λ (a b : Text). a ≢ b) (live_ids ls) ids));
}

-- what a view's leaves are judged by
pub view_judged : (view_schema : Schema) (token : ℕ) (ls : List Leaf) → IsView (record { schema = view_schema; leaves = ls; token = token }) → All (λ (r : Row). r.number ≤ token) (rows_of_all ls)
    → AreInOrder token (rows_of_all ls) × Differ (live_ids ls)
view_judged schema token ls view seen = (
  record { rising = view.rising; seen = seen },
  AllPairs-from_Apart (λ (a b : Text). a ≢ b) (live_ids ls) (ids_apart (flat_map live_rows ls) (Apart-from_AllPairs (λ (a b : Row). a.id ≢ b.id) (flat_map live_rows ls) view.distinct)),
)

-- ---- a commit

abbrev pub CommitsLaw : Type 0
CommitsLaw = (bytes : List ℕ) (one two : CommitFile) → SpellsCommit bytes one → SpellsCommit bytes two → one ≡ two

pub commit_spells : (told : ToldFiles) (g : ℕ) (b : Text) (c : CommitFile) → IsTold (told (file.Commit g)) (Some b) → HasCommit (Tells told) g c → SpellsCommit b c
commit_spells told g b c may h = subst (λ (t : Text). SpellsCommit t c) (one_text (told (file.Commit g)) b h.bytes may h.there) h.spelled

pub commit_agrees : CommitsLaw → (told : ToldFiles) (g : ℕ) (a b : CommitFile) → HasCommit (MayHold told) g a → HasCommit (Tells told) g b → b ≡ a
commit_agrees law told g a b may tells = law may.bytes b a (commit_spells told g may.bytes b may.there tells) may.spelled

-- leaves that can't be read, or that are refused, are no restored commit's
pub not_restored : CommitsLaw → (told : ToldFiles) (schema : Schema) (g : ℕ) (c : CommitFile) (r : Restored) → HasCommit (MayHold told) g c
    → ((ls : List Leaf) → AreLeavesOf (Tells told) schema c.segments ls → AreInOrder c.token (rows_of_all ls) → Differ (live_ids ls) → ⊥) → IsRestored (Tells told) schema g r → ⊥
not_restored law told schema g c r has refuted is =
    let same : r.commit ≡ c = commit_agrees law told g c r.commit has is.commit in
    let judged = view_judged schema r.commit.token r.leaves is.view is.seen in
    refuted r.leaves (subst (λ (d : CommitFile). AreLeavesOf (Tells told) schema d.segments r.leaves) same is.leaves)
    (subst (λ (d : CommitFile). AreInOrder d.token (rows_of_all r.leaves)) same judged.0) judged.1

pub not_foreign : CommitsLaw → (told : ToldFiles) (schema : Schema) (g : ℕ) (c : CommitFile) → HasCommit (MayHold told) g c → c.schema ≡ schema → IsForeign (Tells told) schema g → ⊥
not_foreign law told schema g c has same foreign = foreign.2 (ap (λ (d : CommitFile). d.schema) (commit_agrees law told g c foreign.0 has foreign.1) ∙ same)

-- what was read of the listed segments is what is told of them
pub listed_leaves : (told now : ToldFiles) (schema : Schema) (xs ys : List ListedSegment) (ls : List Leaf) → now ≡ told → ys ≡ xs → AreLeavesOf (MayHold now) schema ys ls → AreLeavesOf (MayHold told) schema xs ls
listed_leaves told now schema xs ys ls same e are =
    subst (λ (t : ToldFiles). AreLeavesOf (MayHold t) schema xs ls) same (subst (λ (zs : List ListedSegment). AreLeavesOf (MayHold now) schema zs ls) e are)

pub told_leaves : (told now : ToldFiles) (schema : Schema) (xs ys : List ListedSegment) (ls : List Leaf) → now ≡ told → ys ≡ xs → AreLeavesOf (Tells told) schema xs ls → AreLeavesOf (Tells now) schema ys ls
told_leaves told now schema xs ys ls same e are =
    subst (λ (t : ToldFiles). AreLeavesOf (Tells t) schema ys ls) (sym same) (subst (λ (zs : List ListedSegment). AreLeavesOf (Tells told) schema zs ls) (sym e) are)

-- the leaves that were read were refused, so no others may be there
pub other_leaves : (token : ℕ) (ls read seen : List Leaf) (well : Bool) → ls ≡ read → seen ≡ read → ((well ≡ true → AreInOrder token (rows_of_all seen) × Differ (live_ids seen))
    × (AreInOrder token (rows_of_all seen) × Differ (live_ids seen) → well ≡ true)) → well ≡ false → AreInOrder token (rows_of_all ls) → Differ (live_ids ls) → ⊥
other_leaves token ls read seen well same value judged not order ids =
    let yes : well ≡ true = judged.1 (subst (λ (m : List Leaf). AreInOrder token (rows_of_all m) × Differ (live_ids m)) (same ∙ sym value) (order, ids)) in
    absurd (let never : true ≡ false = sym yes ∙ not in cc)

pub restored_is : (told : ToldFiles) (schema : Schema) (g : ℕ) (c : CommitFile) (read seen : List Leaf) → HasCommit (MayHold told) g c → c.schema ≡ schema → AreLeavesOf (MayHold told) schema c.segments read
    → seen ≡ read → AreInOrder c.token (rows_of_all seen) × Differ (live_ids seen) → IsRestored (MayHold told) schema g (record { commit = c; leaves = read })
restored_is told schema g c read seen has same are value judged =
    let own : AreInOrder c.token (rows_of_all read) × Differ (live_ids read) = subst (λ (m : List Leaf). AreInOrder c.token (rows_of_all m) × Differ (live_ids m)) value judged in
    record {
      commit = has;
      fields = same;
      leaves = are;
      view = view_of_leaves (MayHold told) schema c.token c.segments read are has.spelled.form.distinct own.0 own.1;
      seen = own.0.seen;
    }
