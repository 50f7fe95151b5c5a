-- Opening over shapes: the ledger whose segments, sources and commit stand in files.
use Rattle.std.proofs.Common.{◌≡◌, ◌≢◌, ℕ, suc, ◌+◌, ◌<◌, ◌≤◌, List, [], ◌∷◌, ◌++◌, map, length, take, drop, sum, Bool, true, false, cond, Some, None, option_map, refl, sym, ◌∙◌, ap, ap₂, subst, arith, inl, inr}
use Rattle.std.specs.Prelude.{◌==◌, All, AllPairs, replicate}
use Rattle.std.specs.List.{flat_map, find, AllByRecursion}
use Rattle.std.proofs.lemmas.Bool.Decides.{eqb_tells}
use Rattle.std.proofs.lemmas.List.{length-drop, take-append-drop}
use Rattle.std.proofs.lemmas.List.Elements.{recursion_from_All, All-replicate}
use Rattle.std.proofs.lemmas.List.Sums.{sum_by-cons}
use Rattle.cat_model.specs.Text.{Text}
use Rattle.cat_model.specs.Item.{Schema, Record, AreFields}
use Rattle.cat_model.specs.Files.{Name}
use Rattle.cat_model.specs.Layout.{SpellsSegment}
use Rattle.cat_model.specs.LiveFile.{SpellsLive}
use Rattle.cat_model.specs.CommitFile.{ListedSegment, SpellsCommit, commit_needs}
use Rattle.cat_model.specs.Merged.{rows_of_all}
use Rattle.cat_model.specs.State.{IsFresh}
use Rattle.cat_model.specs.View.{Row, Leaf, IsView, row_of, live_rows, sourced, needs}
use Rattle.cat_model.proofs.Lists.{All-weaken, All-both}
use Rattle.cat_model.proofs.Sources.{rows-sourced}
use Rattle.cat_directory.specs.declared.name.FileName.TheVariants as file
use Rattle.cat_ledger_laws.specs.model.Portions.{Portion, Apart, all_records, records_of, leaf_of}
use Rattle.cat_ledger_laws.specs.model.Users.{Used, users_of, times}
use Rattle.cat_ledger_laws.specs.model.Ledger.{Listed, LedgerCommit, Ledger, IsLedger, IsPutRecord, AreWhole, IsPast, commit_file, listed_segment, portions_in, state_of, names_of_portion, names_of_listed, names_of_commit}
use Rattle.cat_ledger_laws.specs.model.Stored.{FileBytes, IsStored, IsLiveStored, HasLive, IsCommitStored, joined_sources}
use Rattle.cat_ledger_laws.specs.model.Calls.{IsOpened, IsEmpty}
use Rattle.cat_ledger_laws.specs.model.Laws.{IsCountedRight}
use Rattle.cat_ledger_laws.specs.model.Opening.{Restored, IsLeafOf, HasLiveFile, AreLeavesOf, IsRestored}
use Rattle.cat_ledger_laws.proofs.model.Users.{All-split, All-flat, All-of_four, times-append, times-four}
use Rattle.cat_ledger_laws.proofs.model.Shown.{All-map, Apart-map, all-shown, rows-shown}
use Rattle.cat_ledger_laws.proofs.model.Commits.{opened_are_fresh}
use Rattle.cat_ledger_laws.proofs.model.Opened.{empty_are_fresh, opened_store}
use Rattle.cat_ledger_laws.proofs.model.Written.{commits_need_their_names}
use Rattle.cat_ledger_laws.specs.shape.Shapes.{ListedLive, shape_of, listed_live, names_of_leaves}
use Rattle.cat_ledger_laws.specs.shape.Ties.{ToldFiles, IsTold, Carries}
use Rattle.cat_ledger_laws.specs.shape.OpeningLaws.{MayHold, view_at, listed_with, opened_at, IsCountedAt, OpenedMake, OpenedKeep, empty_at, IsCountedEmpty, EmptyMake, EmptyKeep}
use Rattle.cat_ledger_laws.proofs.shape.Told.{as_told, agrees_as_told, there_as_told}
use Rattle.cat_ledger_laws.proofs.shape.Leaves.{leaves_named, map_twice}

-- ---- lists

Apart-from_AllPairs : {X : Type 0} (R : X → X → Type 0) (xs : List X) → AllPairs R xs → Apart R xs
Apart-from_AllPairs R [] h = tt
Apart-from_AllPairs R (x ∷ xs) h = (
  recursion_from_All (R x) xs (λ i d within. h 0 (suc i) d (omega arith) (omega (arith, within))),
  Apart-from_AllPairs R xs (λ i j d less within. h (suc i) (suc j) d (omega (arith, less)) (omega (arith, within))),
)

All-unmap : {X Y : Type 0} (P : Y → Type 0) (f : X → Y) (xs : List X) → AllByRecursion P (map f xs) → AllByRecursion (λ x. P (f x)) xs
All-unmap P f [] a = tt
All-unmap P f (x ∷ xs) a = (a.0, All-unmap P f xs a.1)

Apart-unmap : {X Y : Type 0} (R : Y → Y → Type 0) (f : X → Y) (xs : List X) → Apart R (map f xs) → Apart (λ a b. R (f a) (f b)) xs
Apart-unmap R f [] a = tt
Apart-unmap R f (x ∷ xs) a = (All-unmap (R (f x)) f xs a.0, Apart-unmap R f xs a.1)

All-zip : {X : Type 0} (P Q : X → Type 0) (xs : List X) → AllByRecursion P xs → AllByRecursion Q xs → AllByRecursion (λ x. P x × Q x) xs
All-zip P Q [] a b = tt
All-zip P Q (x ∷ xs) a b = ((a.0, b.0), All-zip P Q xs a.1 b.1)

map_alike : {X Y : Type 0} (P : X → Type 0) (f g : X → Y) → ((x : X) → P x → f x ≡ g x) → (xs : List X) → AllByRecursion P xs → map f xs ≡ map g xs
map_alike P f g e [] a = refl
map_alike P f g e (x ∷ xs) a = ap₂ (λ y ys. y ∷ ys) (e x a.0) (map_alike P f g e xs a.1)

-- ---- sources

nothing_long : (bytes : Text) → length bytes ≡ 0 → [] ≡ bytes
nothing_long [] e = refl
nothing_long (b ∷ bytes) e = absurd (omega (arith, e))

-- records that were read from as many bytes as they need have just these
joined_back : (rows : List Row) (bytes : Text) → length bytes ≡ sum (map (λ (r : Row). r.length) rows) → joined_sources (sourced rows bytes) ≡ bytes
joined_back [] bytes e = nothing_long bytes e
joined_back (row ∷ rows) bytes e =
    let all : length bytes ≡ row.length + sum (map (λ (r : Row). r.length) rows) = omega (arith, e, sum_by-cons (λ n. n) row.length (map (λ (r : Row). r.length) rows)) in
    ap (λ l. take row.length bytes ++ l) (joined_back rows (drop row.length bytes) (omega (arith, all, length-drop row.length bytes))) ∙ take-append-drop row.length bytes

length_sourced : (rows : List Row) (bytes : Text) → length (sourced rows bytes) ≡ length rows
length_sourced [] bytes = refl
length_sourced (row ∷ rows) bytes = ap suc (length_sourced rows (drop row.length bytes))

-- ---- the files of one segment

-- a segment of the commit, with what its files hold
record Part : Type 0 where
  listed : ListedSegment
  leaf : Leaf
  segment : Text
  source : Text
  live : Text

abbrev IsLiveTold : ToldFiles → ℕ → ℕ → List Bool → Text → Type 0
IsLiveTold told n d live bytes = IsTold (told (file.Live n d)) (Some bytes) × SpellsLive bytes (record { number = n; generation = d; live = live })

record IsPart (told : ToldFiles) (schema : Schema) (p : Part) : Type 0 where
  number : p.leaf.segment.number ≡ p.listed.number
  fields : p.leaf.segment.schema ≡ schema
  segment : IsTold (told (file.Segment p.leaf.segment.number)) (Some p.segment)
  spelled : SpellsSegment p.segment p.leaf.segment
  source : IsTold (told (file.Source p.leaf.segment.number)) (Some p.source)
  size : length p.source ≡ sum (map (λ (r : Row). r.length) p.leaf.segment.rows)
  rows : length p.leaf.live ≡ length p.leaf.segment.rows
  live : cond (p.listed.file == 0) (AllByRecursion (λ b. b ≡ true) p.leaf.live) (IsLiveTold told p.leaf.segment.number p.listed.file p.leaf.live p.live)

all_true : (n : ℕ) → AllByRecursion (λ (b : Bool). b ≡ true) (replicate n true)
all_true n = recursion_from_All (λ (b : Bool). b ≡ true) (replicate n true) (All-replicate (λ (b : Bool). b ≡ true) n true refl)

part_of : (told : ToldFiles) (schema : Schema) (x : ListedSegment) (leaf : Leaf) → IsLeafOf (MayHold told) schema x leaf → (p : Part) × (p.listed ≡ x) × (p.leaf ≡ leaf) × IsPart told schema p
part_of told schema x leaf h = by (x.file == 0) refl h.live
  where
    made : (bytes : Text) → cond (x.file == 0) (AllByRecursion (λ b. b ≡ true) leaf.live) (IsLiveTold told leaf.segment.number x.file leaf.live bytes) → (p : Part) × (p.listed ≡ x) × (p.leaf ≡ leaf) × IsPart told schema p
    made bytes live = (
      record { listed = x; leaf = leaf; segment = h.segment.bytes; source = h.sources.bytes; live = bytes },
      refl,
      refl,
      record { number = h.number; fields = h.fields; segment = h.segment.there; spelled = h.segment.spelled; source = h.sources.there; size = h.sources.size; rows = h.rows; live = live },
    )

    by : (b : Bool) → (x.file == 0) ≡ b → cond b (leaf.live ≡ replicate (length leaf.segment.rows) true) (HasLiveFile (MayHold told) x leaf.live) → (p : Part) × (p.listed ≡ x) × (p.leaf ≡ leaf) × IsPart told schema p
    by true e live = made [] (subst (λ b. cond b (AllByRecursion (λ b. b ≡ true) leaf.live) (IsLiveTold told leaf.segment.number x.file leaf.live [])) (sym e) (subst (AllByRecursion (λ b. b ≡ true)) (sym live) (all_true (length leaf.segment.rows))))
    by false e live = made live.bytes (subst (λ b. cond b (AllByRecursion (λ b. b ≡ true) leaf.live) (IsLiveTold told leaf.segment.number x.file leaf.live live.bytes)) (sym e)
        (subst (λ n. IsLiveTold told n x.file leaf.live live.bytes) (sym h.number) (live.there, live.spelled)))

parts_of : (told : ToldFiles) (schema : Schema) (xs : List ListedSegment) (leaves : List Leaf) → AreLeavesOf (MayHold told) schema xs leaves
    → (ps : List Part) × (map (λ (p : Part). p.listed) ps ≡ xs) × (map (λ (p : Part). p.leaf) ps ≡ leaves) × AllByRecursion (IsPart told schema) ps
parts_of told schema [] [] h = ([], refl, refl, tt)
parts_of told schema [] (leaf ∷ leaves) h = absurd h
parts_of told schema (x ∷ xs) [] h = absurd h
parts_of told schema (x ∷ xs) (leaf ∷ leaves) h =
    let own = part_of told schema x leaf h.0 in
    let rest = parts_of told schema xs leaves h.1 in
    (own.0 ∷ rest.0, ap₂ (λ (y : ListedSegment) ys. y ∷ ys) own.1 rest.1, ap₂ (λ (y : Leaf) ys. y ∷ ys) own.2 rest.2, (own.3, rest.3))

-- ---- portions, and what memory has of them

abbrev portion_for : Part → Portion
portion_for p = record { number = p.leaf.segment.number; records = sourced p.leaf.segment.rows p.source; live = p.leaf.live }

abbrev listed_for : Part → Listed
listed_for p = record { portion = portion_for p; file = p.listed.file }

leaf_back : (told : ToldFiles) (schema : Schema) (p : Part) → IsPart told schema p → leaf_of schema (portion_for p) ≡ p.leaf
leaf_back told schema p h = λ i. record { segment = record { number = p.leaf.segment.number; schema = sym h.fields i; rows = rows-sourced p.leaf.segment.rows p.source (omega (arith, h.size)) i }; live = p.leaf.live }

module _ (told : ToldFiles) (schema : Schema) where
  leaves_back : (ps : List Part) → AllByRecursion (IsPart told schema) ps → map (leaf_of schema) (map portion_for ps) ≡ map (λ (p : Part). p.leaf) ps
  leaves_back ps a = map_twice portion_for (leaf_of schema) ps ∙ map_alike (IsPart told schema) (λ p. leaf_of schema (portion_for p)) (λ (p : Part). p.leaf) (leaf_back told schema) ps a

  segments_back : (ps : List Part) → AllByRecursion (IsPart told schema) ps → map listed_segment (map listed_for ps) ≡ map (λ (p : Part). p.listed) ps
  segments_back ps a = map_twice listed_for listed_segment ps ∙ map_alike (IsPart told schema) (λ p. listed_segment (listed_for p)) (λ (p : Part). p.listed) (λ p h i. record p.listed { number = h.number i }) ps a

  listed_back : (ps : List Part) → AllByRecursion (IsPart told schema) ps → map listed_live (map listed_for ps) ≡ listed_with (map (λ (p : Part). p.listed) ps) (map (λ (p : Part). p.leaf) ps)
  listed_back [] a = refl
  listed_back (p ∷ ps) a = ap₂ (λ (n : ℕ) (rest : List ListedLive). record { number = n; live = p.leaf.live; file = p.listed.file } ∷ rest) a.0.number (listed_back ps a.1)

  -- the rows of one segment have the fields, and are of writes
  rows_right : (p : Part) → IsPart told schema p → AllByRecursion (λ (r : Row). (1 ≤ r.number) × AreFields schema r.fields) p.leaf.segment.rows
  rows_right p h =
      let rows : List Row = p.leaf.segment.rows in
      All-zip (λ (r : Row). 1 ≤ r.number) (λ (r : Row). AreFields schema r.fields) rows (recursion_from_All (λ (r : Row). 1 ≤ r.number) rows h.spelled.form.rows.positive)
      (recursion_from_All (λ (r : Row). AreFields schema r.fields) rows (subst (λ s. All (λ (r : Row). AreFields s r.fields) rows) h.fields h.spelled.form.rows.fields))

  whole : (token : ℕ) (ps : List Part) (leaves : List Leaf) → map (λ (p : Part). p.leaf) ps ≡ leaves → AllByRecursion (IsPart told schema) ps → IsView (record { schema = schema; leaves = leaves; token = token })
      → All (λ row. row.number ≤ token) (rows_of_all leaves) → AreWhole schema token (map portion_for ps)
  whole token ps leaves e a view seen =
      let qs : List Portion = map portion_for ps in
      let shown : map (leaf_of schema) qs ≡ leaves = leaves_back ps a ∙ e in
      let all : map row_of (all_records qs) ≡ rows_of_all leaves = all-shown schema qs ∙ ap rows_of_all shown in
      let live : map row_of (records_of qs) ≡ flat_map live_rows leaves = rows-shown schema qs ∙ ap (flat_map live_rows) shown in
      let right : AllByRecursion (λ (r : Row). (1 ≤ r.number) × AreFields schema r.fields) (rows_of_all leaves) =
      subst (λ ls. AllByRecursion (λ (r : Row). (1 ≤ r.number) × AreFields schema r.fields) (rows_of_all ls)) e
      (All-flat (λ (r : Row). (1 ≤ r.number) × AreFields schema r.fields) (λ (leaf : Leaf). leaf.segment.rows) (map (λ (p : Part). p.leaf) ps)
      (All-map (λ (leaf : Leaf). AllByRecursion (λ (r : Row). (1 ≤ r.number) × AreFields schema r.fields) leaf.segment.rows) (λ (p : Part). p.leaf) ps (All-weaken (IsPart told schema) _ rows_right ps a))) in
      let both : AllByRecursion (λ (r : Row). ((1 ≤ r.number) × AreFields schema r.fields) × (r.number ≤ token)) (rows_of_all leaves) =
      All-zip _ (λ (r : Row). r.number ≤ token) (rows_of_all leaves) right (recursion_from_All (λ (r : Row). r.number ≤ token) (rows_of_all leaves) seen) in
      record {
        portions = record {
          lengths = All-map (λ (p : Portion). length p.live ≡ length p.records) portion_for ps
              (All-weaken (IsPart told schema) (λ p. length p.leaf.live ≡ length (sourced p.leaf.segment.rows p.source)) (λ p h. h.rows ∙ sym (length_sourced p.leaf.segment.rows p.source)) ps a);
          numbers = Apart-map (λ (p q : Portion). p.number ≢ q.number) portion_for ps
              (Apart-unmap (λ (x y : Leaf). x.segment.number ≢ y.segment.number) (λ (p : Part). p.leaf) ps (subst (Apart (λ (x y : Leaf). x.segment.number ≢ y.segment.number)) (sym e) (Apart-from_AllPairs (λ (x y : Leaf). x.segment.number ≢ y.segment.number) leaves view.numbers)));
        };
        rows = All-weaken (λ (r : Record). ((1 ≤ r.number) × AreFields schema r.item.fields) × (r.number ≤ token)) (IsPutRecord schema token) (λ r h. record { positive = h.0.0; seen = h.1; item = h.0.1 }) (all_records qs)
            (All-unmap (λ (r : Row). ((1 ≤ r.number) × AreFields schema r.fields) × (r.number ≤ token)) row_of (all_records qs)
            (subst (AllByRecursion (λ (r : Row). ((1 ≤ r.number) × AreFields schema r.fields) × (r.number ≤ token))) (sym all) both));
        rising = Apart-unmap (λ (r s : Row). r.number < s.number) row_of (all_records qs) (subst (Apart (λ (r s : Row). r.number < s.number)) (sym all) (Apart-from_AllPairs (λ (r s : Row). r.number < s.number) (rows_of_all leaves) view.rising));
        ids = Apart-unmap (λ (r s : Row). r.id ≢ s.id) row_of (records_of qs) (subst (Apart (λ (r s : Row). r.id ≢ s.id)) (sym live) (Apart-from_AllPairs (λ (r s : Row). r.id ≢ s.id) (flat_map live_rows leaves) view.distinct));
      }

-- ---- the files

abbrev has_number : ℕ → Part → Bool
has_number n p = p.leaf.segment.number == n

-- what is thought of the files, where none is told
thought_of : List Part → Text → FileBytes
thought_of ps commit (Name.segment n) = option_map (λ (p : Part). p.segment) (find (has_number n) ps)
thought_of ps commit (Name.source n) = option_map (λ (p : Part). p.source) (find (has_number n) ps)
thought_of ps commit (Name.live n d) = option_map (λ (p : Part). p.live) (find (has_number n) ps)
thought_of ps commit (Name.commit g) = Some commit

same : (n : ℕ) → (n == n) ≡ true
same n = elim (eqb_tells n n) [ inl e ↦ e.0 | inr e ↦ absurd (e.1 refl) ]

differs : (a b : ℕ) → a ≢ b → (a == b) ≡ false
differs a b n = elim (eqb_tells a b) [ inl e ↦ absurd (n e.1) | inr e ↦ e.0 ]

IsFound : List Part → Part → Type 0
IsFound ps p = find (has_number p.leaf.segment.number) ps ≡ Some p

found : (ps : List Part) → Apart (λ (p q : Part). p.leaf.segment.number ≢ q.leaf.segment.number) ps → AllByRecursion (IsFound ps) ps
unfolding IsFound
found [] a = tt
found (p ∷ ps) a = (
  ap (λ b. cond b (Some p) (find (has_number p.leaf.segment.number) ps)) (same p.leaf.segment.number),
  All-weaken (λ q. (p.leaf.segment.number ≢ q.leaf.segment.number) × (find (has_number q.leaf.segment.number) ps ≡ Some q)) (λ q. find (has_number q.leaf.segment.number) (p ∷ ps) ≡ Some q)
      (λ q h. ap (λ b. cond b (Some p) (find (has_number q.leaf.segment.number) ps)) (differs p.leaf.segment.number q.leaf.segment.number h.0) ∙ h.1) ps
      (All-zip (λ q. p.leaf.segment.number ≢ q.leaf.segment.number) (λ q. find (has_number q.leaf.segment.number) ps ≡ Some q) ps a.0 (found ps a.1)),
)

module _ (told : ToldFiles) (schema : Schema) (ps : List Part) (commit : Text) where
  abbrev files_of : FileBytes
  files_of = as_told told (thought_of ps commit)

  part_stored : (p : Part) → IsPart told schema p × IsFound ps p → IsStored files_of schema (portion_for p)
  unfolding thought_of IsFound
  part_stored p h =
      let n : ℕ = p.leaf.segment.number in
      record {
        segment = record {
          bytes = p.segment;
          there = there_as_told told (thought_of ps commit) (Name.segment n) (Some p.segment) h.0.segment (ap (option_map (λ (p : Part). p.segment)) h.1);
          spelled = subst (SpellsSegment p.segment) (ap (λ (leaf : Leaf). leaf.segment) (sym (leaf_back told schema p h.0))) h.0.spelled;
        };
        source = there_as_told told (thought_of ps commit) (Name.source n) (Some p.source) h.0.source (ap (option_map (λ (p : Part). p.source)) h.1)
            ∙ ap (λ (bytes : Text). Some bytes) (sym (joined_back p.leaf.segment.rows p.source h.0.size));
      }

  live_stored : (p : Part) → IsPart told schema p × IsFound ps p → HasLive files_of (listed_for p)
  unfolding thought_of IsFound
  live_stored p h = by (p.listed.file == 0) h.0.live
    where
      by : (b : Bool) → cond b (AllByRecursion (λ b. b ≡ true) p.leaf.live) (IsLiveTold told p.leaf.segment.number p.listed.file p.leaf.live p.live) → cond b (AllByRecursion (λ b. b ≡ true) p.leaf.live) (IsLiveStored files_of (listed_for p))
      by true k = k
      by false k = record {
        bytes = p.live;
        there = there_as_told told (thought_of ps commit) (Name.live p.leaf.segment.number p.listed.file) (Some p.live) k.0 (ap (option_map (λ (p : Part). p.live)) h.1);
        spelled = k.1;
      }

-- ---- at a commit

module _ (told : ToldFiles) (schema : Schema) (generation : ℕ) (r : Restored) (users : List Used) (n g : ℕ) (h : IsRestored (MayHold told) schema generation r) (counted : IsCountedAt schema r users n g) where
  abbrev parts : (ps : List Part) × (map (λ (p : Part). p.listed) ps ≡ r.commit.segments) × (map (λ (p : Part). p.leaf) ps ≡ r.leaves) × AllByRecursion (IsPart told schema) ps
  parts = parts_of told schema r.commit.segments r.leaves h.leaves

  abbrev portions_at : List Portion
  portions_at = map portion_for parts.0

  abbrev commit_at : LedgerCommit
  commit_at = record { version = r.commit.version; generation = r.commit.generation; text = r.commit.text; token = r.commit.token; next = r.commit.next; listed = map listed_for parts.0 }

  abbrev ledger_at : Ledger
  ledger_at = record {
    schema = schema;
    portions = portions_at;
    buffered = [];
    count = r.commit.token;
    views = record { token = r.commit.token; portions = portions_at } ∷ [];
    holds = [];
    commits = commit_at ∷ [];
    taken = [];
    merging = None;
    users = users;
    next_segment = n;
    next_generation = g;
  }

  said_at : commit_file schema commit_at ≡ r.commit
  said_at = λ i. record r.commit { schema = sym h.fields i; segments = (segments_back told schema parts.0 parts.3 ∙ parts.1) i }

  leaves_at : map (leaf_of schema) portions_at ≡ r.leaves
  leaves_at = leaves_back told schema parts.0 parts.3 ∙ parts.2

  its_portions : portions_in commit_at ≡ portions_at
  its_portions = map_twice listed_for (λ (x : Listed). x.portion) parts.0

  opened_at_commit : IsOpened commit_at ledger_at
  opened_at_commit = record { portions = sym its_portions; buffered = refl; count = refl; views = refl; holds = refl; commits = refl; taken = refl; merging = refl }

  shape_at : shape_of ledger_at ≡ opened_at schema r users n g
  shape_at = λ i. record (opened_at schema r users n g) {
    leaves = leaves_at i;
    views = record { schema = schema; leaves = leaves_at i; token = r.commit.token } ∷ [];
    commits = said_at i ∷ [];
    listed = (listed_back told schema parts.0 parts.3 ∙ ap₂ listed_with parts.1 parts.2) i;
  }

  whole_at : AreWhole schema r.commit.token portions_at
  whole_at = whole told schema r.commit.token parts.0 r.leaves parts.2 parts.3 h.view h.seen

  named_at : names_of_commit commit_at ≡ commit_needs r.commit
  named_at = commits_need_their_names schema commit_at ∙ ap commit_needs said_at

  names_at : names_of_leaves r.leaves ≡ flat_map names_of_portion portions_at
  names_at = ap names_of_leaves (sym leaves_at) ∙ leaves_named schema portions_at

  portions_past : (P : Name → Type 0) (ps : List Part) → AllByRecursion P (flat_map names_of_listed (map listed_for ps)) → AllByRecursion P (flat_map names_of_portion (map portion_for ps))
  portions_past P [] a = tt
  portions_past P (p ∷ ps) a = let k = All-split P (names_of_listed (listed_for p)) (flat_map names_of_listed (map listed_for ps)) a in (k.0.0, (k.0.1.0, portions_past P ps k.1))

  counted_at : IsCountedRight ledger_at
  counted_at =
      let P : Name → Type 0 = IsPast n g in
      let names : List Name = flat_map names_of_portion portions_at in
      let past : AllByRecursion P (names_of_commit commit_at) = subst (AllByRecursion P) (sym named_at) (recursion_from_All P (commit_needs r.commit) counted.past) in
      let own : AllByRecursion P names = portions_past P parts.0 past.1 in
      let first : 0 < r.commit.generation = past.0.0 in
      let before : r.commit.generation < g = past.0.1 in
      record {
        users = λ q.
            let a : times q (names_of_leaves r.leaves) ≡ times q names = ap (times q) names_at in
            let b : times q (needs (view_at schema r)) ≡ times q names = ap (times q) names_at in
            let c : times q (names_of_commit commit_at) ≡ times q (commit_needs r.commit) = ap (times q) named_at in
            let sum : users_of users q ≡ times q (names_of_leaves r.leaves) + (times q (needs (view_at schema r)) + times q (commit_needs r.commit)) = counted.users q in
            omega (arith, sum, a, b, c, times-four q names (names ++ []) (names_of_commit commit_at ++ []) [], times-append q names [], times-append q (names_of_commit commit_at) []);
        fresh = All-of_four P names (names ++ []) (names_of_commit commit_at ++ []) [] (record { portions = own; views = All-both P names [] own tt; commits = All-both P (names_of_commit commit_at) [] past tt; merging = tt });
        numbers = (counted.some, omega (arith, before));
        fits = (h.commit.spelled.form.token, counted.left.0, counted.left.1);
      }

  stored_at : IsCommitStored (files_of told schema parts.0 h.commit.bytes) schema commit_at
  unfolding thought_of
  stored_at =
      let numbers : Apart (λ (p q : Part). p.leaf.segment.number ≢ q.leaf.segment.number) parts.0 =
      Apart-unmap (λ (x y : Leaf). x.segment.number ≢ y.segment.number) (λ (p : Part). p.leaf) parts.0
      (subst (Apart (λ (x y : Leaf). x.segment.number ≢ y.segment.number)) (sym parts.2) (Apart-from_AllPairs (λ (x y : Leaf). x.segment.number ≢ y.segment.number) r.leaves h.view.numbers)) in
      let all : AllByRecursion (λ p. IsPart told schema p × IsFound parts.0 p) parts.0 = All-zip (IsPart told schema) (IsFound parts.0) parts.0 parts.3 (found parts.0 numbers) in
      record {
        commit = record {
          bytes = h.commit.bytes;
          there = there_as_told told (thought_of parts.0 h.commit.bytes) (Name.commit r.commit.generation) (Some h.commit.bytes) (subst (λ d. IsTold (told (file.Commit d)) (Some h.commit.bytes)) (sym h.commit.number) h.commit.there) refl;
          spelled = subst (SpellsCommit h.commit.bytes) (sym said_at) h.commit.spelled;
        };
        portions = All-map (λ (x : Listed). IsStored (files_of told schema parts.0 h.commit.bytes) schema x.portion) listed_for parts.0
            (All-weaken (λ p. IsPart told schema p × IsFound parts.0 p) (λ p. IsStored (files_of told schema parts.0 h.commit.bytes) schema (portion_for p)) (part_stored told schema parts.0 h.commit.bytes) parts.0 all);
        live = All-map (HasLive (files_of told schema parts.0 h.commit.bytes)) listed_for parts.0
            (All-weaken (λ p. IsPart told schema p × IsFound parts.0 p) (λ p. HasLive (files_of told schema parts.0 h.commit.bytes) (listed_for p)) (live_stored told schema parts.0 h.commit.bytes) parts.0 all);
      }

  fresh_at : IsLedger ledger_at × IsFresh (state_of ledger_at)
  fresh_at = let k = opened_are_fresh commit_at ledger_at opened_at_commit (subst (AreWhole schema r.commit.token) (sym its_portions) whole_at) counted_at in (k.0, k.1)

  carried_at : Carries told (opened_at schema r users n g) ledger_at (files_of told schema parts.0 h.commit.bytes)
  carried_at = record {
    shape = shape_at;
    sound = fresh_at.0;
    stored = opened_store commit_at ledger_at (files_of told schema parts.0 h.commit.bytes) opened_at_commit stored_at;
    agrees = agrees_as_told told (thought_of parts.0 h.commit.bytes);
  }

pub opened_make : OpenedMake
opened_make told schema generation r users n g h counted = (
  ledger_at told schema generation r users n g h counted,
  files_of told schema (parts told schema generation r users n g h counted).0 h.commit.bytes,
  commit_at told schema generation r users n g h counted,
  said_at told schema generation r users n g h counted,
  opened_at_commit told schema generation r users n g h counted,
  (fresh_at told schema generation r users n g h counted).1,
  carried_at told schema generation r users n g h counted,
)

pub opened_keep : OpenedKeep
opened_keep told schema generation r users n g h counted = (
  ledger_at told schema generation r users n g h counted,
  shape_at told schema generation r users n g h counted,
  (fresh_at told schema generation r users n g h counted).0,
)

-- ---- where no commit is

module _ (schema : Schema) (users : List Used) (n g : ℕ) (counted : IsCountedEmpty users n g) where
  abbrev empty_ledger : Ledger
  empty_ledger = record {
    schema = schema;
    portions = [];
    buffered = [];
    count = 0;
    views = record { token = 0; portions = [] } ∷ [];
    holds = [];
    commits = [];
    taken = [];
    merging = None;
    users = users;
    next_segment = n;
    next_generation = g;
  }

  is_empty : IsEmpty empty_ledger
  is_empty = record { portions = refl; buffered = refl; count = refl; views = refl; holds = refl; commits = refl; taken = refl; merging = refl }

  empty_fresh : IsLedger empty_ledger × IsFresh (state_of empty_ledger)
  empty_fresh = let k = empty_are_fresh empty_ledger is_empty (record { users = counted.users; fresh = tt; numbers = counted.some; fits = (omega arith, counted.left.0, counted.left.1) }) in (k.0, k.1)

  empty_carried : (told : ToldFiles) → Carries told (empty_at schema users n g) empty_ledger (as_told told (λ q. None))
  empty_carried told = record { shape = refl; sound = empty_fresh.0; stored = record { portions = tt; views = (tt, tt); commits = tt; merging = tt }; agrees = agrees_as_told told (λ q. None) }

pub empty_make : EmptyMake
empty_make told schema users n g counted = (
  empty_ledger schema users n g counted,
  as_told told (λ q. None),
  is_empty schema users n g counted,
  (empty_fresh schema users n g counted).1,
  empty_carried schema users n g counted told,
)

pub empty_keep : EmptyKeep
empty_keep schema users n g counted = (empty_ledger schema users n g counted, refl, (empty_fresh schema users n g counted).0)
