-- What is carried is what the model says of a directory: views and commits are held, in words of names, bytes, rows and records.
use Rattle.std.proofs.Common.{◌≡◌, ℕ, suc, ◌+◌, List, [], ◌∷◌, ◌++◌, length, map, sum, Bool, true, false, ◌&&◌, cond, Some, None, refl, sym, ◌∙◌, ap, ap₂, subst, arith, inl, inr}
use Rattle.std.specs.Prelude.{◌==◌, ◌≤◌, All, Option, replicate}
use Rattle.std.specs.List.{flat_map, list_any, AllByRecursion}
use Rattle.std.specs.Option.{option_map_or}
use Rattle.std.proofs.lemmas.Bool.Decides.{eqb_tells}
use Rattle.std.proofs.lemmas.List.{length-append}
use Rattle.std.proofs.lemmas.List.Elements.{All-from_recursion}
use Rattle.std.proofs.lemmas.List.Sums.{sum_by-cons}
use Rattle.cat_model.specs.CommitFile.{ListedSegment}
use Rattle.cat_model.specs.Files.{Name}
use Rattle.cat_model.specs.Item.{Record, Schema}
use Rattle.cat_model.specs.LiveFile.{SpellsLive}
use Rattle.cat_model.specs.Merged.{rows_of_all}
use Rattle.cat_model.specs.Run.{Run, writes, has, holds, view_tokens, commits, commit_under, committed_at, is_kept, text_under}
use Rattle.cat_model.specs.State.{Commit, Hold, RecordedTable, IsCommitOf, StandsFor, has_hold, held_in, table_recorded, told_by}
use Rattle.cat_model.specs.Table.{Opened, CommitText, table}
use Rattle.cat_model.specs.Text.{Text}
use Rattle.cat_model.specs.View.{Leaf, Row, row_of, records_in, selected, sourced}
use Rattle.cat_model.proofs.Lists.{All-weaken, All-each}
use Rattle.cat_model.specs.Told.{MayHave, ToldByName}
use Rattle.cat_model.specs.Opens.{HoldsCommit, HoldsRecords, MayHaveSources}
use Rattle.cat_model.specs.Promised.{HoldsGeneration, HoldsPromised, HoldsToken, HoldsView}
use Rattle.cat_ledger_laws.specs.model.Ledger.{Listed, Ledger, LedgerCommit, IsLedger, IsPutRecord, IsWholeCommit, IsWholeView, AreWhole, RecordedView, commit_file, commit_shown, listed_segment, portions_in, state_of, view_shown}
use Rattle.cat_model.specs.Restored.{AreLeavesOf, HasSegment, HasLiveFile, IsLeafOf}
use Rattle.cat_ledger_laws.specs.model.Portions.{Portion, all_records, leaf_of, live_records, records_of, segment_of, view_of}
use Rattle.cat_ledger_laws.specs.model.Stored.{FileBytes, AreStored, HasLive, IsCommitStored, IsLiveStored, IsSegmentStored, IsStored, joined_sources}
use Rattle.cat_ledger_laws.proofs.model.Shown.{All-map, all-shown, whole_are_views}
use Rattle.cat_ledger_laws.proofs.model.Sourced.{portions_are_read}
use Rattle.cat_ledger_laws.proofs.model.Views.{length-map}
use Rattle.cat_ledger_laws.specs.shape.Shapes.{Shape, shape_of}
use Rattle.cat_ledger_laws.specs.shape.Ties.{ToldFiles, IsTold, FilesAgree, Carries, file_of}
use Rattle.cat_ledger_laws.proofs.shape.Leaves.{any_map}
use Rattle.cat_ledger_laws.specs.lines.HeldLaws.{PromisedAreHeld}
use Rattle.cat_ledger_laws.specs.lines.RunLaws.{Stands}
use Rattle.cat_ledger_laws.proofs.lines.Found.{some_that, any_weaker, All-unmap, All-and}

-- ---- sources

-- the bytes of a file, none where it is absent
abbrev pub text_in : Option Text → Text
text_in None = []
text_in (Some bytes) = bytes

-- records have as many bytes of sources as their rows say
pub length_joined : (rs : List Record) → length (joined_sources rs) ≡ sum (map (λ (r : Row). r.length) (map row_of rs))
length_joined [] = refl
length_joined (r ∷ rs) =
    length-append r.item.source (joined_sources rs)
    ∙ ap (λ n. length r.item.source + n) (length_joined rs)
    ∙ sym (sum_by-cons (λ n. n) (length r.item.source) (map (λ (r : Row). r.length) (map row_of rs)))

-- a list that is all true is what `replicate` makes
all_replicate : (bs : List Bool) → AllByRecursion (λ b. b ≡ true) bs → bs ≡ replicate (length bs) true
all_replicate [] a = refl
all_replicate (b ∷ bs) a = ap₂ (λ (c : Bool) (cs : List Bool). c ∷ cs) a.0 (all_replicate bs a.1)

module _ (told : ToldFiles) (files : FileBytes) (agrees : FilesAgree told files) where
  abbrev pub by_name : ToldByName
  by_name = λ q. told (file_of q)

  abbrev pub source_at : ℕ → Text
  source_at = λ n. text_in (files (Name.source n))

  -- a file that is there may have its bytes
  pub may_have : (q : Name) (bytes : Text) → files q ≡ Some bytes → MayHave by_name q bytes
  may_have q bytes e = subst (λ content. IsTold (told (file_of q)) content) e (agrees q)

  module _ (schema : Schema) where
    source_is : (p : Portion) → IsStored files schema p → source_at p.number ≡ joined_sources p.records
    source_is p h = ap text_in h.source

    may_have_source : (p : Portion) → IsStored files schema p → MayHaveSources by_name source_at (leaf_of schema p)
    may_have_source p h = record {
      there = subst (MayHave by_name (Name.source p.number)) (sym (source_is p h)) (may_have (Name.source p.number) (joined_sources p.records) h.source);
      size = ap length (source_is p h) ∙ length_joined p.records;
    }

    sources_held : (ps : List Portion) → AllByRecursion (IsStored files schema) ps → AllByRecursion (MayHaveSources by_name source_at) (map (leaf_of schema) ps)
    sources_held [] a = tt
    sources_held (p ∷ ps) a = (may_have_source p a.0, sources_held ps a.1)

    records_shown : (ps : List Portion) → AllByRecursion (IsStored files schema) ps
        → records_of ps ≡ flat_map (λ leaf. selected leaf.live (sourced leaf.segment.rows (source_at leaf.segment.number))) (map (leaf_of schema) ps)
    records_shown [] a = refl
    records_shown (p ∷ ps) a =
        ap₂ (λ (x y : List Record). x ++ y) (sym (ap live_records (portions_are_read schema p source_at (source_is p a.0)))) (records_shown ps a.1)

    pub held_records : (token : ℕ) (ps : List Portion) → AllByRecursion (IsStored files schema) ps → HoldsRecords by_name (view_of schema token ps) (records_of ps)
    held_records token ps a = record { sources = source_at; stand = sources_held ps a; shown = records_shown ps a }

    held_segment : (p : Portion) → IsSegmentStored files schema p → HasSegment (MayHave by_name) (segment_of schema p)
    held_segment p h = record { bytes = h.bytes; there = may_have (Name.segment p.number) h.bytes h.there; spelled = h.spelled }

    held_segments : (ps : List Portion) → AllByRecursion (IsStored files schema) ps → AllByRecursion (λ (leaf : Leaf). HasSegment (MayHave by_name) leaf.segment) (map (leaf_of schema) ps)
    held_segments [] a = tt
    held_segments (p ∷ ps) a = (held_segment p a.0.segment, held_segments ps a.1)

    -- ---- views

    pub held_view : (token : ℕ) (ps : List Portion) → AreWhole schema token ps → AllByRecursion (IsStored files schema) ps → HoldsView by_name (view_of schema token ps) (records_of ps)
    held_view token ps whole a = record {
      is_view = (whole_are_views schema token ps whole).0;
      segments = held_segments ps a;
      table = held_records token ps a;
    }

    -- ---- commits

    held_live : (x : Listed) (n : ℕ) (b : Bool) → length x.portion.live ≡ n → cond b (AllByRecursion (λ c. c ≡ true) x.portion.live) (IsLiveStored files x)
        → cond b (x.portion.live ≡ replicate n true) (HasLiveFile (MayHave by_name) (listed_segment x) x.portion.live)
    held_live x n true long h = all_replicate x.portion.live h ∙ ap (λ m. replicate m true) long
    held_live x n false long h = record { bytes = h.bytes; there = may_have (Name.live x.portion.number x.file) h.bytes h.there; spelled = h.spelled }

    held_leaf : (x : Listed) → length x.portion.live ≡ length x.portion.records → IsStored files schema x.portion → HasLive files x
        → IsLeafOf (MayHave by_name) schema (listed_segment x) (leaf_of schema x.portion)
    held_leaf x long h live =
        let rows : length x.portion.live ≡ length (map row_of x.portion.records) = long ∙ sym (length-map row_of x.portion.records) in record {
          number = refl;
          fields = refl;
          segment = held_segment x.portion h.segment;
          live = held_live x (length (map row_of x.portion.records)) (x.file == 0) rows live;
          rows = rows;
          sources = record {
            bytes = joined_sources x.portion.records;
            there = may_have (Name.source x.portion.number) (joined_sources x.portion.records) h.source;
            size = length_joined x.portion.records;
          };
        }

    held_leaves : (xs : List Listed) → AllByRecursion (λ (p : Portion). length p.live ≡ length p.records) (map (λ (x : Listed). x.portion) xs)
        → AllByRecursion (λ (x : Listed). IsStored files schema x.portion) xs → AllByRecursion (HasLive files) xs
        → AreLeavesOf (MayHave by_name) schema (map listed_segment xs) (map (leaf_of schema) (map (λ (x : Listed). x.portion) xs))
    held_leaves [] long h live = tt
    held_leaves (x ∷ xs) long h live = (held_leaf x long.0 h.0 live.0, held_leaves xs long.1 h.1 live.1)

    pub stored_portions : (xs : List Listed) → AllByRecursion (λ (x : Listed). IsStored files schema x.portion) xs → AllByRecursion (IsStored files schema) (map (λ (x : Listed). x.portion) xs)
    stored_portions [] a = tt
    stored_portions (x ∷ xs) a = (a.0, stored_portions xs a.1)

    rows_seen : (n : ℕ) (rs : List Record) → AllByRecursion (IsPutRecord schema n) rs → AllByRecursion (λ (row : Row). row.number ≤ n) (map row_of rs)
    rows_seen n [] a = tt
    rows_seen n (r ∷ rs) a = (a.0.seen, rows_seen n rs a.1)

    pub held_commit : (c : LedgerCommit) → AreWhole schema c.token (portions_in c) → IsCommitStored files schema c
        → HoldsCommit by_name schema c.generation (commit_file schema c) (records_of (portions_in c))
    held_commit c whole h =
        let leaves : List Leaf = map (leaf_of schema) (portions_in c) in record {
          leaves = leaves;
          held = record {
            commit = record {
              bytes = h.commit.bytes;
              there = may_have (Name.commit c.generation) h.commit.bytes h.commit.there;
              spelled = h.commit.spelled;
              number = refl;
            };
            fields = refl;
            leaves = held_leaves c.listed whole.portions.lengths h.portions h.live;
            view = (whole_are_views schema c.token (portions_in c) whole).0;
            seen = All-from_recursion (λ (row : Row). row.number ≤ c.token) (rows_of_all leaves)
                (subst (AllByRecursion (λ (row : Row). row.number ≤ c.token)) (all-shown schema (portions_in c)) (rows_seen c.token (all_records (portions_in c)) whole.rows));
          };
          table = held_records c.token (portions_in c) (stored_portions c.listed h.portions);
        }

-- ---- of a run

equals : (a b : ℕ) → (a == b) ≡ true → a ≡ b
equals a b h = elim (eqb_tells a b) [ inl e ↦ e.1 | inr e ↦ absurd (let no : false ≡ true = sym e.0 ∙ h in cc) ]

and_second : (a b : Bool) → (a && b) ≡ true → b ≡ true
and_second true b h = h
and_second false b h = absurd (let no : false ≡ true = h in cc)

module _ (told : ToldFiles) (from : Opened) (run : Run) (l : Ledger) (files : FileBytes) (agrees : FilesAgree told files) (ok : IsLedger l)
    (all_stored : AreStored files l) (stands : StandsFor from run (state_of l)) (fields : l.schema ≡ from.start.schema) where
  -- what is so of each recorded view
  record IsViewOf (v : RecordedView) : Type 0 where
    whole : IsWholeView l.schema l.count v
    stored : AllByRecursion (IsStored files l.schema) v.portions
    table : records_of v.portions ≡ table from.start (writes run) v.token

  tables : AllByRecursion (λ (v : RecordedView). records_of v.portions ≡ table from.start (writes run) v.token) l.views
  tables =
      All-unmap (λ (v : RecordedTable). v.table ≡ table from.start (writes run) v.token) view_shown l.views
      (subst (λ vs. AllByRecursion (λ (v : RecordedTable). v.table ≡ table from.start (writes run) v.token) vs) (sym stands.shows.views_now)
      (All-map (λ (v : RecordedTable). v.table ≡ table from.start (writes run) v.token) (table_recorded from.start run) (view_tokens from.start run)
      (All-each (λ (t : ℕ). table from.start (writes run) t ≡ table from.start (writes run) t) (λ t. refl) (view_tokens from.start run))))

  views : AllByRecursion IsViewOf l.views
  views = joined l.views ok.views all_stored.views tables
    where
      joined : (vs : List RecordedView) → AllByRecursion (IsWholeView l.schema l.count) vs
          → AllByRecursion (λ (v : RecordedView). AllByRecursion (IsStored files l.schema) v.portions) vs
          → AllByRecursion (λ (v : RecordedView). records_of v.portions ≡ table from.start (writes run) v.token) vs → AllByRecursion IsViewOf vs
      joined [] a b c = tt
      joined (v ∷ vs) a b c = (record { whole = a.0; stored = b.0; table = c.0 }, joined vs a.1 b.1 c.1)

  recorded_held : (t : ℕ) → list_any (λ (v : RecordedView). v.token == t) l.views ≡ true → HoldsToken (λ q. told (file_of q)) from run t
  recorded_held t h =
      let x = some_that IsViewOf (λ (v : RecordedView). v.token == t) l.views views h in
      let is : x.0.token ≡ t = equals x.0.token t x.2 in
      subst (λ n. HoldsToken (λ q. told (file_of q)) from run n) is
      (subst (λ schema. (leaves : List Leaf) × HoldsView (λ q. told (file_of q)) (record { schema = schema; leaves = leaves; token = x.0.token }) (table from.start (writes run) x.0.token)) fields
      (map (leaf_of l.schema) x.0.portions, subst (HoldsView (λ q. told (file_of q)) (view_of l.schema x.0.token x.0.portions)) x.1.table (held_view told files agrees l.schema x.0.token x.0.portions x.1.whole.1 x.1.stored)))

  tokens_told : (t : ℕ) → list_any (λ (v : RecordedView). v.token == t) l.views ≡ has (view_tokens from.start run) t
  tokens_told t =
      sym (any_map view_shown (λ (v : RecordedTable). v.token == t) l.views)
      ∙ ap (list_any (λ (v : RecordedTable). v.token == t)) stands.shows.views_now
      ∙ any_map (table_recorded from.start run) (λ (v : RecordedTable). v.token == t) (view_tokens from.start run)

  session_held : (session t : ℕ) → holds session t run ≡ true → HoldsToken (λ q. told (file_of q)) from run t
  session_held session t h =
      let had : has_hold l.holds session t ≡ true = stands.shows.holds_now session t ∙ h in
      let held : held_in l.holds t ≡ true = any_weaker (λ (x : Hold). (x.session == session) && (x.token == t)) (λ (x : Hold). x.token == t) (λ x e. and_second (x.session == session) (x.token == t) e) l.holds had in
      recorded_held t (sym (any_map view_shown (λ (v : RecordedTable). v.token == t) l.views) ∙ ok.sound.held t held)

  -- what is so of each kept commit
  record IsCommitHeld (c : LedgerCommit) : Type 0 where
    whole : IsWholeCommit l.schema l.count c
    stored : IsCommitStored files l.schema c
    of_run : IsCommitOf from.start run (commit_shown c)
    text : commit_under (commits from run) c.generation ≡ Some (told_by (commit_shown c))
    reaches : committed_at from run c.generation ≡ Some c.token

  kept : AllByRecursion IsCommitHeld l.commits
  kept =
      joined l.commits ok.commits all_stored.commits (All-unmap (IsCommitOf from.start run) commit_shown l.commits stands.keeps.tables)
      (All-unmap (λ (c : Commit). commit_under (commits from run) c.generation ≡ Some (told_by c)) commit_shown l.commits stands.keeps.texts)
      (All-unmap (λ (c : Commit). committed_at from run c.generation ≡ Some c.token) commit_shown l.commits stands.keeps.reaches)
    where
      joined : (cs : List LedgerCommit) → AllByRecursion (IsWholeCommit l.schema l.count) cs → AllByRecursion (IsCommitStored files l.schema) cs
          → AllByRecursion (λ (c : LedgerCommit). IsCommitOf from.start run (commit_shown c)) cs
          → AllByRecursion (λ (c : LedgerCommit). commit_under (commits from run) c.generation ≡ Some (told_by (commit_shown c))) cs
          → AllByRecursion (λ (c : LedgerCommit). committed_at from run c.generation ≡ Some c.token) cs → AllByRecursion IsCommitHeld cs
      joined [] a b c d e = tt
      joined (x ∷ xs) a b c d e = (record { whole = a.0; stored = b.0; of_run = c.0; text = d.0; reaches = e.0 }, joined xs a.1 b.1 c.1 d.1 e.1)

  commit_held : (g : ℕ) → is_kept from run g ≡ true → HoldsGeneration (λ q. told (file_of q)) from run g
  commit_held g h =
      let has_one : list_any (λ (c : LedgerCommit). g == c.generation) l.commits ≡ true = sym (any_map commit_shown (λ (c : Commit). g == c.generation) l.commits) ∙ stands.keeps.kept g ∙ h in
      let x = some_that IsCommitHeld (λ (c : LedgerCommit). g == c.generation) l.commits kept has_one in
      let is : g ≡ x.0.generation = equals g x.0.generation x.2 in record {
        commit = commit_file l.schema x.0;
        held = subst (λ n. HoldsCommit (λ q. told (file_of q)) from.start.schema n (commit_file l.schema x.0) (table from.start (writes run) x.0.token)) (sym is)
            (subst (HoldsCommit (λ q. told (file_of q)) from.start.schema x.0.generation (commit_file l.schema x.0)) x.1.of_run.table
            (subst (λ schema. HoldsCommit (λ q. told (file_of q)) schema x.0.generation (commit_file l.schema x.0) (records_of (portions_in x.0))) fields
            (held_commit told files agrees l.schema x.0 x.1.whole.1 x.1.stored)));
        text = sym (ap (text_under (commits from run)) is ∙ ap (λ o. option_map_or (λ (c : CommitText). c.text) o []) x.1.text);
        reaches = ap (committed_at from run) is ∙ x.1.reaches;
      }

  promised : HoldsPromised (λ q. told (file_of q)) from run
  promised = record { recorded = λ t h. recorded_held t (tokens_told t ∙ h); held = session_held; kept = commit_held }

pub promised_are_held : PromisedAreHeld
promised_are_held told s from run same stands =
    let c : Carries told s stands.ledger stands.files = stands.carries in
    promised told from run stands.ledger stands.files c.agrees c.sound c.stored stands.stands (ap (λ (x : Shape). x.schema) c.shape ∙ same)
