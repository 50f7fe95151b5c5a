-- Writes, flushes, refusals and sweeps over shapes.
use Rattle.std.proofs.Common.{◌≡◌, ◌≢◌, ℕ, ◌+◌, ◌<◌, ◌≤◌, List, [], ◌∷◌, ◌++◌, map, Bool, true, false, ◌||◌, not, cond, Some, None, refl, sym, ◌∙◌, ap, subst, arith, append-nil}
use Rattle.std.specs.Prelude.{All}
use Rattle.std.specs.List.{flat_map, list_any, AllByRecursion}
use Rattle.std.proofs.lemmas.List.{map_push}
use Rattle.std.proofs.lemmas.List.Elements.{All-from_recursion}
use Rattle.std.proofs.lemmas.Slice.Eq.{bytes_eq-Decides}
use Rattle.cat_model.specs.Text.{Text, same_text}
use Rattle.cat_model.specs.Item.{Record}
use Rattle.cat_model.specs.Write.{Write}
use Rattle.cat_model.specs.Table.{without}
use Rattle.cat_model.specs.Limits.{last_number}
use Rattle.cat_model.specs.Files.{Name}
use Rattle.cat_model.specs.View.{Row, Leaf, row_of, live_rows}
use Rattle.cat_model.proofs.Lists.{All-weaken}
use Rattle.cat_directory.specs.Names.{name_of}
use Rattle.cat_ledger_laws.specs.model.Portions.{Portion, all_live, leaf_of, records_of, all_records, Apart, ArePortions}
use Rattle.cat_ledger_laws.specs.model.Leaves.{AreLeaves, has_live_id}
use Rattle.cat_ledger_laws.specs.model.Users.{users_of, has_name}
use Rattle.cat_ledger_laws.specs.model.Ledger.{Ledger, IsLedger, IsPutRecord, IsPast, IsNew, names_of_portion, names_of_view, names_of_commit, names_of_merging, table_of}
use Rattle.cat_ledger_laws.specs.model.Stored.{FileBytes, AreStored, joined_sources}
use Rattle.cat_ledger_laws.specs.model.Calls.{wrote, Flushed, MayLeave}
use Rattle.cat_ledger_laws.specs.model.Laws.{PutsItem}
use Rattle.cat_ledger_laws.proofs.model.Users.{All-split, Apart-split, All-four}
use Rattle.cat_ledger_laws.proofs.model.Flushes.{flushed, writes_are_written, new_portions, new_records, numbers_past}
use Rattle.cat_ledger_laws.proofs.model.Begins.{refusals_change_no_state}
use Rattle.cat_ledger_laws.proofs.model.Stored.{files_stay, writes_store, flushes_store, refusals_store, sweeps_spare}
use Rattle.cat_ledger_laws.proofs.model.Commits.{AllPairs-from_Apart}
use Rattle.cat_ledger_laws.proofs.model.Shown.{Apart-map, rows-shown}
use Rattle.cat_ledger_laws.specs.shape.Shapes.{Shape, shape_of, flushed_leaf}
use Rattle.cat_ledger_laws.specs.shape.Steps.{with_write, IsFlushed, Leaves}
use Rattle.cat_ledger_laws.specs.shape.Ties.{file_of, ToldFiles, Carries}
use Rattle.cat_ledger_laws.specs.shape.WriteLaws.{WritesMake, WritesKeep, WritesFlush, FlushesMake, FlushesKeep, RefusalsMake, RefusalsKeep, SweepsMake, FlushedMayStand, WritesAreNewest, IdsStandOnce, NumbersMayBeTaken}
use Rattle.cat_ledger_laws.proofs.shape.Told.{name_of_file, same_number, or_told, told_same, as_told, with_files, changes_with_files, changes_untold, there_with_files, Lifts, KeepsSound, keeps, makes, makes_untouched}
use Rattle.cat_ledger_laws.proofs.shape.Leaves.{leaves_written, any_map}

-- ---- a write

wrote_shape : (l : Ledger) (w : Write) → shape_of (wrote l w) ≡ with_write (shape_of l) w
wrote_shape l w = λ i. record (with_write (shape_of l) w) { leaves = leaves_written l.schema w l.portions i }

write_lifts : (s : Shape) (w : Write) → Lifts (λ l l'. l' ≡ wrote l w) s (with_write s w)
write_lifts s w l ok e = (wrote l w, wrote_shape l w ∙ ap (λ s. with_write s w) e, refl)

write_sound : (s : Shape) (w : Write) → s.count < last_number → PutsItem s.schema w → (l : Ledger) → shape_of l ≡ s → KeepsSound (λ l l'. l' ≡ wrote l w) l
write_sound s w room fits l e l' ok same =
    subst IsLedger (sym same) (writes_are_written l w ok (subst (λ (s : Shape). s.count < last_number) (sym e) room) (subst (λ (s : Shape). PutsItem s.schema w) (sym e) fits)).0

pub writes_make : WritesMake
writes_make s w told told' room fits same =
    makes_untouched (λ l l'. l' ≡ wrote l w) told told' s (with_write s w) same (write_lifts s w) (write_sound s w room fits) (λ l l' files c e. subst (AreStored files) (sym e) (writes_store l w files c.stored))

pub writes_keep : WritesKeep
writes_keep s w room fits its = keeps (λ l l'. l' ≡ wrote l w) s (with_write s w) (write_lifts s w) (write_sound s w room fits) its

-- ---- a flush

flush_lifts : (s new : Shape) → IsFlushed s new → Lifts Flushed s new
flush_lifts s new call l ok e = lifted (subst (λ s. IsFlushed s new) (sym e) call)
  where
    lifted : IsFlushed (shape_of l) new → (l' : Ledger) × (shape_of l' ≡ new) × Flushed l l'
    lifted c =
        let p : Portion = all_live l.next_segment l.buffered in
        let l' : Ledger = record l { portions = l.portions ++ p ∷ []; buffered = []; users = new.users; next_segment = l.next_segment + 1 } in
        (l', (λ i. record (shape_of l') { leaves = map_push (leaf_of l.schema) l.portions p i }) ∙ sym c.rest, record { some = c.some; left = c.left; users = c.users; rest = refl })

flush_sound : (l : Ledger) → KeepsSound Flushed l
flush_sound l l' ok call = (flushed l l' ok call).0

-- what is thought of the files of a new segment
abbrev new_files : Text → Text → FileBytes
new_files segment source (Name.segment n) = Some segment
new_files segment source (Name.source n) = Some source
new_files segment source (Name.live n d) = None
new_files segment source (Name.commit g) = None

or_later : (a b : Bool) → b ≡ true → (a || b) ≡ true
or_later true b e = refl
or_later false b e = e

flush_stores : (told told' : ToldFiles) (l l' : Ledger) (files : FileBytes) → WritesFlush (shape_of l) told told' → Carries told (shape_of l) l files → Flushed l l' → (thought : FileBytes) × AreStored (as_told told' thought) l'
flush_stores told told' l l' files w c call =
    let n : ℕ = l.next_segment in
    let names : List Name = names_of_portion (all_live n l.buffered) in
    let thought : FileBytes = new_files w.segment.0 (joined_sources l.buffered) in
    let has_segment : has_name (Name.segment n) names ≡ true = ap (λ b. b || false) (same_number n) in
    let has_source : has_name (Name.source n) names ≡ true = ap (λ b. b || false) (same_number n) in (
      with_files names thought files,
      flushes_store l l' files (as_told told' (with_files names thought files)) c.sound c.stored call (changes_with_files names told told' files thought c.agrees w.others) (record {
        segment = record { bytes = w.segment.0; there = there_with_files names told' files thought (Name.segment n) (Some w.segment.0) has_segment w.segment.1 refl; spelled = w.segment.2 };
        source = there_with_files names told' files thought (Name.source n) (Some (joined_sources l.buffered)) has_source w.source refl;
      }),
    )

pub flushes_make : FlushesMake
flushes_make s new told told' call w = makes Flushed told told' s new (flush_lifts s new call) (λ l e. flush_sound l) (λ l l' files c f.
    flush_stores told told' l l' files (subst (λ s. WritesFlush s told told') (sym c.shape) w) (record { shape = refl; sound = c.sound; stored = c.stored; agrees = c.agrees }) f)

pub flushes_keep : FlushesKeep
flushes_keep s new call its = keeps Flushed s new (flush_lifts s new call) (λ l e. flush_sound l) its

-- ---- refusals and sweeps

refusal_lifts : (begun : List Name) (s new : Shape) → Leaves begun s new → Lifts (MayLeave begun) s new
refusal_lifts begun s new call l ok e = lifted (subst (λ s. Leaves begun s new) (sym e) call)
  where
    lifted : Leaves begun (shape_of l) new → (l' : Ledger) × (shape_of l' ≡ new) × MayLeave begun l l'
    lifted c = (
      record l { users = new.users; next_segment = new.next_segment; next_generation = new.next_generation },
      sym c.rest,
      record { known = c.known; users = c.users; segments = c.segments; generations = c.generations; one_segment = c.one_segment; one_generation = c.one_generation; left = c.left; rest = refl },
    )

refusal_sound : (begun : List Name) (l : Ledger) → KeepsSound (MayLeave begun) l
refusal_sound begun l l' ok call = (refusals_change_no_state begun l l' ok call).0

pub refusals_make : RefusalsMake
refusals_make begun s new told told' call fresh others = makes (MayLeave begun) told told' s new (refusal_lifts begun s new call) (λ l e. refusal_sound begun l) (λ l l' files c left. (
  files,
  refusals_store begun l l' files (as_told told' files) c.sound c.stored left (subst (λ (s : Shape). AllByRecursion (IsNew s.next_segment s.next_generation) begun) (sym c.shape) fresh) (changes_untold begun told told' files c.agrees others),
))

pub refusals_keep : RefusalsKeep
refusals_keep begun s new call its = keeps (MayLeave begun) s new (refusal_lifts begun s new call) (λ l e. refusal_sound begun l) its

pub sweeps_make : SweepsMake
sweeps_make s new told told' call spares = makes (MayLeave []) told told' s new (refusal_lifts [] s new call) (λ l e. refusal_sound [] l) (λ l l' files c left.
    let used : (q : Name) → 0 < users_of l.users q → 0 < users_of s.users (name_of (file_of q)) = λ q u. subst (λ n. 0 < users_of s.users n) (sym (name_of_file q)) (subst (λ (s : Shape). 0 < users_of s.users q) c.shape u) in
    let stays : (q : Name) → 0 < users_of l.users q → as_told told' files q ≡ files q = λ q u. ap (λ t. or_told t (files q)) (spares (file_of q) (used q u)) ∙ told_same (told (file_of q)) (files q) (c.agrees q) in
    let kept : AreStored (as_told told' files) l = files_stay l files (as_told told' files) c.stored (sweeps_spare l files (as_told told' files) c.sound stays) in
    (files, subst (AreStored (as_told told' files)) (sym left.rest) (record { portions = kept.portions; views = kept.views; commits = kept.commits; merging = kept.merging })))

-- ---- what a shape gives

flushed_stands : (l : Ledger) → IsLedger l → AreLeaves ((shape_of l).leaves ++ flushed_leaf (shape_of l) ∷ [])
flushed_stands l ok =
    let n : ℕ = l.next_segment in
    let p : Portion = all_live n l.buffered in
    let ps : List Portion = l.portions ++ p ∷ [] in
    let past = All-four (IsPast n l.next_generation) (flat_map names_of_portion l.portions) (flat_map names_of_view l.views) (flat_map names_of_commit l.commits) (names_of_merging l.merging) ok.fresh in
    let stand : ArePortions ps = new_portions n l.buffered l.portions ok.portions (numbers_past n l.next_generation l.portions past.portions) in
    let pushed : map (leaf_of l.schema) ps ≡ map (leaf_of l.schema) l.portions ++ leaf_of l.schema p ∷ [] = map_push (leaf_of l.schema) l.portions p in
    let table : table_of l ≡ records_of ps = sym (new_records n l.buffered l.portions) ∙ append-nil (records_of ps) in
    let rows : map row_of (records_of ps) ≡ flat_map live_rows (map (leaf_of l.schema) ps) = rows-shown l.schema ps in
    subst AreLeaves pushed (record {
      numbers = AllPairs-from_Apart (λ (a b : Leaf). a.segment.number ≢ b.segment.number) _ (Apart-map (λ (a b : Leaf). a.segment.number ≢ b.segment.number) (leaf_of l.schema) ps stand.numbers);
      ids = AllPairs-from_Apart (λ (a b : Row). a.id ≢ b.id) _ (subst (Apart (λ (a b : Row). a.id ≢ b.id)) rows (Apart-map (λ (a b : Row). a.id ≢ b.id) row_of (records_of ps) (subst (Apart (λ (r s : Record). r.item.id ≢ s.item.id)) table ok.ids)));
    })

pub flushed_may_stand : FlushedMayStand
flushed_may_stand s its = subst (λ s. AreLeaves (s.leaves ++ flushed_leaf s ∷ [])) its.1 (flushed_stands its.0 its.2)

pub writes_are_newest : WritesAreNewest
writes_are_newest s its =
    let l : Ledger = its.0 in
    let put = IsPutRecord l.schema l.count in
    subst (λ (s : Shape). All (λ r. r.number < s.count + 1) s.buffered) its.1
    (All-from_recursion (λ (r : Record). r.number < l.count + 1) l.buffered
    (All-weaken put (λ r. r.number < l.count + 1) (λ r h. omega (arith, h.seen)) l.buffered (All-split put (all_records l.portions) l.buffered its.2.rows).1))

-- the id of a record that others don't have isn't theirs
differs : (a b : Text) → a ≢ b → same_text a b ≡ false
differs a b n = by (same_text a b) refl
  where
    by : (x : Bool) → same_text a b ≡ x → x ≡ false
    by false e = refl
    by true e = absurd (n ((bytes_eq-Decides a b).0 e))

none_taken : (id : Text) (r : Record) (waiting : List Record) → same_text id r.item.id ≡ true → AllByRecursion (λ x. r.item.id ≢ x.item.id) waiting → without waiting (Write.delete id) ≡ waiting
none_taken id r [] e a = refl
none_taken id r (x ∷ waiting) e a =
    let same : id ≡ r.item.id = (bytes_eq-Decides id r.item.id).0 e in
    let no : same_text id x.item.id ≡ false = differs id x.item.id (λ k. a.0 (sym same ∙ k)) in
    ap (λ b. cond (not b) (x ∷ without waiting (Write.delete id)) (without waiting (Write.delete id))) no ∙ ap (λ rest. x ∷ rest) (none_taken id r waiting e a.1)

once : (id : Text) (rs waiting : List Record) → list_any (λ (r : Record). same_text id r.item.id) rs ≡ true → AllByRecursion (λ r. AllByRecursion (λ x. r.item.id ≢ x.item.id) waiting) rs → without waiting (Write.delete id) ≡ waiting
once id [] waiting h a = absurd (let no : false ≡ true = h in cc)
once id (r ∷ rs) waiting h a = by (λ h. once id rs waiting h a.1) (same_text id r.item.id) refl h
  where
    by : (list_any (λ (r : Record). same_text id r.item.id) rs ≡ true → without waiting (Write.delete id) ≡ waiting) → (b : Bool) → same_text id r.item.id ≡ b → (b || list_any (λ (r : Record). same_text id r.item.id) rs) ≡ true
        → without waiting (Write.delete id) ≡ waiting
    by again true e h = none_taken id r waiting e a.0
    by again false e h = again h

stands_once : (l : Ledger) (id : Text) → IsLedger l → has_live_id id (shape_of l).leaves ≡ true → without l.buffered (Write.delete id) ≡ l.buffered
stands_once l id ok h =
    let found : list_any (λ (r : Record). same_text id r.item.id) (records_of l.portions) ≡ true =
    sym (any_map row_of (λ (r : Row). same_text id r.id) (records_of l.portions)) ∙ ap (list_any (λ (r : Row). same_text id r.id)) (rows-shown l.schema l.portions) ∙ h in
    once id (records_of l.portions) l.buffered found (Apart-split (λ (r s : Record). r.item.id ≢ s.item.id) (records_of l.portions) l.buffered ok.ids).2

pub ids_stand_once : IdsStandOnce
ids_stand_once s id its = subst (λ (s : Shape). has_live_id id s.leaves ≡ true → without s.buffered (Write.delete id) ≡ s.buffered) its.1 (stands_once its.0 id its.2)

pub numbers_may_be_taken : NumbersMayBeTaken
numbers_may_be_taken s its = subst (λ (s : Shape). (0 < s.next_segment) × (0 < s.next_generation) × (s.count ≤ last_number)) its.1 (its.2.numbers.0, its.2.numbers.1, its.2.fits.0)
