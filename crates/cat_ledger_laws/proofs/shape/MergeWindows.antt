-- What a shape gives to a merge that is begun, and to one in the making.
use Rattle.std.proofs.Common.{◌≡◌, ◌≢◌, ℕ, ◌+◌, ◌<◌, ◌≤◌, List, [], ◌∷◌, ◌++◌, length, map, take, drop, cond, not, Some, refl, sym, ◌∙◌, ap, subst, arith, append-nil}
use Rattle.std.specs.Prelude.{◌==◌, filter}
use Rattle.std.specs.List.{flat_map, AllByRecursion}
use Rattle.std.proofs.lemmas.List.{length-drop, length-take}
use Rattle.std.proofs.lemmas.List.Elements.{All-from_recursion}
use Rattle.std.proofs.lemmas.Grind.{flat_map-append}
use Rattle.cat_model.specs.Item.{Record}
use Rattle.cat_model.specs.Files.{Name, IsFileName, IsFileNumber}
use Rattle.cat_model.specs.View.{Row, Leaf, row_of, selected, live_rows}
use Rattle.cat_model.specs.Merged.{rows_of_all, merged_leaf, AreDeletedFrom}
use Rattle.cat_model.proofs.Lists.{All-each, All-weaken}
use Rattle.cat_model.proofs.Merged.{marked-none, merged_show_the_end}
use Rattle.cat_ledger_laws.specs.model.Portions as model
use Rattle.cat_ledger_laws.specs.model.Portions.{Portion, live_records, records_of, all_records, leaf_of, Apart, Merging, kept_by, installed, IsMergingOf, IsMerging}
use Rattle.cat_ledger_laws.specs.model.Users.{times, users_of}
use Rattle.cat_ledger_laws.specs.model.Ledger.{Ledger, IsLedger, names_of_portion, names_of_view, names_of_commit, names_of_merging}
use Rattle.cat_ledger_laws.specs.model.Leaves.{AreLeaves}
use Rattle.cat_ledger_laws.proofs.model.Users.{Apart-split, Four, All-four, times-append, times-flat, times-four}
use Rattle.cat_ledger_laws.proofs.model.Marked.{Reduced-length}
use Rattle.cat_ledger_laws.proofs.model.Merges.{three, installed_portions, installed_records}
use Rattle.cat_ledger_laws.proofs.model.Shown.{rows-shown, All-map, Apart-map}
use Rattle.cat_ledger_laws.proofs.model.Commits.{AllPairs-from_Apart}
use Rattle.cat_ledger_laws.proofs.model.Written.{used_may_be_named}
use Rattle.cat_ledger_laws.specs.shape.Shapes.{Shape, shape_of, merging_of, names_of_leaves}
use Rattle.cat_ledger_laws.specs.shape.Steps.{window_now, merged_or_none}
use Rattle.cat_ledger_laws.specs.shape.MergeLaws.{MayBeMerged, WindowsMayBeMerged, FindsWindow, MergesFindTheirWindow}
use Rattle.cat_ledger_laws.proofs.shape.Leaves.{leaves_named, length_map}
use Rattle.cat_ledger_laws.proofs.shape.MergeShapes.{MergeOf, the_merge, cut, rows_shown, deleted_shown}
use Rattle.cat_ledger_laws.proofs.shape.MergeInstalls.{has_rows, not_none, window_shown, installed_shown}

-- ---- a run of the current segments

-- what holds of each two elements of a list holds of those of a part of it
part_apart : {X Y : Type 0} (R : Y → Y → Type 0) (f : X → List Y) (xs : List X) (index k : ℕ) → Apart R (flat_map f xs) → Apart R (flat_map f (take k (drop index xs)))
part_apart R f xs index k a =
    let parts = ap (flat_map f) (three xs index k) ∙ flat_map-append f (take index xs) (take k (drop index xs) ++ drop (index + k) xs) ∙ ap (λ l. flat_map f (take index xs) ++ l) (flat_map-append f (take k (drop index xs)) (drop (index + k) xs)) in
    let one = Apart-split R (flat_map f (take index xs)) (flat_map f (take k (drop index xs)) ++ flat_map f (drop (index + k) xs)) (subst (Apart R) parts a) in
    (Apart-split R (flat_map f (take k (drop index xs))) (flat_map f (drop (index + k) xs)) one.1).0

abbrev Rise : Record → Record → Type 0
Rise r s = r.number < s.number

abbrev Differ : Record → Record → Type 0
Differ r s = r.item.id ≢ s.item.id

-- of leaves of portions whose records' numbers rise, and whose live records' ids differ
run_may_be_merged : (s : Shape) (run : List Portion) → Apart Rise (all_records run) → Apart Differ (records_of run) → MayBeMerged s (map (leaf_of s.schema) run)
run_may_be_merged s run rising ids = record {
  schemas = All-from_recursion (λ leaf. leaf.segment.schema ≡ s.schema) (map (leaf_of s.schema) run)
      (All-map (λ leaf. leaf.segment.schema ≡ s.schema) (leaf_of s.schema) run (All-each (λ p. s.schema ≡ s.schema) (λ p. refl) run));
  rising = AllPairs-from_Apart (λ a b. a.number < b.number) (rows_of_all (map (leaf_of s.schema) run))
      (subst (Apart (λ (a b : Row). a.number < b.number)) (sym (rows_shown s.schema run)) (Apart-map (λ (a b : Row). a.number < b.number) row_of (all_records run) rising));
  distinct = AllPairs-from_Apart (λ a b. a.id ≢ b.id) (flat_map live_rows (map (leaf_of s.schema) run))
      (subst (Apart (λ (a b : Row). a.id ≢ b.id)) (rows-shown s.schema run) (Apart-map (λ (a b : Row). a.id ≢ b.id) row_of (records_of run) ids));
}

may_be_merged : (l : Ledger) (index k : ℕ) → IsLedger l → MayBeMerged (shape_of l) (take k (drop index (map (leaf_of l.schema) l.portions)))
may_be_merged l index k ok = subst (MayBeMerged (shape_of l)) (cut l.schema index k l.portions)
    (run_may_be_merged (shape_of l) (take k (drop index l.portions))
    (part_apart Rise (λ p. p.records) l.portions index k (Apart-split Rise (all_records l.portions) l.buffered ok.rising).0)
    (part_apart Differ live_records l.portions index k (Apart-split Differ (records_of l.portions) l.buffered ok.ids).0))

pub windows_may_be_merged : WindowsMayBeMerged
windows_may_be_merged s index k its within = subst (λ (s : Shape). MayBeMerged s (take k (drop index s.leaves))) its.1 (may_be_merged its.0 index k its.2)

-- ---- the window of a merge in the making

-- a leaf without rows shows none, so that it may be left out
left_out : (leaf : Leaf) → flat_map live_rows (filter has_rows (leaf ∷ [])) ≡ live_rows leaf
left_out leaf = by leaf.segment.rows refl
  where
    by : (rows : List Row) → leaf.segment.rows ≡ rows → flat_map live_rows (cond (not (length leaf.segment.rows == 0)) (leaf ∷ []) []) ≡ live_rows leaf
    by [] e = ap (λ (rows : List Row). flat_map live_rows (cond (not (length rows == 0)) (leaf ∷ []) [])) e ∙ sym (ap (selected leaf.live) e ∙ marked-none leaf.live)
    by (r ∷ rows) e =
        ap (λ (rows : List Row). flat_map live_rows (cond (not (length rows == 0)) (leaf ∷ []) [])) e
        ∙ ap (λ b. flat_map live_rows (cond (not b) (leaf ∷ []) [])) (not_none (length rows))
        ∙ append-nil (live_rows leaf)

-- the merge once it has passed all rows, which shows the same
abbrev whole : Merging → Merging
whole x = record x { passed = length (all_records x.inputs); kept = kept_by x.inputs (length (all_records x.inputs)) }

whole_is : (ps : List Portion) (x : Merging) → IsMergingOf ps x → IsMergingOf ps (whole x)
whole_is ps x ok = record { some = ok.some; stand = ok.stand; lengths = ok.lengths; within = omega arith; kept = refl; free = ok.free; ids = ok.ids }

module _ (l : Ledger) (x : Merging) (sound : IsLedger l) (making : l.merging ≡ Some x) where
  ok : IsMergingOf l.portions x
  ok = subst (IsMerging l.portions) making sound.merging

  window_there : x.index + length x.inputs ≤ length l.portions
  window_there = omega (arith, ok.some, Reduced-length x.inputs (model.portion_window_now x l.portions) ok.stand, length-take (length x.inputs) (drop x.index l.portions), length-drop x.index l.portions)

  number_named : IsFileNumber x.number
  number_named =
      let all : Four IsFileName (flat_map names_of_portion l.portions) (flat_map names_of_view l.views) (flat_map names_of_commit l.commits) (names_of_merging l.merging) = All-four IsFileName _ _ _ _ (used_may_be_named l sound) in
      (subst (λ o. AllByRecursion IsFileName (names_of_merging o)) making all.merging).0

  deleted : AreDeletedFrom (map (leaf_of l.schema) x.inputs) (window_now (merging_of l.schema x) (map (leaf_of l.schema) l.portions))
  deleted = subst (AreDeletedFrom (map (leaf_of l.schema) x.inputs)) (window_shown l.schema x l.portions) (deleted_shown l.schema x.inputs (model.portion_window_now x l.portions) ok.stand)

  shows_now : flat_map live_rows (merged_or_none (merging_of l.schema x) (shape_of l)) ≡ flat_map live_rows (window_now (merging_of l.schema x) (map (leaf_of l.schema) l.portions))
  shows_now =
      let inputs : List Leaf = map (leaf_of l.schema) x.inputs in
      let now : List Leaf = window_now (merging_of l.schema x) (map (leaf_of l.schema) l.portions) in
      left_out (merged_leaf x.number l.schema inputs now)
      ∙ merged_show_the_end x.number l.schema inputs now
      (All-from_recursion (λ leaf. length leaf.live ≡ length leaf.segment.rows) inputs
      (All-map (λ leaf. length leaf.live ≡ length leaf.segment.rows) (leaf_of l.schema) x.inputs
      (All-weaken (λ p. length p.live ≡ length p.records) (λ p. length p.live ≡ length (map row_of p.records)) (λ p e. e ∙ sym (length_map row_of p.records)) x.inputs ok.lengths)))
      deleted

  may_stand : AreLeaves (take x.index (map (leaf_of l.schema) l.portions)
      ++ (merged_or_none (merging_of l.schema x) (shape_of l) ++ drop (x.index + length (map (leaf_of l.schema) x.inputs)) (map (leaf_of l.schema) l.portions)))
  may_stand =
      let y : Merging = whole x in
      let next : List Portion = installed y l.portions in
      let its : IsMergingOf l.portions y = whole_is l.portions x ok in
      let same : records_of next ≡ records_of l.portions = installed_records y l.portions its sound.portions.lengths refl in
      subst AreLeaves (installed_shown l y its sound.portions.lengths refl) (record {
        numbers = AllPairs-from_Apart (λ a b. a.segment.number ≢ b.segment.number) (map (leaf_of l.schema) next)
            (Apart-map (λ (a b : Leaf). a.segment.number ≢ b.segment.number) (leaf_of l.schema) next (installed_portions y l.portions its sound.portions.lengths refl sound.portions.numbers).numbers);
        ids = AllPairs-from_Apart (λ a b. a.id ≢ b.id) (flat_map live_rows (map (leaf_of l.schema) next))
            (subst (Apart (λ (a b : Row). a.id ≢ b.id)) (rows-shown l.schema next) (Apart-map (λ (a b : Row). a.id ≢ b.id) row_of (records_of next)
            (subst (Apart Differ) (sym same) (Apart-split Differ (records_of l.portions) l.buffered sound.ids).0)));
      })

  are_users : (q : Name) → times q (names_of_leaves (window_now (merging_of l.schema x) (map (leaf_of l.schema) l.portions)) ++ Name.source x.number ∷ []) ≤ users_of l.users q
  are_users q =
      let now : List Portion = model.portion_window_now x l.portions in
      let before : List Portion = take x.index l.portions in
      let later : List Portion = drop (x.index + length x.inputs) l.portions in
      let N : List Portion → ℕ = λ ps. times q (flat_map names_of_portion ps) in
      let names : times q (names_of_leaves (window_now (merging_of l.schema x) (map (leaf_of l.schema) l.portions))) ≡ N now =
      ap (times q) (ap names_of_leaves (sym (window_shown l.schema x l.portions)) ∙ leaves_named l.schema now) in
      let parts : N l.portions ≡ N before + (N now + N later) =
      ap N (three l.portions x.index (length x.inputs)) ∙ times-flat q names_of_portion before (now ++ later) ∙ ap (λ n. N before + n) (times-flat q names_of_portion now later) in
      omega (
        arith,
        names,
        parts,
        sound.users q,
        ap (λ o. times q (names_of_merging o)) making,
        times-append q (names_of_leaves (window_now (merging_of l.schema x) (map (leaf_of l.schema) l.portions))) (Name.source x.number ∷ []),
        times-four q (flat_map names_of_portion l.portions) (flat_map names_of_view l.views) (flat_map names_of_commit l.commits) (names_of_merging l.merging),
      )

  finds_window : FindsWindow (merging_of l.schema x) (shape_of l)
  finds_window = record {
    some = omega (arith, ok.some, length_map (leaf_of l.schema) x.inputs);
    within = omega (arith, window_there, length_map (leaf_of l.schema) x.inputs, length_map (leaf_of l.schema) l.portions);
    deleted = deleted;
    number = number_named;
    fresh = All-from_recursion (λ leaf. leaf.segment.number ≢ x.number) (map (leaf_of l.schema) l.portions) (All-map (λ leaf. leaf.segment.number ≢ x.number) (leaf_of l.schema) l.portions ok.free);
    live = shows_now;
    stands = may_stand;
    users = are_users;
  }

pub merges_find_their_window : MergesFindTheirWindow
merges_find_their_window m s its making =
    let l : Ledger = its.0 in
    let x : MergeOf l.schema l.merging m = the_merge l.schema l.merging m (ap (λ (s : Shape). s.merging) its.1 ∙ making) in
    subst (λ m. FindsWindow m s) x.shape (subst (FindsWindow (merging_of l.schema x.merge)) its.1 (finds_window l x.merge its.2 x.is))
