-- What is installed of a merge, lifted to the ledgers that have the shape.
use Rattle.std.proofs.Common.{◌≡◌, ℕ, suc, ◌+◌, List, [], ◌∷◌, ◌++◌, length, map, take, drop, Bool, false, cond, not, Some, None, refl, sym, ◌∙◌, ap, ap₂, subst, arith, inl, inr}
use Rattle.std.specs.Prelude.{◌==◌, filter}
use Rattle.std.specs.List.{flat_map, AllByRecursion}
use Rattle.std.proofs.lemmas.List.{map-append, take-map, drop-map}
use Rattle.std.proofs.lemmas.Bool.Decides.{eqb_tells}
use Rattle.cat_model.specs.Text.{Text}
use Rattle.cat_model.specs.Item.{Schema, Record}
use Rattle.cat_model.specs.Files.{Name}
use Rattle.cat_model.specs.Layout.{SpellsSegment}
use Rattle.cat_model.specs.View.{Leaf, row_of, selected, live_rows}
use Rattle.cat_model.specs.Merged.{merged_leaf}
use Rattle.cat_directory.specs.declared.name.FileName.TheVariants as file
use Rattle.cat_ledger_laws.specs.model.Portions as model
use Rattle.cat_ledger_laws.specs.model.Portions.{Portion, all_records, leaf_of, Merging, settled, installed, IsMergingOf, IsMerging}
use Rattle.cat_ledger_laws.specs.model.Users.{Changes}
use Rattle.cat_ledger_laws.specs.model.Ledger.{Ledger, names_of_portion}
use Rattle.cat_ledger_laws.specs.model.Stored.{FileBytes, ChangesOnly, IsSegmentStored, AreStored}
use Rattle.cat_ledger_laws.specs.model.Calls.{Installed}
use Rattle.cat_ledger_laws.proofs.model.Marked.{Full, records-marked}
use Rattle.cat_ledger_laws.proofs.model.Merges.{kept_all, merges_change_no_state}
use Rattle.cat_ledger_laws.proofs.model.Shown.{rows-shown}
use Rattle.cat_ledger_laws.proofs.model.Stored.{merges_store}
use Rattle.cat_ledger_laws.specs.shape.Shapes.{MergingShape, Shape, shape_of, merging_of, names_of_leaves}
use Rattle.cat_ledger_laws.specs.shape.Steps.{IsInstalled, window_now, merged_or_none}
use Rattle.cat_ledger_laws.specs.shape.Ties.{ToldFiles, Carries, TouchesOnly, TellsBytes}
use Rattle.cat_ledger_laws.specs.shape.MergeLaws.{OfMerge, InstallsMake, InstallsKeep}
use Rattle.cat_ledger_laws.proofs.shape.Told.{as_told, with_files, changes_with_files, changes_untold, there_with_files, Lifts, KeepsSound, keeps, makes}
use Rattle.cat_ledger_laws.proofs.shape.Leaves.{leaves_named, length_map}
use Rattle.cat_ledger_laws.proofs.shape.MergeShapes.{MergeOf, the_merge, cut, many_shown, lives_shown}
use Rattle.cat_ledger_laws.proofs.shape.MergeSteps.{alone}

-- ---- a leaf that is left out where it has no rows

abbrev pub has_rows : Leaf → Bool
has_rows leaf = not (length leaf.segment.rows == 0)

pub not_none : (n : ℕ) → (suc n == 0) ≡ false
not_none n = elim (eqb_tells (suc n) 0) [ inl e ↦ absurd (omega (arith, e.1)) | inr e ↦ e.0 ]

-- the new segment stands where a record was kept
if_kept : (schema : Schema) (p : Portion) (rs : List Record) → p.records ≡ rs → map (leaf_of schema) (model.merged rs p) ≡ filter has_rows (leaf_of schema p ∷ [])
if_kept schema p [] e = sym (ap (λ rs. cond (not (length (map row_of rs) == 0)) (leaf_of schema p ∷ []) []) e)
if_kept schema p (r ∷ rs) e =
    sym (ap (λ rs. cond (not (length (map row_of rs) == 0)) (leaf_of schema p ∷ []) []) e ∙ ap (λ b. cond (not b) (leaf_of schema p ∷ []) []) (not_none (length (map row_of rs))))

-- ---- what is installed

pub window_shown : (schema : Schema) (x : Merging) (ps : List Portion) → map (leaf_of schema) (model.portion_window_now x ps) ≡ window_now (merging_of schema x) (map (leaf_of schema) ps)
window_shown schema x ps = cut schema x.index (length x.inputs) ps ∙ ap (λ n. take n (drop x.index (map (leaf_of schema) ps))) (sym (length_map (leaf_of schema) x.inputs))

-- a merge that has passed all rows
module _ (l : Ledger) (x : Merging) (ok : IsMergingOf l.portions x) (full : Full l.portions) (done : x.passed ≡ length (all_records x.inputs)) where
  leaf_settled : leaf_of l.schema (settled x l.portions) ≡ merged_leaf x.number l.schema (map (leaf_of l.schema) x.inputs) (map (leaf_of l.schema) (model.portion_window_now x l.portions))
  leaf_settled =
      let rows : map row_of x.kept ≡ flat_map live_rows (map (leaf_of l.schema) x.inputs) = ap (map row_of) (kept_all x l.portions ok full done ∙ records-marked x.inputs ok.lengths) ∙ rows-shown l.schema x.inputs in
      let live = ap₂ (λ (a b : List Bool). selected a b) (sym (lives_shown l.schema x.inputs)) (sym (lives_shown l.schema (model.portion_window_now x l.portions))) in
      λ i. record { segment = record { number = x.number; schema = l.schema; rows = rows i }; live = live i }

  pub merged_shown : map (leaf_of l.schema) (model.merged x.kept (settled x l.portions)) ≡ merged_or_none (merging_of l.schema x) (shape_of l)
  merged_shown =
      if_kept l.schema (settled x l.portions) x.kept refl
      ∙ ap (λ leaf. filter has_rows (leaf ∷ [])) (leaf_settled ∙ ap (merged_leaf x.number l.schema (map (leaf_of l.schema) x.inputs)) (window_shown l.schema x l.portions))

  pub installed_shown : map (leaf_of l.schema) (installed x l.portions)
      ≡ take x.index (map (leaf_of l.schema) l.portions)
      ++ (merged_or_none (merging_of l.schema x) (shape_of l) ++ drop (x.index + length (map (leaf_of l.schema) x.inputs)) (map (leaf_of l.schema) l.portions))
  installed_shown =
      let f : Portion → Leaf = leaf_of l.schema in
      let late : List Portion = drop (x.index + length x.inputs) l.portions in
      let later : map f late ≡ drop (x.index + length (map f x.inputs)) (map f l.portions) =
      sym (drop-map f (x.index + length x.inputs) l.portions) ∙ ap (λ n. drop (x.index + n) (map f l.portions)) (sym (length_map f x.inputs)) in
      map-append f (take x.index l.portions) (model.merged x.kept (settled x l.portions) ++ late)
      ∙ ap₂ (λ (a b : List Leaf). a ++ b) (sym (take-map f x.index l.portions)) (map-append f (model.merged x.kept (settled x l.portions)) late ∙ ap₂ (λ (a b : List Leaf). a ++ b) merged_shown later)

  installed_over : (new : Shape) → l.merging ≡ Some x → IsInstalled (merging_of l.schema x) (shape_of l) new → (l' : Ledger) × (shape_of l' ≡ new) × Installed x l l'
  installed_over new making c =
      let taken : names_of_leaves (merged_or_none (merging_of l.schema x) (shape_of l)) ≡ flat_map names_of_portion (model.merged x.kept (settled x l.portions)) =
      ap names_of_leaves (sym merged_shown) ∙ leaves_named l.schema (model.merged x.kept (settled x l.portions)) in
      let given : names_of_leaves (window_now (merging_of l.schema x) (map (leaf_of l.schema) l.portions)) ≡ flat_map names_of_portion (model.portion_window_now x l.portions) =
      ap names_of_leaves (sym (window_shown l.schema x l.portions)) ∙ leaves_named l.schema (model.portion_window_now x l.portions) in (
        record l { portions = installed x l.portions; merging = None; users = new.users },
        ap (λ leaves. record (shape_of l) { leaves = leaves; merging = None; users = new.users }) installed_shown ∙ sym c.rest,
        record {
          making = making;
          all = done;
          users = subst (λ ns. Changes ns (flat_map names_of_portion (model.portion_window_now x l.portions) ++ Name.source x.number ∷ []) l.users new.users) taken
              (subst (λ ns. Changes (names_of_leaves (merged_or_none (merging_of l.schema x) (shape_of l))) (ns ++ Name.source x.number ∷ []) l.users new.users) given c.users);
          rest = refl;
        },
      )

installed_lifts : (m : MergingShape) (s new : Shape) → IsInstalled m s new → Lifts (OfMerge m Installed) s new
installed_lifts m s new c l ok is =
    let now : IsInstalled m (shape_of l) new = subst (λ s. IsInstalled m s new) (sym is) c in
    let x : MergeOf l.schema l.merging m = the_merge l.schema l.merging m now.making in
    let its : IsInstalled (merging_of l.schema x.merge) (shape_of l) new = subst (λ m. IsInstalled m (shape_of l) new) (sym x.shape) now in
    let merging : IsMergingOf l.portions x.merge = subst (IsMerging l.portions) x.is ok.merging in
    let made = installed_over l x.merge merging ok.portions.lengths (its.all ∙ many_shown l.schema x.merge.inputs) new x.is its in
    (made.0, made.1, (x.merge, x.shape, made.2))

installed_sound : (m : MergingShape) (l : Ledger) → KeepsSound (OfMerge m Installed) l
installed_sound m l new ok call = (merges_change_no_state call.0 l new ok call.2).0

pub installs_keep : InstallsKeep
installs_keep m s new c = keeps (OfMerge m Installed) s new (installed_lifts m s new c) (λ l is. installed_sound m l)

-- ---- its file

-- what the device tells of the file of this number, if anything, are the bytes of the leaf's segment
abbrev IsWritten : ToldFiles → ℕ → Leaf → Type 0
IsWritten told' n leaf = TellsBytes told' (file.Segment n) (λ bytes. SpellsSegment bytes leaf.segment)

segment_stored : (schema : Schema) (p : Portion) (rs : List Record) (told told' : ToldFiles) (s : Shape) (l : Ledger) (files : FileBytes) → Carries told s l files → TouchesOnly (Name.segment p.number ∷ []) told told'
    → AllByRecursion (IsWritten told' p.number) (map (leaf_of schema) (model.merged rs p))
    → (thought : FileBytes) × ChangesOnly (Name.segment p.number ∷ []) files (as_told told' thought) × AllByRecursion (IsSegmentStored (as_told told' thought) schema) (model.merged rs p)
segment_stored schema p [] told told' s l files h touches a = (files, changes_untold (Name.segment p.number ∷ []) told told' files h.agrees touches, tt)
segment_stored schema p (r ∷ rs) told told' s l files h touches a =
    let its : Name = Name.segment p.number in
    let bytes : Text = a.0.0 in (
      with_files (its ∷ []) (λ q. Some bytes) files,
      changes_with_files (its ∷ []) told told' files (λ q. Some bytes) h.agrees touches,
      (record { bytes = bytes; there = there_with_files (its ∷ []) told' files (λ q. Some bytes) its (Some bytes) (alone its) a.0.1 refl; spelled = a.0.2 }, tt),
    )

pub installs_make : InstallsMake
installs_make m s new told told' c touches written = makes (OfMerge m Installed) told told' s new (installed_lifts m s new c) (λ l is. installed_sound m l) stores
  where
    stores : (l l' : Ledger) (files : FileBytes) → Carries told s l files → OfMerge m Installed l l' → (thought : FileBytes) × AreStored (as_told told' thought) l'
    stores l l' files h call =
        let x : Merging = call.0 in
        let merging : IsMergingOf l.portions x = subst (IsMerging l.portions) call.2.making h.sound.merging in
        let now : AllByRecursion (IsWritten told' m.number) (merged_or_none m (shape_of l)) = subst (λ s. AllByRecursion (IsWritten told' m.number) (merged_or_none m s)) (sym h.shape) written in
        let its : AllByRecursion (IsWritten told' x.number) (merged_or_none (merging_of l.schema x) (shape_of l)) =
        subst (λ (m : MergingShape). AllByRecursion (IsWritten told' m.number) (merged_or_none m (shape_of l))) (sym call.1) now in
        let leaves : AllByRecursion (IsWritten told' x.number) (map (leaf_of l.schema) (model.merged x.kept (settled x l.portions))) =
        subst (AllByRecursion (IsWritten told' x.number)) (sym (merged_shown l x merging h.sound.portions.lengths call.2.all)) its in
        let touches_its : TouchesOnly (Name.segment x.number ∷ []) told told' = subst (λ (m : MergingShape). TouchesOnly (Name.segment m.number ∷ []) told told') (sym call.1) touches in
        let there = segment_stored l.schema (settled x l.portions) x.kept told told' s l files h touches_its leaves in
        (there.0, merges_store x l l' files (as_told told' there.0) h.sound h.stored call.2 there.1 there.2)
