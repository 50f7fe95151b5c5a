-- A step of a merge, over the files that hold the sources of its inputs.
use Rattle.std.proofs.Common.{◌≡◌, ◌≢◌, ℕ, List, [], ◌∷◌, ◌++◌, length, map, take, Bool, Option, Some, None, refl, sym, ◌∙◌, ap, ap₂, subst, inl, inr}
use Rattle.std.specs.List.{AllByRecursion}
use Rattle.cat_model.specs.Text.{Text}
use Rattle.cat_model.specs.Item.{Schema, Record}
use Rattle.cat_model.specs.Files.{Name}
use Rattle.cat_model.specs.View.{selected}
use Rattle.cat_model.specs.Merged.{records_of_all, records_kept}
use Rattle.cat_model.proofs.Lists.{All-weaken}
use Rattle.cat_directory.specs.declared.name.FileName.TheVariants as file
use Rattle.cat_directory.specs.Devices.{Told, told_after, extended}
use Rattle.cat_ledger_laws.specs.model.Portions.{Portion, all_records, leaf_of, Reduced, Merging, portion_window_now, kept_by, IsMergingOf, IsMerging}
use Rattle.cat_ledger_laws.specs.model.Ledger.{Ledger}
use Rattle.cat_ledger_laws.specs.model.Stored.{FileBytes, joined_sources, portion_in, IsStored, IsMergeStored, AreStored}
use Rattle.cat_ledger_laws.specs.model.Calls as model
use Rattle.cat_ledger_laws.specs.model.Calls.{Copied}
use Rattle.cat_ledger_laws.proofs.model.Users.{All-split}
use Rattle.cat_ledger_laws.proofs.model.Merges.{three}
use Rattle.cat_ledger_laws.proofs.model.Stored.{copies_store}
use Rattle.cat_ledger_laws.proofs.model.Sourced.{portions_are_read}
use Rattle.cat_ledger_laws.specs.shape.Shapes.{MergingShape, merging_of}
use Rattle.cat_ledger_laws.specs.shape.Steps.{passed_on}
use Rattle.cat_ledger_laws.specs.shape.Ties.{file_of, ToldFiles, IsTold, FilesAgree, Carries}
use Rattle.cat_ledger_laws.specs.shape.MergeLaws.{OfMerge, TellsInputs, CopiesOn, CopiesMake}
use Rattle.cat_ledger_laws.proofs.shape.Told.{as_told, with_files, changes_with_files, there_with_files, makes}
use Rattle.cat_ledger_laws.proofs.shape.MergeShapes.{lives_shown, passed_shown}
use Rattle.cat_ledger_laws.proofs.shape.MergeSteps.{alone, copied_lifts, copied_sound}

-- ---- what is told

told_there : (t : Told) (content : Option Text) → t ≢ None → IsTold t content → t ≡ Some content
told_there None content h e = absurd (h refl)
told_there (Some told) content h e = ap Some e

-- the bytes of the files with sources, by the numbers of the segments; none where there is no file
abbrev bytes_in : Option Text → Text
bytes_in None = []
bytes_in (Some bytes) = bytes

abbrev sources_in : FileBytes → ℕ → Text
sources_in files n = bytes_in (files (Name.source n))

-- ---- the inputs' sources

-- the portion's sources are in their file
abbrev HasSource : FileBytes → Portion → Type 0
HasSource files p = files (Name.source p.number) ≡ Some (joined_sources p.records)

sources_before : (files : FileBytes) (ps qs : List Portion) → Reduced ps qs → AllByRecursion (HasSource files) qs → AllByRecursion (HasSource files) ps
sources_before files [] [] h a = tt
sources_before files [] (q ∷ qs) h a = absurd h
sources_before files (p ∷ ps) [] h a = absurd h
sources_before files (p ∷ ps) (q ∷ qs) h a =
    (ap (λ n. files (Name.source n)) (sym h.0) ∙ a.0 ∙ ap (λ rs. Some (joined_sources rs)) h.1, sources_before files ps qs h.3 a.1)

inputs_stored : (files : FileBytes) (schema : Schema) (m : Merging) (ps : List Portion) → IsMergingOf ps m → AllByRecursion (IsStored files schema) ps → AllByRecursion (HasSource files) m.inputs
inputs_stored files schema m ps ok stored =
    let all : AllByRecursion (HasSource files) ps = All-weaken (IsStored files schema) (HasSource files) (λ p h. h.source) ps stored in
    let one = All-split (HasSource files) (take m.index ps) _ (subst (AllByRecursion (HasSource files)) (three ps m.index (length m.inputs)) all) in
    sources_before files m.inputs (portion_window_now m ps) ok.stand (All-split (HasSource files) (portion_window_now m ps) _ one.1).0

-- the inputs' records are their rows with the bytes of these files
all_read : (files : FileBytes) (schema : Schema) (ps : List Portion) → AllByRecursion (HasSource files) ps → records_of_all (sources_in files) (map (leaf_of schema) ps) ≡ all_records ps
all_read files schema [] a = refl
all_read files schema (p ∷ ps) a =
    let whole : portion_in (sources_in files) (leaf_of schema p) ≡ p = portions_are_read schema p (sources_in files) (ap bytes_in a.0) in
    ap₂ (λ (a b : List Record). a ++ b) (ap (λ (p : Portion). p.records) whole) (all_read files schema ps a.1)

kept_read : (files : FileBytes) (schema : Schema) (ps : List Portion) (n : ℕ) → AllByRecursion (HasSource files) ps → records_kept (sources_in files) (map (leaf_of schema) ps) n ≡ kept_by ps n
kept_read files schema ps n a = ap₂ (λ (bs : List Bool) (rs : List Record). selected (take n bs) (take n rs)) (lives_shown schema ps) (all_read files schema ps a)

-- a device that tells of every file tells these
tells_inputs : (told : ToldFiles) (files : FileBytes) (schema : Schema) (ps : List Portion) → FilesAgree told files → ((q : Name) → told (file_of q) ≢ None) → AllByRecursion (HasSource files) ps
    → TellsInputs told (sources_in files) (map (leaf_of schema) ps)
tells_inputs told files schema [] agrees all a = tt
tells_inputs told files schema (p ∷ ps) agrees all a =
    let q : Name = Name.source p.number in
    (told_there (told (file_of q)) (files q) (all q) (agrees q) ∙ ap Some (a.0 ∙ ap (λ b. Some (bytes_in b)) (sym a.0)), tells_inputs told files schema ps agrees all a.1)

-- ---- the step

-- what is told of the merge's own file is that it holds the sources of what the step has kept
copied_told : (x : Merging) (l : Ledger) (told told' : ToldFiles) (files : FileBytes) → CopiesOn (merging_of l.schema x) told told' → FilesAgree told files → AllByRecursion (HasSource files) x.inputs
    → files (Name.source x.number) ≡ Some (joined_sources x.kept) → x.kept ≡ kept_by x.inputs x.passed → IsTold (told' (file.Source x.number)) (Some (joined_sources (model.records_passed_on x).kept))
copied_told x l told told' files on agrees stored there kept = elim on.alike [
  | inl none ↦
      let nothing : told' (file.Source x.number) ≡ None = on.extends ∙ ap (told_after (extended on.bytes)) (none (file.Source x.number)) in
      subst (λ t. IsTold t (Some (joined_sources (model.records_passed_on x).kept))) (sym nothing) tt
  | inr all ↦
      let q : Name = Name.source x.number in
      let more : Merging = model.records_passed_on x in
      let now : told (file.Source x.number) ≡ Some (Some (joined_sources x.kept)) = told_there (told (file_of q)) (files q) (all (file_of q)) (agrees q) ∙ ap Some there in
      let copied : joined_sources (records_kept (sources_in files) (map (leaf_of l.schema) x.inputs) x.passed) ++ on.bytes
      ≡ joined_sources (records_kept (sources_in files) (map (leaf_of l.schema) x.inputs) (passed_on (merging_of l.schema x)).passed) =
      on.copied (sources_in files) (tells_inputs told files l.schema x.inputs agrees (λ q. all (file_of q)) stored) in
      let passed : (passed_on (merging_of l.schema x)).passed ≡ more.passed = ap (λ (m : MergingShape). m.passed) (sym (passed_shown l.schema x)) in
      let bytes : joined_sources x.kept ++ on.bytes ≡ joined_sources more.kept =
      ap (λ rs. joined_sources rs ++ on.bytes) (kept ∙ sym (kept_read files l.schema x.inputs x.passed stored))
      ∙ copied
      ∙ ap (λ n. joined_sources (records_kept (sources_in files) (map (leaf_of l.schema) x.inputs) n)) passed
      ∙ ap joined_sources (kept_read files l.schema x.inputs more.passed stored) in
      let then : told' (file.Source x.number) ≡ Some (Some (joined_sources more.kept)) = on.extends ∙ ap (told_after (extended on.bytes)) now ∙ ap (λ b. Some (Some b)) bytes in
      subst (λ t. IsTold t (Some (joined_sources more.kept))) (sym then) refl
]

pub copies_make : CopiesMake
copies_make m s new told told' c on = makes (OfMerge m Copied) told told' s new (copied_lifts m s new c) (λ l is. copied_sound m l) stores
  where
    stores : (l l' : Ledger) (files : FileBytes) → Carries told s l files → OfMerge m Copied l l' → (thought : FileBytes) × AreStored (as_told told' thought) l'
    stores l l' files h call =
        let x : Merging = call.0 in
        let its : Name = Name.source x.number in
        let now : CopiesOn (merging_of l.schema x) told told' = subst (λ m. CopiesOn m told told') (sym call.1) on in
        let merging : IsMergingOf l.portions x = subst (IsMerging l.portions) call.2.making h.sound.merging in
        let there : files its ≡ Some (joined_sources x.kept) = subst (IsMergeStored files) call.2.making h.stored.merging in
        let kept : FileBytes = λ q. Some (joined_sources (model.records_passed_on x).kept) in
        let told_kept = copied_told x l told told' files now h.agrees (inputs_stored files l.schema x l.portions merging h.stored.portions) there merging.kept in (
          with_files (its ∷ []) kept files,
          copies_store x l l' files (as_told told' (with_files (its ∷ []) kept files)) h.sound h.stored call.2
              (changes_with_files (its ∷ []) told told' files kept h.agrees now.others)
              (there_with_files (its ∷ []) told' files kept its (Some (joined_sources (model.records_passed_on x).kept)) (alone its) told_kept refl),
        )
