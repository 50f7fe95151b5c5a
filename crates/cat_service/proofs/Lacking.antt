-- Where a device tells of its files, none of those lacks bytes that a merge in the making copies from.
use Rattle.std.proofs.Common.{◌≡◌, ◌≢◌, ℕ, zero, suc, List, [], ◌∷◌, take, drop, length, map, ap, arith, refl, sym, subst, ◌∙◌}
use Rattle.std.specs.Prelude.{Option, Some, None, Any}
use Rattle.std.specs.List.{AllByRecursion}
use Rattle.cat_model.specs.Files.{Name}
use Rattle.cat_model.specs.Item.{Schema}
use Rattle.cat_model.specs.Text.{Text}
use Rattle.cat_directory.specs.Devices.{Told}
use Rattle.cat_directory.specs.declared.name.FileName.{FileName}
use Rattle.cat_directory.specs.declared.name.FileName.TheVariants as file
use Rattle.cat_ledger_laws.specs.model.Ledger.{Ledger}
use Rattle.cat_ledger_laws.specs.model.Portions.{IsMerging, Merging, Portion, Reduced, leaf_of, portion_window_now}
use Rattle.cat_ledger_laws.specs.model.Stored.{FileBytes, IsStored, joined_sources}
use Rattle.cat_ledger_laws.specs.shape.Shapes.{Shape, merging_shape}
use Rattle.cat_ledger_laws.specs.shape.Ties.{Carries, IsTold, ToldFiles, file_of}
use Rattle.cat_ledger_laws.proofs.lines.Held.{length_joined}
use Rattle.cat_commands.specs.cat_ledger_state.Cores.{LacksInput}
use Rattle.cat_commands.specs.cat_ledger_state.cat_merge.files.Sources.{LacksBytes}

-- the file of the segment's sources is there with all of their bytes
abbrev HasSources : FileBytes → Portion → Type 0
HasSources files p = files (Name.source p.number) ≡ Some (joined_sources p.records)

-- what holds of each holds of each of some
all_taken : {X : Type 0} (P : X → Type 0) (n : ℕ) (xs : List X) → AllByRecursion P xs → AllByRecursion P (take n xs)
all_taken P zero xs all = tt
all_taken P (suc n) [] all = tt
all_taken P (suc n) (x ∷ xs) all = (all.0, all_taken P n xs all.1)

all_dropped : {X : Type 0} (P : X → Type 0) (n : ℕ) (xs : List X) → AllByRecursion P xs → AllByRecursion P (drop n xs)
all_dropped P zero xs all = all
all_dropped P (suc n) [] all = tt
all_dropped P (suc n) (x ∷ xs) all = all_dropped P n xs all.1

-- segments that stood before have the sources of those that stand
have_sources : (files : FileBytes) (schema : Schema) (ps qs : List Portion) → Reduced ps qs → AllByRecursion (IsStored files schema) qs
    → AllByRecursion (HasSources files) ps
have_sources files schema [] qs stand stored = tt
have_sources files schema (p ∷ ps) [] stand stored = absurd stand
have_sources files schema (p ∷ ps) (q ∷ qs) stand stored = (
  ap (λ n. files (Name.source n)) (sym stand.0) ∙ stored.0.source ∙ ap (λ rs. Some (joined_sources rs)) stand.1,
  have_sources files schema ps qs stand.3 stored.1,
)

-- none of them that is so is
none_of : {X : Type 0} (P : X → Type 0) (xs : List X) → AllByRecursion (λ x. P x → ⊥) xs → Any P xs → ⊥
none_of P [] all (k, y, below, at, is) = absurd (omega (arith, below))
none_of P (x ∷ xs) all (zero, y, below, at, is) = all.0 (subst P (sym at) is)
none_of P (x ∷ xs) all (suc k, y, below, at, is) = none_of P xs all.1 (k, y, omega (arith, below), at, is)

told_so : (t : Told) (content : Option Text) → IsTold t content → t ≢ None → t ≡ Some content
told_so None content h some = absurd (some refl)
told_so (Some x) content h some = ap Some h

module _ (told : ToldFiles) (files : FileBytes) (schema : Schema) (agrees : (q : Name) → IsTold (told (file_of q)) (files q)) (tells : (q : FileName) → told q ≢ None) where
  whole : (p : Portion) → HasSources files p → LacksBytes told (leaf_of schema p) → ⊥
  whole p has lacks =
      let there : told (file.Source p.number) ≡ Some (Some (joined_sources p.records)) =
      told_so (told (file.Source p.number)) (files (Name.source p.number)) (agrees (Name.source p.number)) (tells (file.Source p.number)) ∙ ap (λ o. Some o) has in
      let less = lacks (joined_sources p.records) there in
      absurd (omega (arith, less, length_joined p.records))

  none_lacks : (ps : List Portion) → AllByRecursion (HasSources files) ps → AllByRecursion (λ leaf. LacksBytes told leaf → ⊥) (map (leaf_of schema) ps)
  none_lacks [] all = tt
  none_lacks (p ∷ ps) all = (whole p all.0, none_lacks ps all.1)

-- No input of the merge in the making lacks bytes, where a ledger is carried and each file is told.
pub no_input_lacks : (told : ToldFiles) (s : Shape) (l : Ledger) (files : FileBytes) → Carries told s l files → ((q : FileName) → told q ≢ None)
    → LacksInput told s.merging → ⊥
no_input_lacks told s l files carries tells lacks =
    by l.merging carries.sound.merging (subst (LacksInput told) (sym (ap (λ (x : Shape). x.merging) carries.shape)) lacks)
  where
    by : (m : Option Merging) → IsMerging l.portions m → LacksInput told (merging_shape l.schema m) → ⊥
    by None is lacks = lacks
    by (Some m) is lacks =
        none_of (LacksBytes told) (map (leaf_of l.schema) m.inputs)
        (none_lacks told files l.schema carries.agrees tells m.inputs
        (have_sources files l.schema m.inputs (portion_window_now m l.portions) is.stand
        (all_taken (IsStored files l.schema) (length m.inputs) (drop m.index l.portions) (all_dropped (IsStored files l.schema) m.index l.portions carries.stored.portions))))
        lacks
