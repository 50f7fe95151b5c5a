-- The files with sources of the segments that stand are whole, where the directory tells of them: so a step of a merge finds damage only where
-- it doesn't tell of one.
use Rattle.std.proofs.Common.{◌≡◌, ℕ, ◌<◌, zero, suc, List, [], ◌∷◌, length, map, sum, take, drop, Option, Some, None, refl, sym, ◌∙◌, ap, subst, arith}
use Rattle.std.specs.Prelude.{Any, slice_index_or}
use Rattle.std.specs.List.{AllByRecursion}
use Rattle.cat_model.specs.Files.{Name}
use Rattle.cat_model.specs.Item.{Schema}
use Rattle.cat_model.specs.Merged.{AreDeletedFrom}
use Rattle.cat_model.specs.Text.{Text}
use Rattle.cat_model.specs.View.{Leaf, Row, Segment, row_of}
use Rattle.cat_directory.specs.Devices.{Told}
use Rattle.cat_directory.specs.declared.name.FileName.TheVariants as file
use Rattle.cat_ledger_laws.specs.model.Portions.{Portion, leaf_of}
use Rattle.cat_ledger_laws.specs.model.Stored.{FileBytes, IsStored, joined_sources}
use Rattle.cat_ledger_laws.specs.shape.Shapes.{MergingShape, Shape}
use Rattle.cat_ledger_laws.specs.shape.Ties.{Carries, FilesAgree, IsTold, ToldFiles}
use Rattle.cat_ledger_laws.proofs.lines.Held.{length_joined}
use Rattle.cat_ledger_laws.proofs.shape.MergeWindows.{merges_find_their_window}
use Rattle.cat_ledger_state.specs.Cores.{LacksInput}
use Rattle.cat_ledger_state.specs.cat_merge.files.Sources.{LacksBytes}
use Rattle.cat_ledger.specs.Lasting.{IsCarried}
use Rattle.cat_ledger.specs.Refusals.{HasUntoldInput, IsUntold}
use Rattle.cat_ledger.proofs.Lasting.{carried_shape}

-- ---- lists

module _ {X : Type 0} (Q : X → Type 0) where
  holds_at : (xs : List X) → AllByRecursion Q xs → (k : ℕ) (x : X) → k < length xs → slice_index_or xs k x ≡ x → Q x
  holds_at [] a k x within at = absurd (omega (arith, within))
  holds_at (y ∷ ys) a zero x within at = subst Q at a.0
  holds_at (y ∷ ys) a (suc k) x within at = holds_at ys a.1 k x (omega (arith, within)) at

  taken : (n : ℕ) (xs : List X) → AllByRecursion Q xs → AllByRecursion Q (take n xs)
  taken zero xs a = tt
  taken (suc n) [] a = tt
  taken (suc n) (x ∷ xs) a = (a.0, taken n xs a.1)

  dropped : (n : ℕ) (xs : List X) → AllByRecursion Q xs → AllByRecursion Q (drop n xs)
  dropped zero xs a = a
  dropped (suc n) [] a = tt
  dropped (suc n) (x ∷ xs) a = dropped n xs a.1

-- ---- whole, or not told

-- where its file with sources lacks bytes, it isn't told
abbrev IsWholeOrUntold : ToldFiles → Leaf → Type 0
IsWholeOrUntold told leaf = LacksBytes told leaf → IsUntold told leaf

stored_whole : (told : ToldFiles) (files : FileBytes) (schema : Schema) (p : Portion) → FilesAgree told files → IsStored files schema p
    → IsWholeOrUntold told (leaf_of schema p)
stored_whole told files schema p agrees stored =
    by (told (file.Source p.number)) (subst (λ (content : Option Text). IsTold (told (file.Source p.number)) content) stored.source (agrees (Name.source p.number)))
  where
    by : (t : Told) → IsTold t (Some (joined_sources p.records))
        → ((bytes : Text) → t ≡ Some (Some bytes) → length bytes < sum (map (λ (row : Row). row.length) (leaf_of schema p).segment.rows)) → t ≡ None
    by None is lacks = refl
    by (Some content) is lacks =
        let short : length (joined_sources p.records) < sum (map (λ (r : Row). r.length) (map row_of p.records)) = lacks (joined_sources p.records) (ap Some is) in
        absurd (omega (arith, short, length_joined p.records))

all_whole : (told : ToldFiles) (files : FileBytes) (schema : Schema) (ps : List Portion) → FilesAgree told files → AllByRecursion (IsStored files schema) ps
    → AllByRecursion (IsWholeOrUntold told) (map (leaf_of schema) ps)
all_whole told files schema [] agrees stored = tt
all_whole told files schema (p ∷ ps) agrees stored = (stored_whole told files schema p agrees stored.0, all_whole told files schema ps agrees stored.1)

-- it is so of what a merge takes, since the same segments stand
taken_whole : (told : ToldFiles) (before after : List Leaf) → AreDeletedFrom before after → AllByRecursion (IsWholeOrUntold told) after
    → AllByRecursion (IsWholeOrUntold told) before
taken_whole told [] [] same whole = tt
taken_whole told [] (y ∷ after) same whole = absurd same
taken_whole told (x ∷ before) [] same whole = absurd same
taken_whole told (x ∷ before) (y ∷ after) same whole = (
  λ lacks. ap (λ (s : Segment). told (file.Source s.number)) (sym same.0) ∙ whole.0 (λ bytes is. subst (λ (s : Segment). told (file.Source s.number) ≡ Some (Some bytes) → length bytes < sum (map (λ (row : Row). row.length) s.rows)) (sym same.0) (lacks bytes) is),
  taken_whole told before after same.2 whole.1,
)

pub untold_input : (told : ToldFiles) (s : Shape) → IsCarried told s → LacksInput told s.merging → HasUntoldInput told s.merging
untold_input told s carried = by s.merging refl
  where
    carries : Carries told s carried.0 carried.1
    carries = carried.2

    whole : AllByRecursion (IsWholeOrUntold told) s.leaves
    whole = subst (λ (x : Shape). AllByRecursion (IsWholeOrUntold told) x.leaves) carries.shape
        (all_whole told carried.1 carried.0.schema carried.0.portions carries.agrees carries.stored.portions)

    by : (o : Option MergingShape) → s.merging ≡ o → LacksInput told o → HasUntoldInput told o
    by None is lacks = lacks
    by (Some m) is lacks =
        let found = merges_find_their_window m s (carried_shape told s carried) is in
        let inputs = taken_whole told m.inputs _ found.deleted (taken (IsWholeOrUntold told) (length m.inputs) (drop m.index s.leaves) (dropped (IsWholeOrUntold told) m.index s.leaves whole)) in
        (lacks.0, lacks.1, lacks.2, lacks.3, holds_at (IsWholeOrUntold told) m.inputs inputs lacks.0 lacks.1 lacks.2 lacks.3 lacks.4)
