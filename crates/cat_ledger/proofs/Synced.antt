-- What a commit syncs and doesn't begin are files of segments that stand, so a device that tells of its files has them. So it has the file
-- of sources of the merge in the making.
use Rattle.std.proofs.Common.{◌≡◌, ◌≢◌, ◌⊎◌, ℕ, Bool, true, false, ◌||◌, List, [], ◌∷◌, ◌++◌, map, Option, Some, None, refl, sym, ◌∙◌, subst, inl, inr}
use Rattle.std.specs.List.{AllByRecursion}
use Rattle.cat_model.specs.Files.{Name}
use Rattle.cat_model.specs.Item.{Schema}
use Rattle.cat_model.specs.Text.{Text}
use Rattle.cat_model.specs.View.{Leaf}
use Rattle.cat_model.proofs.Lists.{list_any-append}
use Rattle.cat_directory.specs.Devices.{Told}
use Rattle.cat_directory.specs.Names.{name_of}
use Rattle.cat_directory.specs.declared.name.FileName.{FileName}
use Rattle.cat_directory.specs.declared.name.FileName.TheVariants as file
use Rattle.cat_ledger_laws.specs.model.Portions.{Merging, Portion, leaf_of}
use Rattle.cat_ledger_laws.specs.model.Stored.{FileBytes, IsMergeStored, IsStored}
use Rattle.cat_ledger_laws.specs.model.Users.{has_name, same_file_name}
use Rattle.cat_ledger_laws.proofs.model.Counted.{same_name_is}
use Rattle.cat_ledger_laws.specs.shape.CommitLaws.{names_begun}
use Rattle.cat_ledger_laws.specs.shape.Shapes.{ListedLive, Shape, merging_shape, shape_of}
use Rattle.cat_ledger_laws.specs.shape.Steps.{file_for}
use Rattle.cat_ledger_laws.specs.shape.Ties.{Carries, FilesAgree, IsTold, ToldFiles}
use Rattle.cat_ledger_laws.proofs.shape.Told.{file_of_name}
use Rattle.cat_ledger_state.specs.cat_commits.writing.Unsynced.{is_listed, new_live, new_live_of, unsynced_in, unsynced_of, unsynced_segment}
use Rattle.cat_ledger_state.specs.Commits.{names_synced}
use Rattle.cat_ledger_state.specs.Cores.{LacksOwn}
use Rattle.cat_ledger.specs.Lasting.{IsCarried}

either : (a b : Bool) → (a || b) ≡ true → (a ≡ true) ⊎ (b ≡ true)
either true b e = inl refl
either false b e = inr e

neither : (a b : Bool) → (a || b) ≡ false → (a ≡ false) × (b ≡ false)
neither true b e = absurd (let no : true ≡ false = e in cc)
neither false b e = (refl, e)

either_named : (q : Name) (xs ys : List Name) → has_name q (xs ++ ys) ≡ true → (has_name q xs ≡ true) ⊎ (has_name q ys ≡ true)
either_named q xs ys e = either (has_name q xs) (has_name q ys) (sym (list_any-append (same_file_name q) xs ys) ∙ e)

neither_named : (q : Name) (xs ys : List Name) → has_name q (xs ++ ys) ≡ false → (has_name q xs ≡ false) × (has_name q ys ≡ false)
neither_named q xs ys e = neither (has_name q xs) (has_name q ys) (sym (list_any-append (same_file_name q) xs ys) ∙ e)

not_both : (b : Bool) → b ≡ true → b ≡ false → ⊥
not_both true e f = let no : true ≡ false = f in cc
not_both false e f = let no : false ≡ true = e in cc

filled : (files : FileBytes) (q : Name) (bytes : Text) → files q ≡ Some bytes → files q ≢ None
filled files q bytes there e = let no : Some bytes ≡ None = sym there ∙ e in cc

segment_filled : (files : FileBytes) (schema : Schema) (p : Portion) (q : Name) → IsStored files schema p
    → has_name q (Name.segment p.number ∷ Name.source p.number ∷ []) ≡ true → files q ≢ None
segment_filled files schema p q stored has = elim (either (same_file_name q (Name.segment p.number)) (has_name q (Name.source p.number ∷ [])) has) [
  | inl is ↦ subst (λ n. files n ≢ None) (sym (same_name_is q (Name.segment p.number) is)) (filled files (Name.segment p.number) stored.segment.bytes stored.segment.there)
  | inr rest ↦ elim (either (same_file_name q (Name.source p.number)) false rest) [
    | inl is ↦ subst (λ n. files n ≢ None) (sym (same_name_is q (Name.source p.number) is)) (filled files (Name.source p.number) _ stored.source)
    | inr other ↦ absurd (let clash : false ≡ true = other in cc)
  ]
]

-- what a commit of the generation lists of the portion
abbrev entry : List ListedLive → ℕ → Leaf → ListedLive
entry old g leaf = record { number = leaf.segment.number; live = leaf.live; file = file_for old g leaf }

abbrev entries : List ListedLive → ℕ → Schema → List Portion → List ListedLive
entries old g schema ps = map (entry old g) (map (leaf_of schema) ps)

all_filled : (files : FileBytes) (schema : Schema) (old : List ListedLive) (g : ℕ) (ps : List Portion) (q : Name) → AllByRecursion (IsStored files schema) ps
    → has_name q (unsynced_in old g (entries old g schema ps)) ≡ true → has_name q (new_live g (entries old g schema ps)) ≡ false → files q ≢ None
all_filled files schema old g [] q stored has not = absurd (let no : false ≡ true = has in cc)
all_filled files schema old g (p ∷ ps) q stored has not =
    let x : ListedLive = entry old g (leaf_of schema p) in
    let xs : List ListedLive = entries old g schema ps in
    let apart = neither_named q (new_live_of g x) (new_live g xs) not in
    elim (either_named q (unsynced_of old g x) (unsynced_in old g xs) has) [
      | inl own ↦ elim (either_named q (unsynced_segment (is_listed x.number old) x) (new_live_of g x) own) [
        | inl segment ↦ by (is_listed x.number old) segment
        | inr live ↦ absurd (not_both (has_name q (new_live_of g x)) live apart.0)
      ]
      | inr rest ↦ all_filled files schema old g ps q stored.1 rest apart.1
    ]
  where
    by : (b : Bool) → has_name q (unsynced_segment b (entry old g (leaf_of schema p))) ≡ true → files q ≢ None
    by true e = absurd (let no : false ≡ true = e in cc)
    by false e = segment_filled files schema p q stored.0 e

is_told_absent : (t : Told) (content : Option Text) → IsTold t content → t ≡ Some None → content ≡ None
is_told_absent None content told e = absurd (let no : None ≡ Some None = e in cc)
is_told_absent (Some told) content is e = let at : Some told ≡ Some None = e in cc

-- where the ledger is carried, no device tells that a file is absent that a commit of now syncs and doesn't begin
pub synced_stands : (told : ToldFiles) (s : Shape) → IsCarried told s → (q : FileName) → has_name (name_of q) (names_synced s) ≡ true
    → has_name (name_of q) (names_begun s) ≡ false → told q ≢ Some None
synced_stands told s carried q synced begun absent =
    let carries : Carries told s carried.0 carried.1 = carried.2 in
    let old = shape_of carried.0 in
    let has = subst (λ (x : Shape). has_name (name_of q) (names_synced x) ≡ true) (sym carries.shape) synced in
    let not = neither (same_file_name (name_of q) (Name.commit old.next_generation)) (has_name (name_of q) (new_live old.next_generation (entries old.listed old.next_generation carried.0.schema carried.0.portions)))
    (subst (λ (x : Shape). has_name (name_of q) (names_begun x) ≡ false) (sym carries.shape) begun) in
    all_filled carried.1 carried.0.schema old.listed old.next_generation carried.0.portions (name_of q) carries.stored.portions has not.1
    (is_told_absent (told q) (carried.1 (name_of q)) (subst (λ n. IsTold (told n) (carried.1 (name_of q))) (file_of_name q) (carries.agrees (name_of q))) absent)

own_stored : (told : ToldFiles) (files : FileBytes) (schema : Schema) (o : Option Merging) → FilesAgree told files → IsMergeStored files o
    → LacksOwn told (merging_shape schema o) → ⊥
own_stored told files schema None agrees stored lacks = lacks
own_stored told files schema (Some m) agrees stored lacks =
    filled files (Name.source m.number) _ stored (is_told_absent (told (file.Source m.number)) (files (Name.source m.number)) (agrees (Name.source m.number)) lacks)

-- where the ledger is carried, no device tells that the file is absent that the merge in the making copies to
pub own_stands : (told : ToldFiles) (s : Shape) → IsCarried told s → LacksOwn told s.merging → ⊥
own_stands told s carried lacks =
    let carries : Carries told s carried.0 carried.1 = carried.2 in
    own_stored told carried.1 carried.0.schema carried.0.merging carries.agrees carries.stored.merging
    (subst (λ (x : Shape). LacksOwn told x.merging) (sym carries.shape) lacks)
