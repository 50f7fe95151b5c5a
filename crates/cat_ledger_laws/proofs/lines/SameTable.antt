-- Two directories that have the same in the files that a commit lists hold one table of it.
use Rattle.std.proofs.Common.{◌≡◌, ℕ, List, [], ◌∷◌, ◌++◌, length, Bool, true, false, cond, refl, sym, ◌∙◌, ap, ap₂, subst}
use Rattle.std.specs.Prelude.{◌==◌, replicate}
use Rattle.std.specs.List.{flat_map, AllByRecursion}
use Rattle.cat_model.specs.CommitFile.{CommitFile, ListedSegment, listed_names}
use Rattle.cat_model.specs.Files.{Name}
use Rattle.cat_model.specs.Item.{Record, Schema}
use Rattle.cat_model.specs.Layout.{SpellsSegment}
use Rattle.cat_model.specs.LiveFile.{LiveRows, SpellsLive}
use Rattle.cat_model.specs.Opens.{HoldsCommit, MayHaveSources}
use Rattle.cat_model.specs.Restored.{AreLeavesOf, HasLiveFile, IsLeafOf}
use Rattle.cat_model.specs.Text.{Text}
use Rattle.cat_model.specs.Told.{MayHave, ToldByName}
use Rattle.cat_model.specs.View.{Leaf, Segment, selected, sourced}
use Rattle.cat_ledger_laws.proofs.model.Users.{All-split}
use Rattle.cat_ledger_laws.specs.lines.TriedLaws.{LiveAreTold, SegmentsAreTold}

-- ---- two directories that hold one commit

-- the table of leaves, with these sources
abbrev shown_by : (ℕ → Text) → List Leaf → List Record
shown_by sources leaves = flat_map (λ leaf. selected leaf.live (sourced leaf.segment.rows (sources leaf.segment.number))) leaves

module _ (segments : SegmentsAreTold) (lives : LiveAreTold) (one two : ToldByName) where
  -- whatever both may have in the file of this name is the same
  abbrev pub Same : Name → Type 0
  Same q = (x y : Text) → MayHave one q x → MayHave two q y → x ≡ y

  module _ (schema : Schema) where
    same_live : (x : ListedSegment) (rows : ℕ) (a b : List Bool) (z : Bool) → cond z (a ≡ replicate rows true) (HasLiveFile (MayHave one) x a)
        → cond z (b ≡ replicate rows true) (HasLiveFile (MayHave two) x b) → AllByRecursion Same (cond z [] (Name.live x.number x.file ∷ [])) → a ≡ b
    same_live x rows a b true h k same = h ∙ sym k
    same_live x rows a b false h k same =
        let bytes : h.bytes ≡ k.bytes = same.0 h.bytes k.bytes h.there k.there in
        ap (λ (r : LiveRows). r.live) (lives k.bytes (record { number = x.number; generation = x.file; live = a })
        (record { number = x.number; generation = x.file; live = b })
        (subst (λ t. SpellsLive t (record { number = x.number; generation = x.file; live = a })) bytes h.spelled) k.spelled)

    same_leaf : (x : ListedSegment) (a b : Leaf) → IsLeafOf (MayHave one) schema x a → IsLeafOf (MayHave two) schema x b
        → AllByRecursion Same (listed_names x) → a ≡ b
    same_leaf x a b h k same =
        let bytes : h.segment.bytes ≡ k.segment.bytes =
        same.0 h.segment.bytes k.segment.bytes (subst (λ n. MayHave one (Name.segment n) h.segment.bytes) h.number h.segment.there)
        (subst (λ n. MayHave two (Name.segment n) k.segment.bytes) k.number k.segment.there) in
        let segment : a.segment ≡ b.segment =
        segments k.segment.bytes a.segment b.segment (subst (λ t. SpellsSegment t a.segment) bytes h.segment.spelled) k.segment.spelled in
        let mine : cond (x.file == 0) (a.live ≡ replicate (length b.segment.rows) true) (HasLiveFile (MayHave one) x a.live) =
        subst (λ (s : Segment). cond (x.file == 0) (a.live ≡ replicate (length s.rows) true) (HasLiveFile (MayHave one) x a.live)) segment h.live in
        let live : a.live ≡ b.live = same_live x (length b.segment.rows) a.live b.live (x.file == 0) mine k.live same.1.1 in
        λ i. record { segment = segment i; live = live i }

    same_leaves : (xs : List ListedSegment) (ls bs : List Leaf) → AreLeavesOf (MayHave one) schema xs ls → AreLeavesOf (MayHave two) schema xs bs
        → AllByRecursion Same (flat_map listed_names xs) → ls ≡ bs
    same_leaves [] [] [] h k same = refl
    same_leaves [] [] (b ∷ bs) h k same = absurd k
    same_leaves [] (a ∷ ls) bs h k same = absurd h
    same_leaves (x ∷ xs) [] bs h k same = absurd h
    same_leaves (x ∷ xs) (a ∷ ls) [] h k same = absurd k
    same_leaves (x ∷ xs) (a ∷ ls) (b ∷ bs) h k same =
        let parts = All-split Same (listed_names x) (flat_map listed_names xs) same in
        ap₂ (λ (l : Leaf) (more : List Leaf). l ∷ more) (same_leaf x a b h.0 k.0 parts.0) (same_leaves xs ls bs h.1 k.1 parts.1)

    same_sources : (xs : List ListedSegment) (leaves : List Leaf) → AreLeavesOf (MayHave one) schema xs leaves → AllByRecursion Same (flat_map listed_names xs)
        → AllByRecursion (λ leaf. Same (Name.source leaf.segment.number)) leaves
    same_sources [] [] h same = tt
    same_sources [] (a ∷ ls) h same = absurd h
    same_sources (x ∷ xs) [] h same = absurd h
    same_sources (x ∷ xs) (a ∷ ls) h same =
        let parts = All-split Same (listed_names x) (flat_map listed_names xs) same in
        (subst (λ n. Same (Name.source n)) (sym h.0.number) parts.0.1.0, same_sources xs ls h.1 parts.1)

  same_shown : (leaves : List Leaf) (mine theirs : ℕ → Text) → AllByRecursion (MayHaveSources one mine) leaves → AllByRecursion (MayHaveSources two theirs) leaves
      → AllByRecursion (λ leaf. Same (Name.source leaf.segment.number)) leaves → shown_by mine leaves ≡ shown_by theirs leaves
  same_shown [] mine theirs h k same = refl
  same_shown (l ∷ leaves) mine theirs h k same =
      ap₂ (λ (x y : List Record). x ++ y)
      (ap (λ t. selected l.live (sourced l.segment.rows t)) (same.0 (mine l.segment.number) (theirs l.segment.number) h.0.there k.0.there))
      (same_shown leaves mine theirs h.1 k.1 same.1)

  -- so both have one table of the commit
  pub same_table : (schema : Schema) (g h : ℕ) (c : CommitFile) (rs ss : List Record) → HoldsCommit one schema g c rs → HoldsCommit two schema h c ss
      → AllByRecursion Same (flat_map listed_names c.segments) → rs ≡ ss
  same_table schema g h c rs ss a b same =
      let leaves : a.leaves ≡ b.leaves = same_leaves schema c.segments a.leaves b.leaves a.held.leaves b.held.leaves same in
      a.table.shown
      ∙ same_shown a.leaves a.table.sources b.table.sources a.table.stand
      (subst (λ ls. AllByRecursion (MayHaveSources two b.table.sources) ls) (sym leaves) b.table.stand)
      (same_sources schema c.segments a.leaves a.held.leaves same)
      ∙ ap (shown_by b.table.sources) leaves
      ∙ sym b.table.shown
