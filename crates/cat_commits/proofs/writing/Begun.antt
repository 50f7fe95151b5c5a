-- What a draft begins is what a commit begins.
use Rattle.std.proofs.Common.{◌≡◌, ℕ, List, [], ◌∷◌, map, Bool, true, false, cond, refl, sym, ◌∙◌, subst}
use Rattle.std.specs.Prelude.{◌==◌}
use Rattle.std.specs.List.{AllByRecursion}
use Rattle.std.proofs.lemmas.Bool.{eqb-true}
use Rattle.cat_model.specs.Files.{Name}
use Rattle.cat_model.specs.View.{Leaf}
use Rattle.cat_model.proofs.Lists.{list_any-append}
use Rattle.cat_directory.specs.Names.{name_of}
use Rattle.cat_ledger_laws.specs.model.Users.{has_name, same_file_name}
use Rattle.cat_ledger_laws.specs.shape.Shapes.{ListedLive, Shape}
use Rattle.cat_ledger_laws.specs.shape.Steps.{file_for, listed_now}
use Rattle.cat_ledger_laws.specs.shape.Ties.{ToldFiles}
use Rattle.cat_ledger_laws.specs.shape.CommitLaws.{HasNewLive}
use Rattle.cat_commits.specs.writing.Entries.{listing_after}
use Rattle.cat_commits.specs.writing.Unsynced.{new_live}
use Rattle.cat_commits.specs.writing.Drafts.{HasNewFile}
use Rattle.cat_commits.specs.writing.Laws.{DraftsWriteCommits}
use Rattle.cat_commits.proofs.writing.Writing.{neither, or_none}

not_begun : (old : List ListedLive) (g : ℕ) (leaves : List Leaf) (q : Name) → has_name q (map (λ (leaf : Leaf). Name.live leaf.segment.number g) leaves) ≡ false
    → has_name q (new_live g (listing_after old g leaves)) ≡ false
not_begun old g [] q e = refl
not_begun old g (l ∷ ls) q e =
    let k = neither (same_file_name q (Name.live l.segment.number g)) (has_name q (map (λ (leaf : Leaf). Name.live leaf.segment.number g) ls)) e in
    list_any-append (same_file_name q) (cond (file_for old g l == g) (Name.live l.segment.number (file_for old g l) ∷ []) []) (new_live g (listing_after old g ls))
    ∙ or_none (has_name q (cond (file_for old g l == g) (Name.live l.segment.number (file_for old g l) ∷ []) [])) (has_name q (new_live g (listing_after old g ls)))
    (by (file_for old g l == g) refl k.0) (not_begun old g ls q k.1)
  where
    by : (b : Bool) → (file_for old g l == g) ≡ b → same_file_name q (Name.live l.segment.number g) ≡ false
        → has_name q (cond b (Name.live l.segment.number (file_for old g l) ∷ []) []) ≡ false
    by true h n =
        or_none (same_file_name q (Name.live l.segment.number (file_for old g l))) false
        (subst (λ f. same_file_name q (Name.live l.segment.number f) ≡ false) (sym (eqb-true (file_for old g l) g h)) n) refl
    by false h n = refl

new_told : (told' : ToldFiles) (s : Shape) (leaves : List Leaf) → AllByRecursion (HasNewFile told' s.next_generation) (listing_after s.listed s.next_generation leaves)
    → AllByRecursion (HasNewLive told' s) leaves
new_told told' s [] a = tt
new_told told' s (l ∷ ls) a = (a.0, new_told told' s ls a.1)

pub drafts_write : DraftsWriteCommits
drafts_write text s told told' others commit live = record {
  others = λ q e.
      let k = neither (same_file_name (name_of q) (Name.commit s.next_generation)) (has_name (name_of q) (map (λ (leaf : Leaf). Name.live leaf.segment.number s.next_generation) s.leaves)) e in
      others q (or_none (same_file_name (name_of q) (Name.commit s.next_generation)) (has_name (name_of q) (new_live s.next_generation (listed_now s))) k.0
      (not_begun s.listed s.next_generation s.leaves (name_of q) k.1));
  commit = commit;
  live = new_told told' s s.leaves live;
}
