-- What a sweep does to files, whether it is refused or not: pending names are deleted in byte order, up to the first fault.
use Rattle.std.specs.Prelude.{◌≡◌, ◌⊎◌, false, List}
use Rattle.std.specs.List.{list_any}
use Rattle.std.specs.List.Sorted.{IsStrictlySortedBy}
use Rattle.std.specs.declared.cmp.Ordering.TheVariants.{Less}
use Rattle.cat_ledger_laws.specs.model.Users.{Used}
use Rattle.cat_directory.specs.declared.name.FileName.{FileName}
use Rattle.cat_directory.specs.Names.{name_of, name_cmp, same_name}
use Rattle.cat_directory.specs.Devices.{Told, FileContent, NoMore, OrGone, removed, told_after}
use Rattle.cat_lifetimes.specs.refs.Counts.{is_pending, IsPending, IsForgotten}

-- the pending names, in byte order
pub record ArePending (us : List Used) (names : List FileName) : Type 0 where
  pub rising : IsStrictlySortedBy name_cmp names
  pub all : (q : FileName) → list_any (same_name q) names ≡ is_pending us (name_of q)

-- The users before and after; what is told of the files; and what a crash may leave of them.
pub record Swept (old new : List Used) (before after : FileName → Told) (could can : FileName → FileContent → Type 0) : Type 0 where
  -- the file of a forgotten name is deleted
  pub deleted : (q : FileName) → IsForgotten old new q → after q ≡ told_after removed (before q)
  -- that of a name which is still pending is as it was, or deleted too
  pub pending : (q : FileName) → IsPending new q → (after q ≡ before q) ⊎ (after q ≡ told_after removed (before q))
  -- no other is touched, nor would a crash show anything new of it
  pub others : (q : FileName) → is_pending old (name_of q) ≡ false → after q ≡ before q
  pub crash : (q : FileName) → is_pending old (name_of q) ≡ false → NoMore (could q) (can q)
  -- a crash may bring back what was deleted
  pub back : (q : FileName) → OrGone (could q) (can q)
  -- forgotten names come before those that are still pending, and of these only the first may have been tried
  pub order : (p q : FileName) → IsForgotten old new p → IsPending new q → name_cmp p q ≡ Less
  pub untried : (p q : FileName) → IsPending new p → IsPending new q → name_cmp p q ≡ Less
      → (after q ≡ before q) × NoMore (could q) (can q)
