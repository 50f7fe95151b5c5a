-- What a flush, and a commit behind it, leave of the commit's own file, which comes last.
use Rattle.std.proofs.Common.{◌≡◌, ◌⊎◌, ℕ, List, map, refl, sym, ◌∙◌, ap, subst, inl, inr}
use Rattle.cat_model.specs.Text.{Text}
use Rattle.cat_model.specs.Files.{Name}
use Rattle.cat_model.specs.View.{Leaf}
use Rattle.cat_directory.specs.Devices.{FileContent}
use Rattle.cat_directory.specs.declared.name.FileName.{FileName}
use Rattle.cat_directory.specs.declared.name.FileName.TheVariants as file
use Rattle.cat_ledger_laws.specs.shape.Shapes.{ListedLive, Shape}
use Rattle.cat_ledger_laws.specs.shape.Steps.{IsCommitted, file_for}
use Rattle.cat_ledger_laws.specs.shape.Ties.{ToldFiles}
use Rattle.cat_ledger_state.specs.cat_commits.writing.NewFiles.{ComesLast}
use Rattle.cat_ledger_state.specs.cat_commits.writing.Unsynced.{unsynced_in}
use Rattle.cat_ledger_state.specs.Commits.{names_synced}
use Rattle.cat_ledger_state.specs.Cores.{HasFlushed, HasGivenUp, flush_begins}
use Rattle.cat_ledger.specs.Lasting.{OwnComesLast}
use Rattle.cat_ledger.specs.upkeep.Spared.{SparesCommits, TouchesNoCommit}

-- ---- a flush touches no file of a commit

pub flushed_untold : (told told' : ToldFiles) (s new : Shape) → HasFlushed told s told' new → TouchesNoCommit told told'
flushed_untold told told' s new (inl k) g = k.2 (file.Commit g)
flushed_untold told told' s new (inr k) g = k.1.others (file.Commit g) refl

pub given_up_untold : (told told' : ToldFiles) (s new : Shape) → HasGivenUp (flush_begins s) told s told' new → TouchesNoCommit told told'
given_up_untold told told' s new (inl k) g = k.1 (file.Commit g)
given_up_untold told told' s new (inr k) g = k.1 (file.Commit g) refl

-- nor changes what the newest commit lists
pub flushed_listed : (told told' : ToldFiles) (s new : Shape) → HasFlushed told s told' new → new.listed ≡ s.listed
flushed_listed told told' s new (inl k) = ap (λ x. x.listed) k.1
flushed_listed told told' s new (inr k) = ap (λ x. x.listed) k.0.rest

-- ---- the order

-- the own file is untouched, where no file of a commit is
pub own_untouched : (told told' : ToldFiles) (left left' : FileName → FileContent → Type 0) (s : Shape) (leaves : List Leaf) → TouchesNoCommit told told'
    → SparesCommits left left' → OwnComesLast told left s told' left' leaves
own_untouched told told' left left' s leaves touched spared =
    inl (record { told_same = touched s.next_generation; left_same = spared s.next_generation })

-- where nothing is done
pub nothing_ordered : (told : ToldFiles) (left : FileName → FileContent → Type 0) (s : Shape) → OwnComesLast told left s told left s.leaves
nothing_ordered told left s = own_untouched told told left left s s.leaves (λ g. refl) (λ g e may. may)

abbrev synced : List ListedLive → ℕ → List Leaf → List Name
synced old g leaves = unsynced_in old g (map (λ (leaf : Leaf). record { number = leaf.segment.number; live = leaf.live; file = file_for old g leaf }) leaves)

-- what is synced follows from what is listed, the generation and the leaves
same_synced : (a b : Shape) → a.listed ≡ b.listed → a.next_generation ≡ b.next_generation → a.leaves ≡ b.leaves → names_synced a ≡ names_synced b
same_synced a b listed next leaves i = synced (listed i) (next i) (leaves i)

-- a commit behind a flush
pub ordered_behind : (told told' told'' : ToldFiles) (left left' left'' : FileName → FileContent → Type 0) (s mid new : Shape) → TouchesNoCommit told told'
    → SparesCommits left left' → mid.listed ≡ s.listed → mid.next_generation ≡ s.next_generation → new.leaves ≡ mid.leaves
    → ComesLast (file.Commit mid.next_generation) (names_synced mid) told' told'' left' left'' → OwnComesLast told left s told'' left'' new.leaves
ordered_behind told told' told'' left left' left'' s mid new touched spared listed next leaves order =
    by (subst (λ ns. ComesLast (file.Commit s.next_generation) ns told' told'' left' left'') (same_synced mid (record s { leaves = new.leaves }) listed next (sym leaves))
    (subst (λ g. ComesLast (file.Commit g) (names_synced mid) told' told'' left' left'') next order))
  where
    by : ComesLast (file.Commit s.next_generation) (names_synced (record s { leaves = new.leaves })) told' told'' left' left''
        → OwnComesLast told left s told'' left'' new.leaves
    by (inl same) = inl (record {
      told_same = same.told_same ∙ touched s.next_generation;
      left_same = λ e may. spared s.next_generation e (same.left_same e may);
    })
    by (inr settled) = inr settled

-- a commit leaves the segments that stand
pub committed_leaves : (text : Text) (s new : Shape) → IsCommitted text s new → new.leaves ≡ s.leaves
committed_leaves text s new committed = ap (λ x. x.leaves) committed.rest
