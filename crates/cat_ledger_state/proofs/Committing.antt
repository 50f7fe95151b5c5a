-- What a commit makes of a shape, and of what a device tells.
use Rattle.std.proofs.Common.{◌≡◌, ℕ, ◌+◌, ◌<◌, ◌≤◌, ◌^◌, Bool, List, [], ◌∷◌, ◌++◌, filter, length, not, Some, sym, ◌∙◌, ap, ap₂, subst, arith, inl, inr, ◌||◌, refl, true, cond}
use Rattle.std.specs.List.{AllByRecursion, flat_map}
use Rattle.cat_model.specs.Text.{Text}
use Rattle.cat_model.specs.Item.{Schema, IsSchema}
use Rattle.cat_model.specs.Files.{Name}
use Rattle.cat_model.specs.Forms.{IsCommitText}
use Rattle.cat_model.specs.Limits.{last_number, segment_limit, view_limit}
use Rattle.cat_model.specs.CommitFile.{CommitFile, IsCommitFile, SpellsCommit, commit_needs}
use Rattle.cat_model.specs.State.{stays_kept}
use Rattle.cat_model.specs.View.{Leaf}
use Rattle.cat_directory.specs.declared.name.FileName.TheVariants as file
use Rattle.cat_ledger_laws.specs.model.Users.{Used, users_of, times, Changes, has_name}
use Rattle.cat_ledger_laws.specs.shape.Shapes.{ListedLive, Shape, IsShape, names_of_commits}
use Rattle.cat_ledger_laws.specs.shape.Steps.{IsCommitted, Leaves, listed_now, commit_file_now}
use Rattle.cat_ledger_laws.specs.shape.Ties.{ToldFiles, TellsBytes, TouchesOnly}
use Rattle.cat_ledger_laws.specs.shape.CommitLaws.{WritesCommit, names_begun}
use Rattle.cat_ledger_laws.proofs.shape.Committed.{users_fit, names_come_once, commits_may_be_said}
use Rattle.cat_ledger_laws.proofs.shape.Listed.{leaving_are_counted, names_are_begun}
use Rattle.cat_commits.specs.declared.writing.heading.Heading.{Heading}
use Rattle.cat_commits.specs.writing.Drafts.{Drafted, HasNewFile, commit_listing, drafted}
use Rattle.cat_commits.specs.writing.Entries.{listing_after}
use Rattle.cat_commits.specs.writing.Laws.{DraftsWriteCommits}
use Rattle.cat_commits.specs.writing.Unsynced.{begun}
use Rattle.cat_ledger_state.specs.Commits.{draft_now}
use Rattle.cat_ledger_state.proofs.Counting.{changes_join, given_after, users_undone, known_undone}
use Rattle.cat_ledger_laws.proofs.shape.Told.{same_again}
use Rattle.std.specs.Prelude.{◌==◌}

-- ---- the draft

abbrev heading_of : Shape → Text → Schema → Heading
heading_of s text schema = record { generation = s.next_generation; token = s.count; next_segment = s.next_segment; text = text; schema = schema }

pub draft_is : (text : Text) (s : Shape) (text' : Text) (schema' : Schema) (leaves' : List Leaf) → text' ≡ text → schema' ≡ s.schema → leaves' ≡ s.leaves
    → drafted s.listed leaves' (heading_of s text' schema') ≡ draft_now text s
draft_is text s text' schema' leaves' said same all = λ i. drafted s.listed (all i) (heading_of s (said i) (same i))

pub may_be_said : (text : Text) (s : Shape) (text' : Text) (schema' : Schema) (leaves' : List Leaf) → IsShape s → IsSchema s.schema → IsCommitText text
    → length s.leaves ≤ segment_limit → s.next_generation ≤ last_number → text' ≡ text → schema' ≡ s.schema → leaves' ≡ s.leaves
    → IsCommitFile (commit_listing (heading_of s text' schema') (listing_after s.listed s.next_generation leaves'))
may_be_said text s text' schema' leaves' its fields form few left said same all =
    subst (λ (d : Drafted). IsCommitFile d.commit) (sym (draft_is text s text' schema' leaves' said same all)) (commits_may_be_said text s its fields form few left)

-- ---- its names

pub needs_fit : (text : Text) (s : Shape) (n : ℕ) (names : List Name) → IsShape s → n ≡ length s.views → n ≤ view_limit → names ≡ commit_needs (commit_file_now text s)
    → (q : Name) → users_of s.users q + times q names < 2 ^ 64
needs_fit text s n names its views few is q =
    let fit : users_of s.users q + 2 < 2 ^ 64 = users_fit s q its (subst (λ k. k ≤ view_limit) views few) in
    let once : times q names ≤ 1 = subst (λ ns. times q ns ≤ 1) (sym is) (names_come_once text s q its).0 in
    omega arith

-- the names of commits that go can be given
pub leaving_fit : (s : Shape) (goes : ℕ → Bool) (names : List Name) → IsShape s → names ≡ names_of_commits (filter (λ c. goes c.generation) s.commits)
    → (q : Name) → times q names ≤ users_of s.users q
leaving_fit s goes names its is q = subst (λ ns. times q ns ≤ users_of s.users q) (sym is) (leaving_are_counted s goes q its)

-- and also once others were taken
pub leaving_fit_after : (s : Shape) (goes : ℕ → Bool) (taken names : List Name) (mid : List Used) → IsShape s → Changes taken [] s.users mid
    → names ≡ names_of_commits (filter (λ c. goes c.generation) s.commits) → (q : Name) → times q names ≤ users_of mid q
leaving_fit_after s goes taken names mid its first is q = given_after taken s.users mid first q (times q names) (leaving_fit s goes names its is q)

-- ---- done

pub committed_is : (text : Text) (s : Shape) (commit : CommitFile) (reserved commits' : List CommitFile) (listed' : List ListedLive) (taken given : List Name)
    (mid users' : List Used) → s.next_generation ≤ last_number → commit ≡ commit_file_now text s → listed' ≡ listed_now s → reserved ≡ s.commits
    → commits' ≡ filter (λ c. stays_kept s.taken (Some commit.generation) c.generation) reserved ++ commit ∷ []
    → taken ≡ commit_needs (commit_file_now text s)
    → given ≡ names_of_commits (filter (λ c. not (stays_kept s.taken (Some s.next_generation) c.generation)) s.commits)
    → Changes taken [] s.users mid → Changes [] given mid users'
    → IsCommitted text s (record s { commits = commits'; listed = listed'; users = users'; next_generation = s.next_generation + 1 })
committed_is text s commit reserved commits' listed' taken given mid users' left is listing room kept needs gone first second =
    let both : Changes taken given s.users users' = changes_join taken given s.users mid users' first second in
    record {
      left = left;
      users = subst (λ g. Changes (commit_needs (commit_file_now text s)) g s.users users') gone (subst (λ t. Changes t given s.users users') needs both);
      rest = ap₂ (λ cs ls. record s { commits = cs; listed = ls; users = users'; next_generation = s.next_generation + 1 })
          (kept ∙ ap₂ (λ (c : CommitFile) (cs : List CommitFile). filter (λ (d : CommitFile). stays_kept s.taken (Some c.generation) d.generation) cs ++ c ∷ []) is room)
          listing;
    }

-- what is told of a draft's files once they are written is what the commit writes
pub commit_writes : (text : Text) (s : Shape) (d : Drafted) (told told' : ToldFiles) → DraftsWriteCommits → d ≡ draft_now text s
    → TouchesOnly (begun d.commit.generation d.listing) told told'
    → TellsBytes told' (file.Commit d.commit.generation) (λ bytes. SpellsCommit bytes d.commit)
    → AllByRecursion (HasNewFile told' d.commit.generation) d.listing → WritesCommit text s told told'
commit_writes text s d told told' law is others own live =
    law text s told told' (subst (λ (d : Drafted). TouchesOnly (begun d.commit.generation d.listing) told told') is others)
    (subst (λ (d : Drafted). TellsBytes told' (file.Commit d.commit.generation) (λ bytes. SpellsCommit bytes d.commit)) is own)
    (subst (λ (d : Drafted). AllByRecursion (HasNewFile told' d.commit.generation) d.listing) is live)

-- ---- given up

-- the number of the next segment can be one past the last
pub segments_fit : (s : Shape) → IsShape s → s.next_segment ≤ last_number + 1
segments_fit s its = subst (λ x. x.next_segment ≤ last_number + 1) its.1 its.2.fits.1

-- the commit's own file is begun
own_begun : (s : Shape) → has_name (Name.commit s.next_generation) (names_begun s) ≡ true
own_begun s =
    ap (λ b. b || has_name (Name.commit s.next_generation) (flat_map (λ (x : ListedLive). cond (x.file == s.next_generation) (Name.live x.number x.file ∷ []) []) (listed_now s)))
    (same_again (Name.commit s.next_generation))

-- names were taken and given again, and those that were begun are known
pub commit_left : (text : Text) (s : Shape) (reserved : List CommitFile) (listed' : List ListedLive) (taken given : List Name) (mid users' : List Used) → IsShape s
    → s.next_generation ≤ last_number → reserved ≡ s.commits → listed' ≡ s.listed → taken ≡ commit_needs (commit_file_now text s) → given ≡ commit_needs (commit_file_now text s)
    → Changes taken [] s.users mid → Changes [] given mid users'
    → Leaves (names_begun s) s (record s { commits = reserved; listed = listed'; users = users'; next_generation = s.next_generation + 1 })
commit_left text s reserved listed' taken given mid users' its left room same_listed needs same taking giving =
    let names : List Name = commit_needs (commit_file_now text s) in
    let first : Changes names [] s.users mid = subst (λ ns. Changes ns [] s.users mid) needs taking in
    let second : Changes [] names mid users' = subst (λ ns. Changes [] ns mid users') same giving in
    record {
      known = λ q h. known_undone names s.users mid users' first second q ((names_are_begun text s its).used q h);
      users = users_undone names s.users mid users' first second;
      segments = omega arith;
      generations = omega arith;
      one_segment = inl refl;
      one_generation = inr (refl, own_begun s);
      left = (segments_fit s its, omega (arith, left));
      rest = ap₂ (λ cs ls. record s { commits = cs; listed = ls; users = users'; next_generation = s.next_generation + 1 }) room same_listed;
    }
