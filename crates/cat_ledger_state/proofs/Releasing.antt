-- What snapshots that are taken or given back, and sweeps, make of a shape.
use Rattle.std.proofs.Common.{◌≡◌, ℕ, ◌+◌, ◌-◌, ◌<◌, Bool, true, false, ◌||◌, ◌&&◌, not, cond, List, [], filter, Option, Some, Result, Ok, Err, refl, sym, ◌∙◌, ap, subst, arith, inl, inr}
use Rattle.std.specs.Prelude.{◌==◌, ltb, IfOk, OnErr}
use Rattle.std.proofs.lemmas.Bool.{true≢false}
use Rattle.std.proofs.lemmas.Bool.Decides.{eqb_tells}
use Rattle.cat_model.specs.Files.{Name}
use Rattle.cat_model.specs.Limits.{snapshot_limit}
use Rattle.cat_model.specs.CommitFile.{CommitFile}
use Rattle.cat_model.specs.State.{Taken, snapshots_in, stays_kept, is_newest}
use Rattle.cat_ledger_laws.specs.model.Users.{Used, users_of, is_known, Changes}
use Rattle.cat_ledger_laws.specs.shape.Shapes.{Shape, IsShape, names_of_commits}
use Rattle.cat_ledger_laws.specs.shape.Steps.{IsSnapped, IsUnsnapped, Leaves, newest_generation}
use Rattle.cat_ledger_laws.proofs.shape.Committed.{snaps_keep}
use Rattle.cat_lifetimes.specs.refs.Counts.{is_pending}
use Rattle.cat_ledger_state.specs.Commits.{stays_with}
use Rattle.cat_ledger_state.proofs.Committing.{segments_fit}
use Rattle.cat_ledger_state.proofs.Flushing.{generations_fit}

-- ---- taken

-- a snapshot more of the newest commit
abbrev pub TakesOne : Option ℕ → List Taken → List Taken → ℕ → Type 0
TakesOne newest old new g = (newest ≡ Some g) × (snapshots_in old g < snapshot_limit) × ((h : ℕ) → snapshots_in new h ≡ snapshots_in old h + cond (h == g) 1 0)

pub snapped_is : (s : Shape) (g : ℕ) (newest : Option ℕ) (taken' : List Taken) → newest ≡ newest_generation s.commits → TakesOne newest s.taken taken' g
    → IsSnapped g s (record s { taken = taken' })
snapped_is s g newest taken' is one = record { newest = sym is ∙ one.0; taken = one.2; rest = refl }

pub snap_keep : {E : Type 0} (s : Shape) (r : Result ℕ E) (newest : Option ℕ) (taken' : List Taken) → newest ≡ newest_generation s.commits
    → IfOk r (TakesOne newest s.taken taken') → OnErr r (taken' ≡ s.taken) → IsShape s → IsShape (record s { taken = taken' })
snap_keep s (Ok g) newest taken' is ok err its = snaps_keep g s (record s { taken = taken' }) (snapped_is s g newest taken' is ok) its
snap_keep s (Err e) newest taken' is ok err its = subst (λ t. IsShape (record s { taken = t })) (sym err) its

-- ---- given back

pub unsnapped_is : (s : Shape) (g left : ℕ) (newest : Option ℕ) (taken' : List Taken) (commits' : List CommitFile) (given : List Name) (users' : List Used)
    → newest ≡ newest_generation s.commits → snapshots_in s.taken g ≡ left + 1
    → ((h : ℕ) → snapshots_in taken' h ≡ snapshots_in s.taken h - cond (h == g) 1 0)
    → given ≡ names_of_commits (filter (λ c. not (stays_with s.taken (Some g) newest c.generation)) s.commits)
    → commits' ≡ filter (λ c. stays_kept taken' newest c.generation) s.commits → Changes [] given s.users users'
    → IsUnsnapped g s (record s { taken = taken'; commits = commits'; users = users' })
unsnapped_is s g left newest taken' commits' given users' is one counts gone kept users =
    let named : given ≡ names_of_commits (filter (λ c. not (stays_kept taken' (newest_generation s.commits) c.generation)) s.commits) =
    gone ∙ (λ i. names_of_commits (filter (λ (c : CommitFile). not (is_newest (is i) c.generation || ltb 0 (sym (counts c.generation) i))) s.commits)) in
    record {
      some = omega (arith, one);
      taken = counts;
      users = subst (λ ns. Changes [] ns s.users users') named users;
      rest = ap (λ cs. record s { taken = taken'; commits = cs; users = users' })
          (kept ∙ ap (λ n. filter (λ (c : CommitFile). stays_kept taken' n c.generation) s.commits) is);
    }

-- ---- swept

pub sweep_leaves : (s : Shape) (users' : List Used) → IsShape s → ((q : Name) → users_of users' q ≡ users_of s.users q) → Leaves [] s (record s { users = users' })
sweep_leaves s users' its same = record {
  known = λ q h. absurd (true≢false (sym h));
  users = same;
  segments = omega arith;
  generations = omega arith;
  one_segment = inl refl;
  one_generation = inl refl;
  left = (segments_fit s its, generations_fit s its);
  rest = refl;
}

and_false : (a b : Bool) → b ≡ false → (a && b) ≡ false
and_false true b e = e
and_false false b e = refl

not_zero : (n : ℕ) → 0 < n → (n == 0) ≡ false
not_zero n some = elim (eqb_tells n 0) [ inl e ↦ absurd (omega (arith, e.1, some)) | inr e ↦ e.0 ]

-- what somebody uses isn't pending
pub not_pending : (us : List Used) (q : Name) → 0 < users_of us q → is_pending us q ≡ false
not_pending us q some = and_false (is_known us q) (users_of us q == 0) (not_zero (users_of us q) some)
