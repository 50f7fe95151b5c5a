use Rattle.std.proofs.Common.{◌≡◌, ℕ, ◌+◌, List, map, cond, arith, sym, ap, ◌∙◌}
use Rattle.std.specs.Prelude.{◌==◌, Some}
use Rattle.cat_model.specs.State.{Taken, snapshots_in}
use Rattle.cat_commits.specs.Counts.{taken_in}
use Rattle.cat_commits.proofs.Taken.{put_counts, one_more}
use Rattle.cat_commits.proofs.snapshots.Snapshots.snapshot.Goals as goal

pub returns-clause-ok : goal.returns-clause-ok
returns-clause-ok c =
    let es : List (ℕ × ℕ) = c.self.inside.counts.entries in
    let g : ℕ = c.in_ok-generation.generation in
    let old : (h : ℕ) → snapshots_in c.args.self.now h ≡ snapshots_in (map taken_in es) h = λ h. ap (λ (us : List Taken). snapshots_in us h) (sym c.self.view_is) in
    let newest : c.args.newest ≡ Some g = grind arith in
    let put : (h : ℕ) → snapshots_in (map taken_in c.insert.new.self.entries) h ≡ cond (h == g) (c.count-count.result + 1) (snapshots_in (map taken_in es) h) =
    put_counts es c.insert.new.self.entries g (c.count-count.result + 1) c.in_ok-insert.ensures.updates.0 in (
      newest,
      omega (arith, c.count-count.ensures.count),
      λ h.
          put h ∙ ap (λ (n : ℕ). cond (h == g) (n + 1) (snapshots_in (map taken_in es) h)) c.count-count.ensures.count
          ∙ ap (λ (n : ℕ). cond (h == g) (snapshots_in c.args.self.now g + 1) n) (sym (old h)) ∙ one_more (snapshots_in c.args.self.now) g h,
    )
