use Rattle.std.proofs.Common.{◌≡◌, ℕ, ◌-◌, ◌<◌, ◌≤◌, List, map, cond, nat_eq, arith, refl, sym, ap, ◌∙◌, subst}
use Rattle.std.specs.Prelude.{◌==◌, Option, Some, None, unwrap_or, IfSome}
use Rattle.std.specs.Map.{lookup}
use Rattle.cat_model.specs.Limits.{snapshot_limit}
use Rattle.cat_model.specs.State.{Taken, snapshots_in}
use Rattle.cat_commits.specs.Counts.{taken_in}
use Rattle.cat_commits.proofs.Taken.{counted_in, put_counts, drop_counts, one_less, twice}
use Rattle.cat_commits.proofs.snapshots.Snapshots.release.Goals as goal

pub returns-in_default-clause-none : goal.returns-in_default-clause-none
returns-in_default-clause-none c =
    let none : None ≡ lookup (nat_eq c.args.generation) c.self.inside.counts.entries = c.in_default.ensures.value in
    (refl, ap (λ (us : List Taken). snapshots_in us c.args.generation) (sym c.self.view_is) ∙ counted_in c.args.generation c.self.inside.counts.entries ∙ ap (λ (o : Option ℕ). unwrap_or o 0) (sym none))

pub returns-then-left-eq0-clause-ok : goal.returns-then-left-eq0-clause-ok
returns-then-left-eq0-clause-ok c =
    let es : List (ℕ × ℕ) = c.self.inside.counts.entries in
    let g : ℕ = c.args.generation in
    let k : ℕ = c.in-Some.count.now in
    let there : lookup (nat_eq g) es ≡ Some k = sym c.in-Some.ensures.value in
    let old : (h : ℕ) → snapshots_in c.args.self.now h ≡ snapshots_in (map taken_in es) h = λ h. ap (λ (us : List Taken). snapshots_in us h) (sym c.self.view_is) in
    let now : snapshots_in c.args.self.now g ≡ k = old g ∙ counted_in g es ∙ ap (λ (o : Option ℕ). unwrap_or o 0) there in
    let fits = c.self.invariant g in
    let some : 0 < k = (subst (λ (o : Option ℕ). IfSome o (λ n. (0 < n) × (n ≤ snapshot_limit))) there fits).0 in
    let through = c.get_mut.follows.holds (k - 1) in
    let writes = (through.3 (rw there refl)).0 in
    let put : (h : ℕ) → snapshots_in (map taken_in (c.get_mut.follows.lender (k - 1)).entries) h ≡ cond (h == g) (k - 1) (snapshots_in (map taken_in es) h) = put_counts es (c.get_mut.follows.lender (k - 1)).entries g (k - 1) writes in
    let less : (h : ℕ) → cond (h == g) (k - 1) (snapshots_in (map taken_in es) h) ≡ snapshots_in c.args.self.now h - cond (h == g) 1 0 = λ h.
    ap (λ (n : ℕ). cond (h == g) (n - 1) (snapshots_in (map taken_in es) h)) (sym now) ∙ ap (λ (n : ℕ). cond (h == g) (snapshots_in c.args.self.now g - 1) n) (sym (old h)) ∙ one_less (snapshots_in c.args.self.now) g h in
    let removed = drop_counts (c.get_mut.follows.lender (k - 1)).entries c.remove.new.self.entries g c.remove.ensures.updates.0 in (
      omega arith,
      λ h.
          removed h ∙ ap (λ (n : ℕ). cond (h == g) 0 n) (put h) ∙ twice (h == g) (k - 1) (snapshots_in (map taken_in es) h)
          ∙ ap (λ (n : ℕ). cond (h == g) n (snapshots_in (map taken_in es) h)) (sym c.if-left-eq0.true) ∙ less h,
    )

pub returns-else-left-eq0-clause-ok : goal.returns-else-left-eq0-clause-ok
returns-else-left-eq0-clause-ok c =
    let es : List (ℕ × ℕ) = c.self.inside.counts.entries in
    let g : ℕ = c.args.generation in
    let k : ℕ = c.in-Some.count.now in
    let there : lookup (nat_eq g) es ≡ Some k = sym c.in-Some.ensures.value in
    let old : (h : ℕ) → snapshots_in c.args.self.now h ≡ snapshots_in (map taken_in es) h = λ h. ap (λ (us : List Taken). snapshots_in us h) (sym c.self.view_is) in
    let now : snapshots_in c.args.self.now g ≡ k = old g ∙ counted_in g es ∙ ap (λ (o : Option ℕ). unwrap_or o 0) there in
    let fits = c.self.invariant g in
    let some : 0 < k = (subst (λ (o : Option ℕ). IfSome o (λ n. (0 < n) × (n ≤ snapshot_limit))) there fits).0 in
    let through = c.get_mut.follows.holds (k - 1) in
    let writes = (through.3 (rw there refl)).0 in
    let put : (h : ℕ) → snapshots_in (map taken_in (c.get_mut.follows.lender (k - 1)).entries) h ≡ cond (h == g) (k - 1) (snapshots_in (map taken_in es) h) = put_counts es (c.get_mut.follows.lender (k - 1)).entries g (k - 1) writes in
    let less : (h : ℕ) → cond (h == g) (k - 1) (snapshots_in (map taken_in es) h) ≡ snapshots_in c.args.self.now h - cond (h == g) 1 0 = λ h.
    ap (λ (n : ℕ). cond (h == g) (n - 1) (snapshots_in (map taken_in es) h)) (sym now) ∙ ap (λ (n : ℕ). cond (h == g) (snapshots_in c.args.self.now g - 1) n) (sym (old h)) ∙ one_less (snapshots_in c.args.self.now) g h in
    (omega arith, λ h. put h ∙ less h)
