use Rattle.std.proofs.Common.{◌≡◌, ◌≤◌, ◌+◌, rules, arith, refl, get_or, take, subst, ap, sym, ◌∙◌, ℕ, [], List, map}
use Rattle.std.proofs.lemmas.List.{take_more}
use Rattle.std.specs.Prelude.{◌-◌, Option, Some, None, unwrap_or}
use Rattle.std.specs.Map.{lookup}
use Rattle.cat_ledger_laws.specs.model.Users.{Changes}
use Rattle.cat_directory.specs.declared.name.FileName.{FileName}
use Rattle.cat_directory.specs.declared.name.FileName.TheVariants.{Segment}
use Rattle.cat_directory.specs.Names.{same_name}
use Rattle.cat_lifetimes.specs.declared.refs.refs.FileRefs.TheInside.{Inside}
use Rattle.cat_lifetimes.specs.refs.Counts.{PutsUsers, names_in, used_in, users_under}
use Rattle.cat_lifetimes.proofs.refs.Steps.{one_given, has_one}
use Rattle.cat_lifetimes.proofs.refs.refs.FileRefs.give.Goals as goal
use Rattle.cat_lifetimes.proofs.refs.refs.FileRefs.give.Goals.{in-Some, in_default}

pub overflow_sub-count : goal.overflow_sub-count
overflow_sub-count c =
    let i : ℕ = c.loop-name.name-index in
    let counted : c.in-Some.count.now ≡ users_under c.loop-name.self-inside.users.entries (get_or c.args.names.now i (Segment 0)) = search rules in
    omega (arith, counted, has_one c.args.self.now c.loop-name.self-inside.users.entries c.args.names.now i (Segment 0) c.loop-name-test.true c.requires c.loop-name.invariant)

pub loop-name-preserved : goal.loop-name-preserved
loop-name-preserved c =
    let i : ℕ = c.loop-name.name-index in
    let k : FileName = get_or c.args.names.now i (Segment 0) in
    let one : 1 ≤ users_under c.loop-name.self-inside.users.entries k = has_one c.args.self.now c.loop-name.self-inside.users.entries c.args.names.now i (Segment 0) c.loop-name-test.true c.requires c.loop-name.invariant in
    let es : List (FileName × ℕ) = c.loop-name.self-inside.users.entries in
    let Goal : List (FileName × ℕ) → Type 0 = λ (fs : List (FileName × ℕ)). Changes [] (names_in (take (i + 1) c.args.names.now)) c.args.self.now (map used_in fs) in
    elim c.match-get_mut.branch [
      | in-Some w ↦
          let left : ℕ = w.in-Some.count.now - 1 in
          let there : lookup (same_name k) es ≡ Some w.in-Some.count.now = sym w.in-Some.ensures.value in
          let found : w.in-Some.count.now ≡ users_under es k = sym (ap (λ (o : Option ℕ). unwrap_or o 0) there) in
          let whole : w.in-Some.count.now ≡ left + 1 = omega arith in
          let through = c.get_mut.follows.holds left in
          let updates = through.3 (rw there refl) in
          let puts : PutsUsers es (c.get_mut.follows.lender left).entries k left = updates.0 in
          subst Goal (sym (ap (λ (s : Inside). s.users.entries) w.self-inside-is))
          (rw (take_more c.args.names.now i (Segment 0) c.loop-name-test.true)
          (one_given c.args.self.now (take i c.args.names.now) es (c.get_mut.follows.lender left).entries k left (there ∙ ap (λ (n : ℕ). Some n) whole) puts c.loop-name.invariant))
      | in_default w ↦
          let none : None ≡ lookup (same_name k) es = w.in_default.ensures.value in
          let zero : users_under es k ≡ 0 = ap (λ (o : Option ℕ). unwrap_or o 0) (sym none) in absurd (omega arith)
    ]
