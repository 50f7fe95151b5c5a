use Rattle.std.proofs.Common.{◌≡◌, ◌<◌, ◌++◌, ◌∷◌, [], ◌∙◌, length, sym, subst, append_assoc, arith}
use Rattle.std.specs.List.{AllByRecursion}
use Rattle.std.proofs.lemmas.List.Elements.{recursion_from_All}
use Rattle.std.proofs.lemmas.Grind.{common_steps}
use Rattle.cat_views.proofs.Selected.{All-right}
use Rattle.cat_search.specs.Hits.{hit_rows}
use Rattle.cat_search.proofs.walk.Reach.covers.Goals as goal

pub contains-requires : goal.contains-requires
contains-requires c =
    let n = length (hit_rows c.args.hits.now) in
    let rest : c.loop-row.yielded ++ c.in-Some.row ∷ c.next.new.self ≡ c.args.steps = rw c.in-Some.ensures.steps at c.loop-row.invariant.rows in
    (All-right (λ r. r < n) c.loop-row.yielded (c.in-Some.row ∷ c.next.new.self) (subst (AllByRecursion (λ r. r < n)) (sym rest) (recursion_from_All (λ r. r < n) c.args.steps c.requires))).0

pub loop-row-preserved : goal.loop-row-preserved
loop-row-preserved c =
    let rest : c.loop-row.yielded ++ c.in-Some.row ∷ c.next.new.self ≡ c.args.steps = rw c.in-Some.ensures.steps at c.loop-row.invariant.rows in
    record { can = tt; finite = tt; rows = append_assoc c.loop-row.yielded (c.in-Some.row ∷ []) c.next.new.self ∙ rest }

pub loop-row-preserved-then-contains : goal.loop-row-preserved-then-contains
loop-row-preserved-then-contains c = grind (arith, common_steps)
