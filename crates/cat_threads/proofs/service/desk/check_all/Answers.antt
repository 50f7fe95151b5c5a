use Rattle.std.proofs.Common.{◌≡◌, [], ◌∷◌, ◌++◌, List, refl, sym, ap, ◌∙◌, subst, append_assoc, arith}
use Rattle.std.specs.Vec.Iter.{into_iter_items}
use Rattle.std.proofs.lemmas.Grind.{common_steps}
use Rattle.crossbeam_utils.specs.Seq.{cell_view}
use Rattle.cat_threads.specs.history.Rules.{Each, Sight, scribe}
use Rattle.cat_threads.specs.service.Passes.{Ends, Seen}
use Rattle.cat_threads.proofs.service.Passed.{each-snoc}
use Rattle.cat_threads.proofs.service.desk.check_all.Goals as goal

pub loop-pass-init : goal.loop-pass-init
loop-pass-init g c = (refl, refl, ([], refl, tt))

pub check-requires-clause-cell : goal.check-requires-clause-cell
check-requires-clause-cell g c = (c.requires.cell.0, c.loop-pass.invariant.0 ∙ c.requires.cell.1)

pub check-requires-clause-desk : goal.check-requires-clause-desk
check-requires-clause-desk g c = subst (λ (x : Sight). x ≡ scribe x.list x.token g.J.Naming.sessions []) (sym c.loop-pass.invariant.1) c.requires.desk

pub loop-pass-preserved : goal.loop-pass-preserved
loop-pass-preserved g c =
    let i = c.loop-pass.invariant in
    let gone = i.2.0 in
    let pass = c.in-Some.pass in
    let k = c.check.ensures in
    let stays : cell_view c.check.new.scribe ≡ cell_view c.loop-pass.scribe = k.same.1 in (
      k.same.0 ∙ i.0,
      stays ∙ i.1,
      (
        gone ++ pass ∷ [],
        append_assoc gone (pass ∷ []) (into_iter_items c.next.new.self) ∙ (ap (λ (l : List Seen). gone ++ l) (sym c.in-Some.ensures.steps.0) ∙ i.2.1),
        each-snoc (Ends (cell_view c.check.new.scribe).list) gone pass (subst (λ (x : Sight). Each (Ends x.list) gone) (sym stays) i.2.2) k.ends,
      ),
    )

pub returns-clause-same : goal.returns-clause-same
returns-clause-same g c = (c.loop-pass.invariant.0, c.loop-pass.invariant.1)

pub returns-clause-ends : goal.returns-clause-ends
returns-clause-ends c = grind (arith, common_steps)
