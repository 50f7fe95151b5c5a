use Rattle.std.proofs.lemmas.List.{take_all}
use Rattle.std.proofs.Common.{◌≡◌, ◌≢◌, ◌<◌, List, Some, None, length, inr, refl, sym, subst, ◌∙◌, arith}
use Rattle.std.proofs.lemmas.Result.{IfOk-from_err}
use Rattle.std.specs.List.{HoldsAt}
use Rattle.cat_base.specs.declared.refusal.Refusal.{Refusal}
use Rattle.cat_base.specs.declared.refusal.Refusal.TheVariants.{Damaged, Memory}
use Rattle.cat_directory.specs.declared.name.FileName.TheVariants as file
use Rattle.cat_model.specs.CommitFile.{ListedSegment}
use Rattle.cat_model.specs.View as model
use Rattle.cat_ledger_laws.specs.model.Opening.{IsLeafOf, AreLeavesOf}
use Rattle.cat_ledger_laws.specs.shape.OpeningLaws.{MayHold}
use Rattle.cat_commits.specs.reading.Told.{Tells}
use Rattle.cat_commits.proofs.reading.Reading.{any_fault, passed, not_ok}
use Rattle.cat_commits.proofs.Frames.{fails_after, fails_judged, fails_on, reads_on, told_before}
use Rattle.cat_commits.proofs.reading.Parts.{first_there, leaf_refuted, leaf_there, leaves_next}
use Rattle.cat_commits.proofs.reading.leaves.read_leaves.Goals as goal

pub returns-in_err-leaf-clause-damaged : goal.returns-in_err-leaf-clause-damaged
returns-in_err-leaf-clause-damaged g c =
    passed (λ (e : Refusal). e ≡ Damaged → (leaves : List model.Leaf) → AreLeavesOf (Tells (g.S.Holder.bytes c.args.shelf.now)) c.args.schema.now c.args.listed.now leaves → ⊥) _ _ c.from_residual.ensures
    (λ is leaves k.
    leaf_refuted (g.S.Holder.bytes c.args.shelf.now) (g.S.Holder.bytes c.loop-segment.shelf) c.args.schema.now c.args.listed.now leaves c.loop-segment.segment-index c.segment-item.result c.loop-segment-test.true
    (told_before c.loop-segment.invariant.frame)
    (λ l h. c.in_err-leaf.ensures.damaged is l (subst (λ (x : ListedSegment). IsLeafOf (Tells (g.S.Holder.bytes c.loop-segment.shelf)) c.args.schema.now x l) (sym c.segment-item.is) h)) k)

pub returns-in_err-leaf-clause-due : goal.returns-in_err-leaf-clause-due
returns-in_err-leaf-clause-due g c =
    passed (λ (e : Refusal). e ≡ Memory → (0 < length c.args.listed.now) × HoldsAt (λ (x : ListedSegment). g.S.Holder.bytes c.args.shelf.now (file.Segment x.number) ≢ Some None) c.args.listed.now 0) _ _ c.from_residual.ensures
    (λ is.
    first_there (g.S.Holder.bytes c.args.shelf.now) (g.S.Holder.bytes c.loop-segment.shelf) c.args.schema.now c.args.listed.now c.loop-segment.leaves.items c.loop-segment.segment-index c.segment-item.result c.loop-segment-test.true
    (told_before c.loop-segment.invariant.frame) c.loop-segment.invariant.read
    (subst (λ (x : ListedSegment). g.S.Holder.bytes c.loop-segment.shelf (file.Segment x.number) ≢ Some None) c.segment-item.is (c.in_err-leaf.ensures.due is)))

pub returns-in_err-push-clause-due : goal.returns-in_err-push-clause-due
returns-in_err-push-clause-due g c =
    any_fault (λ (e : Refusal). e ≡ Memory → (0 < length c.args.listed.now) × HoldsAt (λ (x : ListedSegment). g.S.Holder.bytes c.args.shelf.now (file.Segment x.number) ≢ Some None) c.args.listed.now 0) _
    (λ e is.
    first_there (g.S.Holder.bytes c.args.shelf.now) (g.S.Holder.bytes c.loop-segment.shelf) c.args.schema.now c.args.listed.now c.loop-segment.leaves.items c.loop-segment.segment-index c.segment-item.result c.loop-segment-test.true
    (told_before c.loop-segment.invariant.frame) c.loop-segment.invariant.read
    (subst (λ (x : ListedSegment). g.S.Holder.bytes c.loop-segment.shelf (file.Segment x.number) ≢ Some None) c.segment-item.is
    (leaf_there (g.S.Holder.bytes c.loop-segment.shelf) c.args.schema.now c.segment-item.result c.in_ok-leaf.leaf c.in_ok-leaf.ensures.ok)))

pub loop-segment-preserved : goal.loop-segment-preserved
loop-segment-preserved g c = record {
  read = leaves_next (g.S.Holder.bytes c.args.shelf.now) (g.S.Holder.bytes c.loop-segment.shelf) c.args.schema.now c.args.listed.now c.loop-segment.leaves.items c.push.new.self.items c.in_ok-leaf.leaf c.loop-segment.segment-index c.segment-item.result
      c.loop-segment-test.true (told_before c.loop-segment.invariant.frame)
      (subst (λ (x : ListedSegment). IsLeafOf (MayHold (g.S.Holder.bytes c.loop-segment.shelf)) c.args.schema.now x c.in_ok-leaf.leaf) c.segment-item.is c.in_ok-leaf.ensures.ok) c.loop-segment.invariant.read c.in_ok-push.ensures.items;
  frame = reads_on c.loop-segment.invariant.frame c.in_ok-leaf.ensures.frame;
  count = c.in_ok-leaf.ensures.fails.counted ∙ c.loop-segment.invariant.count;
}

pub returns-in_err-leaf-clause-fails : goal.returns-in_err-leaf-clause-fails
returns-in_err-leaf-clause-fails g c = fails_after c.loop-segment.invariant.frame.can c.loop-segment.invariant.count (fails_on c.from_residual.ensures c.in_err-leaf.ensures.fails)

pub returns-in_err-leaf-clause-frame : goal.returns-in_err-leaf-clause-frame
returns-in_err-leaf-clause-frame g c = reads_on c.loop-segment.invariant.frame c.in_err-leaf.ensures.frame

pub returns-in_err-push-clause-frame : goal.returns-in_err-push-clause-frame
returns-in_err-push-clause-frame g c = reads_on c.loop-segment.invariant.frame c.in_ok-leaf.ensures.frame

pub returns-clause-frame : goal.returns-clause-frame
returns-clause-frame g c = c.loop-segment.invariant.frame

pub returns-clause-fails : goal.returns-clause-fails
returns-clause-fails g c = record { device = tt; counted = c.loop-segment.invariant.count }

pub returns-in_err-leaf-clause-ok : goal.returns-in_err-leaf-clause-ok
returns-in_err-leaf-clause-ok g c = not_ok (λ v. AreLeavesOf (MayHold (g.S.Holder.bytes c.args.shelf.now)) c.args.schema.now c.args.listed.now v.items) _ _ c.from_residual.ensures

pub returns-clause-ok : goal.returns-clause-ok
returns-clause-ok g c =
    subst (λ (l : List ListedSegment). AreLeavesOf (MayHold (g.S.Holder.bytes c.args.shelf.now)) c.args.schema.now l c.loop-segment.leaves.items)
    (take_all c.loop-segment.segment-index c.args.listed.now (omega arith)) c.loop-segment.invariant.read

pub returns-in_err-push-clause-ok : goal.returns-in_err-push-clause-ok
returns-in_err-push-clause-ok g c = IfOk-from_err _ _ c.from_residual-in_err-push.ensures.0

pub returns-in_err-push-clause-damaged : goal.returns-in_err-push-clause-damaged
returns-in_err-push-clause-damaged g c =
    passed (λ (e : Refusal). e ≡ Damaged → (leaves : List model.Leaf) → AreLeavesOf (Tells (g.S.Holder.bytes c.args.shelf.now)) c.args.schema.now c.args.listed.now leaves → ⊥) _ Memory c.from_residual-in_err-push.ensures
    (λ is. absurd (let no : Memory ≡ Damaged = is in cc))

pub returns-in_err-push-clause-fails : goal.returns-in_err-push-clause-fails
returns-in_err-push-clause-fails g c = fails_judged c.from_residual-in_err-push.ensures (c.in_ok-leaf.ensures.fails.counted ∙ c.loop-segment.invariant.count) (inr refl)
