use Rattle.cat_commits.proofs.reading.Parts.{leaf_there}
use Rattle.std.proofs.Common.{◌≡◌, ◌≢◌, Some, None, inr, refl}
use Rattle.std.proofs.lemmas.Result.{IfOk-from_err}
use Rattle.cat_base.specs.declared.refusal.Refusal.{Refusal}
use Rattle.cat_base.specs.declared.refusal.Refusal.TheVariants.{Damaged, Memory}
use Rattle.cat_directory.specs.declared.name.FileName.TheVariants as file
use Rattle.cat_model.specs.View as model
use Rattle.cat_ledger_laws.specs.model.Opening.{IsLeafOf}
use Rattle.cat_commits.specs.reading.Told.{Tells}
use Rattle.cat_commits.proofs.reading.Reading.{not_ok, passed, any_fault}
use Rattle.cat_commits.proofs.Frames.{fails_judged, fails_on}
use Rattle.cat_commits.proofs.reading.leaf.read_leaf.Goals as goal

pub returns-in_err-segment : goal.returns-in_err-segment
returns-in_err-segment g c = record {
  ok = not_ok _ _ _ c.from_residual.ensures;
  damaged = passed (λ (e : Refusal). e ≡ Damaged → (leaf : model.Leaf) → IsLeafOf (Tells (g.S.Holder.bytes c.args.shelf.now)) c.args.schema.now c.args.listed leaf → ⊥) _ _ c.from_residual.ensures c.in_err-segment.ensures.damaged;
  due = passed (λ (e : Refusal). e ≡ Memory → g.S.Holder.bytes c.args.shelf.now (file.Segment c.args.listed.number) ≢ Some None) _ _ c.from_residual.ensures c.in_err-segment.ensures.due;
  fails = fails_on c.from_residual.ensures c.in_err-segment.ensures.fails;
  frame = c.in_err-segment.ensures.frame;
}

pub returns-in_err-segment-2-clause-frame : goal.returns-in_err-segment-2-clause-frame
returns-in_err-segment-2-clause-frame g c = c.in_ok-segment.ensures.frame

pub returns-in_err-live-clause-frame : goal.returns-in_err-live-clause-frame
returns-in_err-live-clause-frame g c = c.in_ok-segment.ensures.frame

pub returns-clause-frame : goal.returns-clause-frame
returns-clause-frame g c = c.in_ok-segment.ensures.frame

pub returns-clause-fails : goal.returns-clause-fails
returns-clause-fails g c = record { device = tt; counted = c.in_ok-segment.ensures.fails.counted }

pub returns-in_err-segment-2-clause-due : goal.returns-in_err-segment-2-clause-due
returns-in_err-segment-2-clause-due g c =
    any_fault (λ (e : Refusal). e ≡ Memory → g.S.Holder.bytes c.args.shelf.now (file.Segment c.args.listed.number) ≢ Some None) _
    (λ e is. leaf_there (g.S.Holder.bytes c.args.shelf.now) c.args.schema.now c.args.listed (record { segment = c.in_ok-segment.segment; live = c.in_ok-segment.live }) c.in_ok-segment.ensures.ok)

pub returns-in_err-live-clause-due : goal.returns-in_err-live-clause-due
returns-in_err-live-clause-due g c =
    any_fault (λ (e : Refusal). e ≡ Memory → g.S.Holder.bytes c.args.shelf.now (file.Segment c.args.listed.number) ≢ Some None) _
    (λ e is. leaf_there (g.S.Holder.bytes c.args.shelf.now) c.args.schema.now c.args.listed (record { segment = c.in_ok-segment.segment; live = c.in_ok-segment.live }) c.in_ok-segment.ensures.ok)

pub returns-in_err-segment-2-clause-ok : goal.returns-in_err-segment-2-clause-ok
returns-in_err-segment-2-clause-ok g c = IfOk-from_err _ _ c.from_residual-in_err-segment-2.ensures.0

pub returns-in_err-segment-2-clause-damaged : goal.returns-in_err-segment-2-clause-damaged
returns-in_err-segment-2-clause-damaged g c =
    passed (λ (e : Refusal). e ≡ Damaged → (leaf : model.Leaf) → IsLeafOf (Tells (g.S.Holder.bytes c.args.shelf.now)) c.args.schema.now c.args.listed leaf → ⊥) _ Memory c.from_residual-in_err-segment-2.ensures
    (λ is. absurd (let no : Memory ≡ Damaged = is in cc))

pub returns-in_err-segment-2-clause-fails : goal.returns-in_err-segment-2-clause-fails
returns-in_err-segment-2-clause-fails g c = fails_judged c.from_residual-in_err-segment-2.ensures c.in_ok-segment.ensures.fails.counted (inr refl)

pub returns-in_err-live-clause-ok : goal.returns-in_err-live-clause-ok
returns-in_err-live-clause-ok g c = IfOk-from_err _ _ c.from_residual-in_err-live.ensures.0

pub returns-in_err-live-clause-damaged : goal.returns-in_err-live-clause-damaged
returns-in_err-live-clause-damaged g c =
    passed (λ (e : Refusal). e ≡ Damaged → (leaf : model.Leaf) → IsLeafOf (Tells (g.S.Holder.bytes c.args.shelf.now)) c.args.schema.now c.args.listed leaf → ⊥) _ Memory c.from_residual-in_err-live.ensures
    (λ is. absurd (let no : Memory ≡ Damaged = is in cc))

pub returns-in_err-live-clause-fails : goal.returns-in_err-live-clause-fails
returns-in_err-live-clause-fails g c = fails_judged c.from_residual-in_err-live.ensures c.in_ok-segment.ensures.fails.counted (inr refl)
