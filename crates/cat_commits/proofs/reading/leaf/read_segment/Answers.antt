use Rattle.std.proofs.Common.{◌≡◌, ◌≢◌, Some, None, true, false, sym, subst, rules}
use Rattle.cat_base.specs.declared.refusal.Refusal.{Refusal}
use Rattle.cat_base.specs.declared.refusal.Refusal.TheVariants.{Damaged, Device, Memory}
use Rattle.cat_directory.specs.declared.name.FileName.TheVariants as file
use Rattle.cat_model.specs.Text.{Text}
use Rattle.cat_model.specs.Layout.{SpellsSegment}
use Rattle.cat_model.specs.View as model
use Rattle.cat_ledger_laws.specs.shape.OpeningLaws.{MayHold}
use Rattle.cat_commits.specs.reading.Leaf.{IsSegmentReadAs}
use Rattle.cat_commits.specs.reading.Told.{Tells}
use Rattle.cat_commits.proofs.reading.Reading.{not_ok, passed}
use Rattle.cat_commits.proofs.Frames.{fails_judged, fails_on}
use Rattle.cat_commits.proofs.reading.Parts.{is_other, not_absent, read_as, spells_told, told_there}
use Rattle.cat_commits.proofs.reading.leaf.read_segment.Goals as goal

pub returns-in_err-bytes : goal.returns-in_err-bytes
returns-in_err-bytes g c = record {
  ok = not_ok (IsSegmentReadAs (MayHold (g.S.Holder.bytes c.args.shelf.now)) c.args.schema.now c.args.number) _ _ c.from_residual.ensures;
  damaged = passed (λ (e : Refusal). e ≡ Damaged → (s : model.Segment) → IsSegmentReadAs (Tells (g.S.Holder.bytes c.args.shelf.now)) c.args.schema.now c.args.number s → ⊥) _ _ c.from_residual.ensures
      (λ is s r. c.in_err-bytes.ensures.damaged is r.segment.bytes (told_there (g.S.Holder.bytes c.args.shelf.now) c.args.schema.now c.args.number s r));
  due = passed (λ (e : Refusal). e ≡ Memory → g.S.Holder.bytes c.args.shelf.now (file.Segment c.args.number) ≢ Some None) _ _ c.from_residual.ensures c.in_err-bytes.ensures.due;
  fails = fails_on c.from_residual.ensures c.in_err-bytes.ensures.fails;
  frame = c.in_err-bytes.ensures.frame;
}

pub returns-in_err-segment : goal.returns-in_err-segment
returns-in_err-segment g c = record {
  ok = not_ok (IsSegmentReadAs (MayHold (g.S.Holder.bytes c.args.shelf.now)) c.args.schema.now c.args.number) _ _ c.from_residual-in_err-segment.ensures;
  damaged = passed (λ (e : Refusal). e ≡ Damaged → (s : model.Segment) → IsSegmentReadAs (Tells (g.S.Holder.bytes c.args.shelf.now)) c.args.schema.now c.args.number s → ⊥) _ _ c.from_residual-in_err-segment.ensures
      (λ is s r.
      c.in_err-segment.ensures.damaged is s (subst (λ (b : Text). SpellsSegment b s) (sym c.deref.ensures.value)
      (spells_told (g.S.Holder.bytes c.args.shelf.now) c.args.schema.now c.args.number c.in_ok-bytes.bytes.items s c.in_ok-bytes.ensures.ok r)));
  due = passed (λ (e : Refusal). e ≡ Memory → g.S.Holder.bytes c.args.shelf.now (file.Segment c.args.number) ≢ Some None) _ _ c.from_residual-in_err-segment.ensures
      (λ is. not_absent (g.S.Holder.bytes c.args.shelf.now (file.Segment c.args.number)) c.in_ok-bytes.bytes.items c.in_ok-bytes.ensures.ok);
  fails = fails_judged c.from_residual-in_err-segment.ensures c.in_ok-bytes.ensures.fails.counted c.in_err-segment.ensures.refusal;
  frame = c.in_ok-bytes.ensures.frame;
}

pub returns-then-not-is_of : goal.returns-then-not-is_of
returns-then-not-is_of g c = record {
  ok = tt;
  damaged = λ is s r.
      is_other c.segments_are_told_by_their_bytes.ensures (g.S.Holder.bytes c.args.shelf.now) c.args.schema.now c.args.number c.in_ok-bytes.bytes.items c.in_ok-segment.segment s c.in_ok-bytes.ensures.ok
      (subst (λ (b : Text). SpellsSegment b c.in_ok-segment.segment) c.deref.ensures.value c.in_ok-segment.ensures.ok)
      (λ both. absurd (let yes : c.is_of.result ≡ true = c.is_of.ensures.1 both in let no : c.is_of.result ≡ false = search rules in cc)) r;
  due = λ is. absurd (let no : Damaged ≡ Memory = is in cc);
  fails = record { device = λ is. absurd (let no : Damaged ≡ Device = is in cc); counted = c.in_ok-bytes.ensures.fails.counted };
  frame = c.in_ok-bytes.ensures.frame;
}

pub returns : goal.returns
returns g c = record {
  ok = read_as (g.S.Holder.bytes c.args.shelf.now) c.args.schema.now c.args.number c.in_ok-bytes.bytes.items c.in_ok-segment.segment c.in_ok-bytes.ensures.ok
      (subst (λ (b : Text). SpellsSegment b c.in_ok-segment.segment) c.deref.ensures.value c.in_ok-segment.ensures.ok) (c.is_of.ensures.0 (search rules));
  damaged = tt;
  due = tt;
  fails = record { device = tt; counted = c.in_ok-bytes.ensures.fails.counted };
  frame = c.in_ok-bytes.ensures.frame;
}
