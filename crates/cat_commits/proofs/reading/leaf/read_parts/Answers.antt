use Rattle.std.proofs.Common.{◌≡◌, ◌≢◌, ℕ, Some, None, ◌∙◌, subst}
use Rattle.cat_base.specs.declared.refusal.Refusal.{Refusal}
use Rattle.cat_base.specs.declared.refusal.Refusal.TheVariants.{Damaged, Memory}
use Rattle.cat_directory.specs.declared.name.FileName.TheVariants as file
use Rattle.cat_model.specs.View as model
use Rattle.cat_ledger_laws.specs.model.Opening.{IsLeafOf}
use Rattle.cat_commits.specs.reading.Told.{Tells}
use Rattle.cat_commits.proofs.reading.Reading.{not_ok, passed}
use Rattle.cat_commits.proofs.Frames.{fails_after, fails_on, reads_on, told_before}
use Rattle.cat_commits.proofs.reading.Parts.{leaf_read, live_refuted, read_there, sources_refuted, parts_are}
use Rattle.cat_commits.proofs.reading.leaf.read_parts.Goals as goal

pub returns-in_err-segment : goal.returns-in_err-segment
returns-in_err-segment g c = record {
  ok = not_ok _ _ _ c.from_residual.ensures;
  damaged = passed (λ (e : Refusal). e ≡ Damaged → (leaf : model.Leaf) → IsLeafOf (Tells (g.S.Holder.bytes c.args.shelf.now)) c.args.schema.now c.args.listed leaf → ⊥) _ _ c.from_residual.ensures
      (λ is leaf k. c.in_err-segment.ensures.damaged is leaf.segment (leaf_read (Tells (g.S.Holder.bytes c.args.shelf.now)) c.args.schema.now c.args.listed c.number.result leaf c.number.ensures k));
  due = passed (λ (e : Refusal). e ≡ Memory → g.S.Holder.bytes c.args.shelf.now (file.Segment c.args.listed.number) ≢ Some None) _ _ c.from_residual.ensures
      (λ is. subst (λ (n : ℕ). g.S.Holder.bytes c.args.shelf.now (file.Segment n) ≢ Some None) c.number.ensures (c.in_err-segment.ensures.due is));
  fails = fails_on c.from_residual.ensures c.in_err-segment.ensures.fails;
  frame = c.in_err-segment.ensures.frame;
}

pub returns-in_err-live : goal.returns-in_err-live
returns-in_err-live g c = record {
  ok = not_ok _ _ _ c.from_residual-in_err-live.ensures;
  damaged = passed (λ (e : Refusal). e ≡ Damaged → (leaf : model.Leaf) → IsLeafOf (Tells (g.S.Holder.bytes c.args.shelf.now)) c.args.schema.now c.args.listed leaf → ⊥) _ _ c.from_residual-in_err-live.ensures
      (λ is leaf k.
      live_refuted c.segments_are_told_by_their_bytes.ensures (g.S.Holder.bytes c.args.shelf.now) _ c.args.schema.now c.args.listed c.number.result c.in_ok-segment.segment leaf c.number.ensures
      (told_before c.in_ok-segment.ensures.frame) c.in_ok-segment.ensures.ok k c.len-rows.result c.len-rows.ensures.same (c.in_err-live.ensures.damaged is));
  due = passed (λ (e : Refusal). e ≡ Memory → g.S.Holder.bytes c.args.shelf.now (file.Segment c.args.listed.number) ≢ Some None) _ _ c.from_residual-in_err-live.ensures
      (λ is. read_there (g.S.Holder.bytes c.args.shelf.now) c.args.schema.now c.number.result c.args.listed.number c.in_ok-segment.segment c.number.ensures c.in_ok-segment.ensures.ok);
  fails = fails_on c.from_residual-in_err-live.ensures (fails_after c.in_ok-segment.ensures.frame.can c.in_ok-segment.ensures.fails.counted c.in_err-live.ensures.fails);
  frame = reads_on c.in_ok-segment.ensures.frame c.in_err-live.ensures.frame;
}

pub returns-in_err-judge_sources : goal.returns-in_err-judge_sources
returns-in_err-judge_sources g c = record {
  ok = not_ok _ _ _ c.from_residual-in_err-judge_sources.ensures;
  damaged = passed (λ (e : Refusal). e ≡ Damaged → (leaf : model.Leaf) → IsLeafOf (Tells (g.S.Holder.bytes c.args.shelf.now)) c.args.schema.now c.args.listed leaf → ⊥) _ _ c.from_residual-in_err-judge_sources.ensures
      (λ is leaf k.
      sources_refuted c.segments_are_told_by_their_bytes.ensures (g.S.Holder.bytes c.args.shelf.now) _ c.args.schema.now c.args.listed c.number.result c.in_ok-segment.segment leaf c.number.ensures
      (told_before (reads_on c.in_ok-segment.ensures.frame c.in_ok-live.ensures.frame)) c.in_ok-segment.ensures.ok k (c.in_err-judge_sources.ensures.damaged is));
  due = passed (λ (e : Refusal). e ≡ Memory → g.S.Holder.bytes c.args.shelf.now (file.Segment c.args.listed.number) ≢ Some None) _ _ c.from_residual-in_err-judge_sources.ensures
      (λ is. read_there (g.S.Holder.bytes c.args.shelf.now) c.args.schema.now c.number.result c.args.listed.number c.in_ok-segment.segment c.number.ensures c.in_ok-segment.ensures.ok);
  fails = fails_on c.from_residual-in_err-judge_sources.ensures
      (fails_after (reads_on c.in_ok-segment.ensures.frame c.in_ok-live.ensures.frame).can (c.in_ok-live.ensures.fails.counted ∙ c.in_ok-segment.ensures.fails.counted) c.in_err-judge_sources.ensures.fails);
  frame = reads_on (reads_on c.in_ok-segment.ensures.frame c.in_ok-live.ensures.frame) c.in_err-judge_sources.ensures.frame;
}

pub returns : goal.returns
returns g c = record {
  ok = parts_are (g.S.Holder.bytes c.args.shelf.now) _ _ c.args.schema.now c.args.listed c.number.result c.len-rows.result c.in_ok-segment.segment c.in_ok-live.live c.number.ensures
      (told_before c.in_ok-segment.ensures.frame) (told_before (reads_on c.in_ok-segment.ensures.frame c.in_ok-live.ensures.frame)) c.len-rows.ensures.same c.in_ok-segment.ensures.ok
      c.in_ok-live.ensures.ok.0 c.in_ok-live.ensures.ok.1 c.in_ok-judge_sources.ensures.ok;
  damaged = tt;
  due = tt;
  fails = record { device = tt; counted = c.in_ok-judge_sources.ensures.fails.counted ∙ c.in_ok-live.ensures.fails.counted ∙ c.in_ok-segment.ensures.fails.counted };
  frame = reads_on (reads_on c.in_ok-segment.ensures.frame c.in_ok-live.ensures.frame) c.in_ok-judge_sources.ensures.frame;
}
