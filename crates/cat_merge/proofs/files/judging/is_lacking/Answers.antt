use Rattle.std.proofs.Common.{◌≡◌, true, false, inr}
use Rattle.std.specs.Prelude.{◌⊎◌, All, Any}
use Rattle.cat_ledger_laws.specs.shape.Ties.{ToldFiles}
use Rattle.cat_model.specs.View.{Leaf}
use Rattle.cat_merge.specs.declared.sources.SourceRange.{SourceRange}
use Rattle.cat_merge.specs.files.Sources.{IsCutOff, MayReachRange, ranges_at}
use Rattle.cat_merge.proofs.files.Judged.{if_ok, kept_cut, kept_is, kept_reached, range_is}
use Rattle.cat_merge.proofs.files.judging.is_lacking.Goals as goal

pub returns-clause-cut : goal.returns-clause-cut
returns-clause-cut g c =
    let told : ToldFiles = g.S.Holder.bytes c.args.shelf.now in
    let x : Leaf = c.index-inputs-place.result in
    let range : SourceRange = record { segment = c.number.result; offset = c.source_offset.result; len = c.source_length.result } in
    let live = kept_is c.args.inputs.now c.args.place x c.live.result.now c.is_live.result c.requires.input c.index-inputs-place.is c.live.ensures.value c.is_live.ensures c.if-not-is_live.false in
    let is = range_is c.args.inputs.now c.args.place x c.segment-segment.result.now c.number.result c.source_offset.result c.source_length.result c.requires.input c.index-inputs-place.is
    c.segment-segment.ensures c.number.ensures c.source_offset.ensures c.source_length.ensures in
    if_ok (λ b. b ≡ true → IsCutOff told range) (λ b. b ≡ true → (c.args.before ≡ true) ⊎ Any (IsCutOff told) (ranges_at c.args.inputs.now c.args.place)) c.lacks_range.result
    (λ b cut lacks. inr (kept_cut told c.args.inputs.now c.args.place range live is (cut lacks))) c.lacks_range.ensures.cut

pub returns-clause-reached : goal.returns-clause-reached
returns-clause-reached g c =
    let told : ToldFiles = g.S.Holder.bytes c.args.shelf.now in
    let x : Leaf = c.index-inputs-place.result in
    let range : SourceRange = record { segment = c.number.result; offset = c.source_offset.result; len = c.source_length.result } in
    let live = kept_is c.args.inputs.now c.args.place x c.live.result.now c.is_live.result c.requires.input c.index-inputs-place.is c.live.ensures.value c.is_live.ensures c.if-not-is_live.false in
    let is = range_is c.args.inputs.now c.args.place x c.segment-segment.result.now c.number.result c.source_offset.result c.source_length.result c.requires.input c.index-inputs-place.is
    c.segment-segment.ensures c.number.ensures c.source_offset.ensures c.source_length.ensures in
    if_ok (λ b. b ≡ false → MayReachRange told range) (λ b. b ≡ false → (c.args.before ≡ false) × All (MayReachRange told) (ranges_at c.args.inputs.now c.args.place)) c.lacks_range.result
    (λ b reach has. (c.if-before.false, kept_reached told c.args.inputs.now c.args.place range live is (reach has))) c.lacks_range.ensures.reached
