use Rattle.std.proofs.lemmas.Result.{IfOk-from_err}
use Rattle.std.proofs.lemmas.List.{take_all}
use Rattle.std.proofs.Common.{ℕ, List, ◌++◌, take, sym, ap, ◌∙◌, append_assoc, arith}
use Rattle.std.specs.List.{flat_map}
use Rattle.cat_commits.proofs.Lists.{flat_map_more}
use Rattle.cat_model.specs.CommitFile.{ListedSegment, spelled_listed}
use Rattle.cat_commits.proofs.encoding.put_segments.Goals as goal

pub loop-segment-preserved : goal.loop-segment-preserved
loop-segment-preserved c =
    let front : List ℕ = flat_map spelled_listed (take c.loop-segment.segment-index c.args.segments.now) in
    let more = flat_map_more spelled_listed c.args.segments.now c.loop-segment.segment-index c.segment-item.result c.loop-segment-test.true in
    c.in_ok-put_segment.ensures
    ∙ ap (λ (l : List ℕ). l ++ spelled_listed c.segment-item.result) c.loop-segment.invariant
    ∙ append_assoc c.args.out.now.items front (spelled_listed c.segment-item.result)
    ∙ ap (λ (s : ListedSegment). c.args.out.now.items ++ (front ++ spelled_listed s)) c.segment-item.is
    ∙ ap (λ (l : List ℕ). c.args.out.now.items ++ l) (sym more)

pub returns : goal.returns
returns c =
    c.loop-segment.invariant
    ∙ ap (λ (l : List ListedSegment). c.args.out.now.items ++ flat_map spelled_listed l) (take_all c.loop-segment.segment-index c.args.segments.now (omega arith))

pub returns-in_err-put_segment : goal.returns-in_err-put_segment
returns-in_err-put_segment c = IfOk-from_err _ _ c.from_residual.ensures.0
