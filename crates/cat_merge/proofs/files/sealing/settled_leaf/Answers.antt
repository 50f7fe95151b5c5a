use Rattle.std.proofs.Common.{◌≡◌, [], ◌∷◌, length, map, ap, ap₂, sym, ◌∙◌}
use Rattle.cat_model.specs.View.{Leaf, Segment}
use Rattle.cat_merge.proofs.files.Merged.{deleted_with, leaf_with, leaf_long, leaf_merged, sealed_some}
use Rattle.cat_merge.proofs.files.sealing.settled_leaf.Goals as goal

pub settle-requires : goal.settle-requires
settle-requires c = rw c.deref.ensures.value (deleted_with c.args.merge.inputs c.args.window.now _ c.in_ok-lives.ensures.ok c.requires.window)

pub new-requires-3 : goal.new-requires-3
new-requires-3 c =
    let lives : map (λ l. l.now) c.deref.result.now ≡ map (λ (leaf : Leaf). leaf.live) c.args.window.now = rw c.deref.ensures.value c.in_ok-lives.ensures.ok in
    let sealed = sealed_some c.args.merge.number c.args.merge.schema c.args.merge.inputs c.in_ok-segment.field-0 c.in-Some.segment c.in-Some.is c.in_ok-segment.ensures.ok in
    ap length c.in_ok-live-2.ensures.ok
    ∙ leaf_long c.args.merge.number c.args.merge.schema c.args.merge.inputs c.args.window.now _ c.in-Some.segment c.in_ok-live.live c.requires.window lives c.in_ok-lives.ensures.long sealed.1 c.in_ok-live.ensures
    ∙ ap (λ (s : Segment). length s.rows) (sym c.in_ok-segment-2.ensures.ok)

pub returns : goal.returns
returns c =
    let lives : map (λ l. l.now) c.deref.result.now ≡ map (λ (leaf : Leaf). leaf.live) c.args.window.now = rw c.deref.ensures.value c.in_ok-lives.ensures.ok in
    let sealed = sealed_some c.args.merge.number c.args.merge.schema c.args.merge.inputs c.in_ok-segment.field-0 c.in-Some.segment c.in-Some.is c.in_ok-segment.ensures.ok in
    let made : c.new-3.result ≡ leaf_with c.in-Some.segment c.in_ok-live.live = c.new-3.ensures ∙ ap₂ leaf_with c.in_ok-segment-2.ensures.ok c.in_ok-live-2.ensures.ok in
    record {
      ok = ap (λ (leaf : Leaf). leaf ∷ []) made
          ∙ leaf_merged c.args.merge.number c.args.merge.schema c.args.merge.inputs c.args.window.now _ c.in-Some.segment c.in_ok-live.live c.requires.window lives sealed.0 sealed.1 c.in_ok-live.ensures;
    }
