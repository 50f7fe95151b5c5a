use Rattle.std.proofs.Common.{◌≡◌, ◌∙◌, ◌<◌, List, true, sym, ap, subst, arith}
use Rattle.std.proofs.lemmas.List.{take_all}
use Rattle.cat_model.specs.Text.{Text}
use Rattle.cat_segment.specs.Filter.{id_hash, may_have, IsFilter}
use Rattle.cat_segment.proofs.Steps.{holds_more}
use Rattle.cat_segment.proofs.filter.filter_of.Goals as goal

pub loop-id-preserved : goal.loop-id-preserved
loop-id-preserved c =
    let bits = c.insert.new.bits in
    let here = subst (λ hash. may_have bits hash ≡ true) (c.id_hash.ensures ∙ ap id_hash c.as_str.ensures) c.insert.ensures.here in
    record {
      some = subst (λ n. 0 < n) (sym c.insert.ensures.long) c.loop-id.invariant.some;
      set = holds_more c.args.ids.now c.loop-id.id-index c.id-item.result c.loop-id-test.true c.id-item.is (λ id. may_have bits (id_hash id) ≡ true)
          (λ k d lt. c.insert.ensures.kept _ (c.loop-id.invariant.set k d lt)) here;
    }

pub returns : goal.returns
returns c = record { ok = subst (λ (ids : List Text). IsFilter ids c.loop-id.bits) (take_all c.loop-id.id-index c.args.ids.now c.loop-id-test.false) c.loop-id.invariant }

pub loop-id-init : goal.loop-id-init
loop-id-init c = grind arith
