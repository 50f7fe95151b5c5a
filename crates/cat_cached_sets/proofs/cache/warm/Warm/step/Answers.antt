use Rattle.std.proofs.Common.{◌≡◌, ◌∙◌, ◌+◌, length, ap, arith}
use Rattle.cat_model.specs.View.{Segment}
use Rattle.cat_cached_sets.specs.cache.Warmed.{Warm}
use Rattle.cat_cached_sets.proofs.cache.warm.Warm.step.Goals as goal

pub returns-then-left-gt-MAX_STEP_ROWS-clause-ok : goal.returns-then-left-gt-MAX_STEP_ROWS-clause-ok
returns-then-left-gt-MAX_STEP_ROWS-clause-ok c =
    let long : c.len-rows.result ≡ length c.args.self.now.segment.rows =
    c.len-rows.ensures.same ∙ ap (λ (s : Segment). length s.rows) (c.deref.ensures ∙ ap (λ (w : Warm). w.segment) c.self.view_is) in
    record {
      rows = ap (λ (w : Warm). w.passed + 256) c.self.view_is;
      left = omega (arith, long, c.if-left-gt-MAX_STEP_ROWS.true);
      new = ap (λ (w : Warm). record w { passed = c.self.inside.passed + 256 }) c.self.view_is;
    }
