use Rattle.std.proofs.Common.{◌∙◌, Some, sym, ap}
use Rattle.std.specs.Prelude.{◌==◌}
use Rattle.cat_lifetimes.specs.records.Counts.{recorded_token}
use Rattle.cat_lifetimes.proofs.records.Searched.{found_at, not_found}
use Rattle.cat_lifetimes.proofs.records.recorded.recorded_under.Goals as goal

pub returns-in_err-index : goal.returns-in_err-index
returns-in_err-index c = rw c.from_residual.ensures (sym (not_found (λ r. recorded_token r == c.args.token) c.args.recorded.now (sym c.in_err-index.ensures.none)))

pub returns : goal.returns
returns c =
    ap Some c.index-recorded-index.is
    ∙ sym (found_at c.args.recorded.now c.args.token c.in_ok-index.index c.index-recorded-index.result c.requires c.in_ok-index.ensures.some.0 (c.in_ok-index.ensures.some.1 c.index-recorded-index.result))
