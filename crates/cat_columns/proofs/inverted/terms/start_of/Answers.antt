use Rattle.std.proofs.Common.{◌≡◌, ◌-◌, suc, ap, sym, ◌∙◌, arith}
use Rattle.cat_columns.specs.inverted.Postings.{start_of}
use Rattle.cat_columns.proofs.inverted.Parts.{start_is}
use Rattle.cat_columns.proofs.inverted.terms.start_of.Goals as goal

pub returns-else-ordinal-eq0-clause-value : goal.returns-else-ordinal-eq0-clause-value
returns-else-ordinal-eq0-clause-value c =
    let place : suc (c.args.ordinal - 1) ≡ c.args.ordinal = omega arith in
    sym (ap (start_of 0 c.args.ends.now) (sym place) ∙ start_is 0 c.args.ends.now (c.args.ordinal - 1) (omega arith))
