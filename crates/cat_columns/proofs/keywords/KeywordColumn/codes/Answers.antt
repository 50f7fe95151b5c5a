use Rattle.std.proofs.Common.{◌∙◌}
use Rattle.cat_columns.proofs.Ordinals.{codes_laid}
use Rattle.cat_columns.proofs.keywords.KeywordColumn.codes.Goals as goal

pub returns : goal.returns
returns c = c.deref.ensures.value ∙ codes_laid _ _ c.args.self.now c.self.invariant c.self.view_is
