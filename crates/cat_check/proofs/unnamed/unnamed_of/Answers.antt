use Rattle.std.proofs.Common.{sym, ◌∙◌}
use Rattle.std.proofs.lemmas.Bool.{true≢false}
use Rattle.cat_check.proofs.unnamed.unnamed_of.Goals as goal

pub returns : goal.returns
returns c = λ any. absurd (true≢false (sym any ∙ sym c.is_any_unread.ensures ∙ c.if-is_any_unread.false))
