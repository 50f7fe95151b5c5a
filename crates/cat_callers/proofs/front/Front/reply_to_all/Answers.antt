use Rattle.std.proofs.Common.{◌∙◌, refl}
use Rattle.cat_callers.proofs.front.Front.reply_to_all.Goals as goal

pub lines-init : goal.lines-init
lines-init g c = (c.requires.own, c.requires.rights, refl)

pub reply_to-requires-clause-own : goal.reply_to-requires-clause-own
reply_to-requires-clause-own g c = c.lines.invariant.0

pub reply_to-requires-clause-rights : goal.reply_to-requires-clause-rights
reply_to-requires-clause-rights g c = c.lines.invariant.1

pub lines-preserved : goal.lines-preserved
lines-preserved g c = (c.reply_to.ensures.own, c.reply_to.ensures.rights, c.reply_to.ensures.seen.same ∙ c.lines.invariant.2)

pub returns-in_err-reply_to-clause-own : goal.returns-in_err-reply_to-clause-own
returns-in_err-reply_to-clause-own g c = c.reply_to.ensures.own

pub returns-in_err-reply_to-clause-rights : goal.returns-in_err-reply_to-clause-rights
returns-in_err-reply_to-clause-rights g c = c.reply_to.ensures.rights

pub returns-in_err-reply_to-clause-same : goal.returns-in_err-reply_to-clause-same
returns-in_err-reply_to-clause-same g c = c.reply_to.ensures.seen.same ∙ c.lines.invariant.2

pub returns-clause-own : goal.returns-clause-own
returns-clause-own g c = c.lines.invariant.0

pub returns-clause-rights : goal.returns-clause-rights
returns-clause-rights g c = c.lines.invariant.1

pub returns-clause-same : goal.returns-clause-same
returns-clause-same g c = c.lines.invariant.2
