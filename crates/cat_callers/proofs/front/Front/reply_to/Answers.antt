use Rattle.cat_callers.proofs.Telling.{follows_itself}
use Rattle.cat_callers.proofs.front.Front.reply_to.Goals as goal

pub tell-answer-requires-clause-own : goal.tell-answer-requires-clause-own
tell-answer-requires-clause-own g c = c.requires.own

pub tell-answer-requires-clause-rights : goal.tell-answer-requires-clause-rights
tell-answer-requires-clause-rights g c = c.requires.rights

pub returns-in-Some-clause-own : goal.returns-in-Some-clause-own
returns-in-Some-clause-own g c = c.tell-answer.ensures.own

pub returns-in-Some-clause-rights : goal.returns-in-Some-clause-rights
returns-in-Some-clause-rights g c = c.tell-answer.ensures.rights

pub returns-in-Some-clause-seen : goal.returns-in-Some-clause-seen
returns-in-Some-clause-seen g c = c.tell-answer.ensures.seen

pub returns-in-None-clause-own : goal.returns-in-None-clause-own
returns-in-None-clause-own g c = c.requires.own

pub returns-in-None-clause-rights : goal.returns-in-None-clause-rights
returns-in-None-clause-rights g c = c.requires.rights

pub returns-in-None-clause-seen : goal.returns-in-None-clause-seen
returns-in-None-clause-seen g c = follows_itself c.args.me.now
