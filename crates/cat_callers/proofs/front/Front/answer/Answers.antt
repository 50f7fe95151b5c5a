use Rattle.cat_callers.proofs.front.Front.answer.Goals as goal

pub tell-requires-clause-own : goal.tell-requires-clause-own
tell-requires-clause-own g c = c.args.session.now.own

pub tell-requires-clause-rights : goal.tell-requires-clause-rights
tell-requires-clause-rights g c = c.args.session.now.rights

pub returns-clause-seen : goal.returns-clause-seen
returns-clause-seen g c = c.tell.ensures.seen

pub returns-clause-told : goal.returns-clause-told
returns-clause-told g c = c.tell.ensures.told
