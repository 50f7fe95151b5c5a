use Rattle.std.proofs.Common.{◌≡◌, length}
use Rattle.cat_callers.specs.Sessions.{AreRightsTo}
use Rattle.cat_callers.proofs.front.Front.reply_to_all.Given as goal

abbrev pub invariant-lines : goal.invariant-lines
invariant-lines g l = (l.holdings.session ≡ l.me.session) × AreRightsTo g.J.Naming.from l.me l.holdings.rights × (l.me.session ≡ l.initial.me.session)

abbrev pub decreases-lines : goal.decreases-lines
decreases-lines g l = length l.rest
