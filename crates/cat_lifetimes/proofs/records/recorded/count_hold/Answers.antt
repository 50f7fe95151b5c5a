use Rattle.std.proofs.Common.{sym}
use Rattle.cat_lifetimes.proofs.records.Searched.{more_there, none_more}
use Rattle.cat_lifetimes.proofs.records.recorded.count_hold.Goals as goal

pub returns-in-Some : goal.returns-in-Some
returns-in-Some c =
    more_there c.args.recorded.now c.args.token c.in-Some.index c.index-recorded-index-in-Some.result c.index-recorded-index.result c.requires.rising
    c.in-Some.ensures.some.0 (c.in-Some.ensures.some.1 c.index-recorded-index.result)

pub returns-in_default : goal.returns-in_default
returns-in_default c = sym (none_more c.args.recorded.now c.args.token (sym c.in_default.ensures.none))
