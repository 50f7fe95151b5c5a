-- What a step of warming tells may be told of it.
use Rattle.std.proofs.Common.{refl}
use Rattle.std.specs.Prelude.{IsTrue}
use Rattle.cat_model.specs.Run.{Chore, may_tell}
use Rattle.cat_cached_sets.specs.declared.filters.news.WarmNews.{WarmNews}
use Rattle.cat_commands.specs.ledger.Chores.{warm_told}

pub warms_may_tell : (news : WarmNews) → IsTrue (may_tell Chore.warm (warm_told news))
warms_may_tell WarmNews.Idle = refl
warms_may_tell WarmNews.Begun = refl
warms_may_tell (WarmNews.Warmed rows) = refl
warms_may_tell WarmNews.Stored = refl
