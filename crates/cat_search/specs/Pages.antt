-- What a page takes of standings.
use Rattle.std.specs.Prelude.{Bool, true, List, [], ◌∷◌, filter, Option, Some, None, cond}
use Rattle.cat_model.specs.Page as model
use Rattle.cat_search.specs.declared.sort.Order.{Order}
use Rattle.cat_search.specs.declared.sort.Order.TheVariants as order
use Rattle.cat_search.specs.Standings.{Rank, HitStanding, standing_before}

-- the rank of a key that may be missing
abbrev pub rank_by : (model.Key → Rank) → Option model.Key → Rank
rank_by rank None = Rank.missing
rank_by rank (Some k) = rank k

-- the rank of a key in the order, which is that of addition or the one of a field
abbrev pub rank_with : Order → Option model.Key → Rank
rank_with order.Added k = Rank.missing
rank_with (order.Rising field) k = rank_by Rank.rising k
rank_with (order.Falling field) k = rank_by Rank.falling k

-- what the mark comes before, and all without a mark
abbrev pub beyond : Option HitStanding → HitStanding → Bool
beyond None p = true
beyond (Some m) p = standing_before m p

-- the standings that the mark comes before
abbrev pub behind : Option HitStanding → List HitStanding → List HitStanding
behind mark standings = filter (beyond mark) standings

-- the standing alone, if the mark comes before it
abbrev pub if_behind : Option HitStanding → HitStanding → List HitStanding
if_behind mark p = cond (beyond mark p) (p ∷ []) []
