-- What candidates mean.
use Rattle.std.specs.Prelude.{◌≡◌, ◌++◌, Bool, List, map, Option, option_map}
use Rattle.cat_search.specs.BestItems.{BestItems, IsBestOf, less}
use Rattle.cat_search.specs.Standings as model
use Rattle.cat_search.specs.Keys.{key_ref_of}
use Rattle.cat_search.specs.Standings.{HitStanding}
use Rattle.cat_search.specs.contracts.standings.CandidateOrd.TheImpl as by_standing
use Rattle.cat_search.specs.declared.standings.Rank.{Rank}
use Rattle.cat_search.specs.declared.standings.Rank.TheVariants.{Rising, Falling, Missing}
use Rattle.cat_search.specs.declared.standings.Candidate.{Candidate}

-- the rank of a candidate
abbrev pub rank_of : Rank → model.Rank
rank_of (Rising k) = model.Rank.rising (key_ref_of k)
rank_of (Falling k) = model.Rank.falling (key_ref_of k.0)
rank_of Missing = model.Rank.missing

-- the standing of a candidate
abbrev pub standing_of : Candidate → HitStanding
standing_of c = record { rank = rank_of c.rank; number = c.number; id = c.id.now }

-- the standing of the mark, if there is one
abbrev pub mark_standing : Option Candidate → Option HitStanding
mark_standing mark = option_map standing_of mark

-- the order of candidates
abbrev pub comes_first : Candidate → Candidate → Bool
comes_first = less by_standing.ghosts.cmp

-- those kept are the best of candidates that have these standings
abbrev pub IsBestAt : BestItems Candidate → List HitStanding → Type 0
IsBestAt kept standings = (offered : List Candidate) × (map standing_of offered ≡ standings) × IsBestOf comes_first kept offered

-- these standings are offered, beside those that were
abbrev pub TakesIn : BestItems Candidate → BestItems Candidate → List HitStanding → Type 0
TakesIn old new more = (standings : List HitStanding) → IsBestAt old standings → IsBestAt new (standings ++ more)
