-- What is asked of a page, and what a page takes of the standings of its hits.
use Rattle.std.specs.Prelude.{List, map, take, Ok}
use Rattle.cat_model.specs.Answer.{Read}
use Rattle.cat_model.specs.Page.{Entry}
use Rattle.cat_model.specs.Query.{Query}
use Rattle.cat_model.specs.Ranks.{sorted}
use Rattle.cat_search.specs.declared.ask.Ask.{Ask}
use Rattle.cat_search.specs.declared.ask.Wanted.{Wanted}
use Rattle.cat_search.specs.Candidates.{mark_standing}
use Rattle.cat_search.specs.Pages.{behind}
use Rattle.cat_search.specs.Sorts.{sort_of}
use Rattle.cat_search.specs.Standings.{HitStanding, entry_shown, standing_before}

-- the ask for the hits of a query, as a read
abbrev pub read_of : Ask → Query → Read
read_of ask q = Read.find ask.count (sort_of ask.sort) ask.after (Ok q)

-- of these standings the first that are wanted, of those that the mark comes before
abbrev pub first_wanted : Wanted → List HitStanding → List HitStanding
first_wanted wanted standings = take wanted.count (sorted standing_before (behind (mark_standing wanted.mark) standings))

-- and what a page shows of them
abbrev pub first_shown : Wanted → List HitStanding → List Entry
first_shown wanted standings = map entry_shown (first_wanted wanted standings)
