use Rattle.std.proofs.Common.{◌∙◌, ap, map}
use Rattle.cat_search.specs.Candidates.{standing_of}
use Rattle.cat_search.specs.Standings.{entry_shown}
use Rattle.cat_search.proofs.gathering.best_entries.Goals as goal

pub returns-clause-first : goal.returns-clause-first
returns-clause-first c = c.in_ok-entries.ensures.ok ∙ ap (λ cs. map entry_shown (map standing_of cs)) c.deref.ensures.value ∙ ap (map entry_shown) c.in_ok-total.ensures.best
