-- What a read for items makes of the cached sets and of the noted queries.
use Rattle.std.specs.Prelude.{◌≡◌, ◌⊎◌}
use Rattle.cat_model.specs.Grammar.{Spells}
use Rattle.cat_model.specs.Item.{Schema}
use Rattle.cat_model.specs.Query.{Query}
use Rattle.cat_model.specs.Text.{Text}
use Rattle.cat_model.specs.View.{View, segments_of}
use Rattle.cat_cached_sets.specs.filters.Filters.{Filters, noted_with, sets_used_in}

-- the sets of the query were used that stand for the segments of the view, in order, and nothing else changed
abbrev pub Uses : Query → View → Filters → Filters → Type 0
Uses q view old new = new ≡ record old { cached = sets_used_in q (segments_of view.leaves) old.cached }

-- so they were, and the query was noted
abbrev pub UsesAndNotes : Query → View → Filters → Filters → Type 0
UsesAndNotes q view old new =
    new ≡ record { cached = sets_used_in q (segments_of view.leaves) old.cached; noted = noted_with q old.noted; warming = old.warming }

-- the text spells a query whose sets were used; or nothing changed, as where memory was wanting before they were looked up
abbrev pub UsesSpelled : Schema → Text → View → Filters → Filters → Type 0
UsesSpelled schema text view old new = ((q : Query) × Spells schema text q × Uses q view old new) ⊎ (new ≡ old)

-- the text spells a query whose sets were used, and that was noted
abbrev pub NotesSpelled : Schema → Text → View → Filters → Filters → Type 0
NotesSpelled schema text view old new = (q : Query) × Spells schema text q × UsesAndNotes q view old new
