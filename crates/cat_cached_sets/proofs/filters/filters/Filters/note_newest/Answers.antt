use Rattle.std.proofs.Common.{◌≡◌, ◌∙◌, ◌<◌, ◌∷◌, [], ◌++◌, length, ap, arith}
use Rattle.cat_query.specs.View.{query_of}
use Rattle.cat_cached_sets.specs.filters.Filters.{Filters, most_noted, newest}
use Rattle.cat_cached_sets.specs.declared.filters.filters.Filters.TheInside.{Inside}
use Rattle.cat_cached_sets.proofs.filters.Notes.{note_kept, note_pushed, same_filters}
use Rattle.cat_cached_sets.proofs.filters.filters.Filters.note_newest.Goals as goal
use Rattle.cat_cached_sets.proofs.filters.filters.Filters.note_newest.Goals.{then-len-ge-MAX_NOTED_QUERIES, else-len-ge-MAX_NOTED_QUERIES}

pub returns : goal.returns
returns c = elim c.if-len-ge-MAX_NOTED_QUERIES.branch [
  | then-len-ge-MAX_NOTED_QUERIES w ↦
      let full : length c.self.inside.noted.items ≡ most_noted = omega (arith, c.self.invariant.0, w.if-len-ge-MAX_NOTED_QUERIES.true, c.len.ensures) in
      same_filters (ap (λ (s : Inside). s.cache) w.self-inside-is)
      (note_pushed c.self.inside.noted.items c.if-len-ge-MAX_NOTED_QUERIES.self-inside.noted.items c.push_reserved.new.self.items c.args.query full
      (ap (λ (s : Inside). s.noted.items) w.self-inside-is ∙ w.remove.ensures.by_index.2) c.push_reserved.ensures.items)
      (ap (λ (s : Inside). s.warming) w.self-inside-is)
      ∙ ap (λ (f : Filters). record f { noted = newest most_noted (f.noted ++ query_of c.args.query ∷ []) }) c.self.view_is
  | else-len-ge-MAX_NOTED_QUERIES w ↦
      let room : length c.self.inside.noted.items < most_noted = omega (arith, w.if-len-ge-MAX_NOTED_QUERIES.false, c.len.ensures) in
      same_filters (ap (λ (s : Inside). s.cache) w.self-inside-is)
      (note_kept c.self.inside.noted.items c.if-len-ge-MAX_NOTED_QUERIES.self-inside.noted.items c.push_reserved.new.self.items c.args.query room
      (ap (λ (s : Inside). s.noted.items) w.self-inside-is) c.push_reserved.ensures.items)
      (ap (λ (s : Inside). s.warming) w.self-inside-is)
      ∙ ap (λ (f : Filters). record f { noted = newest most_noted (f.noted ++ query_of c.args.query ∷ []) }) c.self.view_is
]
