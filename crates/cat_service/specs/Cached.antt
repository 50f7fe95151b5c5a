-- What a line makes of the cached sets, of the noted queries and of the set in the making.
use Rattle.std.specs.Prelude.{◌≡◌, ◌≢◌, ℕ, true, false, Option, Some, Ok, Err}
use Rattle.cat_model.specs.Item.{Schema}
use Rattle.cat_model.specs.Lines.{Said}
use Rattle.cat_model.specs.Run.{Chore, Reply}
use Rattle.cat_model.specs.State.{has_hold}
use Rattle.cat_model.specs.Text.{Text}
use Rattle.cat_model.specs.View.{View, segments_of}
use Rattle.cat_ledger_laws.specs.lines.ReadLaws.{IsRecordedAs}
use Rattle.cat_ledger_laws.specs.shape.Shapes.{Shape}
use Rattle.cat_commands.specs.cat_cached_sets.declared.filters.news.WarmNews.{WarmNews}
use Rattle.cat_commands.specs.cat_cached_sets.filters.Filters.{Filters}
use Rattle.cat_commands.specs.cat_cached_sets.filters.Steps.{IsFiltersStep, IsLeftByStep}
use Rattle.cat_commands.specs.declared.ledger.chores.Chore.TheVariants.{Merge}
use Rattle.cat_commands.specs.ledger.Chores.{sets_left}
use Rattle.cat_commands.specs.searches.Uses.{NotesSpelled, UsesSpelled}
use Rattle.cat_service.specs.Worlds.{Service, shape_of_service}

-- By its reply: the sets of the query were used that stand for the segments of the view, and where the read was answered, the query was
-- noted. A refused one may have left all as it was.
abbrev pub UsesByReply : Schema → Text → View → Reply → Filters → Filters → Type 0
UsesByReply schema text view (Ok a) old new = NotesSpelled schema text view old new
UsesByReply schema text view (Err e) old new = UsesSpelled schema text view old new

-- A FIND or a FACETS over the view that the session holds under the token. Where it holds none, nothing changes.
pub record ReadsWithSets (s : Shape) (session t : ℕ) (text : Text) (reply : Reply) (old new : Filters) : Type 0 where
  pub held : has_hold s.holds session t ≡ true → (view : View) → IsRecordedAs s.views t view → UsesByReply s.schema text view reply old new
  pub unheld : has_hold s.holds session t ≡ false → new ≡ old

-- A WARM takes one step over the segments of the list, and session 0 alone does; a refused one may have passed the last rows of the set
-- in the making. What step it took, it tells.
abbrev pub WarmsSets : ℕ → Shape → Reply → Filters → Filters → Type 0
WarmsSets session s (Ok a) old new = (session ≡ 0) × (news : WarmNews) × IsFiltersStep old (segments_of s.leaves) new news
WarmsSets session s (Err e) old new = (session ≢ 0 → new ≡ old) × IsLeftByStep old new

-- A MERGE of session 0 gives up the set in the making where its segment isn't in the list that it leaves. No line but a FIND, a FACETS, a
-- WARM and a MERGE changes anything.
abbrev pub MakesOfSets : {D : Type 0} → ℕ → Option Said → Service D → Reply → Service D → Type 0
MakesOfSets session (Some (Said.find t n sort mark text)) old reply new =
    ReadsWithSets (shape_of_service old) session t text reply old.sets new.sets
MakesOfSets session (Some (Said.facets t dim n text)) old reply new =
    ReadsWithSets (shape_of_service old) session t text reply old.sets new.sets
MakesOfSets session (Some (Said.chore Chore.warm)) old reply new = WarmsSets session (shape_of_service old) reply old.sets new.sets
MakesOfSets session (Some (Said.chore Chore.merge)) old reply new =
    (session ≢ 0 → new.sets ≡ old.sets) × (session ≡ 0 → new.sets ≡ sets_left Merge (shape_of_service new) old.sets)
MakesOfSets session said old reply new = new.sets ≡ old.sets
