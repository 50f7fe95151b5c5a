-- What is kept beside a world's ledger, as it is looked at and added to.
use Rattle.std.proofs.Common.{◌≡◌, ℕ, ◌<◌, List, [], true, false, sym, subst}
use Rattle.std.specs.Prelude.{Option, None, Some, All, IfNone, IfSome, MatchOption}
use Rattle.std.proofs.lemmas.List.Elements.{All-weaker}
use Rattle.cat_model.specs.State.{has_hold}
use Rattle.cat_model.specs.View.{Segment, View, AgreesWith, segments_of}
use Rattle.cat_commands.specs.cat_protocol.cat_facets.States.{ReaderState}
use Rattle.cat_commands.specs.cat_protocol.cat_facets.Kept as facets
use Rattle.cat_commands.specs.cat_cached_sets.filters.Filters.{Filters}
use Rattle.cat_commands.specs.cat_cached_sets.filters.Known.{Knows}
use Rattle.cat_ledger_laws.specs.lines.ReadLaws.{IsRecordedAs}
use Rattle.cat_ledger_laws.specs.shape.Shapes.{Shape}
use Rattle.cat_commands.specs.sets.Kept.{HasKept, ListsKnow, RemembersIn, RemembersInBelow}
use Rattle.cat_commands.specs.sets.Segments.{SegmentsAgree}
use Rattle.cat_commands.specs.sets.Sets.{HasSets}
use Rattle.cat_commands.proofs.sets.Knowing.{added_are_right, none_are_kept, of_lists, of_values, recorded_agree}
use Rattle.cat_commands.proofs.sets.Beside.{recorded_are_among}
use Rattle.cat_commands.proofs.sets.Right.{empty_are_right, recorded_are_known}
use Rattle.cat_service.specs.Worlds.{segments_kept}

-- what the states remember, so do the lists of their segments
in_lists : (segments : List Segment) (ks after : List ReaderState) → facets.RemembersOf segments ks after
    → RemembersIn segments (segments_kept ks) (segments_kept after)
in_lists segments ks after known s agrees was =
    of_lists (λ k. k.segments) (AgreesWith s) after (known s agrees (of_values (λ k. k.segments) (AgreesWith s) ks was))

below_lists : (segments : List Segment) (ks after : List ReaderState) → facets.RemembersOfBelow segments ks after
    → RemembersInBelow segments (segments_kept ks) (segments_kept after)
below_lists segments ks after below n lower was =
    of_lists (λ k. k.segments) (λ s. s.number < n) after (below n lower (of_values (λ k. k.segments) (λ s. s.number < n) ks was))

-- ---- of a world that opens

pub no_sets : (s : Shape) (f : Filters) → f ≡ record { cached = []; noted = []; warming = None } → HasSets f s
no_sets s f is = subst (λ f. HasSets f s) (sym is) (empty_are_right s)

pub no_states : (s : Shape) (ks : List ReaderState) → ks ≡ [] → HasKept (segments_kept ks) s
no_states s ks is = subst (λ ks. HasKept (segments_kept ks) s) (sym is) (none_are_kept s)

-- ---- by the view that a session holds

-- what the ledger lends: the view that the session holds under the token, which is the recorded one; none where it holds none
pub record IsLent (s : Shape) (session t : ℕ) {R : Type 0} (value : R → View) (held : Option R) : Type 0 where
  pub some : IfSome held (λ v. (has_hold s.holds session t ≡ true) × IsRecordedAs s.views t (value v))
  pub none : IfNone held (has_hold s.holds session t ≡ false)

module _ (s : Shape) (session t : ℕ) {R : Type 0} (value : R → View) where
  -- what each segment of a recorded view has, those of the view have that is lent
  held_have : (P : Segment → Type 0) → ((view : View) → IsRecordedAs s.views t view → All P (segments_of view.leaves))
      → (held : Option R) → IsLent s session t value held → IfSome held (λ v. All P (segments_of (value v).leaves))
  held_have P each None lent = tt
  held_have P each (Some v) lent = each (value v) lent.some.1

  -- its segments are known to the sets
  pub held_sets : (f : Filters) → HasSets f s → (held : Option R) → IsLent s session t value held
      → IfSome held (λ v. All (Knows f) (segments_of (value v).leaves))
  held_sets f right_sets = held_have (Knows f) (λ view is. recorded_are_known f s t view right_sets is)

  -- and to the states
  pub held_states : (ks : List ReaderState) → HasKept (segments_kept ks) s → (held : Option R) → IsLent s session t value held
      → IfSome held (λ v. All (facets.KnowsIn ks) (segments_of (value v).leaves))
  held_states ks kept =
      held_have (facets.KnowsIn ks)
      (λ view is.
      All-weaker (ListsKnow (segments_kept ks)) (facets.KnowsIn ks) (λ s known. of_values (λ k. k.segments) (AgreesWith s) ks known) (segments_of view.leaves)
      (recorded_agree (segments_kept ks) s t view kept is))

  -- states that counts over that view leave are right
  pub states_after : SegmentsAgree s → (ks after : List ReaderState) (held : Option R) → IsLent s session t value held
      → MatchOption held (after ≡ ks) (λ v. facets.RemembersOf (segments_of (value v).leaves) ks after)
      → MatchOption held (after ≡ ks) (λ v. facets.RemembersOfBelow (segments_of (value v).leaves) ks after)
      → HasKept (segments_kept ks) s → HasKept (segments_kept after) s
  states_after agree ks after None lent known below kept = subst (λ ks. HasKept (segments_kept ks) s) (sym known) kept
  states_after agree ks after (Some v) lent known below kept =
      let segments : List Segment = segments_of (value v).leaves in
      added_are_right s segments (segments_kept ks) (segments_kept after) agree (recorded_are_among s t (value v) lent.some.1)
      (in_lists segments ks after known) (below_lists segments ks after below) kept
