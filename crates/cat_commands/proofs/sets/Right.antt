-- Sets that are right stay so.
use Rattle.std.proofs.Common.{◌≡◌, ◌≢◌, ℕ, ◌<◌, ◌≤◌, Bool, List, [], ◌∷◌, ◌++◌, map, Option, Some, None, refl, sym, ◌∙◌, ap, arith}
use Rattle.std.specs.Prelude.{slice_index_or, Contains, IfSome}
use Rattle.std.specs.List.{flat_map}
use Rattle.std.proofs.lemmas.List.Elements.{All-contains_itself, All-nil, All-weaker, Contains-append_left}
use Rattle.cat_model.specs.View.{Row, Segment, View, row_matches, segments_of}
use Rattle.cat_cached_sets.specs.cache.Cached.{CachedSet}
use Rattle.cat_cached_sets.specs.cache.Warmed.{Warm}
use Rattle.cat_cached_sets.specs.filters.Filters.{Filters}
use Rattle.cat_cached_sets.specs.filters.Known.{HasRowsOf, IsBelow, Knows}
use Rattle.cat_ledger_laws.specs.shape.Shapes.{MergingShape}
use Rattle.cat_commands.specs.sets.Segments.{segments_in}
use Rattle.cat_commands.specs.sets.Sets.{HasNoneOf, KnowsAny}
use Rattle.cat_commands.specs.sets.SegmentLaws.{CurrentAreAmong}
use Rattle.cat_commands.specs.sets.SetLaws.{EmptyAreRight, RecordedAreKnown, RememberedAreRight, SetsGoOn, SetsStay, UnsetAreKnown, WarmedAreRight}
use Rattle.cat_commands.proofs.sets.Beside.{recorded_have, right_as_made, right_goes_on, right_where_known, some_weaker}
use Rattle.cat_commands.proofs.sets.Shaped.{segments_stay}

-- ---- numbers without sets

-- two segments of the number that nothing is both of
abbrev pub empty_of : ℕ → Segment
empty_of n = record { number = n; schema = []; rows = [] }

abbrev pub single_of : ℕ → Segment
single_of n = record { number = n; schema = []; rows = record { number = 0; id = []; fields = []; length = 0 } ∷ [] }

apart : (p : Row → Bool) (n : ℕ) → map p (empty_of n).rows ≡ map p (single_of n).rows → ⊥
apart p n e = cc

unmade : (n : ℕ) (o : Option Warm) → IfSome o (λ w. w.segment.number ≡ n → w.segment ≡ empty_of n) → IfSome o (λ w. w.segment.number ≡ n → w.segment ≡ single_of n) → IfSome o (λ w. w.segment.number ≢ n)
unmade n None none one = tt
unmade n (Some w) none one = λ same. let no : (empty_of n).rows ≡ (single_of n).rows = ap (λ (s : Segment). s.rows) (sym (none same) ∙ one same) in cc

none_of : (f : Filters) (n : ℕ) → KnowsAny f n → HasNoneOf f n
none_of f n any =
    let none : Knows f (empty_of n) = any (empty_of n) refl in
    let one : Knows f (single_of n) = any (single_of n) refl in
    record {
      cached = λ k d short same. apart (row_matches (slice_index_or f.cached k d).0.query) n (sym (none.cached k d short same) ∙ one.cached k d short same);
      warming = unmade n f.warming none.warming one.warming;
    }

known_any : (f : Filters) (n : ℕ) → HasNoneOf f n → KnowsAny f n
known_any f n none s same = record {
  cached = λ k d short is. absurd (none.cached k d short (is ∙ same));
  warming = some_weaker (λ (w : Warm). w.segment.number ≢ n) (λ (w : Warm). w.segment.number ≡ s.number → w.segment ≡ s) (λ w no is. absurd (no (is ∙ same))) f.warming none.warming;
}

pub unset_are_known : UnsetAreKnown
unset_are_known f n = (none_of f n, known_any f n)

pub empty_are_right : EmptyAreRight
empty_are_right s =
    let f : Filters = record { cached = []; noted = []; warming = None } in
    right_where_known (Knows f) (λ n. IsBelow n f)
    (λ segment. record { cached = All-nil (HasRowsOf segment); warming = tt })
    (λ n. record { cached = All-nil (λ (e : CachedSet). e.0.segment < n); warming = tt })
    s

-- ---- where segments go on

-- a segment that no set's number reaches is known
beyond_known : (f : Filters) (n : ℕ) (s : Segment) → IsBelow n f → n ≤ s.number → Knows f s
beyond_known f n s below high = known_any f s.number (record {
  cached = All-weaker (λ (e : CachedSet). e.0.segment < n) (λ (e : CachedSet). e.0.segment ≢ s.number) (λ e less is. absurd (omega (arith, less, is, high))) f.cached below.cached;
  warming = some_weaker (λ (w : Warm). w.segment.number < n) (λ (w : Warm). w.segment.number ≢ s.number) (λ w less is. absurd (omega (arith, less, is, high))) f.warming below.warming;
}) s refl

below_more : (f : Filters) (n m : ℕ) → n ≤ m → IsBelow n f → IsBelow m f
below_more f n m le h = record {
  cached = All-weaker (λ (e : CachedSet). e.0.segment < n) (λ (e : CachedSet). e.0.segment < m) (λ e less. omega (arith, less, le)) f.cached h.cached;
  warming = some_weaker (λ (w : Warm). w.segment.number < n) (λ (w : Warm). w.segment.number < m) (λ w less. omega (arith, less, le)) f.warming h.warming;
}

pub sets_go_on : SetsGoOn
sets_go_on f s new go right = right_goes_on (Knows f) (λ n. IsBelow n f) (beyond_known f) (below_more f) s new go right

pub sets_stay : SetsStay
sets_stay policy told told' s new line reply l files f c answers right = sets_go_on f s new (segments_stay policy told told' s new line reply l files c answers) right

-- ---- what is done with them

pub remembered_are_right : RememberedAreRight
remembered_are_right s f after known below right = record {
  known = All-weaker (Knows f) (Knows after) known (segments_in s) right.known;
  below = below s.next_segment right.below;
  making = some_weaker (λ (m : MergingShape). KnowsAny f m.number) (λ (m : MergingShape). KnowsAny after m.number) (λ m any segment same. known segment (any segment same)) s.merging right.making;
}

pub warmed_are_right : WarmedAreRight
warmed_are_right s segments f after agree had known below right =
    right_as_made (Knows f) (Knows after) (λ n. IsBelow n f) (λ n. IsBelow n after) segments known below s agree had right

pub current_are_among : CurrentAreAmong
current_are_among s =
    let segments : List Segment = segments_of s.leaves in
    let others : List Segment = flat_map (λ (v : View). segments_of v.leaves) s.views in
    All-weaker (Contains segments) (Contains (segments ++ others)) (λ a c. Contains-append_left segments others a c) segments (All-contains_itself segments)

-- ---- what they are good for

pub recorded_are_known : RecordedAreKnown
recorded_are_known f s t view right is = recorded_have (Knows f) s t view right.known is
