-- The sets of rows that a service has, as a standing has them: what uses, steps of warming and merges make of the ones and of the others.
use Rattle.std.proofs.Common.{◌≡◌, ℕ, ◌+◌, ◌<◌, ◌≤◌, List, [], ◌∷◌, length, map, take, Bool, true, false, true≢false, cond, not, ◌&&◌, ◌==◌, refl, sym, ◌∙◌, ap, ap₂, subst, arith, inl, inr, Contains, Decides}
use Rattle.std.specs.Prelude.{◌⊎◌, Option, None, Some, Ok, Err, IfSome, IsOk, is_some}
use Rattle.std.specs.List.{take-map}
use Rattle.std.specs.Option.{option_map_or}
use Rattle.std.proofs.lemmas.Bool.{and_parts, eq-eqb, eqb-true}
use Rattle.std.proofs.lemmas.List.{length-map}
use Rattle.cat_base.specs.declared.refusal.Refusal.{Refusal}
use Rattle.cat_model.specs.Faults.{Fault}
use Rattle.cat_model.specs.Grammar.{Spells}
use Rattle.cat_model.specs.Limits.{set_limit, step_limit}
use Rattle.cat_model.specs.Query.{Query}
use Rattle.cat_model.specs.Run.{Reply, SegmentStat}
use Rattle.cat_model.specs.Standings.{Cache, Progress, SearchMoves, UsesSetsOf}
use Rattle.cat_model.specs.State.{has_hold}
use Rattle.cat_model.specs.Text.{Text}
use Rattle.cat_model.specs.View.{Leaf, Segment, View, row_matches, segments_of}
use Rattle.cat_model.proofs.QueryLaws.{one_query}
use Rattle.cat_ledger_laws.specs.lines.ReadLaws.{IsRecordedAs}
use Rattle.cat_ledger_laws.specs.shape.Shapes.{Shape}
use Rattle.cat_commands.specs.cat_cached_sets.cache.Cached.{CacheKey, CachedSet, same_key, used}
use Rattle.cat_commands.specs.cat_cached_sets.cache.Warmed.{Warm}
use Rattle.cat_commands.specs.cat_cached_sets.cat_query.Same.{same_query, same_query-Decides}
use Rattle.cat_commands.specs.cat_cached_sets.filters.Filters.{Filters, QueriedSegment, cache_key_in, first_missing, is_missing, noted_with, pairs, set_in, sets_used_in}
use Rattle.cat_commands.specs.cat_cached_sets.filters.Steps.{with_made}
use Rattle.cat_commands.specs.ledger.Chores.{is_segment_listed, segment_told}
use Rattle.cat_service.proofs.CachedLists.{any_there, found_there, map_from, map_there, missing, none_found, none_removed, notes, pair_from, pair_there, present, there_any, uses_keep, uses_one}
use Rattle.cat_service.specs.Cached.{ReadsWithSets, UsesByReply}

-- ---- what a cache is of

-- a query, and the number of a segment
abbrev pub Pair : Type 0
Pair = Query × ℕ

-- a set in the making, by its pair
abbrev pub Making : Type 0
Making = Option ((Query × ℕ) × Progress)

-- what a set stands under
abbrev pub pair_of : CachedSet → Query × ℕ
pair_of e = (e.0.query, e.0.segment)

-- The set in the making is of this pair and of so many rows, and none is cached for the pair. As many of its rows are passed; or all are, by a
-- step that stored none, where a step passes all.
pub record IsMadeAs (w : Warm) (sets : List (Query × ℕ)) (m : (Query × ℕ) × Progress) : Type 0 where
  pub pair : m.0 ≡ (w.query, w.segment.number)
  pub rows : m.1.rows ≡ length w.segment.rows
  pub passed : (m.1.passed ≡ w.passed) ⊎ ((m.1.rows ≤ m.1.passed + step_limit) × (w.passed ≡ m.1.rows))
  pub unset : Contains sets m.0 → ⊥

-- one is in the making as is said, or none
abbrev pub IsMakingOf : Option Warm → List (Query × ℕ) → Option ((Query × ℕ) × Progress) → Type 0
IsMakingOf None sets None = Unit {0}
IsMakingOf (Some w) sets (Some m) = IsMadeAs w sets m
IsMakingOf _ sets _ = ⊥

-- the sets, the noted queries and the set in the making are those
pub record IsCacheOf (f : Filters) (c : Cache) : Type 0 where
  pub sets : c.sets ≡ map pair_of f.cached
  pub noted : c.noted ≡ f.noted
  pub making : IsMakingOf f.warming (map pair_of f.cached) c.making

-- the cache of these, with this set in the making
abbrev pub cache_by : Filters → Making → Cache
cache_by f m = record { sets = map pair_of f.cached; noted = f.noted; making = m }

pub is_by : (f : Filters) (c : Cache) → IsCacheOf f c → c ≡ cache_by f c.making
is_by f c is = λ i. record { sets = is.sets i; noted = is.noted i; making = c.making }

pub by_is : (f : Filters) (m : Making) → IsMakingOf f.warming (map pair_of f.cached) m → IsCacheOf f (cache_by f m)
by_is f m making = record { sets = refl; noted = refl; making = making }

pub no_sets : IsCacheOf (record { cached = []; noted = []; warming = None }) (record { sets = []; noted = []; making = None })
no_sets = record { sets = refl; noted = refl; making = tt }

pub sets_counted : (f : Filters) (c : Cache) → IsCacheOf f c → length c.sets ≡ length f.cached
sets_counted f c is = ap (λ (l : List (Query × ℕ)). length l) is.sets ∙ length-map f.cached pair_of

pub none_making : (o : Option Warm) (sets : List Pair) (m : Making) → o ≡ None → IsMakingOf o sets m → m ≡ None
none_making None sets None e h = refl
none_making None sets (Some m) e h = absurd h
none_making (Some w) sets m e h = absurd (let no : Some w ≡ None = e in cc)

pub some_making : (o : Option Warm) (w : Warm) (sets : List Pair) (m : Making) → o ≡ Some w → IsMakingOf o sets m
    → (x : Pair × Progress) × (m ≡ Some x) × IsMadeAs w sets x
some_making None w sets m e h = absurd (let no : None ≡ Some w = e in cc)
some_making (Some v) w sets None e h = absurd h
some_making (Some v) w sets (Some x) e h = (x, refl, (let same : v ≡ w = cc in subst (λ (v : Warm). IsMadeAs v sets x) same h))

-- where no set is there that wasn't
making_stays : (o : Option Warm) (sets new : List Pair) (m : Making) → ((p : Pair) → Contains new p → Contains sets p) → IsMakingOf o sets m
    → IsMakingOf o new m
making_stays None sets new None keeps h = tt
making_stays None sets new (Some m) keeps h = absurd h
making_stays (Some w) sets new None keeps h = absurd h
making_stays (Some w) sets new (Some m) keeps h =
    record { pair = h.pair; rows = h.rows; passed = h.passed; unset = λ c. h.unset (keeps m.0 c) }

-- ---- keys

equal_itself : (n : ℕ) → (n == n) ≡ true
equal_itself n = eq-eqb n n refl

pub equals : (a b : ℕ) → (a == b) ≡ true → a ≡ b
equals a b h = eqb-true a b h

key_itself : (k : CacheKey) → same_key k k ≡ true
key_itself k =
    ap₂ (λ (a b : Bool). a && b) (equal_itself k.segment) ((same_query-Decides k.query k.query).1 refl)

-- a key is of the pair exactly where it is the pair's
key_decides : (q : Query) (n : ℕ) (k : CacheKey) → Decides (same_key (record { segment = n; query = q }) k) (◌≡◌ {A = Query × ℕ} (k.query, k.segment) (q, n))
key_decides q n k = (
  λ same.
      let both = and_parts (n == k.segment) (same_query q k.query) same in
      ap₂ (λ (a : Query) (b : ℕ). (a, b)) (sym ((same_query-Decides q k.query).0 both.1)) (sym (equals n k.segment both.0)),
  λ is.
      subst (λ (p : Query × ℕ). same_key (record { segment = p.1; query = p.0 }) k ≡ true) is (key_itself k),
)

abbrev key_pair : CacheKey → Query × ℕ
key_pair k = (k.query, k.segment)

not_so : (b : Bool) → not b ≡ true → b ≡ false
not_so true e = absurd (true≢false (sym e))
not_so false e = refl

so_not : (b : Bool) → not b ≡ false → b ≡ true
so_not true e = refl
so_not false e = absurd (true≢false e)

-- ---- use

all_used : (q : Query) (segments : List Segment) (es : List CachedSet) → UsesSetsOf q (map pair_of es) (map pair_of (sets_used_in q segments es))
all_used q [] es = UsesSetsOf.none (map pair_of es)
all_used q (s ∷ segments) es =
    uses_one key_pair q s.number (same_key (cache_key_in q s)) (key_decides q s.number) es (map pair_of (sets_used_in q segments (used (cache_key_in q s) es)))
    (all_used q segments (used (cache_key_in q s) es))

making_used : (q : Query) (segments : List Segment) (o : Option Warm) (es : List CachedSet) (m : Making) → IsMakingOf o (map pair_of es) m
    → IsMakingOf o (map pair_of (sets_used_in q segments es)) m
making_used q segments o es m making =
    making_stays o (map pair_of es) (map pair_of (sets_used_in q segments es)) m (λ p c. uses_keep q (map pair_of es) (map pair_of (sets_used_in q segments es)) p (all_used q segments es) c)
    making

-- ---- missing sets

-- a segment of the list is told of
told_there : (leaves : List Leaf) (s : Segment) → Contains (segments_of leaves) s
    → (x : SegmentStat) × Contains (map segment_told leaves) x × (x.number ≡ s.number) × (x.rows ≡ length s.rows)
told_there leaves s c =
    let on = map_from (λ (l : Leaf). l.segment) leaves s c in
    (segment_told on.0, map_there segment_told leaves on.0 on.1, ap (λ (s : Segment). s.number) on.2, ap (λ (s : Segment). length s.rows) on.2)

-- the first missing pair is of a noted query and a segment that is told of, and no set is cached for it
pub first_so : (f : Filters) (leaves : List Leaf) (p : QueriedSegment) → first_missing f (segments_of leaves) ≡ Some p
    → (x : SegmentStat) × Contains (map segment_told leaves) x × (x.number ≡ p.1.number) × (x.rows ≡ length p.1.rows) × Contains f.noted p.0
    × (Contains (map pair_of f.cached) (p.0, p.1.number) → ⊥)
first_so f leaves p found =
    let on = found_there (is_missing f.cached) (pairs f.noted (segments_of leaves)) p found in
    let parts = pair_from (segments_of leaves) f.noted p on.0 in
    let told = told_there leaves p.1 parts.1 in (
      told.0,
      told.1,
      told.2,
      told.3,
      parts.0,
      missing key_pair p.0 p.1.number (same_key (cache_key_in p.0 p.1)) (key_decides p.0 p.1.number) f.cached (not_so (is_some (set_in f.cached p.0 p.1)) on.1),
    )

-- where none is missing, each noted query has a set for each segment that is told of
pub none_so : (f : Filters) (leaves : List Leaf) → first_missing f (segments_of leaves) ≡ None → (q : Query) (x : SegmentStat) → Contains f.noted q
    → Contains (map segment_told leaves) x → Contains (map pair_of f.cached) (q, x.number)
none_so f leaves none q x noted told =
    let on = map_from segment_told leaves x told in
    let s : Segment = on.0.segment in
    let there : Contains (pairs f.noted (segments_of leaves)) (q, s) =
    pair_there (segments_of leaves) f.noted q s noted (map_there (λ (l : Leaf). l.segment) leaves on.0 on.1) in
    let set : is_some (set_in f.cached q s) ≡ true =
    so_not (is_some (set_in f.cached q s)) (none_found (is_missing f.cached) (pairs f.noted (segments_of leaves)) (q, s) none there) in
    subst (λ n. Contains (map pair_of f.cached) (q, n)) (ap (λ (x : SegmentStat). x.number) on.2)
    (present key_pair q s.number (same_key (cache_key_in q s)) (key_decides q s.number) f.cached set)

-- a set that is made comes first, where none was there for its pair
pub made_first : (w : Warm) (es : List CachedSet) → (Contains (map pair_of es) (w.query, w.segment.number) → ⊥)
    → map pair_of (with_made w es) ≡ take set_limit ((w.query, w.segment.number) ∷ map pair_of es)
made_first w es unset =
    let test = same_key (cache_key_in w.query w.segment) in
    ap (λ (l : List CachedSet). map pair_of (take set_limit ((cache_key_in w.query w.segment, map (row_matches w.query) w.segment.rows) ∷ l)))
    (none_removed key_pair w.query w.segment.number test (key_decides w.query w.segment.number) es unset)
    ∙ sym (take-map pair_of set_limit ((cache_key_in w.query w.segment, map (row_matches w.query) w.segment.rows) ∷ es))

-- ---- a set in the making

module _ (w : Warm) (sets : List Pair) (x : Pair × Progress) (is : IsMadeAs w sets x) where
  -- a step that leaves some rows begins where the cache says
  pub far_before : (n : ℕ) → n ≡ w.passed + step_limit → n < length w.segment.rows → x.1.passed ≡ w.passed
  far_before n rows left = elim is.passed [
    | inl same ↦ same
    | inr past ↦ absurd (let a = past.1 in let b = is.rows in omega (arith, a, b, rows, left))
  ]

  -- a step that passes the last rows passes them by the cache too
  pub last_before : length w.segment.rows ≤ w.passed + step_limit → x.1.rows ≤ x.1.passed + step_limit
  last_before last = elim is.passed [
    | inl same ↦ let b = is.rows in omega (arith, same, b, last)
    | inr past ↦ past.0
  ]

-- ---- reads

module _ (s : Shape) (session t : ℕ) (text : Text) (f f' : Filters) (m : Making) (making : IsMakingOf f.warming (map pair_of f.cached) m) (reply : Reply)
    (reads : ReadsWithSets s session t text reply f f') (view : has_hold s.holds session t ≡ true → (view : View) × IsRecordedAs s.views t view) where
  abbrev Searched : Query → Type 0
  Searched q = (made : Cache) × IsCacheOf f' made × SearchMoves q reply (cache_by f m) made

  -- where nothing changed
  abbrev SearchedFrom : Query → Filters → Reply → Type 0
  SearchedFrom q g r = (made : Cache) × IsCacheOf g made × SearchMoves q r (cache_by f m) made

  still : (q : Query) (e : Refusal) → f' ≡ f → SearchedFrom q f' (Err e)
  still q e same = subst (λ (g : Filters). SearchedFrom q g (Err e)) (sym same) (cache_by f m, by_is f m making, (UsesSetsOf.none (map pair_of f.cached), refl, refl))

  by_use : (q : Query) → Spells s.schema text q → (v : View) (r : Reply) → UsesByReply s.schema text v r f f' → SearchedFrom q f' r
  by_use q spells v (Ok a) h =
      let segments = segments_of v.leaves in
      let same : h.0 ≡ q = one_query s.schema text h.0 q h.1 spells in
      let g : Filters = record { cached = sets_used_in q segments f.cached; noted = noted_with q f.noted; warming = f.warming } in
      let is : f' ≡ g = subst (λ (p : Query). f' ≡ record { cached = sets_used_in p segments f.cached; noted = noted_with p f.noted; warming = f.warming }) same h.2 in
      subst (λ (g : Filters). SearchedFrom q g (Ok a)) (sym is) (
        cache_by g m,
        by_is g m (making_used q segments f.warming f.cached m making),
        (all_used q segments f.cached, notes same_query same_query-Decides q f.noted, refl),
      )
  by_use q spells v (Err e) (inl h) =
      let segments = segments_of v.leaves in
      let same : h.0 ≡ q = one_query s.schema text h.0 q h.1 spells in
      let g : Filters = record f { cached = sets_used_in q segments f.cached } in
      let is : f' ≡ g = subst (λ (p : Query). f' ≡ record f { cached = sets_used_in p segments f.cached }) same h.2 in
      subst (λ (g : Filters). SearchedFrom q g (Err e)) (sym is)
      (cache_by g m, by_is g m (making_used q segments f.warming f.cached m making), (all_used q segments f.cached, refl, refl))
  by_use q spells v (Err e) (inr same) = still q e same

  by_hold : (q : Query) → Spells s.schema text q → (b : Bool) → has_hold s.holds session t ≡ b → (r : Reply) → reply ≡ r → (IsOk r → has_hold s.holds session t ≡ true) → SearchedFrom q f' r
  by_hold q spells true is r same ok =
      let v = view is in by_use q spells v.0 r (subst (λ r. UsesByReply s.schema text v.0 r f f') same (reads.held is v.0 v.1))
  by_hold q spells false is (Ok a) same ok = absurd (true≢false (sym (ok refl) ∙ is))
  by_hold q spells false is (Err e) same ok = still q e (reads.unheld is)

  pub search_goes : (q : Query) → Spells s.schema text q → (IsOk reply → has_hold s.holds session t ≡ true) → Searched q
  search_goes q spells ok = by_hold q spells (has_hold s.holds session t) refl reply refl ok

  -- a text that is faulty uses nothing
  pub faulty_stays : (place : ℕ) → Fault s.schema text place → f' ≡ f
  faulty_stays place fault = by (has_hold s.holds session t) refl
    where
      told : (v : View) (r : Reply) → UsesByReply s.schema text v r f f' → f' ≡ f
      told v (Ok a) h = absurd (fault.wrong h.0 h.1)
      told v (Err e) (inl h) = absurd (fault.wrong h.0 h.1)
      told v (Err e) (inr same) = same

      by : (b : Bool) → has_hold s.holds session t ≡ b → f' ≡ f
      by true is = let v = view is in told v.0 reply (reads.held is v.0 v.1)
      by false is = reads.unheld is

-- ---- behind a MERGE

-- a segment of the list has the number where one is told of that has it
listed_told : (s : Shape) (n : ℕ) → is_segment_listed s n ≡ true → Contains (map (λ (x : SegmentStat). x.number) (map segment_told s.leaves)) n
listed_told s n listed =
    let on = there_any (λ (l : Leaf). l.segment.number == n) s.leaves listed in
    subst (λ k. Contains (map (λ (x : SegmentStat). x.number) (map segment_told s.leaves)) k) (equals on.0.segment.number n on.2)
    (map_there (λ (x : SegmentStat). x.number) (map segment_told s.leaves) (segment_told on.0) (map_there segment_told s.leaves on.0 on.1))

told_listed : (s : Shape) (n : ℕ) → Contains (map (λ (x : SegmentStat). x.number) (map segment_told s.leaves)) n → is_segment_listed s n ≡ true
told_listed s n c =
    let x = map_from (λ (x : SegmentStat). x.number) (map segment_told s.leaves) n c in
    let on = map_from segment_told s.leaves x.0 x.1 in
    let number : on.0.segment.number ≡ n = ap (λ (x : SegmentStat). x.number) on.2 ∙ x.2 in
    any_there (λ (l : Leaf). l.segment.number == n) s.leaves on.0 on.1 (eq-eqb on.0.segment.number n number)

module _ (s : Shape) (es : List CachedSet) (noted : List Query) (reply : Reply) where
  abbrev of_making : Making → Cache
  of_making m = record { sets = map pair_of es; noted = noted; making = m }

  abbrev left_of : Option Warm → Filters
  left_of o = record { cached = es; noted = noted; warming = option_map_or (λ w. cond (not (is_segment_listed s w.segment.number)) None (Some w)) o None }

  abbrev HasSegment : Making → Type 0
  HasSegment m = IfSome m (λ w. Contains (map (λ (x : SegmentStat). x.number) (map segment_told s.leaves)) w.0.1)

  abbrev Left : Filters → Making → Type 0
  Left f m = (made : Cache) × IsCacheOf f made × (((made ≡ of_making m) × (IsOk reply → HasSegment m))
      ⊎ ((made ≡ record (of_making m) { making = None }) × (HasSegment m → ⊥)))

  pub merge_leaves : (o : Option Warm) (m : Making) → IsMakingOf o (map pair_of es) m → Left (left_of o) m
  merge_leaves None None h = (of_making None, record { sets = refl; noted = refl; making = tt }, inl (refl, λ ok. tt))
  merge_leaves None (Some x) h = absurd h
  merge_leaves (Some w) None h = absurd h
  merge_leaves (Some w) (Some x) h = by (is_segment_listed s w.segment.number) refl
    where
      number : x.0.1 ≡ w.segment.number
      number = ap (λ (p : Query × ℕ). p.1) h.pair

      by : (b : Bool) → is_segment_listed s w.segment.number ≡ b
          → Left (record { cached = es; noted = noted; warming = cond (not b) None (Some w) }) (Some x)
      by true is = (
        of_making (Some x),
        record { sets = refl; noted = refl; making = h },
        inl (refl, λ ok. listed_told s x.0.1 (ap (is_segment_listed s) number ∙ is)),
      )
      by false is = (
        of_making None,
        record { sets = refl; noted = refl; making = tt },
        inr (refl, λ has. true≢false (sym (told_listed s x.0.1 has) ∙ ap (is_segment_listed s) number ∙ is)),
      )
