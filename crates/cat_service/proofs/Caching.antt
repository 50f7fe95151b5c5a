-- What lines make of the cached sets is what the standings of a service may say of it.
use Rattle.std.proofs.Common.{◌≡◌, ℕ, ◌+◌, ◌<◌, List, ◌∷◌, map, take, Bool, true, false, true≢false, cond, ◌&&◌, ◌==◌, refl, sym, ◌∙◌, ap, subst, inl, inr, Contains}
use Rattle.std.specs.Prelude.{◌⊎◌, Option, None, Some, Result, Ok, Err, IsOk, IsSome, IsTrue, is_ok, is_some, option_map}
use Rattle.std.specs.List.{find, list_any}
use Rattle.std.specs.Option.{unwrap_or}
use Rattle.std.proofs.lemmas.Bool.Decides.{eqb_tells}
use Rattle.cat_base.specs.declared.refusal.Refusal.{Refusal}
use Rattle.cat_base.specs.declared.refusal.Refusal.TheVariants.{Line as NoForm, Memory, NotHeld, Query as NoQuery}
use Rattle.cat_model.specs.Answer.{Found, Read, query_refusal}
use Rattle.cat_model.specs.Faults.{Fault}
use Rattle.cat_model.specs.Heard.{IsQueryOf}
use Rattle.cat_model.specs.Limits.{set_limit, step_limit}
use Rattle.cat_model.specs.Lines.{Said}
use Rattle.cat_model.specs.Page.{Sort}
use Rattle.cat_model.specs.Query.{Query}
use Rattle.cat_model.specs.Run.{Answer, Chore, Command, Exchange, Fits, News, Reply, Run, holds, may_tell, read_reply, writes}
use Rattle.cat_model.specs.Standings.{Cache, CacheMoves, Progress, Standing, WarmTells}
use Rattle.cat_model.specs.State.{Hold, RecordedTable, has_hold, held_in}
use Rattle.cat_model.specs.Table.{Opened, table}
use Rattle.cat_model.specs.Text.{Text}
use Rattle.cat_model.specs.View.{View, segments_of}
use Rattle.cat_ledger_laws.specs.lines.LineLaws.{line_of}
use Rattle.cat_ledger_laws.specs.lines.ReadLaws.{IsRecordedAs}
use Rattle.cat_ledger_laws.specs.lines.RunLaws.{IsShown, ReplyLike, Stands}
use Rattle.cat_ledger_laws.specs.model.Ledger.{Ledger, RecordedView, view_shown}
use Rattle.cat_ledger_laws.specs.shape.Shapes.{Shape, recorded_view}
use Rattle.cat_ledger_laws.specs.shape.Ties.{ToldFiles}
use Rattle.cat_ledger_laws.proofs.lines.Found.{any_found, any_weaker, find_map}
use Rattle.cat_ledger_laws.proofs.lines.HoldAnswers.{held_as}
use Rattle.cat_ledger_laws.proofs.shape.Leaves.{any_map}
use Rattle.cat_commands.specs.cat_cached_sets.declared.filters.news.WarmNews.{WarmNews}
use Rattle.cat_commands.specs.cat_cached_sets.filters.Filters.{Filters, QueriedSegment, first_missing, warm_begun}
use Rattle.cat_commands.specs.cat_cached_sets.filters.Steps.{IsFiltersStep, IsLeftByStep, passed_all, with_made}
use Rattle.cat_commands.specs.ledger.Chores.{warm_told}
use Rattle.cat_service.proofs.Caches.{Making, by_is, cache_by, equals, far_before, faulty_stays, first_so, is_by, last_before, made_first, merge_leaves, none_making, none_so, pair_of, search_goes, some_making, IsMadeAs, IsMakingOf}
pub use Rattle.cat_service.proofs.Caches.{IsCacheOf, no_sets, sets_counted}
use Rattle.cat_service.specs.Cached.{MakesOfSets, ReadsWithSets}
use Rattle.cat_service.specs.Causes.{TellsSo}
use Rattle.cat_service.specs.Lines.{IsCommandOf}
use Rattle.cat_service.specs.Reasons.{standing_of_service}
use Rattle.cat_service.specs.Worlds.{Service, device_of, policy_of, shape_of_service}

-- ---- runs

refused_not_ok : (e : Refusal) (r : Reply) → r ≡ Err e → IsOk r → ⊥
refused_not_ok e r is ok = true≢false (sym ok ∙ ap (λ (r : Reply). is_ok r) is)

module _ (from : Opened) (past : Run) (session : ℕ) where
  -- a read that is answered is of a token that is held
  read_holds : (t : ℕ) (asked : Read) (r : Reply) → Fits from past (record { line = line_of session (Command.read t asked); reply = r }) → IsOk r → holds session t past ≡ true
  read_holds t asked r (inl e) ok = by (holds session t past) refl e
    where
      by : (b : Bool) → holds session t past ≡ b → r ≡ read_reply b from.start.schema (table from.start (writes past) t) asked → b ≡ true
      by true is e = refl
      by false is e = absurd (refused_not_ok (unwrap_or (query_refusal asked) NotHeld) r e ok)
  read_holds t asked r (inr (inl e)) ok = absurd (refused_not_ok Memory r e.0 ok)
  read_holds t asked r (inr (inr e)) ok = absurd (refused_not_ok e.0.0 r e.0.1 ok)

  -- maintenance that is answered is of session 0
  chore_own : (what : Chore) (r : Reply) → Fits from past (record { line = line_of session (Command.chore what); reply = r }) → IsOk r → session ≡ 0
  chore_own what r (inl e) ok = by (session == 0) refl e
    where
      by : (b : Bool) → (session == 0) ≡ b → cond b ((n : News) × (r ≡ Ok (Answer.news n)) × IsTrue (may_tell what n)) (r ≡ Err NoForm) → session ≡ 0
      by true is e = equals session 0 is
      by false is e = absurd (refused_not_ok NoForm r e ok)
  chore_own what r (inr (inl e)) ok = absurd (refused_not_ok Memory r e.0 ok)
  chore_own what r (inr (inr e)) ok = absurd (refused_not_ok e.0.0 r e.0.1 ok)

and_second : (a b : Bool) → (a && b) ≡ true → b ≡ true
and_second true b h = h
and_second false b h = absurd (true≢false (sym h))

some_there : {X : Type 0} (o : Option X) → is_some o ≡ true → (x : X) × (o ≡ Some x)
some_there None e = absurd (true≢false (sym e))
some_there (Some x) e = (x, refl)

module _ (told : ToldFiles) (s : Shape) (from : Opened) (past : Run) (stands : Stands told s from past) (session t : ℕ) where
  abbrev l : Ledger
  l = stands.ledger

  -- what the run holds, memory does
  held_here : holds session t past ≡ true → has_hold s.holds session t ≡ true
  held_here held = sym (ap (λ (x : Shape). has_hold x.holds session t) stands.carries.shape) ∙ stands.stands.shows.holds_now session t ∙ held

  -- and has a view under a token that is held
  view_held : has_hold s.holds session t ≡ true → (view : View) × IsRecordedAs s.views t view
  view_held held =
      let had : has_hold l.holds session t ≡ true = held_as s l stands.carries.shape session t true held in
      let some : held_in l.holds t ≡ true =
      any_weaker (λ (x : Hold). (x.session == session) && (x.token == t)) (λ (x : Hold). x.token == t) (λ x e. and_second (x.session == session) (x.token == t) e) l.holds had in
      let seen : list_any (λ (v : RecordedView). v.token == t) l.views ≡ true =
      sym (any_map view_shown (λ (v : RecordedTable). v.token == t) l.views) ∙ stands.carries.sound.sound.held t some in
      let v = some_there (find (λ (v : RecordedView). v.token == t) l.views)
      (sym (any_found (λ (v : RecordedView). v.token == t) (λ (v : RecordedView). v.token == t) (λ v. refl) l.views) ∙ seen) in (
        recorded_view l.schema v.0,
        ap (λ (x : Shape). find (λ (u : View). u.token == t) x.views) (sym stands.carries.shape)
            ∙ find_map (recorded_view l.schema) (λ (u : View). u.token == t) l.views
            ∙ ap (option_map (recorded_view l.schema)) v.1,
      )

-- ---- replies that are alike

abbrev TellSources : Reply → Reply → Type 0
TellSources reply fitting =
    (a : Text) × (b : Text) × (reply ≡ Ok (Answer.found (Found.source (Some a)))) × (fitting ≡ Ok (Answer.found (Found.source (Some b))))

same_or_sources : (reply fitting : Reply) → ReplyLike reply fitting → (reply ≡ fitting) ⊎ TellSources reply fitting
same_or_sources (Ok (Answer.found (Found.source (Some a)))) (Ok (Answer.found (Found.source (Some b)))) alike = inr (a, b, refl, refl)
same_or_sources _ _ alike = inl alike

ok_alike : (reply fitting : Reply) → ReplyLike reply fitting → IsOk reply → IsOk fitting
ok_alike reply fitting alike ok = elim (same_or_sources reply fitting alike) [
  | inl same ↦ subst (λ (r : Reply). IsOk r) same ok
  | inr both ↦ subst (λ (r : Reply). IsOk r) (sym both.3) refl
]

-- which source is told matters to no set
sources_cache : (s new : Standing) (a b : Text) (c : Command) → CacheMoves s c (Ok (Answer.found (Found.source (Some a)))) new
    → CacheMoves s c (Ok (Answer.found (Found.source (Some b)))) new
sources_cache s new a b (Command.read t (Read.find n sort mark (Ok q))) h = h
sources_cache s new a b (Command.read t (Read.facets dim n (Ok q))) h = h
sources_cache s new a b (Command.chore Chore.warm) h = h
sources_cache s new a b (Command.chore Chore.merge) h = h
sources_cache s new a b _ h = h

cache_alike : (s new : Standing) (c : Command) (reply fitting : Reply) → ReplyLike reply fitting → CacheMoves s c reply new → CacheMoves s c fitting new
cache_alike s new c reply fitting alike h = elim (same_or_sources reply fitting alike) [
  | inl same ↦ subst (λ r. CacheMoves s c r new) same h
  | inr both ↦ subst (λ r. CacheMoves s c r new) (sym both.3) (sources_cache s new both.0 both.1 c (subst (λ r. CacheMoves s c r new) both.2 h))
]

-- ---- each line

module _ {D : Type 0} (faults : D → ℕ) (tried after : List ℕ) (old new : Service D) (m : Making)
    (making : IsMakingOf old.sets.warming (map pair_of old.sets.cached) m) where
  abbrev st : Standing
  st = standing_of_service faults (cache_by old.sets m) tried old

  abbrev s : Shape
  s = shape_of_service old

  abbrev MovesFrom : Filters → Command → Reply → Type 0
  MovesFrom f c r = (made : Cache) × IsCacheOf f made × CacheMoves st c r (standing_of_service faults made after new)

  abbrev Goes : Command → Reply → Type 0
  Goes c r = MovesFrom new.sets c r

  -- a line that changes nothing
  keeps : (c d : Command) (r : Reply) → c ≡ d → CacheMoves st d r (standing_of_service faults (cache_by old.sets m) after new) → new.sets ≡ old.sets → Goes c r
  keeps c d r is moves same =
      subst (λ (k : Command). Goes k r) (sym is)
      (subst (λ (f : Filters). MovesFrom f d r) (sym same) (cache_by old.sets m, by_is old.sets m making, moves))

  -- ---- a WARM

  abbrev Warmed : Filters → WarmNews → Type 0
  Warmed f news = (made : Cache) × IsCacheOf f made × WarmTells st (warm_told news) made

  warm_step : (news : WarmNews) → IsFiltersStep old.sets (segments_of s.leaves) new.sets news → Warmed new.sets news
  warm_step WarmNews.Idle step =
      let none : m ≡ None = none_making old.sets.warming (map pair_of old.sets.cached) m step.free making in
      subst (λ (f : Filters). Warmed f WarmNews.Idle) (sym step.after) (
        cache_by old.sets m,
        by_is old.sets m making,
        (none, λ p miss. miss.2 (none_so old.sets s.leaves step.all p.0 p.1 miss.0 miss.1), refl),
      )
  warm_step WarmNews.Begun step = by (first_missing old.sets (segments_of s.leaves)) refl step.some step.after
    where
      by : (o : Option QueriedSegment) → first_missing old.sets (segments_of s.leaves) ≡ o → IsSome o → new.sets ≡ record old.sets { warming = option_map warm_begun o }
          → Warmed new.sets WarmNews.Begun
      by None is some after = absurd (true≢false (sym some))
      by (Some p) is some after =
          let x = first_so old.sets s.leaves p is in
          let began : (Query × ℕ) × Progress = ((p.0, x.0.number), record { passed = 0; rows = x.0.rows }) in
          let pair : ◌≡◌ {A = Query × ℕ} (p.0, x.0.number) (p.0, p.1.number) = ap (λ (n : ℕ). (p.0, n)) x.2 in
          let unset : Contains (map pair_of old.sets.cached) (p.0, x.0.number) → ⊥ = λ c. x.5 (subst (Contains (map pair_of old.sets.cached)) pair c) in
          subst (λ (f : Filters). Warmed f WarmNews.Begun) (sym after) (
            cache_by old.sets (Some began),
            record { sets = refl; noted = refl; making = record { pair = pair; rows = x.3; passed = inl refl; unset = unset } },
            ((p.0, x.0), none_making old.sets.warming (map pair_of old.sets.cached) m step.free making, (x.4, x.1, unset), refl),
          )
  warm_step (WarmNews.Warmed n) step =
      let x = some_making old.sets.warming step.warm (map pair_of old.sets.cached) m step.making making in
      let far : x.0.1.passed ≡ step.warm.passed = far_before step.warm (map pair_of old.sets.cached) x.0 x.2 n step.rows step.left in
      subst (λ (f : Filters). Warmed f (WarmNews.Warmed n)) (sym step.after) (
        cache_by old.sets (Some (x.0.0, record x.0.1 { passed = n })),
        record {
          sets = refl;
          noted = refl;
          making = record { pair = x.2.pair; rows = x.2.rows; passed = inl refl; unset = x.2.unset };
        },
        (x.0, x.1, step.rows ∙ ap (λ k. k + step_limit) (sym far), subst (λ k. n < k) (sym x.2.rows) step.left, refl),
      )
  warm_step WarmNews.Stored step =
      let x = some_making old.sets.warming step.warm (map pair_of old.sets.cached) m step.making making in
      let none : Contains (map pair_of old.sets.cached) (step.warm.query, step.warm.segment.number) → ⊥ = λ c. x.2.unset (subst (Contains (map pair_of old.sets.cached)) (sym x.2.pair) c) in
      let sets : take set_limit (x.0.0 ∷ map pair_of old.sets.cached) ≡ map pair_of (with_made step.warm old.sets.cached) =
      ap (λ (p : Query × ℕ). take set_limit (p ∷ map pair_of old.sets.cached)) x.2.pair ∙ sym (made_first step.warm old.sets.cached none) in
      subst (λ (f : Filters). Warmed f WarmNews.Stored) (sym step.after) (
        record { sets = take set_limit (x.0.0 ∷ map pair_of old.sets.cached); noted = old.sets.noted; making = None },
        record { sets = sets; noted = refl; making = tt },
        (x.0, x.1, last_before step.warm (map pair_of old.sets.cached) x.0 x.2 step.last, refl),
      )

  -- a refused one may pass the last rows
  left_so : IsLeftByStep old.sets new.sets → IsCacheOf new.sets (cache_by old.sets m)
  left_so (inl same) = subst (λ (f : Filters). IsCacheOf f (cache_by old.sets m)) (sym same) (by_is old.sets m making)
  left_so (inr h) =
      let x = some_making old.sets.warming h.warm (map pair_of old.sets.cached) m h.making making in
      let is : IsMadeAs (passed_all h.warm) (map pair_of old.sets.cached) x.0 = record {
        pair = x.2.pair;
        rows = x.2.rows;
        passed = inr (last_before h.warm (map pair_of old.sets.cached) x.0 x.2 h.last, sym x.2.rows);
        unset = x.2.unset;
      } in
      subst (λ (f : Filters). IsCacheOf f (cache_by old.sets m)) (sym h.after)
      (record { sets = refl; noted = refl; making = subst (λ (o : Making). IsMakingOf (Some (passed_all h.warm)) (map pair_of old.sets.cached) o) (sym x.1) is })

  warm_goes : (session : ℕ) (r : Reply) → MakesOfSets session (Some (Said.chore Chore.warm)) old r new
      → TellsSo (policy_of old) s old.sets new.sets (Some (Said.chore Chore.warm)) r → Goes (Command.chore Chore.warm) r
  warm_goes session (Ok a) makes told =
      subst (λ (b : Answer). Goes (Command.chore Chore.warm) (Ok b)) (sym told.told) (warm_step told.news told.step)
  warm_goes session (Err e) makes told = (cache_by old.sets m, left_so makes.1, refl)

  -- ---- a MERGE

  merge_goes : (session : ℕ) (r : Reply) → MakesOfSets session (Some (Said.chore Chore.merge)) old r new → (IsOk r → session ≡ 0) → Goes (Command.chore Chore.merge) r
  merge_goes session r makes own = elim (eqb_tells session 0) [
    | inl k ↦
        subst (λ (f : Filters). MovesFrom f (Command.chore Chore.merge) r) (sym (makes.1 k.1))
        (merge_leaves (shape_of_service new) old.sets.cached old.sets.noted r old.sets.warming m making)
    | inr k ↦
        subst (λ (f : Filters). MovesFrom f (Command.chore Chore.merge) r) (sym (makes.0 k.1))
        (cache_by old.sets m, by_is old.sets m making, inl (refl, λ ok. absurd (k.1 (own ok))))
  ]

  -- ---- a FIND and a FACETS

  module _ (session t : ℕ) (text : Text) (r : Reply) (reads : ReadsWithSets s session t text r old.sets new.sets)
      (view : has_hold s.holds session t ≡ true → (view : View) × IsRecordedAs s.views t view) where
    -- what is so of the sets that were is so of those that a faulty text leaves
    faulty_goes : (place : ℕ) → Fault s.schema text place → (P : Filters → Type 0) → P old.sets → P new.sets
    faulty_goes place fault P h = subst P (sym (faulty_stays s session t text old.sets new.sets m making r reads view place fault)) h

    find_goes : (n : ℕ) (sort : Sort) (mark : Option ℕ) (q : Result Query Refusal) → IsQueryOf s.schema text q → (IsOk r → has_hold s.holds session t ≡ true)
        → Goes (Command.read t (Read.find n sort mark q)) r
    find_goes n sort mark _ (IsQueryOf.spelled q spells) ok = search_goes s session t text old.sets new.sets m making r reads view q spells ok
    find_goes n sort mark _ (IsQueryOf.faulty place fault) ok =
        faulty_goes place fault (λ f. MovesFrom f (Command.read t (Read.find n sort mark (Err (NoQuery place)))) r) (cache_by old.sets m, by_is old.sets m making, refl)

    facets_goes : (dim : Text) (n : ℕ) (q : Result Query Refusal) → IsQueryOf s.schema text q → (IsOk r → has_hold s.holds session t ≡ true)
        → Goes (Command.read t (Read.facets dim n q)) r
    facets_goes dim n _ (IsQueryOf.spelled q spells) ok = search_goes s session t text old.sets new.sets m making r reads view q spells ok
    facets_goes dim n _ (IsQueryOf.faulty place fault) ok =
        faulty_goes place fault (λ f. MovesFrom f (Command.read t (Read.facets dim n (Err (NoQuery place)))) r) (cache_by old.sets m, by_is old.sets m making, refl)

  -- ---- any

  module _ (session : ℕ) (r : Reply) (c : Command) (view : (t : ℕ) → has_hold s.holds session t ≡ true → (view : View) × IsRecordedAs s.views t view)
      (held : (t : ℕ) (asked : Read) → c ≡ Command.read t asked → IsOk r → has_hold s.holds session t ≡ true)
      (own : (what : Chore) → c ≡ Command.chore what → IsOk r → session ≡ 0) where
    line_goes : (said : Option Said) → IsCommandOf s.schema said c → MakesOfSets session said old r new → TellsSo (policy_of old) s old.sets new.sets said r → Goes c r
    line_goes None is same told = keeps c _ r is refl same
    line_goes (Some (Said.put text)) is same told = keeps c _ r is refl same
    line_goes (Some (Said.delete text)) is same told = keeps c _ r is refl same
    line_goes (Some (Said.delete_where text)) is same told = keeps c _ r is.2 refl same
    line_goes (Some Said.refresh) is same told = keeps c _ r is refl same
    line_goes (Some Said.open_newest) is same told = keeps c _ r is refl same
    line_goes (Some (Said.open_at t)) is same told = keeps c _ r is refl same
    line_goes (Some (Said.close t)) is same told = keeps c _ r is refl same
    line_goes (Some (Said.find t n sort mark text)) is reads told =
        subst (λ (k : Command). Goes k r) (sym is.2)
        (find_goes session t text r reads (view t) n sort mark is.0 is.1 (held t (Read.find n sort mark is.0) is.2))
    line_goes (Some (Said.facets t dim n text)) is reads told =
        subst (λ (k : Command). Goes k r) (sym is.2) (facets_goes session t text r reads (view t) dim n is.0 is.1 (held t (Read.facets dim n is.0) is.2))
    line_goes (Some (Said.get t text)) is same told = keeps c _ r is refl same
    line_goes (Some (Said.files_of_token t)) is same told = keeps c _ r is refl same
    line_goes (Some (Said.files_of_commit g)) is same told = keeps c _ r is refl same
    line_goes (Some (Said.commit text)) is same told = keeps c _ r is refl same
    line_goes (Some (Said.text_of_commit g)) is same told = keeps c _ r is refl same
    line_goes (Some Said.snapshot) is same told = keeps c _ r is refl same
    line_goes (Some (Said.release_snapshot g)) is same told = keeps c _ r is refl same
    line_goes (Some (Said.prune n)) is same told = keeps c _ r is refl same
    line_goes (Some (Said.chore Chore.merge)) is makes told =
        subst (λ (k : Command). Goes k r) (sym is) (merge_goes session r makes (own Chore.merge is))
    line_goes (Some (Said.chore Chore.force)) is same told = keeps c _ r is refl same
    line_goes (Some (Said.chore Chore.warm)) is makes told = subst (λ (k : Command). Goes k r) (sym is) (warm_goes session r makes told)
    line_goes (Some (Said.chore Chore.sweep)) is same told = keeps c _ r is refl same
    line_goes (Some (Said.chore Chore.stat)) is same told = keeps c _ r is refl same

module _ {D : Type 0} (bytes : D → ToldFiles) (faults : D → ℕ) (tried after : List ℕ) where
  -- what a line makes of the cached sets is what a standing may say of it
  pub cache_goes : (from : Opened) (past : Run) (old new : Service D) (e : Exchange) (fitting : Reply) (said : Option Said) (cache : Cache)
      → IsCacheOf old.sets cache → Stands (bytes (device_of old)) (shape_of_service old) from past → Fits from past (record { line = e.line; reply = fitting })
      → IsShown (bytes (device_of old)) e.reply fitting → IsCommandOf (shape_of_service old).schema said e.line.command
      → MakesOfSets e.line.session said old e.reply new → TellsSo (policy_of old) (shape_of_service old) old.sets new.sets said e.reply
      → (made : Cache) × IsCacheOf new.sets made
      × CacheMoves (standing_of_service faults cache tried old) e.line.command fitting (standing_of_service faults made after new)
  cache_goes from past old new e fitting said cache is stands fits shown command makes told =
      let session = e.line.session in
      let c = e.line.command in
      let s = shape_of_service old in
      let m = cache.making in
      let st = standing_of_service faults (cache_by old.sets m) tried old in
      let fit : (d : Command) → c ≡ d → Fits from past (record { line = line_of session d; reply = fitting }) =
      λ d same. subst (λ (k : Command). Fits from past (record { line = line_of session k; reply = fitting })) same fits in
      let ok : IsOk e.reply → IsOk fitting = ok_alike e.reply fitting shown.alike in
      let goes = line_goes faults tried after old new m is.making session e.reply c
      (λ t. view_held (bytes (device_of old)) s from past stands session t)
      (λ t asked same k. held_here (bytes (device_of old)) s from past stands session t (read_holds from past session t asked fitting (fit (Command.read t asked) same) (ok k)))
      (λ what same k. chore_own from past session what fitting (fit (Command.chore what) same) (ok k))
      said command makes told in
      subst (λ (k : Cache). (made : Cache) × IsCacheOf new.sets made × CacheMoves (standing_of_service faults k tried old) c fitting (standing_of_service faults made after new))
      (sym (is_by old.sets cache is))
      (goes.0, goes.1, cache_alike st (standing_of_service faults goes.0 after new) c e.reply fitting shown.alike goes.2)
