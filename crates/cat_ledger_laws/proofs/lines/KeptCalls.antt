-- What an answered line leaves as it was.
use Rattle.std.proofs.Common.{◌≡◌, ℕ, List, [], ◌∷◌, ◌++◌, length, Bool, true, false, not, ◌&&◌, ◌||◌, cond, ltb, Option, Some, refl, sym, ◌∙◌, ap, append-nil, inl, inr}
use Rattle.std.specs.Prelude.{◌==◌, max, count_by, option_map, Ok, Err}
use Rattle.std.specs.List.{find, list_any}
use Rattle.std.proofs.lemmas.Bool.Decides.{eqb_tells}
use Rattle.cat_model.specs.Limits.{view_limit, last_number, buffer_limit}
use Rattle.cat_model.specs.Run.{Chore, News, Command, Line, Answer, Reply}
use Rattle.cat_model.specs.State.{refuses_refresh, has_hold, held_in, snapshots_in}
use Rattle.cat_model.specs.View.{View}
use Rattle.cat_ledger_laws.specs.model.Calls.{tokens_in, has_recorded, stays_recorded, stays_full, stays_pruned, views_that, recorded_view_now, Flushes, Flushed, RecordsNow, Pruned}
use Rattle.cat_ledger_laws.specs.model.Ledger.{Ledger, RecordedView, state_of}
use Rattle.cat_ledger_laws.specs.model.Plans.{MergePolicy}
use Rattle.cat_ledger_laws.specs.model.Replies.{Maintains, SnapsBy, CarriesOut, IsLeft, FindsNone, Calls}
use Rattle.cat_ledger_laws.proofs.model.Schemas.{schemas_stay}
use Rattle.cat_ledger_laws.specs.shape.Shapes.{Shape, recorded_view}
use Rattle.cat_ledger_laws.specs.lines.StayLaws.{SchemaStays, changes_holds, HoldsStay, HeldViewsStay}
use Rattle.cat_ledger_laws.proofs.lines.Found.{find_map, found_in}

-- ---- the views of held tokens

-- the view of the token
abbrev view_under : ℕ → List RecordedView → Option RecordedView
view_under t vs = find (λ (v : RecordedView). v.token == t) vs

equals : (a b : ℕ) → (a == b) ≡ true → a ≡ b
equals a b h = elim (eqb_tells a b) [ inl e ↦ e.1 | inr e ↦ absurd (let no : false ≡ true = sym e.0 ∙ h in cc) ]

kept_at : (t : ℕ) (own v : RecordedView) (vs kept more : List RecordedView) (b c : Bool) → (b ≡ true → c ≡ true) → (view_under t vs ≡ Some own → view_under t (kept ++ more) ≡ Some own)
    → (v.token == t) ≡ b → cond b (Some v) (view_under t vs) ≡ Some own → view_under t (cond c (v ∷ kept) kept ++ more) ≡ Some own
kept_at t own v vs kept more true true need rest is e = ap (λ d. cond d (Some v) (view_under t (kept ++ more))) is ∙ e
kept_at t own v vs kept more true false need rest is e = absurd (let no : false ≡ true = need refl in cc)
kept_at t own v vs kept more false true need rest is e = ap (λ d. cond d (Some v) (view_under t (kept ++ more))) is ∙ rest e
kept_at t own v vs kept more false false need rest is e = rest e

-- a view stays the one of its token where all views of that token stay
find_kept : (stays : ℕ → Bool) (t : ℕ) (own : RecordedView) (more vs : List RecordedView) → stays t ≡ true → view_under t vs ≡ Some own → view_under t (views_that stays vs ++ more) ≡ Some own
find_kept stays t own more [] k e = absurd (cc e)
find_kept stays t own more (v ∷ vs) k e =
    kept_at t own v vs (views_that stays vs) more (v.token == t) (stays v.token) (λ h. ap stays (equals v.token t h) ∙ k) (find_kept stays t own more vs k) refl e

or_first : (a b : Bool) → a ≡ true → (a || b) ≡ true
or_first true b e = refl
or_first false b e = absurd (let no : false ≡ true = e in cc)

or_second : (a b : Bool) → b ≡ true → (a || b) ≡ true
or_second true b e = refl
or_second false b e = e

-- ---- what each call keeps

-- The holds, but where they may change; and the view of each token that is held.
record Keeps (free : Bool) (l new : Ledger) : Type 0 where
  holds : free ≡ false → new.holds ≡ l.holds
  views : (t : ℕ) (own : RecordedView) → held_in l.holds t ≡ true → view_under t l.views ≡ Some own → view_under t new.views ≡ Some own

views_same : (free : Bool) (l new : Ledger) → (free ≡ false → new.holds ≡ l.holds) → new.views ≡ l.views → Keeps free l new
views_same free l new h v = record { holds = h; views = λ t own held e. ap (view_under t) v ∙ e }

both_same : (free : Bool) (l new : Ledger) → new.holds ≡ l.holds → new.views ≡ l.views → Keeps free l new
both_same free l new h v = views_same free l new (λ e. h) v

all_same : (free : Bool) (l new : Ledger) → new ≡ l → Keeps free l new
all_same free l new k = both_same free l new (ap (λ (x : Ledger). x.holds) k) (ap (λ (x : Ledger). x.views) k)

keeps_on : (l mid new : Ledger) → Keeps false l mid → Keeps false mid new → Keeps false l new
keeps_on l mid new a b = record {
  holds = λ e. b.holds e ∙ a.holds e;
  views = λ t own held e. b.views t own (ap (λ hs. held_in hs t) (a.holds refl) ∙ held) (a.views t own held e);
}

flushed_keeps : (l mid : Ledger) → Flushed l mid → Keeps false l mid
flushed_keeps l mid k = both_same false l mid (ap (λ (x : Ledger). x.holds) k.rest) (ap (λ (x : Ledger). x.views) k.rest)

flush_keeps : (l mid : Ledger) → Flushes l mid → Keeps false l mid
flush_keeps l mid (inl k) = all_same false l mid k.1
flush_keeps l mid (inr k) = flushed_keeps l mid k

records_keep : (l new : Ledger) (b : Bool) → cond b (new ≡ l) (RecordsNow l new) → Keeps false l new
records_keep l new true k = all_same false l new k
records_keep l new false k = record {
  holds = λ e. ap (λ (x : Ledger). x.holds) k.rest;
  views = λ t own held e.
      let stays : ℕ → Bool = stays_recorded (held_in l.holds) (tokens_in l.views) in
      let here : stays t ≡ true = or_second (ltb (length (tokens_in l.views)) view_limit) (stays_full (held_in l.holds) (tokens_in l.views) t) (or_first (held_in l.holds t) (list_any (λ u. not (held_in l.holds u) && ltb u t) (tokens_in l.views)) held) in
      ap (λ (x : Ledger). view_under t x.views) k.rest ∙ find_kept stays t own (recorded_view_now l ∷ []) l.views here e;
}

pruned_keeps : (n : ℕ) (l new : Ledger) → Pruned n l new → Keeps false l new
pruned_keeps n l new k = record {
  holds = λ e. ap (λ (x : Ledger). x.holds) k.rest;
  views = λ t own held e.
      let stays : ℕ → Bool = stays_pruned (held_in l.holds) n (tokens_in l.views) in
      let here : stays t ≡ true = or_first (held_in l.holds t) (ltb (count_by (λ u. ltb t u) (tokens_in l.views)) (max n 1)) held in
      ap (λ (x : Ledger). view_under t x.views) k.rest ∙ ap (view_under t) (sym (append-nil (views_that stays l.views))) ∙ find_kept stays t own [] l.views here e;
}

module _ (l : Ledger) (s : ℕ) (r : Reply) (new : Ledger) where
  same : new ≡ l → Keeps false l new
  same k = all_same false l new k

  -- a call that changes neither holds nor views
  apart : new.holds ≡ l.holds → new.views ≡ l.views → Keeps false l new
  apart h v = both_same false l new h v

  maintains_keeps : (policy : MergePolicy) (c : Chore) (n : News) → Maintains policy c n l new → Keeps false l new
  maintains_keeps policy Chore.merge News.idle m = same m.2
  maintains_keeps policy Chore.merge (News.begun_merge k) m = apart (ap (λ (x : Ledger). x.holds) m.3.rest) (ap (λ (x : Ledger). x.views) m.3.rest)
  maintains_keeps policy Chore.merge (News.copied n) m = apart (ap (λ (x : Ledger). x.holds) m.1.rest) (ap (λ (x : Ledger). x.views) m.1.rest)
  maintains_keeps policy Chore.merge News.done m = apart (ap (λ (x : Ledger). x.holds) m.1.rest) (ap (λ (x : Ledger). x.views) m.1.rest)
  maintains_keeps policy Chore.force News.idle m = same m.2
  maintains_keeps policy Chore.force News.busy m = same m.1
  maintains_keeps policy Chore.force (News.begun_merge k) m = apart (ap (λ (x : Ledger). x.holds) m.2.rest) (ap (λ (x : Ledger). x.views) m.2.rest)
  maintains_keeps policy Chore.sweep (News.swept n) m = apart (ap (λ (x : Ledger). x.holds) m.rest) (ap (λ (x : Ledger). x.views) m.rest)
  maintains_keeps policy c n m = same m.1

  snaps_keep : (x : Reply) → SnapsBy l x new → Keeps false l new
  snaps_keep (Ok (Answer.number g)) m = apart (ap (λ (x : Ledger). x.holds) m.rest) (ap (λ (x : Ledger). x.views) m.rest)
  snaps_keep (Ok (Answer.found f)) m = same m
  snaps_keep (Ok (Answer.names ns)) m = same m
  snaps_keep (Ok (Answer.commit_text t)) m = same m
  snaps_keep (Ok (Answer.news n)) m = same m
  snaps_keep (Err e) m = same m

  by_bool : (free : Bool) (b : Bool) (A B : Type 0) → (A → Keeps free l new) → (B → Keeps free l new) → cond b A B → Keeps free l new
  by_bool free true A B f g x = f x
  by_bool free false A B f g x = g x

  room_keeps : (b : Bool) (mid : Ledger) → cond b (mid ≡ l) (Flushed l mid) → Keeps false l mid
  room_keeps true mid k = all_same false l mid k
  room_keeps false mid k = flushed_keeps l mid k

  -- holds change, and nothing else
  opened : new.views ≡ l.views → Keeps true l new
  opened v = views_same true l new (λ e. absurd (let no : true ≡ false = e in cc)) v

  serves_keep : (policy : MergePolicy) (c : Command) → CarriesOut policy l s c r new → Keeps (changes_holds c) l new
  serves_keep policy Command.formless m = same m.1
  serves_keep policy (Command.put (Ok i)) m = by_bool false (ltb l.count last_number) _ _
      (λ x. keeps_on l x.0 new (room_keeps (ltb (length l.buffered) buffer_limit) x.0 x.1) (both_same false x.0 new (ap (λ (y : Ledger). y.holds) x.4) (ap (λ (y : Ledger). y.views) x.4))) (λ x. same x.1) m
  serves_keep policy (Command.put (Err e)) m = same m.1
  serves_keep policy (Command.delete (Ok id)) m = by_bool false (ltb l.count last_number) _ _ (λ x. apart (ap (λ (y : Ledger). y.holds) x.1) (ap (λ (y : Ledger). y.views) x.1)) (λ x. same x.1) m
  serves_keep policy (Command.delete (Err e)) m = same m.1
  serves_keep policy (Command.delete_where (Ok q)) m = by_bool false (ltb l.count last_number) _ _ (λ x. apart (ap (λ (y : Ledger). y.holds) x.1) (ap (λ (y : Ledger). y.views) x.1)) (λ x. same x.1) m
  serves_keep policy (Command.delete_where (Err e)) m = same m.1
  serves_keep policy Command.refresh m = by_bool false (refuses_refresh (state_of l)) _ _ (λ x. same x.1)
      (λ x. keeps_on l x.0 new (flush_keeps l x.0 x.1) (records_keep x.0 new (has_recorded x.0.views x.0.count) x.2)) m
  serves_keep policy Command.open_newest m = opened (ap (λ (y : Ledger). y.views) m.1)
  serves_keep policy (Command.open_at t) m = by_bool true (has_recorded l.views t) _ _ (λ x. opened (ap (λ (y : Ledger). y.views) x.1)) (λ x. all_same true l new x.1) m
  serves_keep policy (Command.close t) m = by_bool true (has_hold l.holds s t) _ _ (λ x. opened (ap (λ (y : Ledger). y.views) x.1)) (λ x. all_same true l new x.1) m
  serves_keep policy (Command.read t asked) m = same m.1
  serves_keep policy (Command.files_of_token t) m = same m.1
  serves_keep policy (Command.chore c) m = by_bool false (s == 0) _ _ (λ x. maintains_keeps policy c x.0 x.2) (λ x. same x.1) m
  serves_keep policy (Command.prune n) m = pruned_keeps n l new m.1
  serves_keep policy (Command.commit (Err e)) m = same m.1
  serves_keep policy (Command.commit (Ok text)) m = keeps_on l m.0 new (flush_keeps l m.0 m.1) (both_same false m.0 new (ap (λ (y : Ledger). y.holds) m.2.rest) (ap (λ (y : Ledger). y.views) m.2.rest))
  serves_keep policy Command.snapshot m = snaps_keep r m.1
  serves_keep policy (Command.release_snapshot g) m = by_bool false (ltb 0 (snapshots_in l.taken g)) _ _ (λ x. apart (ap (λ (y : Ledger). y.holds) x.1.rest) (ap (λ (y : Ledger). y.views) x.1.rest)) (λ x. same x.1) m
  serves_keep policy (Command.files_of_commit g) m = same m.1
  serves_keep policy (Command.text_of_commit g) m = same m.1

  -- what keeps the holds keeps as much where these may change
  freely : (free : Bool) → Keeps false l new → Keeps free l new
  freely free k = record { holds = λ e. k.holds refl; views = k.views }

  left_keeps : IsLeft l new → Keeps false l new
  left_keeps h =
      let f : Keeps false l h.flushed = elim h.flush [ inl k ↦ all_same false l h.flushed k | inr k ↦ flushed_keeps l h.flushed k ] in
      let e : Keeps false h.flushed h.ended = elim h.merge [ inl k ↦ all_same false h.flushed h.ended k | inr k ↦ both_same false h.flushed h.ended (ap (λ (x : Ledger). x.holds) k.1.rest) (ap (λ (x : Ledger). x.views) k.1.rest) ] in
      keeps_on l h.ended new (keeps_on l h.flushed h.ended f e) (both_same false h.ended new (ap (λ (x : Ledger). x.holds) h.rest.rest) (ap (λ (x : Ledger). x.views) h.rest.rest))

  none_keeps : (c : Command) → FindsNone l c r new → Keeps false l new
  none_keeps (Command.commit (Ok text)) m = same m.2
  none_keeps _ m = absurd m

calls_keep : (policy : MergePolicy) (l new : Ledger) (line : Line) (r : Reply) → Calls policy l line r new → Keeps (changes_holds line.command) l new
calls_keep policy l new line r (inl m) = serves_keep l line.session r new policy line.command m
calls_keep policy l new line r (inr (inl m)) = freely l line.session r new (changes_holds line.command) (left_keeps l line.session r new m.1)
calls_keep policy l new line r (inr (inr m)) = freely l line.session r new (changes_holds line.command) (none_keeps l line.session r new line.command m)

-- ---- of shapes

pub schema_stays : SchemaStays
schema_stays policy told told' s new line reply l files c answers =
    let x = answers l files c in
    ap (λ (s : Shape). s.schema) (sym x.5.shape) ∙ schemas_stay policy l x.0 line x.2 x.4 ∙ ap (λ (s : Shape). s.schema) c.shape

pub holds_stay : HoldsStay
holds_stay policy told told' s new line reply l files c answers apart =
    let x = answers l files c in
    ap (λ (s : Shape). s.holds) (sym x.5.shape) ∙ (calls_keep policy l x.0 line x.2 x.4).holds apart ∙ ap (λ (s : Shape). s.holds) c.shape

pub held_views_stay : HeldViewsStay
held_views_stay policy told told' s new line reply l files c answers t view held is =
    let x = answers l files c in
    let own = found_in (recorded_view l.schema) (λ (v : View). v.token == t) l.views view (ap (λ (s : Shape). find (λ (v : View). v.token == t) s.views) c.shape ∙ is) in
    let kept : view_under t x.0.views ≡ Some own.0 = (calls_keep policy l x.0 line x.2 x.4).views t own.0 (ap (λ (s : Shape). held_in s.holds t) c.shape ∙ held) own.2 in
    let same_view : recorded_view x.0.schema own.0 ≡ view = ap (λ schema. recorded_view schema own.0) (schemas_stay policy l x.0 line x.2 x.4) ∙ own.1 in
    ap (λ (s : Shape). find (λ (v : View). v.token == t) s.views) (sym x.5.shape)
    ∙ find_map (recorded_view x.0.schema) (λ (v : View). v.token == t) x.0.views
    ∙ ap (option_map (recorded_view x.0.schema)) kept
    ∙ ap Some same_view
