-- What a run keeps: no record and no hold has a token past the number of writes.
use Rattle.std.proofs.Common.{◌≡◌, ℕ, ◌≤◌, ◌<◌, max, List, [], ◌∷◌, ◌++◌, length, Bool, true, false, cond, ◌||◌, ltb, Option, Some, None, refl, sym, ◌∙◌, ap, subst, arith, append-nil, append_assoc, inl, inr}
use Rattle.std.specs.Prelude.{◌⊎◌, Ok, Err, ◌==◌}
use Rattle.std.specs.Option.{unwrap_or}
use Rattle.std.specs.List.{list_any, filter, filter_map, cons_option, last_or, count_by, AllByRecursion}
use Rattle.std.proofs.lemmas.Bool.Decides.{nat_tests, leb_tells, eqb_tells}
use Rattle.std.proofs.lemmas.List.Elements.{filter_map-append}
use Rattle.std.proofs.lemmas.List.{length-append}
use Rattle.cat_base.specs.declared.refusal.Refusal.{Refusal}
use Rattle.cat_base.specs.declared.refusal.Refusal.TheVariants.{Gone, Memory}
use Rattle.cat_model.specs.Table.{Start, Opened, table, count, writes_up_to}
use Rattle.cat_model.specs.Answer.{Read, answer, query_refusal}
use Rattle.cat_model.specs.Run.{Command, Answer, Reply, Exchange, Run, accepted, writes, now, hold_by, holds, is_held, has, without_least_free, pruned, with_view, view_tokens_by, view_tokens_from, view_tokens, greatest, found_reply, or_not_held, Answers, Refuses, Stops, Fits, FitsFrom, IsRun}
use Rattle.cat_model.specs.State.{hold_change}
use Rattle.cat_model.specs.Limits.{view_limit}
use Rattle.cat_model.specs.Laws.{RunsGoOn, IsBounded, RunsAreBounded, HeldRead, HeldReadIsOfItsTable, HeldReadsAgree}
use Rattle.cat_model.proofs.Lists.{All-weaken, All-both, All-kept, list_any-append}
use Rattle.cat_model.proofs.UpTo.{table-more, table-up_to}

-- a run's parts
pub FitsFrom-split : (from : Opened) (past a b : Run) → FitsFrom from past (a ++ b) → FitsFrom from past a × FitsFrom from (past ++ a) b
FitsFrom-split from past [] b f = (tt, subst (λ p. FitsFrom from p b) (sym (append-nil past)) f)
FitsFrom-split from past (e ∷ a) b f =
    let r : FitsFrom from (past ++ e ∷ []) a × FitsFrom from ((past ++ e ∷ []) ++ a) b = FitsFrom-split from (past ++ e ∷ []) a b f.1 in
    ((f.0, r.0), subst (λ p. FitsFrom from p b) (append_assoc past (e ∷ []) a) r.1)

pub FitsFrom-join : (from : Opened) (past a b : Run) → FitsFrom from past a → FitsFrom from (past ++ a) b → FitsFrom from past (a ++ b)
FitsFrom-join from past [] b f g = subst (λ p. FitsFrom from p b) (append-nil past) g
FitsFrom-join from past (e ∷ a) b f g = (f.0, FitsFrom-join from (past ++ e ∷ []) a b f.1 (subst (λ p. FitsFrom from p b) (sym (append_assoc past (e ∷ []) a)) g))

pub runs_go_on : RunsGoOn
runs_go_on from past e f g = FitsFrom-join from [] past (e ∷ []) f (g, tt)

records_from-push : (ts : List ℕ) (past run : Run) (e : Exchange)
    → view_tokens_from ts past (run ++ e ∷ []) ≡ view_tokens_by (is_held (past ++ run)) (view_tokens_from ts past run) e.line.command e.reply
records_from-push ts past [] e = rw (append-nil past) refl
records_from-push ts past (x ∷ run) e =
    records_from-push (view_tokens_by (is_held past) ts x.line.command x.reply) (past ++ x ∷ []) run e
    ∙ ap (λ p. view_tokens_by (is_held p) (view_tokens_from ts past (x ∷ run)) e.line.command e.reply) (append_assoc past (x ∷ []) run)

-- the records after one more exchange
pub records-push : (start : Start) (run : Run) (e : Exchange) → view_tokens start (run ++ e ∷ []) ≡ view_tokens_by (is_held run) (view_tokens start run) e.line.command e.reply
records-push start run e = records_from-push (start.token ∷ []) [] run e

pub writes-push : (run : Run) (e : Exchange) → writes (run ++ e ∷ []) ≡ writes run ++ cons_option (accepted e) []
writes-push run e = filter_map-append accepted run (e ∷ [])

pub last_or-append : {A : Type 0} (o : Option A) (xs : List A) (x : A) → last_or o (xs ++ x ∷ []) ≡ Some x
last_or-append o [] x = refl
last_or-append o (y ∷ xs) x = last_or-append (Some y) xs x

-- a hold after a change, if there is one
abbrev pub changed : Option Bool → Bool → Bool
changed None b = b
changed (Some c) b = c

began-push : (bs : List Bool) (o : Option Bool) → unwrap_or (last_or None (bs ++ cons_option o [])) false ≡ changed o (unwrap_or (last_or None bs) false)
began-push bs None = ap (λ l. unwrap_or (last_or None l) false) (append-nil bs)
began-push bs (Some c) = ap (λ o. unwrap_or o false) (last_or-append None bs c)

pub holds-push : (s t : ℕ) (run : Run) (e : Exchange) → holds s t (run ++ e ∷ []) ≡ changed (hold_change s t e) (holds s t run)
holds-push s t run e =
    ap (λ l. unwrap_or (last_or None l) false) (filter_map-append (hold_change s t) run (e ∷ []))
    ∙ began-push (filter_map (hold_change s t) run) (hold_change s t e)

pub now-push : (start : Start) (run : Run) (e : Exchange) → now start run ≤ now start (run ++ e ∷ [])
now-push start run e =
    let w : writes (run ++ e ∷ []) ≡ writes run ++ cons_option (accepted e) [] = writes-push run e in
    rw w (omega (arith, length-append (writes run) (cons_option (accepted e) [])))

-- a number that is told in place of a refusal
told_number : (b : Bool) (m t : ℕ) (e : Refusal) (r : Reply) → r ≡ Ok (Answer.number t) → r ≡ cond b (Err e) (Ok (Answer.number m)) → t ≡ m
told_number true m t e r told' h = cc
told_number false m t e r told' h = cc

pub or_true : (b : Bool) → (b || true) ≡ true
or_true true = refl
or_true false = refl

pub greatest_up_to : (n : ℕ) (ts : List ℕ) → AllByRecursion (λ u. u ≤ n) ts → greatest ts ≤ n
greatest_up_to n [] a = omega arith
greatest_up_to n (t ∷ ts) a = omega (arith, a.0, greatest_up_to n ts a.1)

has_up_to : (n t : ℕ) (ts : List ℕ) → AllByRecursion (λ u. u ≤ n) ts → has ts t ≡ true → t ≤ n
has_up_to n t [] a h = absurd (cc)
has_up_to n t (u ∷ ts) a h = grind (arith, nat_tests, a.0, has_up_to n t ts a.1)

opened : (b : Bool) (v u t : ℕ) → ◌≡◌ {A = Reply} (Ok (Answer.number u)) (cond b (Ok (Answer.number v)) (Err Gone)) → u ≡ t → (b ≡ true) × (v ≡ t)
opened true v u t e same = let k : u ≡ v = cc in (refl, sym k ∙ same)
opened false v u t e same = absurd (cc)

closed : (b : Bool) → ◌≡◌ {A = Option Bool} (cond b (Some false) None) (Some true) → ⊥
closed true e = let k : false ≡ true = cc in cc
closed false e = cc

-- ---- lists of tokens

has-append : (ts us : List ℕ) (t : ℕ) → has (ts ++ us) t ≡ (has ts t || has us t)
has-append ts us t = list_any-append (λ u. u == t) ts us

has-filter : (p : ℕ → Bool) (ts : List ℕ) (t : ℕ) → has ts t ≡ true → p t ≡ true → has (filter p ts) t ≡ true
has-filter p [] t h k = h
has-filter p (u ∷ ts) t h k =
    elim (eqb_tells u t) [
      | inl e ↦ let yes : p u ≡ true = ap p e.1 ∙ k in rw (yes, e.0) refl
      | inr e ↦ let rest : has (filter p ts) t ≡ true = has-filter p ts t (rw e.0 at h) k in
          elim (p u) as (λ b. has (cond b (u ∷ filter p ts) (filter p ts)) t ≡ true) [ true ↦ rw (e.0, rest) refl | false ↦ rest ]
    ]

pub has_some : (ts : List ℕ) (t : ℕ) → has ts t ≡ true → 0 < length ts
has_some [] t h = absurd (cc)
has_some (u ∷ ts) t h = omega arith

greatest_above : (ts : List ℕ) → AllByRecursion (λ u. u ≤ greatest ts) ts
greatest_above [] = tt
greatest_above (t ∷ ts) = (omega arith, All-weaken (λ u. u ≤ greatest ts) (λ u. u ≤ max t (greatest ts)) (λ u h. omega arith) ts (greatest_above ts))

either_is : (t u : ℕ) → (max t u ≡ t) ⊎ (max t u ≡ u)
either_is t u = elim (leb_tells t u) [ inl h ↦ inr (omega (arith, h.1)) | inr h ↦ inl (omega (arith, h.1)) ]

has_head : (t : ℕ) (ts : List ℕ) → has (t ∷ ts) t ≡ true
has_head t ts = grind (arith, nat_tests)

has_rest : (t g : ℕ) (ts : List ℕ) → has ts g ≡ true → has (t ∷ ts) g ≡ true
has_rest t g ts h = ap (λ b. (t == g) || b) h ∙ or_true (t == g)

greatest_step : (t g : ℕ) (ts : List ℕ) → has ts g ≡ true → has (t ∷ ts) (max t g) ≡ true
greatest_step t g ts h = elim (either_is t g) [ inl e ↦ ap (has (t ∷ ts)) e ∙ has_head t ts | inr e ↦ ap (has (t ∷ ts)) e ∙ has_rest t g ts h ]

pub greatest_in : (ts : List ℕ) → 0 < length ts → has ts (greatest ts) ≡ true
greatest_in [] h = absurd (omega arith)
greatest_in (t ∷ []) h = let e : max t 0 ≡ t = omega arith in ap (has (t ∷ [])) e ∙ has_head t []
greatest_in (t ∷ u ∷ ts) h = greatest_step t (greatest (u ∷ ts)) (u ∷ ts) (greatest_in (u ∷ ts) (omega arith))

none_greater : (g : ℕ) (ts : List ℕ) → AllByRecursion (λ u. u ≤ g) ts → count_by (λ u. ltb g u) ts ≡ 0
none_greater g [] a = refl
none_greater g (t ∷ ts) a = let e : ltb g t ≡ false = grind (arith, nat_tests, a.0) in rw e (none_greater g ts a.1)

-- the greatest token is never pruned
pub pruned_has : (held : ℕ → Bool) (n : ℕ) (ts : List ℕ) → 0 < length ts → has (pruned held n ts) (greatest ts) ≡ true
pruned_has held n ts h =
    has-filter _ ts (greatest ts) (greatest_in ts h)
    (let e : ltb (count_by (λ u. ltb (greatest ts) u) ts) (max n 1) ≡ true = rw (none_greater (greatest ts) ts (greatest_above ts)) (grind (arith, nat_tests)) in rw e (or_true (held (greatest ts))))

-- ---- holds

-- a session that holds a token has spoken
spoken : (s t : ℕ) (run : Run) → (filter_map (hold_change s t) run ≡ []) ⊎ (list_any (λ e. e.line.session == s) run ≡ true)
spoken s t [] = inl refl
spoken s t (e ∷ run) =
    elim (eqb_tells e.line.session s) [
      | inl h ↦ inr (rw h.0 refl)
      | inr h ↦ elim (spoken s t run) [ inl k ↦ inl (rw (h.0, k) refl) | inr k ↦ inr (rw (h.0, k) refl) ]
    ]

any_at : (p : ℕ → Bool) (s : ℕ) (run : Run) → p s ≡ true → list_any (λ e. e.line.session == s) run ≡ true → list_any (λ e. p e.line.session) run ≡ true
any_at p s [] k h = h
any_at p s (x ∷ run) k h =
    elim (eqb_tells x.line.session s) [
      | inl e ↦ let yes : p x.line.session ≡ true = ap p e.1 ∙ k in rw yes refl
      | inr e ↦ rw (any_at p s run k (rw e.0 at h)) (or_true (p x.line.session))
    ]

pub held_by_one : (s t : ℕ) (run : Run) → holds s t run ≡ true → is_held run t ≡ true
held_by_one s t run h =
    elim (spoken s t run) [
      | inl e ↦ absurd (let k : false ≡ true = sym (ap (λ bs. unwrap_or (last_or None bs) false) e) ∙ h in cc)
      | inr e ↦ any_at (λ u. holds u t run) s run h e
    ]

-- what is held stays recorded
recorded_has : (held : ℕ → Bool) (ts : List ℕ) (u t : ℕ) → has ts t ≡ true → held t ≡ true → has (with_view held ts u) t ≡ true
recorded_has held ts u t h k =
    elim (has ts u) as (λ b. has (cond b ts (cond (ltb (length ts) view_limit) ts (without_least_free held ts) ++ u ∷ [])) t ≡ true) [
      | true ↦ h
      | false ↦
          let kept : has (cond (ltb (length ts) view_limit) ts (without_least_free held ts)) t ≡ true =
          elim (ltb (length ts) view_limit) as (λ b. has (cond b ts (without_least_free held ts)) t ≡ true) [ true ↦ h | false ↦ has-filter _ ts t h (rw k refl) ] in
          rw (has-append (cond (ltb (length ts) view_limit) ts (without_least_free held ts)) (u ∷ []) t, kept) refl
    ]

recorded_some : (held : ℕ → Bool) (ts : List ℕ) (u : ℕ) → 0 < length ts → 0 < length (with_view held ts u)
recorded_some held ts u h =
    elim (has ts u) as (λ b. 0 < length (cond b ts (cond (ltb (length ts) view_limit) ts (without_least_free held ts) ++ u ∷ []))) [
      | true ↦ h
      | false ↦ omega (arith, length-append (cond (ltb (length ts) view_limit) ts (without_least_free held ts)) (u ∷ []))
    ]

keeps_held : (held : ℕ → Bool) (ts : List ℕ) (t : ℕ) (c : Command) (r : Reply) → has ts t ≡ true → held t ≡ true → has (view_tokens_by held ts c r) t ≡ true
keeps_held held ts t Command.refresh (Ok (Answer.number u)) h k = recorded_has held ts u t h k
keeps_held held ts t (Command.prune n) (Ok x) h k = has-filter _ ts t h (rw k refl)
keeps_held held ts t _ _ h k = h

keeps_some : (held : ℕ → Bool) (ts : List ℕ) (c : Command) (r : Reply) → 0 < length ts → 0 < length (view_tokens_by held ts c r)
keeps_some held ts Command.refresh (Ok (Answer.number u)) h = recorded_some held ts u h
keeps_some held ts (Command.prune n) (Ok x) h = has_some _ (greatest ts) (pruned_has held n ts h)
keeps_some held ts _ _ h = h

-- an exchange that is stopped is a refusal
pub stops_refuse : (from : Opened) (past : Run) (s : ℕ) (c : Command) (r : Reply) → Stops from past s c r → Refuses c r
stops_refuse from past s c r (inl m) = (Memory, m.0, refl)
stops_refuse from past s c r (inr f) = f.0

no_refusal : (c : Command) (a : Answer) → Refuses c (Ok a) → ⊥
no_refusal c a f = let h : ◌≡◌ {A = Reply} (Ok a) (Err f.0) = f.1 in cc

-- an OK is the answer
pub answered : (from : Opened) (past : Run) (s : ℕ) (c : Command) (a : Answer) → Answers from past s c (Ok a) ⊎ Stops from past s c (Ok a) → Answers from past s c (Ok a)
answered from past s c a (inl f) = f
answered from past s c a (inr f) = absurd (no_refusal c a (stops_refuse from past s c (Ok a) f))

-- the tokens of the records, and what is told to an OPEN
module _ (from : Opened) (past : Run) (ok : IsBounded from.start past) where
  recorded_up_to : (held : ℕ → Bool) (ts : List ℕ) (t n : ℕ) → t ≤ n → AllByRecursion (λ u. u ≤ n) ts → AllByRecursion (λ u. u ≤ n) (with_view held ts t)
  recorded_up_to held ts t n h a =
      elim (has ts t) as (λ b. AllByRecursion (λ u. u ≤ n) (cond b ts (cond (ltb (length ts) view_limit) ts (without_least_free held ts) ++ t ∷ []))) [
        | true ↦ a
        | false ↦ All-both (λ u. u ≤ n) _ _ (elim (ltb (length ts) view_limit) as (λ b. AllByRecursion (λ u. u ≤ n) (cond b ts (without_least_free held ts))) [ true ↦ a | false ↦ All-kept _ _ ts a ]) (h, tt)
      ]

  pub records_fit : (s : ℕ) (c : Command) (r : Reply) → Answers from past s c r ⊎ Stops from past s c r → AllByRecursion (λ u. u ≤ now from.start past) (view_tokens_by (is_held past) (view_tokens from.start past) c r)
  records_fit s Command.refresh (Ok (Answer.number t)) f =
      let e : t ≡ now from.start past = told_number _ _ t _ (Ok (Answer.number t)) refl (answered from past s Command.refresh (Answer.number t) f) in
      recorded_up_to (is_held past) (view_tokens from.start past) t (now from.start past) (omega (arith, e)) ok.recorded
  records_fit s (Command.prune n) (Ok x) f = All-kept _ _ (view_tokens from.start past) ok.recorded
  records_fit s _ _ f = ok.recorded

  holds_fit : (s t : ℕ) (c : Command) (r : Reply) → Answers from past s c r ⊎ Stops from past s c r → hold_by t c r ≡ Some true → has (view_tokens_by (is_held past) (view_tokens from.start past) c r) t ≡ true
  holds_fit s t Command.open_newest (Ok (Answer.number u)) f h =
      let k : ◌≡◌ {A = Reply} (Ok (Answer.number u)) (Ok (Answer.number (greatest (view_tokens from.start past)))) = answered from past s Command.open_newest (Answer.number u) f in
      let e : u ≡ greatest (view_tokens from.start past) = cc in
      let same : u ≡ t = grind (arith, nat_tests, h) in
      ap (has (view_tokens from.start past)) (sym same ∙ e) ∙ greatest_in (view_tokens from.start past) ok.some_view
  holds_fit s t (Command.open_at v) (Ok (Answer.number u)) f h =
      let same : u ≡ t = grind (arith, nat_tests, h) in
      let k : (has (view_tokens from.start past) v ≡ true) × (v ≡ t) = opened (has (view_tokens from.start past) v) v u t (answered from past s (Command.open_at v) (Answer.number u) f) same in
      ap (has (view_tokens from.start past)) (sym k.1) ∙ k.0
  holds_fit s t (Command.close u) (Ok a) f h = absurd (closed (u == t) h)
  holds_fit s t _ _ f h = absurd (cc)

held_fit : (from : Opened) (past : Run) (e : Exchange) (s t : ℕ) → IsBounded from.start past
    → (o : Option Bool) → (o ≡ Some true → has (view_tokens_by (is_held past) (view_tokens from.start past) e.line.command e.reply) t ≡ true) → changed o (holds s t past) ≡ true
    → has (view_tokens_by (is_held past) (view_tokens from.start past) e.line.command e.reply) t ≡ true
held_fit from past e s t ok None o h = keeps_held (is_held past) (view_tokens from.start past) t e.line.command e.reply (ok.held s t h) (held_by_one s t past h)
held_fit from past e s t ok (Some true) o h = o refl
held_fit from past e s t ok (Some false) o h = absurd (cc)

begun : (b : Bool) (o : Option Bool) → cond b o None ≡ Some true → o ≡ Some true
begun true o h = h
begun false o h = absurd (cc)

pub IsBounded-push : (from : Opened) (past : Run) (e : Exchange) → IsBounded from.start past → Fits from past e → IsBounded from.start (past ++ e ∷ [])
IsBounded-push from past e ok f =
    let start : Start = from.start in
    let more : now start past ≤ now start (past ++ e ∷ []) = now-push start past e in
    let rs : view_tokens start (past ++ e ∷ []) ≡ view_tokens_by (is_held past) (view_tokens start past) e.line.command e.reply = records-push start past e in
    record {
      some_view = subst (λ ts. 0 < length ts) (sym rs) (keeps_some (is_held past) (view_tokens start past) e.line.command e.reply ok.some_view);
      recorded = subst (AllByRecursion (λ u. u ≤ now start (past ++ e ∷ []))) (sym rs)
          (All-weaken (λ u. u ≤ now start past) (λ u. u ≤ now start (past ++ e ∷ [])) (λ u h. omega arith) _ (records_fit from past ok e.line.session e.line.command e.reply f));
      held = λ s t h.
          let k : changed (hold_change s t e) (holds s t past) ≡ true = sym (holds-push s t past e) ∙ h in
          ap (λ ts. has ts t) rs ∙ held_fit from past e s t ok (hold_change s t e) (λ o. holds_fit from past ok e.line.session t e.line.command e.reply f (begun (e.line.session == s) (hold_by t e.line.command e.reply) o)) k;
    }

bounded_from : (from : Opened) (past run : Run) → IsBounded from.start past → FitsFrom from past run → IsBounded from.start (past ++ run)
bounded_from from past [] ok f = subst (IsBounded from.start) (sym (append-nil past)) ok
bounded_from from past (e ∷ run) ok f =
    subst (IsBounded from.start) (append_assoc past (e ∷ []) run) (bounded_from from (past ++ e ∷ []) run (IsBounded-push from past e ok f.0) f.1)

pub bounded : RunsAreBounded
bounded from run f = bounded_from from [] run (record { some_view = omega arith; recorded = (omega arith, tt); held = λ s t h. absurd (cc) }) f

-- a held token lies within the run before the read, and the writes of the run go on from those before it
pub held_low : (from : Opened) (run : Run) (t : ℕ) (asked : Read) (reply : Reply) (h : HeldRead from run t asked reply) → t ≤ now from.start h.past
held_low from run t asked reply h =
    let e : Exchange = record { line = record { session = h.session; command = Command.read t asked }; reply = reply } in
    let parts : IsRun from h.past × FitsFrom from h.past (e ∷ h.later) = FitsFrom-split from [] h.past (e ∷ h.later) (subst (IsRun from) h.split h.is_run) in
    let ok : IsBounded from.start h.past = bounded from h.past parts.0 in
    has_up_to _ t (view_tokens from.start h.past) ok.recorded (ok.held h.session t h.held)

pub held_writes : (from : Opened) (run : Run) (t : ℕ) (asked : Read) (reply : Reply) (h : HeldRead from run t asked reply)
    → writes run ≡ writes h.past ++ writes (record { line = record { session = h.session; command = Command.read t asked }; reply = reply } ∷ h.later)
held_writes from run t asked reply h = ap writes h.split ∙ filter_map-append accepted h.past _

-- the reply to a read under a held token, over the whole run
pub held_read_is_of_its_table : HeldReadIsOfItsTable
held_read_is_of_its_table from run t asked reply h =
    let start : Start = from.start in
    let e : Exchange = record { line = record { session = h.session; command = Command.read t asked }; reply = reply } in
    let parts : IsRun from h.past × FitsFrom from h.past (e ∷ h.later) = FitsFrom-split from [] h.past (e ∷ h.later) (subst (IsRun from) h.split h.is_run) in
    let same : table start (writes run) t ≡ table start (writes h.past) t =
    ap (λ ws. table start ws t) (held_writes from run t asked reply h) ∙ table-more start (writes h.past) (writes (e ∷ h.later)) t (held_low from run t asked reply h) in
    let fits : reply ≡ cond (holds h.session t h.past) (found_reply (answer start.schema (table start (writes h.past) t) asked)) (or_not_held (query_refusal asked)) =
    elim parts.1.0 [ inl a ↦ a | inr r ↦ absurd (h.undisturbed (stops_refuse from h.past h.session (Command.read t asked) reply r)) ] in
    fits
    ∙ ap (λ b. cond b (found_reply (answer start.schema (table start (writes h.past) t) asked)) (or_not_held (query_refusal asked))) h.held
    ∙ ap (λ rs. found_reply (answer start.schema rs asked)) (sym same)

-- and by the writes up to the token alone
held_reply : (from : Opened) (run : Run) (t : ℕ) (asked : Read) (reply : Reply) → HeldRead from run t asked reply
    → reply ≡ found_reply (answer from.start.schema (table from.start (writes_up_to from.start (writes run) t) t) asked)
held_reply from run t asked reply h =
    let rest : Run = record { line = record { session = h.session; command = Command.read t asked }; reply = reply } ∷ h.later in
    let ws : writes run ≡ writes h.past ++ writes rest = held_writes from run t asked reply h in
    let low : t ≤ count from.start (writes run) = omega (arith, held_low from run t asked reply h, ap length ws, length-append (writes h.past) (writes rest)) in
    held_read_is_of_its_table from run t asked reply h
    ∙ ap (λ rs. found_reply (answer from.start.schema rs asked)) (sym (table-up_to from.start (writes run) t low))

pub held_reads_agree : HeldReadsAgree
held_reads_agree one two run₁ run₂ t asked reply₁ reply₂ same agree read₁ read₂ =
    held_reply one run₁ t asked reply₁ read₁
    ∙ ap (λ ws. found_reply (answer one.start.schema (table one.start ws t) asked)) agree
    ∙ ap (λ start. found_reply (answer start.schema (table start (writes_up_to two.start (writes run₂) t) t) asked)) same
    ∙ sym (held_reply two run₂ t asked reply₂ read₂)
