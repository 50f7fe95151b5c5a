-- How one list of accepted writes agrees with a ledger, call by call.
use Rattle.std.proofs.Common.{◌≡◌, ℕ, ◌+◌, ◌-◌, ◌≤◌, ◌<◌, max, List, [], ◌∷◌, ◌++◌, length, map, Bool, true, false, cond, ltb, ◌||◌, Option, Some, None, refl, sym, ◌∙◌, ap, subst, arith, length-append, append-nil, inl, inr}
use Rattle.std.specs.Prelude.{Ok, Err, ◌==◌, option_map}
use Rattle.std.specs.List.{find, list_any, filter_map, cons_option, AllByRecursion}
use Rattle.std.proofs.lemmas.Bool.Decides.{nat_tests, eqb_tells}
use Rattle.std.proofs.lemmas.List.{map-append}
use Rattle.cat_model.specs.Item.{Record}
use Rattle.cat_model.specs.Limits.{view_limit}
use Rattle.cat_model.specs.Table.{Opened, Start, count, table}
use Rattle.cat_model.specs.Run.{Command, Answer, Exchange, Reply, Run, Fits, IsRun, accepted, accepted_by, greatest, has, is_held, now, pruned, view_tokens, view_tokens_by, with_view, without_least_free, writes}
use Rattle.cat_model.specs.State.{RecordedTable, State, table_recorded, tokens}
use Rattle.cat_model.specs.View.{View, Shows}
use Rattle.cat_model.specs.Write.{Write}
use Rattle.cat_model.proofs.Lists.{All-kept, All-both, All-weaken, list_any-append}
use Rattle.cat_model.proofs.Runs.{bounded, greatest_up_to, or_true, pruned_has, records-push, records_fit, runs_go_on, writes-push}
use Rattle.cat_model.proofs.States.{tokens-views}
use Rattle.cat_ledger_laws.specs.model.Ledger.{Ledger, RecordedView, state_of, view_shown}
use Rattle.cat_ledger_laws.specs.model.Plans.{MergePolicy}
use Rattle.cat_ledger_laws.specs.model.Portions.{records_of}
use Rattle.cat_ledger_laws.proofs.model.Shown.{rows-shown}
use Rattle.cat_ledger_laws.specs.shape.Shapes.{Shape, recorded_view, shape_of}
use Rattle.cat_ledger_laws.specs.shape.Steps.{tokens_of}
use Rattle.cat_ledger_laws.specs.shape.Ties.{ToldFiles}
use Rattle.cat_ledger_laws.proofs.shape.Leaves.{length_map, map_twice}
use Rattle.cat_ledger_laws.specs.lines.LineLaws.{line_of, tells}
use Rattle.cat_ledger_laws.specs.lines.ReadLaws.{IsRecordedAs}
use Rattle.cat_ledger_laws.specs.lines.RefusalLaws.{command_of}
use Rattle.cat_ledger_laws.specs.lines.RunLaws.{AnswersCarried, AreAlike, Stands}
use Rattle.cat_ledger_laws.proofs.lines.Answered.{answers_are_steps}
use Rattle.cat_ledger_laws.proofs.lines.Found.{find_map, found_in, holds_found}
use Rattle.cat_ledger_laws.proofs.lines.KeptCalls.{schema_stays}
use Rattle.cat_threads.specs.history.Entries.{LogEntry, entry, writes_in}
use Rattle.cat_threads.specs.history.Rules.{Sight, scribe}
use Rattle.cat_threads.specs.sharing.Agrees.{Agrees}
use Rattle.cat_threads.specs.sharing.Laws.{CountsAgree, FreshAgree, IsOfList, IsStill, NewestAgree, NotedAgree, PrunedAgree, RefreshAgrees, StillAgree, ViewsAgree}

-- ---- tokens

has_below : (ts : List ℕ) (t : ℕ) → has ts t ≡ true → t ≤ greatest ts
has_below [] t h = absurd (cc)
has_below (u ∷ ts) t h = elim (eqb_tells u t) [
  | inl e ↦ (let is : u ≡ t = e.1 in omega arith)
  | inr e ↦ (let rest : has ts t ≡ true = rw e.0 at h in let k = has_below ts t rest in omega arith)
]

-- where a token is there and none is greater, it is the greatest
is_greatest : (ts : List ℕ) (t : ℕ) → has ts t ≡ true → AllByRecursion (λ u. u ≤ t) ts → greatest ts ≡ t
is_greatest ts t h a = let low = has_below ts t h in let high = greatest_up_to t ts a in omega arith

has_last : (ts : List ℕ) (t : ℕ) → has (ts ++ t ∷ []) t ≡ true
has_last ts t = list_any-append (λ u. u == t) ts (t ∷ []) ∙ (let one : has (t ∷ []) t ≡ true = grind (arith, nat_tests) in ap (λ b. has ts t || b) one ∙ or_true (has ts t))

-- the new token is among the views'
with_has : (held : ℕ → Bool) (ts : List ℕ) (t : ℕ) → has (with_view held ts t) t ≡ true
with_has held ts t = by (has ts t) refl
  where
    by : (b : Bool) → has ts t ≡ b → has (cond b ts (cond (ltb (length ts) view_limit) ts (without_least_free held ts) ++ t ∷ [])) t ≡ true
    by true e = e
    by false e = has_last (cond (ltb (length ts) view_limit) ts (without_least_free held ts)) t

-- what holds of all views and of the new one
with_all : (P : ℕ → Type 0) (held : ℕ → Bool) (ts : List ℕ) (t : ℕ) → P t → AllByRecursion P ts → AllByRecursion P (with_view held ts t)
with_all P held ts t p a = by (has ts t) (ltb (length ts) view_limit)
  where
    by : (b c : Bool) → AllByRecursion P (cond b ts (cond c ts (without_least_free held ts) ++ t ∷ []))
    by true c = a
    by false true = All-both P ts (t ∷ []) a (p, tt)
    by false false = All-both P (without_least_free held ts) (t ∷ []) (All-kept P _ ts a) (p, tt)

greatest_over : (ts : List ℕ) → AllByRecursion (λ u. u ≤ greatest ts) ts
greatest_over [] = tt
greatest_over (t ∷ ts) = (omega arith, All-weaken (λ u. u ≤ greatest ts) (λ u. u ≤ max t (greatest ts)) (λ u h. omega arith) ts (greatest_over ts))

-- ---- what stands

module _ (told : ToldFiles) (s : Shape) (from : Opened) (run : Run) (st : Stands told s from run) where
  counted : s.count ≡ now from.start run
  counted = ap (λ (x : Shape). x.count) (sym st.carries.shape) ∙ st.stands.shows.count_now

  tokens_now : tokens_of s.views ≡ view_tokens from.start run
  tokens_now =
      ap (λ (x : Shape). tokens_of x.views) (sym st.carries.shape)
      ∙ map_twice (recorded_view st.ledger.schema) (λ (v : View). v.token) st.ledger.views
      ∙ sym (map_twice view_shown (λ (v : RecordedTable). v.token) st.ledger.views)
      ∙ ap tokens st.stands.shows.views_now
      ∙ tokens-views from.start run (view_tokens from.start run)

  -- the view of a token: its table is the run's, and what holds of all tokens holds of it
  viewed : (P : ℕ → Type 0) → AllByRecursion P (view_tokens from.start run) → (view : View) → IsRecordedAs s.views view.token view
      → P view.token × Shows view (table from.start (writes run) view.token)
  viewed P all view is =
      let t = view.token in
      let l = st.ledger in
      let x = found_in (recorded_view l.schema) (λ (v : View). v.token == t) l.views view (ap (λ (y : Shape). find (λ (v : View). v.token == t) y.views) st.carries.shape ∙ is) in
      let own : RecordedView = x.0 in
      let seen : recorded_view l.schema own ≡ view = x.1 in
      let named : own.token ≡ t = ap (λ (v : View). v.token) seen in
      let shown : find (λ (v : RecordedTable). v.token == t) (map view_shown l.views) ≡ Some (view_shown own) =
      find_map view_shown (λ (v : RecordedTable). v.token == t) l.views ∙ ap (option_map view_shown) x.2 in
      let y = found_in (table_recorded from.start run) (λ (v : RecordedTable). v.token == t) (view_tokens from.start run) (view_shown own)
      (ap (find (λ (v : RecordedTable). v.token == t)) (sym st.stands.shows.views_now) ∙ shown) in
      let u : ℕ = y.0 in
      let same : table_recorded from.start run u ≡ view_shown own = y.1 in
      let at : u ≡ t = ap (λ (v : RecordedTable). v.token) same ∙ named in
      let rows : records_of own.portions ≡ table from.start (writes run) t = sym (ap (λ (v : RecordedTable). v.table) same) ∙ ap (table from.start (writes run)) at in (
        subst P at (holds_found P (λ (u : ℕ). u == t) (view_tokens from.start run) u all y.2),
        subst (λ v. Shows v (table from.start (writes run) t)) seen (subst (λ rs. Shows (recorded_view l.schema own) rs) rows (rows-shown l.schema own.portions)),
      )

  -- and its fields are the ledger's
  fielded : (view : View) → IsRecordedAs s.views view.token view → view.schema ≡ s.schema
  fielded view is =
      let t = view.token in
      let l = st.ledger in
      let x = found_in (recorded_view l.schema) (λ (v : View). v.token == t) l.views view (ap (λ (y : Shape). find (λ (v : View). v.token == t) y.views) st.carries.shape ∙ is) in
      sym (ap (λ (v : View). v.schema) x.1) ∙ ap (λ (y : Shape). y.schema) st.carries.shape

-- ---- one more exchange

record GoesOn (told' : ToldFiles) (new : Shape) (from : Opened) (run : Run) (e : Exchange) : Type 0 where
  fit : Fits from run e
  is_run : IsRun from (run ++ e ∷ [])
  stands : Stands told' new from (run ++ e ∷ [])
  fields : from.start.schema ≡ new.schema

goes_on : (policy : MergePolicy) (told told' : ToldFiles) (s new : Shape) (from : Opened) (sessions : List ℕ) (v : Sight) (session : ℕ) (c : Command) (r : Reply)
    → (a : Agrees told s from sessions v) → AnswersCarried policy told s (line_of session c) r told' new
    → (fitting : Reply) × AreAlike r fitting × GoesOn told' new from a.run (record { line = line_of session c; reply = fitting })
goes_on policy told told' s new from sessions v session c r a answers =
    let step = answers_are_steps policy told told' s new (line_of session c) r answers from a.run a.fields a.fits a.stands in (
      step.0,
      step.1.alike,
      record {
        fit = step.2;
        is_run = runs_go_on from a.run (record { line = line_of session c; reply = step.0 }) a.fits step.2;
        stands = step.3;
        fields = a.fields ∙ sym (schema_stays policy told told' s new (line_of session c) r a.stands.ledger a.stands.files a.stands.carries answers);
      },
    )

-- where the reply is a number, it is the one that fits
goes_on_told : (policy : MergePolicy) (told told' : ToldFiles) (s new : Shape) (from : Opened) (sessions : List ℕ) (v : Sight) (session : ℕ) (c : Command) (n : ℕ)
    → (a : Agrees told s from sessions v) → AnswersCarried policy told s (line_of session c) (tells n) told' new
    → GoesOn told' new from a.run (record { line = line_of session c; reply = tells n })
goes_on_told policy told told' s new from sessions v session c n a answers =
    let k = goes_on policy told told' s new from sessions v session c (tells n) a answers in
    subst (λ r. GoesOn told' new from a.run (record { line = line_of session c; reply = r })) (sym k.1) k.2

length_writes : (list : List LogEntry) → length (writes_in list) ≡ length list
length_writes list = length_map (λ (e : LogEntry). e.write) list

-- ---- the laws

pub fresh_agree : FreshAgree
fresh_agree told s from sessions v fields stands is =
    let list : v.list ≡ [] = ap (λ (x : Sight). x.list) is in
    let token : v.token ≡ 0 = ap (λ (x : Sight). x.token) is in
    record {
      whole = is ∙ (λ i. scribe (sym list i) (sym token i) sessions []);
      run = [];
      fits = tt;
      fields = fields;
      stands = stands;
      written = ap writes_in (sym list);
      newest = omega (arith, token);
      lowest = (omega arith, tt);
    }

pub counts_agree : CountsAgree
counts_agree told s from sessions v a =
    counted told s from a.run a.stands ∙ ap (λ ws. from.start.token + length ws) a.written ∙ ap (λ n. from.start.token + n) (length_writes v.list)

pub newest_agree : NewestAgree
newest_agree told s from sessions v a =
    let is : greatest (tokens_of s.views) ≡ from.start.token + v.token = ap greatest (tokens_now told s from a.run a.stands) ∙ a.newest in
    let most : greatest (view_tokens from.start a.run) ≤ now from.start a.run = greatest_up_to (now from.start a.run) (view_tokens from.start a.run) (bounded from a.run a.fits).recorded in
    let all = counts_agree told s from sessions v a in
    let here = counted told s from a.run a.stands in
    let top = a.newest in
    (is, omega arith)

pub views_agree : ViewsAgree
views_agree told s from sessions v view a is =
    let low = viewed told s from a.run a.stands (λ t. from.start.token ≤ t) a.lowest view is in
    let high = viewed told s from a.run a.stands (λ t. t ≤ now from.start a.run) (bounded from a.run a.fits).recorded view is in
    let here = counted told s from a.run a.stands in
    let all = counts_agree told s from sessions v a in
    let most = high.0 in
    record {
      fields = fielded told s from a.run a.stands view is ∙ sym a.fields;
      low = low.0;
      upto = omega arith;
      table = subst (λ ws. Shows view (table from.start ws view.token)) a.written low.1;
    }

accepts : (w : Write) (n : ℕ) → accepted_by (command_of w) (tells n) ≡ Some w
accepts (Write.put i) n = refl
accepts (Write.delete id) n = refl
accepts (Write.delete_where q) n = refl

views_left : (w : Write) (n : ℕ) (held : ℕ → Bool) (ts : List ℕ) → view_tokens_by held ts (command_of w) (tells n) ≡ ts
views_left (Write.put i) n held ts = refl
views_left (Write.delete id) n held ts = refl
views_left (Write.delete_where q) n held ts = refl

pub noted_agree : NotedAgree
noted_agree policy told told' s new from sessions v w session n write a answers is =
    let c = command_of write in
    let k = goes_on_told policy told told' s new from sessions v session c n a answers in
    let e : Exchange = record { line = line_of session c; reply = tells n } in
    let list : w.list ≡ v.list ++ entry session write ∷ [] = ap (λ (x : Sight). x.list) is in
    let token : w.token ≡ v.token = ap (λ (x : Sight). x.token) is in
    let views : view_tokens from.start (a.run ++ e ∷ []) ≡ view_tokens from.start a.run = records-push from.start a.run e ∙ views_left write n (is_held a.run) (view_tokens from.start a.run) in
    record {
      whole = is ∙ (λ i. scribe (sym list i) (sym token i) sessions []);
      run = a.run ++ e ∷ [];
      fits = k.is_run;
      fields = k.fields;
      stands = k.stands;
      written =
          writes-push a.run e ∙ ap (λ o. writes a.run ++ cons_option o []) (accepts write n) ∙ ap (λ ws. ws ++ write ∷ []) a.written
          ∙ sym (map-append (λ (x : LogEntry). x.write) v.list (entry session write ∷ [])) ∙ ap writes_in (sym list);
      newest = ap greatest views ∙ a.newest ∙ ap (λ t. from.start.token + t) (sym token);
      lowest = subst (AllByRecursion (λ t. from.start.token ≤ t)) (sym views) a.lowest;
    }

pub recorded_agree : RefreshAgrees
recorded_agree policy told told' s new from sessions v w session n a all answers is =
    let k = goes_on_told policy told told' s new from sessions v session Command.refresh n a answers in
    let e : Exchange = record { line = line_of session Command.refresh; reply = tells n } in
    let list : w.list ≡ v.list = ap (λ (x : Sight). x.list) is in
    let token : w.token ≡ n - from.start.token = ap (λ (x : Sight). x.token) is in
    let old = view_tokens from.start a.run in
    let held = is_held a.run in
    let views : view_tokens from.start (a.run ++ e ∷ []) ≡ with_view held old n = records-push from.start a.run e in
    let here : n ≡ now from.start a.run = all ∙ counted told s from a.run a.stands in
    let long = counts_agree told s from sessions v a in
    let most : AllByRecursion (λ u. u ≤ n) (with_view held old n) =
    with_all (λ u. u ≤ n) held old n (omega arith) (subst (λ m. AllByRecursion (λ u. u ≤ m) old) (sym here) (bounded from a.run a.fits).recorded) in
    let top : greatest (view_tokens from.start (a.run ++ e ∷ [])) ≡ n = ap greatest views ∙ is_greatest (with_view held old n) n (with_has held old n) most in
    record {
      whole = is ∙ (λ i. scribe (sym list i) (sym token i) sessions []);
      run = a.run ++ e ∷ [];
      fits = k.is_run;
      fields = k.fields;
      stands = k.stands;
      written = writes-push a.run e ∙ append-nil (writes a.run) ∙ a.written ∙ ap writes_in (sym list);
      newest = top ∙ omega arith;
      lowest = subst (AllByRecursion (λ t. from.start.token ≤ t)) (sym views) (with_all (λ t. from.start.token ≤ t) held old n (omega arith) a.lowest);
    }

-- an exchange that has no write, and leaves the newest token, and the lowest
left_agree : (told' : ToldFiles) (new : Shape) (from : Opened) (sessions : List ℕ) (v w : Sight) (run : Run) (e : Exchange)
    → writes run ≡ writes_in v.list → greatest (view_tokens from.start run) ≡ from.start.token + v.token → GoesOn told' new from run e → accepted e ≡ None
    → greatest (view_tokens from.start (run ++ e ∷ [])) ≡ greatest (view_tokens from.start run)
    → AllByRecursion (λ t. from.start.token ≤ t) (view_tokens from.start (run ++ e ∷ []))
    → w ≡ scribe v.list v.token sessions [] → Agrees told' new from sessions w
left_agree told' new from sessions v w run e written newest k none top low is =
    let list : w.list ≡ v.list = ap (λ (x : Sight). x.list) is in
    let token : w.token ≡ v.token = ap (λ (x : Sight). x.token) is in
    record {
      whole = is ∙ (λ i. scribe (sym list i) (sym token i) sessions []);
      run = run ++ e ∷ [];
      fits = k.is_run;
      fields = k.fields;
      stands = k.stands;
      written = writes-push run e ∙ ap (λ o. writes run ++ cons_option o []) none ∙ append-nil (writes run) ∙ written ∙ ap writes_in (sym list);
      newest = top ∙ newest ∙ ap (λ t. from.start.token + t) (sym token);
      lowest = low;
    }

pub pruned_agree : PrunedAgree
pruned_agree policy told told' s new from sessions v w session n r a answers is =
    let k = goes_on policy told told' s new from sessions v session (Command.prune n) r a answers in
    let e : Exchange = record { line = line_of session (Command.prune n); reply = k.0 } in
    let old = view_tokens from.start a.run in
    let views : view_tokens from.start (a.run ++ e ∷ []) ≡ view_tokens_by (is_held a.run) old (Command.prune n) k.0 = records-push from.start a.run e in
    let kept = left (is_held a.run) n old k.0 (bounded from a.run a.fits).some_view a.lowest in
    left_agree told' new from sessions v w a.run e a.written a.newest k.2 (none k.0)
    (ap greatest views ∙ kept.0) (subst (AllByRecursion (λ t. from.start.token ≤ t)) (sym views) kept.1) is
  where
    none : (r : Reply) → accepted_by (Command.prune n) r ≡ None
    none (Ok x) = refl
    none (Err x) = refl

    left : (held : ℕ → Bool) (n : ℕ) (ts : List ℕ) (r : Reply) → 0 < length ts → AllByRecursion (λ t. from.start.token ≤ t) ts
        → (greatest (view_tokens_by held ts (Command.prune n) r) ≡ greatest ts) × AllByRecursion (λ t. from.start.token ≤ t) (view_tokens_by held ts (Command.prune n) r)
    left held n ts (Ok x) some low = (
      is_greatest (pruned held n ts) (greatest ts) (pruned_has held n ts some) (All-kept (λ u. u ≤ greatest ts) _ ts (greatest_over ts)),
      All-kept (λ t. from.start.token ≤ t) _ ts low,
    )
    left held n ts (Err x) some low = (refl, low)

pub still_agree : StillAgree
still_agree policy told told' s new from sessions v w session c r a still answers is =
    let k = goes_on policy told told' s new from sessions v session c r a answers in
    let e : Exchange = record { line = line_of session c; reply = k.0 } in
    let h = still k.0 k.1 in
    let views : view_tokens from.start (a.run ++ e ∷ []) ≡ view_tokens from.start a.run = records-push from.start a.run e ∙ h.1 (is_held a.run) (view_tokens from.start a.run) in
    left_agree told' new from sessions v w a.run e a.written a.newest k.2 h.0 (ap greatest views)
    (subst (AllByRecursion (λ t. from.start.token ≤ t)) (sym views) a.lowest) is
