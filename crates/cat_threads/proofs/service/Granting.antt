-- Rights that are granted, and writes that are made, as callers are told of them.
use Rattle.std.proofs.Common.{◌≡◌, ℕ, ◌+◌, ◌-◌, ◌≤◌, Bool, [], ◌∷◌, ◌++◌, length, List, Option, None, Some, refl, sym, ap, ◌∙◌, subst, arith}
use Rattle.std.proofs.Common.{true, false, cond, inl, inr}
use Rattle.std.proofs.lemmas.Bool.Decides.{eqb_tells}
use Rattle.std.specs.List.{find}
use Rattle.std.specs.Prelude.{IfOk, Result, Ok, Err, ◌==◌}
use Rattle.cat_base.specs.declared.refusal.Refusal.{Refusal}
use Rattle.cat_base.specs.declared.refusal.Refusal.TheVariants.{Memory}
use Rattle.cat_model.specs.Table.{table}
use Rattle.cat_model.specs.View.{Shows, View}
use Rattle.cat_model.specs.Write.{Write}
use Rattle.cat_commands.specs.cat_ledger.cat_ledger_state.cat_views.Holds.{HeldView}
use Rattle.cat_ledger_laws.specs.shape.Shapes.{Shape}
use Rattle.cat_ledger_laws.specs.shape.Ties.{ToldFiles}
use Rattle.cat_commands.specs.cat_ledger.Grants.{IsAsked, IsGrant, token_granted}
use Rattle.cat_commands.specs.cat_ledger.declared.views.Grant.{Grant}
use Rattle.cat_ledger_laws.specs.lines.ReadLaws.{IsRecordedAs}
use Rattle.cat_ledger_laws.specs.lines.RefusalLaws.{command_of}
use Rattle.cat_commands.specs.cat_search.Views.{Prepared}
use Rattle.cat_threads.specs.history.Rules.{Sight, old_of, scribe, Compared}
use Rattle.cat_threads.specs.sharing.Grounds.{Ground, Shares}
use Rattle.cat_threads.specs.sharing.Laws.{IsStill}
use Rattle.cat_threads.specs.sharing.ShareLaws.{IsOfGroundList}
use Rattle.cat_threads.specs.history.Entries.{writes_in}
use Rattle.cat_threads.proofs.sharing.Sharing.{newest_share, views_share}
use Rattle.cat_threads.specs.service.Passes.{Granted, IfNew, IsLater, Seen}
use Rattle.cat_threads.proofs.service.Passed.{seen}

granted : (told : ToldFiles) (s : Shape) (from : Ground) (sessions : List ℕ) (v : Sight) (session : ℕ) (old joined now : Sight) (before : Seen) (asked : Option ℕ) (h : HeldView)
    → Shares told s from sessions v → seen from.start.token session old ≡ before → Compared joined (old_of old) → joined.token ≡ v.token → now.list ≡ v.list
    → IsAsked s asked h.view.token → IsGrant s session (Grant.New h) → Granted from asked before (seen from.start.token session now) h
granted told s from sessions v session old joined now before asked h a is k top list named grant =
    let its = views_share told s from sessions v h.view a grant.2 in
    let newest = (newest_share told s from sessions v a).0 in
    let below = k.below in
    subst (λ (u : Seen). Granted from asked u (seen from.start.token session now) h) is record {
      own = grant.0;
      fields = its.fields;
      low = its.low;
      upto = subst (λ l. h.view.token ≤ from.start.token + length l) (sym list) its.upto;
      table_is = λ start on. subst (λ l. Shows h.view (table start (writes_in l) h.view.token)) (sym list) (its.table_is start on);
      later = go asked named (λ (same : h.view.token ≡ Rattle.cat_model.specs.Run.greatest (Rattle.cat_ledger_laws.specs.shape.Steps.tokens_of s.views)). omega arith);
    }
  where
    go : (asked : Option ℕ) → IsAsked s asked h.view.token
        → (h.view.token ≡ Rattle.cat_model.specs.Run.greatest (Rattle.cat_ledger_laws.specs.shape.Steps.tokens_of s.views) → from.start.token + old.token ≤ h.view.token)
        → IsLater asked (from.start.token + old.token) h.view.token
    go None e f = f e
    go (Some x) e f = e.0

pub granted_all : (told : ToldFiles) (s : Shape) (from : Ground) (sessions : List ℕ) (v : Sight) (session : ℕ) (old joined now : Sight) (before : Seen) (asked : Option ℕ) (r : Result Grant Refusal)
    → Shares told s from sessions v → seen from.start.token session old ≡ before → Compared joined (old_of old) → joined.token ≡ v.token → now.list ≡ v.list
    → IfOk r (λ g. IsAsked s asked (token_granted g)) → IfOk r (IsGrant s session) → IfOk r (λ g. IfNew g (λ h. Granted from asked before (seen from.start.token session now) h))
granted_all told s from sessions v session old joined now before asked (Ok (Grant.New h)) a is k top list named grant = granted told s from sessions v session old joined now before asked h a is k top list named grant
granted_all told s from sessions v session old joined now before asked (Ok (Grant.Already t)) a is k top list named grant = tt
granted_all told s from sessions v session old joined now before asked (Err e) a is k top list named grant = named

equals : (a b : ℕ) → (a == b) ≡ true → a ≡ b
equals a b h = elim (eqb_tells a b) [ inl e ↦ e.1 | inr e ↦ absurd (let no : false ≡ true = sym e.0 ∙ h in cc) ]

-- the view that is recorded under a token has it
recorded_token : (views : List View) (t : ℕ) (view : View) → find (λ (v : View). v.token == t) views ≡ Some view → view.token ≡ t
recorded_token [] t view e = absurd (cc e)
recorded_token (v ∷ vs) t view e = by (v.token == t) refl (recorded_token vs t view) e
  where
    same : (x y : View) → Some x ≡ Some y → x ≡ y
    same x y e = cc

    by : (b : Bool) → (v.token == t) ≡ b → (find (λ (x : View). x.token == t) vs ≡ Some view → view.token ≡ t)
        → cond b (Some v) (find (λ (x : View). x.token == t) vs) ≡ Some view → view.token ≡ t
    by true is more e = sym (ap (λ (x : View). x.token) (same v view e)) ∙ equals v.token t is
    by false is more e = more e

-- a query that is made ready is put to a view of the list
pub prepared_all : (told : ToldFiles) (s : Shape) (from : Ground) (sessions : List ℕ) (v now : Sight) (t : ℕ) (r : Result Prepared Refusal)
    → Shares told s from sessions v → now.list ≡ v.list → IfOk r (λ p. IsRecordedAs s.views t p.view)
    → IfOk r (λ p. (p.view.token ≡ t) × IsOfGroundList from now.list p.view)
prepared_all told s from sessions v now t (Ok p) a list named =
    let is = recorded_token s.views t p.view named in (
      is,
      subst (λ l. IsOfGroundList from l p.view) (sym list) (views_share told s from sessions v p.view a (subst (λ n. IsRecordedAs s.views n p.view) (sym is) named)),
    )
prepared_all told s from sessions v now t (Err e) a list named = named

-- a write that was refused is still
pub refused_still : (w : Write) → IsStill (command_of w) (Err Memory)
refused_still w fitting e = subst (λ r. (Rattle.cat_model.specs.Run.accepted_by (command_of w) r ≡ None) × ((held : ℕ → Bool) (ts : List ℕ) → Rattle.cat_model.specs.Run.view_tokens_by held ts (command_of w) r ≡ ts)) e (by w)
  where
    by : (w : Write) → (Rattle.cat_model.specs.Run.accepted_by (command_of w) (Err Memory) ≡ None) × ((held : ℕ → Bool) (ts : List ℕ) → Rattle.cat_model.specs.Run.view_tokens_by held ts (command_of w) (Err Memory) ≡ ts)
    by (Write.put i) = (refl, λ held ts. refl)
    by (Write.delete id) = (refl, λ held ts. refl)
    by (Write.delete_where q) = (refl, λ held ts. refl)

-- the pass as it was joined and came apart is the scribe's again
pub apart_again : (v joined now : Sight) (sessions own : List ℕ) → v ≡ scribe v.list v.token sessions [] → joined ≡ scribe v.list v.token v.seated own
    → now ≡ scribe joined.list joined.token joined.seated [] → now ≡ scribe v.list v.token sessions []
apart_again v joined now sessions own whole j p =
    p ∙ ap (λ (u : Sight). scribe u.list u.token u.seated []) j ∙ ap (λ (s : List ℕ). scribe v.list v.token s []) (ap (λ (u : Sight). u.seated) whole)

-- the same where it got a write, or a new token, in between
pub apart_noted : (v joined noted now : Sight) (sessions own : List ℕ) (e : Rattle.cat_threads.specs.history.Entries.LogEntry) → v ≡ scribe v.list v.token sessions [] → joined ≡ scribe v.list v.token v.seated own
    → noted ≡ Rattle.cat_threads.specs.history.Rules.noted e joined → now ≡ scribe noted.list noted.token noted.seated [] → now ≡ scribe (v.list ++ e ∷ []) v.token sessions []
apart_noted v joined noted now sessions own e whole j n p =
    p ∙ ap (λ (u : Sight). scribe u.list u.token u.seated []) n ∙ ap (λ (u : Sight). scribe (u.list ++ e ∷ []) u.token u.seated []) j
    ∙ ap (λ (s : List ℕ). scribe (v.list ++ e ∷ []) v.token s []) (ap (λ (u : Sight). u.seated) whole)

pub apart_recorded : (v joined recorded now : Sight) (sessions own : List ℕ) (t : ℕ) → v ≡ scribe v.list v.token sessions [] → joined ≡ scribe v.list v.token v.seated own
    → recorded ≡ Rattle.cat_threads.specs.history.Rules.recorded t joined → now ≡ scribe recorded.list recorded.token recorded.seated [] → now ≡ scribe v.list t sessions []
apart_recorded v joined recorded now sessions own t whole j n p =
    p ∙ ap (λ (u : Sight). scribe u.list u.token u.seated []) n ∙ ap (λ (u : Sight). scribe u.list t u.seated []) j
    ∙ ap (λ (s : List ℕ). scribe v.list t s []) (ap (λ (u : Sight). u.seated) whole)
