-- What a session's rights are to, as the one list grows, and as rights come and go.
use Rattle.std.proofs.Common.{◌≡◌, ◌∙◌, ℕ, ◌+◌, ◌≤◌, ◌==◌, ◌&&◌, Bool, true, false, List, ◌++◌, length, Option, None, Some, ap, sym, subst, refl, arith, length-append}
use Rattle.std.specs.Prelude.{cond}
use mathlib.Core.List.{IsPrefix}
use Rattle.std.proofs.lemmas.List.{map-append, length-map}
use Rattle.cat_model.proofs.UpTo.{table-more}
use Rattle.cat_model.specs.Item.{Record}
use Rattle.cat_model.specs.Table.{Start, table, count}
use Rattle.cat_model.specs.View.{Shows, View}
use Rattle.cat_threads.specs.cat_commands.cat_cached_sets.cat_views.Holds.{HeldView}
use Rattle.cat_threads.specs.cat_commands.cat_ledger.cat_lifetimes.rights.Rights.{PutsIn, TakesOut, is_of, right_of}
use Rattle.cat_threads.specs.history.Entries.{LogEntry, writes_in}
use Rattle.cat_threads.specs.service.Passes.{Follows, Granted, Seen}
use Rattle.cat_threads.specs.sharing.Grounds.{Ground, IsOn}
use Rattle.cat_threads.specs.sharing.ShareLaws.{IsOfGroundList}
use Rattle.cat_callers.specs.Sessions.{AreRightsTo, IsRightTo, ShowsSeen}

-- writes that come later change nothing of the table
table_stays : (from : Ground) (start : Start) (xs ys : List LogEntry) (t : ℕ) → IsOn from start → IsPrefix xs ys → t ≤ from.start.token + length xs
    → table start (writes_in ys) t ≡ table start (writes_in xs) t
table_stays from start xs ys t on p le =
    let more : writes_in ys ≡ writes_in xs ++ writes_in p.0 = ap writes_in (sym p.1) ∙ map-append (λ (e : LogEntry). e.write) xs p.0 in
    let long : t ≤ count start (writes_in xs) = omega (arith, on.token, length-map xs (λ (e : LogEntry). e.write)) in
    ap (λ ws. table start ws t) more ∙ table-more start (writes_in xs) (writes_in p.0) t long

longer : (xs ys : List LogEntry) → IsPrefix xs ys → length xs ≤ length ys
longer xs ys p = omega (arith, sym (ap length p.1) ∙ length-append xs p.0)

right_stays : (from : Ground) (v w : Seen) (t : ℕ) (h : HeldView) → Follows v w → IsRightTo from v t h → IsRightTo from w t h
right_stays from v w t h f r =
    let le = longer v.list w.list f.longer in
    record {
      token = r.token;
      fields = r.fields;
      low = r.low;
      upto = (let up = r.upto in omega arith);
      table_is = λ start on. subst (λ (rs : List Record). Shows h.view rs) (sym (table_stays from start v.list w.list t on f.longer r.upto)) (r.table_is start on);
    }

pub rights_stay : (from : Ground) (v w : Seen) (rights : List HeldView) → Follows v w → AreRightsTo from v rights → AreRightsTo from w rights
rights_stay from v w rights f a t h e =
    right_stays from v w t h f (a t h (subst (λ (s : ℕ). right_of rights s t ≡ Some h) f.same e))

-- a right that is granted
pub granted_is : (from : Ground) (asked : Option ℕ) (v w : Seen) (h : HeldView) → Granted from asked v w h → IsRightTo from w h.view.token h
granted_is from asked v w h g = record { token = refl; fields = g.fields; low = g.low; upto = g.upto; table_is = g.table_is }

-- A view of the service that was given later shows the table of what was seen before, at a token that was seen before.
pub shown_before : (from : Ground) (v w : Seen) (t : ℕ) (h : HeldView) (view : View) → Follows v w → IsRightTo from v t h → view.token ≡ t
    → IsOfGroundList from w.list view → ShowsSeen from v t view
shown_before from v w t h view f r token is =
    record {
      fields = is.fields;
      table_is = λ start on. subst (λ (rs : List Record). Shows view rs) (table_stays from start v.list w.list t on f.longer r.upto)
          (subst (λ (n : ℕ). Shows view (table start (writes_in w.list) n)) token (is.table_is start on));
    }

-- so does the view that the session has the right to
pub shown_held : (from : Ground) (v : Seen) (t : ℕ) (h : HeldView) → IsRightTo from v t h → ShowsSeen from v t h.view
shown_held from v t h r = record { fields = r.fields; table_is = r.table_is }

-- a right that the session has, by the token of its view
pub right_named : (from : Ground) (v : Seen) (rights : List HeldView) (t : ℕ) (h : HeldView) → AreRightsTo from v rights → right_of rights v.session t ≡ Some h
    → IsRightTo from v h.view.token h
right_named from v rights t h a is = subst (λ (u : ℕ). IsRightTo from v u h) (sym (a t h is).token) (a t h is)

same_some : (g h : HeldView) → Some g ≡ Some h → g ≡ h
same_some g h e = cc e

-- a right comes
pub rights_put : (from : Ground) (v : Seen) (h : HeldView) (old new : List HeldView) → AreRightsTo from v old → PutsIn h old new
    → IsRightTo from v h.view.token h → AreRightsTo from v new
rights_put from v h old new a puts mine t g e = go (is_of v.session t h) refl
  where
    go : (b : Bool) → is_of v.session t h ≡ b → IsRightTo from v t g
    go true is =
        let same : h ≡ g = same_some h g (sym (ap (λ c. cond c (Some h) (right_of old v.session t)) is) ∙ sym (puts v.session t) ∙ e) in
        let named : h.view.token ≡ t = grind (arith, is) in
        subst (λ (k : HeldView). IsRightTo from v t k) same (subst (λ n. IsRightTo from v n h) named mine)
    go false is = a t g (sym (ap (λ c. cond c (Some h) (right_of old v.session t)) is) ∙ sym (puts v.session t) ∙ e)

some_is_not_none : (h : HeldView) {A : Type 0} → None ≡ Some h → A
some_is_not_none h e = absurd (cc e)

-- a right goes
pub rights_taken : (from : Ground) (v : Seen) (s t : ℕ) (old new : List HeldView) → AreRightsTo from v old → TakesOut s t old new → AreRightsTo from v new
rights_taken from v s t old new a takes u g e = go ((s == v.session) && (t == u)) refl
  where
    go : (b : Bool) → ((s == v.session) && (t == u)) ≡ b → IsRightTo from v u g
    go true is = some_is_not_none g (sym (ap (λ c. cond c None (right_of old v.session u)) is) ∙ sym (takes v.session u) ∙ e)
    go false is = a u g (sym (ap (λ c. cond c None (right_of old v.session u)) is) ∙ sym (takes v.session u) ∙ e)
