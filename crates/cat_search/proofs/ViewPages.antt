-- The page that a pass over segments puts together is the page over the view's bare_record rows.
use Rattle.std.proofs.Common.{◌≡◌, ℕ, ◌<◌, ◌≤◌, Bool, cond, false, List, length, map, filter, take, AllPairs, true, Option, Some, None, option_map, find, ◌==◌, Result, Ok, Err, IfErr, refl, sym, ap, ◌∙◌, subst}
use Rattle.std.specs.Prelude.{IsErr, IsErrAnd}
use Rattle.std.specs.List.{flat_map}
use Rattle.std.proofs.lemmas.Bool.{le-ltb}
use Rattle.std.proofs.lemmas.List.{length-map}
use Rattle.cat_base.specs.declared.refusal.Refusal.{Refusal}
use Rattle.cat_base.specs.declared.refusal.Refusal.TheVariants.{Mark}
use Rattle.cat_model.specs.Answer.{Found, answer, can_sort, has_mark}
use Rattle.cat_model.specs.Item.{Record, Schema}
use Rattle.cat_model.specs.Limits.{page_limit}
use Rattle.cat_model.specs.Page.{Sort, Entry, hits, page_of}
use Rattle.cat_model.specs.Query.{Query, matches}
use Rattle.cat_model.specs.Ranks.{sorted}
use Rattle.cat_model.specs.View.{Row, Leaf, View, IsView, Shows, live_rows, rows_in, row_matches}
use Rattle.cat_model.proofs.Places.{each_pair, all_pairs}
use Rattle.cat_search.specs.declared.ask.Ask.{Ask}
use Rattle.cat_search.specs.declared.ask.Wanted.{Wanted}
use Rattle.cat_search.specs.declared.sort.Order.{Order}
use Rattle.cat_search.specs.declared.sort.Order.TheVariants as order
use Rattle.cat_search.specs.Standings.{HitStanding, standing_before, entry_shown}
use Rattle.cat_search.specs.Asks.{first_shown, read_of}
use Rattle.cat_search.specs.Candidates.{mark_standing}
use Rattle.cat_search.specs.Pages.{behind}
use Rattle.cat_search.specs.Sorts.{IsOrderOf, sort_in, sort_of}
use Rattle.cat_search.specs.Views.{IsWantedOf}
use Rattle.cat_search.specs.Rows.{bare_record, hits_in, mark_in_rows, row_standing}
use Rattle.cat_search.proofs.Defined.{answered_by, named_standing, named_mark, filter-map, map_map, each_pair-map}
use Rattle.cat_views.proofs.Selected.{Pairs-pieces}
use Rattle.cat_search.proofs.Marks.{find-map}
use Rattle.cat_search.proofs.Shown.{answers_shown}

-- the numbers of live rows rise
pub live_rise : (view : View) → IsView view → (ls : List Leaf) → ls ≡ view.leaves → AllPairs (λ a b. a.number < b.number) (flat_map live_rows ls)
live_rise view v ls same =
    subst (λ ks. AllPairs (λ a b. a.number < b.number) (flat_map live_rows ks)) (sym same)
    (all_pairs (λ a b. a.number < b.number) (rows_in view) (Pairs-pieces (λ l. l.live) (λ l. l.segment.rows) (λ a b. a.number < b.number) view.leaves (each_pair (λ a b. a.number < b.number) (flat_map (λ l. l.segment.rows) view.leaves) v.rising)))

module _ (view : View) (s : Sort) (o : Order) (is : IsOrderOf view.schema s o) where
  standing-is : (row : Row) → row_standing o row ≡ named_standing s (bare_record row)
  standing-is row = by_order o ∙ ap (λ t. named_standing t (bare_record row)) is.sort
    where
      by_order : (w : Order) → row_standing w row ≡ named_standing (sort_in w) (bare_record row)
      by_order order.Added = refl
      by_order (order.Rising f) = refl
      by_order (order.Falling f) = refl

  standings-are : (rows : List Row) → map (row_standing o) rows ≡ map (named_standing s) (map bare_record rows)
  standings-are rows = sym (map_map (named_standing s) bare_record (row_standing o) (λ row. sym (standing-is row)) rows)

  mark-is : (rows : List Row) (m : Option ℕ) → mark_in_rows o rows m ≡ named_mark s (map bare_record rows) m
  mark-is rows None = refl
  mark-is rows (Some mark) = composed (find (λ r. r.number == mark) rows) ∙ ap (option_map (named_standing s)) (sym (find-map (λ r. r.number == mark) bare_record rows))
    where
      composed : (w : Option Row) → option_map (row_standing o) w ≡ option_map (named_standing s) (option_map bare_record w)
      composed None = refl
      composed (Some r) = ap Some (standing-is r)

hits-are : (q : Query) (rows : List Row) → hits (map bare_record rows) q ≡ map bare_record (filter (row_matches q) rows)
hits-are q rows = filter-map (λ r. matches q r.item) bare_record rows

-- the answer to the ask over the rows of the view, without their sources
abbrev pub answer_in : View → Query → Ask → Result Found Refusal
answer_in view q ask = answer view.schema (map bare_record (rows_in view)) (read_of ask q)

-- the page of what is wanted
pub page_answered : (view : View) (q : Query) (ask : Ask) (w : Wanted) (total : ℕ) (ls : List Leaf) (entries : List Entry)
    → IsWantedOf view ask w → ls ≡ view.leaves → IsView view
    → total ≡ length (hits_in ls q) → entries ≡ first_shown w (map (row_standing w.order) (hits_in ls q))
    → answer_in view q ask ≡ Ok (Found.page (record { total = total; entries = entries }))
page_answered view q ask w total ls entries is same v t e =
    let s : Sort = sort_of ask.sort in
    let rows : List Row = rows_in view in
    let matched : List Row = hits_in view.leaves q in
    let mark : Option HitStanding = named_mark s (map bare_record rows) ask.after in
    let shown = λ (n : ℕ) (k : Option HitStanding) (ps : List HitStanding). map entry_shown (take n (sorted standing_before (behind k ps))) in
    let standing : entries ≡ shown ask.count mark (map (named_standing s) (hits (map bare_record rows) q)) =
    e ∙ ap (λ ks. first_shown w (map (row_standing w.order) (hits_in ks q))) same
    ∙ ap (λ n. shown n (mark_standing w.mark) (map (row_standing w.order) matched)) is.count
    ∙ ap (λ k. shown ask.count k (map (row_standing w.order) matched)) (is.mark ∙ mark-is view s w.order is.order rows ask.after)
    ∙ ap (shown ask.count mark) (standings-are view s w.order is.order matched ∙ ap (map (named_standing s)) (sym (hits-are q rows))) in
    let count : total ≡ length (hits (map bare_record rows) q) =
    t ∙ ap (λ ks. length (hits_in ks q)) same ∙ sym (length-map matched bare_record) ∙ ap length (sym (hits-are q rows)) in
    let rises = each_pair-map bare_record (λ a b. a.number < b.number) rows (each_pair (λ a b. a.number < b.number) rows (live_rise view v view.leaves refl)) in
    answered_by (map bare_record rows) q s ask.count rises view.schema ask.after total entries is.few is.sorts is.has count standing

-- ---- over whatever records the view shows

-- so the ask is refused, whatever its query is
abbrev pub IsRefused : View → Ask → Refusal → Type 0
IsRefused view ask e = (q : Query) (rs : List Record) → Shows view rs → answer view.schema rs (read_of ask q) ≡ Err e

module _ (view : View) (ask : Ask) where
  pub shown : (q : Query) (rs : List Record) → Shows view rs → (r : Result Found Refusal) → answer_in view q ask ≡ r → answer view.schema rs (read_of ask q) ≡ r
  shown q rs shows r is = answers_shown view q (sort_of ask.sort) ask.after ask.count rs shows ∙ is

  -- what is answered, where neither the count nor the sort is refused
  judged : ask.count ≤ page_limit → can_sort view.schema (sort_of ask.sort) ≡ true → (q : Query) (b : Bool) → has_mark (map bare_record (rows_in view)) ask.after ≡ b
      → answer_in view q ask ≡ cond b (Ok (Found.page (page_of (map bare_record (rows_in view)) q (sort_of ask.sort) ask.after ask.count))) (Err Mark)
  judged few sorts q b has = rw (le-ltb page_limit ask.count few, sorts, has) refl

  module _ (schema : Schema) (same : schema ≡ view.schema) where
    -- the count or the sort is refused
    pub unresolved : (e : Refusal) → ((q : Query) (rs : List Record) → answer schema rs (read_of ask q) ≡ Err e) → IsRefused view ask e
    unresolved e refused q rs shows = subst (λ f. answer f rs (read_of ask q) ≡ Err e) same (refused q rs)

    module _ (ls : List Leaf) (leaves : ls ≡ view.leaves) (few : ask.count ≤ page_limit) (sorts : can_sort schema (sort_of ask.sort) ≡ true) where
      can : can_sort view.schema (sort_of ask.sort) ≡ true
      can = subst (λ f. can_sort f (sort_of ask.sort) ≡ true) same sorts

      marks : (b : Bool) → has_mark (map bare_record (flat_map live_rows ls)) ask.after ≡ b → has_mark (map bare_record (rows_in view)) ask.after ≡ b
      marks b has = subst (λ ks. has_mark (map bare_record (flat_map live_rows ks)) ask.after ≡ b) leaves has

      -- the mark is refused
      pub unmarked : (e : Refusal) → (e ≡ Mark) × (has_mark (map bare_record (flat_map live_rows ls)) ask.after ≡ false) → IsRefused view ask e
      unmarked e none q rs shows = shown q rs shows (Err Mark) (judged few can q false (marks false none.1)) ∙ ap Err (sym none.0)

      -- nothing is
      pub wanted_is : (w : Wanted) → w.count ≡ ask.count → IsOrderOf schema (sort_of ask.sort) w.order → has_mark (map bare_record (flat_map live_rows ls)) ask.after ≡ true
          → mark_standing w.mark ≡ mark_in_rows w.order (flat_map live_rows ls) ask.after → IsWantedOf view ask w
      wanted_is w count order has mark = record {
        count = count;
        few = few;
        sorts = can;
        order = subst (λ f. IsOrderOf f (sort_of ask.sort) w.order) same order;
        has = marks true has;
        mark = subst (λ ks. mark_standing w.mark ≡ mark_in_rows w.order (flat_map live_rows ks) ask.after) leaves mark;
      }

  -- nothing is refused of what is wanted
  pub none_due : {X : Type 0} (given : Result X Refusal) (w : Wanted) → IsWantedOf view ask w → (q : Query) (rs : List Record) → Shows view rs
      → IfErr (answer view.schema rs (read_of ask q)) (λ e. given ≡ Err e)
  none_due given w is q rs shows = subst (λ a. IfErr a (λ e. given ≡ Err e)) (sym (shown q rs shows (Ok _) (judged is.few is.sorts q true is.has))) tt

  module _ {X : Type 0} (given : Result X Refusal) (e : Refusal) (same : given ≡ Err e) (refused : IsRefused view ask e) where
    -- a refusal that is passed on is due, and the one that is due
    pub refusal : IfErr given (IsRefused view ask)
    refusal = subst (λ r. IfErr r (IsRefused view ask)) (sym same) refused

    pub is_due : (q : Query) (rs : List Record) → Shows view rs → IfErr (answer view.schema rs (read_of ask q)) (λ x. given ≡ Err x)
    is_due q rs shows = subst (λ a. IfErr a (λ x. given ≡ Err x)) (sym (refused q rs shows)) same

-- the refusal that a call passes on
pub passed_on : {T E : Type 0} (r : Result T E) (e : E) → IsErr r × IsErrAnd r (λ x. x ≡ e) → r ≡ Err e
passed_on (Err x) e is = ap Err is.1
passed_on (Ok x) e is = absurd is.1
