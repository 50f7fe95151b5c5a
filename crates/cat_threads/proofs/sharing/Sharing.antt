-- How one list agrees with a ledger, over the rows that it began with.
use Rattle.std.proofs.Common.{◌≡◌, ℕ, ◌+◌, ◌-◌, ◌≤◌, List, [], ◌∷◌, ◌++◌, length, map, Bool, true, cond, not, ◌&&◌, ◌||◌, ltb, leb, refl, sym, ◌∙◌, ap, ap₂, subst, arith, append-nil}
use Rattle.std.specs.List.{filter, filter_map, flat_map, list_any, AllByRecursion}
use Rattle.std.proofs.lemmas.Bool.Decides.{nat_tests}
use Rattle.std.proofs.lemmas.List.{map-append}
use Rattle.std.proofs.lemmas.List.Elements.{recursion_from_All}
use Rattle.cat_model.specs.Item.{Record}
use Rattle.cat_model.specs.Table.{Numbered, Opened, Start, IsStart, numbered, put_by, replaces, stands, table}
use Rattle.cat_model.specs.Run.{Command, Reply, greatest, now}
use Rattle.cat_model.specs.State.{State}
use Rattle.cat_model.specs.View.{Row, View, Shows, item_in, live_rows, row_of, rows_in}
use Rattle.cat_model.specs.Write.{Write, removes}
use Rattle.cat_model.proofs.Lists.{All-weaken}
use Rattle.cat_ledger_laws.specs.model.Ledger.{Ledger, state_of}
use Rattle.cat_ledger_laws.specs.model.Plans.{MergePolicy}
use Rattle.cat_ledger_laws.specs.model.Portions.{leaf_of, records_of}
use Rattle.cat_ledger_laws.proofs.model.Shown.{rows-shown}
use Rattle.cat_ledger_laws.specs.shape.Shapes.{Shape}
use Rattle.cat_ledger_laws.specs.shape.Steps.{tokens_of}
use Rattle.cat_ledger_laws.specs.shape.Ties.{ToldFiles}
use Rattle.cat_ledger_laws.proofs.shape.Leaves.{map_filter, removes_alike}
use Rattle.cat_ledger_laws.specs.lines.LineLaws.{line_of, tells}
use Rattle.cat_ledger_laws.specs.lines.ReadLaws.{IsRecordedAs}
use Rattle.cat_ledger_laws.specs.lines.RefusalLaws.{command_of}
use Rattle.cat_ledger_laws.specs.lines.RunLaws.{AnswersCarried, Stands}
use Rattle.cat_threads.specs.history.Entries.{entry, writes_in}
use Rattle.cat_threads.specs.history.Rules.{Sight, scribe}
use Rattle.cat_threads.specs.sharing.Agrees.{Agrees}
use Rattle.cat_threads.specs.sharing.Grounds.{Ground, IsOn, Shares, ground_of}
use Rattle.cat_threads.specs.sharing.Laws.{IsStill}
use Rattle.cat_threads.specs.sharing.ShareLaws.{FreshShare, IsHistoryOf, IsOfGroundList, ViewsShare}
use Rattle.cat_threads.proofs.sharing.Agreeing as agreeing

-- ---- the rows of a table

abbrev replaces_row : ℕ → Row → Numbered → Bool
replaces_row t row w = ltb row.number w.number && leb w.number t && removes w.write (item_in row)

abbrev row_stands : ℕ → List Numbered → Row → Bool
row_stands t ws row = leb row.number t && not (list_any (replaces_row t row) ws)

any_same : {X : Type 0} (p q : X → Bool) → ((x : X) → p x ≡ q x) → (xs : List X) → list_any p xs ≡ list_any q xs
any_same p q same [] = refl
any_same p q same (x ∷ xs) = ap₂ (λ (a b : Bool). a || b) (same x) (any_same p q same xs)

filter_same : {X : Type 0} (p q : X → Bool) → ((x : X) → p x ≡ q x) → (xs : List X) → filter p xs ≡ filter q xs
filter_same p q same [] = refl
filter_same {X} p q same (x ∷ xs) = ap₂ (λ (b : Bool) (ys : List X). cond b (x ∷ ys) ys) (same x) (filter_same p q same xs)

stands_alike : (t : ℕ) (ws : List Numbered) (r : Record) → stands t ws r ≡ row_stands t ws (row_of r)
stands_alike t ws r = ap (λ b. leb r.number t && not b) (any_same (replaces t r) (replaces_row t (row_of r)) (λ w. ap (λ b. ltb r.number w.number && leb w.number t && b) (sym (removes_alike w.write r))) ws)

-- the rows of a table are those of the start that stand, and of the writes
rows_of_table : (start : Start) (ws : List Write) (t : ℕ)
    → map row_of (table start ws t) ≡ filter (row_stands t (numbered start.token ws)) (map row_of start.records ++ map row_of (filter_map put_by (numbered start.token ws)))
rows_of_table start ws t =
    let all = start.records ++ filter_map put_by (numbered start.token ws) in
    ap (map row_of) (filter_same (stands t (numbered start.token ws)) (λ r. row_stands t (numbered start.token ws) (row_of r)) (stands_alike t (numbered start.token ws)) all)
    ∙ map_filter row_of (row_stands t (numbered start.token ws)) all
    ∙ ap (filter (row_stands t (numbered start.token ws))) (map-append row_of start.records (filter_map put_by (numbered start.token ws)))

-- so they are the same from starts that have the same rows
same_rows : (one two : Start) (ws : List Write) (t : ℕ) → map row_of one.records ≡ map row_of two.records → one.token ≡ two.token → map row_of (table one ws t) ≡ map row_of (table two ws t)
same_rows one two ws t rows token =
    rows_of_table one ws t
    ∙ ap₂ (λ (n : ℕ) (rs : List Row). filter (row_stands t (numbered n ws)) (rs ++ map row_of (filter_map put_by (numbered n ws)))) token rows
    ∙ sym (rows_of_table two ws t)

-- ---- the ground of a ledger as it is opened

filter_whole : {X : Type 0} (p : X → Bool) (xs : List X) → AllByRecursion (λ x. p x ≡ true) xs → filter p xs ≡ xs
filter_whole p [] a = refl
filter_whole p (x ∷ xs) a = let e : p x ≡ true = a.0 in rw e (ap (λ ys. x ∷ ys) (filter_whole p xs a.1))

table_start : (start : Start) (t : ℕ) → IsStart start → t ≡ start.token → table start [] t ≡ start.records
table_start start t ok e =
    ap (filter (stands t [])) (append-nil start.records)
    ∙ filter_whole (stands t []) start.records
    (All-weaken (λ r. r.number ≤ start.token) (λ r. stands t [] r ≡ true) (λ r h. let seen : leb r.number t ≡ true = grind (arith, nat_tests) in rw seen refl) start.records (recursion_from_All _ start.records ok.seen))

on_ground : (told : ToldFiles) (s : Shape) (from : Opened) → from.start.schema ≡ s.schema → Stands told s from [] → IsOn (ground_of s) from.start
on_ground told s from fields st =
    let l = st.ledger in
    let here : s.count ≡ now from.start [] = ap (λ (x : Shape). x.count) (sym st.carries.shape) ∙ st.stands.shows.count_now in
    let zero : now from.start [] ≡ from.start.token = omega arith in
    let whole : records_of l.portions ++ l.buffered ≡ from.start.records = st.stands.shows.table_now ∙ table_start from.start (now from.start []) st.stands.shows.is_start zero in
    record {
      fields = fields;
      rows =
          ap (map row_of) (sym whole) ∙ map-append row_of (records_of l.portions) l.buffered
          ∙ ap (λ rs. rs ++ map row_of l.buffered) (rows-shown l.schema l.portions)
          ∙ ap (λ (x : Shape). flat_map live_rows x.leaves ++ map row_of x.buffered) st.carries.shape;
      token = sym (here ∙ zero);
    }

-- ---- the laws

pub fresh_share : FreshShare
fresh_share told s from sessions v fields stands is = record {
  from = from;
  begins = on_ground told s from fields stands;
  agrees = agreeing.fresh_agree told s from sessions v fields stands is;
}

pub views_share : ViewsShare
views_share told s ground sessions v view a is =
    let k = agreeing.views_agree told s a.from sessions v view a.agrees is in
    let on = a.begins.token in
    let low = k.low in
    let most = k.upto in
    record {
      fields = k.fields ∙ a.begins.fields;
      low = omega arith;
      upto = omega arith;
      table_is = λ start its. same_rows start a.from.start (writes_in v.list) view.token (its.rows ∙ sym a.begins.rows) (its.token ∙ sym a.begins.token) ∙ k.table;
    }

pub counts_share : (told : ToldFiles) (s : Shape) (ground : Ground) (sessions : List ℕ) (v : Sight) → Shares told s ground sessions v → s.count ≡ ground.start.token + length v.list
counts_share told s ground sessions v a = agreeing.counts_agree told s a.from sessions v a.agrees ∙ ap (λ n. n + length v.list) a.begins.token

pub newest_share : (told : ToldFiles) (s : Shape) (ground : Ground) (sessions : List ℕ) (v : Sight) → Shares told s ground sessions v
    → (greatest (tokens_of s.views) ≡ ground.start.token + v.token) × (v.token ≤ length v.list)
newest_share told s ground sessions v a =
    let k = agreeing.newest_agree told s a.from sessions v a.agrees in
    (k.0 ∙ ap (λ n. n + v.token) a.begins.token, k.1)

module _ (policy : MergePolicy) (told told' : ToldFiles) (s new : Shape) (ground : Ground) (sessions : List ℕ) (v w : Sight) (session : ℕ) (a : Shares told s ground sessions v) where
  pub noted_share : (n : ℕ) (write : Write) → AnswersCarried policy told s (line_of session (command_of write)) (tells n) told' new
      → w ≡ scribe (v.list ++ entry session write ∷ []) v.token sessions [] → Shares told' new ground sessions w
  noted_share n write answers is = record { from = a.from; begins = a.begins; agrees = agreeing.noted_agree policy told told' s new a.from sessions v w session n write a.agrees answers is }

  pub recorded_share : (n : ℕ) → n ≡ s.count → AnswersCarried policy told s (line_of session Command.refresh) (tells n) told' new
      → w ≡ scribe v.list (n - ground.start.token) sessions [] → Shares told' new ground sessions w
  recorded_share n all answers is = record {
    from = a.from;
    begins = a.begins;
    agrees = agreeing.recorded_agree policy told told' s new a.from sessions v w session n a.agrees all answers (is ∙ ap (λ k. scribe v.list (n - k) sessions []) (sym a.begins.token));
  }

  pub pruned_share : (n : ℕ) (r : Reply) → AnswersCarried policy told s (line_of session (Command.prune n)) r told' new
      → w ≡ scribe v.list v.token sessions [] → Shares told' new ground sessions w
  pruned_share n r answers is = record { from = a.from; begins = a.begins; agrees = agreeing.pruned_agree policy told told' s new a.from sessions v w session n r a.agrees answers is }

  pub still_share : (c : Command) (r : Reply) → IsStill c r → AnswersCarried policy told s (line_of session c) r told' new
      → w ≡ scribe v.list v.token sessions [] → Shares told' new ground sessions w
  still_share c r still answers is = record { from = a.from; begins = a.begins; agrees = agreeing.still_agree policy told told' s new a.from sessions v w session c r a.agrees still answers is }

pub history : (told : ToldFiles) (s : Shape) (ground : Ground) (sessions : List ℕ) (v : Sight) → Shares told s ground sessions v → IsHistoryOf told s ground v.list
history told s ground sessions v a = record { from = a.from; begins = a.begins; run = a.agrees.run; fits = a.agrees.fits; stands = a.agrees.stands; written = a.agrees.written }
