-- A run that is opened with the table of other writes, and goes on with those behind it.
use Rattle.std.proofs.Common.{inl, inr, ◌≡◌, ◌⊎◌, ℕ, ◌+◌, ◌-◌, ◌≤◌, ◌<◌, List, [], ◌∷◌, ◌++◌, length, take, refl, sym, ◌∙◌, ap, subst, arith, append-nil, append_assoc}
use Rattle.std.specs.Prelude.{Ok, Err, true, false, Bool, cond, not, ◌&&◌, ◌||◌, ltb, leb, min}
use Rattle.std.specs.List.{list_any, filter, filter_map, cons_option, AllByRecursion}
use Rattle.std.proofs.lemmas.Bool.Decides.{nat_tests, leb_tells}
use Rattle.std.proofs.lemmas.List.{length-append, length-take}
use Rattle.std.proofs.lemmas.List.Elements.{filter-append, filter_map-append, recursion_from_All}
use Rattle.cat_base.specs.declared.refusal.Refusal.{Refusal}
use Rattle.cat_model.specs.Item.{Record}
use Rattle.cat_model.specs.Write.{Write}
use Rattle.cat_model.specs.Table.{Start, Opened, Numbered, numbered, record_of, put_by, replaces, stands, table, count, writes_up_to}
use Rattle.cat_model.specs.Answer.{Read, answer}
use Rattle.cat_model.specs.Run.{Command, Answer, Reply, Exchange, Run, accepted, writes, now, is_held, has, without_least_free, with_view, view_tokens_by, view_tokens_from, view_tokens, found_reply, Answers, Stops, FitsFrom, IsRun}
use Rattle.cat_model.specs.Limits.{view_limit}
use Rattle.cat_model.specs.Laws.{IsBounded, HeldRead}
use Rattle.cat_model.proofs.Lists.{filter_alike, filter_none, filter-filter, list_any-append, list_any_alike, list_any_none, All-weaken, All-both, All-kept}
use Rattle.cat_model.proofs.Table.{numbered_above, numbered_up_to}
use Rattle.cat_model.proofs.UpTo.{table-up_to, table-more}
use Rattle.cat_model.proofs.Runs.{FitsFrom-split, answered, bounded, held_low, held_writes, held_read_is_of_its_table}
use Rattle.cat_service.specs.replicas.Laws.{GoesOn, IsSeen, HeldReadsAgreeAcrossOpenings, HeldReadsAgreeOverOneLog, ReplicasAnswerAlike}
use Rattle.cat_service.proofs.replicas.Logs.{logs_alike}

-- ---- the table that writes leave, and the writes behind them

numbered-append : (t : ℕ) (ws vs : List Write) → numbered t (ws ++ vs) ≡ numbered t ws ++ numbered (t + length ws) vs
numbered-append t [] vs = let e : t + length {A = Write} [] ≡ t = omega arith in rw e refl
numbered-append t (x ∷ xs) vs =
    let e : t + 1 + length xs ≡ t + length (x ∷ xs) = omega arith in
    ap (λ rest. record { number = t + 1; write = x } ∷ rest) (numbered-append (t + 1) xs vs ∙ ap (λ n. numbered (t + 1) xs ++ numbered n vs) e)

-- what holds of the numbers of writes holds of those of the records that they make
puts_so : (P : ℕ → Type 0) (ns : List Numbered) → AllByRecursion (λ n. P n.number) ns → AllByRecursion (λ r. P r.number) (filter_map put_by ns)
puts_so P [] a = tt
puts_so P (n ∷ ns) a =
    elim n.write as (λ w. AllByRecursion (λ r. P r.number) (cons_option (record_of n.number w) (filter_map put_by ns))) [
      | Write.put i ↦ (a.0, puts_so P ns a.1)
      | Write.delete id ↦ puts_so P ns a.1
      | Write.delete_where q ↦ puts_so P ns a.1
    ]

neither : (a b : Bool) → not (a || b) ≡ (not a && not b)
neither true b = refl
neither false b = refl

-- writes up to c replace at a later t what they replace at c
replaces-later : (c t : ℕ) (r : Record) (n : Numbered) → c ≤ t → n.number ≤ c → replaces t r n ≡ replaces c r n
replaces-later c t r n h k = grind (arith, nat_tests)

-- and nothing that is put past c
replaces-before : (c t : ℕ) (r : Record) (n : Numbered) → c < r.number → n.number ≤ c → replaces t r n ≡ false
replaces-before c t r n h k = let late : ltb r.number n.number ≡ false = grind (arith, nat_tests) in rw late refl

-- a record up to c stands at t where it stands at c and the writes past c leave it
stands-old : (c t : ℕ) (ns ms : List Numbered) (r : Record) → c ≤ t → AllByRecursion (λ n. n.number ≤ c) ns → r.number ≤ c
    → stands t (ns ++ ms) r ≡ (stands c ns r && stands t ms r)
stands-old c t ns ms r h a k =
    let old : list_any (replaces t r) ns ≡ list_any (replaces c r) ns = list_any_alike _ _ ns (All-weaken _ _ (λ n e. replaces-later c t r n h e) ns a) in
    let then : leb r.number c ≡ true = grind (arith, nat_tests) in
    let now : leb r.number t ≡ true = grind (arith, nat_tests) in
    rw (list_any-append (replaces t r) ns ms, old, then, now) (neither (list_any (replaces c r) ns) (list_any (replaces t r) ms))

-- a record past c stands at t where the writes past c leave it
stands-new : (c t : ℕ) (ns ms : List Numbered) (r : Record) → AllByRecursion (λ n. n.number ≤ c) ns → c < r.number → stands t (ns ++ ms) r ≡ stands t ms r
stands-new c t ns ms r a k =
    let none : list_any (replaces t r) ns ≡ false = list_any_none _ ns (All-weaken _ _ (λ n e. replaces-before c t r n k e) ns a) in
    rw (list_any-append (replaces t r) ns ms, none) refl

-- the start that the writes leave
abbrev left_by : Start → List Write → Start
left_by start ws = record { schema = start.schema; records = table start ws (count start ws); token = count start ws }

-- the table after these writes is that of the later ones from the start that the earlier ones leave
pub table-on : (start : Start) (ws vs : List Write) (t : ℕ) → IsSeen start → count start ws ≤ t → table start (ws ++ vs) t ≡ table (left_by start ws) vs t
table-on start ws vs t seen h =
    let c : ℕ = count start ws in
    let ns : List Numbered = numbered start.token ws in
    let ms : List Numbered = numbered c vs in
    let had : List Record = start.records ++ filter_map put_by ns in
    let low : AllByRecursion (λ n. n.number ≤ c) ns = numbered_up_to start.token ws in
    let had_low : AllByRecursion (λ r. r.number ≤ c) had =
    All-both _ start.records _
    (All-weaken (λ r. r.number ≤ start.token) (λ r. r.number ≤ c) (λ r k. omega arith) start.records (recursion_from_All _ start.records seen))
    (puts_so (λ n. n ≤ c) ns low) in
    let put_high : AllByRecursion (λ r. c < r.number) (filter_map put_by ms) = puts_so (λ n. c < n) ms (numbered_above c vs) in
    let all : filter_map put_by (ns ++ ms) ≡ filter_map put_by ns ++ filter_map put_by ms = filter_map-append put_by ns ms in
    let old : filter (stands t (ns ++ ms)) had ≡ filter (stands t ms) (filter (stands c ns) had) =
    filter_alike _ _ had (All-weaken _ _ (λ r k. stands-old c t ns ms r h low k) had had_low) ∙ sym (filter-filter (stands t ms) (stands c ns) had) in
    let new : filter (stands t (ns ++ ms)) (filter_map put_by ms) ≡ filter (stands t ms) (filter_map put_by ms) =
    filter_alike _ _ (filter_map put_by ms) (All-weaken _ _ (λ r k. stands-new c t ns ms r low k) (filter_map put_by ms) put_high) in
    ap (λ qs. filter (stands t qs) (start.records ++ filter_map put_by qs)) (numbered-append start.token ws vs)
    ∙ ap (λ rs. filter (stands t (ns ++ ms)) (start.records ++ rs)) all
    ∙ ap (filter (stands t (ns ++ ms))) (sym (append_assoc start.records (filter_map put_by ns) (filter_map put_by ms)))
    ∙ filter-append (stands t (ns ++ ms)) had (filter_map put_by ms)
    ∙ ap (λ rs. rs ++ filter (stands t (ns ++ ms)) (filter_map put_by ms)) old
    ∙ ap (λ rs. filter (stands t ms) (filter (stands c ns) had) ++ rs) new
    ∙ sym (filter-append (stands t ms) (filter (stands c ns) had) (filter_map put_by ms))

-- ---- no view is older than the start

-- a number that is told in place of a refusal
told_number : (b : Bool) (m t : ℕ) (e : Refusal) → ◌≡◌ {A = Reply} (Ok (Answer.number t)) (cond b (Err e) (Ok (Answer.number m))) → t ≡ m
told_number true m t e h = cc
told_number false m t e h = cc

module _ (from : Opened) where
  abbrev IsSince : ℕ → Type 0
  IsSince u = from.start.token ≤ u

  viewed_since : (held : ℕ → Bool) (ts : List ℕ) (t : ℕ) → IsSince t → AllByRecursion IsSince ts → AllByRecursion IsSince (with_view held ts t)
  viewed_since held ts t h a =
      elim (has ts t) as (λ b. AllByRecursion IsSince (cond b ts (cond (ltb (length ts) view_limit) ts (without_least_free held ts) ++ t ∷ []))) [
        | true ↦ a
        | false ↦ All-both IsSince _ _ (elim (ltb (length ts) view_limit) as (λ b. AllByRecursion IsSince (cond b ts (without_least_free held ts))) [ true ↦ a | false ↦ All-kept _ _ ts a ]) (h, tt)
      ]

  next_since : (past : Run) (ts : List ℕ) (s : ℕ) (c : Command) (r : Reply) → Answers from past s c r ⊎ Stops from past s c r → AllByRecursion IsSince ts → AllByRecursion IsSince (view_tokens_by (is_held past) ts c r)
  next_since past ts s Command.refresh (Ok (Answer.number t)) f a =
      let e : t ≡ now from.start past = told_number _ _ t _ (answered from past s Command.refresh (Answer.number t) f) in
      viewed_since (is_held past) ts t (omega (arith, e)) a
  next_since past ts s (Command.prune n) (Ok x) f a = All-kept _ _ ts a
  next_since past ts s _ _ f a = a

  views_since : (ts : List ℕ) (past run : Run) → FitsFrom from past run → AllByRecursion IsSince ts → AllByRecursion IsSince (view_tokens_from ts past run)
  views_since ts past [] f a = a
  views_since ts past (e ∷ run) f a =
      views_since (view_tokens_by (is_held past) ts e.line.command e.reply) (past ++ e ∷ []) run f.1 (next_since past ts e.line.session e.line.command e.reply f.0 a)

  viewed : (ts : List ℕ) (t : ℕ) → AllByRecursion IsSince ts → has ts t ≡ true → IsSince t
  viewed [] t a h = absurd (cc h)
  viewed (u ∷ ts) t a h = grind (arith, nat_tests, a.0, viewed ts t a.1)

  -- a token under which a held read stands lies between the start and the end of the run
  held_since : (run : Run) (t : ℕ) (asked : Read) (reply : Reply) → HeldRead from run t asked reply → from.start.token ≤ t
  held_since run t asked reply h =
      let e : Exchange = record { line = record { session = h.session; command = Command.read t asked }; reply = reply } in
      let parts : IsRun from h.past × FitsFrom from h.past (e ∷ h.later) = FitsFrom-split from [] h.past (e ∷ h.later) (subst (IsRun from) h.split h.is_run) in
      let ok : IsBounded from.start h.past = bounded from h.past parts.0 in
      viewed (view_tokens from.start h.past) t (views_since (from.start.token ∷ []) [] h.past parts.0 (omega arith, tt)) (ok.held h.session t h.held)

  held_before : (run : Run) (t : ℕ) (asked : Read) (reply : Reply) → HeldRead from run t asked reply → t ≤ count from.start (writes run)
  held_before run t asked reply h =
      omega (arith, held_low from run t asked reply h, ap length (held_writes from run t asked reply h), length-append (writes h.past) (writes (record { line = record { session = h.session; command = Command.read t asked }; reply = reply } ∷ h.later)))

-- ---- the table at t

-- where nothing comes behind the opened table, it is the table at its own token
stands_seen : (t : ℕ) (ns : List Numbered) (rs : List Record) → AllByRecursion (λ r. r.number ≤ t) rs → AllByRecursion (λ n. t < n.number) ns → AllByRecursion (λ r. stands t ns r ≡ true) rs
stands_seen t ns rs a b = All-weaken (λ r. r.number ≤ t) (λ r. stands t ns r ≡ true) (λ r k. by r k) rs a
  where
    by : (r : Record) → r.number ≤ t → stands t ns r ≡ true
    by r k =
        let none : list_any (replaces t r) ns ≡ false = list_any_none _ ns (All-weaken _ _ (λ n e. let late : leb n.number t ≡ false = grind (arith, nat_tests) in rw late (grind (arith, nat_tests))) ns b) in
        let low : leb r.number t ≡ true = grind (arith, nat_tests) in
        rw (none, low) refl

filter_each : (p : Record → Bool) (rs : List Record) → AllByRecursion (λ r. p r ≡ true) rs → filter p rs ≡ rs
filter_each p [] a = refl
filter_each p (r ∷ rs) a = let e : p r ≡ true = a.0 in rw e (ap (λ qs. r ∷ qs) (filter_each p rs a.1))

-- a start's own table
table_at_start : (start : Start) (ws : List Write) → AllByRecursion (λ r. r.number ≤ start.token) start.records → table start ws start.token ≡ start.records
table_at_start start ws seen =
    let ns : List Numbered = numbered start.token ws in
    let high : AllByRecursion (λ n. start.token < n.number) ns = numbered_above start.token ws in
    let late : AllByRecursion (λ r. stands start.token ns r ≡ false) (filter_map put_by ns) =
    All-weaken (λ r. start.token < r.number) (λ r. stands start.token ns r ≡ false) (λ r k. let e : leb r.number start.token ≡ false = grind (arith, nat_tests) in rw e refl) _ (puts_so (λ n. start.token < n) ns high) in
    filter-append (stands start.token ns) start.records (filter_map put_by ns)
    ∙ ap (λ rs. filter (stands start.token ns) start.records ++ rs) (filter_none (stands start.token ns) _ late)
    ∙ append-nil _
    ∙ filter_each _ start.records (stands_seen start.token ns start.records seen high)

-- no record of a table at t is past t
table_seen : (t : ℕ) (ns : List Numbered) (rs : List Record) → AllByRecursion (λ r. r.number ≤ t) (filter (stands t ns) rs)
table_seen t ns [] = tt
table_seen t ns (r ∷ rs) = by (stands t ns r) refl (table_seen t ns rs)
  where
    by : (b : Bool) → stands t ns r ≡ b → AllByRecursion (λ q. q.number ≤ t) (filter (stands t ns) rs)
        → AllByRecursion (λ q. q.number ≤ t) (cond b (r ∷ filter (stands t ns) rs) (filter (stands t ns) rs))
    by true e rest = (grind (arith, nat_tests, e), rest)
    by false e rest = rest

-- a table hangs on the records and the token of its start
table_by : (a b : Start) (ws : List Write) (t : ℕ) → a.records ≡ b.records → a.token ≡ b.token → table a ws t ≡ table b ws t
table_by a b ws t records token =
    ap (λ rs. filter (stands t (numbered a.token ws)) (rs ++ filter_map put_by (numbered a.token ws))) records
    ∙ ap (λ n. filter (stands t (numbered n ws)) (b.records ++ filter_map put_by (numbered n ws))) token

module _ (start : Start) (ws : List Write) (t : ℕ) (from : Opened) (run : Run) (g : GoesOn start ws t from run) where
  -- where t is the run's own token
  same_at_opening : from.start.token ≡ t → table from.start (writes run) t ≡ table start ws t
  same_at_opening e =
      let opened : AllByRecursion (λ r. r.number ≤ from.start.token) from.start.records =
      subst (AllByRecursion (λ r. r.number ≤ from.start.token)) (sym g.records) (table_seen from.start.token (numbered start.token ws) (start.records ++ filter_map put_by (numbered start.token ws))) in
      ap (table from.start (writes run)) (sym e) ∙ table_at_start from.start (writes run) opened ∙ g.records ∙ ap (table start ws) e

  -- where t comes later
  same_later : IsSeen start → from.start.token < t → t ≤ count from.start (writes run) → table from.start (writes run) t ≡ table start ws t
  same_later seen c k =
      let w : List Write = writes_up_to start ws from.start.token in
      let v : List Write = writes_up_to from.start (writes run) t in
      let whole : length (take (t - start.token) ws) ≡ min (t - start.token) (length ws) = length-take (t - start.token) ws in
      let front : length w ≡ min (from.start.token - start.token) (length ws) = length-take (from.start.token - start.token) ws in
      let back : length v ≡ min (t - from.start.token) (length (writes run)) = length-take (t - from.start.token) (writes run) in
      let sum : length (take (t - start.token) ws) ≡ length w + length v = ap length g.joined ∙ length-append w v in
      let first : start.token ≤ from.start.token = omega (arith, whole, front, back, sum) in
      let last : t ≤ count start ws = omega (arith, whole, front, back, sum) in
      let token : count start w ≡ from.start.token = omega (arith, front) in
      let records : table start w (count start w) ≡ from.start.records =
      ap (table start w) token ∙ table-up_to start ws from.start.token (omega arith) ∙ sym g.records in
      sym (table-up_to from.start (writes run) t k)
      ∙ sym (table_by (left_by start w) from.start v t records token)
      ∙ sym (table-on start w v t seen (omega (arith, token)))
      ∙ sym (ap (λ vs. table start vs t) g.joined)
      ∙ table-up_to start ws t last

  same_table : IsSeen start → (asked : Read) (reply : Reply) → HeldRead from run t asked reply → table from.start (writes run) t ≡ table start ws t
  same_table seen asked reply h =
      elim (leb_tells t from.start.token) [
        | inl k ↦ same_at_opening (omega (arith, k.1, held_since from run t asked reply h))
        | inr k ↦ same_later seen (omega (arith, k.1)) (held_before from run t asked reply h)
      ]

  reply_of_log : IsSeen start → (asked : Read) (reply : Reply) → HeldRead from run t asked reply → reply ≡ found_reply (answer start.schema (table start ws t) asked)
  reply_of_log seen asked reply h =
      held_read_is_of_its_table from run t asked reply h
      ∙ ap (λ schema. found_reply (answer schema (table from.start (writes run) t) asked)) g.schema
      ∙ ap (λ rs. found_reply (answer start.schema rs asked)) (same_table seen asked reply h)

pub across_openings : HeldReadsAgreeAcrossOpenings
across_openings one two run₁ run₂ t asked reply₁ reply₂ seen g read₁ read₂ =
    held_read_is_of_its_table one run₁ t asked reply₁ read₁ ∙ sym (reply_of_log one.start (writes run₁) t two run₂ g seen asked reply₂ read₂)

pub over_one_log : HeldReadsAgreeOverOneLog
over_one_log start ws one two run₁ run₂ t asked reply₁ reply₂ seen g₁ g₂ read₁ read₂ =
    reply_of_log start ws t one run₁ g₁ seen asked reply₁ read₁ ∙ sym (reply_of_log start ws t two run₂ g₂ seen asked reply₂ read₂)

-- ---- replicas

pub answer_alike : ReplicasAnswerAlike
answer_alike one two past run₁ run₂ later₁ later₂ t asked reply₁ reply₂ seen begun said low read₁ read₂ =
    let c : ℕ = now one.start past in
    let before : List Write = writes past in
    let ws : List Write = writes run₁ in
    let token : two.start.token ≡ c = ap (λ (s : Start). s.token) begun in
    let schema : two.start.schema ≡ one.start.schema = ap (λ (s : Start). s.schema) begun in
    let records : table one.start before c ≡ two.start.records = sym (ap (λ (s : Start). s.records) begun) in
    let run_one : IsRun one (past ++ run₁) = (FitsFrom-split one [] (past ++ run₁) later₁ read₁.is_run).0 in
    let run_two : IsRun two run₂ = (FitsFrom-split two [] run₂ later₂ read₂.is_run).0 in
    let same : ws ≡ writes run₂ = (logs_alike one two past [] run₁ run₂ run_one run_two (omega (arith, token)) said).1 in
    let since : c ≤ t = omega (arith, token, held_since two (run₂ ++ later₂) t asked reply₂ read₂) in
    let up : t ≤ count one.start (writes (past ++ run₁)) = low in
    let both : writes (past ++ run₁) ≡ before ++ ws = filter_map-append accepted past run₁ in
    let up_two : t ≤ count two.start (writes run₂) = omega (arith, up, token, ap length both, length-append before ws, ap length same) in
    let first : table one.start (writes ((past ++ run₁) ++ later₁)) t ≡ table one.start (before ++ ws) t =
    ap (λ vs. table one.start vs t) (filter_map-append accepted (past ++ run₁) later₁)
    ∙ table-more one.start (writes (past ++ run₁)) (writes later₁) t up
    ∙ ap (λ vs. table one.start vs t) both in
    let second : table two.start (writes (run₂ ++ later₂)) t ≡ table two.start ws t =
    ap (λ vs. table two.start vs t) (filter_map-append accepted run₂ later₂)
    ∙ table-more two.start (writes run₂) (writes later₂) t up_two
    ∙ ap (λ vs. table two.start vs t) (sym same) in
    let tables : table one.start (before ++ ws) t ≡ table two.start ws t =
    table-on one.start before ws t seen since ∙ table_by (left_by one.start before) two.start ws t records (sym token) in
    held_read_is_of_its_table one ((past ++ run₁) ++ later₁) t asked reply₁ read₁
    ∙ ap (λ rs. found_reply (answer one.start.schema rs asked)) (first ∙ tables ∙ sym second)
    ∙ ap (λ fields. found_reply (answer fields (table two.start (writes (run₂ ++ later₂)) t) asked)) (sym schema)
    ∙ sym (held_read_is_of_its_table two (run₂ ++ later₂) t asked reply₂ read₂)
