-- A commit of a run has what some front of the run had.
use Rattle.std.proofs.Common.{◌≡◌, ℕ, [], ◌∷◌, ◌++◌, refl, sym, ◌∙◌, ap, subst, arith, append_assoc}
use Rattle.std.specs.Prelude.{Some, true, false, cond}
use Rattle.std.proofs.lemmas.List.Elements.{filter_map-append}
use Rattle.cat_model.specs.Table.{Start, Opened, table}
use Rattle.cat_model.specs.Run.{Run, accepted, commit_by, has_generation, committed_from, committed_at, writes, now}
use Rattle.cat_model.proofs.UpTo.{table-more}
use Rattle.cat_service.specs.replicas.Laws.{CommitsBeginReplicas}

-- some front of the run has so many writes
record Reaches (start : Start) (run : Run) (c : ℕ) : Type 0 where
  front : Run
  later : Run
  whole : run ≡ front ++ later
  reached : now start front ≡ c

rest_reaches : (start : Start) (g c : ℕ) (past run : Run) → committed_from start g past run ≡ Some c → Reaches start (past ++ run) c
rest_reaches start g c past [] h = absurd (cc h)
rest_reaches start g c past (e ∷ run) h =
    elim (has_generation g (commit_by e.line.command e.reply)) as (λ b. cond b (Some (now start past)) (committed_from start g (past ++ e ∷ []) run) ≡ Some c → Reaches start (past ++ e ∷ run) c) [
      | true ↦ λ k. record { front = past; later = e ∷ run; whole = refl; reached = cc k }
      | false ↦ λ k. subst (λ xs. Reaches start xs c) (append_assoc past (e ∷ []) run) (rest_reaches start g c (past ++ e ∷ []) run k)
    ] h

commit_reaches : (from : Opened) (run : Run) (g c : ℕ) → committed_at from run g ≡ Some c → Reaches from.start run c
commit_reaches from run g c h = elim (has_generation g from.commit) as (λ b. cond b (Some from.start.token) (committed_from from.start g [] run) ≡ Some c → Reaches from.start run c) [
  | true ↦ λ k. record { front = []; later = run; whole = refl; reached = let e : from.start.token ≡ c = cc k in omega (arith, e) }
  | false ↦ rest_reaches from.start g c [] run
] h

pub commits_begin : CommitsBeginReplicas
commits_begin from run g found at fields table_is =
    let r : Reaches from.start run found.token = commit_reaches from run g found.token at in
    let token : found.token ≡ now from.start r.front = sym r.reached in
    let ws : writes run ≡ writes r.front ++ writes r.later = ap writes r.whole ∙ filter_map-append accepted r.front r.later in
    let records : found.records ≡ table from.start (writes r.front) (now from.start r.front) =
    table_is
    ∙ ap (λ n. table from.start (writes run) n) token
    ∙ ap (λ vs. table from.start vs (now from.start r.front)) ws
    ∙ table-more from.start (writes r.front) (writes r.later) (now from.start r.front) (omega arith) in
    (r.front, r.later, r.whole, λ i. record { schema = fields i; records = records i; token = token i })
