use Rattle.std.proofs.Common.{◌≡◌, List, ℕ, Bool, [], true, false, ap, cond, drop, subst, sym, ◌∙◌}
use Rattle.cat_segment.specs.NumberRuns.{ends_run, run_through}
use Rattle.cat_segment.proofs.number_runs.NumberRuns.run_ending_at.Goals as goal

pub returns : goal.returns
returns c =
    let values = c.args.self.now.numbers.now.values in
    let rows = c.args.rows.now in
    let place = c.args.place in
    c.split_at-2.ensures.back ∙ ap (drop c.run_start.result) c.split_at.ensures.front ∙ c.run_start.ensures.run
    ∙ sym (ap (λ (b : Bool). cond b (run_through values rows place) []) (subst (λ (l : List ℕ). ends_run values l place ≡ true) (sym c.requires.rows)
    (sym c.is_run_end.ensures ∙ c.if-not-is_run_end.false)))

pub returns-then-not-is_run_end : goal.returns-then-not-is_run_end
returns-then-not-is_run_end c =
    let values = c.args.self.now.numbers.now.values in
    let rows = c.args.rows.now in
    let place = c.args.place in
    sym (ap (λ (b : Bool). cond b (run_through values rows place) []) (subst (λ (l : List ℕ). ends_run values l place ≡ false) (sym c.requires.rows)
    (sym c.is_run_end.ensures ∙ c.if-not-is_run_end.true)))
