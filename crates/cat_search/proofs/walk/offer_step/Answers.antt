use Rattle.std.proofs.Common.{◌≡◌, ◌<◌, ◌++◌, ◌∷◌, ◌∙◌, [], append-nil, cond, get_or, map, sym, subst, true≢false}
use Rattle.cat_model.specs.RowSets.{has_row}
use Rattle.cat_search.specs.Bars.{IsFullBy}
use Rattle.cat_search.specs.Candidates.{IsBestAt, mark_standing}
use Rattle.cat_search.specs.Hits.{hit_rows}
use Rattle.cat_search.specs.Pages.{behind}
use Rattle.cat_search.specs.Walks.{standing_at}
use Rattle.cat_search.proofs.Gathered.{none, one}
use Rattle.cat_search.proofs.walk.offer_step.Goals as goal

pub contains-requires : goal.contains-requires
contains-requires c = subst (λ n. c.args.row < n) (sym c.requires.long) c.requires.within

pub at-candidate-requires : goal.at-candidate-requires
at-candidate-requires c = c.requires.within

pub returns-then-not-contains-clause-goes : goal.returns-then-not-contains-clause-goes
returns-then-not-contains-clause-goes c = λ e ps h.
    let mark = mark_standing c.args.mark.now in
    let ranks = c.args.ranks.now in
    let row = c.args.row in
    let kept = c.args.best.now in
    subst (λ b. IsBestAt kept (ps ++ behind mark (map (standing_at ranks) (cond b (row ∷ []) [])))) (sym (sym c.contains.ensures ∙ c.if-not-contains.true)) (subst (IsBestAt kept) (sym (append-nil ps)) h)

pub returns-then-not-contains-clause-ends : goal.returns-then-not-contains-clause-ends
returns-then-not-contains-clause-ends c = λ e. absurd (true≢false e)

pub returns-then-is_left_out-clause-goes : goal.returns-then-is_left_out-clause-goes
returns-then-is_left_out-clause-goes c = λ e. absurd (true≢false (sym e))

pub returns-then-is_left_out-clause-ends : goal.returns-then-is_left_out-clause-ends
returns-then-is_left_out-clause-ends c = λ e. (
  subst (IsFullBy c.close.new.self) (c.at-candidate.ensures none) (c.is_left_out.ensures c.if-is_left_out.true),
  λ ps h. subst (IsBestAt c.close.new.self) (sym (append-nil ps)) (h.0, h.1, c.in_ok-close.ensures.best h.0 h.2),
)

pub returns-clause-goes : goal.returns-clause-goes
returns-clause-goes c = λ e ps h.
    let mark = mark_standing c.args.mark.now in
    let ranks = c.args.ranks.now in
    let row = c.args.row in
    let new = c.offer_hit.new.best in
    let took = subst (λ p. IsBestAt new (ps ++ one mark p)) (c.at-candidate.ensures none) (c.in_ok-offer_hit.ensures.best ps (h.0, h.1, c.in_ok-close.ensures.best h.0 h.2)) in
    subst (λ b. IsBestAt new (ps ++ behind mark (map (standing_at ranks) (cond b (row ∷ []) [])))) (sym (sym c.contains.ensures ∙ c.if-not-contains.false)) took

pub returns-clause-ends : goal.returns-clause-ends
returns-clause-ends c = λ e. absurd (true≢false e)
