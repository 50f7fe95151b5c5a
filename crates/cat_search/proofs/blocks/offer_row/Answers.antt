use Rattle.std.proofs.Common.{◌≡◌, ◌++◌, ◌∷◌, ◌∙◌, [], None, true, cond, get_or, map, ap, sym, subst, refl, arith}
use Rattle.std.specs.Prelude.{slice_index_or}
use Rattle.std.proofs.lemmas.Grind.{elements}
use Rattle.cat_model.specs.Page.{Key}
use Rattle.cat_model.specs.RowSets.{has_row}
use Rattle.cat_search.specs.Bars.{lets_in}
use Rattle.cat_search.specs.Candidates.{IsBestAt, mark_standing}
use Rattle.cat_search.specs.Pages.{behind}
use Rattle.cat_search.specs.Walks.{standing_at}
use Rattle.cat_search.proofs.Bars.{rank-at}
use Rattle.cat_search.proofs.Gathered.{none, one}
use Rattle.cat_search.proofs.blocks.offer_row.Goals as goal

pub returns-then-not-lets_in-clause-best : goal.returns-then-not-lets_in-clause-best
returns-then-not-lets_in-clause-best c = λ ps h.
    let mark = mark_standing c.args.mark.now in
    let ranks = c.args.ranks.now in
    let numbers = c.args.numbers.now in
    let row = c.args.row in
    let hit : has_row c.args.hits.now row ≡ true = sym c.contains.ensures ∙ c.if-not-contains.false in
    let number = slice_index_or numbers row None in
    let refused = sym (c.lets_in.ensures ∙ ap (lets_in c.args.bar.now) c.value.ensures) ∙ c.if-not-lets_in.true in
    let out = c.requires.bar number refused (get_or ranks row none) (rank-at Key.number c.args.order numbers ranks c.requires.ranked row number refl) ps h in
    subst (λ b. IsBestAt c.args.best.now (ps ++ behind mark (map (standing_at ranks) (cond b (row ∷ []) [])))) (sym hit) out

pub returns-clause-best : goal.returns-clause-best
returns-clause-best c = λ ps h.
    let mark = mark_standing c.args.mark.now in
    let ranks = c.args.ranks.now in
    let row = c.args.row in
    let hit : has_row c.args.hits.now row ≡ true = sym c.contains.ensures ∙ c.if-not-contains.false in
    let took = subst (λ p. IsBestAt c.offer_hit.new.best (ps ++ one mark p)) (c.at.ensures none) (c.in_ok-offer_hit.ensures.best ps h) in
    subst (λ b. IsBestAt c.offer_hit.new.best (ps ++ behind mark (map (standing_at ranks) (cond b (row ∷ []) [])))) (sym hit) took

pub value-requires : goal.value-requires
value-requires c = grind (arith, elements)
