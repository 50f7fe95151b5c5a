use Rattle.std.proofs.Common.{◌≡◌, ◌++◌, ◌∷◌, ◌∙◌, [], ap, map, refl, sym, take}
use Rattle.std.proofs.lemmas.List.{map-append, take_all, take_more}
use Rattle.cat_search.specs.Standings.{HitStanding, entry_shown}
use Rattle.cat_search.specs.Candidates.{standing_of}
use Rattle.cat_search.proofs.entries.entries_of.Goals as goal

pub loop-candidate-init : goal.loop-candidate-init
loop-candidate-init c = rw c.in_ok-entries.ensures.items refl

pub loop-candidate-preserved : goal.loop-candidate-preserved
loop-candidate-preserved c =
    let candidates = c.args.candidates.now in
    let i = c.loop-candidate.candidate-index in
    let candidate = c.candidate-item.result in
    let before = take i candidates in
    c.in_ok-push_entry.ensures.ok
    ∙ ap (λ es. es ++ entry_shown (standing_of candidate) ∷ []) c.loop-candidate.invariant
    ∙ sym (map-append entry_shown (map standing_of before) (standing_of candidate ∷ []))
    ∙ ap (map entry_shown) (sym (map-append standing_of before (candidate ∷ [])))
    ∙ ap (λ x. map entry_shown (map standing_of (before ++ x ∷ []))) c.candidate-item.is
    ∙ ap (λ xs. map entry_shown (map standing_of xs)) (sym (take_more candidates i candidate c.loop-candidate-test.true))

pub returns : goal.returns
returns c = record {
  ok = c.loop-candidate.invariant ∙ ap (λ xs. map entry_shown (map standing_of xs)) (take_all c.loop-candidate.candidate-index c.args.candidates.now c.loop-candidate-test.false);
}
