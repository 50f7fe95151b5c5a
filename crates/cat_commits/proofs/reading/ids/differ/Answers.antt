use Rattle.std.proofs.Common.{◌≡◌, ℕ, List, take, drop, map, suc, true, false, refl, sym, ◌∙◌, subst, arith}
use Rattle.std.specs.Borrow.{Bor}
use Rattle.std.proofs.lemmas.Bool.{not-true, not-false}
use Rattle.std.proofs.lemmas.List.{take_all}
use Rattle.cat_model.specs.Text.{Text}
use Rattle.cat_columns.specs.Columns.{has_text}
use Rattle.cat_commits.specs.reading.Judged.{Differ}
use Rattle.cat_commits.proofs.reading.Known.{Known, known_more, met_twice, all_differ, texts_more, texts_all}
use Rattle.cat_commits.proofs.reading.ids.differ.Goals as goal

pub returns-then-not-branch : goal.returns-then-not-branch
returns-then-not-branch c =
    let ts : List (Bor Text) = c.args.texts.now in
    let i : ℕ = c.loop-text.text-index in
    let met = not-false _ (sym c.in_ok-add.ensures.fresh ∙ c.if-not-branch.true) in (
      λ no. absurd (let wrong : false ≡ true = no in cc),
      λ differ. absurd
          (met_twice (λ q. has_text q c.loop-text.seen) (map (λ (x : Bor Text). x.now) (take i ts)) (map (λ (x : Bor Text). x.now) (drop (suc i) ts)) _ c.loop-text.invariant met
          (subst Differ (texts_all ts i _ c.loop-text-test.true) differ)),
    )

pub loop-text-preserved : goal.loop-text-preserved
loop-text-preserved c =
    let ts : List (Bor Text) = c.args.texts.now in
    let i : ℕ = c.loop-text.text-index in
    let fresh = not-true _ (sym c.in_ok-add.ensures.fresh ∙ c.if-not-branch.false) in
    subst (Known _) (sym (texts_more ts i _ c.loop-text-test.true))
    (known_more (λ q. has_text q c.loop-text.seen) _ (map (λ (x : Bor Text). x.now) (take i ts)) _ c.loop-text.invariant fresh c.in_ok-add.ensures.ok)

pub returns : goal.returns
returns c =
    let all : take c.loop-text.text-index c.args.texts.now ≡ c.args.texts.now = take_all c.loop-text.text-index c.args.texts.now (omega arith) in (
      λ yes. subst (λ (ts : List (Bor Text)). Differ (map (λ (x : Bor Text). x.now) ts)) all
          (all_differ (λ q. has_text q c.loop-text.seen) (map (λ (x : Bor Text). x.now) (take c.loop-text.text-index c.args.texts.now)) c.loop-text.invariant),
      λ differ. refl,
    )
