use Rattle.std.proofs.Common.{◌≡◌, ◌++◌, List, map, sym, ap, ◌∙◌, subst, append-nil}
use Rattle.std.specs.Borrow.{Bor}
use Rattle.cat_model.specs.Text.{Text}
use Rattle.cat_columns.specs.Merged.{HaveSame, texts_in}
use Rattle.cat_columns.proofs.Merged.{part_joined, texts_in-push}
use Rattle.cat_columns.proofs.union.settled.Goals as goal

abbrev seen : List (Bor Text) → List Text
seen texts = map (λ t. t.now) texts

-- a part that stays goes back behind the others
pub returns-then-not-is_joined-clause-ok : goal.returns-then-not-is_joined-clause-ok
returns-then-not-is_joined-clause-ok c =
    let back : c.push.new.self.items ≡ c.loop-below.parts.items = c.in_ok-push.ensures.items ∙ sym c.in-Some.ensures.items in
    subst (λ l. HaveSame (texts_in l ++ seen c.loop-below.all.items) (texts_in c.args.parts.now.items ++ seen c.args.part.items)) (sym back) c.loop-below.invariant

pub loop-below-preserved : goal.loop-below-preserved
loop-below-preserved c =
    let all : texts_in c.loop-below.parts.items ≡ texts_in c.pop.new.self.items ++ seen c.in-Some.below.items = ap texts_in c.in-Some.ensures.items ∙ texts_in-push c.pop.new.self.items c.in-Some.below in
    part_joined (texts_in c.pop.new.self.items) (seen c.in-Some.below.items) (seen c.loop-below.all.items) (seen c.in_ok-all.all.items) (texts_in c.args.parts.now.items ++ seen c.args.part.items) c.in_ok-all.ensures.ok
    (subst (λ (l : List Text). HaveSame (l ++ seen c.loop-below.all.items) (texts_in c.args.parts.now.items ++ seen c.args.part.items)) all c.loop-below.invariant)

pub returns-clause-ok : goal.returns-clause-ok
returns-clause-ok c =
    let none : c.loop-below.parts.items ≡ c.pop.new.self.items = c.in_default.ensures.items ∙ append-nil c.pop.new.self.items in
    subst (λ l. HaveSame (texts_in l ++ seen c.loop-below.all.items) (texts_in c.args.parts.now.items ++ seen c.args.part.items)) none c.loop-below.invariant
