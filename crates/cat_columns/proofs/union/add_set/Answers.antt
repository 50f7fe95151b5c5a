use Rattle.std.proofs.Common.{◌++◌, List, map, ap, ◌∙◌, subst, arith}
use Rattle.std.specs.Borrow.{Bor}
use Rattle.std.proofs.lemmas.Grind.{elements}
use Rattle.cat_model.specs.Text.{Text}
use Rattle.cat_columns.specs.Merged.{HaveSame, texts_in}
use Rattle.cat_columns.proofs.Merged.{set_added, texts_in-push}
use Rattle.cat_columns.proofs.union.add_set.Goals as goal

abbrev seen : List (Bor Text) → List Text
seen texts = map (λ t. t.now) texts

pub returns : goal.returns
returns c = record {
  ok =
      set_added (texts_in c.args.parts.now.items) (texts_in c.settled.new.parts.items) (texts_in c.settled-2.new.parts.items) (texts_in c.push.new.self.items) (seen c.in_ok-small.small.items) (seen c.in_ok-part.part.items)
      (seen c.in_ok-part-2.part.items) c.args.set.now (ap texts_in c.in_ok-push.ensures.items ∙ texts_in-push c.settled-2.new.parts.items c.in_ok-part-2.part) c.in_ok-part-2.ensures.ok
      (subst (λ (l : List Text). HaveSame (seen c.in_ok-part.part.items) (seen c.in_ok-small.small.items ++ l)) c.in_ok-texts_of.ensures.ok c.in_ok-part.ensures.ok)
      (subst (λ (l : List (Bor Text)). HaveSame (texts_in c.settled.new.parts.items ++ seen c.in_ok-small.small.items) (texts_in c.args.parts.now.items ++ seen l)) c.new.ensures.items c.in_ok-small.ensures.ok);
}

pub returns-then-is_empty : goal.returns-then-is_empty
returns-then-is_empty c = grind (arith, elements)
