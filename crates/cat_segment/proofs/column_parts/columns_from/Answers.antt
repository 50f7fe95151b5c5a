use Rattle.std.proofs.Common.{[], ◌∷◌, ◌++◌, ap, sym, ◌∙◌, append_assoc, subst, ◌≡◌, inl, inr, arith}
use Rattle.cat_base.specs.declared.refusal.Refusal.TheVariants.{Memory}
use Rattle.std.proofs.lemmas.Bool.{true≢false}
use Rattle.std.proofs.lemmas.Grind.{common_steps}
use Rattle.cat_segment.proofs.Judged.{column_more, some_part, judged_more}
use Rattle.cat_segment.specs.Contents.{contents_of}
use Rattle.cat_segment.specs.Parts.{HasNoColumn, AreColumnsOf}
use Rattle.cat_segment.proofs.column_parts.columns_from.Goals as goal

pub loop-part-preserved-in-Ok : goal.loop-part-preserved-in-Ok
loop-part-preserved-in-Ok c =
    let made = c.in-Ok.ensures.ok in
    record {
      columns = λ enough. subst (AreColumnsOf c.args.rows (c.loop-part.yielded ++ c.in-Some.part ∷ [])) (sym made.2)
          (column_more c.args.rows c.loop-part.yielded c.loop-part.columns.items c.in-Some.part made.0 (c.loop-part.invariant.columns enough) made.1);
      judged = judged_more c.args.rows c.loop-part.yielded c.in-Some.part c.loop-part.invariant.judged (λ none. none (contents_of made.0) made.1.contents made.1.spelled);
      left = c.loop-part.invariant.left ∙ ap (λ l. c.loop-part.yielded ++ l) c.in-Some.ensures.steps.0 ∙ sym (append_assoc c.loop-part.yielded (c.in-Some.part ∷ []) c.next.new.self.rest.items);
      orders = c.add_column.ensures.orders;
    }

pub loop-part-preserved : goal.loop-part-preserved
loop-part-preserved c =
    let memory : c.in-Err.refusal ≡ Memory = elim c.in-Err.ensures.refusal [ inl damage ↦ absurd (c.in_default.not-Damaged damage) | inr memory ↦ memory ] in
    record {
      columns = λ enough. absurd (true≢false enough);
      judged = judged_more c.args.rows c.loop-part.yielded c.in-Some.part c.loop-part.invariant.judged (c.in-Err.ensures.due memory);
      left = c.loop-part.invariant.left ∙ ap (λ l. c.loop-part.yielded ++ l) c.in-Some.ensures.steps.0 ∙ sym (append_assoc c.loop-part.yielded (c.in-Some.part ∷ []) c.next.new.self.rest.items);
      orders = c.add_column.ensures.orders;
    }

pub returns-in-Damaged-clause-damaged : goal.returns-in-Damaged-clause-damaged
returns-in-Damaged-clause-damaged c = λ _.
    some_part (HasNoColumn c.args.rows) c.loop-part.yielded c.next.new.self.rest.items c.in-Some.part c.args.parts.items
    (c.loop-part.invariant.left ∙ ap (λ l. c.loop-part.yielded ++ l) c.in-Some.ensures.steps.0) (c.in-Err.ensures.damaged c.in-Damaged.is)

pub returns-clause-ok : goal.returns-clause-ok
returns-clause-ok c = grind (arith, common_steps)
