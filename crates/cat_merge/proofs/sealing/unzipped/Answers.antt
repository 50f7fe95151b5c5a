use Rattle.std.proofs.lemmas.Result.{IfOk-from_err}
use Rattle.std.proofs.Common.{◌+◌, ◌++◌, ◌∷◌, [], List, ℕ, length, append_assoc, sym, ap, ap₂, ◌∙◌, arith}
use Rattle.std.proofs.lemmas.List.{length_push}
use Rattle.std.proofs.lemmas.Grind.{common_steps}
use Rattle.cat_items.specs.file_parts.Parts.{heads_in}
use Rattle.cat_model.specs.Layout.{Head}
use Rattle.cat_model.specs.Text.{Text}
use Rattle.cat_merge.proofs.Sealed.{heads_push}
use Rattle.cat_merge.proofs.sealing.unzipped.Goals as goal

pub loop-row-preserved : goal.loop-row-preserved
loop-row-preserved c = record {
  heads = ap₂ (λ (a d : List ℕ). heads_in a c.unzip.new.ids.items d) c.in_ok-unzip.ensures.numbers c.in_ok-unzip.ensures.lengths
      ∙ ap (λ (b : List Text). heads_in (c.loop-row.numbers.items ++ c.in-Some.row.number ∷ []) b (c.loop-row.lengths.items ++ c.in-Some.row.length ∷ [])) c.in_ok-unzip.ensures.ids
      ∙ heads_push c.loop-row.numbers.items c.loop-row.ids.items c.loop-row.lengths.items c.in-Some.row.number c.in-Some.row.id c.in-Some.row.length c.loop-row.invariant.ids c.loop-row.invariant.lengths
      ∙ ap (λ (l : List Head). l ++ c.in-Some.row ∷ []) c.loop-row.invariant.heads;
  ids = ap length c.in_ok-unzip.ensures.ids ∙ length_push c.loop-row.ids.items c.in-Some.row.id ∙ ap (λ n. n + 1) c.loop-row.invariant.ids
      ∙ sym (length_push c.loop-row.numbers.items c.in-Some.row.number) ∙ ap length (sym c.in_ok-unzip.ensures.numbers);
  left = c.loop-row.invariant.left ∙ ap (λ l. c.loop-row.yielded ++ l) c.in-Some.ensures.steps.0 ∙ sym (append_assoc c.loop-row.yielded (c.in-Some.row ∷ []) c.next.new.self.rest.items);
  lengths = ap length c.in_ok-unzip.ensures.lengths ∙ length_push c.loop-row.lengths.items c.in-Some.row.length ∙ ap (λ n. n + 1) c.loop-row.invariant.lengths
      ∙ sym (length_push c.loop-row.numbers.items c.in-Some.row.number) ∙ ap length (sym c.in_ok-unzip.ensures.numbers);
}

pub returns-in_err-numbers : goal.returns-in_err-numbers
returns-in_err-numbers c = record { heads = IfOk-from_err _ _ c.from_residual.ensures.0; ids = IfOk-from_err _ _ c.from_residual.ensures.0; lengths = IfOk-from_err _ _ c.from_residual.ensures.0 }

pub returns-in_err-ids : goal.returns-in_err-ids
returns-in_err-ids c = record { heads = IfOk-from_err _ _ c.from_residual-in_err-ids.ensures.0; ids = IfOk-from_err _ _ c.from_residual-in_err-ids.ensures.0; lengths = IfOk-from_err _ _ c.from_residual-in_err-ids.ensures.0 }

pub returns-in_err-lengths : goal.returns-in_err-lengths
returns-in_err-lengths c = record { heads = IfOk-from_err _ _ c.from_residual-in_err-lengths.ensures.0; ids = IfOk-from_err _ _ c.from_residual-in_err-lengths.ensures.0; lengths = IfOk-from_err _ _ c.from_residual-in_err-lengths.ensures.0 }

pub returns-in_err-unzip : goal.returns-in_err-unzip
returns-in_err-unzip c = record { heads = IfOk-from_err _ _ c.from_residual-in_err-unzip.ensures.0; ids = IfOk-from_err _ _ c.from_residual-in_err-unzip.ensures.0; lengths = IfOk-from_err _ _ c.from_residual-in_err-unzip.ensures.0 }

pub returns-clause-heads : goal.returns-clause-heads
returns-clause-heads c = grind (arith, common_steps)
