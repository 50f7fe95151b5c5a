use Rattle.std.proofs.Common.{Bool, List, true, replicate, sym, ◌∙◌, subst, arith}
use Rattle.std.proofs.lemmas.Bool.{true≢false}
use Rattle.std.proofs.lemmas.List.{take_rest}
use Rattle.std.proofs.lemmas.Result.{err_from_is_err_and}
use Rattle.std.proofs.lemmas.Grind.{common_steps}
use Rattle.cat_model.specs.LiveFile.{SpellsLive}
use Rattle.cat_model.specs.RowSets.{IsPacked}
use Rattle.cat_segment.proofs.LiveFiles.{not_all_live, is_live_file}
use Rattle.cat_segment.proofs.live_file.decode_liv.Goals as goal

pub returns-then-are_all-clause-damaged : goal.returns-then-are_all-clause-damaged
returns-then-are_all-clause-damaged c = λ same rows spells.
    let start = c.in_ok-start.start in
    let fits = c.in_ok-start.ensures.fits in
    let packed = subst (λ l. IsPacked l (replicate start.rows true)) (take_rest c.args.bytes.now 25) (c.are_all.ensures.0 c.if-are_all.true) in
    not_all_live c.args.bytes.now c.take_start.new.cursor start (sym c.new-cursor.ensures ∙ c.in_ok-start.ensures.ok) fits.0 fits.1 fits.2 fits.3 packed rows spells

pub returns-in_err-rows-clause-due : goal.returns-in_err-rows-clause-due
returns-in_err-rows-clause-due c =
    let start = c.in_ok-start.start in
    let p = err_from_is_err_and c.from_residual-in_err-rows.result c.from_residual-in_err-rows.ensures.1 in
    rw (p.1, p.2) (λ is.
    let found = c.in_err-rows.ensures.due is in (
      record { number = start.number; generation = start.generation; live = found.0 },
      is_live_file c.args.bytes.now c.take_start.new.cursor start (sym c.new-cursor.ensures ∙ c.in_ok-start.ensures.ok) found.0 (c.may_stand.ensures.0 c.if-not-may_stand.false) found.1
          (subst (λ l. IsPacked l found.0) (take_rest c.args.bytes.now 25) found.2)
          (λ all. true≢false (sym (c.are_all.ensures.1 (subst (λ l. IsPacked l (replicate start.rows true)) (sym (take_rest c.args.bytes.now 25)) all)) ∙ c.if-are_all.false)),
    ))

pub returns-clause-ok : goal.returns-clause-ok
returns-clause-ok c =
    let start = c.in_ok-start.start in
    let read = c.in_ok-rows.ensures.ok in
    subst (λ (l : List Bool). SpellsLive c.args.bytes.now (record { number = start.number; generation = start.generation; live = l })) (sym c.of.ensures)
    (is_live_file c.args.bytes.now c.take_start.new.cursor start (sym c.new-cursor.ensures ∙ c.in_ok-start.ensures.ok) c.in_ok-rows.rows (c.may_stand.ensures.0 c.if-not-may_stand.false) read.0
    (subst (λ l. IsPacked l c.in_ok-rows.rows) (take_rest c.args.bytes.now 25) read.1)
    (λ all. true≢false (sym (c.are_all.ensures.1 (subst (λ l. IsPacked l (replicate start.rows true)) (sym (take_rest c.args.bytes.now 25)) all)) ∙ c.if-are_all.false)))

pub returns-in_err-rows-clause-damaged : goal.returns-in_err-rows-clause-damaged
returns-in_err-rows-clause-damaged c = grind (arith, common_steps)
