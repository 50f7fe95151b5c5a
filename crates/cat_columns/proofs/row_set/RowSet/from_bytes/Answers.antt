use Rattle.std.proofs.lemmas.Result.{err_from_is_err_and}
use Rattle.std.proofs.Common.{◌≡◌, inr, refl, Bool, List, length, map, arith}
use Rattle.std.specs.List.{range_with_len}
use Rattle.std.proofs.lemmas.Grind.{common_steps}
use Rattle.cat_base.specs.declared.refusal.Refusal.TheVariants.{Memory}
use Rattle.cat_model.specs.RowSets.{IsPacked}
use Rattle.cat_columns.specs.Bits.{has_row_bit}
use Rattle.cat_columns.proofs.Bytes.{IsPacked-from, packed_rows, if_err}
use Rattle.cat_columns.proofs.row_set.RowSet.from_bytes.Goals as goal

pub returns-clause-ok : goal.returns-clause-ok
returns-clause-ok c =
    IsPacked-from c.args.len c.in_ok-blocks.blocks.items c.args.bytes.now c.requires (omega arith) c.in_ok-blocks.ensures.long c.in_ok-blocks.ensures.bits (c.is_clear_from.ensures.0 c.if-not-is_clear_from.false)
    (λ k lt. (c.type_inv.bytes k).fits)

pub returns-in_err-blocks-clause-due : goal.returns-in_err-blocks-clause-due
returns-in_err-blocks-clause-due c =
    let h = packed_rows c.args.len c.args.bytes.now (omega arith) (λ k lt. (c.type_inv.bytes k).fits) (c.is_clear_from.ensures.0 c.if-not-is_clear_from.false) in
    if_err c.from_residual.result (λ e. e ≡ Memory → (set : List Bool) × (length set ≡ c.args.len) × IsPacked c.args.bytes.now set) (λ e is. (map (has_row_bit c.args.bytes.now) (range_with_len 0 c.args.len), h.0, h.1))

pub is_clear_from-requires : goal.is_clear_from-requires
is_clear_from-requires c = c.if-bytes-len.false

pub returns-in_err-blocks-clause-refusal : goal.returns-in_err-blocks-clause-refusal
returns-in_err-blocks-clause-refusal c =
    let p = err_from_is_err_and c.from_residual.result c.from_residual.ensures.1 in
    rw (p.1, p.2) (inr refl)

pub returns-then-bytes-len-clause-damaged : goal.returns-then-bytes-len-clause-damaged
returns-then-bytes-len-clause-damaged c = grind (arith, common_steps)

pub invariant_of-result : goal.invariant_of-result
invariant_of-result c = grind arith
