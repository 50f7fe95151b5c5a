use Rattle.std.proofs.Common.{ap₂, sym, ◌∙◌}
use Rattle.std.proofs.lemmas.List.Sums.{fold_more}
use Rattle.cat_columns.specs.TextHash.{with_byte}
use Rattle.cat_columns.proofs.hashing.text_hash.Goals as goal

pub loop-byte-preserved : goal.loop-byte-preserved
loop-byte-preserved c =
    ap₂ with_byte c.loop-byte.invariant c.from.ensures
    ∙ sym (fold_more with_byte 0 c.as_bytes-byte-items.result.now c.loop-byte.byte-index 0 c.loop-byte-test.true)
