use Rattle.std.proofs.Common.{◌≡◌, ℕ, ◌+◌, ◌*◌, ◌/◌, ◌<◌, length}
use Rattle.std.specs.Prelude.{All}
use Rattle.cat_model.specs.RowSets.{IsPacked}
use Rattle.cat_columns.specs.Bits.{is_set, has_row_bit}
use Rattle.cat_columns.proofs.Bytes.{IsPacked-of, from_three}
use Rattle.cat_columns.proofs.row_set.RowSet.to_bytes.Goals as goal

pub returns : goal.returns
returns c = record {
  ok = (from_three c.bytes_of.result (λ v. length v.items ≡ (c.self.inside.len + 7) / 8) (λ v. All (λ b. b < 256) v.items)
      (λ v. (row : ℕ) → row < 8 * ((c.self.inside.len + 7) / 8) → has_row_bit v.items row ≡ is_set c.deref.result.now row) (λ v. IsPacked v.items c.args.self.now)
      (λ v long fits bits. IsPacked-of c.self.inside.len c.self.inside.blocks.items c.deref.result.now v.items c.args.self.now c.self.invariant c.self.view_is c.deref.ensures.value long fits bits)
      c.bytes_of.ensures.long c.bytes_of.ensures.bytes c.bytes_of.ensures.bits);
}
