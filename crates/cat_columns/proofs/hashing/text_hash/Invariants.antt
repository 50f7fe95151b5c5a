use Rattle.std.proofs.Common.{◌≡◌, take}
use Rattle.std.specs.List.{fold}
use Rattle.cat_columns.specs.TextHash.{with_byte}
use Rattle.cat_columns.proofs.hashing.text_hash.Given as goal

abbrev pub invariant-loop-byte : goal.invariant-loop-byte
invariant-loop-byte l = l.hash ≡ fold with_byte 0 (take l.byte-index l.byte-items)
