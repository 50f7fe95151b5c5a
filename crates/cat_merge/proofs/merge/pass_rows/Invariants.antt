use Rattle.std.proofs.Common.{◌≡◌, ℕ, ◌+◌, ◌++◌, List, length, map, take}
use Rattle.std.specs.List.{flat_map}
use Rattle.cat_model.specs.Layout.{head_of}
use Rattle.cat_model.specs.Merged.{rows_kept, records_kept}
use Rattle.cat_merge.specs.Copied.{bytes_in}
use Rattle.cat_ledger_laws.specs.model.Stored.{joined_sources}
use Rattle.cat_merge.specs.Places.{passed_at, IsPlace}
use Rattle.cat_merge.specs.Ranges.{AreRangesApart, AreWithin}
use Rattle.cat_merge.proofs.merge.pass_rows.Given as goal

abbrev pub invariant-loop : goal.invariant-loop
invariant-loop l = record {
  place : IsPlace l.fn.inputs l.place;
  passed : passed_at l.fn.inputs l.place ≡ passed_at l.fn.inputs l.fn.from + l.counter;
  kept : l.kept.items ≡ map head_of (rows_kept l.fn.inputs (passed_at l.fn.inputs l.place));
  ranges : (files : ℕ → List ℕ) → joined_sources (records_kept files l.fn.inputs (passed_at l.fn.inputs l.fn.from)) ++ flat_map (bytes_in files) l.ranges.items
      ≡ joined_sources (records_kept files l.fn.inputs (passed_at l.fn.inputs l.place));
  apart : AreRangesApart l.ranges.items;
  within : AreWithin l.fn.inputs l.ranges.items;
  front : take (length l.fn.kept.items) l.kept.items ≡ l.fn.kept.items;
}
