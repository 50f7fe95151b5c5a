use Rattle.std.proofs.Common.{ℕ, ◌++◌, List, length, map, arith, sym, ap, ◌∙◌, subst}
use Rattle.std.specs.Prelude.{Any}
use Rattle.std.specs.List.{flat_map}
use Rattle.std.proofs.lemmas.List.{append-nil, take_all}
use Rattle.std.proofs.lemmas.List.Elements.{All-nil}
use Rattle.cat_model.specs.Layout.{head_of}
use Rattle.cat_model.specs.Merged.{rows_kept, records_kept}
use Rattle.cat_merge.specs.Copied.{bytes_in}
use Rattle.cat_ledger_laws.specs.model.Stored.{joined_sources}
use Rattle.cat_merge.specs.Places.{passed_at, IsRowPlace}
use Rattle.cat_merge.specs.Ranges.{AreRangesApart, AreWithin, IsWithin}
use Rattle.cat_merge.proofs.Passed.{row_place, fronts, heads_more, sources_more}
use Rattle.cat_merge.proofs.merge.pass_rows.Goals as goal

pub loop-init : goal.loop-init
loop-init c = record {
  place = c.requires.place;
  passed = omega arith;
  kept = c.requires.kept;
  ranges = λ files. let start : List ℕ = joined_sources (records_kept files c.args.inputs.now (passed_at c.args.inputs.now c.args.from)) in
      ap (λ l. start ++ flat_map (bytes_in files) l) c.new-ranges.ensures.items ∙ append-nil start;
  apart = subst AreRangesApart (sym c.new-ranges.ensures.items) tt;
  within = subst (AreWithin c.args.inputs.now) (sym c.new-ranges.ensures.items) (All-nil (λ r. Any (IsWithin r) c.args.inputs.now));
  front = take_all (length c.args.kept.now.items) c.args.kept.now.items (omega arith);
}

pub pass_row-requires : goal.pass_row-requires
pass_row-requires c = row_place c.args.inputs.now c.loop.place c.loop.invariant.place (omega (arith, c.loop.invariant.passed, c.requires.room, c.loop-test.true))

pub next-place-requires-clause-place : goal.next-place-requires-clause-place
next-place-requires-clause-place c = row_place c.args.inputs.now c.loop.place c.loop.invariant.place (omega (arith, c.loop.invariant.passed, c.requires.room, c.loop-test.true))

pub returns-in_err-pass_row-clause-front : goal.returns-in_err-pass_row-clause-front
returns-in_err-pass_row-clause-front c = fronts c.args.kept.now.items c.loop.kept.items c.pass_row.new.kept.items c.loop.invariant.front c.pass_row.ensures.front

pub loop-preserved : goal.loop-preserved
loop-preserved c =
    let is : IsRowPlace c.args.inputs.now c.loop.place
    = row_place c.args.inputs.now c.loop.place c.loop.invariant.place (omega (arith, c.loop.invariant.passed, c.requires.room, c.loop-test.true)) in
    record {
      place = c.next-place.ensures.place;
      passed = c.next-place.ensures.passed ∙ omega (arith, c.loop.invariant.passed);
      kept = heads_more c.args.inputs.now c.requires.inputs c.loop.place is c.loop.kept.items c.pass_row.new.kept.items c.loop.invariant.kept c.in_ok-pass_row.ensures.kept
          ∙ ap (λ n. map head_of (rows_kept c.args.inputs.now n)) (sym c.next-place.ensures.passed);
      ranges = λ files. sources_more c.args.inputs.now c.requires.inputs c.loop.place is files
          (joined_sources (records_kept files c.args.inputs.now (passed_at c.args.inputs.now c.args.from)))
          (flat_map (bytes_in files) c.loop.ranges.items) (flat_map (bytes_in files) c.pass_row.new.ranges.items) (c.loop.invariant.ranges files) (c.in_ok-pass_row.ensures.ranges files)
          ∙ ap (λ n. joined_sources (records_kept files c.args.inputs.now n)) (sym c.next-place.ensures.passed);
      apart = c.in_ok-pass_row.ensures.apart c.loop.invariant.apart;
      within = c.in_ok-pass_row.ensures.within c.loop.invariant.within;
      front = fronts c.args.kept.now.items c.loop.kept.items c.pass_row.new.kept.items c.loop.invariant.front c.pass_row.ensures.front;
    }

pub returns-clause-place : goal.returns-clause-place
returns-clause-place c = c.loop.invariant.place

pub returns-clause-passed : goal.returns-clause-passed
returns-clause-passed c = omega (arith, c.loop.invariant.passed, c.loop.auto.counter-end, c.loop-test.false)

pub returns-clause-kept : goal.returns-clause-kept
returns-clause-kept c = c.loop.invariant.kept ∙ ap (λ n. map head_of (rows_kept c.args.inputs.now n)) (returns-clause-passed c)

pub returns-clause-ranges : goal.returns-clause-ranges
returns-clause-ranges c = λ files. c.loop.invariant.ranges files ∙ ap (λ n. joined_sources (records_kept files c.args.inputs.now n)) (returns-clause-passed c)

pub returns-clause-front : goal.returns-clause-front
returns-clause-front c = c.loop.invariant.front

pub returns-clause-apart : goal.returns-clause-apart
returns-clause-apart c = c.loop.invariant.apart

pub returns-clause-within : goal.returns-clause-within
returns-clause-within c = c.loop.invariant.within
