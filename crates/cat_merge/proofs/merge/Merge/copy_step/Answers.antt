use Rattle.cat_merge.specs.declared.making.Parts.{Parts}
use Rattle.cat_merge.specs.Walk.{AreInputs}
use Rattle.cat_merge.specs.Making.{AreParts}
use Rattle.cat_model.specs.Layout.{head_of}
use Rattle.cat_model.specs.Item.{Schema}
use Rattle.std.proofs.Common.{◌≡◌, ◌∙◌, ℕ, ◌+◌, ◌-◌, ◌++◌, List, length, ap, subst, sym, arith, ◌≤◌, map, take}
use Rattle.std.specs.Prelude.{min, All}
use Rattle.std.specs.List.{flat_map}
use Rattle.std.proofs.lemmas.Result.{IfOk-from_err, MatchResult-from_err}
use Rattle.cat_ledger_laws.specs.model.Stored.{joined_sources}
use Rattle.cat_model.specs.Limits.{step_limit}
use Rattle.cat_model.specs.Merged.{records_kept, rows_of_all, rows_kept}
use Rattle.cat_model.specs.View.{Leaf}
use Rattle.cat_merge.specs.Copied.{bytes_in}
use Rattle.cat_merge.specs.Merging.{MergeUnderWay}
use Rattle.cat_merge.specs.Places.{passed_at, IsPlace}
use Rattle.cat_merge.specs.Ranges.{AreWithin}
use Rattle.cat_merge.specs.declared.place.Place.{Place}
use Rattle.cat_merge.specs.declared.sources.SourceRange.{SourceRange}
use Rattle.cat_merge.proofs.merge.Merge.copy_step.Goals as goal

-- a step passes as many rows as it may
stepped : (a b : MergeUnderWay) (n : ℕ) → a ≡ b → n ≡ min step_limit (length (rows_of_all a.inputs) - a.passed)
    → record a { passed = a.passed + n } ≡ record b { passed = b.passed + min step_limit (length (rows_of_all b.inputs) - b.passed) }
stepped a b n is many =
    ap (λ (k : ℕ). record a { passed = a.passed + k }) many ∙ ap (λ (m : MergeUnderWay). record m { passed = m.passed + min step_limit (length (rows_of_all m.inputs) - m.passed) }) is

-- the ranges make the sources of the rows that it keeps
named : (a b : MergeUnderWay) (place : Place) (inputs : List Leaf) (n : ℕ) (ranges : List SourceRange) → a ≡ b → inputs ≡ a.inputs → passed_at a.inputs place ≡ a.passed
    → ((files : ℕ → List ℕ) → joined_sources (records_kept files inputs (passed_at inputs place)) ++ flat_map (bytes_in files) ranges ≡ joined_sources (records_kept files inputs (passed_at inputs place + n)))
    → (files : ℕ → List ℕ) → joined_sources (records_kept files b.inputs b.passed) ++ flat_map (bytes_in files) ranges ≡ joined_sources (records_kept files a.inputs (a.passed + n))
named a b place inputs n ranges is same so_far are files =
    ap (λ (m : MergeUnderWay). joined_sources (records_kept files m.inputs m.passed) ++ flat_map (bytes_in files) ranges) (sym is)
    ∙ subst (λ (p : ℕ). joined_sources (records_kept files a.inputs p) ++ flat_map (bytes_in files) ranges ≡ joined_sources (records_kept files a.inputs (p + n))) so_far
    (subst (λ (xs : List Leaf). joined_sources (records_kept files xs (passed_at xs place)) ++ flat_map (bytes_in files) ranges ≡ joined_sources (records_kept files xs (passed_at xs place + n))) same (are files))

pub returns-in-Ok : goal.returns-in-Ok
returns-in-Ok c =
    let before : MergeUnderWay = record { number = c.self.inside.number; schema = c.self.inside.schema; inputs = c.self.inside.inputs.items; passed = c.self.inside.passed } in
    let left : c.rows_left.result + before.passed ≡ length (rows_of_all before.inputs) = c.rows_left.ensures in
    let many : c.min-count.result ≡ min step_limit (length (rows_of_all before.inputs) - before.passed) = omega (arith, c.min-count.ensures, left) in
    record {
      ok = stepped before c.args.self.now c.min-count.result c.self.view_is many;
      sources = named before c.args.self.now c.self.inside.place c.deref-2.result.now c.min-count.result c.in-Ok.ranges.items c.self.view_is c.deref-2.ensures.value c.self.invariant.so_far c.in-Ok.ensures.ranges;
      apart = c.in-Ok.ensures.apart;
      within = subst (λ (xs : List Leaf). AreWithin xs c.in-Ok.ranges.items) (c.deref-2.ensures.value ∙ ap (λ (m : MergeUnderWay). m.inputs) c.self.view_is) c.in-Ok.ensures.within;
      err = tt;
    }

pub returns-in_err-step : goal.returns-in_err-step
returns-in_err-step c = record {
  ok = IfOk-from_err _ _ c.from_residual.ensures.0;
  sources = IfOk-from_err _ _ c.from_residual.ensures.0;
  apart = IfOk-from_err _ _ c.from_residual.ensures.0;
  within = IfOk-from_err _ _ c.from_residual.ensures.0;
  err = MatchResult-from_err _ _ _ c.from_residual.ensures.0 (λ _. c.self.view_is);
}

pub returns-in-Err : goal.returns-in-Err
returns-in-Err c = record { ok = tt; sources = tt; apart = tt; within = tt; err = c.self.view_is }

-- what was made of the parts, for the inputs and fields themselves
made_of : (fields schema : Schema) (lent inputs : List Leaf) (parts : Parts) → fields ≡ schema → lent ≡ inputs → AreParts fields lent parts → AreParts schema inputs parts
made_of fields schema lent inputs parts e f made = subst (λ (xs : List Leaf). AreParts schema xs parts) f (subst (λ (fs : Schema). AreParts fs lent parts) e made)

pub step-requires : goal.step-requires
step-requires c = record {
  inputs = subst AreInputs (sym c.deref.ensures.value) c.self.invariant.inputs_are;
  fields = subst (λ (xs : List Leaf). All (λ leaf. leaf.segment.schema ≡ c.fields.result.now) xs) (sym c.deref.ensures.value)
      (subst (λ (fs : Schema). All (λ leaf. leaf.segment.schema ≡ fs) c.self.inside.inputs.items) (sym c.fields.ensures.value) c.self.invariant.may.schemas);
  parts = made_of c.self.inside.schema c.fields.result.now c.self.inside.inputs.items c.deref.result.now c.self.inside.parts (sym c.fields.ensures.value) (sym c.deref.ensures.value) c.self.invariant.parts;
}

pub pass_rows-requires : goal.pass_rows-requires
pass_rows-requires c = record {
  inputs = subst AreInputs (sym c.deref-2.ensures.value) c.self.invariant.inputs_are;
  place = subst (λ (xs : List Leaf). IsPlace xs c.self.inside.place) (sym c.deref-2.ensures.value) c.self.invariant.place;
  room = subst (λ (xs : List Leaf). passed_at xs c.self.inside.place + c.min-count.result ≤ length (rows_of_all xs)) (sym c.deref-2.ensures.value)
      (omega (arith, c.self.invariant.so_far, c.rows_left.ensures, c.min-count.ensures));
  kept = c.self.invariant.kept ∙ ap (λ (n : ℕ). map head_of (rows_kept c.self.inside.inputs.items n)) (sym c.self.invariant.so_far)
      ∙ ap (λ (xs : List Leaf). map head_of (rows_kept xs (passed_at xs c.self.inside.place))) (sym c.deref-2.ensures.value);
}

pub invariant_of-self : goal.invariant_of-self
invariant_of-self c = record {
  may = c.self.invariant.may;
  inputs_are = c.self.invariant.inputs_are;
  all = c.self.invariant.all;
  within = c.self.invariant.within;
  place = c.self.invariant.place;
  so_far = c.self.invariant.so_far;
  kept = c.self.invariant.kept;
  parts = made_of c.fields.result.now c.self.inside.schema c.deref.result.now c.self.inside.inputs.items c.step.new.self c.fields.ensures.value c.deref.ensures.value c.in_err-step.ensures.parts;
}

pub invariant_of-self-in-Ok : goal.invariant_of-self-in-Ok
invariant_of-self-in-Ok c = record {
  may = c.self.invariant.may;
  inputs_are = c.self.invariant.inputs_are;
  all = c.self.invariant.all;
  within = omega (arith, c.self.invariant.all, c.rows_left.ensures, c.min-count.ensures);
  place = subst (λ (xs : List Leaf). IsPlace xs c.in-Ok.place) c.deref-2.ensures.value c.in-Ok.ensures.place;
  so_far = subst (λ (xs : List Leaf). passed_at xs c.in-Ok.place ≡ passed_at xs c.self.inside.place + c.min-count.result) c.deref-2.ensures.value c.in-Ok.ensures.passed
      ∙ ap (λ (n : ℕ). n + c.min-count.result) c.self.invariant.so_far;
  kept = subst (λ (xs : List Leaf). c.pass_rows.new.kept.items ≡ map head_of (rows_kept xs (passed_at xs c.self.inside.place + c.min-count.result))) c.deref-2.ensures.value c.in-Ok.ensures.kept
      ∙ ap (λ (n : ℕ). map head_of (rows_kept c.self.inside.inputs.items (n + c.min-count.result))) c.self.invariant.so_far;
  parts = made_of c.fields.result.now c.self.inside.schema c.deref.result.now c.self.inside.inputs.items c.step.new.self c.fields.ensures.value c.deref.ensures.value c.in_ok-step.ensures.parts;
}

pub invariant_of-self-in-Err : goal.invariant_of-self-in-Err
invariant_of-self-in-Err c = record {
  may = c.self.invariant.may;
  inputs_are = c.self.invariant.inputs_are;
  all = c.self.invariant.all;
  within = c.self.invariant.within;
  place = c.self.invariant.place;
  so_far = c.self.invariant.so_far;
  kept = c.truncate.ensures.items ∙ ap (λ (n : ℕ). take n c.pass_rows.new.kept.items) (c.len-before.ensures ∙ c.self.inside.kept.ok.0) ∙ c.in-Err.ensures.front ∙ c.self.invariant.kept;
  parts = made_of c.fields.result.now c.self.inside.schema c.deref.result.now c.self.inside.inputs.items c.step.new.self c.fields.ensures.value c.deref.ensures.value c.in_ok-step.ensures.parts;
}
