use Rattle.std.proofs.Common.{◌+◌, ◌-◌, ◌≤◌, length, take, drop, sym, ap, ◌∙◌, arith, rules}
use Rattle.cat_columns.specs.inverted.Postings.{start_of}
use Rattle.cat_columns.proofs.inverted.Parts.{starts_rise, starts_within, parts_are}
use Rattle.cat_columns.proofs.inverted.terms.parts.Goals as goal

pub slice_bounds-result-count : goal.slice_bounds-result-count
slice_bounds-result-count c = omega (arith, c.start_of.ensures.value, c.start_of-2.ensures.value, starts_rise 0 c.args.ends.now (length c.args.rows.now) c.args.first (c.args.first + c.args.count) c.requires.ends)

pub slice_bounds-result-start : goal.slice_bounds-result-start
slice_bounds-result-start c =
    let rise : c.start_of.result ≤ c.start_of-2.result = omega (arith, c.start_of.ensures.value, c.start_of-2.ensures.value, starts_rise 0 c.args.ends.now (length c.args.rows.now) c.args.first (c.args.first + c.args.count) c.requires.ends) in
    let start_within : c.start_of.result ≤ length c.args.rows.now = omega (arith, c.start_of.ensures.value, starts_within 0 c.args.ends.now (length c.args.rows.now) c.args.first c.requires.ends) in
    let end_within : c.start_of-2.result ≤ length c.args.rows.now = omega (arith, c.start_of-2.ensures.value, starts_within 0 c.args.ends.now (length c.args.rows.now) (c.args.first + c.args.count) c.requires.ends) in
    search rules

pub slice_bounds-result-end : goal.slice_bounds-result-end
slice_bounds-result-end c =
    let within : c.start_of-2.result ≤ length c.args.rows.now = omega (arith, c.start_of-2.ensures.value, starts_within 0 c.args.ends.now (length c.args.rows.now) (c.args.first + c.args.count) c.requires.ends) in
    search rules

pub returns : goal.returns
returns c =
    let start = c.start_of.ensures.value in
    let end = c.start_of-2.ensures.value in
    ap (λ n. take (n - c.start_of.result) (drop c.start_of.result c.args.rows.now)) end
    ∙ ap (λ n. take (start_of 0 c.args.ends.now (c.args.first + c.args.count) - n) (drop n c.args.rows.now)) start
    ∙ sym (parts_are 0 c.args.ends.now c.args.rows.now (length c.args.rows.now) c.args.first c.args.count c.requires.ends c.requires.within)
