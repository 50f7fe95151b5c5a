use Rattle.std.proofs.Common.{sym}
use Rattle.cat_query.proofs.Backslashes.{no_close, closes_at, close_cut, quote_cut, quoted_is}
use Rattle.cat_query.proofs.escapes.quoted.Goals as goal

pub returns-in_err-end-clause-parts : goal.returns-in_err-end-clause-parts
returns-in_err-end-clause-parts c =
    let none = rw c.as_bytes.ensures.value at c.in_err-end.ensures in
    rw c.from_residual.ensures (sym (no_close c.args.text.now none))

pub split_at-requires : goal.split_at-requires
split_at-requires c =
    let end = rw c.as_bytes.ensures.value at c.in_ok-end.ensures in
    close_cut c.args.text.now c.in_ok-end.end (closes_at c.args.text.now c.in_ok-end.end end)

pub range_from-requires : goal.range_from-requires
range_from-requires c =
    let end = rw c.as_bytes.ensures.value at c.in_ok-end.ensures in
    λ _. quote_cut c.args.text.now c.split_at.result.1.now c.in_ok-end.end c.utf8.text (closes_at c.args.text.now c.in_ok-end.end end) c.split_at.ensures.back

pub returns-clause-parts : goal.returns-clause-parts
returns-clause-parts c =
    let end = rw c.as_bytes.ensures.value at c.in_ok-end.ensures in
    rw c.range_from.ensures.value (quoted_is c.args.text.now c.split_at.result.0.now c.split_at.result.1.now c.in_ok-end.end (closes_at c.args.text.now c.in_ok-end.end end) c.split_at.ensures.front c.split_at.ensures.back)

pub returns-clause-escaped : goal.returns-clause-escaped
returns-clause-escaped c =
    let end = rw c.as_bytes.ensures.value at c.in_ok-end.ensures in
    rw c.split_at.ensures.front ((closes_at c.args.text.now c.in_ok-end.end end).right)
