use Rattle.std.proofs.Common.{◌≡◌, drop, false}
use Rattle.cat_query.specs.Escapes.{closing_quote_from}
use Rattle.cat_query.proofs.Backslashes.{counted}
use Rattle.cat_query.proofs.escapes.closing_quote.Given as goal

abbrev pub invariant-loop-i : goal.invariant-loop-i
invariant-loop-i l = counted l.i (closing_quote_from l.escaped (drop l.i l.bytes)) ≡ closing_quote_from false l.bytes
