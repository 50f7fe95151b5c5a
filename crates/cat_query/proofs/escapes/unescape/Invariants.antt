use Rattle.std.proofs.Common.{◌≡◌, ◌++◌, length, IsUtf8}
use Rattle.std.specs.Prelude.{string_bytes}
use Rattle.cat_query.specs.Escapes.{unescaped}
use Rattle.cat_query.proofs.escapes.unescape.Given as goal

abbrev pub invariant-loop-out : goal.invariant-loop-out
invariant-loop-out l = record { text : IsUtf8 l.rest; so : string_bytes l.out ++ unescaped l.rest ≡ unescaped l.text }

abbrev pub decreases-loop-out : goal.decreases-loop-out
decreases-loop-out l = length l.rest
