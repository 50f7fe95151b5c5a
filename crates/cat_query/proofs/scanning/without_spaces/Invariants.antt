use Rattle.std.proofs.Common.{◌≡◌, length}
use Rattle.std.specs.Str.{IsUtf8}
use Rattle.cat_model.specs.Reader.{after_spaces}
use Rattle.cat_query.proofs.scanning.without_spaces.Given as goal

abbrev pub invariant-loop-more : goal.invariant-loop-more
invariant-loop-more l = record { text : IsUtf8 l.rest; same : after_spaces l.rest ≡ after_spaces l.text }

abbrev pub decreases-loop-more : goal.decreases-loop-more
decreases-loop-more l = length l.rest
