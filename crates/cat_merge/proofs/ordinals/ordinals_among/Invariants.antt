use Rattle.std.proofs.Common.{◌+◌, ◌<◌, ◌^◌, take}
use Rattle.std.specs.Prelude.{All}
use Rattle.cat_merge.specs.Coded.{AreOrdinalsAmong}
use Rattle.cat_merge.proofs.ordinals.ordinals_among.Given as goal

abbrev pub invariant-loop-text : goal.invariant-loop-text
invariant-loop-text l = record {
  ordinals : AreOrdinalsAmong l.words (take l.text-index l.texts) l.ordinals.items;
  bound : All (λ o. o + 1 < 2 ^ 32) l.ordinals.items;
}
