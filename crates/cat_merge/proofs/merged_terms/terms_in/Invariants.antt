use Rattle.std.proofs.Common.{◌≡◌, map, take}
use Rattle.cat_merge.specs.Fields.{texts_at}
use Rattle.cat_merge.specs.Maps.{codes_of}
use Rattle.cat_merge.proofs.merged_terms.terms_in.Given as goal

abbrev pub invariant-loop-place : goal.invariant-loop-place
invariant-loop-place l = record {
  terms : map (λ p. p.terms.now) l.parts.items ≡ map (texts_at l.index) (take l.place l.inputs);
  maps : map (λ p. p.row_map.now) l.parts.items ≡ take l.place (codes_of 0 l.inputs);
}
