use Rattle.std.proofs.Common.{◌≡◌, ◌++◌, length, take}
use Rattle.std.specs.List.{flat_map}
use Rattle.cat_base.specs.Bytes.{spelled_u32}
use Rattle.cat_model.specs.Layout.{word_postings_of, spelled_postings}
use Rattle.cat_segment.proofs.encoding.put_words.Given as goal

abbrev pub invariant-loop-ordinal : goal.invariant-loop-ordinal
invariant-loop-ordinal l = l.out.items ≡ (l.fn.out.items ++ spelled_u32 (length (word_postings_of l.terms))) ++ flat_map spelled_postings (take l.ordinal (word_postings_of l.terms))
