use Rattle.std.proofs.Common.{◌≡◌, List}
use Rattle.std.specs.Prelude.{Any}
use Rattle.cat_model.specs.View.{Leaf}
use Rattle.cat_merge.specs.Ranges.{AreWithin, IsWithin}
use Rattle.cat_merge.specs.declared.sources.SourceRange.{SourceRange}
use Rattle.cat_merge.proofs.Cuts.{on_ok}
use Rattle.cat_merge.proofs.Ranges.{source_within}
use Rattle.cat_merge.proofs.sources.add_source.Goals as goal

pub returns-clause-within : goal.returns-clause-within
returns-clause-within c =
    let range : SourceRange = record { segment = c.number.result; offset = c.source_offset.result; len = c.source_length.result } in
    on_ok c.add_range.result
    ((inputs : List Leaf) → AreWithin inputs c.args.ranges.now.items → Any (IsWithin range) inputs → AreWithin inputs c.add_range.new.ranges.items)
    ((inputs : List Leaf) → AreWithin inputs c.args.ranges.now.items → Any (λ (leaf : Leaf). leaf.segment ≡ c.args.segment.now) inputs → AreWithin inputs c.add_range.new.ranges.items)
    c.add_range.ensures.within
    (λ h inputs are there. h inputs are (source_within inputs c.args.segment.now c.args.row range c.requires c.number.ensures c.source_offset.ensures c.source_length.ensures there))
