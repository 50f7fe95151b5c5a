use Rattle.std.proofs.Common.{◌∙◌, [], length, sym, ap, subst}
use Rattle.std.proofs.lemmas.List.{get_or_default}
use Rattle.cat_columns.specs.Hints.{AllowFirst}
use Rattle.cat_columns.specs.TextHash.{text_hash}
use Rattle.cat_columns.proofs.Bits.{written_back}
use Rattle.cat_columns.proofs.Hinted.{allow_more}
use Rattle.cat_columns.proofs.hints.hints_of.Goals as goal

pub loop-place-preserved : goal.loop-place-preserved
loop-place-preserved c =
    let texts = c.args.texts.now in
    let old = c.loop-place.hints.items in
    let new = c.add.new.hints in
    let long = c.add.ensures.long ∙ ap length c.deref_mut.ensures.value in
    let back = written_back c.loop-place.hints.len new old long (sym c.deref_mut.ensures.len ∙ ap length c.deref_mut.ensures.value) in
    let before = subst (AllowFirst texts c.loop-place.place) (sym c.deref_mut.ensures.value) c.loop-place.invariant.1 in
    let at = c.as_str.ensures ∙ c.index-texts-place.is ∙ get_or_default texts c.loop-place.place c.index-texts-place.result [] c.loop-place-test.true in
    let more = allow_more texts c.loop-place.place c.text_hash.result c.deref_mut.result.now new before (c.text_hash.ensures ∙ ap text_hash at) c.add.ensures.here c.add.ensures.kept in
    rw back (long ∙ c.loop-place.invariant.0, more)
