use Rattle.std.proofs.Common.{◌≡◌, ◌++◌, length, ap, ◌∙◌, rules}
use Rattle.std.specs.List.{flat_map}
use Rattle.cat_base.specs.Bytes.{spelled_bytes, spelled_u32}
use Rattle.cat_items.proofs.file_parts.Puts.{put_two, put_more, put_all}
use Rattle.cat_items.proofs.file_parts.writing.put_texts.Goals as goal

pub loop-text-preserved : goal.loop-text-preserved
loop-text-preserved c =
    put_more spelled_bytes c.args.texts.now c.loop-text.text-index c.text-item.result c.put_count.new.out.items c.loop-text.out.items c.put_text.new.out.items c.loop-text-test.true
    (c.in_ok-put_text.ensures ∙ ap (λ t. c.loop-text.out.items ++ spelled_bytes t) (c.as_str.ensures ∙ c.text-item.is)) c.loop-text.invariant

pub returns : goal.returns
returns c =
    let old = c.args.out.now.items in
    let texts = c.args.texts.now in
    let counted : c.put_count.new.out.items ≡ old ++ spelled_u32 (length texts) = search rules in
    put_two old c.put_count.new.out.items c.loop-text.out.items (spelled_u32 (length texts)) (flat_map spelled_bytes texts)
    counted (put_all spelled_bytes texts c.loop-text.text-index c.put_count.new.out.items c.loop-text.out.items c.loop-text-test.false c.loop-text.invariant)
