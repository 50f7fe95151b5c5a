use Rattle.std.proofs.Common.{◌≡◌, ◌++◌, length, map, ap, sym, ◌∙◌}
use Rattle.std.specs.List.{flat_map}
use Rattle.std.proofs.lemmas.List.{length-map}
use Rattle.cat_items.specs.file_parts.Parts.{spelled_start}
use Rattle.cat_model.specs.Layout.{column_of, head_of, layout_of, spelled_fields, spelled_head, spelled_column, spelled_layout}
use Rattle.cat_model.proofs.SegmentBytes.{spelled_as_laid}
use Rattle.cat_segment.proofs.Spelled.{put_whole}
use Rattle.cat_segment.proofs.encoding.encode_seg.Goals as goal

pub returns : goal.returns
returns c =
    let s = c.args.segment.now in
    let number = c.number.ensures in
    let rows = c.len.ensures.same ∙ sym (length-map s.rows head_of) in
    let laid : c.put_columns.new.out.items ≡ spelled_layout (layout_of s) =
    put_whole c.new-out.result.items (spelled_start s.number (length (map head_of s.rows))) c.put_start.new.out.items (spelled_fields s.schema) c.put_fields.new.out.items (flat_map spelled_head (map head_of s.rows)) c.put_heads.new.out.items
    (flat_map spelled_column (map (column_of s.rows) s.schema)) c.put_columns.new.out.items
    c.new-out.ensures.items
    (c.in_ok-put_start.ensures ∙ (λ i. c.new-out.result.items ++ spelled_start (number i) (rows i)))
    (c.in_ok-put_fields.ensures ∙ ap (λ fs. c.put_start.new.out.items ++ spelled_fields fs) c.schema.ensures)
    c.in_ok-put_heads.ensures.ok
    (c.in_ok-put_columns.ensures.ok ∙ ap (λ ls. c.put_heads.new.out.items ++ flat_map spelled_column ls) c.columns.ensures) in
    record { ok = record { number = c.requires; form = c.len.ensures.segment; spelled = laid ∙ sym (spelled_as_laid s) } }
