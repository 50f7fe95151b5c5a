use Rattle.std.proofs.Common.{◌<◌, map, length, sym, ap, ◌∙◌, arith}
use Rattle.cat_model.specs.Ordinals.{dictionary_of, postings_of, text_at, texts_of}
use Rattle.cat_segment.proofs.Grouped.{length-last, part_of_text, part_of_none}
use Rattle.cat_segment.proofs.row_parts.keyword_part.Goals as goal

pub returns-then-ordinal-words : goal.returns-then-ordinal-words
returns-then-ordinal-words c =
    let values = c.args.keywords.now in
    let texts = dictionary_of (map texts_of values) in
    let within : c.args.ordinal < length texts = omega (arith, c.if-ordinal-words.true, ap length c.words.ensures.value, ap (λ ts. length (dictionary_of ts)) c.terms-terms.ensures) in
    c.postings_at.ensures.value ∙ ap (λ ts. postings_of (text_at (dictionary_of ts) c.args.ordinal) ts) c.terms-terms.ensures ∙ sym (part_of_text values texts c.args.ordinal within)

pub returns-else-ordinal-words : goal.returns-else-ordinal-words
returns-else-ordinal-words c =
    let values = c.args.keywords.now in
    let texts = dictionary_of (map texts_of values) in
    c.missing.ensures
    ∙ sym (part_of_none values texts c.args.ordinal (omega (arith, c.requires, length-last values texts, c.if-ordinal-words.false, ap length c.words.ensures.value, ap (λ ts. length (dictionary_of ts)) c.terms-terms.ensures)))
