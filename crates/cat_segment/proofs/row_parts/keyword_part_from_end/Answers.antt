use Rattle.std.proofs.Common.{◌≡◌, ◌<◌, ◌-◌, [], map, length, get_or, sym, ap, ◌∙◌, arith}
use Rattle.std.specs.Prelude.{reverse}
use Rattle.std.proofs.lemmas.List.{get_or-reverse, length-reverse}
use Rattle.cat_model.specs.Ordinals.{dictionary_of, postings_of, text_at, texts_of}
use Rattle.cat_segment.proofs.Grouped.{length-last, part_of_text, part_of_none}
use Rattle.cat_segment.proofs.row_parts.keyword_part_from_end.Goals as goal

pub returns-then-place-count : goal.returns-then-place-count
returns-then-place-count c =
    let values = c.args.keywords.now in
    let texts = dictionary_of (map texts_of values) in
    let place = c.args.place in
    let many : length c.words-count.result.now ≡ length texts = ap length c.words-count.ensures.value ∙ ap (λ ts. length (dictionary_of ts)) c.terms-terms.ensures in
    let within : place < length texts = omega (arith, c.if-place-count.true, many) in
    let here : text_at texts (length c.words-count.result.now - 1 - place) ≡ text_at (reverse texts) place = ap (λ n. get_or texts (n - 1 - place) []) many ∙ sym (get_or-reverse texts place [] within) in
    c.postings_at.ensures.value ∙ ap (λ ts. postings_of (text_at (dictionary_of ts) (length c.words-count.result.now - 1 - place)) ts) c.terms-terms.ensures
    ∙ ap (λ t. postings_of t (map texts_of values)) here ∙ sym (part_of_text values (reverse texts) place (omega (arith, within, length-reverse texts)))

pub returns-else-place-count : goal.returns-else-place-count
returns-else-place-count c =
    let values = c.args.keywords.now in
    let texts = dictionary_of (map texts_of values) in
    let many : length c.words-count.result.now ≡ length texts = ap length c.words-count.ensures.value ∙ ap (λ ts. length (dictionary_of ts)) c.terms-terms.ensures in
    c.missing.ensures
    ∙ sym (part_of_none values (reverse texts) c.args.place (omega (arith, c.requires, length-last values (reverse texts), length-reverse texts, c.if-place-count.false, many)))
