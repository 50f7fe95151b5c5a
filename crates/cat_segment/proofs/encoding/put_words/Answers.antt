use Rattle.std.proofs.Common.{◌≡◌, ◌<◌, ◌++◌, List, [], length, get_or, ap, sym, ◌∙◌, append_assoc, arith}
use Rattle.std.proofs.lemmas.List.{get_or-map, length-map, get_or_read, take_all}
use Rattle.std.specs.List.{flat_map}
use Rattle.std.proofs.lemmas.Grind.{elements}
use Rattle.cat_base.specs.Bytes.{spelled_u32}
use Rattle.cat_model.specs.Text.{Text}
use Rattle.cat_model.specs.Layout.{WordPostings, word_postings_of, spelled_postings}
use Rattle.cat_model.specs.Ordinals.{dictionary_of, postings_of}
use Rattle.cat_segment.proofs.Spelled.{spelled_next}
use Rattle.cat_segment.proofs.encoding.put_words.Goals as goal

pub loop-ordinal-preserved : goal.loop-ordinal-preserved
loop-ordinal-preserved c =
    let terms = c.args.terms.now in
    let words : List Text = dictionary_of terms in
    let make : Text → WordPostings = λ w. record { word = w; rows = postings_of w terms } in
    let none : WordPostings = record { word = []; rows = [] } in
    let i = c.loop-ordinal.ordinal in
    let within : i < length words = omega (arith, c.loop-ordinal-test.true, ap length c.words-words.ensures.value) in
    let word : c.index-words-ordinal.result ≡ get_or words i [] =
    get_or_read c.words-words.result.now i c.index-words-ordinal.result c.loop-ordinal-test.true c.index-words-ordinal.is [] ∙ ap (λ l. get_or l i []) c.words-words.ensures.value in
    let here = c.as_str.ensures ∙ word in
    let rows = c.postings_at.ensures.value in
    let made : record { word = c.as_str.result.now; rows = c.postings_at.result.now } ≡ make (get_or words i []) = λ j. record { word = here j; rows = rows j } in
    spelled_next spelled_postings (word_postings_of terms) i _ none (c.args.out.now.items ++ spelled_u32 (length (word_postings_of terms))) c.loop-ordinal.out.items _
    (omega (arith, within, length-map {B = WordPostings} words make))
    (made ∙ sym (get_or-map make words i [] none within))
    c.in_ok-put_posted.ensures c.loop-ordinal.invariant

pub returns : goal.returns
returns c =
    let terms = c.args.terms.now in
    let posted = word_postings_of terms in
    let make : Text → WordPostings = λ w. record { word = w; rows = postings_of w terms } in
    let count = spelled_u32 (length posted) in record {
      ok = c.loop-ordinal.invariant
          ∙ ap (λ l. (c.args.out.now.items ++ count) ++ flat_map spelled_postings l)
          (take_all c.loop-ordinal.ordinal posted (omega (arith, c.loop-ordinal-test.false, ap length c.words-words.ensures.value, length-map {B = WordPostings} (dictionary_of terms) make)))
          ∙ append_assoc c.args.out.now.items count (flat_map spelled_postings posted);
    }

pub loop-ordinal-init : goal.loop-ordinal-init
loop-ordinal-init c = grind (arith, elements)
