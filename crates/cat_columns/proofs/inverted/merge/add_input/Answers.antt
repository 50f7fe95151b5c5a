use Rattle.std.proofs.Common.{append-nil, refl, ℕ, ◌<◌, List, length, get_or, map, ap, sym, ◌∙◌, ◌++◌, subst, arith, if◌then◌else◌, []}
use Rattle.smallvec.specs.SmallVec.{SmallVec}
use Rattle.std.proofs.lemmas.List.{length-set, length-map, take_all}
use Rattle.std.specs.List.{list_any}
use Rattle.std.specs.Prelude.{All, Contains}
use Rattle.cat_base.specs.Texts.{IsTextSet}
use Rattle.cat_model.specs.Text.{Text, same_text}
use Rattle.cat_model.specs.Ordinals.{dictionary_of, text_at, postings_of}
use Rattle.cat_columns.specs.Merged.{moved}
use Rattle.cat_columns.specs.inverted.Gathered.{list_of_ordinal}
use Rattle.cat_columns.proofs.inverted.Merging.{part_more, part_whole}
use Rattle.cat_columns.proofs.inverted.merge.add_input.Goals as goal

pub loop-word-preserved : goal.loop-word-preserved
loop-word-preserved c =
    let words = c.args.words.now in
    let texts = c.args.input.now.terms.now in
    let codes = c.args.input.now.row_map.now in
    let ordinals = c.deref-ordinal-items.result.now in
    let j = c.loop-word.word in
    let o = get_or ordinals j 0 in
    let lists = c.loop-word.lists.items in
    let rising = subst IsTextSet c.words.ensures.value c.words.ensures.sorted in
    let same = ap (map (text_at words)) c.deref-ordinal-items.ensures.value ∙ c.in_ok-ordinals.ensures.texts ∙ c.words.ensures.value in
    let within : o < length words = subst (λ (os : List ℕ). get_or os j 0 < length words) (sym c.deref-ordinal-items.ensures.value) (c.in_ok-ordinals.ensures.bound j 0 (omega (arith, c.loop-word-test.true, ap length c.deref-ordinal-items.ensures.value))) in
    let added = c.in_ok-add_moved.ensures.ok ∙ ap (λ (rows : List ℕ). c.index_mut-list.result.now.items ++ moved codes rows) c.postings_at.ensures.value in
    record {
      count = length-set lists o c.add_moved.new.list ∙ c.loop-word.invariant.count;
      lists = λ q lt. part_more words texts codes ordinals c.requires.sorted rising same (λ (v : SmallVec ℕ). v.items) lists (list_of_ordinal c.args.lists.now) j c.add_moved.new.list c.index_mut-list.result.now c.loop-word-test.true within (c.loop-word.invariant.count ∙ c.requires.count) c.index_mut-list.ensures.value added q lt (c.loop-word.invariant.lists q lt);
    }

pub returns-clause-lists : goal.returns-clause-lists
returns-clause-lists c = λ q lt.
    let words = c.args.words.now in
    let texts = c.args.input.now.terms.now in
    let ordinals = c.deref-ordinal-items.result.now in
    let rising = subst IsTextSet c.words.ensures.value c.words.ensures.sorted in
    let same = ap (map (text_at words)) c.deref-ordinal-items.ensures.value ∙ c.in_ok-ordinals.ensures.texts ∙ c.words.ensures.value in
    let long = sym (length-map ordinals (text_at words)) ∙ ap length same in
    c.loop-word.invariant.lists q lt
    ∙ ap (λ (ws : List Text). list_of_ordinal c.args.lists.now q ++ (if list_any (same_text (text_at words q)) ws then moved c.args.input.now.row_map.now (postings_of (text_at words q) texts) else [])) (take_all c.loop-word.word (dictionary_of texts) (omega (arith, c.loop-word-test.false, long)))
    ∙ ap (λ (l : List ℕ). list_of_ordinal c.args.lists.now q ++ l) (part_whole words texts c.args.input.now.row_map.now ordinals c.requires.sorted rising same (text_at words q))

pub returns-clause-sets : goal.returns-clause-sets
returns-clause-sets c = c.len-rows.ensures.sets

pub returns-clause-count : goal.returns-clause-count
returns-clause-count c = c.loop-word.invariant.count

pub returns-in_err-ordinals-clause-sets : goal.returns-in_err-ordinals-clause-sets
returns-in_err-ordinals-clause-sets c = c.len-rows.ensures.sets

pub returns-in_err-add_moved-clause-sets : goal.returns-in_err-add_moved-clause-sets
returns-in_err-add_moved-clause-sets c = c.len-rows.ensures.sets

pub returns-in_err-add_moved-clause-count : goal.returns-in_err-add_moved-clause-count
returns-in_err-add_moved-clause-count c = length-set c.loop-word.lists.items (get_or c.deref-ordinal-items.result.now c.loop-word.word 0) c.add_moved.new.list ∙ c.loop-word.invariant.count

pub loop-word-init : goal.loop-word-init
loop-word-init c = record { count = refl; lists = λ o lt. sym (append-nil (list_of_ordinal c.args.lists.now o)) }

pub remap-requires-clause-few : goal.remap-requires-clause-few
remap-requires-clause-few c = c.requires.few

pub remap-requires-clause-there : goal.remap-requires-clause-there
remap-requires-clause-there c = subst (All (Contains c.args.words.now)) (sym c.words.ensures.value) c.requires.there

pub postings_at-requires : goal.postings_at-requires
postings_at-requires c =
    let words = c.args.words.now in
    let same = ap (map (text_at words)) c.deref-ordinal-items.ensures.value ∙ c.in_ok-ordinals.ensures.texts ∙ c.words.ensures.value in
    let long = sym (length-map c.deref-ordinal-items.result.now (text_at words)) ∙ ap length same in
    omega (arith, c.loop-word-test.true, long)

pub add_moved-requires : goal.add_moved-requires
add_moved-requires c = subst (λ (n : ℕ). All (λ r. r < n) c.postings_at.result.now) (sym c.requires.fits) c.postings_at.ensures.within

pub index_mut-list-requires : goal.index_mut-list-requires
index_mut-list-requires c =
    let words = c.args.words.now in
    let o = get_or c.deref-ordinal-items.result.now c.loop-word.word 0 in
    let within : o < length words = subst (λ (os : List ℕ). get_or os c.loop-word.word 0 < length words) (sym c.deref-ordinal-items.ensures.value) (c.in_ok-ordinals.ensures.bound c.loop-word.word 0 (omega (arith, c.loop-word-test.true, ap length c.deref-ordinal-items.ensures.value))) in
    omega (arith, within, c.loop-word.invariant.count, c.requires.count)
