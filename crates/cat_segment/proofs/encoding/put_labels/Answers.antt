use Rattle.std.proofs.Common.{◌++◌, ℕ, List, [], map, ap, sym, ◌∙◌, append_assoc, arith}
use Rattle.std.proofs.lemmas.List.{get_or-map, length-map, take_all}
use Rattle.std.specs.List.{flat_map}
use Rattle.cat_model.specs.Layout.{ordinal_in, spelled_list, spelled_texts}
use Rattle.cat_model.specs.Ordinals.{dictionary_of}
use Rattle.cat_segment.proofs.Spelled.{spelled_next}
use Rattle.cat_segment.proofs.encoding.put_labels.Goals as goal

pub loop-row-preserved : goal.loop-row-preserved
loop-row-preserved c =
    let labels = c.args.labels.now in
    let laid : List (List ℕ) = map (map (ordinal_in (dictionary_of labels))) labels in
    spelled_next spelled_list laid c.loop-row.row c.ordinals.result.now [] (c.args.out.now.items ++ spelled_texts (dictionary_of labels)) c.loop-row.out.items _
    (omega (arith, c.loop-row-test.true, c.len-row-end.ensures.value, length-map labels (map (ordinal_in (dictionary_of labels)))))
    (c.ordinals.ensures.laid ∙ sym (get_or-map (map (ordinal_in (dictionary_of labels))) labels c.loop-row.row [] [] (omega (arith, c.loop-row-test.true, c.len-row-end.ensures.value))))
    c.in_ok-put_list.ensures c.loop-row.invariant

pub returns : goal.returns
returns c =
    let labels = c.args.labels.now in
    let laid : List (List ℕ) = map (map (ordinal_in (dictionary_of labels))) labels in
    let texts = spelled_texts (dictionary_of labels) in record {
      ok = c.loop-row.invariant
          ∙ ap (λ l. (c.args.out.now.items ++ texts) ++ flat_map spelled_list l)
          (take_all c.loop-row.row laid (omega (arith, c.loop-row-test.false, c.len-row-end.ensures.value, length-map labels (map (ordinal_in (dictionary_of labels))))))
          ∙ append_assoc c.args.out.now.items texts (flat_map spelled_list laid);
    }
