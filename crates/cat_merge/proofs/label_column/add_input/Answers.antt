use Rattle.std.proofs.Common.{◌≡◌, ◌++◌, map, refl, sym, ap, ap₂, ◌∙◌, subst, arith}
use Rattle.std.specs.Prelude.{All}
use Rattle.std.proofs.lemmas.Grind.{elements}
use Rattle.std.specs.Prelude.{Contains}
use Rattle.cat_model.specs.Layout.{ordinal_in}
use Rattle.cat_model.specs.Item.{Content, labels_in}
use Rattle.cat_model.specs.View.{selected}
use Rattle.cat_views.specs.cat_segment.Contents.{contents_of}
use Rattle.cat_merge.proofs.Cuts.{on_ok}
use Rattle.cat_merge.proofs.Read.{values_told}
use Rattle.cat_merge.specs.Fields.{labels_under}
use Rattle.cat_merge.proofs.label_column.add_input.Goals as goal

pub add_rows-requires-clause-there : goal.add_rows-requires-clause-there
add_rows-requires-clause-there c =
    let told = values_told Content.labels labels_in (λ n. refl) c.args.index c.args.input.now.segment.rows c.in-Facet.facet (ap contents_of (sym c.in-Facet.is) ∙ c.column.ensures.contents) in
    let same : selected c.live.result.now c.labels-labels.result.now ≡ selected c.args.input.now.live (labels_under c.args.index c.args.input.now.segment.rows)
    = ap₂ selected c.live.ensures.value (c.labels-labels.ensures ∙ told) in
    subst (λ l. All (All (Contains c.args.words.now)) l) (sym same) c.requires.there

pub returns : goal.returns
returns c =
    let told = values_told Content.labels labels_in (λ n. refl) c.args.index c.args.input.now.segment.rows c.in-Facet.facet (ap contents_of (sym c.in-Facet.is) ∙ c.column.ensures.contents) in
    let same : selected c.live.result.now c.labels-labels.result.now ≡ selected c.args.input.now.live (labels_under c.args.index c.args.input.now.segment.rows)
    = ap₂ selected c.live.ensures.value (c.labels-labels.ensures ∙ told) in
    on_ok c.add_rows.result (c.add_rows.new.rows ≡ c.args.rows.now ++ map (map (ordinal_in c.args.words.now)) (selected c.live.result.now c.labels-labels.result.now))
    (c.add_rows.new.rows ≡ c.args.rows.now ++ map (map (ordinal_in c.args.words.now)) (selected c.args.input.now.live (labels_under c.args.index c.args.input.now.segment.rows)))
    c.add_rows.ensures (λ e. e ∙ ap (λ l. c.args.rows.now ++ map (map (ordinal_in c.args.words.now)) l) same)

pub add_rows-requires-clause-long : goal.add_rows-requires-clause-long
add_rows-requires-clause-long c = grind (arith, elements)
