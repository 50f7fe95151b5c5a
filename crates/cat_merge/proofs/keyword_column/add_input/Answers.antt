use Rattle.std.proofs.Common.{◌≡◌, ◌++◌, map, refl, sym, ap, ap₂, ◌∙◌, subst, arith}
use Rattle.std.specs.Prelude.{All}
use Rattle.std.proofs.lemmas.Grind.{elements}
use Rattle.cat_model.specs.Layout.{code_in}
use Rattle.cat_columns.specs.Columns.{DictionaryHas}
use Rattle.cat_model.specs.Item.{Content, keyword_in}
use Rattle.cat_model.specs.View.{selected}
use Rattle.cat_views.specs.cat_segment.Contents.{contents_of}
use Rattle.cat_merge.proofs.Cuts.{on_ok}
use Rattle.cat_merge.proofs.Read.{values_told}
use Rattle.cat_merge.specs.Fields.{keywords_under}
use Rattle.cat_merge.proofs.keyword_column.add_input.Goals as goal

pub add_codes-requires-clause-there : goal.add_codes-requires-clause-there
add_codes-requires-clause-there c =
    let told = values_told Content.keyword keyword_in (λ n. refl) c.args.index c.args.input.now.segment.rows c.in-Keyword.keywords (ap contents_of (sym c.in-Keyword.is) ∙ c.column.ensures.contents) in
    let same : selected c.live.result.now c.values-values.result.now ≡ selected c.args.input.now.live (keywords_under c.args.index c.args.input.now.segment.rows)
    = ap₂ selected c.live.ensures.value (c.values-values.ensures ∙ told) in
    subst (λ l. All (DictionaryHas c.args.words.now) l) (sym same) c.requires.there

pub returns : goal.returns
returns c =
    let told = values_told Content.keyword keyword_in (λ n. refl) c.args.index c.args.input.now.segment.rows c.in-Keyword.keywords (ap contents_of (sym c.in-Keyword.is) ∙ c.column.ensures.contents) in
    let same : selected c.live.result.now c.values-values.result.now ≡ selected c.args.input.now.live (keywords_under c.args.index c.args.input.now.segment.rows)
    = ap₂ selected c.live.ensures.value (c.values-values.ensures ∙ told) in
    on_ok c.add_codes.result (c.add_codes.new.codes.items ≡ c.args.codes.now.items ++ map (code_in c.args.words.now) (selected c.live.result.now c.values-values.result.now))
    (c.add_codes.new.codes.items ≡ c.args.codes.now.items ++ map (code_in c.args.words.now) (selected c.args.input.now.live (keywords_under c.args.index c.args.input.now.segment.rows)))
    c.add_codes.ensures (λ e. e ∙ ap (λ l. c.args.codes.now.items ++ map (code_in c.args.words.now) l) same)

pub add_codes-requires-clause-long : goal.add_codes-requires-clause-long
add_codes-requires-clause-long c = grind (arith, elements)
