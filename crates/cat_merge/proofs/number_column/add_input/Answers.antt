use Rattle.std.proofs.Common.{◌≡◌, ◌++◌, refl, sym, ap, ap₂, ◌∙◌, arith}
use Rattle.std.proofs.lemmas.Grind.{elements}
use Rattle.cat_model.specs.Item.{Content, number_in}
use Rattle.cat_model.specs.View.{selected}
use Rattle.cat_views.specs.cat_segment.Contents.{contents_of}
use Rattle.cat_views.specs.cat_segment.declared.column.Column.TheVariants as columns
use Rattle.cat_merge.proofs.Cuts.{on_ok}
use Rattle.cat_merge.proofs.Read.{values_told}
use Rattle.cat_merge.specs.Fields.{numbers_under}
use Rattle.cat_merge.proofs.number_column.add_input.Goals as goal

pub returns : goal.returns
returns c =
    let told = values_told Content.number number_in (λ n. refl) c.args.index c.args.input.now.segment.rows c.values.result.now
    (ap contents_of (ap columns.Number c.values.ensures ∙ sym c.in-Number.is) ∙ c.column.ensures.contents) in
    on_ok c.add_numbers.result (c.add_numbers.new.numbers.items ≡ c.args.numbers.now.items ++ selected c.live.result.now c.values.result.now)
    (c.add_numbers.new.numbers.items ≡ c.args.numbers.now.items ++ selected c.args.input.now.live (numbers_under c.args.index c.args.input.now.segment.rows))
    c.add_numbers.ensures (λ e. e ∙ ap₂ (λ a b. c.args.numbers.now.items ++ selected a b) c.live.ensures.value told)

pub add_numbers-requires : goal.add_numbers-requires
add_numbers-requires c = grind (arith, elements)
