use Rattle.std.proofs.Common.{not, sym, ap, ◌∙◌}
use Rattle.std.specs.Option.{option_map}
use Rattle.cat_model.specs.Text.{Text, text_le}
use Rattle.cat_model.specs.Query.{open_or}
use Rattle.cat_columns.proofs.inverted.Intervals.{text_lt, lt_not_le}
use Rattle.cat_columns.proofs.inverted.ranges.is_below.Goals as goal

pub returns-in-Some : goal.returns-in-Some
returns-in-Some c =
    let low = c.in-Some.low.now in
    let word = c.args.word.now in
    c.lt.ensures ∙ ap (λ (w : Text). text_lt w low) c.as_str.ensures ∙ lt_not_le low word
    ∙ ap (λ o. not (open_or (λ a. text_le a word) (option_map (λ a. a.now) o))) (sym c.in-Some.is)
