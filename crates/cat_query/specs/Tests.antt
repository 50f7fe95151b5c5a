-- What a test says of what an item has in the field.
use Rattle.std.specs.Prelude.{Bool, ◌&&◌, Option}
use Rattle.std.specs.List.{list_any}
use Rattle.cat_model.specs.Text.{same_text, text_le, has_prefix}
use Rattle.cat_model.specs.Item.{Content, words_in, labels_in, keyword_in, number_in}
use Rattle.cat_model.specs.Query.{has_some, open_or, int_le}
use Rattle.cat_query.specs.declared.query.Test.{Test}
use Rattle.cat_query.specs.declared.query.Test.TheVariants as test

abbrev pub passes : Test → Option Content → Bool
passes (test.Word w) c = list_any (same_text w) (words_in c)
passes (test.WordPrefix p) c = list_any (has_prefix p) (words_in c)
passes (test.Keyword k) c = has_some (same_text k) (keyword_in c)
passes (test.KeywordPrefix p) c = has_some (has_prefix p) (keyword_in c)
passes (test.KeywordRange low high) c = has_some (λ k. open_or (λ a. text_le a k) low && open_or (text_le k) high) (keyword_in c)
passes (test.Number n) c = has_some (λ m. int_le n m && int_le m n) (number_in c)
passes (test.NumberRange low high) c = has_some (λ n. open_or (λ a. int_le a n) low && open_or (int_le n) high) (number_in c)
passes (test.Label l) c = list_any (same_text l) (labels_in c)
passes (test.LabelPrefix p) c = list_any (has_prefix p) (labels_in c)
