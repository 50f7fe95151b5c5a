use Rattle.std.proofs.Common.{ap, subst}
use Rattle.std.specs.Prelude.{All}
use Rattle.cat_model.specs.Item.{Kind}
use Rattle.cat_items.specs.Kinds.{field_kind_of}
use Rattle.cat_merge.specs.Fields.{kept_rows, HasField}
use Rattle.cat_merge.proofs.Read.{words_column}
use Rattle.cat_merge.proofs.columns.merged_column.Goals as goal

pub returns-in_ok-merged_terms-in-Text : goal.returns-in_ok-merged_terms-in-Text
returns-in_ok-merged_terms-in-Text c =
    words_column (field_kind_of c.args.kind) c.args.index (kept_rows c.args.inputs.now) c.in_ok-merged_terms-in-Text.field-0 c.word_column.result (ap field_kind_of c.in-Text.is)
    (c.in_ok-merged_terms-in-Text.ensures.ok Kind.text (subst (λ k. All (HasField k c.args.index) c.args.inputs.now) (ap field_kind_of c.in-Text.is) c.requires.fields))
    c.word_column.ensures.cut c.word_column.ensures.laid c.word_column.ensures.few
