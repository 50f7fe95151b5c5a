use Rattle.std.proofs.Common.{◌≡◌, length, map, sym, ap, ◌∙◌}
use Rattle.std.proofs.lemmas.List.{length-map}
use Rattle.std.specs.List.{flat_map}
use Rattle.std.specs.Prelude.{All}
use Rattle.cat_model.specs.Item.{Kind}
use Rattle.cat_columns.specs.Merged.{kept_of}
use Rattle.cat_columns.proofs.Merged.{if_ok}
use Rattle.cat_views.specs.cat_segment.Laid.{content_under}
use Rattle.cat_merge.specs.Fields.{texts_read, texts_under, texts_at, field_kind_at, kept_rows, HasField}
use Rattle.cat_merge.proofs.Codes.{parts_keep, parts_numbered, parts_fit}
use Rattle.cat_merge.proofs.Read.{kept_long, kept_texts}
use Rattle.cat_merge.proofs.merged_terms.merged_terms.Goals as goal

pub merge-requires-clause-fits : goal.merge-requires-clause-fits
merge-requires-clause-fits c =
    parts_fit (λ p. p.row_map.now) (λ p. p.terms.now) (texts_at c.args.index) c.deref.result.now c.args.inputs.now
    (ap (map (λ p. p.row_map.now)) c.deref.ensures.value ∙ c.in_ok-terms_in.ensures.maps) (ap (map (λ p. p.terms.now)) c.deref.ensures.value ∙ c.in_ok-terms_in.ensures.terms)
    (λ leaf. length-map leaf.segment.rows (λ r. texts_read (field_kind_at c.args.index leaf) (content_under c.args.index r))) c.requires.inputs

pub merge-requires-clause-numbered : goal.merge-requires-clause-numbered
merge-requires-clause-numbered c =
    parts_numbered (λ p. p.row_map.now) c.deref.result.now c.args.inputs.now (ap (map (λ p. p.row_map.now)) c.deref.ensures.value ∙ c.in_ok-terms_in.ensures.maps)

pub merge-requires-clause-count : goal.merge-requires-clause-count
merge-requires-clause-count c =
    ap length (parts_keep (λ p. p.row_map.now) (λ p. p.terms.now) (texts_at c.args.index) c.deref.result.now c.args.inputs.now
    (ap (map (λ p. p.row_map.now)) c.deref.ensures.value ∙ c.in_ok-terms_in.ensures.maps) (ap (map (λ p. p.terms.now)) c.deref.ensures.value ∙ c.in_ok-terms_in.ensures.terms))
    ∙ kept_long (λ leaf r. texts_read (field_kind_at c.args.index leaf) (content_under c.args.index r)) c.args.inputs.now ∙ sym c.requires.rows

pub returns : goal.returns
returns c = record {
  ok = if_ok (λ t. t ≡ flat_map (λ p. kept_of p.row_map.now p.terms.now) c.deref.result.now)
      (λ t. (kind : Kind) → All (HasField kind c.args.index) c.args.inputs.now → t ≡ texts_under kind c.args.index (kept_rows c.args.inputs.now))
      (λ t e kind all. e ∙ parts_keep (λ p. p.row_map.now) (λ p. p.terms.now) (texts_at c.args.index) c.deref.result.now c.args.inputs.now
      (ap (map (λ p. p.row_map.now)) c.deref.ensures.value ∙ c.in_ok-terms_in.ensures.maps) (ap (map (λ p. p.terms.now)) c.deref.ensures.value ∙ c.in_ok-terms_in.ensures.terms)
      ∙ kept_texts kind c.args.index c.args.inputs.now all)
      c.merge.result c.merge.ensures.ok;
}
