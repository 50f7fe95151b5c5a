use Rattle.std.proofs.Common.{refl}
use Rattle.cat_model.specs.Item.{IsContent}
use Rattle.cat_items.proofs.item.FieldValue.is_of.Goals as goal

pub returns-in-Text : goal.returns-in-Text
returns-in-Text c = (λ e. rw (c.in-Words.is, c.in-Text.is) (IsContent.words _ c.as_slice-rising.ensures.sorted), λ h. refl)

pub returns-in-Keyword-matches : goal.returns-in-Keyword-matches
returns-in-Keyword-matches c = (λ e. rw (c.in-Keyword.is, c.in-Keyword-matches.is) (IsContent.keyword _), λ h. refl)

pub returns-in-Number-matches : goal.returns-in-Number-matches
returns-in-Number-matches c = (λ e. rw (c.in-Number.is, c.in-Number-matches.is) (IsContent.number _), λ h. refl)

pub returns-in-Facet : goal.returns-in-Facet
returns-in-Facet c = (λ e. rw (c.in-Labels.is, c.in-Facet.is) (IsContent.labels _ c.as_slice-rising-in-Labels.ensures.sorted), λ h. refl)
