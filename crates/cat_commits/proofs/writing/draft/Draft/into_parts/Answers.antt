use Rattle.cat_commits.proofs.writing.Drafting.{listing_apart}
use Rattle.cat_commits.proofs.writing.draft.Draft.into_parts.Goals as goal

pub returns-clause-apart : goal.returns-clause-apart
returns-clause-apart c = listing_apart _ _ _ _ c.self.invariant
