use Rattle.std.proofs.Common.{◌∙◌, List, ap}
use Rattle.std.specs.Prelude.{◌==◌, not}
use Rattle.std.specs.List.{list_any}
use Rattle.cat_model.specs.View.{Leaf}
use Rattle.cat_cached_sets.specs.filters.Filters.{filters_without}
use Rattle.cat_commands.proofs.ledger.chores.merge.Goals as goal

pub returns-clause-sets : goal.returns-clause-sets
returns-clause-sets g c =
    c.keep_among.ensures.value
    ∙ ap (λ (ls : List Leaf). filters_without (λ n. not (list_any (λ l. l.segment.number == n) ls)) c.args.filters.now) c.leaves.ensures

pub returns-clause-fails : goal.returns-clause-fails
returns-clause-fails g c = c.merge_step-answer.ensures.fails

pub returns-clause-goes : goal.returns-clause-goes
returns-clause-goes g c = c.merge_step-answer.ensures.goes

pub returns-clause-lacks : goal.returns-clause-lacks
returns-clause-lacks g c = c.merge_step-answer.ensures.lacks

pub returns-clause-untold : goal.returns-clause-untold
returns-clause-untold g c = c.merge_step-answer.ensures.untold

pub returns-clause-answers : goal.returns-clause-answers
returns-clause-answers g c = c.merge_step-answer.ensures.answers

pub returns-clause-refusal : goal.returns-clause-refusal
returns-clause-refusal g c = c.merge_step-answer.ensures.refusal

pub returns-clause-reach : goal.returns-clause-reach
returns-clause-reach g c = c.merge_step-answer.ensures.reach

pub returns-clause-crash : goal.returns-clause-crash
returns-clause-crash g c = c.merge_step-answer.ensures.crash

pub returns-clause-segments : goal.returns-clause-segments
returns-clause-segments g c = c.merge_step-answer.ensures.segments

pub returns-clause-known : goal.returns-clause-known
returns-clause-known g c = c.keep_among.ensures.known

pub returns-clause-below : goal.returns-clause-below
returns-clause-below g c = c.keep_among.ensures.below
