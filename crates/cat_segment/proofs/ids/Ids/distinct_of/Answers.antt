use Rattle.std.proofs.Common.{inl}
use Rattle.std.proofs.lemmas.Result.{IfErr-weaker}
use Rattle.cat_segment.proofs.ids.Ids.distinct_of.Goals as goal

pub returns-in-Ok-clause-due : goal.returns-in-Ok-clause-due
returns-in-Ok-clause-due c = IfErr-weaker c.distinct.result _ _ (λ e told memory. absurd (cc (told.0, memory))) c.distinct.ensures.err

pub returns-in-Ok-clause-refusal : goal.returns-in-Ok-clause-refusal
returns-in-Ok-clause-refusal c = IfErr-weaker c.distinct.result _ _ (λ e told. inl told.0) c.distinct.ensures.err

pub returns-in-Err-clause-damaged : goal.returns-in-Err-clause-damaged
returns-in-Err-clause-damaged c = c.without_index.ensures.damaged

pub returns-in-Err-clause-due : goal.returns-in-Err-clause-due
returns-in-Err-clause-due c = c.without_index.ensures.due

pub returns-in-Err-clause-refusal : goal.returns-in-Err-clause-refusal
returns-in-Err-clause-refusal c = c.without_index.ensures.refusal
