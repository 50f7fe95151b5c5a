use Rattle.std.proofs.Common.{◌≤◌, sym, ap, ◌∙◌, subst, arith}
use Rattle.std.proofs.Math.Nat.{le-max_left}
use Rattle.std.specs.Prelude.{max}
use Rattle.cat_commits.specs.declared.reading.restored.Restored.TheInside.{Inside}
use Rattle.cat_ledger_laws.proofs.model.Flushes.{past_more}
use Rattle.cat_ledger_laws.specs.model.Opening.{Restored}
use Rattle.cat_ledger_laws.specs.shape.OpeningLaws.{MayHold}
use Rattle.cat_ledger_state.proofs.startup.Needed.{needed_past}
use Rattle.cat_ledger_state.proofs.startup.opening.state_at.Goals as goal

pub opened-requires-clause-past : goal.opened-requires-clause-past
opened-requires-clause-past c =
    let tells = ap (λ (x : Inside). x.commit.next) c.restored-inside.view_is ∙ ap (λ (r : Restored). r.commit.next) c.restored.view_is in
    needed_past (MayHold c.requires.restored.0) c.args.schema c.args.restored.commit.generation c.args.next.0 c.max-next_segment.result c.args.next.1 c.args.restored
    c.requires.restored.1 (c.max-next_segment.ensures ∙ ap (max c.args.next.0) tells) c.requires.numbers.1

pub opened-requires-clause-known : goal.opened-requires-clause-known
opened-requires-clause-known c = λ q there.
    let low = subst (λ k. c.args.next.0 ≤ k) (sym c.max-next_segment.ensures) (le-max_left c.args.next.0 _) in
    past_more c.args.next.0 c.args.next.1 c.max-next_segment.result c.args.next.1 low (omega arith) q (c.requires.known q there)
