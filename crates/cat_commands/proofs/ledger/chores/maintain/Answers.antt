use Rattle.std.proofs.Common.{ap, length, refl, subst, sym, ◌∙◌}
use Rattle.std.specs.Prelude.{◌≡◌, ◌≢◌, Err, IfOk}
use Rattle.cat_base.specs.declared.refusal.Refusal.TheVariants.{Damaged, Device, Line as NoForm, Memory}
use Rattle.cat_model.specs.Run.{Chore, Command}
use Rattle.cat_ledger.specs.Ledgers.{device_in, policy_in, shape_in}
use Rattle.cat_ledger_laws.proofs.lines.RefusalAnswers.{foreign_chores_answer}
use Rattle.cat_protocol.specs.replies.Reply.{answer_of, reply_of}
use Rattle.cat_commands.specs.declared.ledger.chores.Chore.TheVariants.{Force, Merge, Stat, Sweep}
use Rattle.cat_commands.specs.ledger.Chores.{TellsChore, chore_of}
use Rattle.cat_commands.proofs.ledger.Answered.{at_zero}
use Rattle.cat_commands.proofs.ledger.Kept.{behind_force, behind_none, behind_same, behind_so, reach_any, reach_so}
use Rattle.cat_ledger.proofs.Failures.{memory_is_none, none_fails}
use Rattle.cat_ledger.proofs.Results.{if_err}
use Rattle.cat_ledger.proofs.Histories.{nothing_goes_on}
use Rattle.cat_commands.proofs.ledger.chores.maintain.Goals as goal

formless_differs : NoForm ≢ Damaged
formless_differs = λ h. cc h

formless_is_none : NoForm ≢ Device
formless_is_none = λ h. cc h

force_is_none : Force ≢ Merge
force_is_none = λ h. cc h

stat_is_none : Stat ≢ Merge
stat_is_none = λ h. cc h

merge_differs : Merge ≢ Sweep
merge_differs = λ h. cc h

force_differs : Force ≢ Sweep
force_differs = λ h. cc h

stat_differs : Stat ≢ Sweep
stat_differs = λ h. cc h

pub returns-then-session-ne0-clause-answers : goal.returns-then-session-ne0-clause-answers
returns-then-session-ne0-clause-answers g c =
    let ledger = c.args.ledger.now in
    let told = g.D.Holder.bytes (device_in ledger) in
    let s = shape_in ledger in (
      Command.chore (chore_of c.args.chore),
      refl,
      foreign_chores_answer (policy_in ledger) told told s s c.args.session (chore_of c.args.chore) c.if-session-ne0.true (refl, λ q. refl),
    )

pub returns-in-Merge-clause-answers : goal.returns-in-Merge-clause-answers
returns-in-Merge-clause-answers g c =
    let old = c.args.ledger.now in
    let new = c.merge.new.ledger in (
      Command.chore Chore.merge,
      ap (λ x. Command.chore (chore_of x)) (sym c.in-Merge.is),
      at_zero (policy_in old) (g.D.Holder.bytes (device_in old)) (g.D.Holder.bytes (device_in new)) (shape_in old) (shape_in new) c.args.session
          (Command.chore Chore.merge) (reply_of c.merge.result) c.if-session-ne0.false c.merge.ensures.answers,
    )

pub returns-in-Force-clause-answers : goal.returns-in-Force-clause-answers
returns-in-Force-clause-answers g c =
    let old = c.args.ledger.now in
    let new = c.force.new.ledger in (
      Command.chore Chore.force,
      ap (λ x. Command.chore (chore_of x)) (sym c.in-Force.is),
      at_zero (policy_in old) (g.D.Holder.bytes (device_in old)) (g.D.Holder.bytes (device_in new)) (shape_in old) (shape_in new) c.args.session
          (Command.chore Chore.force) (reply_of c.force.result) c.if-session-ne0.false c.force.ensures.answers,
    )

pub returns-in-Sweep-clause-answers : goal.returns-in-Sweep-clause-answers
returns-in-Sweep-clause-answers g c =
    let old = c.args.ledger.now in
    let new = c.sweep.new.ledger in (
      Command.chore Chore.sweep,
      ap (λ x. Command.chore (chore_of x)) (sym c.in-Sweep.is),
      at_zero (policy_in old) (g.D.Holder.bytes (device_in old)) (g.D.Holder.bytes (device_in new)) (shape_in old) (shape_in new) c.args.session
          (Command.chore Chore.sweep) (reply_of c.sweep.result) c.if-session-ne0.false c.sweep.ensures.answers,
    )

pub returns-in-Stat-clause-answers : goal.returns-in-Stat-clause-answers
returns-in-Stat-clause-answers g c =
    let ledger = c.args.ledger.now in
    let told = g.D.Holder.bytes (device_in ledger) in
    let s = shape_in ledger in (
      Command.chore Chore.stat,
      ap (λ x. Command.chore (chore_of x)) (sym c.in-Stat.is),
      at_zero (policy_in ledger) told told s s c.args.session (Command.chore Chore.stat) (reply_of c.tell_stat.result) c.if-session-ne0.false
          c.tell_stat.ensures.answers,
    )

pub returns-then-session-ne0-clause-goes : goal.returns-then-session-ne0-clause-goes
returns-then-session-ne0-clause-goes g c = nothing_goes_on g.D.Holder.bytes g.D.Holder.may_leave c.args.ledger.now

pub returns-in-Stat-clause-goes : goal.returns-in-Stat-clause-goes
returns-in-Stat-clause-goes g c = nothing_goes_on g.D.Holder.bytes g.D.Holder.may_leave c.args.ledger.now

pub returns-then-session-ne0-clause-keeps : goal.returns-then-session-ne0-clause-keeps
returns-then-session-ne0-clause-keeps g c = behind_same c.args.chore (shape_in c.args.ledger.now)

pub returns-in-Merge-clause-keeps : goal.returns-in-Merge-clause-keeps
returns-in-Merge-clause-keeps g c =
    behind_so c.args.chore Merge (shape_in c.args.ledger.now) (shape_in c.merge.new.ledger) c.merge.result c.in-Merge.is c.merge.ensures.segments

pub returns-in-Force-clause-keeps : goal.returns-in-Force-clause-keeps
returns-in-Force-clause-keeps g c =
    let old = shape_in c.args.ledger.now in
    let new = shape_in c.force.new.ledger in
    behind_so c.args.chore Force old new c.force.result c.in-Force.is (behind_force old new c.force.result c.force.ensures.stays c.force.ensures.segments)

pub returns-in-Sweep-clause-keeps : goal.returns-in-Sweep-clause-keeps
returns-in-Sweep-clause-keeps g c =
    let old = shape_in c.args.ledger.now in
    let new = shape_in c.sweep.new.ledger in
    behind_so c.args.chore Sweep old new c.sweep.result c.in-Sweep.is (behind_none Sweep old new c.sweep.result c.sweep.ensures.making)

pub returns-in-Stat-clause-keeps : goal.returns-in-Stat-clause-keeps
returns-in-Stat-clause-keeps g c =
    let s = shape_in c.args.ledger.now in
    behind_so c.args.chore Stat s s c.tell_stat.result c.in-Stat.is (behind_none Stat s s c.tell_stat.result refl)

pub returns-in-Merge-clause-reach : goal.returns-in-Merge-clause-reach
returns-in-Merge-clause-reach g c =
    let told = g.D.Holder.bytes (device_in c.args.ledger.now) in
    let merging = (shape_in c.args.ledger.now).merging in
    reach_so c.args.chore Merge told merging c.merge.result c.in-Merge.is c.merge.ensures.reach

pub returns-in-Force-clause-reach : goal.returns-in-Force-clause-reach
returns-in-Force-clause-reach g c =
    let told = g.D.Holder.bytes (device_in c.args.ledger.now) in
    let merging = (shape_in c.args.ledger.now).merging in
    reach_so c.args.chore Force told merging c.force.result c.in-Force.is (reach_any Force told merging c.force.result tt)

pub returns-in-Sweep-clause-reach : goal.returns-in-Sweep-clause-reach
returns-in-Sweep-clause-reach g c =
    let told = g.D.Holder.bytes (device_in c.args.ledger.now) in
    let merging = (shape_in c.args.ledger.now).merging in
    reach_so c.args.chore Sweep told merging c.sweep.result c.in-Sweep.is (reach_any Sweep told merging c.sweep.result tt)

pub returns-in-Stat-clause-reach : goal.returns-in-Stat-clause-reach
returns-in-Stat-clause-reach g c =
    let told = g.D.Holder.bytes (device_in c.args.ledger.now) in
    let merging = (shape_in c.args.ledger.now).merging in
    reach_so c.args.chore Stat told merging c.tell_stat.result c.in-Stat.is (reach_any Stat told merging c.tell_stat.result tt)

pub returns-then-session-ne0-clause-files : goal.returns-then-session-ne0-clause-files
returns-then-session-ne0-clause-files g c = λ zero sweeps. absurd (c.if-session-ne0.true zero)

pub returns-in-Sweep-clause-files : goal.returns-in-Sweep-clause-files
returns-in-Sweep-clause-files g c = λ zero sweeps. c.sweep.ensures.files

pub returns-in-Sweep-clause-swept : goal.returns-in-Sweep-clause-swept
returns-in-Sweep-clause-swept g c = λ sweeps. c.sweep.ensures.swept

pub returns-in-Sweep-clause-fails : goal.returns-in-Sweep-clause-fails
returns-in-Sweep-clause-fails g c = c.sweep.ensures.fails

pub returns-in-Sweep-clause-goes : goal.returns-in-Sweep-clause-goes
returns-in-Sweep-clause-goes g c = c.sweep.ensures.goes

pub returns-in-Merge-clause-fails : goal.returns-in-Merge-clause-fails
returns-in-Merge-clause-fails g c = c.merge.ensures.fails

pub returns-in-Merge-clause-goes : goal.returns-in-Merge-clause-goes
returns-in-Merge-clause-goes g c = c.merge.ensures.goes

pub returns-in-Force-clause-fails : goal.returns-in-Force-clause-fails
returns-in-Force-clause-fails g c = c.force.ensures.fails

pub returns-in-Force-clause-goes : goal.returns-in-Force-clause-goes
returns-in-Force-clause-goes g c = c.force.ensures.goes

pub returns-then-session-ne0-clause-fails : goal.returns-then-session-ne0-clause-fails
returns-then-session-ne0-clause-fails g c = none_fails (device_in c.args.ledger.now) (Err NoForm) formless_is_none

pub returns-in-Stat-clause-fails : goal.returns-in-Stat-clause-fails
returns-in-Stat-clause-fails g c =
    none_fails (device_in c.args.ledger.now) c.tell_stat.result
    (if_err (λ e. e ≡ Memory) (λ e. e ≡ Device → ⊥) c.tell_stat.result (λ e memory is. memory_is_none (sym memory ∙ is)) c.tell_stat.ensures.refusal)

pub returns-in-Merge-clause-files : goal.returns-in-Merge-clause-files
returns-in-Merge-clause-files g c = λ zero sweeps. absurd (merge_differs (sym c.in-Merge.is ∙ sweeps))

pub returns-in-Merge-clause-swept : goal.returns-in-Merge-clause-swept
returns-in-Merge-clause-swept g c = λ sweeps. absurd (merge_differs (sym c.in-Merge.is ∙ sweeps))

pub returns-in-Force-clause-files : goal.returns-in-Force-clause-files
returns-in-Force-clause-files g c = λ zero sweeps. absurd (force_differs (sym c.in-Force.is ∙ sweeps))

pub returns-in-Force-clause-swept : goal.returns-in-Force-clause-swept
returns-in-Force-clause-swept g c = λ sweeps. absurd (force_differs (sym c.in-Force.is ∙ sweeps))

pub returns-in-Stat-clause-files : goal.returns-in-Stat-clause-files
returns-in-Stat-clause-files g c = λ zero sweeps. absurd (stat_differs (sym c.in-Stat.is ∙ sweeps))

pub returns-in-Stat-clause-swept : goal.returns-in-Stat-clause-swept
returns-in-Stat-clause-swept g c = λ sweeps. absurd (stat_differs (sym c.in-Stat.is ∙ sweeps))

pub returns-then-session-ne0-clause-lacks : goal.returns-then-session-ne0-clause-lacks
returns-then-session-ne0-clause-lacks g c = λ merges is. absurd (formless_differs is)

pub returns-in-Merge-clause-lacks : goal.returns-in-Merge-clause-lacks
returns-in-Merge-clause-lacks g c = λ merges. c.merge.ensures.lacks

pub returns-in-Force-clause-lacks : goal.returns-in-Force-clause-lacks
returns-in-Force-clause-lacks g c = λ merges. absurd (force_is_none (sym c.in-Force.is ∙ merges))

pub returns-in-Sweep-clause-lacks : goal.returns-in-Sweep-clause-lacks
returns-in-Sweep-clause-lacks g c = λ merges. absurd (merge_differs (sym merges ∙ c.in-Sweep.is))

pub returns-in-Stat-clause-lacks : goal.returns-in-Stat-clause-lacks
returns-in-Stat-clause-lacks g c = λ merges. absurd (stat_is_none (sym c.in-Stat.is ∙ merges))

pub returns-then-session-ne0-clause-untold : goal.returns-then-session-ne0-clause-untold
returns-then-session-ne0-clause-untold g c = λ merges is. absurd (formless_differs is)

pub returns-in-Merge-clause-untold : goal.returns-in-Merge-clause-untold
returns-in-Merge-clause-untold g c = λ merges. c.merge.ensures.untold

pub returns-in-Force-clause-untold : goal.returns-in-Force-clause-untold
returns-in-Force-clause-untold g c = λ merges. absurd (force_is_none (sym c.in-Force.is ∙ merges))

pub returns-in-Sweep-clause-untold : goal.returns-in-Sweep-clause-untold
returns-in-Sweep-clause-untold g c = λ merges. absurd (merge_differs (sym merges ∙ c.in-Sweep.is))

pub returns-in-Stat-clause-untold : goal.returns-in-Stat-clause-untold
returns-in-Stat-clause-untold g c = λ merges. absurd (stat_is_none (sym c.in-Stat.is ∙ merges))

pub returns-in-Stat-clause-told : goal.returns-in-Stat-clause-told
returns-in-Stat-clause-told g c =
    subst (λ k. IfOk c.tell_stat.result (λ a. TellsChore (length c.args.filters.now.cached) (shape_in c.args.ledger.now) k (answer_of a))) (sym c.in-Stat.is)
    c.tell_stat.ensures.told

pub returns-in-Stat-clause-crash : goal.returns-in-Stat-clause-crash
returns-in-Stat-clause-crash g c = λ q used new merge e might. might

pub returns-then-session-ne0-clause-foreign : goal.returns-then-session-ne0-clause-foreign
returns-then-session-ne0-clause-foreign g c = λ other. (refl, refl, refl)

pub returns-then-session-ne0-clause-refusal : goal.returns-then-session-ne0-clause-refusal
returns-then-session-ne0-clause-refusal g c = λ zero. absurd (c.if-session-ne0.true zero)

pub returns-then-session-ne0-clause-sets : goal.returns-then-session-ne0-clause-sets
returns-then-session-ne0-clause-sets g c = λ zero. absurd (c.if-session-ne0.true zero)

pub returns-in-Merge-clause-foreign : goal.returns-in-Merge-clause-foreign
returns-in-Merge-clause-foreign g c = λ other. absurd (other c.if-session-ne0.false)

pub returns-in-Merge-clause-refusal : goal.returns-in-Merge-clause-refusal
returns-in-Merge-clause-refusal g c = λ zero. rw c.in-Merge.is c.merge.ensures.refusal

pub returns-in-Merge-clause-sets : goal.returns-in-Merge-clause-sets
returns-in-Merge-clause-sets g c = λ zero. rw c.in-Merge.is c.merge.ensures.sets

pub returns-in-Force-clause-foreign : goal.returns-in-Force-clause-foreign
returns-in-Force-clause-foreign g c = λ other. absurd (other c.if-session-ne0.false)

pub returns-in-Force-clause-refusal : goal.returns-in-Force-clause-refusal
returns-in-Force-clause-refusal g c = λ zero. rw c.in-Force.is c.force.ensures.refusal

pub returns-in-Force-clause-sets : goal.returns-in-Force-clause-sets
returns-in-Force-clause-sets g c = λ zero. rw c.in-Force.is

pub returns-in-Sweep-clause-foreign : goal.returns-in-Sweep-clause-foreign
returns-in-Sweep-clause-foreign g c = λ other. absurd (other c.if-session-ne0.false)

pub returns-in-Sweep-clause-refusal : goal.returns-in-Sweep-clause-refusal
returns-in-Sweep-clause-refusal g c = λ zero. rw c.in-Sweep.is c.sweep.ensures.refusal

pub returns-in-Sweep-clause-sets : goal.returns-in-Sweep-clause-sets
returns-in-Sweep-clause-sets g c = λ zero. rw c.in-Sweep.is

pub returns-in-Stat-clause-foreign : goal.returns-in-Stat-clause-foreign
returns-in-Stat-clause-foreign g c = λ other. absurd (other c.if-session-ne0.false)

pub returns-in-Stat-clause-refusal : goal.returns-in-Stat-clause-refusal
returns-in-Stat-clause-refusal g c = λ zero. rw c.in-Stat.is c.tell_stat.ensures.refusal

pub returns-in-Stat-clause-sets : goal.returns-in-Stat-clause-sets
returns-in-Stat-clause-sets g c = λ zero. rw c.in-Stat.is

pub returns-in-Merge-clause-known : goal.returns-in-Merge-clause-known
returns-in-Merge-clause-known g c = c.merge.ensures.known

pub returns-in-Merge-clause-below : goal.returns-in-Merge-clause-below
returns-in-Merge-clause-below g c = c.merge.ensures.below

pub returns-in-Merge-clause-crash : goal.returns-in-Merge-clause-crash
returns-in-Merge-clause-crash g c = λ q used. c.merge.ensures.crash q

pub returns-in-Force-clause-crash : goal.returns-in-Force-clause-crash
returns-in-Force-clause-crash g c = λ q used. c.force.ensures.crash q

pub returns-in-Sweep-clause-crash : goal.returns-in-Sweep-clause-crash
returns-in-Sweep-clause-crash g c = c.sweep.ensures.crash

pub returns-in-Sweep-clause-told : goal.returns-in-Sweep-clause-told
returns-in-Sweep-clause-told g c = rw c.in-Sweep.is c.sweep.ensures.told
