use Rattle.std.proofs.Common.{◌≡◌, refl, arith}
use Rattle.std.specs.Prelude.{Err}
use Rattle.cat_base.specs.declared.refusal.Refusal.TheVariants.{Line as NoForm, Memory}
use Rattle.cat_model.specs.Run.{Command, Reply}
use Rattle.cat_ledger_laws.proofs.lines.RefusalAnswers.{faults_answer}
use Rattle.cat_service.specs.Worlds.{device_of, policy_of, shape_of_service}
use Rattle.cat_service.proofs.Hearing.{open_says}
use Rattle.cat_service.proofs.Histories.{nothing_goes}
use Rattle.cat_service.proofs.Names.{refused}
use Rattle.cat_model.specs.Lines.{Said}
use Rattle.cat_commands.specs.cat_ledger.Answering.{number_reply}
use Rattle.cat_commands.specs.cat_ledger.Ledgers.{device_in, shape_in}
use Rattle.cat_commands.specs.cat_protocol.replies.Reply.{reply_of}
use Rattle.cat_service.proofs.Arms.{as_answer, plain_does, refused_as}
use Rattle.cat_service.proofs.Kept.{world_stays}
use Rattle.cat_service.proofs.Wanted.{prune_wants, snap_wants, unsnap_wants}
use Rattle.cat_service.proofs.world.World.answer.Goals as goal

pub returns-in-NoForm-clause-does : goal.returns-in-NoForm-clause-does
returns-in-NoForm-clause-does g c = rw c.in-NoForm.is (record {
  answers = (
    Command.formless,
    refl,
    let w = c.args.self.now in
        let told = g.D.Holder.bytes (device_of w) in
        faults_answer (policy_of w) told told (shape_of_service w) (shape_of_service w) c.args.line.now.session Command.formless NoForm refl (refl, λ q. refl),
  );
  told = refused NoForm;
  names = tt;
  wanting = λ h. absurd (let no : ◌≡◌ {A = Reply} (Err NoForm) (Err Memory) = h in cc);
  cause = record { spent = λ k. tt; device = λ k. tt; counted = λ k. tt; damaged = λ k. tt; reached = λ k. tt; quiet = λ k. refl; told = tt; swept = tt; rises = omega arith; stays = tt; keeps = tt; making = λ e k other. refl; still = λ e k other. refl };
  sets = refl;
  numbers = record { segment = (omega arith, omega arith); generation = (omega arith, omega arith) };
  can = λ x. x;
  schema = refl;
  policy = refl;
})

pub returns-in-NoForm-clause-history : goal.returns-in-NoForm-clause-history
returns-in-NoForm-clause-history g c = rw c.in-NoForm.is (nothing_goes g.D.Holder.bytes g.D.Holder.may_leave c.args.self.now.ledger)

pub returns-in-Put-clause-does : goal.returns-in-Put-clause-does
returns-in-Put-clause-does g c = rw c.in-Put.is (c.answer_put.ensures.does c.args.line.now.session)

pub returns-in-Put-clause-history : goal.returns-in-Put-clause-history
returns-in-Put-clause-history g c = rw c.in-Put.is c.answer_put.ensures.history

pub returns-in-Delete-clause-does : goal.returns-in-Delete-clause-does
returns-in-Delete-clause-does g c = rw c.in-Delete.is (c.answer_delete.ensures.does c.args.line.now.session)

pub returns-in-Delete-clause-history : goal.returns-in-Delete-clause-history
returns-in-Delete-clause-history g c = rw c.in-Delete.is c.answer_delete.ensures.history

pub returns-in-DeleteWhere-clause-does : goal.returns-in-DeleteWhere-clause-does
returns-in-DeleteWhere-clause-does g c = rw c.in-DeleteWhere.is (c.answer_delete_where.ensures.does c.args.line.now.session)

pub returns-in-DeleteWhere-clause-history : goal.returns-in-DeleteWhere-clause-history
returns-in-DeleteWhere-clause-history g c = rw c.in-DeleteWhere.is c.answer_delete_where.ensures.history

pub returns-in-Open-clause-does : goal.returns-in-Open-clause-does
returns-in-Open-clause-does g c = rw (c.in-Open.is, open_says c.in-Open.token) c.answer_open.ensures.does

pub returns-in-Open-clause-history : goal.returns-in-Open-clause-history
returns-in-Open-clause-history g c = rw (c.in-Open.is, open_says c.in-Open.token) c.answer_open.ensures.history

pub returns-in-Close-clause-does : goal.returns-in-Close-clause-does
returns-in-Close-clause-does g c = rw c.in-Close.is c.answer_close.ensures.does

pub returns-in-Close-clause-history : goal.returns-in-Close-clause-history
returns-in-Close-clause-history g c = rw c.in-Close.is c.answer_close.ensures.history

pub returns-in-Find-clause-does : goal.returns-in-Find-clause-does
returns-in-Find-clause-does g c = rw c.in-Find.is c.answer_find.ensures.does

pub returns-in-Find-clause-history : goal.returns-in-Find-clause-history
returns-in-Find-clause-history g c = rw c.in-Find.is c.answer_find.ensures.history

pub returns-in-Facets-clause-does : goal.returns-in-Facets-clause-does
returns-in-Facets-clause-does g c = rw c.in-Facets.is c.answer_facets.ensures.does

pub returns-in-Facets-clause-history : goal.returns-in-Facets-clause-history
returns-in-Facets-clause-history g c = rw c.in-Facets.is c.answer_facets.ensures.history

pub returns-in-Get-clause-does : goal.returns-in-Get-clause-does
returns-in-Get-clause-does g c = rw c.in-Get.is c.answer_get.ensures.does

pub returns-in-Get-clause-history : goal.returns-in-Get-clause-history
returns-in-Get-clause-history g c = rw c.in-Get.is c.answer_get.ensures.history

pub returns-in-FilesOfToken-clause-does : goal.returns-in-FilesOfToken-clause-does
returns-in-FilesOfToken-clause-does g c = rw c.in-FilesOfToken.is c.answer_view_files.ensures.does

pub returns-in-FilesOfToken-clause-history : goal.returns-in-FilesOfToken-clause-history
returns-in-FilesOfToken-clause-history g c = rw c.in-FilesOfToken.is (nothing_goes g.D.Holder.bytes g.D.Holder.may_leave c.args.self.now.ledger)

pub returns-in-FilesOfCommit-clause-does : goal.returns-in-FilesOfCommit-clause-does
returns-in-FilesOfCommit-clause-does g c = rw c.in-FilesOfCommit.is (c.answer_commit_files.ensures.does c.args.line.now.session)

pub returns-in-FilesOfCommit-clause-history : goal.returns-in-FilesOfCommit-clause-history
returns-in-FilesOfCommit-clause-history g c = rw c.in-FilesOfCommit.is (nothing_goes g.D.Holder.bytes g.D.Holder.may_leave c.args.self.now.ledger)

pub returns-in-Note-clause-does : goal.returns-in-Note-clause-does
returns-in-Note-clause-does g c = rw c.in-Note.is (c.answer_note.ensures.does c.args.line.now.session)

pub returns-in-Note-clause-history : goal.returns-in-Note-clause-history
returns-in-Note-clause-history g c = rw c.in-Note.is (nothing_goes g.D.Holder.bytes g.D.Holder.may_leave c.args.self.now.ledger)

pub returns-in-Merge-clause-does : goal.returns-in-Merge-clause-does
returns-in-Merge-clause-does g c = rw c.in-Merge.is c.answer_chore.ensures.does

pub returns-in-Merge-clause-history : goal.returns-in-Merge-clause-history
returns-in-Merge-clause-history g c = rw c.in-Merge.is c.answer_chore.ensures.history

pub returns-in-Force-clause-does : goal.returns-in-Force-clause-does
returns-in-Force-clause-does g c = rw c.in-Force.is c.answer_chore-in-Force.ensures.does

pub returns-in-Force-clause-history : goal.returns-in-Force-clause-history
returns-in-Force-clause-history g c = rw c.in-Force.is c.answer_chore-in-Force.ensures.history

pub returns-in-Warm-clause-does : goal.returns-in-Warm-clause-does
returns-in-Warm-clause-does g c = rw c.in-Warm.is c.answer_warm.ensures.does

pub returns-in-Warm-clause-history : goal.returns-in-Warm-clause-history
returns-in-Warm-clause-history g c = rw c.in-Warm.is c.answer_warm.ensures.history

pub returns-in-Sweep-clause-does : goal.returns-in-Sweep-clause-does
returns-in-Sweep-clause-does g c = rw c.in-Sweep.is c.answer_chore-in-Sweep.ensures.does

pub returns-in-Sweep-clause-history : goal.returns-in-Sweep-clause-history
returns-in-Sweep-clause-history g c = rw c.in-Sweep.is c.answer_chore-in-Sweep.ensures.history

pub returns-in-Stat-clause-does : goal.returns-in-Stat-clause-does
returns-in-Stat-clause-does g c = rw c.in-Stat.is c.answer_chore-in-Stat.ensures.does

pub returns-in-Stat-clause-history : goal.returns-in-Stat-clause-history
returns-in-Stat-clause-history g c = rw c.in-Stat.is c.answer_chore-in-Stat.ensures.history

pub returns-in-Refresh-clause-does : goal.returns-in-Refresh-clause-does
returns-in-Refresh-clause-does g c = rw c.in-Refresh.is (c.answer_refresh.ensures.does c.args.line.now.session)

pub returns-in-Refresh-clause-history : goal.returns-in-Refresh-clause-history
returns-in-Refresh-clause-history g c = rw c.in-Refresh.is c.answer_refresh.ensures.history

pub returns-in-Commit-clause-does : goal.returns-in-Commit-clause-does
returns-in-Commit-clause-does g c = rw c.in-Commit.is (c.answer_commit.ensures.does c.args.line.now.session)

pub returns-in-Commit-clause-history : goal.returns-in-Commit-clause-history
returns-in-Commit-clause-history g c = rw c.in-Commit.is c.answer_commit.ensures.history

pub invariant_of-self : goal.invariant_of-self
invariant_of-self g c =
    world_stays g.D.Holder.bytes 0 Said.snapshot c.self.inside.ledger (number_reply c.snapshot.result) c.snapshot.new.self c.self.invariant (c.snapshot.ensures.answers 0)

pub returns-in-Snapshot-clause-does : goal.returns-in-Snapshot-clause-does
returns-in-Snapshot-clause-does g c = rw (c.in-Snapshot.is, ← c.self.view_is) (
    plain_does g.D.Holder.bytes g.D.Holder.can_fail g.D.Holder.fault_count c.args.line.now.session c.self.inside.ledger c.snapshot.new.self c.snapshot.result (reply_of c.number_told.result) c.number_told.ensures c.self.invariant Said.snapshot refl (c.snapshot.ensures.answers c.args.line.now.session) (c.snapshot.ensures.same, c.snapshot.ensures.err) c.snapshot.ensures.goes.policy
    (λ k. snap_wants (g.D.Holder.bytes (device_in c.self.inside.ledger)) (shape_in c.self.inside.ledger) c.args.line.now.session (as_answer c.snapshot.result) k (refused_as _ c.snapshot.result c.snapshot.ensures.due)))

pub returns-in-Snapshot-clause-history : goal.returns-in-Snapshot-clause-history
returns-in-Snapshot-clause-history g c = rw (c.in-Snapshot.is, ← c.self.view_is) c.snapshot.ensures.goes.history

pub invariant_of-self-in-Unsnapshot : goal.invariant_of-self-in-Unsnapshot
invariant_of-self-in-Unsnapshot g c =
    world_stays g.D.Holder.bytes 0 (Said.release_snapshot c.in-Unsnapshot.generation) c.self-in-Unsnapshot.inside.ledger (number_reply c.unsnapshot.result) c.unsnapshot.new.self c.self-in-Unsnapshot.invariant (c.unsnapshot.ensures.answers 0)

pub returns-in-Unsnapshot-clause-does : goal.returns-in-Unsnapshot-clause-does
returns-in-Unsnapshot-clause-does g c = rw (c.in-Unsnapshot.is, ← c.self-in-Unsnapshot.view_is) (
    plain_does g.D.Holder.bytes g.D.Holder.can_fail g.D.Holder.fault_count c.args.line.now.session c.self-in-Unsnapshot.inside.ledger c.unsnapshot.new.self c.unsnapshot.result (reply_of c.left_told.result) c.left_told.ensures c.self-in-Unsnapshot.invariant (Said.release_snapshot c.in-Unsnapshot.generation) refl (c.unsnapshot.ensures.answers c.args.line.now.session) (c.unsnapshot.ensures.same, c.unsnapshot.ensures.err) c.unsnapshot.ensures.goes.policy
    (λ k. unsnap_wants (g.D.Holder.bytes (device_in c.self-in-Unsnapshot.inside.ledger)) (shape_in c.self-in-Unsnapshot.inside.ledger) c.args.line.now.session (as_answer c.unsnapshot.result) k c.in-Unsnapshot.generation (refused_as _ c.unsnapshot.result c.unsnapshot.ensures.due)))

pub returns-in-Unsnapshot-clause-history : goal.returns-in-Unsnapshot-clause-history
returns-in-Unsnapshot-clause-history g c = rw (c.in-Unsnapshot.is, ← c.self-in-Unsnapshot.view_is) c.unsnapshot.ensures.goes.history

pub invariant_of-self-in-Prune : goal.invariant_of-self-in-Prune
invariant_of-self-in-Prune g c =
    world_stays g.D.Holder.bytes 0 (Said.prune c.in-Prune.count) c.self-in-Prune.inside.ledger (number_reply c.prune.result) c.prune.new.self c.self-in-Prune.invariant (c.prune.ensures.answers 0)

pub returns-in-Prune-clause-does : goal.returns-in-Prune-clause-does
returns-in-Prune-clause-does g c = rw (c.in-Prune.is, ← c.self-in-Prune.view_is) (
    plain_does g.D.Holder.bytes g.D.Holder.can_fail g.D.Holder.fault_count c.args.line.now.session c.self-in-Prune.inside.ledger c.prune.new.self c.prune.result (reply_of c.number_told-in-Prune.result) c.number_told-in-Prune.ensures c.self-in-Prune.invariant (Said.prune c.in-Prune.count) refl (c.prune.ensures.answers c.args.line.now.session) (c.prune.ensures.same, c.prune.ensures.err) c.prune.ensures.goes.policy
    (λ k. prune_wants (g.D.Holder.bytes (device_in c.self-in-Prune.inside.ledger)) (shape_in c.self-in-Prune.inside.ledger) c.args.line.now.session (as_answer c.prune.result) k c.in-Prune.count))

pub returns-in-Prune-clause-history : goal.returns-in-Prune-clause-history
returns-in-Prune-clause-history g c = rw (c.in-Prune.is, ← c.self-in-Prune.view_is) c.prune.ensures.goes.history
