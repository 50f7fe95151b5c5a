use Rattle.std.proofs.Common.{map, refl}
use Rattle.cat_directory.specs.Names.{file_text}
use Rattle.cat_model.specs.Run.{Command}
use Rattle.cat_ledger.specs.Ledgers.{device_in, policy_in, shape_in}
use Rattle.cat_ledger_laws.proofs.lines.ReadAnswers.{commit_files_answer}
use Rattle.cat_commands.proofs.ledger.Answered.{files_refused}
use Rattle.cat_commands.proofs.ledger.telling.files_of_commit.Goals as goal

pub returns-in-Ok-clause-answers : goal.returns-in-Ok-clause-answers
returns-in-Ok-clause-answers g c = λ session.
    let ledger = c.args.ledger.now in
    let told = g.D.Holder.bytes (device_in ledger) in
    let s = shape_in ledger in
    let kept = c.in-Ok.ensures.ok in (
      Command.files_of_commit c.args.generation,
      refl,
      commit_files_answer (policy_in ledger) told told s s session c.args.generation kept.0 (map file_text c.sort_unstable.new.self.items) kept.1 (refl, λ q. refl),
    )

pub returns-in-Err-clause-answers : goal.returns-in-Err-clause-answers
returns-in-Err-clause-answers g c = λ session.
    let ledger = c.args.ledger.now in
    let told = g.D.Holder.bytes (device_in ledger) in
    let s = shape_in ledger in (
      Command.files_of_commit c.args.generation,
      refl,
      files_refused (policy_in ledger) told told s s session c.args.generation c.in-Err.refusal c.in-Err.ensures.none (refl, λ q. refl)
          c.in-Err.ensures.refusal,
    )

pub returns-in-Ok-clause-names : goal.returns-in-Ok-clause-names
returns-in-Ok-clause-names g c =
    let kept = c.in-Ok.ensures.ok in (
      kept.0,
      kept.1,
      record {
        listed = c.in-Ok.names.items;
        names = c.sort_unstable.new.self.items;
        all = kept.2;
        same = c.sort_unstable.ensures.permutation;
        rising = c.sort_unstable.ensures.sorted;
        texts = refl;
      },
    )
