use Rattle.std.proofs.Common.{map, refl, sym, true≢false, ◌∙◌}
use Rattle.cat_directory.specs.Names.{file_text}
use Rattle.cat_model.specs.Run.{Command}
use Rattle.cat_ledger.specs.Ledgers.{device_in, policy_in, shape_in}
use Rattle.cat_ledger_laws.proofs.lines.ReadAnswers.{files_answer, unheld_files_answer}
use Rattle.cat_commands.proofs.views.Answered.{memory_refused}
use Rattle.cat_commands.proofs.views.telling.files_of_token.Goals as goal

pub returns-in-Ok-clause-names : goal.returns-in-Ok-clause-names
returns-in-Ok-clause-names g c = (
  c.in-Some.view.now,
  c.in-Some.ensures.some.1,
  record {
    listed = c.in-Ok.names.items;
    names = c.sort_unstable.new.self.items;
    all = c.in-Ok.ensures.ok;
    same = c.sort_unstable.ensures.permutation;
    rising = c.sort_unstable.ensures.sorted;
    texts = refl;
  },
)

pub returns-in-Err-clause-answers : goal.returns-in-Err-clause-answers
returns-in-Err-clause-answers g c =
    let ledger = c.args.ledger.now in
    let told = g.D.Holder.bytes (device_in ledger) in
    let s = shape_in ledger in (
      Command.files_of_token c.args.token,
      refl,
      memory_refused (policy_in ledger) told told s s c.args.session (Command.files_of_token c.args.token) refl (refl, λ q. refl),
    )

pub returns-in-Ok-clause-answers : goal.returns-in-Ok-clause-answers
returns-in-Ok-clause-answers g c =
    let ledger = c.args.ledger.now in
    let told = g.D.Holder.bytes (device_in ledger) in
    let s = shape_in ledger in (
      Command.files_of_token c.args.token,
      refl,
      files_answer (policy_in ledger) told told s s c.args.session c.args.token (map file_text c.sort_unstable.new.self.items) c.in-Some.ensures.some.0 (refl, λ q. refl),
    )

pub returns-in_default-clause-answers : goal.returns-in_default-clause-answers
returns-in_default-clause-answers g c =
    let ledger = c.args.ledger.now in
    let told = g.D.Holder.bytes (device_in ledger) in
    let s = shape_in ledger in (
      Command.files_of_token c.args.token,
      refl,
      unheld_files_answer (policy_in ledger) told told s s c.args.session c.args.token c.in_default.ensures.none (refl, λ q. refl),
    )

pub returns-in-Ok-clause-due : goal.returns-in-Ok-clause-due
returns-in-Ok-clause-due g c = λ unheld. absurd (true≢false (sym c.in-Some.ensures.some.0 ∙ unheld))

pub returns-in-Err-clause-due : goal.returns-in-Err-clause-due
returns-in-Err-clause-due g c = λ unheld. absurd (true≢false (sym c.in-Some.ensures.some.0 ∙ unheld))

pub returns-in_default-clause-refusal : goal.returns-in_default-clause-refusal
returns-in_default-clause-refusal g c = λ held. absurd (true≢false (sym held ∙ c.in_default.ensures.none))
