use Rattle.std.proofs.Common.{◌≡◌, ◌∙◌, Option, ap, false, inl, inr, length, sym, true}
use Rattle.std.specs.Prelude.{Err, Ok, cond, option_map}
use Rattle.std.proofs.lemmas.Bool.{cases_Bool}
use Rattle.cat_base.specs.declared.refusal.Refusal.TheVariants.{Id}
use Rattle.cat_model.specs.Answer.{Read}
use Rattle.cat_model.specs.Heard.{id_of}
use Rattle.cat_model.specs.Run.{Command}
use Rattle.cat_model.specs.State.{has_hold}
use Rattle.cat_model.specs.Text.{Text}
use Rattle.cat_ledger.specs.Ledgers.{device_in, policy_in, shape_in}
use Rattle.cat_ledger_laws.specs.lines.LineLaws.{NothingChanges}
use Rattle.cat_ledger_laws.proofs.lines.ReadAnswers.{gets_answer}
use Rattle.cat_commands.proofs.ledger.Answered.{err_is}
use Rattle.cat_commands.proofs.views.Answered.{get_refused, get_unheld, option_map_twice, reading_refusal, sources_told}
use Rattle.cat_ledger.proofs.Failures.{fails_as}
use Rattle.cat_ledger.proofs.Histories.{nothing_goes_on}
use Rattle.cat_commands.proofs.views.reading.get.Goals as goal

pub returns-in-Ok-clause-answers : goal.returns-in-Ok-clause-answers
returns-in-Ok-clause-answers g c =
    let old = c.args.ledger.now in
    let new = c.source.new.self in
    let told = g.D.Holder.bytes (device_in old) in
    let id = c.args.id.now in
    let right : id_of id ≡ Ok id = ap (λ b. cond b (Ok id) (Err Id)) (sym c.id_ok.ensures ∙ c.if-not-id_ok.false) in
    let view = c.in-Ok.ensures.held.1.0 in
    let is = c.in-Ok.ensures.held.1.1 in
    let found : Option Text = option_map (λ b. b.items) c.in-Ok.found in (
      Command.read c.args.token (Read.get (Ok id)),
      ap (λ r. Command.read c.args.token (Read.get r)) (sym right),
      gets_answer (policy_in old) told (g.D.Holder.bytes (device_in new)) (shape_in old) (shape_in new) c.args.session c.args.token id view found c.in-Ok.ensures.held.0 is
          (record {
            long = option_map_twice (λ b. b.items) (λ (text : Text). length text) c.in-Ok.found ∙ c.in-Ok.ensures.whole view is;
            read = λ sources all. c.in-Ok.ensures.ok view is sources (sources_told told sources view id all);
          })
          (c.in-Ok.ensures.shape, c.in-Ok.ensures.frame.same),
    )

pub returns-in-Err-clause-answers : goal.returns-in-Err-clause-answers
returns-in-Err-clause-answers g c =
    let old = c.args.ledger.now in
    let new = c.source.new.self in
    let told = g.D.Holder.bytes (device_in old) in
    let told' = g.D.Holder.bytes (device_in new) in
    let s = shape_in old in
    let id = c.args.id.now in
    let e = c.in-Err.refusal in
    let right : id_of id ≡ Ok id = ap (λ b. cond b (Ok id) (Err Id)) (sym c.id_ok.ensures ∙ c.if-not-id_ok.false) in
    let still : NothingChanges told s told' (shape_in new) = (c.in-Err.ensures.shape, c.in-Err.ensures.frame.same) in (
      Command.read c.args.token (Read.get (Ok id)),
      ap (λ r. Command.read c.args.token (Read.get r)) (sym right),
      elim (cases_Bool (has_hold s.holds c.args.session c.args.token)) [
        | inl held ↦ get_refused (policy_in old) told told' s (shape_in new) c.args.session c.args.token id e held still
            (reading_refusal (g.D.Holder.fault_count (device_in old)) (g.D.Holder.fault_count (device_in new)) e (c.in-Err.ensures.counted held))
        | inr none ↦ get_unheld (policy_in old) told told' s (shape_in new) c.args.session c.args.token id e (err_is (c.in-Err.ensures.unheld none).0) none still
      ],
    )

pub returns-in-Ok-clause-due : goal.returns-in-Ok-clause-due
returns-in-Ok-clause-due g c = λ right none. absurd (let no : true ≡ false = sym c.in-Ok.ensures.held.0 ∙ none in cc)

pub returns-in-Err-clause-due : goal.returns-in-Err-clause-due
returns-in-Err-clause-due g c = λ right none. ap Err (err_is (c.in-Err.ensures.unheld none).0)

pub returns-in-Err-clause-refusal : goal.returns-in-Err-clause-refusal
returns-in-Err-clause-refusal g c = λ right held.
    reading_refusal (g.D.Holder.fault_count (device_in c.args.ledger.now)) (g.D.Holder.fault_count (device_in c.source.new.self)) c.in-Err.refusal
    (c.in-Err.ensures.counted held)

pub returns-in-Ok-clause-fails : goal.returns-in-Ok-clause-fails
returns-in-Ok-clause-fails g c = fails_as _ _ (λ P no. no) c.in-Ok.ensures.fails

pub returns-in-Err-clause-fails : goal.returns-in-Err-clause-fails
returns-in-Err-clause-fails g c = fails_as _ _ (λ P no. no) c.in-Err.ensures.fails

pub returns-then-not-id_ok-clause-goes : goal.returns-then-not-id_ok-clause-goes
returns-then-not-id_ok-clause-goes g c = nothing_goes_on g.D.Holder.bytes g.D.Holder.may_leave c.args.ledger.now
