use Rattle.std.proofs.Common.{◌≡◌, ◌∙◌, Err, false, inl, inr, refl, sym, true}
use Rattle.cat_base.specs.declared.refusal.Refusal.TheVariants.{Full}
use Rattle.cat_model.specs.Run.{Command}
use Rattle.cat_ledger_laws.proofs.lines.LineAnswers.{refreshes_answer}
use Rattle.cat_ledger_laws.proofs.lines.RefusalAnswers.{full_refreshes_answer}
use Rattle.cat_ledger.proofs.Answered.{refresh_stopped, tells_same}
use Rattle.cat_ledger_laws.specs.lines.LineLaws.{Refreshes}
use Rattle.cat_ledger_laws.specs.model.Replies.{IsLeft}
use Rattle.cat_ledger.proofs.Failures.{fails_as, none_fails}
use Rattle.cat_ledger.proofs.Lasting.{call_keeps, lets_left, lets_refresh}
use Rattle.cat_ledger.proofs.Made.{untouched}
use Rattle.cat_ledger.proofs.Histories.{call_goes, goes_so, nothing_goes_on}
use Rattle.cat_ledger.proofs.Taken.{takes_refresh}
use Rattle.cat_ledger_laws.proofs.model.Taking.{takes_left}
use Rattle.cat_ledger.proofs.Refused.{nothing_ends}
use Rattle.cat_ledger.proofs.ledger.Ledger.refresh.Goals as goal

pub invariant_of-self : goal.invariant_of-self
invariant_of-self g c =
    call_keeps g.D.Holder.bytes g.D.Holder.may_leave g.met.D.Holder.may_stay IsLeft lets_left c.self.inside.device c.flush_and_record.new.device
    c.self.inside.core c.flush_and_record.new.core c.in-Err.ensures.err (λ q old apart. c.flush_and_record.ensures.crash q old) c.self.invariant

pub invariant_of-self-2 : goal.invariant_of-self-2
invariant_of-self-2 g c =
    call_keeps g.D.Holder.bytes g.D.Holder.may_leave g.met.D.Holder.may_stay Refreshes lets_refresh c.self.inside.device c.flush_and_record.new.device
    c.self.inside.core c.flush_and_record.new.core c.in_default.ensures.ok (λ q old apart. c.flush_and_record.ensures.crash q old) c.self.invariant

pub returns-clause-ok : goal.returns-clause-ok
returns-clause-ok g c = rw (← c.self.view_is) c.in_default.ensures.ok

pub returns-clause-full : goal.returns-clause-full
returns-clause-full g c = rw (← c.self.view_is) (λ no. absurd (no (sym c.if-is_refused.ensures)))

pub returns-clause-fails : goal.returns-clause-fails
returns-clause-fails g c = rw (← c.self.view_is) (fails_as _ _ (λ P no. no) c.in_default.ensures.fails)

pub returns-clause-goes : goal.returns-clause-goes
returns-clause-goes g c =
    rw (← c.self.view_is) (goes_so g.D.Holder.bytes g.D.Holder.may_leave (call_goes g.D.Holder.bytes g.D.Holder.may_leave Refreshes lets_refresh takes_refresh c.self.inside.device c.flush_and_record.new.device c.self.inside.core c.flush_and_record.new.core
    c.self.inside.policy c.self.inside.policy c.in_default.ensures.ok c.self.invariant.carried (λ q old apart. c.flush_and_record.ensures.crash q old) c.flush_and_record.ensures.commits))

pub returns-clause-answers : goal.returns-clause-answers
returns-clause-answers g c =
    let old = c.self.inside in
    let now = c.flush_and_record.new in
    let told = g.D.Holder.bytes old.device in
    let told' = g.D.Holder.bytes now.device in
    rw (← c.self.view_is) (λ session. (
      Command.refresh,
      refl,
      tells_same old.policy told told' old.core now.core session Command.refresh c.count-token.result old.core.count c.count-token.ensures.count
          (refreshes_answer old.policy told told' old.core now.core session (sym c.if-is_refused.ensures) c.in_default.ensures.ok),
    ))

-- These returns are answered whole: a body that does something else is refused at the first clause that it breaks.

pub returns-then-is_refused : goal.returns-then-is_refused
returns-then-is_refused g c =
    let now = c.args.self.now in
    let l = c.self.inside in
    let told = g.D.Holder.bytes l.device in
    record {
      answers = rw (← c.self.view_is) (λ session. (
        Command.refresh,
        refl,
        full_refreshes_answer l.policy told told l.core l.core session
            (λ may. absurd (let both : true ≡ false = c.if-is_refused.ensures ∙ may in cc)) (refl, λ q. refl),
      ));
      token = tt;
      ok = tt;
      may = tt;
      full = λ _. (refl, refl);
      spent = λ is. cc is;
      due = λ is may. elim is [ inl memory ↦ cc | inr device ↦ cc ];
      err = untouched (g.D.Holder.bytes now.device) now.core;
      stays = nothing_ends now.core;
      crash = λ q old apart e might. might;
      refusal = inl refl;
      fails = none_fails now.device (Err Full) (λ is. cc is);
      goes = nothing_goes_on g.D.Holder.bytes g.D.Holder.may_leave now;
    }

pub returns-in-Err : goal.returns-in-Err
returns-in-Err g c =
    let old = c.self.inside in
    let now = c.flush_and_record.new in
    record {
      answers = rw (← c.self.view_is) (λ session. (
        Command.refresh,
        refl,
        refresh_stopped old.policy (g.D.Holder.bytes old.device) (g.D.Holder.bytes now.device) old.core now.core session c.in-Err.refusal
            (sym c.if-is_refused.ensures) c.in-Err.ensures.err c.in-Err.ensures.refusal,
      ));
      token = tt;
      ok = tt;
      may = tt;
      full = rw (← c.self.view_is) (λ no. absurd (no (sym c.if-is_refused.ensures)));
      spent = λ is. rw (← c.self.view_is) (c.in-Err.ensures.spent is);
      due = λ is. rw (← c.self.view_is) (c.in-Err.ensures.due is);
      err = rw (← c.self.view_is) c.in-Err.ensures.err;
      stays = rw (← c.self.view_is) c.in-Err.ensures.stays;
      crash = rw (← c.self.view_is) (λ q old apart. c.flush_and_record.ensures.crash q old);
      refusal = inr c.in-Err.ensures.refusal;
      fails = rw (← c.self.view_is) (fails_as _ _ (λ P no. no) c.in-Err.ensures.fails);
      goes = rw (← c.self.view_is) (goes_so g.D.Holder.bytes g.D.Holder.may_leave (call_goes g.D.Holder.bytes g.D.Holder.may_leave IsLeft
          lets_left takes_left old.device now.device old.core now.core old.policy old.policy c.in-Err.ensures.err c.self.invariant.carried
          (λ q old apart. c.flush_and_record.ensures.crash q old) c.flush_and_record.ensures.commits));
    }

pub returns-clause-may : goal.returns-clause-may
returns-clause-may g c = rw (← c.self.view_is) (sym c.if-is_refused.ensures)

pub returns-clause-crash : goal.returns-clause-crash
returns-clause-crash g c = rw (← c.self.view_is) (λ q old apart. c.flush_and_record.ensures.crash q old)

-- what the count says, whatever the step is called
pub returns-clause-token : goal.returns-clause-token
returns-clause-token g c = rw (← c.self.view_is) assumption
