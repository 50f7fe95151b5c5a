use Rattle.std.proofs.Common.{ℕ, ◌<◌, ◌≤◌, Err, Ok, ap, arith, inl, inr, refl, subst, sym}
use Rattle.cat_base.specs.declared.refusal.Refusal.TheVariants.{Spent}
use Rattle.cat_model.specs.Heard.{commit_text_of}
use Rattle.cat_model.specs.Limits.{last_number}
use Rattle.cat_model.specs.Run.{Command}
use Rattle.cat_ledger_laws.proofs.lines.RefusalAnswers.{spent_commits_answer}
use Rattle.cat_ledger.specs.Ledgers.{device_in, policy_in, shape_in}
use Rattle.cat_ledger.proofs.Answered.{commit_begun, commit_goes_by, commit_unread}
use Rattle.cat_ledger.proofs.Failures.{none_fails}
use Rattle.cat_ledger.proofs.Lasting.{call_keeps, lets_left}
use Rattle.cat_ledger.proofs.Results.{if_err, on_ok, one_way}
use Rattle.cat_ledger.proofs.Ordered.{nothing_ordered}
use Rattle.cat_ledger.specs.Lasting.{IsLasting}
use Rattle.cat_ledger_laws.specs.lines.LineLaws.{Commits}
use Rattle.cat_ledger_laws.specs.model.Replies.{IsLeft}
use Rattle.cat_ledger_laws.proofs.model.Taking.{takes_left}
use Rattle.cat_ledger_laws.specs.shape.Ties.{Makes}
use Rattle.cat_ledger.proofs.Histories.{answered_goes, if_answered, nothing_goes, on_both, refused_or_other}
use Rattle.cat_ledger.specs.Histories.{Event, Goes}
use Rattle.cat_ledger_laws.specs.shape.Steps.{newest_generation}
use Rattle.cat_ledger.proofs.Refused.{no_want, nothing_ends}
use Rattle.cat_ledger.proofs.ledger.Ledger.commit.Goals as goal

some_left : (n : ℕ) → n ≤ last_number → last_number < n → ⊥
some_left n some gone = omega (arith, some, gone)

pub invariant_of-self : goal.invariant_of-self
invariant_of-self g c =
    let done = c.flush_and_commit in
    one_way (IsLasting g.D.Holder.bytes g.D.Holder.may_leave done.new.device done.new.core)
    (Makes IsLeft (g.D.Holder.bytes c.self.inside.device) c.self.inside.core (g.D.Holder.bytes done.new.device) done.new.core) done.result
    (on_ok done.result (λ keeps. keeps c.self.invariant) done.ensures.lasts) done.ensures.err
    (λ left. call_keeps g.D.Holder.bytes g.D.Holder.may_leave g.met.D.Holder.may_stay IsLeft lets_left c.self.inside.device done.new.device
    c.self.inside.core done.new.core left (λ q old apart. done.ensures.crash q old) c.self.invariant)

-- Each return is answered whole: a body that does something else is refused at the first clause that it breaks.

-- a text that may not be isn't refused for a failure
pub returns-in-Err : goal.returns-in-Err
returns-in-Err g c =
    let l = c.args.self.now in
    let bytes = g.D.Holder.bytes in
    let left = g.D.Holder.may_leave in
    let told = bytes (device_in l) in
    record {
      answers = λ session. (
        Command.commit (commit_text_of c.args.text.now),
        refl,
        commit_unread (policy_in l) told told (shape_in l) (shape_in l) session c.args.text.now c.in-Err.refusal c.in-Err.ensures.err (refl, λ q. refl),
      );
      wrong = rw c.in-Err.ensures.err (refl, refl);
      none = λ is. cc c.in-Err.ensures.err;
      spent = λ is. cc c.in-Err.ensures.err;
      due = λ is. absurd (no_want c.args.text.now c.in-Err.refusal c.in-Err.ensures.err is);
      stays = nothing_ends l.core;
      crash = λ q old apart e might. might;
      order = nothing_ordered told (left l.device) l.core;
      fails = none_fails l.device (Err c.in-Err.refusal) (λ is. no_want c.args.text.now c.in-Err.refusal c.in-Err.ensures.err (inr is));
      history = inl (nothing_goes bytes left l);
      policy = refl;
    }

pub returns-then-next_generation-gt-LAST_NUMBER : goal.returns-then-next_generation-gt-LAST_NUMBER
returns-then-next_generation-gt-LAST_NUMBER g c =
    let bytes = g.D.Holder.bytes in
    let left = g.D.Holder.may_leave in
    let now = c.args.self.now in
    let l = c.self.inside in
    let told = bytes l.device in
    record {
      answers = rw (← c.self.view_is) (λ session. (
        Command.commit (Ok c.args.text.now),
        ap Command.commit (sym c.in_default.ensures.ok),
        spent_commits_answer l.policy told told l.core l.core session c.args.text.now
            (subst (λ n. last_number < n) c.next_generation.ensures c.if-next_generation-gt-LAST_NUMBER.true) (refl, λ q. refl),
      ));
      wrong = rw c.in_default.ensures.ok tt;
      none = λ _ _. (refl, refl);
      spent = rw (← c.self.view_is) (λ _ _. inl (subst (λ n. last_number < n) c.next_generation.ensures c.if-next_generation-gt-LAST_NUMBER.true));
      due = λ is may. elim is [ inl memory ↦ cc | inr device ↦ cc ];
      stays = nothing_ends now.core;
      crash = λ q old apart e might. might;
      order = nothing_ordered (bytes now.device) (left now.device) now.core;
      fails = none_fails now.device (Err Spent) (λ is. cc is);
      history = inl (nothing_goes bytes left now);
      policy = refl;
    }

pub returns : goal.returns
returns g c =
    let done = c.flush_and_commit in
    let bytes = g.D.Holder.bytes in
    let left = g.D.Holder.may_leave in
    let old = c.self.inside in
    let s = old.core in
    let policy = old.policy in
    let text = c.args.text.now in
    record {
      answers = rw (← c.self.view_is) (λ session. (
        Command.commit (Ok text),
        ap Command.commit (sym c.in_default.ensures.ok),
        commit_begun policy (bytes old.device) (bytes done.new.device) s done.new.core session text done.result
            (subst (λ n. n ≤ last_number) c.next_generation.ensures c.if-next_generation-gt-LAST_NUMBER.false) done.ensures.number done.ensures.ok done.ensures.err
            done.ensures.refusal,
      ));
      wrong = rw c.in_default.ensures.ok tt;
      none = rw (← c.self.view_is) (λ _ gone. absurd (some_left s.next_generation (subst (λ n. n ≤ last_number) c.next_generation.ensures c.if-next_generation-gt-LAST_NUMBER.false) gone));
      spent = rw (← c.self.view_is) (λ _. if_err _ _ done.result (λ e k is. inr (k is)) done.ensures.spent);
      due = rw (← c.self.view_is) done.ensures.due;
      stays = rw (← c.self.view_is) done.ensures.stays;
      crash = rw (← c.self.view_is) (λ q old apart. done.ensures.crash q old);
      order = rw (← c.self.view_is) done.ensures.order;
      fails = rw (← c.self.view_is) (record {
        device = done.ensures.device c.self.invariant.carried;
        counted = done.ensures.counted;
        memory = done.ensures.memory;
        can = done.ensures.can;
        rises = done.ensures.rises;
      });
      history = rw (← c.self.view_is) (commit_goes_by bytes left text (record { device = old.device; core = s; policy = policy }) (record { device = done.new.device; core = done.new.core; policy = policy }) done.result
          (if_answered (Makes (Commits text) (bytes old.device) s (bytes done.new.device) done.new.core)
          (λ n. Goes bytes left (Event.Answered n) (record { device = old.device; core = s; policy = policy }) (record { device = done.new.device; core = done.new.core; policy = policy }))
          s.next_generation done.new.core.next_generation (newest_generation done.new.core.commits) done.result done.ensures.number done.ensures.newest done.ensures.next
          done.ensures.ok
          (λ n number newest next makes. answered_goes bytes left text old.device done.new.device s done.new.core policy policy n c.self.invariant.carried
          number newest next done.ensures.commits makes (λ q old apart. done.ensures.crash q old)))
          (on_both done.result
          (λ made tried. refused_or_other bytes left IsLeft lets_left takes_left old.device done.new.device s done.new.core policy policy made
          c.self.invariant.carried (λ q old apart. done.ensures.crash q old) text tried done.ensures.commits c.self.invariant) done.ensures.err done.ensures.tried));
      policy = rw (← c.self.view_is) refl;
    }
