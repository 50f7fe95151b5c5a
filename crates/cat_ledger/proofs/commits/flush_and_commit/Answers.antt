use Rattle.std.proofs.Common.{ℕ, inl, inr, refl, subst, sym, arith, ◌∙◌, ◌<◌, ◌≤◌}
use Rattle.cat_model.specs.Limits.{last_number}
use Rattle.cat_directory.specs.Devices.{CountsOne}
use Rattle.cat_ledger_laws.specs.model.Calls.{Committed, Flushes}
use Rattle.cat_ledger.proofs.Lasting.{call_keeps, carried_on, commit_lasts, lets_flush}
use Rattle.cat_ledger.proofs.Made.{commit_spares, flushed_segment, left_behind}
use Rattle.cat_ledger_laws.proofs.lines.JoinedCalls.{flushed_commits_make}
use Rattle.cat_ledger_laws.proofs.shape.Committed.{commits_make}
use Rattle.cat_ledger_laws.proofs.shape.Listed.{names_are_begun, no_source_begun}
use Rattle.cat_ledger_laws.specs.shape.CommitLaws.{names_begun}
use Rattle.cat_ledger.proofs.Histories.{commit_spares_others, newest_committed, next_committed}
use Rattle.cat_ledger.proofs.Ordered.{committed_leaves, flushed_listed, ordered_behind, own_untouched}
use Rattle.cat_ledger.proofs.Synced.{synced_stands}
use Rattle.cat_ledger.proofs.Trying.{may_have_tried}
use Rattle.cat_ledger.proofs.Refused.{given_up_leaves, goes_on, goes_on_behind}
use Rattle.cat_ledger.proofs.commits.flush_and_commit.Goals as goal

some_left : (n : ℕ) → n ≤ last_number → last_number < n → ⊥
some_left n some gone = omega (arith, some, gone)

rises_on : (a b d : ℕ) → a ≤ b → b ≤ d → a ≤ d
rises_on a b d first second = omega (arith, first, second)

-- a generation is left for the commit, so that nothing waits then

pub commit-requires : goal.commit-requires
commit-requires g c = record { flushed = c.in_default.ensures.flushed; text = c.requires.text }

-- Each return is answered whole: a body that does something else is refused at the first clause that it breaks.

-- what the flush is refused for; it touched no file of a commit
pub returns-in-Err : goal.returns-in-Err
returns-in-Err g c =
    let bytes = g.D.Holder.bytes in
    let left = g.D.Holder.may_leave in
    record {
      number = tt;
      ok = tt;
      err = c.in-Err.ensures.err;
      stays = goes_on c.args.core.now c.flush.new.core c.flush.new.core c.flush.ensures.merging c.flush.ensures.known refl;
      crash = c.flush.ensures.crash;
      commits = λ n other. c.flush.ensures.commits n;
      order = own_untouched (bytes c.args.device.now) (bytes c.flush.new.device) (left c.args.device.now) (left c.flush.new.device) c.args.core.now
          c.flush.new.core.leaves c.flush.ensures.own c.flush.ensures.commits;
      newest = tt;
      next = tt;
      tried = inl c.flush.ensures.commits;
      lasts = tt;
      spent = c.in-Err.ensures.spent;
      due = c.in-Err.ensures.due;
      device = λ _. c.in-Err.ensures.fails.device;
      counted = c.in-Err.ensures.fails.counted;
      memory = c.in-Err.ensures.fails.memory;
      can = c.flush.ensures.fails.can;
      rises = c.flush.ensures.fails.rises;
      refusal = c.in-Err.ensures.refusal;
    }

-- No file of a commit was begun by the flush, and by the commit only where it tried one; the flush counted nothing; and no file of a
-- segment is absent, so that the directory can fail.
pub returns-in-Err-commit : goal.returns-in-Err-commit
returns-in-Err-commit g c =
    let bytes = g.D.Holder.bytes in
    let left = g.D.Holder.may_leave in
    let s = c.args.core.now in
    let mid = c.flush.new.core in
    let new = c.commit.new.self in
    let told = bytes c.args.device.now in
    let told' = bytes c.flush.new.device in
    let told'' = bytes c.commit.new.device in
    let room = subst (λ n. n ≤ last_number) (sym c.in_default.ensures.generation) c.requires.left in
    record {
      number = tt;
      ok = tt;
      err = left_behind (names_begun mid) told told' told'' s mid new c.in_default.ensures.made (no_source_begun mid mid.next_segment)
          (names_are_begun c.args.text.now mid c.count-count.ensures.shape).new c.in-Err-commit.ensures.err;
      stays = goes_on_behind (names_begun mid) told' told'' s mid new c.flush.ensures.merging c.flush.ensures.known c.in-Err-commit.ensures.err
          c.in-Err-commit.ensures.known;
      crash = λ q old e after. c.in_default.ensures.crash q old e
          (c.in-Err-commit.ensures.crash q
          (commit_spares c.args.text.now s mid q c.count-count.ensures.shape (flushed_segment told told' s mid c.in_default.ensures.made)
          c.in_default.ensures.generation old)
          e after);
      commits = λ n other e after. c.flush.ensures.commits n e
          (commit_spares_others mid s.next_generation (left c.flush.new.device) (left c.commit.new.device) c.in_default.ensures.generation
          c.commit.ensures.crash n other e after);
      order = ordered_behind told told' told'' (left c.args.device.now) (left c.flush.new.device) (left c.commit.new.device) s mid new
          c.flush.ensures.own c.flush.ensures.commits (flushed_listed told told' s mid c.in_default.ensures.made) c.in_default.ensures.generation
          (given_up_leaves (names_begun mid) told' told'' mid new c.in-Err-commit.ensures.err) c.commit.ensures.order;
      newest = tt;
      next = tt;
      tried = may_have_tried bytes left g.met.D.Holder.may_stay c.needed_are_synced.ensures c.args.text.now c.args.device.now c.flush.new.device
          c.commit.new.device s mid new c.count-count.ensures.shape c.in_default.ensures.made c.flush.ensures.crash c.flush.ensures.commits
          (λ n other e after. c.flush.ensures.commits n e
          (commit_spares_others mid s.next_generation (left c.flush.new.device) (left c.commit.new.device) c.in_default.ensures.generation
          c.commit.ensures.crash n other e after))
          (c.commit.ensures.form room) room c.in-Err-commit.ensures.err c.commit.ensures.crash c.commit.ensures.torn c.in-Err-commit.ensures.taken
          c.commit.ensures.order c.commit.ensures.behind;
      lasts = tt;
      spent = λ is. absurd (some_left mid.next_generation room (c.in-Err-commit.ensures.spent is));
      due = λ is. c.in_default.ensures.may;
      device = λ before is.
          elim (c.in-Err-commit.ensures.device is) [
            | inl fails ↦ c.flush.ensures.fails.can fails
            | inr w ↦ absurd (synced_stands told' mid (carried_on Flushes told told' s mid c.in_default.ensures.ok before) w.0 w.1 w.2 w.3)
          ];
      counted = λ is. subst (λ n. CountsOne n (g.D.Holder.fault_count c.commit.new.device)) c.in_default.ensures.quiet
          (c.in-Err-commit.ensures.counted is);
      memory = λ is. c.in-Err-commit.ensures.memory is ∙ c.in_default.ensures.quiet;
      can = λ fails. c.flush.ensures.fails.can (c.commit.ensures.can fails);
      rises = rises_on (g.D.Holder.fault_count c.args.device.now) (g.D.Holder.fault_count c.flush.new.device) (g.D.Holder.fault_count c.commit.new.device)
          c.flush.ensures.fails.rises c.commit.ensures.rises;
      refusal = c.in-Err-commit.ensures.refusal;
    }

pub returns-in-Ok : goal.returns-in-Ok
returns-in-Ok g c =
    let bytes = g.D.Holder.bytes in
    let left = g.D.Holder.may_leave in
    let stay = g.met.D.Holder.may_stay in
    let s = c.args.core.now in
    let mid = c.flush.new.core in
    let new = c.commit.new.self in
    let d = c.flush.new.device in
    let d' = c.commit.new.device in
    let told = bytes c.args.device.now in
    let text = c.args.text.now in
    let makes = commits_make text mid new (bytes d) (bytes d') c.in_default.ensures.flushed c.in-Ok.ensures.ok.0 c.in-Ok.ensures.ok.1 in
    record {
      number = c.in-Ok.ensures.number ∙ c.in_default.ensures.generation;
      ok = flushed_commits_make told (bytes d) (bytes d') s mid new text c.in_default.ensures.ok makes;
      err = tt;
      stays = tt;
      crash = λ q old e after. c.in_default.ensures.crash q old e
          (c.in-Ok.ensures.crash q
          (commit_spares text s mid q c.count-count.ensures.shape (flushed_segment told (bytes d) s mid c.in_default.ensures.made)
          c.in_default.ensures.generation old)
          e after);
      commits = λ n other e after. c.flush.ensures.commits n e
          (commit_spares_others mid s.next_generation (left d) (left d') c.in_default.ensures.generation c.commit.ensures.crash n other e after);
      order = ordered_behind told (bytes d) (bytes d') (left c.args.device.now) (left d) (left d') s mid new c.flush.ensures.own
          c.flush.ensures.commits (flushed_listed told (bytes d) s mid c.in_default.ensures.made) c.in_default.ensures.generation
          (committed_leaves text mid new c.in-Ok.ensures.ok.0) c.commit.ensures.order;
      newest = newest_committed text mid new c.in-Ok.generation c.in-Ok.ensures.ok.0 c.in-Ok.ensures.number;
      next = next_committed text s.next_generation mid new c.in-Ok.ensures.ok.0 c.in_default.ensures.generation;
      tried = tt;
      lasts = λ before.
          (let flushed = call_keeps bytes left stay Flushes lets_flush c.args.device.now d s mid c.in_default.ensures.ok
          (λ q old apart. c.in_default.ensures.crash q old) before in
          commit_lasts bytes left stay c.needed_are_synced.ensures text d d' mid new c.in-Ok.ensures.ok.0
          (carried_on (Committed text) (bytes d) (bytes d') mid new makes flushed.carried) c.in-Ok.ensures.lasts c.in-Ok.ensures.crash flushed);
      spent = tt;
      due = tt;
      device = λ _. tt;
      counted = tt;
      memory = tt;
      can = λ fails. c.flush.ensures.fails.can (c.commit.ensures.can fails);
      rises = rises_on (g.D.Holder.fault_count c.args.device.now) (g.D.Holder.fault_count c.flush.new.device) (g.D.Holder.fault_count c.commit.new.device)
          c.flush.ensures.fails.rises c.commit.ensures.rises;
      refusal = tt;
    }
