use Rattle.std.proofs.lemmas.Result.{IfOk-from_err}
use Rattle.std.proofs.Common.{◌≡◌, ◌∙◌, Some, None, inl, inr, map}
use Rattle.std.specs.Prelude.{◌⊎◌, false, true}
use Rattle.cat_base.specs.declared.refusal.Refusal.{Refusal}
use Rattle.cat_base.specs.declared.refusal.Refusal.TheVariants.{Device}
use Rattle.cat_directory.specs.declared.name.FileName.{FileName}
use Rattle.cat_directory.specs.Names.{name_of}
use Rattle.cat_ledger_laws.specs.model.Users.{has_name}
use Rattle.cat_commits.specs.writing.NewFiles.{names_of}
use Rattle.cat_commits.proofs.writing.Writing.{passed, counts_passed, counts_after, others_wider, crash_wider, others_with, crash_with, last_written, untouched, still_written, still_settled, last_settled, torn_last}
use Rattle.cat_commits.proofs.writing.files.write_in_order.Goals as goal

pub returns-in_err-write_last-clause-order : goal.returns-in_err-write_last-clause-order
returns-in_err-write_last-clause-order g c =
    inr (still_settled (map name_of c.args.unsynced.now) c.args.last.now.name (g.D.Holder.bytes c.write_synced.new.device) (g.D.Holder.bytes c.write_last.new.device)
    (g.D.Holder.may_leave c.write_synced.new.device) (g.D.Holder.may_leave c.write_last.new.device) c.requires.last_unsynced c.in_err-write_last.ensures.others c.in_err-write_last.ensures.crash
    c.in_ok-write_synced.ensures.lasts)

pub returns-clause-ok : goal.returns-clause-ok
returns-clause-ok g c =
    still_written c.args.files.now c.args.last.now.name (g.D.Holder.bytes c.args.device.now) (g.D.Holder.bytes c.write_synced.new.device) (g.D.Holder.bytes c.write_last.new.device)
    c.requires.last_apart c.in_ok-write_last.ensures.others c.in_ok-write_synced.ensures.ok

pub returns-clause-lasts : goal.returns-clause-lasts
returns-clause-lasts g c =
    last_settled (map name_of c.args.unsynced.now) c.args.last.now.name (g.D.Holder.bytes c.write_last.new.device) (g.D.Holder.may_leave c.write_last.new.device)
    (still_settled (map name_of c.args.unsynced.now) c.args.last.now.name (g.D.Holder.bytes c.write_synced.new.device) (g.D.Holder.bytes c.write_last.new.device)
    (g.D.Holder.may_leave c.write_synced.new.device) (g.D.Holder.may_leave c.write_last.new.device) c.requires.last_unsynced c.in_ok-write_last.ensures.others c.in_ok-write_last.ensures.crash
    c.in_ok-write_synced.ensures.lasts) c.in_ok-write_last.ensures.lasts

pub returns-clause-order : goal.returns-clause-order
returns-clause-order g c =
    inr (still_settled (map name_of c.args.unsynced.now) c.args.last.now.name (g.D.Holder.bytes c.write_synced.new.device) (g.D.Holder.bytes c.write_last.new.device)
    (g.D.Holder.may_leave c.write_synced.new.device) (g.D.Holder.may_leave c.write_last.new.device) c.requires.last_unsynced c.in_ok-write_last.ensures.others c.in_ok-write_last.ensures.crash
    c.in_ok-write_synced.ensures.lasts)

pub returns-in_err-write_last-clause-behind : goal.returns-in_err-write_last-clause-behind
returns-in_err-write_last-clause-behind g c =
    inr (still_written c.args.files.now c.args.last.now.name (g.D.Holder.bytes c.args.device.now) (g.D.Holder.bytes c.write_synced.new.device) (g.D.Holder.bytes c.write_last.new.device)
    c.requires.last_apart c.in_err-write_last.ensures.others c.in_ok-write_synced.ensures.ok)

pub returns-clause-behind : goal.returns-clause-behind
returns-clause-behind g c =
    inr (still_written c.args.files.now c.args.last.now.name (g.D.Holder.bytes c.args.device.now) (g.D.Holder.bytes c.write_synced.new.device) (g.D.Holder.bytes c.write_last.new.device)
    c.requires.last_apart c.in_ok-write_last.ensures.others c.in_ok-write_synced.ensures.ok)

pub returns-in_err-write_last-clause-torn : goal.returns-in_err-write_last-clause-torn
returns-in_err-write_last-clause-torn g c =
    torn_last (names_of c.args.files.now) c.args.last.now.name c.args.last.now.bytes (g.D.Holder.bytes c.args.device.now) (g.D.Holder.bytes c.write_synced.new.device)
    (g.D.Holder.may_leave c.args.device.now) (g.D.Holder.may_leave c.write_synced.new.device) (g.D.Holder.may_leave c.write_last.new.device) c.requires.last_apart
    c.write_synced.ensures.others c.write_synced.ensures.crash c.write_last.ensures.torn

pub returns-clause-torn : goal.returns-clause-torn
returns-clause-torn g c =
    torn_last (names_of c.args.files.now) c.args.last.now.name c.args.last.now.bytes (g.D.Holder.bytes c.args.device.now) (g.D.Holder.bytes c.write_synced.new.device)
    (g.D.Holder.may_leave c.args.device.now) (g.D.Holder.may_leave c.write_synced.new.device) (g.D.Holder.may_leave c.write_last.new.device) c.requires.last_apart
    c.write_synced.ensures.others c.write_synced.ensures.crash c.write_last.ensures.torn

pub returns-in_err-write_synced-clause-torn : goal.returns-in_err-write_synced-clause-torn
returns-in_err-write_synced-clause-torn g c = λ now is e after. inl (c.write_synced.ensures.crash c.args.last.now.name c.requires.last_apart e after)

pub returns-in_err-write_synced-clause-others : goal.returns-in_err-write_synced-clause-others
returns-in_err-write_synced-clause-others g c =
    others_wider c.args.files.now c.args.last.now (g.D.Holder.bytes c.args.device.now) (g.D.Holder.bytes c.write_synced.new.device) c.write_synced.ensures.others

pub returns-in_err-write_synced-clause-crash : goal.returns-in_err-write_synced-clause-crash
returns-in_err-write_synced-clause-crash g c =
    crash_wider c.args.files.now c.args.last.now (g.D.Holder.may_leave c.args.device.now) (g.D.Holder.may_leave c.write_synced.new.device) c.write_synced.ensures.crash

pub returns-in_err-write_synced-clause-order : goal.returns-in_err-write_synced-clause-order
returns-in_err-write_synced-clause-order g c =
    untouched c.args.files.now c.args.last.now.name (map name_of c.args.unsynced.now) (g.D.Holder.bytes c.args.device.now) (g.D.Holder.bytes c.write_synced.new.device) (g.D.Holder.may_leave c.args.device.now) (g.D.Holder.may_leave c.write_synced.new.device) c.requires.last_apart c.write_synced.ensures.others c.write_synced.ensures.crash

pub returns-in_err-write_synced-clause-behind : goal.returns-in_err-write_synced-clause-behind
returns-in_err-write_synced-clause-behind g c =
    inl (record { told_same = c.write_synced.ensures.others c.args.last.now.name c.requires.last_apart; left_same = c.write_synced.ensures.crash c.args.last.now.name c.requires.last_apart })

pub returns-in_err-write_synced-clause-device : goal.returns-in_err-write_synced-clause-device
returns-in_err-write_synced-clause-device g c =
    passed (λ (e : Refusal). e ≡ Device → g.D.Holder.can_fail c.args.device.now
    ⊎ ((q : FileName) × (has_name (name_of q) (map name_of c.args.unsynced.now) ≡ true) × (has_name (name_of q) (names_of c.args.files.now) ≡ false)
    × (g.D.Holder.bytes c.args.device.now q ≡ Some None))) _ _ c.from_residual.ensures c.in_err-write_synced.ensures.device

pub returns-in_err-write_synced-clause-can : goal.returns-in_err-write_synced-clause-can
returns-in_err-write_synced-clause-can g c =
    c.write_synced.ensures.can

pub returns-in_err-write_synced-clause-counted : goal.returns-in_err-write_synced-clause-counted
returns-in_err-write_synced-clause-counted g c =
    counts_passed (g.D.Holder.fault_count c.args.device.now) (g.D.Holder.fault_count c.write_synced.new.device) _ _ c.from_residual.ensures c.in_err-write_synced.ensures.counted

pub returns-in_err-write_last-clause-others : goal.returns-in_err-write_last-clause-others
returns-in_err-write_last-clause-others g c =
    others_with c.args.files.now c.args.last.now (g.D.Holder.bytes c.args.device.now) (g.D.Holder.bytes c.write_synced.new.device) (g.D.Holder.bytes c.write_last.new.device) c.in_ok-write_synced.ensures.others c.in_err-write_last.ensures.others

pub returns-in_err-write_last-clause-crash : goal.returns-in_err-write_last-clause-crash
returns-in_err-write_last-clause-crash g c =
    crash_with c.args.files.now c.args.last.now (g.D.Holder.may_leave c.args.device.now) (g.D.Holder.may_leave c.write_synced.new.device) (g.D.Holder.may_leave c.write_last.new.device) c.in_ok-write_synced.ensures.crash c.in_err-write_last.ensures.crash

pub returns-in_err-write_last-clause-device : goal.returns-in_err-write_last-clause-device
returns-in_err-write_last-clause-device g c =
    passed (λ (e : Refusal). e ≡ Device → g.D.Holder.can_fail c.args.device.now
    ⊎ ((q : FileName) × (has_name (name_of q) (map name_of c.args.unsynced.now) ≡ true) × (has_name (name_of q) (names_of c.args.files.now) ≡ false)
    × (g.D.Holder.bytes c.args.device.now q ≡ Some None))) _ _ c.from_residual-in_err-write_last.ensures (λ is. inl (c.in_ok-write_synced.ensures.can (c.in_err-write_last.ensures.fails.device is)))

pub returns-in_err-write_last-clause-can : goal.returns-in_err-write_last-clause-can
returns-in_err-write_last-clause-can g c =
    λ fails. c.in_ok-write_synced.ensures.can (c.in_err-write_last.ensures.fails.can fails)

pub returns-in_err-write_last-clause-counted : goal.returns-in_err-write_last-clause-counted
returns-in_err-write_last-clause-counted g c =
    counts_after (g.D.Holder.fault_count c.args.device.now) (g.D.Holder.fault_count c.write_synced.new.device) (g.D.Holder.fault_count c.write_last.new.device) _ _ c.from_residual-in_err-write_last.ensures c.in_ok-write_synced.ensures.counted c.in_err-write_last.ensures.fails.counted

pub returns-clause-others : goal.returns-clause-others
returns-clause-others g c =
    others_with c.args.files.now c.args.last.now (g.D.Holder.bytes c.args.device.now) (g.D.Holder.bytes c.write_synced.new.device) (g.D.Holder.bytes c.write_last.new.device) c.in_ok-write_synced.ensures.others c.in_ok-write_last.ensures.others

pub returns-clause-crash : goal.returns-clause-crash
returns-clause-crash g c =
    crash_with c.args.files.now c.args.last.now (g.D.Holder.may_leave c.args.device.now) (g.D.Holder.may_leave c.write_synced.new.device) (g.D.Holder.may_leave c.write_last.new.device) c.in_ok-write_synced.ensures.crash c.in_ok-write_last.ensures.crash

pub returns-clause-last : goal.returns-clause-last
returns-clause-last g c =
    last_written c.args.files.now c.args.last.now (g.D.Holder.bytes c.args.device.now) (g.D.Holder.bytes c.write_synced.new.device) (g.D.Holder.bytes c.write_last.new.device) c.requires.last_apart c.in_ok-write_synced.ensures.others c.in_ok-write_last.ensures.ok

pub returns-clause-can : goal.returns-clause-can
returns-clause-can g c =
    λ fails. c.in_ok-write_synced.ensures.can (c.in_ok-write_last.ensures.fails.can fails)

pub returns-clause-counted : goal.returns-clause-counted
returns-clause-counted g c =
    c.in_ok-write_last.ensures.fails.counted ∙ c.in_ok-write_synced.ensures.counted

pub returns-clause-device : goal.returns-clause-device
returns-clause-device g c = tt

pub returns-in_err-write_synced-clause-ok : goal.returns-in_err-write_synced-clause-ok
returns-in_err-write_synced-clause-ok g c = IfOk-from_err _ _ c.from_residual.ensures.0

pub returns-in_err-write_synced-clause-last : goal.returns-in_err-write_synced-clause-last
returns-in_err-write_synced-clause-last g c = IfOk-from_err _ _ c.from_residual.ensures.0

pub returns-in_err-write_synced-clause-lasts : goal.returns-in_err-write_synced-clause-lasts
returns-in_err-write_synced-clause-lasts g c = IfOk-from_err _ _ c.from_residual.ensures.0

pub returns-in_err-write_last-clause-ok : goal.returns-in_err-write_last-clause-ok
returns-in_err-write_last-clause-ok g c = IfOk-from_err _ _ c.from_residual-in_err-write_last.ensures.0

pub returns-in_err-write_last-clause-last : goal.returns-in_err-write_last-clause-last
returns-in_err-write_last-clause-last g c = IfOk-from_err _ _ c.from_residual-in_err-write_last.ensures.0

pub returns-in_err-write_last-clause-lasts : goal.returns-in_err-write_last-clause-lasts
returns-in_err-write_last-clause-lasts g c = IfOk-from_err _ _ c.from_residual-in_err-write_last.ensures.0
