use Rattle.cat_directory.specs.declared.name.FileName.TheVariants as file
use Rattle.cat_ledger_laws.specs.shape.OpeningLaws.{MayHold}
use Rattle.std.proofs.Common.{◌≡◌, ℕ, subst, true, false, rules, ◌≢◌, Some, None, ◌∙◌}
use Rattle.std.proofs.lemmas.Result.{IfOk-from_err}
use Rattle.cat_directory.specs.Devices.{ReadingCount}
use Rattle.cat_base.specs.declared.refusal.Refusal.{Refusal}
use Rattle.cat_base.specs.declared.refusal.Refusal.TheVariants.{Damaged, Device, Kind, Memory}
use Rattle.cat_ledger_laws.specs.model.Opening.{Restored, IsRestored, IsForeign}
use Rattle.cat_ledger_laws.specs.shape.Ties.{ToldFiles}
use Rattle.cat_commits.specs.reading.Told.{Tells}
use Rattle.cat_commits.proofs.reading.Reading.{passed, any_fault, not_ok}
use Rattle.cat_commits.proofs.Frames.{told_before, no_kind, opening_counts, reads_on}
use Rattle.cat_commits.proofs.reading.Parts.{not_restored, not_foreign, restored_is, other_leaves, told_leaves, listed_leaves, not_absent}
use Rattle.cat_commits.proofs.reading.restored.read_commit.Goals as goal

pub returns-in_err-commit-clause-damaged : goal.returns-in_err-commit-clause-damaged
returns-in_err-commit-clause-damaged g c =
    passed (λ (e : Refusal). e ≡ Damaged → (r : Restored) → IsRestored (Tells (g.S.Holder.bytes c.args.shelf.now)) c.args.schema.now c.args.generation r → ⊥) _ _ c.from_residual.ensures
    (λ is r k. c.in_err-commit.ensures.damaged is r.commit k.commit)

pub returns-in_err-commit-clause-own : goal.returns-in_err-commit-clause-own
returns-in_err-commit-clause-own g c =
    passed (λ (e : Refusal). e ≡ Damaged → IsForeign (Tells (g.S.Holder.bytes c.args.shelf.now)) c.args.schema.now c.args.generation → ⊥) _ _ c.from_residual.ensures
    (λ is k. c.in_err-commit.ensures.damaged is k.0 k.1)

pub returns-then-not-is_under-clause-foreign : goal.returns-then-not-is_under-clause-foreign
returns-then-not-is_under-clause-foreign g c = λ is.
    (c.in_ok-commit.commit, c.in_ok-commit.ensures.ok, λ same. absurd (let yes : c.is_under.result ≡ true = c.is_under.ensures.1 same in let no : c.is_under.result ≡ false = search rules in cc))

pub returns-in_err-leaves-clause-damaged : goal.returns-in_err-leaves-clause-damaged
returns-in_err-leaves-clause-damaged g c =
    let told : ToldFiles = g.S.Holder.bytes c.args.shelf.now in
    passed (λ (e : Refusal). e ≡ Damaged → (r : Restored) → IsRestored (Tells told) c.args.schema.now c.args.generation r → ⊥) _ _ c.from_residual-in_err-leaves.ensures
    (λ is r k.
    not_restored c.commits_are_told_by_their_bytes.ensures told c.args.schema.now c.args.generation c.in_ok-commit.commit r c.in_ok-commit.ensures.ok
    (λ ls are order ids.
    c.in_err-leaves.ensures.damaged is ls
    (told_leaves told (g.S.Holder.bytes c.read_own.new.shelf) c.args.schema.now c.in_ok-commit.commit.segments c.listed.result.now ls (told_before c.in_ok-commit.ensures.frame) c.listed.ensures are)) k)

pub returns-in_err-leaves-clause-own : goal.returns-in_err-leaves-clause-own
returns-in_err-leaves-clause-own g c =
    let told : ToldFiles = g.S.Holder.bytes c.args.shelf.now in
    passed (λ (e : Refusal). e ≡ Damaged → IsForeign (Tells told) c.args.schema.now c.args.generation → ⊥) _ _ c.from_residual-in_err-leaves.ensures
    (λ is. not_foreign c.commits_are_told_by_their_bytes.ensures told c.args.schema.now c.args.generation c.in_ok-commit.commit c.in_ok-commit.ensures.ok (c.is_under.ensures.0 (search rules)))

pub returns-then-not-well-clause-damaged : goal.returns-then-not-well-clause-damaged
returns-then-not-well-clause-damaged g c = λ is r k.
    let told : ToldFiles = g.S.Holder.bytes c.args.shelf.now in
    not_restored c.commits_are_told_by_their_bytes.ensures told c.args.schema.now c.args.generation c.in_ok-commit.commit r c.in_ok-commit.ensures.ok
    (λ ls are order ids.
    let same : ls ≡ c.in_ok-leaves.leaves.items = c.leaves_are_told_by_their_files.ensures told c.args.schema.now c.in_ok-commit.commit.segments c.in_ok-leaves.leaves.items ls
    (listed_leaves told (g.S.Holder.bytes c.read_own.new.shelf) c.args.schema.now c.in_ok-commit.commit.segments c.listed.result.now c.in_ok-leaves.leaves.items
    (told_before c.in_ok-commit.ensures.frame) c.listed.ensures c.in_ok-leaves.ensures.ok) are in
    other_leaves c.in_ok-commit.commit.token ls c.in_ok-leaves.leaves.items c.deref.result.now c.in_ok-well.well same c.deref.ensures.value c.in_ok-well.ensures (search rules) order ids) k

pub returns-then-not-well-clause-own : goal.returns-then-not-well-clause-own
returns-then-not-well-clause-own g c = λ is.
    not_foreign c.commits_are_told_by_their_bytes.ensures (g.S.Holder.bytes c.args.shelf.now) c.args.schema.now c.args.generation c.in_ok-commit.commit c.in_ok-commit.ensures.ok (c.is_under.ensures.0 (search rules))

pub returns-clause-ok : goal.returns-clause-ok
returns-clause-ok g c =
    let told : ToldFiles = g.S.Holder.bytes c.args.shelf.now in
    restored_is told c.args.schema.now c.args.generation c.in_ok-commit.commit c.in_ok-leaves.leaves.items c.deref.result.now c.in_ok-commit.ensures.ok (c.is_under.ensures.0 (search rules))
    (listed_leaves told (g.S.Holder.bytes c.read_own.new.shelf) c.args.schema.now c.in_ok-commit.commit.segments c.listed.result.now c.in_ok-leaves.leaves.items
    (told_before c.in_ok-commit.ensures.frame) c.listed.ensures c.in_ok-leaves.ensures.ok)
    c.deref.ensures.value (c.in_ok-well.ensures.0 (search rules))

pub returns-in_err-commit-clause-ok : goal.returns-in_err-commit-clause-ok
returns-in_err-commit-clause-ok g c = not_ok (IsRestored (MayHold (g.S.Holder.bytes c.args.shelf.now)) c.args.schema.now c.args.generation) _ _ c.from_residual.ensures

pub returns-in_err-commit-clause-foreign : goal.returns-in_err-commit-clause-foreign
returns-in_err-commit-clause-foreign g c =
    passed (λ (e : Refusal). e ≡ Kind → IsForeign (MayHold (g.S.Holder.bytes c.args.shelf.now)) c.args.schema.now c.args.generation) _ _ c.from_residual.ensures
    (no_kind _ _ _ _ c.in_err-commit.ensures.fails.counted)

pub returns-in_err-commit-clause-due : goal.returns-in_err-commit-clause-due
returns-in_err-commit-clause-due g c =
    passed (λ (e : Refusal). e ≡ Memory → g.S.Holder.bytes c.args.shelf.now (file.Commit c.args.generation) ≢ Some None) _ _ c.from_residual.ensures c.in_err-commit.ensures.due

pub returns-in_err-commit-clause-device : goal.returns-in_err-commit-clause-device
returns-in_err-commit-clause-device g c =
    passed (λ (e : Refusal). e ≡ Device → g.S.Holder.can_fail c.args.shelf.now) _ _ c.from_residual.ensures c.in_err-commit.ensures.fails.device

pub returns-in_err-commit-clause-frame : goal.returns-in_err-commit-clause-frame
returns-in_err-commit-clause-frame g c = c.in_err-commit.ensures.frame

pub returns-then-not-is_under-clause-damaged : goal.returns-then-not-is_under-clause-damaged
returns-then-not-is_under-clause-damaged g c = λ is r k. absurd (let no : Kind ≡ Damaged = is in cc)

pub returns-then-not-is_under-clause-own : goal.returns-then-not-is_under-clause-own
returns-then-not-is_under-clause-own g c = λ is k. absurd (let no : Kind ≡ Damaged = is in cc)

pub returns-then-not-is_under-clause-due : goal.returns-then-not-is_under-clause-due
returns-then-not-is_under-clause-due g c = λ is. absurd (let no : Kind ≡ Memory = is in cc)

pub returns-then-not-is_under-clause-device : goal.returns-then-not-is_under-clause-device
returns-then-not-is_under-clause-device g c = λ is. absurd (let no : Kind ≡ Device = is in cc)

pub returns-then-not-is_under-clause-frame : goal.returns-then-not-is_under-clause-frame
returns-then-not-is_under-clause-frame g c = c.in_ok-commit.ensures.frame

pub returns-then-not-is_under-clause-counted : goal.returns-then-not-is_under-clause-counted
returns-then-not-is_under-clause-counted g c = c.in_ok-commit.ensures.fails.counted

pub returns-in_err-leaves-clause-ok : goal.returns-in_err-leaves-clause-ok
returns-in_err-leaves-clause-ok g c = not_ok (IsRestored (MayHold (g.S.Holder.bytes c.args.shelf.now)) c.args.schema.now c.args.generation) _ _ c.from_residual-in_err-leaves.ensures

pub returns-in_err-leaves-clause-foreign : goal.returns-in_err-leaves-clause-foreign
returns-in_err-leaves-clause-foreign g c =
    passed (λ (e : Refusal). e ≡ Kind → IsForeign (MayHold (g.S.Holder.bytes c.args.shelf.now)) c.args.schema.now c.args.generation) _ _ c.from_residual-in_err-leaves.ensures
    (no_kind _ _ _ _ c.in_err-leaves.ensures.fails.counted)

pub returns-in_err-leaves-clause-due : goal.returns-in_err-leaves-clause-due
returns-in_err-leaves-clause-due g c =
    passed (λ (e : Refusal). e ≡ Memory → g.S.Holder.bytes c.args.shelf.now (file.Commit c.args.generation) ≢ Some None) _ _ c.from_residual-in_err-leaves.ensures
    (λ is. not_absent (g.S.Holder.bytes c.args.shelf.now (file.Commit c.args.generation)) c.in_ok-commit.ensures.ok.bytes c.in_ok-commit.ensures.ok.there)

pub returns-in_err-leaves-clause-device : goal.returns-in_err-leaves-clause-device
returns-in_err-leaves-clause-device g c =
    passed (λ (e : Refusal). e ≡ Device → g.S.Holder.can_fail c.args.shelf.now) _ _ c.from_residual-in_err-leaves.ensures
    (λ is. c.in_ok-commit.ensures.frame.can (c.in_err-leaves.ensures.fails.device is))

pub returns-in_err-leaves-clause-frame : goal.returns-in_err-leaves-clause-frame
returns-in_err-leaves-clause-frame g c = reads_on c.in_ok-commit.ensures.frame c.in_err-leaves.ensures.frame

pub returns-in_err-well-clause-due : goal.returns-in_err-well-clause-due
returns-in_err-well-clause-due g c =
    any_fault (λ (e : Refusal). e ≡ Memory → g.S.Holder.bytes c.args.shelf.now (file.Commit c.args.generation) ≢ Some None) _
    (λ e is. not_absent (g.S.Holder.bytes c.args.shelf.now (file.Commit c.args.generation)) c.in_ok-commit.ensures.ok.bytes c.in_ok-commit.ensures.ok.there)

pub returns-in_err-well-clause-frame : goal.returns-in_err-well-clause-frame
returns-in_err-well-clause-frame g c = reads_on c.in_ok-commit.ensures.frame c.in_ok-leaves.ensures.frame

pub returns-then-not-well-clause-foreign : goal.returns-then-not-well-clause-foreign
returns-then-not-well-clause-foreign g c = λ is. absurd (let no : Damaged ≡ Kind = is in cc)

pub returns-then-not-well-clause-due : goal.returns-then-not-well-clause-due
returns-then-not-well-clause-due g c = λ is. absurd (let no : Damaged ≡ Memory = is in cc)

pub returns-then-not-well-clause-device : goal.returns-then-not-well-clause-device
returns-then-not-well-clause-device g c = λ is. absurd (let no : Damaged ≡ Device = is in cc)

pub returns-then-not-well-clause-frame : goal.returns-then-not-well-clause-frame
returns-then-not-well-clause-frame g c = reads_on c.in_ok-commit.ensures.frame c.in_ok-leaves.ensures.frame

pub returns-then-not-well-clause-counted : goal.returns-then-not-well-clause-counted
returns-then-not-well-clause-counted g c = c.in_ok-leaves.ensures.fails.counted ∙ c.in_ok-commit.ensures.fails.counted

pub returns-clause-frame : goal.returns-clause-frame
returns-clause-frame g c = reads_on c.in_ok-commit.ensures.frame c.in_ok-leaves.ensures.frame

pub returns-clause-counted : goal.returns-clause-counted
returns-clause-counted g c = c.in_ok-leaves.ensures.fails.counted ∙ c.in_ok-commit.ensures.fails.counted

pub returns-in_err-commit-clause-counted : goal.returns-in_err-commit-clause-counted
returns-in_err-commit-clause-counted g c =
    opening_counts (g.S.Holder.fault_count c.args.shelf.now) (g.S.Holder.fault_count c.read_own.new.shelf) _ _ c.from_residual.ensures c.in_err-commit.ensures.fails.counted

pub returns-in_err-leaves-clause-counted : goal.returns-in_err-leaves-clause-counted
returns-in_err-leaves-clause-counted g c =
    opening_counts (g.S.Holder.fault_count c.args.shelf.now) (g.S.Holder.fault_count c.read_leaves.new.shelf) _ _ c.from_residual-in_err-leaves.ensures
    (subst (λ (n : ℕ). ReadingCount n (g.S.Holder.fault_count c.read_leaves.new.shelf) c.in_err-leaves.field-0.0) c.in_ok-commit.ensures.fails.counted c.in_err-leaves.ensures.fails.counted)

pub returns-in_err-well-clause-ok : goal.returns-in_err-well-clause-ok
returns-in_err-well-clause-ok g c = IfOk-from_err _ _ c.from_residual-in_err-well.ensures.0

pub returns-in_err-well-clause-damaged : goal.returns-in_err-well-clause-damaged
returns-in_err-well-clause-damaged g c =
    passed (λ (e : Refusal). e ≡ Damaged → (r : Restored) → IsRestored (Tells (g.S.Holder.bytes c.args.shelf.now)) c.args.schema.now c.args.generation r → ⊥) _ Memory c.from_residual-in_err-well.ensures
    (λ is. absurd (let no : Memory ≡ Damaged = is in cc))

pub returns-in_err-well-clause-own : goal.returns-in_err-well-clause-own
returns-in_err-well-clause-own g c =
    passed (λ (e : Refusal). e ≡ Damaged → IsForeign (Tells (g.S.Holder.bytes c.args.shelf.now)) c.args.schema.now c.args.generation → ⊥) _ Memory c.from_residual-in_err-well.ensures (λ is. absurd (let no : Memory ≡ Damaged = is in cc))

pub returns-in_err-well-clause-foreign : goal.returns-in_err-well-clause-foreign
returns-in_err-well-clause-foreign g c =
    passed (λ (e : Refusal). e ≡ Kind → IsForeign (MayHold (g.S.Holder.bytes c.args.shelf.now)) c.args.schema.now c.args.generation) _ Memory c.from_residual-in_err-well.ensures (λ is. absurd (let no : Memory ≡ Kind = is in cc))

pub returns-in_err-well-clause-device : goal.returns-in_err-well-clause-device
returns-in_err-well-clause-device g c =
    passed (λ (e : Refusal). e ≡ Device → g.S.Holder.can_fail c.args.shelf.now) _ Memory c.from_residual-in_err-well.ensures (λ is. absurd (let no : Memory ≡ Device = is in cc))

pub returns-in_err-well-clause-counted : goal.returns-in_err-well-clause-counted
returns-in_err-well-clause-counted g c =
    opening_counts (g.S.Holder.fault_count c.args.shelf.now) (g.S.Holder.fault_count c.read_leaves.new.shelf) _ Memory c.from_residual-in_err-well.ensures (c.in_ok-leaves.ensures.fails.counted ∙ c.in_ok-commit.ensures.fails.counted)
