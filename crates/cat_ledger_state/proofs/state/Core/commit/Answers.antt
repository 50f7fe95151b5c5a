use Rattle.std.proofs.Common.{◌≡◌, ℕ, ◌+◌, ◌<◌, ◌≤◌, [], ◌∷◌, map, refl, sym, ◌∙◌, ap, subst, inl, inr, Some, None, true, false, arith}
use Rattle.std.specs.Prelude.{◌⊎◌}
use Rattle.std.proofs.lemmas.Result.{IfOk-at_ok, IfErr-at_err}
use Rattle.cat_base.specs.declared.refusal.Refusal.{Refusal}
use Rattle.cat_base.specs.declared.refusal.Refusal.TheVariants.{Device, Memory, Spent}
use Rattle.cat_model.specs.Limits.{last_number}
use Rattle.cat_directory.specs.Devices.{CountsOne}
use Rattle.cat_model.specs.Files.{Name}
use Rattle.cat_model.specs.CommitFile.{IsCommitFile, commit_needs, spelled_commit}
use Rattle.cat_directory.specs.Names.{name_of}
use Rattle.cat_directory.specs.declared.name.FileName.{FileName}
use Rattle.cat_directory.specs.declared.name.FileName.TheVariants as file
use Rattle.cat_ledger_laws.specs.model.Users.{has_name, is_known, times, users_of}
use Rattle.cat_ledger_laws.specs.shape.CommitLaws.{names_begun}
use Rattle.cat_ledger_laws.specs.shape.Steps.{commit_file_now}
use Rattle.cat_ledger_laws.specs.shape.Ties.{TouchesOnly}
use Rattle.cat_ledger_laws.proofs.shape.Committed.{commits_keep}
use Rattle.cat_ledger_laws.proofs.shape.Writes.{refusals_keep}
use Rattle.cat_commits.specs.writing.Drafts.{OwnComesBehind}
use Rattle.cat_commits.specs.writing.NewFiles.{AreSettled, ComesLast, NoMoreBut, OnlyTorn}
use Rattle.cat_commits.specs.writing.Unsynced.{begun}
use Rattle.cat_ledger_state.specs.Commits.{HasCommitted, draft_now, names_given}
use Rattle.cat_ledger_state.specs.Cores.{HasGivenUp, StayKnown, shape_of_core}
use Rattle.cat_commits.proofs.reading.Reading.{passed}
use Rattle.cat_ledger_state.proofs.Results.{either_err}
use Rattle.cat_ledger_state.proofs.Counting.{given_again, known_still}
use Rattle.cat_ledger_state.proofs.Committing.{needs_fit, leaving_fit_after, committed_is, commit_writes, commit_left}
use Rattle.cat_ledger_state.proofs.Known.{commit_past, undone_past}
use Rattle.cat_ledger_state.proofs.state.Core.commit.Goals as goal

none_left : (n : ℕ) → n ≤ last_number → last_number < n → ⊥
none_left n some gone = omega (arith, some, gone)

pub make_room-requires : goal.make_room-requires
make_room-requires g c =
    let text = c.args.text.now in
    let draft = c.in_ok-ready.ensures.draft ∙ ap (draft_now text) (sym c.self.view_is) in
    needs_fit text (shape_of_core c.self.inside) c.len.result (map name_of c.names.result.now) c.self.invariant.shape c.len.ensures.len c.len.ensures.few
    (c.names.ensures ∙ ap (λ d. commit_needs d.commit) draft)

pub conclude-requires-clause-given : goal.conclude-requires-clause-given
conclude-requires-clause-given g c =
    leaving_fit_after (shape_of_core c.self.inside) _ (map name_of c.names.result.now)
    (map name_of c.in_ok-ready.ready.given.items) c.make_room.new.refs c.self.invariant.shape c.in_ok-make_room.ensures.ok (c.in_ok-ready.ensures.given ∙ ap names_given (sym c.self.view_is))

pub conclude-requires-clause-taken : goal.conclude-requires-clause-taken
conclude-requires-clause-taken g c =
    λ q. subst (λ names. times q names ≤ users_of c.make_room.new.refs q) c.names.ensures
    (given_again (map name_of c.names.result.now) c.self.inside.refs c.make_room.new.refs c.in_ok-make_room.ensures.ok q)

pub invariant_of-self-2 : goal.invariant_of-self-2
invariant_of-self-2 g c =
    let text = c.args.text.now in
    let draft = c.in_ok-ready.ensures.draft ∙ ap (draft_now text) (sym c.self.view_is) in
    let taken = c.names.ensures ∙ ap (λ d. commit_needs d.commit) draft in
    let kept = IfOk-at_ok (λ _. _) c.in_default.is c.conclude.ensures.kept in
    let listed = IfOk-at_ok (λ _. _) c.in_default.is c.conclude.ensures.listed in
    let gone = IfOk-at_ok (λ _. _) c.in_default.is c.conclude.ensures.gone in
    let committed = committed_is text (shape_of_core c.self.inside) c.in_ok-ready.ready.draft.commit c.make_room.new.commits.items c.conclude.new.commits.items
    c.conclude.new.listing (map name_of c.names.result.now) (map name_of c.in_ok-ready.ready.given.items) c.make_room.new.refs c.conclude.new.refs
    c.if-generation-gt-LAST_NUMBER.false (ap (λ d. d.commit) draft) (listed ∙ ap (λ d. d.listing) draft) c.in_ok-make_room.ensures.same kept taken
    (c.in_ok-ready.ensures.given ∙ ap names_given (sym c.self.view_is)) c.in_ok-make_room.ensures.ok gone in
    let flushed = subst (λ s. s.buffered ≡ []) (sym c.self.view_is) c.requires.flushed in
    let past = commit_past text (shape_of_core c.self.inside) (map name_of c.names.result.now) c.self.invariant.shape
    (subst (λ s. IsCommitFile (commit_file_now text s)) (sym c.self.view_is) c.ready.ensures.form) taken in
    record {
      shape = commits_keep text (shape_of_core c.self.inside) _ flushed committed c.self.invariant.shape;
      waits = c.self.invariant.waits;
      few = c.self.invariant.few;
      merges = c.self.invariant.merges;
      known = undone_past _ _ _ _ _ c.self.inside.next_segment c.self.inside.next_generation c.self.inside.next_segment (c.self.inside.next_generation + 1) (omega arith) (omega arith) past c.in_ok-make_room.ensures.ok gone c.self.invariant.known;
    }

pub invariant_of-self-in-Err : goal.invariant_of-self-in-Err
invariant_of-self-in-Err g c =
    let text = c.args.text.now in
    let draft = c.in_ok-ready.ensures.draft ∙ ap (draft_now text) (sym c.self.view_is) in
    let taken = c.names.ensures ∙ ap (λ d. commit_needs d.commit) draft in
    let stay = IfErr-at_err (λ _. _) c.in-Err.is c.conclude.ensures.stay in
    let unlisted = IfErr-at_err (λ _. _) c.in-Err.is c.conclude.ensures.unlisted in
    let undone = IfErr-at_err (λ _. _) c.in-Err.is c.conclude.ensures.undone in
    let left = commit_left text (shape_of_core c.self.inside) c.conclude.new.commits.items c.conclude.new.listing (map name_of c.names.result.now)
    (commit_needs c.in_ok-ready.ready.draft.commit) c.make_room.new.refs c.conclude.new.refs c.self.invariant.shape c.if-generation-gt-LAST_NUMBER.false
    (stay ∙ c.in_ok-make_room.ensures.same) unlisted taken (ap (λ d. commit_needs d.commit) draft) c.in_ok-make_room.ensures.ok undone in
    let past = commit_past text (shape_of_core c.self.inside) (map name_of c.names.result.now) c.self.invariant.shape
    (subst (λ s. IsCommitFile (commit_file_now text s)) (sym c.self.view_is) c.ready.ensures.form) taken in
    record {
      shape = refusals_keep (names_begun (shape_of_core c.self.inside)) (shape_of_core c.self.inside) _ left c.self.invariant.shape;
      waits = c.self.invariant.waits;
      few = c.self.invariant.few;
      merges = c.self.invariant.merges;
      known = undone_past _ _ _ _ _ c.self.inside.next_segment c.self.inside.next_generation c.self.inside.next_segment (c.self.inside.next_generation + 1) (omega arith) (omega arith) past c.in_ok-make_room.ensures.ok undone c.self.invariant.known;
    }

pub returns-clause-ok : goal.returns-clause-ok
returns-clause-ok g c =
    let text = c.args.text.now in
    let draft = c.in_ok-ready.ensures.draft ∙ ap (draft_now text) (sym c.self.view_is) in
    let taken = c.names.ensures ∙ ap (λ d. commit_needs d.commit) draft in
    let kept = IfOk-at_ok (λ _. _) c.in_default.is c.conclude.ensures.kept in
    let listed = IfOk-at_ok (λ _. _) c.in_default.is c.conclude.ensures.listed in
    let gone = IfOk-at_ok (λ _. _) c.in_default.is c.conclude.ensures.gone in
    let committed = committed_is text (shape_of_core c.self.inside) c.in_ok-ready.ready.draft.commit c.make_room.new.commits.items c.conclude.new.commits.items
    c.conclude.new.listing (map name_of c.names.result.now) (map name_of c.in_ok-ready.ready.given.items) c.make_room.new.refs c.conclude.new.refs
    c.if-generation-gt-LAST_NUMBER.false (ap (λ d. d.commit) draft) (listed ∙ ap (λ d. d.listing) draft) c.in_ok-make_room.ensures.same kept taken
    (c.in_ok-ready.ensures.given ∙ ap names_given (sym c.self.view_is)) c.in_ok-make_room.ensures.ok gone in
    let written = commit_writes text (shape_of_core c.self.inside) c.in_ok-ready.ready.draft (g.D.Holder.bytes c.args.device.now) (g.D.Holder.bytes c.write-written.new.device)
    c.drafts_write_commits.ensures draft c.write-written.ensures.others (IfOk-at_ok (λ _. _) c.in_default.is c.write-written.ensures.own) (IfOk-at_ok (λ _. _) c.in_default.is c.write-written.ensures.live) in
    let new = record (shape_of_core c.self.inside) {
      commits = c.conclude.new.commits.items;
      listed = c.conclude.new.listing;
      users = c.conclude.new.refs;
      next_generation = c.self.inside.next_generation + 1;
    } in
    subst (λ s. HasCommitted text (g.D.Holder.bytes c.args.device.now) s (g.D.Holder.bytes c.write-written.new.device) new) c.self.view_is (committed, written)

pub returns-clause-crash : goal.returns-clause-crash
returns-clause-crash g c =
    subst (λ d. NoMoreBut (begun d.commit.generation d.listing) (g.D.Holder.may_leave c.args.device.now) (g.D.Holder.may_leave c.write-written.new.device)) c.in_ok-ready.ensures.draft c.write-written.ensures.crash

pub returns-clause-lasts : goal.returns-clause-lasts
returns-clause-lasts g c =
    subst (λ d. AreSettled (Name.commit d.commit.generation ∷ d.unsynced) (g.D.Holder.bytes c.write-written.new.device) (g.D.Holder.may_leave c.write-written.new.device)) c.in_ok-ready.ensures.draft (IfOk-at_ok (λ _. _) c.in_default.is c.write-written.ensures.lasts)

pub returns-clause-order : goal.returns-clause-order
returns-clause-order g c =
    subst (λ d. ComesLast (file.Commit d.commit.generation) d.unsynced (g.D.Holder.bytes c.args.device.now) (g.D.Holder.bytes c.write-written.new.device) (g.D.Holder.may_leave c.args.device.now) (g.D.Holder.may_leave c.write-written.new.device))
    c.in_ok-ready.ensures.draft c.write-written.ensures.order

pub returns-in-Err-clause-err : goal.returns-in-Err-clause-err
returns-in-Err-clause-err g c =
    let text = c.args.text.now in
    let draft = c.in_ok-ready.ensures.draft ∙ ap (draft_now text) (sym c.self.view_is) in
    let taken = c.names.ensures ∙ ap (λ d. commit_needs d.commit) draft in
    let stay = IfErr-at_err (λ _. _) c.in-Err.is c.conclude.ensures.stay in
    let unlisted = IfErr-at_err (λ _. _) c.in-Err.is c.conclude.ensures.unlisted in
    let undone = IfErr-at_err (λ _. _) c.in-Err.is c.conclude.ensures.undone in
    let left = commit_left text (shape_of_core c.self.inside) c.conclude.new.commits.items c.conclude.new.listing (map name_of c.names.result.now)
    (commit_needs c.in_ok-ready.ready.draft.commit) c.make_room.new.refs c.conclude.new.refs c.self.invariant.shape c.if-generation-gt-LAST_NUMBER.false
    (stay ∙ c.in_ok-make_room.ensures.same) unlisted taken (ap (λ d. commit_needs d.commit) draft) c.in_ok-make_room.ensures.ok undone in
    let touched = subst (λ d. TouchesOnly (begun d.commit.generation d.listing) (g.D.Holder.bytes c.args.device.now) (g.D.Holder.bytes c.write-written.new.device)) draft c.write-written.ensures.others in
    let new = record (shape_of_core c.self.inside) {
      commits = c.conclude.new.commits.items;
      listed = c.conclude.new.listing;
      users = c.conclude.new.refs;
      next_generation = c.self.inside.next_generation + 1;
    } in
    subst (λ s. HasGivenUp (names_begun s) (g.D.Holder.bytes c.args.device.now) s (g.D.Holder.bytes c.write-written.new.device) new) c.self.view_is (inr (left, touched))

pub returns-in-Err-clause-crash : goal.returns-in-Err-clause-crash
returns-in-Err-clause-crash g c =
    subst (λ d. NoMoreBut (begun d.commit.generation d.listing) (g.D.Holder.may_leave c.args.device.now) (g.D.Holder.may_leave c.write-written.new.device)) c.in_ok-ready.ensures.draft c.write-written.ensures.crash

pub returns-in-Err-clause-order : goal.returns-in-Err-clause-order
returns-in-Err-clause-order g c =
    subst (λ d. ComesLast (file.Commit d.commit.generation) d.unsynced (g.D.Holder.bytes c.args.device.now) (g.D.Holder.bytes c.write-written.new.device) (g.D.Holder.may_leave c.args.device.now) (g.D.Holder.may_leave c.write-written.new.device))
    c.in_ok-ready.ensures.draft c.write-written.ensures.order

pub returns-in-Err-clause-device : goal.returns-in-Err-clause-device
returns-in-Err-clause-device g c =
    subst (λ d. c.in-Err.refusal ≡ Device → g.D.Holder.can_fail c.args.device.now
    ⊎ ((q : FileName) × (has_name (name_of q) d.unsynced ≡ true) × (has_name (name_of q) (begun d.commit.generation d.listing) ≡ false)
    × (g.D.Holder.bytes c.args.device.now q ≡ Some None))) c.in_ok-ready.ensures.draft
    (IfErr-at_err (λ e. e ≡ Device → g.D.Holder.can_fail c.args.device.now
    ⊎ ((q : FileName) × (has_name (name_of q) c.in_ok-ready.ready.draft.unsynced ≡ true) × (has_name (name_of q) (begun c.in_ok-ready.ready.draft.commit.generation c.in_ok-ready.ready.draft.listing) ≡ false)
    × (g.D.Holder.bytes c.args.device.now q ≡ Some None))) c.in-Err.is c.write-written.ensures.device)

pub returns-in-Err-clause-known : goal.returns-in-Err-clause-known
returns-in-Err-clause-known g c =
    let undone = IfErr-at_err (λ _. _) c.in-Err.is c.conclude.ensures.undone in
    subst (λ s. StayKnown s.users c.conclude.new.refs) c.self.view_is
    (known_still _ _ c.self.inside.refs c.make_room.new.refs c.conclude.new.refs c.in_ok-make_room.ensures.ok undone)

pub returns-in-Err-clause-taken : goal.returns-in-Err-clause-taken
returns-in-Err-clause-taken g c = inl (ap (λ s. s.next_generation + 1) c.self.view_is)

pub returns-clause-behind : goal.returns-clause-behind
returns-clause-behind g c =
    subst (λ d. OwnComesBehind d.commit.generation d.listing (g.D.Holder.bytes c.args.device.now) (g.D.Holder.bytes c.write-written.new.device) (g.D.Holder.may_leave c.args.device.now) (g.D.Holder.may_leave c.write-written.new.device)) c.in_ok-ready.ensures.draft c.write-written.ensures.behind

pub returns-clause-torn : goal.returns-clause-torn
returns-clause-torn g c =
    subst (λ d. OnlyTorn (file.Commit d.commit.generation) (spelled_commit d.commit) (g.D.Holder.bytes c.args.device.now) (g.D.Holder.may_leave c.args.device.now) (g.D.Holder.may_leave c.write-written.new.device)) c.in_ok-ready.ensures.draft c.write-written.ensures.torn

pub returns-in-Err-clause-behind : goal.returns-in-Err-clause-behind
returns-in-Err-clause-behind g c =
    subst (λ d. OwnComesBehind d.commit.generation d.listing (g.D.Holder.bytes c.args.device.now) (g.D.Holder.bytes c.write-written.new.device) (g.D.Holder.may_leave c.args.device.now) (g.D.Holder.may_leave c.write-written.new.device)) c.in_ok-ready.ensures.draft c.write-written.ensures.behind

pub returns-in-Err-clause-torn : goal.returns-in-Err-clause-torn
returns-in-Err-clause-torn g c =
    subst (λ d. OnlyTorn (file.Commit d.commit.generation) (spelled_commit d.commit) (g.D.Holder.bytes c.args.device.now) (g.D.Holder.may_leave c.args.device.now) (g.D.Holder.may_leave c.write-written.new.device)) c.in_ok-ready.ensures.draft c.write-written.ensures.torn

pub returns-then-generation-gt-LAST_NUMBER-clause-form : goal.returns-then-generation-gt-LAST_NUMBER-clause-form
returns-then-generation-gt-LAST_NUMBER-clause-form g c = λ left.
    absurd (none_left c.self.inside.next_generation (subst (λ s. s.next_generation ≤ last_number) (sym c.self.view_is) left) c.if-generation-gt-LAST_NUMBER.true)

pub returns-then-generation-gt-LAST_NUMBER-clause-err : goal.returns-then-generation-gt-LAST_NUMBER-clause-err
returns-then-generation-gt-LAST_NUMBER-clause-err g c = inl (refl, λ q. refl)

pub returns-then-generation-gt-LAST_NUMBER-clause-known : goal.returns-then-generation-gt-LAST_NUMBER-clause-known
returns-then-generation-gt-LAST_NUMBER-clause-known g c = λ q known. known

pub returns-then-generation-gt-LAST_NUMBER-clause-taken : goal.returns-then-generation-gt-LAST_NUMBER-clause-taken
returns-then-generation-gt-LAST_NUMBER-clause-taken g c = inr refl

pub returns-then-generation-gt-LAST_NUMBER-clause-crash : goal.returns-then-generation-gt-LAST_NUMBER-clause-crash
returns-then-generation-gt-LAST_NUMBER-clause-crash g c = λ q other e might. might

pub returns-then-generation-gt-LAST_NUMBER-clause-order : goal.returns-then-generation-gt-LAST_NUMBER-clause-order
returns-then-generation-gt-LAST_NUMBER-clause-order g c = inl (record { told_same = refl; left_same = λ e might. might })

pub returns-then-generation-gt-LAST_NUMBER-clause-behind : goal.returns-then-generation-gt-LAST_NUMBER-clause-behind
returns-then-generation-gt-LAST_NUMBER-clause-behind g c = inl (record { told_same = refl; left_same = λ e might. might })

pub returns-then-generation-gt-LAST_NUMBER-clause-spent : goal.returns-then-generation-gt-LAST_NUMBER-clause-spent
returns-then-generation-gt-LAST_NUMBER-clause-spent g c = λ is. subst (λ s. last_number < s.next_generation) c.self.view_is c.if-generation-gt-LAST_NUMBER.true

pub returns-then-generation-gt-LAST_NUMBER-clause-due : goal.returns-then-generation-gt-LAST_NUMBER-clause-due
returns-then-generation-gt-LAST_NUMBER-clause-due g c = λ is. elim is [ inl memory ↦ cc | inr device ↦ cc ]

pub returns-then-generation-gt-LAST_NUMBER-clause-device : goal.returns-then-generation-gt-LAST_NUMBER-clause-device
returns-then-generation-gt-LAST_NUMBER-clause-device g c = λ is. cc is

pub returns-then-generation-gt-LAST_NUMBER-clause-counted : goal.returns-then-generation-gt-LAST_NUMBER-clause-counted
returns-then-generation-gt-LAST_NUMBER-clause-counted g c = λ is. cc is

pub returns-then-generation-gt-LAST_NUMBER-clause-memory : goal.returns-then-generation-gt-LAST_NUMBER-clause-memory
returns-then-generation-gt-LAST_NUMBER-clause-memory g c = λ is. cc is

pub returns-then-generation-gt-LAST_NUMBER-clause-refusal : goal.returns-then-generation-gt-LAST_NUMBER-clause-refusal
returns-then-generation-gt-LAST_NUMBER-clause-refusal g c = inr (inr refl)

pub returns-in_err-ready-clause-form : goal.returns-in_err-ready-clause-form
returns-in_err-ready-clause-form g c = λ left. c.ready.ensures.form

pub returns-in_err-ready-clause-crash : goal.returns-in_err-ready-clause-crash
returns-in_err-ready-clause-crash g c = λ q other e might. might

pub returns-in_err-ready-clause-order : goal.returns-in_err-ready-clause-order
returns-in_err-ready-clause-order g c = inl (record { told_same = refl; left_same = λ e might. might })

pub returns-in_err-ready-clause-behind : goal.returns-in_err-ready-clause-behind
returns-in_err-ready-clause-behind g c = inl (record { told_same = refl; left_same = λ e might. might })

pub returns-in_err-ready-clause-err : goal.returns-in_err-ready-clause-err
returns-in_err-ready-clause-err g c = either_err c.from_residual.result (inl (refl, λ q. refl))

pub returns-in_err-ready-clause-known : goal.returns-in_err-ready-clause-known
returns-in_err-ready-clause-known g c = either_err c.from_residual.result (λ q known. known)

pub returns-in_err-ready-clause-taken : goal.returns-in_err-ready-clause-taken
returns-in_err-ready-clause-taken g c = either_err c.from_residual.result (inr refl)

pub returns-in_err-ready-clause-spent : goal.returns-in_err-ready-clause-spent
returns-in_err-ready-clause-spent g c = passed (λ (e : Refusal). e ≡ Spent → last_number < c.args.self.now.next_generation) _ _ c.from_residual.ensures (λ is. cc is)

pub returns-in_err-ready-clause-due : goal.returns-in_err-ready-clause-due
returns-in_err-ready-clause-due g c =
    passed (λ (e : Refusal). (e ≡ Memory) ⊎ (e ≡ Device) → c.args.self.now.next_generation ≤ last_number) _ _ c.from_residual.ensures
    (λ is. subst (λ s. s.next_generation ≤ last_number) c.self.view_is c.if-generation-gt-LAST_NUMBER.false)

pub returns-in_err-ready-clause-counted : goal.returns-in_err-ready-clause-counted
returns-in_err-ready-clause-counted g c =
    passed (λ (e : Refusal). e ≡ Device → CountsOne (g.D.Holder.fault_count c.args.device.now) (g.D.Holder.fault_count c.args.device.now)) _ _ c.from_residual.ensures (λ is. cc is)

pub returns-in_err-ready-clause-memory : goal.returns-in_err-ready-clause-memory
returns-in_err-ready-clause-memory g c =
    passed (λ (e : Refusal). e ≡ Memory → g.D.Holder.fault_count c.args.device.now ≡ g.D.Holder.fault_count c.args.device.now) _ _ c.from_residual.ensures (λ is. refl)

pub returns-in_err-ready-clause-refusal : goal.returns-in_err-ready-clause-refusal
returns-in_err-ready-clause-refusal g c = passed (λ (e : Refusal). (e ≡ Memory) ⊎ (e ≡ Device) ⊎ (e ≡ Spent)) _ _ c.from_residual.ensures (inl refl)

pub returns-in_err-make_room-clause-form : goal.returns-in_err-make_room-clause-form
returns-in_err-make_room-clause-form g c = λ left. c.ready.ensures.form

pub returns-in_err-make_room-clause-crash : goal.returns-in_err-make_room-clause-crash
returns-in_err-make_room-clause-crash g c = λ q other e might. might

pub returns-in_err-make_room-clause-order : goal.returns-in_err-make_room-clause-order
returns-in_err-make_room-clause-order g c = inl (record { told_same = refl; left_same = λ e might. might })

pub returns-in_err-make_room-clause-behind : goal.returns-in_err-make_room-clause-behind
returns-in_err-make_room-clause-behind g c = inl (record { told_same = refl; left_same = λ e might. might })

pub returns-in_err-make_room-clause-taken : goal.returns-in_err-make_room-clause-taken
returns-in_err-make_room-clause-taken g c = either_err c.from_residual-in_err-make_room.result (inr refl)

pub returns-in_err-make_room-clause-spent : goal.returns-in_err-make_room-clause-spent
returns-in_err-make_room-clause-spent g c = passed (λ (e : Refusal). e ≡ Spent → last_number < c.args.self.now.next_generation) _ _ c.from_residual-in_err-make_room.ensures (λ is. cc is)

pub returns-in_err-make_room-clause-due : goal.returns-in_err-make_room-clause-due
returns-in_err-make_room-clause-due g c =
    passed (λ (e : Refusal). (e ≡ Memory) ⊎ (e ≡ Device) → c.args.self.now.next_generation ≤ last_number) _ _ c.from_residual-in_err-make_room.ensures
    (λ is. subst (λ s. s.next_generation ≤ last_number) c.self.view_is c.if-generation-gt-LAST_NUMBER.false)

pub returns-in_err-make_room-clause-counted : goal.returns-in_err-make_room-clause-counted
returns-in_err-make_room-clause-counted g c =
    passed (λ (e : Refusal). e ≡ Device → CountsOne (g.D.Holder.fault_count c.args.device.now) (g.D.Holder.fault_count c.args.device.now)) _ _ c.from_residual-in_err-make_room.ensures (λ is. cc is)

pub returns-in_err-make_room-clause-memory : goal.returns-in_err-make_room-clause-memory
returns-in_err-make_room-clause-memory g c =
    passed (λ (e : Refusal). e ≡ Memory → g.D.Holder.fault_count c.args.device.now ≡ g.D.Holder.fault_count c.args.device.now) _ _ c.from_residual-in_err-make_room.ensures (λ is. refl)

pub returns-in_err-make_room-clause-refusal : goal.returns-in_err-make_room-clause-refusal
returns-in_err-make_room-clause-refusal g c = passed (λ (e : Refusal). (e ≡ Memory) ⊎ (e ≡ Device) ⊎ (e ≡ Spent)) _ _ c.from_residual-in_err-make_room.ensures (inl refl)

pub returns-in-Err-clause-form : goal.returns-in-Err-clause-form
returns-in-Err-clause-form g c = λ left. c.ready.ensures.form

pub returns-clause-form : goal.returns-clause-form
returns-clause-form g c = λ left. c.ready.ensures.form

pub returns-in-Err-clause-due : goal.returns-in-Err-clause-due
returns-in-Err-clause-due g c = λ is. subst (λ s. s.next_generation ≤ last_number) c.self.view_is c.if-generation-gt-LAST_NUMBER.false

pub returns-in-Err-clause-can : goal.returns-in-Err-clause-can
returns-in-Err-clause-can g c = c.write-written.ensures.can

pub returns-clause-can : goal.returns-clause-can
returns-clause-can g c = c.write-written.ensures.can

pub returns-in_err-make_room-clause-err : goal.returns-in_err-make_room-clause-err
returns-in_err-make_room-clause-err g c =
    let left = record (shape_of_core c.self.inside) { commits = c.make_room.new.commits.items; users = c.make_room.new.refs } in
    let same : left ≡ shape_of_core c.self.inside = λ i. record (shape_of_core c.self.inside) { commits = c.in_err-make_room.ensures.same i; users = c.in_err-make_room.ensures.err i } in
    either_err c.from_residual-in_err-make_room.result (inl (same ∙ c.self.view_is, λ q. refl))

pub returns-in_err-make_room-clause-known : goal.returns-in_err-make_room-clause-known
returns-in_err-make_room-clause-known g c =
    either_err c.from_residual-in_err-make_room.result
    (subst (λ s. StayKnown s.users c.make_room.new.refs) c.self.view_is
    (λ q known. subst (λ us. is_known us q ≡ true) (sym c.in_err-make_room.ensures.err) known))

pub conclude-requires-clause-room : goal.conclude-requires-clause-room
conclude-requires-clause-room c = grind arith
