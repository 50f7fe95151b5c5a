use Rattle.std.proofs.Common.{◌≡◌, ◌≢◌, ℕ, List, ◌∷◌, map, Some, None, Result, Ok, Err, AllPairs, IfErr, refl, sym, ap, ap₂, ◌∙◌, subst, inl, inr}
use Rattle.std.specs.Prelude.{◌⊎◌, false, true, All}
use Rattle.std.specs.List.{AllByRecursion}
use Rattle.std.proofs.lemmas.Result.{on_ok_weaker, IfErr-weaker}
use Rattle.cat_base.specs.declared.refusal.Refusal.TheVariants.{Device, Memory}
use Rattle.cat_base.specs.declared.refusal.Refusal.{Refusal}
use Rattle.cat_model.specs.Files.{Name, IsFileName}
use Rattle.cat_directory.specs.Devices.{CountsWriting, WritingCount}
use Rattle.cat_directory.specs.declared.name.FileName.{FileName}
use Rattle.cat_directory.specs.declared.name.FileName.TheVariants as file
use Rattle.cat_directory.specs.Names.{name_of}
use Rattle.cat_ledger_laws.specs.model.Users.{has_name, same_file_name}
use Rattle.cat_ledger_laws.specs.shape.Ties.{TouchesOnly}
use Rattle.cat_commits.specs.writing.NewFiles.{ComesLast, IsUntouched, NewBytes, names_of, IsWritten, NoMoreBut, AreSettled, OnlyTorn}
use Rattle.cat_model.specs.CommitFile.{spelled_commit}
use Rattle.cat_commits.specs.writing.Unsynced.{begun}
use Rattle.cat_commits.specs.writing.Drafts.{Drafted, HasNewFile, OwnComesBehind}
use Rattle.cat_commits.proofs.writing.Drafting.{names_begun, own_named, all_formed, all_apart, own_apart, own_unsynced, names_new, all_told}
use Rattle.cat_commits.proofs.writing.Writing.{none_of_both, or_none}
use Rattle.cat_commits.proofs.writing.draft.Draft.write.Goals as goal

pub write_in_order-requires-clause-form : goal.write_in_order-requires-clause-form
write_in_order-requires-clause-form g c = subst (All (λ (f : NewBytes). IsFileName (name_of f.name))) (sym c.deref.ensures.value) (all_formed _ _ _ _ c.self.invariant)

pub write_in_order-requires-clause-apart : goal.write_in_order-requires-clause-apart
write_in_order-requires-clause-apart g c = subst (AllPairs (λ (a b : NewBytes). a.name ≢ b.name)) (sym c.deref.ensures.value) (all_apart _ _ _ _ c.self.invariant)

pub write_in_order-requires-clause-last_apart : goal.write_in_order-requires-clause-last_apart
write_in_order-requires-clause-last_apart g c = ap (λ fs. has_name (name_of c.self.inside.own.name) (names_of fs)) c.deref.ensures.value ∙ own_apart _ _ _ _ c.self.invariant

pub returns-clause-live : goal.returns-clause-live
returns-clause-live g c =
    on_ok_weaker c.write_in_order.result
    (λ all. subst (λ (s : Drafted). AllByRecursion (HasNewFile (g.D.Holder.bytes c.write_in_order.new.device) s.commit.generation) s.listing) c.self.view_is
    (all_told _ _ _ _ (g.D.Holder.bytes c.args.device.now) (g.D.Holder.bytes c.write_in_order.new.device) c.self.invariant
    (subst (All (IsWritten (g.D.Holder.bytes c.args.device.now) (g.D.Holder.bytes c.write_in_order.new.device))) c.deref.ensures.value all)))
    c.write_in_order.ensures.ok

pub returns-clause-others : goal.returns-clause-others
returns-clause-others g c =
    subst (λ (s : Drafted). TouchesOnly (begun s.commit.generation s.listing) (g.D.Holder.bytes c.args.device.now) (g.D.Holder.bytes c.write_in_order.new.device)) c.self.view_is
    (subst (λ ns. TouchesOnly ns (g.D.Holder.bytes c.args.device.now) (g.D.Holder.bytes c.write_in_order.new.device))
    (ap (λ fs. names_of (c.self.inside.own ∷ fs)) c.deref.ensures.value ∙ names_begun _ _ _ _ c.self.invariant) c.write_in_order.ensures.others)

pub returns-clause-crash : goal.returns-clause-crash
returns-clause-crash g c =
    subst (λ (s : Drafted). NoMoreBut (begun s.commit.generation s.listing) (g.D.Holder.may_leave c.args.device.now) (g.D.Holder.may_leave c.write_in_order.new.device)) c.self.view_is
    (subst (λ ns. NoMoreBut ns (g.D.Holder.may_leave c.args.device.now) (g.D.Holder.may_leave c.write_in_order.new.device))
    (ap (λ fs. names_of (c.self.inside.own ∷ fs)) c.deref.ensures.value ∙ names_begun _ _ _ _ c.self.invariant) c.write_in_order.ensures.crash)

pub returns-clause-lasts : goal.returns-clause-lasts
returns-clause-lasts g c =
    on_ok_weaker c.write_in_order.result
    (λ all. subst (λ (s : Drafted). AreSettled (Name.commit s.commit.generation ∷ s.unsynced) (g.D.Holder.bytes c.write_in_order.new.device) (g.D.Holder.may_leave c.write_in_order.new.device)) c.self.view_is
    (subst (λ ns. AreSettled ns (g.D.Holder.bytes c.write_in_order.new.device) (g.D.Holder.may_leave c.write_in_order.new.device))
    (ap₂ (λ (n : Name) (ns : List Name). n ∷ ns) (own_named _ _ _ _ c.self.invariant) (ap (map name_of) c.deref-2.ensures.value)) all))
    c.write_in_order.ensures.lasts

-- a file that is absent is none that is begun: neither a new live file nor the commit's own, which isn't synced with the others
pub returns-clause-device : goal.returns-clause-device
returns-clause-device g c =
    subst (λ (s : Drafted). IfErr c.write_in_order.result (λ e. e ≡ Device → g.D.Holder.can_fail c.args.device.now
    ⊎ ((q : FileName) × (has_name (name_of q) s.unsynced ≡ true) × (has_name (name_of q) (begun s.commit.generation s.listing) ≡ false)
    × (g.D.Holder.bytes c.args.device.now q ≡ Some None)))) c.self.view_is
    (IfErr-weaker c.write_in_order.result _ _
    (λ e given is. elim (given is) [
      | inl fails ↦ inl fails
      | inr w ↦
          let unsynced = subst (λ ns. has_name (name_of w.0) (map name_of ns) ≡ true) c.deref-2.ensures.value w.1 in
          let not_live = subst (λ fs. has_name (name_of w.0) (names_of fs) ≡ false) c.deref.ensures.value w.2 in
          let own = own_unsynced _ _ _ _ c.self.invariant in
          inr (
            w.0,
            unsynced,
            or_none _ _ (subst (λ n. same_file_name (name_of w.0) n ≡ false) (own_named _ _ _ _ c.self.invariant) (none_of_both _ (name_of w.0) _ own unsynced))
                (subst (λ ns. has_name (name_of w.0) ns ≡ false) (names_new _ _ _ _ c.self.invariant) not_live),
            w.3,
          )
    ])
    c.write_in_order.ensures.device)

pub returns-clause-behind : goal.returns-clause-behind
returns-clause-behind g c =
    let told = g.D.Holder.bytes c.args.device.now in
    let told' = g.D.Holder.bytes c.write_in_order.new.device in
    let left = g.D.Holder.may_leave c.args.device.now in
    let left' = g.D.Holder.may_leave c.write_in_order.new.device in
    subst (λ (s : Drafted). OwnComesBehind s.commit.generation s.listing told told' left left') c.self.view_is
    (elim c.write_in_order.ensures.behind [
      | inl same ↦ inl (subst (λ (q : FileName). IsUntouched q told told' left left') c.self.invariant.named same)
      | inr all ↦ inr (all_told _ _ _ _ told told' c.self.invariant (subst (All (IsWritten told told')) c.deref.ensures.value all))
    ])

pub returns-clause-torn : goal.returns-clause-torn
returns-clause-torn g c =
    let told = g.D.Holder.bytes c.args.device.now in
    let left = g.D.Holder.may_leave c.args.device.now in
    let left' = g.D.Holder.may_leave c.write_in_order.new.device in
    subst (λ (s : Drafted). OnlyTorn (file.Commit s.commit.generation) (spelled_commit s.commit) told left left') c.self.view_is
    (subst (λ (q : FileName). OnlyTorn q (spelled_commit c.self.inside.commit) told left left') c.self.invariant.named
    (subst (λ bytes. OnlyTorn c.self.inside.own.name bytes told left left') c.self.invariant.spelled.spelled c.write_in_order.ensures.torn))

pub returns-clause-order : goal.returns-clause-order
returns-clause-order g c =
    let told = g.D.Holder.bytes c.args.device.now in
    let told' = g.D.Holder.bytes c.write_in_order.new.device in
    let left = g.D.Holder.may_leave c.args.device.now in
    let left' = g.D.Holder.may_leave c.write_in_order.new.device in
    subst (λ (s : Drafted). ComesLast (file.Commit s.commit.generation) s.unsynced told told' left left') c.self.view_is
    (subst (λ (q : FileName). ComesLast q (map name_of c.self.inside.unsynced.items) told told' left left') c.self.invariant.named
    (subst (λ (ns : List FileName). ComesLast c.self.inside.own.name (map name_of ns) told told' left left') c.deref-2.ensures.value c.write_in_order.ensures.order))

-- a call that writes is refused for nothing else
writing_kind : (old new : ℕ) (e : Refusal) → WritingCount old new e → (e ≡ Memory) ⊎ (e ≡ Device)
writing_kind old new Memory counted = inl refl
writing_kind old new Device counted = inr refl
writing_kind old new e counted = absurd counted

kinds : {X : Type 0} (old new : ℕ) (r : Result X Refusal) → CountsWriting old new r → IfErr r (λ e. (e ≡ Memory) ⊎ (e ≡ Device))
kinds old new (Ok x) counted = tt
kinds old new (Err e) counted = writing_kind old new e counted

pub returns-clause-refusal : goal.returns-clause-refusal
returns-clause-refusal g c = kinds (g.D.Holder.fault_count c.args.device.now) (g.D.Holder.fault_count c.write_in_order.new.device) c.write_in_order.result c.write_in_order.ensures.counted

pub returns-clause-can : goal.returns-clause-can
returns-clause-can g c = c.write_in_order.ensures.can

pub returns-clause-counted : goal.returns-clause-counted
returns-clause-counted g c = c.write_in_order.ensures.counted
