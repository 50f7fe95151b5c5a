use Rattle.std.proofs.Common.{◌≡◌, ◌+◌, ◌<◌, ◌≤◌, ◌∙◌, [], ◌∷◌, None, Some, inl, inr, true, refl, length, take, drop, sym, ap, subst, arith}
use Rattle.std.specs.Prelude.{◌≢◌, ◌⊎◌}
use Rattle.cat_base.specs.declared.refusal.Refusal.{Refusal}
use Rattle.cat_base.specs.declared.refusal.Refusal.TheVariants.{Device, Memory, Spent}
use Rattle.cat_model.specs.Files.{Name}
use Rattle.cat_model.specs.Limits.{last_number, row_limit}
use Rattle.cat_model.specs.Merged.{rows_of_all}
use Rattle.cat_ledger_laws.proofs.shape.MergeSteps.{begun_keep}
use Rattle.cat_ledger_laws.proofs.shape.Writes.{refusals_keep}
use Rattle.cat_directory.specs.declared.name.FileName.TheVariants as file
use Rattle.cat_ledger_laws.specs.model.Users.{is_known}
use Rattle.cat_ledger_laws.specs.shape.Steps.{IsBegun}
use Rattle.cat_ledger_laws.specs.shape.Ties.{IsTold, TouchesOnly}
use Rattle.cat_ledger_state.specs.Cores.{HasGivenUp, StayKnown, shape_of_core}
use Rattle.cat_commits.proofs.reading.Reading.{passed}
use Rattle.cat_ledger_state.proofs.Results.{either_err}
use Rattle.cat_ledger_state.proofs.Counting.{given_again, known_still}
use Rattle.cat_ledger_state.proofs.Failing.{quiet_counts, writing_counts, writing_refuses, writing_spends_none}
use Rattle.cat_ledger_state.proofs.Merging.{run_is, may_merge, one_fits, begun_is, begun_left}
use Rattle.cat_ledger_state.proofs.Known.{source_past, taken_past, undone_past}
use Rattle.cat_ledger_state.proofs.state.Core.begin_merge.Goals as goal

pub of-requires : goal.of-requires
of-requires g c =
    may_merge (shape_of_core c.self.inside) c.args.index c.args.count _ c.self.invariant.shape c.if-number-gt-LAST_NUMBER.false
    (subst (λ s. c.args.index + c.args.count ≤ length s.leaves) (sym c.self.view_is) c.requires.within)
    (subst (λ s. length (rows_of_all (take c.args.count (drop c.args.index s.leaves))) ≤ row_limit) (sym c.self.view_is) c.requires.few)
    (run_is c.self.inside.current c.leaves.result.now c.args.index c.args.count c.leaves.ensures.value)

pub take_source-requires : goal.take_source-requires
take_source-requires g c =
    λ q. one_fits (shape_of_core c.self.inside) c.len.result (Name.source c.self.inside.next_segment) q c.self.invariant.shape c.len.ensures.len c.len.ensures.few

pub give_source-requires : goal.give_source-requires
give_source-requires g c = given_again _ c.self.inside.refs c.take_source.new.refs c.in_ok-take_source.ensures.ok

pub invariant_of-self-in-Ok : goal.invariant_of-self-in-Ok
invariant_of-self-in-Ok g c =
    let begun = begun_is (shape_of_core c.self.inside) c.args.index c.args.count c.in_ok-merge.merge _ c.take_source.new.refs
    (subst (λ s. s.merging ≡ None) (sym c.self.view_is) c.requires.idle) c.if-number-gt-LAST_NUMBER.false c.requires.some
    (subst (λ s. c.args.index + c.args.count ≤ length s.leaves) (sym c.self.view_is) c.requires.within)
    (run_is c.self.inside.current c.leaves.result.now c.args.index c.args.count c.leaves.ensures.value) c.in_ok-merge.ensures.ok
    c.in_ok-take_source.ensures.ok in
    record {
      shape = begun_keep c.args.index c.args.count (shape_of_core c.self.inside) _ begun c.self.invariant.shape;
      waits = c.self.invariant.waits;
      few = c.self.invariant.few;
      merges = ap (λ m. m.schema) c.in_ok-merge.ensures.ok;
      known = taken_past _ [] _ _ c.self.inside.next_segment c.self.inside.next_generation (c.self.inside.next_segment + 1) c.self.inside.next_generation (omega arith) (omega arith) (source_past (shape_of_core c.self.inside) c.self.invariant.shape)
          c.in_ok-take_source.ensures.ok c.self.invariant.known;
    }

pub invariant_of-self-in-Err-1 : goal.invariant_of-self-in-Err-1
invariant_of-self-in-Err-1 g c =
    let left = begun_left (shape_of_core c.self.inside) c.take_source.new.refs c.give_source.new.refs c.self.invariant.shape c.if-number-gt-LAST_NUMBER.false
    c.in_ok-take_source.ensures.ok c.give_source.ensures in
    record {
      shape = refusals_keep (Name.source c.self.inside.next_segment ∷ []) (shape_of_core c.self.inside) _ left c.self.invariant.shape;
      waits = c.self.invariant.waits;
      few = c.self.invariant.few;
      merges = c.self.invariant.merges;
      known = undone_past _ _ _ _ _ c.self.inside.next_segment c.self.inside.next_generation (c.self.inside.next_segment + 1) c.self.inside.next_generation (omega arith) (omega arith) (source_past (shape_of_core c.self.inside) c.self.invariant.shape)
          c.in_ok-take_source.ensures.ok c.give_source.ensures c.self.invariant.known;
    }

pub returns-in-Err-clause-err : goal.returns-in-Err-clause-err
returns-in-Err-clause-err g c =
    let left = begun_left (shape_of_core c.self.inside) c.take_source.new.refs c.give_source.new.refs c.self.invariant.shape c.if-number-gt-LAST_NUMBER.false
    c.in_ok-take_source.ensures.ok c.give_source.ensures in
    let told = g.D.Holder.bytes c.args.device.now in
    let told' = g.D.Holder.bytes c.begin_file.new.device in
    let touched = subst (λ n. TouchesOnly (Name.source n ∷ []) told told') (ap (λ m. m.shape.number) c.in_ok-merge.ensures.ok) c.in-Err.ensures.others in
    let new = record (shape_of_core c.self.inside) { users = c.give_source.new.refs; next_segment = c.self.inside.next_segment + 1 } in
    subst (λ s. HasGivenUp (Name.source s.next_segment ∷ []) told s told' new) c.self.view_is (inr (left, touched))

pub returns-in-Err-clause-known : goal.returns-in-Err-clause-known
returns-in-Err-clause-known g c =
    subst (λ s. StayKnown s.users c.give_source.new.refs) c.self.view_is
    (known_still _ _ c.self.inside.refs c.take_source.new.refs c.give_source.new.refs c.in_ok-take_source.ensures.ok c.give_source.ensures)

pub returns-in-Ok-clause-ok : goal.returns-in-Ok-clause-ok
returns-in-Ok-clause-ok g c =
    let begun = begun_is (shape_of_core c.self.inside) c.args.index c.args.count c.in_ok-merge.merge _ c.take_source.new.refs
    (subst (λ s. s.merging ≡ None) (sym c.self.view_is) c.requires.idle) c.if-number-gt-LAST_NUMBER.false c.requires.some
    (subst (λ s. c.args.index + c.args.count ≤ length s.leaves) (sym c.self.view_is) c.requires.within)
    (run_is c.self.inside.current c.leaves.result.now c.args.index c.args.count c.leaves.ensures.value) c.in_ok-merge.ensures.ok
    c.in_ok-take_source.ensures.ok in
    let new = record (shape_of_core c.self.inside) {
      merging = Some c.in_ok-merge.merge.shape;
      users = c.take_source.new.refs;
      next_segment = c.self.inside.next_segment + 1;
    } in
    subst (λ s. IsBegun c.args.index c.args.count s new) c.self.view_is begun

-- ---- what it is refused for

pub returns-in-Ok-clause-fails : goal.returns-in-Ok-clause-fails
returns-in-Ok-clause-fails g c = writing_counts _ c.in-Ok.ensures.fails

pub returns-in-Err-clause-fails : goal.returns-in-Err-clause-fails
returns-in-Err-clause-fails g c = writing_counts _ c.in-Err.ensures.fails

pub returns-in-Err-clause-spent : goal.returns-in-Err-clause-spent
returns-in-Err-clause-spent g c = λ is. absurd (writing_spends_none _ _ c.in-Err.refusal c.in-Err.ensures.fails.counted is)

pub returns-in-Err-clause-refusal : goal.returns-in-Err-clause-refusal
returns-in-Err-clause-refusal g c = writing_refuses _ _ c.in-Err.refusal c.in-Err.ensures.fails.counted

pub returns-in-Err-clause-due : goal.returns-in-Err-clause-due
returns-in-Err-clause-due g c = λ is. subst (λ s. s.next_segment ≤ last_number) c.self.view_is c.if-number-gt-LAST_NUMBER.false

pub returns-then-number-gt-LAST_NUMBER-clause-others : goal.returns-then-number-gt-LAST_NUMBER-clause-others
returns-then-number-gt-LAST_NUMBER-clause-others g c = λ q other. refl

pub returns-then-number-gt-LAST_NUMBER-clause-err : goal.returns-then-number-gt-LAST_NUMBER-clause-err
returns-then-number-gt-LAST_NUMBER-clause-err g c = inl (refl, λ q. refl)

pub returns-then-number-gt-LAST_NUMBER-clause-known : goal.returns-then-number-gt-LAST_NUMBER-clause-known
returns-then-number-gt-LAST_NUMBER-clause-known g c = λ q known. known

pub returns-then-number-gt-LAST_NUMBER-clause-crash : goal.returns-then-number-gt-LAST_NUMBER-clause-crash
returns-then-number-gt-LAST_NUMBER-clause-crash g c = λ q other e might. might

pub returns-then-number-gt-LAST_NUMBER-clause-spent : goal.returns-then-number-gt-LAST_NUMBER-clause-spent
returns-then-number-gt-LAST_NUMBER-clause-spent g c = λ is. subst (λ s. last_number < s.next_segment) c.self.view_is c.if-number-gt-LAST_NUMBER.true

pub returns-then-number-gt-LAST_NUMBER-clause-due : goal.returns-then-number-gt-LAST_NUMBER-clause-due
returns-then-number-gt-LAST_NUMBER-clause-due g c = λ is. elim is [ inl memory ↦ cc | inr device ↦ cc ]

pub returns-then-number-gt-LAST_NUMBER-clause-fails : goal.returns-then-number-gt-LAST_NUMBER-clause-fails
returns-then-number-gt-LAST_NUMBER-clause-fails g c = record { device = λ is. cc is; counted = λ is. cc is; memory = λ is. cc is; can = λ can. can; rises = omega arith }

pub returns-then-number-gt-LAST_NUMBER-clause-refusal : goal.returns-then-number-gt-LAST_NUMBER-clause-refusal
returns-then-number-gt-LAST_NUMBER-clause-refusal g c = inr (inr refl)

pub returns-in_err-merge-clause-others : goal.returns-in_err-merge-clause-others
returns-in_err-merge-clause-others g c = λ q other. refl

pub returns-in_err-merge-clause-crash : goal.returns-in_err-merge-clause-crash
returns-in_err-merge-clause-crash g c = λ q other e might. might

pub returns-in_err-merge-clause-err : goal.returns-in_err-merge-clause-err
returns-in_err-merge-clause-err g c = either_err c.from_residual.result (inl (refl, λ q. refl))

pub returns-in_err-merge-clause-known : goal.returns-in_err-merge-clause-known
returns-in_err-merge-clause-known g c = either_err c.from_residual.result (λ q known. known)

pub returns-in_err-merge-clause-spent : goal.returns-in_err-merge-clause-spent
returns-in_err-merge-clause-spent g c = passed (λ (e : Refusal). e ≡ Spent → last_number < c.args.self.now.next_segment) _ _ c.from_residual.ensures (λ is. cc is)

pub returns-in_err-merge-clause-due : goal.returns-in_err-merge-clause-due
returns-in_err-merge-clause-due g c =
    passed (λ (e : Refusal). (e ≡ Memory) ⊎ (e ≡ Device) → c.args.self.now.next_segment ≤ last_number) _ _ c.from_residual.ensures
    (λ is. subst (λ s. s.next_segment ≤ last_number) c.self.view_is c.if-number-gt-LAST_NUMBER.false)

pub returns-in_err-merge-clause-fails : goal.returns-in_err-merge-clause-fails
returns-in_err-merge-clause-fails g c = quiet_counts _ c.from_residual.ensures

pub returns-in_err-merge-clause-refusal : goal.returns-in_err-merge-clause-refusal
returns-in_err-merge-clause-refusal g c = passed (λ (e : Refusal). (e ≡ Memory) ⊎ (e ≡ Device) ⊎ (e ≡ Spent)) _ _ c.from_residual.ensures (inl refl)

pub returns-in_err-take_source-clause-others : goal.returns-in_err-take_source-clause-others
returns-in_err-take_source-clause-others g c = λ q other. refl

pub returns-in_err-take_source-clause-crash : goal.returns-in_err-take_source-clause-crash
returns-in_err-take_source-clause-crash g c = λ q other e might. might

pub returns-in_err-take_source-clause-spent : goal.returns-in_err-take_source-clause-spent
returns-in_err-take_source-clause-spent g c = passed (λ (e : Refusal). e ≡ Spent → last_number < c.args.self.now.next_segment) _ _ c.from_residual-in_err-take_source.ensures (λ is. cc is)

pub returns-in_err-take_source-clause-due : goal.returns-in_err-take_source-clause-due
returns-in_err-take_source-clause-due g c =
    passed (λ (e : Refusal). (e ≡ Memory) ⊎ (e ≡ Device) → c.args.self.now.next_segment ≤ last_number) _ _ c.from_residual-in_err-take_source.ensures
    (λ is. subst (λ s. s.next_segment ≤ last_number) c.self.view_is c.if-number-gt-LAST_NUMBER.false)

pub returns-in_err-take_source-clause-fails : goal.returns-in_err-take_source-clause-fails
returns-in_err-take_source-clause-fails g c = quiet_counts _ c.from_residual-in_err-take_source.ensures

pub returns-in_err-take_source-clause-refusal : goal.returns-in_err-take_source-clause-refusal
returns-in_err-take_source-clause-refusal g c = passed (λ (e : Refusal). (e ≡ Memory) ⊎ (e ≡ Device) ⊎ (e ≡ Spent)) _ _ c.from_residual-in_err-take_source.ensures (inl refl)

-- ---- the files that it leaves alone

pub returns-in-Ok-clause-others : goal.returns-in-Ok-clause-others
returns-in-Ok-clause-others g c =
    let told = g.D.Holder.bytes c.args.device.now in
    let told' = g.D.Holder.bytes c.begin_file.new.device in
    subst (λ n. TouchesOnly (Name.source n ∷ []) told told') (ap (λ m. m.shape.number) c.in_ok-merge.ensures.ok ∙ ap (λ s. s.next_segment) c.self.view_is)
    c.in-Ok.ensures.others

pub returns-in-Ok-clause-crash : goal.returns-in-Ok-clause-crash
returns-in-Ok-clause-crash g c =
    λ q apart.
    c.in-Ok.ensures.crash q
    (subst (λ n. q ≢ file.Source n) (sym (ap (λ m. m.shape.number) c.in_ok-merge.ensures.ok ∙ ap (λ s. s.next_segment) c.self.view_is)) apart)

pub returns-in-Err-clause-others : goal.returns-in-Err-clause-others
returns-in-Err-clause-others g c =
    let told = g.D.Holder.bytes c.args.device.now in
    let told' = g.D.Holder.bytes c.begin_file.new.device in
    subst (λ n. TouchesOnly (Name.source n ∷ []) told told') (ap (λ m. m.shape.number) c.in_ok-merge.ensures.ok ∙ ap (λ s. s.next_segment) c.self.view_is)
    c.in-Err.ensures.others

pub returns-in-Err-clause-crash : goal.returns-in-Err-clause-crash
returns-in-Err-clause-crash g c =
    λ q apart.
    c.in-Err.ensures.crash q
    (subst (λ n. q ≢ file.Source n) (sym (ap (λ m. m.shape.number) c.in_ok-merge.ensures.ok ∙ ap (λ s. s.next_segment) c.self.view_is)) apart)

pub returns-in-Ok-clause-told : goal.returns-in-Ok-clause-told
returns-in-Ok-clause-told g c =
    let told' = g.D.Holder.bytes c.begin_file.new.device in
    subst (λ n. IsTold (told' (file.Source n)) (Some [])) (ap (λ m. m.shape.number) c.in_ok-merge.ensures.ok ∙ ap (λ s. s.next_segment) c.self.view_is)
    c.in-Ok.ensures.told

-- ---- its file has no user

pub returns-in_err-take_source-clause-err : goal.returns-in_err-take_source-clause-err
returns-in_err-take_source-clause-err g c =
    let same = c.in_err-take_source.ensures.err in
    either_err c.from_residual-in_err-take_source.result (inl (ap (λ us. record (shape_of_core c.self.inside) { users = us }) same ∙ c.self.view_is, λ q. refl))

pub returns-in_err-take_source-clause-known : goal.returns-in_err-take_source-clause-known
returns-in_err-take_source-clause-known g c =
    either_err c.from_residual-in_err-take_source.result
    (subst (λ s. StayKnown s.users c.take_source.new.refs) c.self.view_is
    (λ q known. subst (λ us. is_known us q ≡ true) (sym c.in_err-take_source.ensures.err) known))
