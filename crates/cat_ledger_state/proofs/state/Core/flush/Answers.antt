use Rattle.std.proofs.Common.{◌≡◌, ◌+◌, ◌-◌, ◌<◌, ◌≤◌, Err, List, Ok, Result, [], ◌∷◌, ◌++◌, length, length-append, take, sym, ◌∙◌, ap, subst, inl, inr, true, false, arith, refl}
use Rattle.std.specs.Prelude.{IfErr, ◌⊎◌}
use Rattle.std.proofs.lemmas.Grind.{common_steps}
use Rattle.cat_base.specs.declared.refusal.Refusal.{Refusal}
use Rattle.cat_base.specs.declared.refusal.Refusal.TheVariants.{Device, Memory, Spent}
use Rattle.cat_directory.specs.Devices.{NoMore}
use Rattle.cat_directory.specs.declared.name.FileName.{FileName}
use Rattle.cat_model.specs.Files.{Name}
use Rattle.cat_model.specs.Limits.{last_number, segment_limit}
use Rattle.cat_model.specs.View.{Leaf}
use Rattle.cat_ledger_laws.specs.model.Users.{Changes, is_known, times, users_of}
use Rattle.cat_ledger_laws.specs.shape.Shapes.{Shape, names_of_leaves}
use Rattle.cat_ledger_laws.specs.model.Leaves.{AreLeaves}
use Rattle.cat_ledger_laws.specs.model.Portions.{all_live, leaf_of}
use Rattle.cat_ledger_laws.proofs.shape.Writes.{flushed_may_stand, flushes_keep, refusals_keep}
use Rattle.cat_ledger_state.specs.Cores.{shape_of_core, flush_begins, is_begun, HasFlushed, HasGivenUp, MayNotFlush, StayKnown}
use Rattle.cat_commits.proofs.reading.Reading.{passed}
use Rattle.cat_ledger_state.proofs.Results.{either_err}
use Rattle.cat_ledger_state.proofs.Counting.{given_again, known_still}
use Rattle.cat_ledger_state.proofs.Failing.{quiet_counts, writing_counts, writing_refuses, writing_spends_none}
use Rattle.cat_ledger_state.proofs.Flushing.{pair_fits, some_waits, flush_is, flush_writes, one_more, without_last, flush_left, other_files}
use Rattle.cat_ledger_state.proofs.Known.{segment_past, taken_past, undone_past}
use Rattle.cat_ledger_state.proofs.state.Core.flush.Goals as goal

pub add_segment-requires-clause-stands : goal.add_segment-requires-clause-stands
add_segment-requires-clause-stands g c =
    let leaf = c.in_ok-leaf.ensures.leaf ∙ ap (λ s. leaf_of s (all_live c.self.inside.next_segment c.self.inside.buffer.records)) c.self.invariant.waits in
    subst (λ l. AreLeaves (c.self.inside.current ++ l ∷ [])) (sym leaf) (flushed_may_stand (shape_of_core c.self.inside) c.self.invariant.shape)

pub add_segment-requires-clause-fit : goal.add_segment-requires-clause-fit
add_segment-requires-clause-fit g c =
    λ q. pair_fits (shape_of_core c.self.inside) c.len.result _ _ q c.self.invariant.shape c.len.ensures.len c.len.ensures.few

pub invariant_of-self-in-Ok : goal.invariant_of-self-in-Ok
invariant_of-self-in-Ok g c =
    let leaf = c.in_ok-leaf.ensures.leaf ∙ ap (λ s. leaf_of s (all_live c.self.inside.next_segment c.self.inside.buffer.records)) c.self.invariant.waits in
    let some = some_waits c.is_empty.result c.self.inside.buffer.records c.if-is_empty.false c.is_empty.ensures in
    let flushed = flush_is (shape_of_core c.self.inside) c.in_ok-leaf.field-0.leaf c.write_last.new.current c.clear.new.self.records c.write_last.new.refs leaf some
    c.if-number-gt-LAST_NUMBER.false (c.in-Ok.ensures.stands ∙ c.in_ok-add_segment.ensures.current) (ap (λ b. b.records) c.clear.ensures)
    (subst (Changes _ [] c.self.inside.refs) (sym c.in-Ok.ensures.used) c.in_ok-add_segment.ensures.refs) in
    record {
      shape = flushes_keep (shape_of_core c.self.inside) _ flushed c.self.invariant.shape;
      waits = ap (λ b. b.schema) c.clear.ensures ∙ c.self.invariant.waits;
      few = subst (λ l. length l ≤ segment_limit) (sym (c.in-Ok.ensures.stands ∙ c.in_ok-add_segment.ensures.current))
          (one_more c.self.inside.current c.in_ok-leaf.field-0.leaf segment_limit
          (subst (λ l. length l < segment_limit) c.leaves.ensures.value c.if-leaves-ge-MAX_SEGMENTS.false));
      merges = c.self.invariant.merges;
      known = taken_past _ [] _ _ c.self.inside.next_segment c.self.inside.next_generation (c.self.inside.next_segment + 1) c.self.inside.next_generation (omega arith) (omega arith) (segment_past (shape_of_core c.self.inside) c.in_ok-leaf.field-0.leaf c.self.invariant.shape leaf)
          (subst (Changes _ [] c.self.inside.refs) (sym c.in-Ok.ensures.used) c.in_ok-add_segment.ensures.refs) c.self.invariant.known;
    }

pub invariant_of-self-in-Err : goal.invariant_of-self-in-Err
invariant_of-self-in-Err g c =
    let leaf = c.in_ok-leaf.ensures.leaf ∙ ap (λ s. leaf_of s (all_live c.self.inside.next_segment c.self.inside.buffer.records)) c.self.invariant.waits in
    let current = c.in-Err.ensures.taken_out ∙ ap (λ l. take (length l - 1) l) c.in_ok-add_segment.ensures.current
    ∙ without_last c.self.inside.current c.in_ok-leaf.field-0.leaf in
    let left = flush_left (shape_of_core c.self.inside) c.in_ok-leaf.field-0.leaf c.write_last.new.current c.add_segment.new.refs c.write_last.new.refs
    c.self.invariant.shape leaf c.if-number-gt-LAST_NUMBER.false current c.in_ok-add_segment.ensures.refs c.in-Err.ensures.given in
    record {
      shape = refusals_keep (flush_begins (shape_of_core c.self.inside)) (shape_of_core c.self.inside) _ left c.self.invariant.shape;
      waits = c.self.invariant.waits;
      few = subst (λ l. length l ≤ segment_limit) (sym current) c.self.invariant.few;
      merges = c.self.invariant.merges;
      known = undone_past _ _ _ _ _ c.self.inside.next_segment c.self.inside.next_generation (c.self.inside.next_segment + 1) c.self.inside.next_generation (omega arith) (omega arith) (segment_past (shape_of_core c.self.inside) c.in_ok-leaf.field-0.leaf c.self.invariant.shape leaf)
          c.in_ok-add_segment.ensures.refs c.in-Err.ensures.given c.self.invariant.known;
    }

pub returns-in-Ok-clause-ok : goal.returns-in-Ok-clause-ok
returns-in-Ok-clause-ok g c =
    let leaf = c.in_ok-leaf.ensures.leaf ∙ ap (λ s. leaf_of s (all_live c.self.inside.next_segment c.self.inside.buffer.records)) c.self.invariant.waits in
    let some = some_waits c.is_empty.result c.self.inside.buffer.records c.if-is_empty.false c.is_empty.ensures in
    let flushed = flush_is (shape_of_core c.self.inside) c.in_ok-leaf.field-0.leaf c.write_last.new.current c.clear.new.self.records c.write_last.new.refs leaf some
    c.if-number-gt-LAST_NUMBER.false (c.in-Ok.ensures.stands ∙ c.in_ok-add_segment.ensures.current) (ap (λ b. b.records) c.clear.ensures)
    (subst (Changes _ [] c.self.inside.refs) (sym c.in-Ok.ensures.used) c.in_ok-add_segment.ensures.refs) in
    let written = flush_writes (shape_of_core c.self.inside) (g.D.Holder.bytes c.args.device.now) (g.D.Holder.bytes c.write_last.new.device)
    c.in_ok-leaf.field-0.files.bytes.items c.in_ok-leaf.field-0.files.sources.items c.in_ok-leaf.field-0.leaf leaf c.in-Ok.ensures.others
    c.in-Ok.ensures.segment c.in-Ok.ensures.source c.in_ok-leaf.ensures.bytes c.in_ok-leaf.ensures.sources in
    let new = record (shape_of_core c.self.inside) {
      leaves = c.write_last.new.current;
      buffered = c.clear.new.self.records;
      users = c.write_last.new.refs;
      next_segment = c.self.inside.next_segment + 1;
    } in
    subst (λ s. HasFlushed (g.D.Holder.bytes c.args.device.now) s (g.D.Holder.bytes c.write_last.new.device) new) c.self.view_is (inr (flushed, written))

pub returns-in-Err-clause-err : goal.returns-in-Err-clause-err
returns-in-Err-clause-err g c =
    let leaf = c.in_ok-leaf.ensures.leaf ∙ ap (λ s. leaf_of s (all_live c.self.inside.next_segment c.self.inside.buffer.records)) c.self.invariant.waits in
    let current = c.in-Err.ensures.taken_out ∙ ap (λ l. take (length l - 1) l) c.in_ok-add_segment.ensures.current
    ∙ without_last c.self.inside.current c.in_ok-leaf.field-0.leaf in
    let left = flush_left (shape_of_core c.self.inside) c.in_ok-leaf.field-0.leaf c.write_last.new.current c.add_segment.new.refs c.write_last.new.refs
    c.self.invariant.shape leaf c.if-number-gt-LAST_NUMBER.false current c.in_ok-add_segment.ensures.refs c.in-Err.ensures.given in
    let touched = other_files c.self.inside.next_segment (λ q. g.D.Holder.bytes c.write_last.new.device q ≡ g.D.Holder.bytes c.args.device.now q)
    c.in-Err.ensures.others in
    let new = record (shape_of_core c.self.inside) {
      leaves = c.write_last.new.current;
      users = c.write_last.new.refs;
      next_segment = c.self.inside.next_segment + 1;
    } in
    subst (λ s. HasGivenUp (flush_begins s) (g.D.Holder.bytes c.args.device.now) s (g.D.Holder.bytes c.write_last.new.device) new) c.self.view_is
    (inr (left, touched))

pub returns-in-Err-clause-known : goal.returns-in-Err-clause-known
returns-in-Err-clause-known g c =
    subst (λ s. StayKnown s.users c.write_last.new.refs) c.self.view_is
    (known_still _ _ c.self.inside.refs c.add_segment.new.refs c.write_last.new.refs c.in_ok-add_segment.ensures.refs c.in-Err.ensures.given)

-- ---- what it is refused for

pub returns-in-Ok-clause-fails : goal.returns-in-Ok-clause-fails
returns-in-Ok-clause-fails g c = writing_counts _ c.in-Ok.ensures.fails

pub returns-in-Err-clause-fails : goal.returns-in-Err-clause-fails
returns-in-Err-clause-fails g c = writing_counts _ c.in-Err.ensures.fails

pub returns-in-Err-clause-spent : goal.returns-in-Err-clause-spent
returns-in-Err-clause-spent g c = λ is. absurd (writing_spends_none _ _ c.in-Err.refusal c.in-Err.ensures.fails.counted is)

pub returns-in-Err-clause-refusal : goal.returns-in-Err-clause-refusal
returns-in-Err-clause-refusal g c = writing_refuses _ _ c.in-Err.refusal c.in-Err.ensures.fails.counted

pub returns-in-Ok-clause-quiet : goal.returns-in-Ok-clause-quiet
returns-in-Ok-clause-quiet g c = c.in-Ok.ensures.fails.counted

-- ---- what waits may be flushed

may_flush : (s : Shape) → s.next_segment ≤ last_number → length s.leaves < segment_limit → MayNotFlush s → ⊥
may_flush s numbers few (waits, inl spent) = omega (arith, numbers, spent)
may_flush s numbers few (waits, inr full) = omega (arith, few, full)

on_every : {X E : Type 0} (P : E → Type 0) (A : Type 0) (r : Result X E) → A → IfErr r (λ x. P x → A)
on_every P A (Ok x) a = tt
on_every P A (Err x) a = λ is. a

pub returns-in-Ok-clause-may : goal.returns-in-Ok-clause-may
returns-in-Ok-clause-may g c =
    subst (λ s. MayNotFlush s → ⊥) c.self.view_is (may_flush (shape_of_core c.self.inside) c.if-number-gt-LAST_NUMBER.false
    (subst (λ l. length l < segment_limit) c.leaves.ensures.value c.if-leaves-ge-MAX_SEGMENTS.false))

pub returns-in-Err-clause-due : goal.returns-in-Err-clause-due
returns-in-Err-clause-due g c = λ is.
    subst (λ s. MayNotFlush s → ⊥) c.self.view_is (may_flush (shape_of_core c.self.inside) c.if-number-gt-LAST_NUMBER.false
    (subst (λ l. length l < segment_limit) c.leaves.ensures.value c.if-leaves-ge-MAX_SEGMENTS.false))

pub returns-in_err-leaf-clause-due : goal.returns-in_err-leaf-clause-due
returns-in_err-leaf-clause-due g c =
    on_every (λ e. (e ≡ Memory) ⊎ (e ≡ Device)) _ c.from_residual.result
    (subst (λ s. MayNotFlush s → ⊥) c.self.view_is (may_flush (shape_of_core c.self.inside) c.if-number-gt-LAST_NUMBER.false
    (subst (λ l. length l < segment_limit) c.leaves.ensures.value c.if-leaves-ge-MAX_SEGMENTS.false)))

pub returns-in_err-add_segment-clause-due : goal.returns-in_err-add_segment-clause-due
returns-in_err-add_segment-clause-due g c =
    on_every (λ e. (e ≡ Memory) ⊎ (e ≡ Device)) _ c.from_residual-in_err-add_segment.result
    (subst (λ s. MayNotFlush s → ⊥) c.self.view_is (may_flush (shape_of_core c.self.inside) c.if-number-gt-LAST_NUMBER.false
    (subst (λ l. length l < segment_limit) c.leaves.ensures.value c.if-leaves-ge-MAX_SEGMENTS.false)))

-- ---- its files are known

pub write_last-requires-clause-some : goal.write_last-requires-clause-some
write_last-requires-clause-some g c =
    omega (
      arith,
      ap (λ (l : List Leaf). length l) c.in_ok-add_segment.ensures.current,
      length-append c.self.inside.current (c.in_ok-leaf.field-0.leaf ∷ []),
    )

pub write_last-requires-clause-had : goal.write_last-requires-clause-had
write_last-requires-clause-had g c =
    let leaf = c.in_ok-leaf.ensures.leaf ∙ ap (λ s. leaf_of s (all_live c.self.inside.next_segment c.self.inside.buffer.records)) c.self.invariant.waits in
    subst (λ (l : Leaf). (q : Name) → times q (names_of_leaves (l ∷ [])) ≤ users_of c.add_segment.new.refs q) leaf
    (given_again _ c.self.inside.refs c.add_segment.new.refs c.in_ok-add_segment.ensures.refs)

-- ---- nothing waits

pub returns-then-is_empty-clause-ok : goal.returns-then-is_empty-clause-ok
returns-then-is_empty-clause-ok g c =
    inl (subst (λ s. s.buffered ≡ []) c.self.view_is (c.is_empty.ensures.0 c.if-is_empty.true), refl, λ q. refl)

pub returns-then-is_empty-clause-may : goal.returns-then-is_empty-clause-may
returns-then-is_empty-clause-may g c = λ may. may.0 (subst (λ s. s.buffered ≡ []) c.self.view_is (c.is_empty.ensures.0 c.if-is_empty.true))

pub returns-then-is_empty-clause-crash : goal.returns-then-is_empty-clause-crash
returns-then-is_empty-clause-crash g c = λ q other e might. might

pub returns-then-is_empty-clause-fails : goal.returns-then-is_empty-clause-fails
returns-then-is_empty-clause-fails g c = record { device = tt; counted = tt; memory = tt; can = λ can. can; rises = omega arith }

pub returns-then-is_empty-clause-quiet : goal.returns-then-is_empty-clause-quiet
returns-then-is_empty-clause-quiet g c = refl

pub returns-in_err-leaf-clause-crash : goal.returns-in_err-leaf-clause-crash
returns-in_err-leaf-clause-crash g c = λ q other e might. might

pub returns-in_err-leaf-clause-err : goal.returns-in_err-leaf-clause-err
returns-in_err-leaf-clause-err g c = either_err c.from_residual.result (inl (refl, λ q. refl))

pub returns-in_err-leaf-clause-known : goal.returns-in_err-leaf-clause-known
returns-in_err-leaf-clause-known g c = either_err c.from_residual.result (λ q known. known)

pub returns-in_err-leaf-clause-spent : goal.returns-in_err-leaf-clause-spent
returns-in_err-leaf-clause-spent g c = passed (λ (e : Refusal). e ≡ Spent → MayNotFlush c.args.self.now) _ _ c.from_residual.ensures (λ is. cc is)

pub returns-in_err-leaf-clause-fails : goal.returns-in_err-leaf-clause-fails
returns-in_err-leaf-clause-fails g c = quiet_counts _ c.from_residual.ensures

pub returns-in_err-leaf-clause-refusal : goal.returns-in_err-leaf-clause-refusal
returns-in_err-leaf-clause-refusal g c = passed (λ (e : Refusal). (e ≡ Memory) ⊎ (e ≡ Device) ⊎ (e ≡ Spent)) _ _ c.from_residual.ensures (inl refl)

pub returns-in_err-add_segment-clause-crash : goal.returns-in_err-add_segment-clause-crash
returns-in_err-add_segment-clause-crash g c = λ q other e might. might

pub returns-in_err-add_segment-clause-spent : goal.returns-in_err-add_segment-clause-spent
returns-in_err-add_segment-clause-spent g c = passed (λ (e : Refusal). e ≡ Spent → MayNotFlush c.args.self.now) _ _ c.from_residual-in_err-add_segment.ensures (λ is. cc is)

pub returns-in_err-add_segment-clause-fails : goal.returns-in_err-add_segment-clause-fails
returns-in_err-add_segment-clause-fails g c = quiet_counts _ c.from_residual-in_err-add_segment.ensures

pub returns-in_err-add_segment-clause-refusal : goal.returns-in_err-add_segment-clause-refusal
returns-in_err-add_segment-clause-refusal g c = passed (λ (e : Refusal). (e ≡ Memory) ⊎ (e ≡ Device) ⊎ (e ≡ Spent)) _ _ c.from_residual-in_err-add_segment.ensures (inl refl)

-- ---- the files that it leaves alone

pub returns-in-Ok-clause-crash : goal.returns-in-Ok-clause-crash
returns-in-Ok-clause-crash g c =
    let could = g.D.Holder.may_leave c.args.device.now in
    let can = g.D.Holder.may_leave c.write_last.new.device in
    subst (λ s. (q : FileName) → is_begun (flush_begins s) q ≡ false → NoMore (could q) (can q)) c.self.view_is
    (other_files c.self.inside.next_segment (λ q. NoMore (could q) (can q)) c.in-Ok.ensures.crash)

pub returns-in-Err-clause-crash : goal.returns-in-Err-clause-crash
returns-in-Err-clause-crash g c =
    let could = g.D.Holder.may_leave c.args.device.now in
    let can = g.D.Holder.may_leave c.write_last.new.device in
    subst (λ s. (q : FileName) → is_begun (flush_begins s) q ≡ false → NoMore (could q) (can q)) c.self.view_is
    (other_files c.self.inside.next_segment (λ q. NoMore (could q) (can q)) c.in-Err.ensures.crash)

-- ---- it doesn't stand

pub returns-in_err-add_segment-clause-err : goal.returns-in_err-add_segment-clause-err
returns-in_err-add_segment-clause-err g c =
    let left = record (shape_of_core c.self.inside) { leaves = c.add_segment.new.current; users = c.add_segment.new.refs } in
    let same : left ≡ shape_of_core c.self.inside = λ i. record (shape_of_core c.self.inside) { leaves = c.in_err-add_segment.ensures.err.0 i; users = c.in_err-add_segment.ensures.err.1 i } in
    either_err c.from_residual-in_err-add_segment.result (inl (same ∙ c.self.view_is, λ q. refl))

pub returns-in_err-add_segment-clause-known : goal.returns-in_err-add_segment-clause-known
returns-in_err-add_segment-clause-known g c =
    either_err c.from_residual-in_err-add_segment.result
    (subst (λ s. StayKnown s.users c.add_segment.new.refs) c.self.view_is
    (λ q known. subst (λ us. is_known us q ≡ true) (sym c.in_err-add_segment.ensures.err.1) known))

pub new_segment-requires-clause-some : goal.new_segment-requires-clause-some
new_segment-requires-clause-some c = grind (arith, common_steps)
