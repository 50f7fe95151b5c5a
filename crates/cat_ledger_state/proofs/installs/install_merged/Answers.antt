use Rattle.std.proofs.Common.{◌≡◌, ℕ, ◌+◌, ◌-◌, ◌<◌, ◌≤◌, ◌^◌, ◌∙◌, Bool, true, false, cond, [], ◌∷◌, List, inl, refl, take, drop, sym, ap, subst, arith}
use Rattle.std.specs.Prelude.{◌≢◌, ◌⊎◌, ◌==◌, length, not}
use Rattle.std.specs.List.{AllByRecursion}
use Rattle.std.specs.Option.{option_to_list}
use Rattle.std.proofs.lemmas.Result.{on_ok_weaker, on_err_weaker}
use Rattle.cat_base.specs.declared.refusal.Refusal.{Refusal}
use Rattle.cat_base.specs.declared.refusal.Refusal.TheVariants.{Device, Memory}
use Rattle.cat_model.specs.Files.{IsFileNumber}
use Rattle.cat_model.specs.Layout.{SpellsSegment}
use Rattle.cat_model.specs.Merged.{AreDeletedFrom, merged_leaf}
use Rattle.cat_model.specs.View.{Leaf}
use Rattle.cat_directory.specs.declared.name.FileName.TheVariants as file
use Rattle.cat_merge.specs.files.Making.{InMaking, merged_leaves}
use Rattle.cat_lifetimes.specs.refs.Counts.{names_in}
use Rattle.cat_ledger_laws.specs.model.Ledger.{IsPast}
use Rattle.cat_ledger_laws.specs.model.Users.{is_known, users_of, times, Changes}
use Rattle.cat_ledger_laws.specs.shape.Shapes.{names_of_leaves}
use Rattle.cat_ledger_laws.specs.shape.Steps.{window_now}
use Rattle.cat_ledger_laws.specs.shape.Ties.{TellsBytes}
use Rattle.cat_commits.proofs.reading.Reading.{passed}
use Rattle.cat_ledger_state.specs.Cores.{KnownArePast}
use Rattle.cat_ledger_state.specs.Installs.{MayPlace, made_of, placed_in}
use Rattle.cat_ledger_state.proofs.Counting.{given_after, given_again, known_still, users_undone}
use Rattle.cat_ledger_state.proofs.Known.{merged_past, undone_past}
use Rattle.cat_ledger_state.proofs.Merging.{run_is}
use Rattle.cat_ledger_state.proofs.Installing.{moved_is}
use Rattle.cat_ledger_state.proofs.Results.{either_err}
use Rattle.cat_ledger_state.proofs.installs.install_merged.Goals as goal

if_made : (made : Bool) (leaf : Leaf) (n : ℕ) → leaf.segment.number ≡ n → AllByRecursion (λ (l : Leaf). l.segment.number ≡ n) (cond made (leaf ∷ []) [])
if_made false leaf n is = tt
if_made true leaf n is = (is, tt)

-- the segment that a merge makes has its number
merged_numbered : (m : InMaking) (window : List Leaf) (n : ℕ) → m.shape.number ≡ n
    → AllByRecursion (λ (leaf : Leaf). leaf.segment.number ≡ n) (merged_leaves m.shape.number m.schema m.shape.inputs window)
merged_numbered m window n is =
    let leaf : Leaf = merged_leaf m.shape.number m.schema m.shape.inputs window in
    if_made (not (length leaf.segment.rows == 0)) leaf n is

pub settle-requires : goal.settle-requires
settle-requires g c =
    let m = c.args.merge in
    let window : List Leaf = take (c.index.result + c.count.result - c.index.result) (drop c.index.result c.leaves.result.now) in
    let stands : window ≡ window_now m.shape c.args.current.now =
    run_is c.args.current.now c.leaves.result.now c.index.result c.count.result c.leaves.ensures.value
    ∙ (λ i. take (c.count.ensures i) (drop (c.index.ensures i) c.args.current.now)) in
    record {
      passed = c.requires.passed;
      deleted = subst (AreDeletedFrom m.shape.inputs) (sym stands) c.requires.deleted;
      fit = λ q. subst (λ ls. users_of c.args.refs.now q + times q (names_of_leaves (merged_leaves m.shape.number m.schema m.shape.inputs ls)) < 2 ^ 64) (sym stands)
          (c.requires.fit q);
    }

pub write_and_place-placed-requires : goal.write_and_place-placed-requires
write_and_place-placed-requires g c =
    let m = c.args.merge in
    let now = c.args.current.now in
    let window : List Leaf = take (c.index.result + c.count.result - c.index.result) (drop c.index.result c.leaves.result.now) in
    let stands : window ≡ window_now m.shape now =
    run_is now c.leaves.result.now c.index.result c.count.result c.leaves.ensures.value
    ∙ (λ i. take (c.count.ensures i) (drop (c.index.ensures i) now)) in
    let made = c.in_ok-merged.ensures.merged ∙ ap (merged_leaves m.shape.number m.schema m.shape.inputs) stands in
    record {
      number = subst IsFileNumber (sym c.number-number.ensures) c.in_ok-merged.ensures.numbered;
      same = subst (AllByRecursion (λ (leaf : Leaf). leaf.segment.number ≡ c.number-number.result)) (sym c.in_ok-merged.ensures.merged)
          (merged_numbered m window c.number-number.result (sym c.number-number.ensures));
      place = subst (λ k. MayPlace now k c.count.result (option_to_list c.in_ok-merged.field-0.merged)) (sym c.index.ensures)
          (subst (λ k. MayPlace now m.shape.index k (option_to_list c.in_ok-merged.field-0.merged)) (sym c.count.ensures)
          (subst (MayPlace now m.shape.index (length m.shape.inputs)) (sym made) c.requires.place));
    }

pub end_moves-requires : goal.end_moves-requires
end_moves-requires g c =
    let m = c.args.merge in
    let window : List Leaf = take (c.index.result + c.count.result - c.index.result) (drop c.index.result c.leaves.result.now) in
    let stands : window ≡ window_now m.shape c.args.current.now =
    run_is c.args.current.now c.leaves.result.now c.index.result c.count.result c.leaves.ensures.value
    ∙ (λ i. take (c.count.ensures i) (drop (c.index.ensures i) c.args.current.now)) in
    record {
      taken = given_again _ c.args.refs.now c.settle.new.refs c.in_ok-merged.ensures.counted;
      given = λ q. given_after _ c.args.refs.now c.settle.new.refs c.in_ok-merged.ensures.counted q _
          (subst (λ names. times q names ≤ users_of c.args.refs.now q) (sym (c.in_ok-merged.ensures.given ∙ ap names_of_leaves stands)) (c.requires.had q));
    }

pub returns-clause-written : goal.returns-clause-written
returns-clause-written g c =
    let m = c.args.merge in
    let window : List Leaf = take (c.index.result + c.count.result - c.index.result) (drop c.index.result c.leaves.result.now) in
    let stands : window ≡ window_now m.shape c.args.current.now =
    run_is c.args.current.now c.leaves.result.now c.index.result c.count.result c.leaves.ensures.value
    ∙ (λ i. take (c.count.ensures i) (drop (c.index.ensures i) c.args.current.now)) in
    let made = c.in_ok-merged.ensures.merged ∙ ap (merged_leaves m.shape.number m.schema m.shape.inputs) stands in
    let told' = g.D.Holder.bytes c.write_and_place-placed.new.device in
    on_ok_weaker c.write_and_place-placed.result
    (λ (written : AllByRecursion (λ (leaf : Leaf). TellsBytes told' (file.Segment c.number-number.result) (λ bytes. SpellsSegment bytes leaf.segment)) (option_to_list c.in_ok-merged.field-0.merged)).
    subst (λ n. AllByRecursion (λ (leaf : Leaf). TellsBytes told' (file.Segment n) (λ bytes. SpellsSegment bytes leaf.segment)) (made_of m c.args.current.now)) c.number-number.ensures
    (subst (AllByRecursion (λ (leaf : Leaf). TellsBytes told' (file.Segment c.number-number.result) (λ bytes. SpellsSegment bytes leaf.segment))) made written))
    c.write_and_place-placed.ensures.written

pub returns-clause-ok : goal.returns-clause-ok
returns-clause-ok g c =
    let m = c.args.merge in
    let window : List Leaf = take (c.index.result + c.count.result - c.index.result) (drop c.index.result c.leaves.result.now) in
    let stands : window ≡ window_now m.shape c.args.current.now =
    run_is c.args.current.now c.leaves.result.now c.index.result c.count.result c.leaves.ensures.value
    ∙ (λ i. take (c.count.ensures i) (drop (c.index.ensures i) c.args.current.now)) in
    let made = c.in_ok-merged.ensures.merged ∙ ap (merged_leaves m.shape.number m.schema m.shape.inputs) stands in
    on_ok_weaker c.write_and_place-placed.result
    (λ (is : c.write_and_place-placed.new.current ≡ placed_in c.args.current.now c.index.result c.count.result (option_to_list c.in_ok-merged.field-0.merged)).
    is ∙ (λ i. placed_in c.args.current.now (c.index.ensures i) (c.count.ensures i) (made i)))
    c.write_and_place-placed.ensures.ok

pub returns-clause-users : goal.returns-clause-users
returns-clause-users g c =
    let m = c.args.merge in
    let window : List Leaf = take (c.index.result + c.count.result - c.index.result) (drop c.index.result c.leaves.result.now) in
    let stands : window ≡ window_now m.shape c.args.current.now =
    run_is c.args.current.now c.leaves.result.now c.index.result c.count.result c.leaves.ensures.value
    ∙ (λ i. take (c.count.ensures i) (drop (c.index.ensures i) c.args.current.now)) in
    on_ok_weaker c.write_and_place-placed.result
    (λ (gone : Changes [] (names_in c.in_ok-merged.field-0.moves.given.items) c.settle.new.refs c.end_moves.new.refs). moved_is m c.args.current.now window _ _ _ c.args.refs.now c.settle.new.refs c.end_moves.new.refs stands c.in_ok-merged.ensures.merged
    c.in_ok-merged.ensures.taken c.in_ok-merged.ensures.given c.in_ok-merged.ensures.counted gone) c.end_moves.ensures.ok

pub returns-clause-same : goal.returns-clause-same
returns-clause-same g c =
    on_err_weaker c.write_and_place-placed.result (users_undone _ c.args.refs.now c.settle.new.refs c.end_moves.new.refs c.in_ok-merged.ensures.counted)
    c.end_moves.ensures.err

pub returns-clause-known : goal.returns-clause-known
returns-clause-known g c =
    on_err_weaker c.write_and_place-placed.result (known_still _ _ c.args.refs.now c.settle.new.refs c.end_moves.new.refs c.in_ok-merged.ensures.counted)
    c.end_moves.ensures.err

pub returns-clause-past : goal.returns-clause-past
returns-clause-past g c =
    let m = c.args.merge in
    let window : List Leaf = take (c.index.result + c.count.result - c.index.result) (drop c.index.result c.leaves.result.now) in
    let stands : window ≡ window_now m.shape c.args.current.now =
    run_is c.args.current.now c.leaves.result.now c.index.result c.count.result c.leaves.ensures.value
    ∙ (λ i. take (c.count.ensures i) (drop (c.index.ensures i) c.args.current.now)) in
    let names = c.in_ok-merged.ensures.taken ∙ ap names_of_leaves (c.in_ok-merged.ensures.merged ∙ ap (merged_leaves m.shape.number m.schema m.shape.inputs) stands) in
    on_err_weaker c.write_and_place-placed.result
    (λ (gone : Changes [] (names_in c.in_ok-merged.field-0.moves.taken.items) c.settle.new.refs c.end_moves.new.refs) n g taken past.
    undone_past _ _ c.args.refs.now c.settle.new.refs c.end_moves.new.refs n g n g (omega arith) (omega arith)
    (subst (AllByRecursion (IsPast n g)) (sym names) (merged_past n g m c.args.current.now taken)) c.in_ok-merged.ensures.counted gone past)
    c.end_moves.ensures.err

-- what the call that writes says, of the number of the merge

pub returns-clause-others : goal.returns-clause-others
returns-clause-others g c = λ q apart.
    c.write_and_place-placed.ensures.others q (subst (λ n. q ≢ file.Segment n) (sym c.number-number.ensures) apart)

pub returns-clause-crash : goal.returns-clause-crash
returns-clause-crash g c = λ q apart.
    c.write_and_place-placed.ensures.crash q (subst (λ n. q ≢ file.Segment n) (sym c.number-number.ensures) apart)

pub returns-clause-err : goal.returns-clause-err
returns-clause-err g c = c.write_and_place-placed.ensures.err

pub returns-clause-fails : goal.returns-clause-fails
returns-clause-fails g c = c.write_and_place-placed.ensures.fails

pub returns-clause-refusal : goal.returns-clause-refusal
returns-clause-refusal g c = c.write_and_place-placed.ensures.refusal

-- nothing was settled

pub returns-in_err-merged-clause-others : goal.returns-in_err-merged-clause-others
returns-in_err-merged-clause-others g c = λ q apart. refl

pub returns-in_err-merged-clause-crash : goal.returns-in_err-merged-clause-crash
returns-in_err-merged-clause-crash g c = λ q apart e might. might

pub returns-in_err-merged-clause-err : goal.returns-in_err-merged-clause-err
returns-in_err-merged-clause-err g c = either_err c.from_residual.result refl

pub returns-in_err-merged-clause-same : goal.returns-in_err-merged-clause-same
returns-in_err-merged-clause-same g c = either_err c.from_residual.result (λ q. ap (λ us. users_of us q) c.in_err-merged.ensures.err)

pub returns-in_err-merged-clause-known : goal.returns-in_err-merged-clause-known
returns-in_err-merged-clause-known g c =
    either_err c.from_residual.result (λ q known. subst (λ us. is_known us q ≡ true) (sym c.in_err-merged.ensures.err) known)

pub returns-in_err-merged-clause-past : goal.returns-in_err-merged-clause-past
returns-in_err-merged-clause-past g c =
    either_err c.from_residual.result (λ n k taken past. subst (λ us. KnownArePast us n k) (sym c.in_err-merged.ensures.err) past)

pub returns-in_err-merged-clause-refusal : goal.returns-in_err-merged-clause-refusal
returns-in_err-merged-clause-refusal g c = passed (λ (e : Refusal). (e ≡ Memory) ⊎ (e ≡ Device)) _ _ c.from_residual.ensures (inl refl)
