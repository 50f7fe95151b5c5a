use Rattle.std.proofs.Common.{◌≡◌, ◌∙◌, ◌||◌, Bool, true, false, Option, Some, refl, sym, ap, subst}
use Rattle.std.specs.Prelude.{◌⊎◌, option_map}
use Rattle.cat_model.specs.Files.{Name}
use Rattle.cat_directory.specs.Names.{name_of}
use Rattle.cat_merge.specs.files.Making.{InMaking}
use Rattle.cat_ledger_laws.specs.model.Users.{same_file_name}
use Rattle.cat_ledger_laws.proofs.shape.MergeSteps.{copies_keep, ends_keep}
use Rattle.cat_ledger_state.specs.Cores.{shape_of_core, HasCopied, HasEnded, HasRowsLeft, IsSourceOf, LacksInput, LacksOwn, LacksToCopy, MayCopy}
use Rattle.cat_ledger_state.proofs.Merging.{copied_is, ended_is, may_copy, of_merge, source_counted, still_under, none_under}
use Rattle.cat_ledger_state.proofs.Known.{given_past}
use Rattle.cat_ledger_state.proofs.state.Core.copy_rows.Goals as goal

pub unreachable-requires : goal.unreachable-requires
unreachable-requires g c =
    subst (λ (o : Option InMaking). HasRowsLeft (option_map (λ m. m.shape) o)) (sym c.take.ensures.value ∙ c.in_default.is)
    (subst (λ s. HasRowsLeft s.merging) (sym c.self.view_is) c.requires)

pub give_source-requires : goal.give_source-requires
give_source-requires g c =
    source_counted (shape_of_core c.self.inside) c.self.inside.merging c.in-Some.merge c.number.result c.self.invariant.shape refl
    (sym c.take.ensures.value ∙ c.in-Some.is) (c.number.ensures ∙ ap (λ m. m.shape.number) c.in-Err.ensures.err)

pub invariant_of-self : goal.invariant_of-self
invariant_of-self g c =
    let some = sym c.take.ensures.value ∙ c.in-Some.is in
    let copied = copied_is (shape_of_core c.self.inside) c.self.inside.merging c.in-Some.merge c.copy_step.new.self refl some
    (subst (λ s. HasRowsLeft s.merging) (sym c.self.view_is) c.requires) c.in-Ok.ensures.ok in
    record {
      shape = copies_keep c.in-Some.merge.shape (shape_of_core c.self.inside) _ copied c.self.invariant.shape;
      waits = c.self.invariant.waits;
      few = c.self.invariant.few;
      merges = ap (λ m. m.schema) c.in-Ok.ensures.ok ∙ still_under c.self.inside.schema c.self.inside.merging c.in-Some.merge some c.self.invariant.merges;
      known = c.self.invariant.known;
    }

pub invariant_of-self-in-Err-1 : goal.invariant_of-self-in-Err-1
invariant_of-self-in-Err-1 g c =
    let some = sym c.take.ensures.value ∙ c.in-Some.is in
    let number = c.number.ensures ∙ ap (λ m. m.shape.number) c.in-Err.ensures.err in
    let ended = ended_is (shape_of_core c.self.inside) c.self.inside.merging c.take.new.self c.in-Some.merge c.give_source.new.refs c.number.result refl some
    c.take.ensures.after number c.give_source.ensures in
    record {
      shape = ends_keep c.in-Some.merge.shape (shape_of_core c.self.inside) _ ended c.self.invariant.shape;
      waits = c.self.invariant.waits;
      few = c.self.invariant.few;
      merges = none_under c.self.inside.schema c.take.new.self c.take.ensures.after;
      known = given_past _ _ _ _ _ c.give_source.ensures c.self.invariant.known;
    }

pub returns-in-Ok-clause-ok : goal.returns-in-Ok-clause-ok
returns-in-Ok-clause-ok g c =
    let some = sym c.take.ensures.value ∙ c.in-Some.is in
    let copied = copied_is (shape_of_core c.self.inside) c.self.inside.merging c.in-Some.merge c.copy_step.new.self refl some
    (subst (λ s. HasRowsLeft s.merging) (sym c.self.view_is) c.requires) c.in-Ok.ensures.ok in
    let new = record (shape_of_core c.self.inside) { merging = Some c.copy_step.new.self.shape } in
    let told = g.D.Holder.bytes c.args.device.now in
    let told' = g.D.Holder.bytes c.copy_step.new.device in
    subst (λ s. HasCopied told s told' new) c.self.view_is (record { merge = c.in-Some.merge.shape; copied = copied; written = c.in-Ok.ensures.copied })

first_of_two : (a b : Bool) → (a || (b || false)) ≡ false → (a || false) ≡ false
first_of_two false b none = refl
first_of_two true b none = none

pub returns-in-Err-clause-err : goal.returns-in-Err-clause-err
returns-in-Err-clause-err g c =
    let some = sym c.take.ensures.value ∙ c.in-Some.is in
    let number = c.number.ensures ∙ ap (λ m. m.shape.number) c.in-Err.ensures.err in
    let ended = ended_is (shape_of_core c.self.inside) c.self.inside.merging c.take.new.self c.in-Some.merge c.give_source.new.refs c.number.result refl some
    c.take.ensures.after number c.give_source.ensures in
    let new = record (shape_of_core c.self.inside) { merging = option_map (λ m. m.shape) c.take.new.self; users = c.give_source.new.refs } in
    let told = g.D.Holder.bytes c.args.device.now in
    let told' = g.D.Holder.bytes c.copy_step.new.device in
    let n = c.in-Some.merge.shape.number in
    subst (λ s. HasEnded told s told' new) c.self.view_is (record {
      merge = c.in-Some.merge.shape;
      ended = ended;
      others = λ q none. c.copy_step.ensures.others q
          (first_of_two (same_file_name (name_of q) (Name.source n)) (same_file_name (name_of q) (Name.segment n)) none);
    })

pub returns-in-Ok-clause-crash : goal.returns-in-Ok-clause-crash
returns-in-Ok-clause-crash g c = λ q apart. c.copy_step.ensures.crash q (λ is. apart (
    subst (λ s. IsSourceOf s.merging q) c.self.view_is
    (of_merge (λ o. IsSourceOf o q) c.self.inside.merging c.in-Some.merge (sym c.take.ensures.value ∙ c.in-Some.is) is)))

pub returns-in-Err-clause-crash : goal.returns-in-Err-clause-crash
returns-in-Err-clause-crash g c = λ q apart. c.copy_step.ensures.crash q (λ is. apart (
    subst (λ s. IsSourceOf s.merging q) c.self.view_is
    (of_merge (λ o. IsSourceOf o q) c.self.inside.merging c.in-Some.merge (sym c.take.ensures.value ∙ c.in-Some.is) is)))

pub returns-in-Err-clause-due : goal.returns-in-Err-clause-due
returns-in-Err-clause-due g c = λ memory.
    let told = g.D.Holder.bytes c.args.device.now in
    subst (λ s. MayCopy told s.merging) c.self.view_is (
    may_copy told c.self.inside.merging c.in-Some.merge (sym c.take.ensures.value ∙ c.in-Some.is) (c.in-Err.ensures.due memory))

pub returns-in-Err-clause-lacking : goal.returns-in-Err-clause-lacking
returns-in-Err-clause-lacking g c = λ damaged.
    let told = g.D.Holder.bytes c.args.device.now in
    subst (λ s. LacksToCopy told s.merging) c.self.view_is (
    of_merge (LacksToCopy told) c.self.inside.merging c.in-Some.merge (sym c.take.ensures.value ∙ c.in-Some.is) (c.in-Err.ensures.damaged damaged))

pub returns-in-Err-clause-short : goal.returns-in-Err-clause-short
returns-in-Err-clause-short g c = λ damaged.
    let told = g.D.Holder.bytes c.args.device.now in
    subst (λ s. LacksInput told s.merging) c.self.view_is (
    of_merge (LacksInput told) c.self.inside.merging c.in-Some.merge (sym c.take.ensures.value ∙ c.in-Some.is) (c.in-Err.ensures.short damaged))

pub returns-in-Err-clause-device : goal.returns-in-Err-clause-device
returns-in-Err-clause-device g c = λ device.
    let told = g.D.Holder.bytes c.args.device.now in
    subst (λ s. g.D.Holder.can_fail c.args.device.now ⊎ LacksOwn told s.merging) c.self.view_is (
    of_merge (λ o. g.D.Holder.can_fail c.args.device.now ⊎ LacksOwn told o) c.self.inside.merging c.in-Some.merge (sym c.take.ensures.value ∙ c.in-Some.is)
    (c.in-Err.ensures.device device))

pub returns-in-Err-clause-counted : goal.returns-in-Err-clause-counted
returns-in-Err-clause-counted g c = c.in-Err.ensures.counted

pub returns-in-Ok-clause-can : goal.returns-in-Ok-clause-can
returns-in-Ok-clause-can g c = c.copy_step.ensures.can

pub returns-in-Err-clause-can : goal.returns-in-Err-clause-can
returns-in-Err-clause-can g c = c.copy_step.ensures.can

pub returns-in-Ok-clause-counted : goal.returns-in-Ok-clause-counted
returns-in-Ok-clause-counted g c = c.in-Ok.ensures.counted
