use Rattle.std.proofs.Common.{rules, ◌≡◌, ◌∙◌, Some, sym, true}
use Rattle.std.specs.Prelude.{is_some}
use Rattle.std.specs.BTreeMap.{get}
use Rattle.cat_directory.specs.Names.{name_cmp}
use Rattle.cat_directory.proofs.Maps.{formed_write, told_others}
use Rattle.cat_directory.proofs.memory.MemoryDirectoryDirectory.append.Goals as goal

pub invariant_of-self : goal.invariant_of-self
invariant_of-self c =
    let file = c.extend_from_slice.new.self in
    let some : is_some (get name_cmp c.args.self.now.files c.args.name) ≡ true = search rules in
    record { formed = formed_write c.args.self.now.files (c.get_mut.follows.lender file) c.args.name file (c.get_mut.follows.holds file) some c.args.self.now.formed }

pub returns-in_err-extend_from_slice-in-Some-clause-others : goal.returns-in_err-extend_from_slice-in-Some-clause-others
returns-in_err-extend_from_slice-in-Some-clause-others c =
    let file = c.extend_from_slice.new.self in
    let some : is_some (get name_cmp c.args.self.now.files c.args.name) ≡ true = search rules in
    λ q other. told_others c.args.self.now.files (c.get_mut.follows.lender file) c.args.name (Some file) ((c.get_mut.follows.holds file).3 some) q other

pub returns-in_err-extend_from_slice-in-Some-clause-crash : goal.returns-in_err-extend_from_slice-in-Some-clause-crash
returns-in_err-extend_from_slice-in-Some-clause-crash c =
    let file = c.extend_from_slice.new.self in
    let some : is_some (get name_cmp c.args.self.now.files c.args.name) ≡ true = search rules in
    λ q other e after. sym (told_others c.args.self.now.files (c.get_mut.follows.lender file) c.args.name (Some file) ((c.get_mut.follows.holds file).3 some) q other) ∙ after

pub returns-in_ok-extend_from_slice-in-Some-clause-others : goal.returns-in_ok-extend_from_slice-in-Some-clause-others
returns-in_ok-extend_from_slice-in-Some-clause-others c =
    let file = c.extend_from_slice.new.self in
    let some : is_some (get name_cmp c.args.self.now.files c.args.name) ≡ true = search rules in
    λ q other. told_others c.args.self.now.files (c.get_mut.follows.lender file) c.args.name (Some file) ((c.get_mut.follows.holds file).3 some) q other

pub returns-in_ok-extend_from_slice-in-Some-clause-crash : goal.returns-in_ok-extend_from_slice-in-Some-clause-crash
returns-in_ok-extend_from_slice-in-Some-clause-crash c =
    let file = c.extend_from_slice.new.self in
    let some : is_some (get name_cmp c.args.self.now.files c.args.name) ≡ true = search rules in
    λ q other e after. sym (told_others c.args.self.now.files (c.get_mut.follows.lender file) c.args.name (Some file) ((c.get_mut.follows.holds file).3 some) q other) ∙ after
