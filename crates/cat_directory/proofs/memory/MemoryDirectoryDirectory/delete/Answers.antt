use Rattle.std.proofs.Common.{None, sym, ◌∙◌}
use Rattle.cat_directory.specs.Names.{name_cmp}
use Rattle.cat_directory.proofs.Maps.{formed_remove, told_others}
use Rattle.cat_directory.proofs.memory.MemoryDirectoryDirectory.delete.Goals as goal

pub invariant_of-self : goal.invariant_of-self
invariant_of-self c = record {
  formed = formed_remove (name_cmp c.args.name) c.args.self.now.files c.remove-before.new.self c.remove-before.ensures.updates c.args.self.now.formed;
}

pub returns-clause-others : goal.returns-clause-others
returns-clause-others c = λ q other. told_others c.args.self.now.files c.remove-before.new.self c.args.name None c.remove-before.ensures.updates q other

pub returns-clause-crash : goal.returns-clause-crash
returns-clause-crash c = λ q other e after. sym (told_others c.args.self.now.files c.remove-before.new.self c.args.name None c.remove-before.ensures.updates q other) ∙ after
