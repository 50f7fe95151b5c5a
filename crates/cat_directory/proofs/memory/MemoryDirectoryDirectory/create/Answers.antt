use Rattle.cat_directory.proofs.Formed.{formed_of}
use Rattle.cat_directory.proofs.Maps.{formed_tried}
use Rattle.cat_directory.proofs.memory.MemoryDirectoryDirectory.create.Goals as goal

pub invariant_of-self : goal.invariant_of-self
invariant_of-self c = record {
  formed = formed_tried c.insert.result c.args.self.now.files c.insert.new.self c.args.name c.new.result c.insert.ensures.updates c.insert.ensures.err
      (formed_of c.args.name c.requires.form) c.args.self.now.formed;
}
