use Rattle.std.proofs.Common.{subst}
use Rattle.std.specs.Prelude.{Option, IfSome}
use Rattle.cat_model.specs.Files.{IsFileName}
use Rattle.cat_directory.specs.declared.name.FileName.{FileName}
use Rattle.cat_directory.specs.Names.{name_of}
use Rattle.cat_directory.proofs.Formed.{all_with}
use Rattle.cat_directory.proofs.system_folder.keep.Goals as goal

pub returns-in_ok-insert : goal.returns-in_ok-insert
returns-in_ok-insert c =
    let form = subst (λ (found : Option FileName). IfSome found (λ x. IsFileName (name_of x))) c.in-Some.is c.requires.form in
    all_with c.args.names.now.keys c.insert.new.self.keys c.in-Some.name c.in_ok-insert.ensures.keys form
