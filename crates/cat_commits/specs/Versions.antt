-- The versions of the code, as the model names them.
use Rattle.cat_model.specs.CommitFile as model
use Rattle.cat_commits.specs.declared.commit.Version.{Version}
use Rattle.cat_commits.specs.declared.commit.Version.TheVariants as code

abbrev pub version_of : Version → model.Version
version_of code.First = model.Version.first
version_of code.Second = model.Version.second
