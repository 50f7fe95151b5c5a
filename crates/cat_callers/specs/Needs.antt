-- Lines by what they need of the session.
use Rattle.cat_threads.specs.cat_commands.cat_protocol.declared.lines.command.Command.{Command}
use Rattle.cat_threads.specs.cat_commands.cat_protocol.declared.lines.command.Command.TheVariants as command

-- a line that needs none of the session's rights
abbrev pub NeedsNoRight : Command → Type 0
NeedsNoRight (command.Open token) = ⊥
NeedsNoRight (command.Close token) = ⊥
NeedsNoRight (command.Find find) = ⊥
NeedsNoRight (command.Facets facets) = ⊥
NeedsNoRight (command.Get token id) = ⊥
NeedsNoRight (command.FilesOfToken token) = ⊥
NeedsNoRight _ = Unit {0}

-- a line that serves all sessions, or has no form
abbrev pub ServesAll : Command → Type 0
ServesAll (command.Put text) = ⊥
ServesAll (command.Delete id) = ⊥
ServesAll (command.DeleteWhere text) = ⊥
ServesAll command.Refresh = ⊥
ServesAll c = NeedsNoRight c
