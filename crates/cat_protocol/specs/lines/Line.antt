-- What a line that was read says.
use Rattle.std.specs.Prelude.{ℕ, Option, Some, None}
use Rattle.cat_model.specs.Text.{Text}
use Rattle.cat_model.specs.Run.{Chore}
use Rattle.cat_model.specs.Lines.{Said, SpellsSaid, ShowsSession, SpellsLine}
use Rattle.cat_facets.specs.cat_search.Sorts.{sort_of}
use Rattle.cat_protocol.specs.declared.lines.command.Command.{Command}
use Rattle.cat_protocol.specs.declared.lines.command.Command.TheVariants as command

-- what the command says, if it has a form
abbrev pub said_of : Command → Option Said
said_of command.NoForm = None
said_of (command.Put item) = Some (Said.put item.now)
said_of (command.Delete id) = Some (Said.delete id.now)
said_of (command.DeleteWhere query) = Some (Said.delete_where query.now)
said_of command.Refresh = Some Said.refresh
said_of (command.Open None) = Some Said.open_newest
said_of (command.Open (Some token)) = Some (Said.open_at token)
said_of (command.Close token) = Some (Said.close token)
said_of (command.Find f) = Some (Said.find f.token f.count (sort_of f.sort) f.mark f.query.now)
said_of (command.Facets f) = Some (Said.facets f.token f.dimension.now f.count f.query.now)
said_of (command.Get token id) = Some (Said.get token id.now)
said_of (command.FilesOfToken token) = Some (Said.files_of_token token)
said_of (command.FilesOfCommit generation) = Some (Said.files_of_commit generation)
said_of (command.Commit text) = Some (Said.commit text.now)
said_of (command.Note generation) = Some (Said.text_of_commit generation)
said_of command.Snapshot = Some Said.snapshot
said_of (command.Unsnapshot generation) = Some (Said.release_snapshot generation)
said_of (command.Prune n) = Some (Said.prune n)
said_of command.Merge = Some (Said.chore Chore.merge)
said_of command.Force = Some (Said.chore Chore.force)
said_of command.Warm = Some (Said.chore Chore.warm)
said_of command.Sweep = Some (Said.chore Chore.sweep)
said_of command.Stat = Some (Said.chore Chore.stat)

-- the text behind a session spells what is said, or nothing
abbrev pub SpellsOrNot : Text → Option Said → Type 0
SpellsOrNot text (Some said) = SpellsSaid text said
SpellsOrNot text None = (said : Said) → SpellsSaid text said → ⊥

-- the line spells what is said under its session, or shows a session and spells nothing
abbrev pub SpellsOrShows : Text → ℕ → Option Said → Type 0
SpellsOrShows line session (Some said) = SpellsLine line session said
SpellsOrShows line session None = ShowsSession line session × ((said : Said) → SpellsLine line session said → ⊥)
