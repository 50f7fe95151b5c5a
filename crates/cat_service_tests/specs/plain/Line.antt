-- What the plain catalogue answers of a line that was read.
use Rattle.std.specs.Prelude.{Bool, true, false, Option, Some, None, cond}
use Rattle.cat_model.specs.Lines.{Said}
use Rattle.cat_service.specs.cat_protocol.declared.lines.command.Command.{Command}
use Rattle.cat_service.specs.cat_protocol.lines.Line.{said_of}

-- What it answers. A line that says anything else is answered as one without a form.
abbrev pub is_plain : Said → Bool
is_plain (Said.put item) = true
is_plain (Said.delete id) = true
is_plain (Said.delete_where query) = true
is_plain Said.refresh = true
is_plain Said.open_newest = true
is_plain (Said.open_at t) = true
is_plain (Said.close t) = true
is_plain (Said.find t n sort mark query) = true
is_plain (Said.facets t dim n query) = true
is_plain (Said.get t id) = true
is_plain (Said.prune n) = true
is_plain _ = false

-- what is said, if it is answered
abbrev pub plain_said : Option Said → Option Said
plain_said None = None
plain_said (Some said) = cond (is_plain said) (Some said) None

-- What the command says, if it has a form and is answered.
abbrev pub plain_of : Command → Option Said
plain_of command = plain_said (said_of command)
