-- Replies to a command that is known.
use Rattle.std.proofs.Common.{◌≡◌, subst, sym}
use Rattle.cat_ledger_laws.specs.shape.Ties.{ToldFiles}
use Rattle.cat_model.specs.Lines.{Said}
use Rattle.cat_model.specs.Run.{Reply}
use Rattle.cat_threads.specs.cat_commands.cat_protocol.declared.lines.command.Command.{Command}
use Rattle.cat_threads.specs.cat_commands.cat_protocol.lines.Line.{said_of}
use Rattle.cat_threads.specs.service.Passes.{Seen}
use Rattle.cat_threads.specs.sharing.Grounds.{Ground}
use Rattle.cat_callers.specs.Sessions.{Kept}
use Rattle.cat_callers.specs.Told.{Tells}

-- what is told of the command that it is
pub so_told : (files : ToldFiles) (from : Ground) (to : Said → Reply → Type 0) (v : Seen) (k : Kept) (w : Seen) (l : Kept) (r : Reply) (a b : Command)
    → a ≡ b → Tells files from to (said_of b) v k w l r → Tells files from to (said_of a) v k w l r
so_told files from to v k w l r a b is = subst (λ (c : Command). Tells files from to (said_of c) v k w l r) (sym is)
