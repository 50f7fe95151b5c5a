-- What lines that are answered one after another make of a world.
use Rattle.std.specs.Prelude.{◌≡◌, List, [], ◌∷◌, ◌++◌}
use Rattle.cat_model.specs.Item.{Schema}
use Rattle.cat_model.specs.Run as run
use Rattle.cat_model.specs.Table.{Opened}
use Rattle.cat_commands.specs.cat_protocol.lines.Line.{said_of}
use Rattle.cat_commands.specs.cat_protocol.declared.lines.line.Line.{Line}
use Rattle.cat_commands.specs.cat_ledger.Lasting.{AlwaysTells}
use Rattle.cat_ledger_laws.specs.lines.RunLaws.{ReplyLike, Stands}
use Rattle.cat_ledger_laws.specs.shape.Ties.{ToldFiles}
use Rattle.cat_commands.specs.cat_protocol.replies.Reply.{reply_of}
use Rattle.cat_commands.specs.cat_protocol.declared.replies.reply.Reply.{Reply}
use Rattle.cat_service.specs.Lines.{IsCommandOf}
use Rattle.cat_service.specs.Worlds.{Service, device_of, shape_of_service}

-- The exchange is of the line, under the schema, and its reply is the one that was given; on devices that don't tell of their files the
-- text of a stored item may be another one of its length.
pub record IsAnsweredLine {D : Type 0} (bytes : D → ToldFiles) (schema : Schema) (line : Line) (given : Reply) (e : run.Exchange) : Type 0 where
  pub session : e.line.session ≡ line.session
  pub command : IsCommandOf schema (said_of line.command) e.line.command
  pub alike : ReplyLike (reply_of given.answer) e.reply
  pub same : AlwaysTells bytes → reply_of given.answer ≡ e.reply

-- so with each of them, in turn
abbrev pub AreAnsweredLines : {D : Type 0} → (D → ToldFiles) → Schema → List Line → List Reply → run.Run → Type 0
AreAnsweredLines bytes schema [] [] [] = Unit {0}
AreAnsweredLines bytes schema (line ∷ lines) (given ∷ replies) (e ∷ es) =
    IsAnsweredLine bytes schema line given e × AreAnsweredLines bytes schema lines replies es
AreAnsweredLines bytes schema _ _ _ = ⊥

-- the run goes on from its past with the lines and the replies that were given, and what is left stands for it
pub record RunGoesOn {D : Type 0} (bytes : D → ToldFiles) (schema : Schema) (lines : List Line) (replies : List Reply) (new : Service D)
    (from : Opened) (past : run.Run) : Type 0 where
  pub more : run.Run
  pub answered : AreAnsweredLines bytes schema lines replies more
  pub is_run : run.IsRun from (past ++ more)
  pub stands : Stands (bytes (device_of new)) (shape_of_service new) from (past ++ more)

-- whatever run led here
abbrev pub RunsLines : {D : Type 0} → (D → ToldFiles) → Service D → List Line → List Reply → Service D → Type 0
RunsLines bytes old lines replies new =
    (from : Opened) (past : run.Run) → from.start.schema ≡ (shape_of_service old).schema → run.IsRun from past
    → Stands (bytes (device_of old)) (shape_of_service old) from past → RunGoesOn bytes (shape_of_service old).schema lines replies new from past
