use Rattle.std.proofs.Common.{◌≡◌, [], ◌∷◌, map, sym, ap, ◌∙◌}
use Rattle.cat_protocol.specs.serving.Machine.{short_line}
use Rattle.cat_protocol.specs.serving.Serving.{last_lines}
use Rattle.cat_protocol.proofs.serving.Steps.{left_some, left_unopened, serves_as}
use Rattle.cat_protocol.proofs.serving.serving.serve_last.Goals as goal
use Rattle.cat_protocol.proofs.serving.serving.serve_last.Goals.{else-is_open-via-then-is_open+else-is_empty, else-is_open-via-else-is_open}

pub returns : goal.returns
returns g c =
    let left : last_lines c.args.stage c.args.gathered.now ≡ c.args.gathered.now ∷ [] = elim c.else-is_open.branch [
      | else-is_open-via-then-is_open+else-is_empty w ↦ left_some c.args.stage c.args.gathered.now c.requires.ready (sym w.is_empty.ensures ∙ w.if-is_empty.false)
      | else-is_open-via-else-is_open w ↦ left_unopened c.args.stage c.args.gathered.now c.requires.ready (sym c.is_open.ensures ∙ w.if-is_open.false)
    ] in
    serves_as (ap (map short_line) (sym left)) c.serve_line.ensures
