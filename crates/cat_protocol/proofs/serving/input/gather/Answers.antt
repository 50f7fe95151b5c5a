use Rattle.std.proofs.Common.{◌-◌, ◌++◌, min, length, take, sym, ap, ◌∙◌}
use Rattle.cat_protocol.proofs.serving.Cuts.{gathered_with}
use Rattle.cat_protocol.proofs.serving.input.gather.Goals as goal

pub returns-clause-items : goal.returns-clause-items
returns-clause-items c =
    let gathered = c.args.gathered.now.items in
    let bytes = c.args.bytes.now in
    let len = c.len-room.ensures ∙ c.args.gathered.now.ok.0 in
    let count = c.min-count.ensures ∙ ap (λ n. min (10002 - n) (length bytes)) len in
    c.in-Ok.ensures.items ∙ ap (λ n. gathered ++ take n bytes) count ∙ sym (gathered_with 10002 gathered bytes c.requires.short)
