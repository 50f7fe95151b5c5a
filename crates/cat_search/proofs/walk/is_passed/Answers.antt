use Rattle.std.proofs.Common.{◌≡◌, Bool, true, false, not, ltb, length, ap, sym, ◌∙◌, arith}
use Rattle.std.proofs.lemmas.Bool.{le-ltb, lt-ltb}
use Rattle.std.specs.Prelude.{◌&&◌}
use Rattle.cat_search.specs.Candidates.{mark_standing}
use Rattle.cat_search.specs.Pages.{beyond}
use Rattle.cat_search.specs.Walks.{standing_at}
use Rattle.cat_search.proofs.walk.is_passed.Goals as goal

pub at-requires : goal.at-requires
at-requires c = omega arith

pub returns-then-row-len : goal.returns-then-row-len
returns-then-row-len c =
    let standings = c.args.ranks.now in
    let mark = mark_standing c.args.mark.now in
    let within : ltb c.args.row (length standings) ≡ true = lt-ltb c.args.row (length standings) (omega arith) in
    ap (λ (b : Bool). not b) (c.is_beyond.ensures ∙ ap (beyond mark) (c.at.ensures _)) ∙ sym (ap (λ (b : Bool). b && not (beyond mark (standing_at standings c.args.row))) within)

pub returns-else-row-len : goal.returns-else-row-len
returns-else-row-len c =
    let standings = c.args.ranks.now in
    let past : ltb c.args.row (length standings) ≡ false = le-ltb c.args.row (length standings) (omega arith) in
    ap (ltb c.args.row) c.len.ensures ∙ past ∙ sym (ap (λ (b : Bool). b && not (beyond (mark_standing c.args.mark.now) (standing_at standings c.args.row))) past)
