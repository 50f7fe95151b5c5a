use Rattle.std.proofs.Common.{◌≡◌, ◌+◌, ◌++◌, ◌∷◌, [], length, take, sum, sym, ap, ◌∙◌, arith}
use Rattle.std.proofs.lemmas.List.{take_all}
use Rattle.cat_segment.proofs.Ends.{length-lengths_between, text_more}
use Rattle.cat_segment.specs.Sources.{lengths_between, Rise}
use Rattle.cat_segment.proofs.sources.Sources.push.Goals as goal

pub offset-start-requires : goal.offset-start-requires
offset-start-requires c =
    let ends = c.self.inside.ends.items in
    omega (arith, ap length c.self.view_is, length-lengths_between 0 ends, c.len.ensures, c.self.inside.ends.ok.0)

one_more : (c : goal.In_ok-push) → (let ends = c.self.inside.ends.items in let longer = ends ++ (c.offset-start.result + c.args.len) ∷ [] in Rise 0 longer × (lengths_between 0 longer ≡ lengths_between 0 ends ++ c.args.len ∷ []))
one_more c =
    let ends = c.self.inside.ends.items in
    let all : take c.len.result c.args.self.now ≡ lengths_between 0 ends = ap (take c.len.result) (sym c.self.view_is) ∙ take_all c.len.result (lengths_between 0 ends) (omega (arith, length-lengths_between 0 ends, c.len.ensures, c.self.inside.ends.ok.0)) in
    text_more 0 ends c.args.len (c.offset-start.result + c.args.len) c.self.invariant (omega (arith, c.offset-start.ensures, ap sum all))

pub invariant_of-self-2 : goal.invariant_of-self-2
invariant_of-self-2 c = rw c.in_ok-push.ensures.items ((one_more c).0)

pub returns-clause-ok : goal.returns-clause-ok
returns-clause-ok c = rw (c.in_ok-push.ensures.items, ← c.self.view_is) ((one_more c).1)
