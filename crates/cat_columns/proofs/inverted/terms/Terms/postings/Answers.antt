use Rattle.std.proofs.Common.{ℕ, List, take, drop, ap, ◌∙◌}
use Rattle.cat_model.specs.Ordinals.{postings_of}
use Rattle.cat_model.specs.Layout.{pieces}
use Rattle.cat_columns.proofs.inverted.Parts.{joined}
use Rattle.cat_columns.proofs.inverted.Searches.{postings_are, no_postings}
use Rattle.cat_columns.proofs.inverted.terms.Terms.postings.Goals as goal

pub returns-in-Some : goal.returns-in-Some
returns-in-Some c =
    let t = c.self.inside in
    let word = c.args.word.now in
    let o = c.in-Some.ordinal in
    c.parts.ensures
    ∙ ap (λ (ends : List ℕ). joined (take 1 (drop o (pieces 0 ends c.deref-in-Some.result.now)))) c.deref.ensures.value
    ∙ ap (λ (rows : List ℕ). joined (take 1 (drop o (pieces 0 t.ends.items rows)))) c.deref-in-Some.ensures.value
    ∙ postings_are t.len t.words t.ends.items t.rows.items c.self.invariant word o c.in-Some.ensures.0 c.in-Some.ensures.1
    ∙ ap (postings_of word) c.self.view_is

pub returns-in-None : goal.returns-in-None
returns-in-None c =
    let t = c.self.inside in
    no_postings t.len t.words t.ends.items t.rows.items c.self.invariant c.args.word.now c.in-None.ensures ∙ ap (postings_of c.args.word.now) c.self.view_is
