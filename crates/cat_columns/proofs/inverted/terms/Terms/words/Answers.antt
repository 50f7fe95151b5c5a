use Rattle.std.proofs.Common.{◌∙◌, ap, length, arith}
use Rattle.cat_model.specs.Ordinals.{dictionary_of}
use Rattle.cat_columns.proofs.inverted.Parts.{few_pieces}
use Rattle.cat_columns.proofs.inverted.Rows.{words_are}
use Rattle.cat_columns.proofs.inverted.terms.Terms.words.Goals as goal

pub returns-clause-value : goal.returns-clause-value
returns-clause-value c =
    let t = c.self.inside in
    c.as_slice.ensures.value ∙ words_are t.len t.words t.ends.items t.rows.items c.self.invariant ∙ ap dictionary_of c.self.view_is

pub returns-clause-few : goal.returns-clause-few
returns-clause-few c =
    let t = c.self.inside in
    let h = c.self.invariant in
    let whole = words_are t.len t.words t.ends.items t.rows.items h ∙ ap dictionary_of c.self.view_is in
    omega (arith, few_pieces 0 t.ends.items t.rows.items h.ended (λ k d lt. (h.posted k d lt).0), h.fits, h.paired, ap length whole)
