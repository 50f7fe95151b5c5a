use Rattle.std.proofs.Common.{◌∙◌, ◌<◌, length, ap, arith}
use Rattle.cat_views.specs.Rows.{first_in}
use Rattle.cat_views.proofs.RowSearch.{first-at}
use Rattle.cat_views.proofs.view.Leaf.first_number.Goals as goal

pub returns-clause-number : goal.returns-clause-number
returns-clause-number c =
    let same = c.deref-2.ensures ∙ ap (λ l. l.segment) c.self.view_is in
    let some : 0 < length c.deref-2.result.now.rows = omega (arith, c.len.ensures.rows.some, ap (λ s. length s.rows) c.deref.ensures, ap (λ s. length s.rows) c.deref-2.ensures) in
    first-at c.deref-2.result.now.rows c.write_number.result some c.write_number.ensures ∙ ap (λ s. first_in s.rows) same
