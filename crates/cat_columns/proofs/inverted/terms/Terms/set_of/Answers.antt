use Rattle.std.proofs.Common.{ℕ, ◌<◌, false, length, replicate, ap, ◌∙◌, subst, sym}
use Rattle.std.proofs.lemmas.List.{length-replicate}
use Rattle.std.specs.Prelude.{All}
use Rattle.cat_model.specs.RowSets.{with_rows}
use Rattle.cat_columns.proofs.inverted.Rows.{with_rows_of_none}
use Rattle.cat_columns.proofs.inverted.terms.Terms.set_of.Goals as goal

pub returns : goal.returns
returns c = record {
  ok = (c.insert_all.ensures ∙ ap (with_rows c.args.rows.now) (c.in_ok-set.ensures.ok ∙ ap (λ (n : ℕ). replicate n false) c.len.ensures.value)
      ∙ with_rows_of_none c.args.rows.now (length c.args.self.now));
}

pub none-requires : goal.none-requires
none-requires c = subst (λ (n : ℕ). n < 4294967296) (sym c.len.ensures.value) c.len.ensures.bound

pub insert_all-requires : goal.insert_all-requires
insert_all-requires c =
    let long = ap length c.in_ok-set.ensures.ok ∙ length-replicate c.len.result false ∙ c.len.ensures.value in
    subst (λ (n : ℕ). All (λ r. r < n) c.args.rows.now) (sym long) c.requires
