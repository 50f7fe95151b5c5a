use Rattle.std.proofs.Common.{◌<◌, ℕ, false, length, ap, subst, sym, ◌∙◌}
use Rattle.std.specs.List.{All}
use Rattle.std.proofs.lemmas.List.{length-replicate}
use Rattle.cat_model.specs.RowSets.{with_rows}
use Rattle.cat_segment.proofs.number_ranges.set_of_rows.Goals as goal

pub insert_all-requires : goal.insert_all-requires
insert_all-requires c =
    subst (λ (n : ℕ). All (λ row. row < n) c.args.rows.now) (sym (ap length c.in_ok-set.ensures.ok ∙ length-replicate c.args.len false))
    c.requires.within

pub returns : goal.returns
returns c = record { ok = c.insert_all.ensures ∙ ap (with_rows c.args.rows.now) c.in_ok-set.ensures.ok }
