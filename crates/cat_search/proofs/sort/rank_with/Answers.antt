use Rattle.std.proofs.Common.{◌∙◌, sym, ap, option_map}
use Rattle.cat_search.specs.Keys.{key_ref_of}
use Rattle.cat_search.specs.Pages.{rank_with}
use Rattle.cat_search.specs.declared.sort.Order.TheVariants.{Falling}
use Rattle.cat_search.proofs.sort.rank_with.Goals as goal

pub returns-in-Falling-Some : goal.returns-in-Falling-Some
returns-in-Falling-Some c =
    let at = c.in-Falling-Some in
    sym (ap (λ o. rank_with o (option_map key_ref_of c.args.key)) at.is-0 ∙ ap (λ k. rank_with (Falling at.field-0-0) (option_map key_ref_of k)) at.is-1)
