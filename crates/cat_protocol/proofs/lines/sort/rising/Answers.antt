use Rattle.std.proofs.Common.{◌∷◌, refl, sym, ◌∙◌}
use Rattle.cat_protocol.proofs.lines.WordsSplit.{formed_or_none, formed_some, unformed_rising}
use Rattle.cat_protocol.proofs.lines.sort.rising.Goals as goal

pub returns-clause-found : goal.returns-clause-found
returns-clause-found c =
    formed_some _ c.then_some.result c.has_name_form.result _ c.then_some.ensures (λ formed. (sym c.has_name_form.ensures ∙ formed, refl))

pub returns-clause-none : goal.returns-clause-none
returns-clause-none c =
    formed_or_none _ c.then_some.result c.has_name_form.result _ c.then_some.ensures (λ no. unformed_rising (43 ∷ c.args.name.now) c.args.name.now refl (sym c.has_name_form.ensures ∙ no))
