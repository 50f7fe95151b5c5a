use Rattle.std.proofs.Common.{◌≡◌, ◌∙◌, List, get_or, sym, ap}
use Rattle.std.specs.List.{position}
use Rattle.cat_search.proofs.Fields.{found_at, found_none}
use Rattle.cat_facets.specs.Kept.{is_kept_as}
use Rattle.cat_facets.specs.States.{ReaderState}
use Rattle.cat_facets.proofs.states.ReaderStates.take_out.Goals as goal

pub returns-in_err-place-clause-found : goal.returns-in_err-place-clause-found
returns-in_err-place-clause-found c =
    let test = is_kept_as c.args.numbers.now c.args.dimension.now in
    let same : c.deref.result.now ≡ c.args.self.now = c.deref.ensures.value ∙ c.self.view_is in
    rw c.from_residual.ensures (sym (found_none test c.args.self.now (ap (position test) (sym same) ∙ sym c.in_err-place.ensures)))

pub returns-clause-found : goal.returns-clause-found
returns-clause-found c =
    let test = is_kept_as c.args.numbers.now c.args.dimension.now in
    let same : c.deref.result.now ≡ c.args.self.now = c.deref.ensures.value ∙ c.self.view_is in
    let place = c.in_ok-place.place in
    sym (found_at test c.args.self.now place c.remove.result (ap (position test) (sym same) ∙ sym c.in_ok-place.ensures)
    (c.remove.ensures.value ∙ ap (λ (ks : List ReaderState). get_or ks place c.remove.result) c.self.view_is))
