use Rattle.std.proofs.Common.{ℕ, ◌∙◌, ap, option_map}
use Rattle.std.specs.Ordering.{is_lt, nat_cmp, ordering_then}
use Rattle.cat_model.specs.Page.{comes_before, key}
use Rattle.cat_search.specs.Sorts.{sort_of}
use Rattle.cat_service_tests.specs.plain.Pages.{key_order, key_ref_of}
use Rattle.cat_service_tests.proofs.plain.catalogue.Pages.{placed}
use Rattle.cat_service_tests.proofs.plain.finding.compare.Goals as goal

pub returns : goal.returns
returns c =
    let s = sort_of c.args.sort in
    let by = c.compare_last-by_key.result in
    ap is_lt (c.compare_ties.ensures ∙ ap (λ (n : ℕ). ordering_then by (nat_cmp n c.number-2.result)) c.number.ensures ∙ ap (λ (n : ℕ). ordering_then by (nat_cmp c.args.a.now.number n)) c.number-2.ensures)
    ∙ placed s c.args.a.now c.args.b.now by
    (λ tie. c.compare_last-by_key.ensures tie ∙ ap (λ k. comes_before (key_order s) k (option_map key_ref_of c.key_of-2.result) tie) c.key_of.ensures
    ∙ ap (λ k. comes_before (key_order s) (key s c.args.a.now) k tie) c.key_of-2.ensures)
