use Rattle.std.proofs.Common.{◌∙◌, rules}
use Rattle.std.proofs.lemmas.Fn.{always_returns_same}
use Rattle.cat_model.specs.Page.{before}
use Rattle.cat_search.specs.Sorts.{sort_of}
use Rattle.cat_service_tests.proofs.plain.catalogue.Pages.{first_in_order, weak}
use Rattle.cat_service_tests.proofs.plain.finding.keep_first.Goals as goal

pub returns : goal.returns
returns c =
    let s = sort_of c.args.sort in
    c.truncate.ensures.items
    ∙ first_in_order s c.args.hits.now.items c.sort_by.new.self.items c.args.count c.requires
    (c.in_ok-sort_by.ensures.sorted (before s) (weak s) (always_returns_same _ _ _ (λ a r f' k. search rules)))
    (c.sort_by.ensures.stable (before s) (weak s) (always_returns_same _ _ _ (λ a r f' k. search rules)))
