-- The answers to FACETS over whatever records a view shows.
use Rattle.std.proofs.Common.{◌≡◌, ℕ, ◌≤◌, cond, List, length, map, nat_lt, Ok, Err, sym, ap, ◌∙◌}
use Rattle.std.specs.List.{flat_map}
use Rattle.std.proofs.lemmas.Bool.{le-ltb}
use Rattle.std.specs.Prelude.{All}
use Rattle.cat_base.specs.Texts.{IsTextSet}
use Rattle.cat_base.specs.declared.refusal.Refusal.TheVariants.{Count, NotFacet}
use Rattle.cat_model.specs.Answer.{Found}
use Rattle.cat_model.specs.Facets.{Counted, Facets, facets_in, facets_of}
use Rattle.cat_model.specs.Item.{Record}
use Rattle.cat_model.specs.Limits.{page_limit}
use Rattle.cat_model.specs.Page.{first_ranked, hits}
use Rattle.cat_model.specs.Text.{Text}
use Rattle.cat_model.specs.View.{View, Shows}
use Rattle.cat_search.specs.cat_query.declared.query.Query.{Query}
use Rattle.cat_search.specs.cat_query.View.{query_of}
use Rattle.cat_facets.specs.declared.first.Ranked.{Ranked}
use Rattle.cat_facets.specs.Met.{label_comes_first, met_from, label_told}
use Rattle.cat_model.specs.GlobalOrdinals.{view_dictionary}
use Rattle.cat_facets.specs.States.{HasLabels, IsDimensionOf, facets_answer_over}
use Rattle.cat_facets.specs.Tallies.{has_label, hit_labels, labelled_count, AreCounts}
use Rattle.cat_facets.proofs.Bridge.{view_labels}
use Rattle.cat_facets.proofs.Leaves.{hits_heard}
use Rattle.cat_facets.proofs.Told.{facets_are}

-- counts are due
pub found : (view : View) (dimension : Text) (q : Query) (n : ℕ) (rs : List Record) (f : Facets) → IsDimensionOf view dimension → n ≤ page_limit
    → f ≡ facets_of (hits rs (query_of q)) dimension n → facets_answer_over view dimension q n rs ≡ Ok (Found.facets f)
found view dimension q n rs f facet few is =
    ap (λ b. cond b (cond (nat_lt page_limit n) (Err Count) (Ok (Found.facets (facets_in rs (query_of q) dimension n)))) (Err NotFacet)) facet
    ∙ ap (λ b. cond b (Err Count) (Ok (Found.facets (facets_in rs (query_of q) dimension n)))) (le-ltb page_limit n few) ∙ ap (λ g. Ok (Found.facets g)) (sym is)

-- the counts over the leaves of a view are those over the hits among the records that it shows
pub counted_facets : (view : View) (q : Query) (dimension : Text) (n labelled met : ℕ) (labels : List Text) (totals : List ℕ) (ranked : List Ranked) (counts : List Counted) (rs : List Record)
    → Shows view rs → IsTextSet labels → All (HasLabels dimension) view.leaves → labels ≡ view_dictionary dimension view
    → AreCounts labels (flat_map (hit_labels (query_of q) dimension) view.leaves) totals → labelled ≡ labelled_count (flat_map (hit_labels (query_of q) dimension) view.leaves)
    → met ≡ length (met_from 0 totals) → ranked ≡ first_ranked label_comes_first (met_from 0 totals) n → counts ≡ map (label_told labels) ranked
    → ◌≡◌ {A = Facets} (record { matching = labelled; met = met; counts = counts }) (facets_of (hits rs (query_of q)) dimension n)
counted_facets view q dimension n labelled met labels totals ranked counts rs shown set texts whole are l m r c =
    let rows = flat_map (hit_labels (query_of q) dimension) view.leaves in
    facets_are labels rows dimension (hits rs (query_of q)) set (view_labels view (query_of q) dimension rs shown)
    (λ t h. ap (has_label t) whole ∙ hits_heard (query_of q) dimension view t texts h)
    totals n labelled met ranked counts are l m r c
