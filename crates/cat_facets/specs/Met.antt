-- The labels that are met, as they rank.
use Rattle.std.specs.Prelude.{ℕ, zero, suc, ◌+◌, Bool, List, [], ◌∷◌, ◌++◌, length, map}
use Rattle.cat_model.specs.Facets.{Counted, Facets}
use Rattle.cat_model.specs.Ordinals.{text_at}
use Rattle.cat_model.specs.Page.{first_ranked}
use Rattle.cat_model.specs.Text.{Text}
use Rattle.cat_search.specs.BestItems.{less}
use Rattle.cat_facets.specs.contracts.first.RankedOrd.TheImpl as by_count
use Rattle.cat_facets.specs.declared.first.Ranked.{Ranked}

-- the order of labels, which is derived
abbrev pub label_comes_first : Ranked → Ranked → Bool
label_comes_first = less by_count.ghosts.cmp

-- the label of the ordinal, where its count isn't 0
abbrev pub one_met : ℕ → ℕ → List Ranked
one_met ordinal zero = []
one_met ordinal (suc n) = record { count = record { 0 = suc n }; ordinal = ordinal } ∷ []

-- those of the counts, of which the first is of this ordinal
abbrev pub met_from : ℕ → List ℕ → List Ranked
met_from ordinal [] = []
met_from ordinal (total ∷ totals) = one_met ordinal total ++ met_from (ordinal + 1) totals

-- the label of the dictionary with its count
abbrev pub label_told : List Text → Ranked → Counted
label_told dictionary r = record { count = r.count.0; label = text_at dictionary r.ordinal }

-- what is told of the counts: so many hits have a label, and the first n counts
abbrev pub facets_by : List Text → ℕ → List ℕ → ℕ → Facets
facets_by dictionary labelled totals n = record {
  matching = labelled;
  met = length (met_from 0 totals);
  counts = map (label_told dictionary) (first_ranked label_comes_first (met_from 0 totals) n);
}
