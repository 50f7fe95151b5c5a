use Rattle.std.proofs.Common.{◌≡◌, take}
use Rattle.std.specs.List.{flat_map}
use Rattle.cat_search.specs.cat_query.View.{query_of}
use Rattle.cat_facets.specs.States.{AreKnown}
use Rattle.cat_facets.specs.Tallies.{hit_labels, labelled_count, AreCounts}
use Rattle.cat_facets.proofs.totals.add_all_hits.Given as goal

abbrev pub invariant-loop-index : goal.invariant-loop-index
invariant-loop-index l = record {
  known : AreKnown l.dimension l.labels l.prepared.view.leaves l.known;
  labelled : l.labelled ≡ labelled_count (flat_map (hit_labels (query_of l.prepared.query) l.dimension) (take l.index l.prepared.view.leaves));
  counts : AreCounts l.labels (flat_map (hit_labels (query_of l.prepared.query) l.dimension) (take l.index l.prepared.view.leaves)) l.totals;
}
