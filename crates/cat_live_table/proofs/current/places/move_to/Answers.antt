use Rattle.std.proofs.Common.{rules, Some, sym, ap}
use Rattle.std.specs.HashMap.{get_by_text}
use Rattle.std.proofs.lemmas.Map.Text.{hash_map_updates_text}
use Rattle.cat_live_table.specs.current.Places.{PlacedId}
use Rattle.cat_live_table.proofs.current.Moved.{written_over}
use Rattle.cat_live_table.proofs.current.places.move_to.Goals as goal

pub returns-in-Some : goal.returns-in-Some
returns-in-Some c = λ q.
    let k : PlacedId = record { id = c.args.id.now; place = c.args.place } in
    let old = c.args.places.now in
    let new = c.get_mut.follows.lender c.args.place in
    let writes = hash_map_updates_text c.args.id.now old new (Some c.args.place) ((c.get_mut.follows.holds c.args.place).3 (search rules)) q in
    written_over k q (get_by_text old q) (get_by_text new q) (get_by_text old c.args.id.now) c.in-Some.noted.now (sym c.in-Some.ensures.value) (λ e. ap (get_by_text old) (sym e)) writes
