use Rattle.std.proofs.Common.{◌≡◌, ℕ, ◌∙◌, List, IfOk, ap, map, not, sym, subst}
use Rattle.std.specs.List.{filter, flat_map}
use Rattle.cat_directory.specs.Names.{name_of}
use Rattle.cat_model.specs.State.{Hold}
use Rattle.cat_model.specs.View.{View, needs}
use Rattle.cat_lifetimes.specs.records.Counts.{KeepsFrom, is_kept_from, views_of}
use Rattle.cat_lifetimes.specs.records.Records.{Records, stays_in}
use Rattle.cat_lifetimes.specs.declared.records.recorded.Recorded.{Recorded}
use Rattle.cat_lifetimes.proofs.records.Shown.{dropped_is, shown}
use Rattle.cat_lifetimes.proofs.records.records.Records.files_dropped.Goals as goal

pub returns : goal.returns
returns c =
    let rs : List Recorded = c.self.inside.recorded.items in
    let hs : List Hold = c.self.inside.holds.keys in
    let t : ℕ = c.kept_from.result in
    let keeps : KeepsFrom (shown rs hs) c.args.count t = subst (λ (r : Records). KeepsFrom r c.args.count t) (sym c.self.view_is) c.kept_from.ensures.keeps in
    let dropped : views_of (filter (λ r. not (is_kept_from t r)) c.deref.result.now) ≡ filter (λ v. not (stays_in c.args.self.now c.args.count v)) c.args.self.now.views = ap (λ (l : List Recorded). views_of (filter (λ r. not (is_kept_from t r)) l)) c.deref.ensures.value
    ∙ dropped_is rs hs c.args.count t c.self.invariant.0.counted keeps ∙ ap (λ (r : Records). filter (λ v. not (stays_in r c.args.count v)) r.views) c.self.view_is in
    subst (λ (vs : List View). IfOk c.files_below.result (λ names. map name_of names.items ≡ flat_map needs vs)) dropped c.files_below.ensures.ok
