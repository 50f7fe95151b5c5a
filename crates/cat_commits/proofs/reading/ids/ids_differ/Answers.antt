use Rattle.std.proofs.Common.{ℕ, List, Bool, map, refl, ◌∙◌, ap, subst, IfOk}
use Rattle.std.specs.Prelude.{◌↔◌, ◌≢◌, IsTrue, AllPairs}
use Rattle.std.specs.Borrow.{Bor}
use Rattle.cat_model.specs.Text.{Text}
use Rattle.cat_views.specs.cat_segment.Filter.{id_hash}
use Rattle.cat_commits.specs.reading.Judged.{live_ids, Differ}
use Rattle.cat_commits.proofs.reading.Hashes.{mapped_differ}
use Rattle.cat_commits.proofs.reading.ids.ids_differ.Goals as goal

pub returns-then-hashes_differ : goal.returns-then-hashes_differ
returns-then-hashes_differ c =
    let apart : AllPairs (λ (a b : ℕ). a ≢ b) c.in_ok-hashes_in.field-0.items = c.hashes_differ.ensures.0 c.if-hashes_differ.true in
    (λ _. mapped_differ id_hash (live_ids c.args.leaves.now) (subst (AllPairs (λ (a b : ℕ). a ≢ b)) c.in_ok-hashes_in.ensures apart), λ _. refl)

pub returns : goal.returns
returns c =
    subst (λ (ids : List Text). IfOk c.differ.result (λ (differ : Bool). IsTrue differ ↔ Differ ids)) (ap (map (λ (t : Bor Text). t.now)) c.deref.ensures.value ∙ c.in_ok-ids.ensures) c.differ.ensures
