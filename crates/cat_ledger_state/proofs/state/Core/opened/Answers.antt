use Rattle.std.proofs.Common.{◌∙◌, ◌≤◌, length, sym, ap, ap₂, subst, arith}
use Rattle.std.specs.Prelude.{All}
use Rattle.cat_model.specs.CommitFile.{commit_needs}
use Rattle.cat_model.specs.Limits.{segment_limit}
use Rattle.cat_ledger_laws.specs.model.Ledger.{IsPast}
use Rattle.cat_ledger_laws.specs.model.Opening.{Restored, IsRestored}
use Rattle.cat_ledger_laws.specs.shape.OpeningLaws.{IsCountedAt, MayHold, listed_with, opened_at}
use Rattle.cat_ledger_laws.specs.shape.Shapes.{IsShape}
use Rattle.cat_ledger_laws.proofs.shape.Opened.{opened_keep}
use Rattle.cat_ledger_state.proofs.Restoring.{restored_fits, counted_is, leaves_few, opened_is}
use Rattle.cat_ledger_state.proofs.Known.{known_stays}
use Rattle.cat_ledger_state.proofs.state.Core.opened.Goals as goal

pub count_users-requires : goal.count_users-requires
count_users-requires c =
    let restored : Restored = record { commit = c.restored.inside.commit; leaves = c.restored.inside.leaves.items } in
    let is = subst (IsRestored (MayHold c.requires.restored.0) c.args.schema c.requires.restored.1) (sym c.restored.view_is) c.requires.restored.2 in
    record {
      few = restored_fits (MayHold c.requires.restored.0) c.args.schema c.requires.restored.1 restored c.args.refs c.in_ok-view.view c.requires.unused is
          (ap (λ v. v.leaves) c.in_ok-view.ensures ∙ c.in_ok-current.ensures.ok);
    }

pub returns-clause-known : goal.returns-clause-known
returns-clause-known c = c.in_ok-count_users.ensures.known

pub returns-clause-counted : goal.returns-clause-counted
returns-clause-counted c =
    let restored : Restored = record { commit = c.restored.inside.commit; leaves = c.restored.inside.leaves.items } in
    let past = subst (λ (r : Restored). All (IsPast c.args.next_segment c.args.next_generation) (commit_needs r.commit)) (sym c.restored.view_is) c.requires.past in
    subst (λ (r : Restored). IsCountedAt c.args.schema r c.count_users.new.refs c.args.next_segment c.args.next_generation) c.restored.view_is
    (counted_is c.args.schema restored c.args.refs c.count_users.new.refs c.in_ok-view.view c.args.next_segment c.args.next_generation
    (ap (λ v. v.leaves) c.in_ok-view.ensures ∙ c.in_ok-current.ensures.ok) c.requires.unused c.in_ok-count_users.ensures.users past c.requires.some c.requires.left)

pub returns-clause-opened : goal.returns-clause-opened
returns-clause-opened c =
    let restored : Restored = record { commit = c.restored.inside.commit; leaves = c.restored.inside.leaves.items } in
    let segments = c.deref.ensures.value ∙ ap (λ x. x.segments) c.commit.view_is in
    opened_is c.args.schema restored c.count_users.new.refs c.args.next_segment c.args.next_generation c.commit.inside.token c.in_ok-current.current
    c.in_ok-buffer.buffer.records c.in_ok-view.view c.in_ok-records.records c.in_ok-commits.commits.items c.in_ok-listing.listing c.new-2.result
    c.in_ok-current.ensures.ok (ap (λ b. b.records) c.in_ok-buffer.ensures.ok) (ap (λ x. x.token) c.commit.view_is) c.in_ok-view.ensures c.in_ok-records.ensures.ok
    c.in_ok-commits.ensures (c.in_ok-listing.ensures ∙ ap₂ listed_with segments (c.leaves.ensures.value ∙ c.in_ok-current.ensures.ok)) c.new-2.ensures
    ∙ ap (λ (r : Restored). opened_at c.args.schema r c.count_users.new.refs c.args.next_segment c.args.next_generation) c.restored.view_is

pub invariant_of-result : goal.invariant_of-result
invariant_of-result c =
    let leaves = c.in_ok-current.ensures.ok ∙ ap (λ (r : Restored). r.leaves) c.restored.view_is in
    let kept = opened_keep c.requires.restored.0 c.args.schema c.requires.restored.1 c.args.restored c.count_users.new.refs c.args.next_segment c.args.next_generation
    c.requires.restored.2 (returns-clause-counted c) in
    let same_segment : c.args.next_segment ≤ c.args.next_segment = omega arith in
    let same_generation : c.args.next_generation ≤ c.args.next_generation = omega arith in
    record {
      shape = subst IsShape (sym (returns-clause-opened c)) kept;
      waits = ap (λ b. b.schema) c.in_ok-buffer.ensures.ok;
      few = subst (λ ls. length ls ≤ segment_limit) (sym leaves)
          (leaves_few (MayHold c.requires.restored.0) c.args.schema c.requires.restored.1 c.args.restored c.requires.restored.2);
      merges = tt;
      known = known_stays c.args.refs c.args.next_segment c.args.next_generation
          (opened_at c.args.schema c.args.restored c.count_users.new.refs c.args.next_segment c.args.next_generation) kept same_segment same_generation
          c.in_ok-count_users.ensures.used c.requires.known;
    }
