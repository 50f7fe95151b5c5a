use Rattle.std.proofs.Common.{◌≡◌, ◌+◌, ◌≤◌, ◌<◌, ◌^◌, ◌∙◌, [], false, not, map, get_or, sym, ap, subst, arith}
use Rattle.std.specs.Prelude.{◌==◌}
use Rattle.std.specs.List.{list_any}
use Rattle.cat_directory.specs.Names.{name_of}
use Rattle.cat_model.specs.View.{needs}
use Rattle.cat_ledger_laws.specs.model.Users.{users_of, times}
use Rattle.cat_ledger_laws.specs.shape.Shapes.{view_now}
use Rattle.cat_ledger_laws.proofs.shape.Views.{records_keep, shapes_are_views}
use Rattle.cat_lifetimes.specs.records.Records.{stays_by}
use Rattle.cat_ledger_state.specs.Cores.{shape_of_core}
use Rattle.cat_ledger_state.proofs.Viewing.{below_now, gone_fit, record_is, view_fits}
use Rattle.cat_ledger_state.proofs.Known.{comes_used, known_stays}
use Rattle.cat_ledger_state.proofs.state.Core.record_view.Goals as goal

pub move_users-requires-clause-fit : goal.move_users-requires-clause-fit
move_users-requires-clause-fit c =
    let names = ap (map name_of) c.deref.ensures.value ∙ c.in_ok-taken.ensures.ok ∙ ap needs (c.in_ok-view.ensures ∙ ap view_now (sym c.self.view_is)) in
    λ q. subst (λ taken. users_of c.self.inside.refs q + times q taken < 2 ^ 64) (sym names)
    (view_fits (shape_of_core c.self.inside) c.len.result c.self.invariant.shape c.len.ensures.len c.len.ensures.few q)

pub move_users-requires-clause-had : goal.move_users-requires-clause-had
move_users-requires-clause-had c =
    let names = ap (map name_of) c.deref-2.ensures.value ∙ c.in_ok-given.ensures in
    λ q. subst (λ given. times q given ≤ users_of c.self.inside.refs q) (sym names)
    (gone_fit (shape_of_core c.self.inside) (λ v. not (stays_by c.self.inside.records v)) c.self.invariant.shape q)

pub record-requires-clause-newest : goal.record-requires-clause-newest
record-requires-clause-newest c =
    let none = subst (λ s. list_any (λ v. v.token == s.count) s.views ≡ false) (sym c.self.view_is) c.requires.fresh in
    let token = ap (λ v. v.token) (c.in_ok-view.ensures ∙ ap view_now (sym c.self.view_is)) in
    λ k d lt. subst (λ t. (get_or c.self.inside.records.views k d).token < t) (sym token)
    (below_now c.self.inside.records.views c.self.inside.count (shapes_are_views (shape_of_core c.self.inside) c.self.invariant.shape).2 none k d lt)

pub invariant_of-self-2 : goal.invariant_of-self-2
invariant_of-self-2 c =
    let none = subst (λ s. list_any (λ v. v.token == s.count) s.views ≡ false) (sym c.self.view_is) c.requires.fresh in
    let flushed = subst (λ s. s.buffered ≡ []) (sym c.self.view_is) c.requires.flushed in
    let gone = ap (map name_of) c.deref-2.ensures.value ∙ c.in_ok-given.ensures in
    let recorded = record_is (shape_of_core c.self.inside) c.in_ok-view.view c.record.new.self c.move_users.new.refs (map name_of c.deref.result.now)
    (map name_of c.deref-2.result.now) (c.in_ok-view.ensures ∙ ap view_now (sym c.self.view_is)) c.record.ensures (ap (map name_of) c.deref.ensures.value ∙ c.in_ok-taken.ensures.ok)
    gone c.in_ok-move_users.ensures.ok in
    let kept = records_keep (shape_of_core c.self.inside) _ flushed none recorded c.self.invariant.shape in
    let same_segment : c.self.inside.next_segment ≤ c.self.inside.next_segment = omega arith in
    let same_generation : c.self.inside.next_generation ≤ c.self.inside.next_generation = omega arith in
    let new = record (shape_of_core c.self.inside) { views = c.record.new.self.views; holds = c.record.new.self.holds; users = c.move_users.new.refs } in
    record {
      shape = kept;
      waits = c.self.invariant.waits;
      few = c.self.invariant.few;
      merges = c.self.invariant.merges;
      known = known_stays c.self.inside.refs c.self.inside.next_segment c.self.inside.next_generation new kept same_segment same_generation
          (comes_used _ _ _ _ c.in_ok-move_users.ensures.ok
          (λ q. subst (λ given. times q given ≤ users_of c.self.inside.refs q) (sym gone) (gone_fit (shape_of_core c.self.inside) (λ v. not (stays_by c.self.inside.records v)) c.self.invariant.shape q))) c.self.invariant.known;
    }
