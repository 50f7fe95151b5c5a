use Rattle.std.proofs.Common.{◌≡◌, ◌∙◌, ℕ, List, Option, ap, sym, subst}
use Rattle.std.specs.Prelude.{Result, option_map}
use Rattle.cat_base.specs.declared.refusal.Refusal.{Refusal}
use Rattle.cat_model.specs.Answer.{Read}
use Rattle.cat_model.specs.Heard.{IsQueryOf}
use Rattle.cat_model.specs.Item.{Schema}
use Rattle.cat_model.specs.Query.{Query}
use Rattle.cat_model.specs.View.{View, segments_of}
use Rattle.cat_threads.specs.cat_commands.cat_cached_sets.cat_views.Holds.{HeldView}
use Rattle.cat_threads.specs.cat_commands.cat_cached_sets.filters.Known.{Knows}
use Rattle.cat_threads.specs.cat_commands.cat_protocol.replies.Reply.{reply_of}
use Rattle.cat_threads.specs.cat_commands.searches.Reads.{MayTell}
use Rattle.cat_threads.specs.service.Passes.{Seen}
use Rattle.cat_callers.specs.Sessions.{AreRightsTo, Kept}
use Rattle.cat_callers.specs.Told.{ToldQuery}
use Rattle.cat_callers.proofs.Counted.{all_of, counts_after, for_some, known_after, known_before}
use Rattle.cat_callers.proofs.Telling.{option_map_twice, query_told}
use Rattle.cat_threads.specs.cat_commands.cat_lifetimes.rights.Rights.{right_of}
use Rattle.cat_callers.proofs.front.Front.count_facets.Goals as goal

pub returns-in_default-clause-told : goal.returns-in_default-clause-told
returns-in_default-clause-told g c = λ v own a. ToldQuery.stopped

pub returns-in_default-take_states-clause-told : goal.returns-in_default-take_states-clause-told
returns-in_default-take_states-clause-told g c = λ v own a. ToldQuery.stopped

-- the view is the one that the session has a right to
abbrev shown : (session t : ℕ) (rights : List HeldView) (held : Option View) → Type 0
shown session t rights held = held ≡ option_map (λ h. h.view) (right_of rights session t)

is_shown : {R S : Type 0} (session t : ℕ) (rights : List HeldView) (right : Option R) (value : R → HeldView) (held : Option S) (view : S → View)
    → option_map view held ≡ option_map (λ r. (value r).view) right → option_map value right ≡ right_of rights session t
    → shown session t rights (option_map view held)
is_shown session t rights right value held view e is = e ∙ sym (option_map_twice value (λ h. h.view) right) ∙ ap (option_map (λ h. h.view)) is

pub count_facets-answer-requires-clause-cached : goal.count_facets-answer-requires-clause-cached
count_facets-answer-requires-clause-cached g c =
    for_some c.view_of-held.result _ (λ v. all_of (Knows c.in-Ok.filters) c.in-Ok.ensures.known (segments_of v.now.leaves))

pub invariant_of-holdings-2 : goal.invariant_of-holdings-2
invariant_of-holdings-2 g c =
    let session = c.holdings.inside.number in
    let t = c.args.facets.token in
    let rights = c.holdings.inside.rights in
    let held = c.view_of-held.result in
    let old = c.in-Ok-take_states.states in
    let new = c.count_facets-answer.new.states in
    let is = is_shown session t rights c.get-right.result (λ h. h.now) held (λ v. v.now) c.view_of-held.ensures.view c.get-right.ensures in
    let before = known_before (λ v. v.now) held rights session t c.holdings.inside.states old is c.holdings.invariant.counts c.in-Ok-take_states.ensures.known in
    record {
      sets = λ s. c.count_facets-answer.ensures.known s (c.in-Ok.ensures.known s);
      counts = counts_after (λ v. v.now) held (right_of rights session t) is new
          (known_after (λ v. v.now) held old new c.view_of-held.ensures.differ before c.count_facets-answer.ensures.kept);
    }

pub returns-clause-told : goal.returns-clause-told
returns-clause-told g c =
    let from = g.J.Naming.from in
    let facets = c.args.facets in
    let text = facets.query.now in
    let rights = c.holdings.inside.rights in
    let r = reply_of c.count_facets-answer.result in
    let asked = Read.facets facets.dimension.now facets.count in
    let view = option_map (λ v. v.now) c.view_of-held.result in
    let told =
    subst (λ (s : Schema). (q : Result Query Refusal) × IsQueryOf s text q × MayTell view (asked q) r) c.args.self.now.fields
    c.count_facets-answer.ensures.told in
    let is = is_shown c.holdings.inside.number facets.token rights c.get-right.result (λ h. h.now) c.view_of-held.result (λ v. v.now) c.view_of-held.ensures.view c.get-right.ensures in
    subst (λ (k : Kept). (v : Seen) → v.session ≡ k.session → AreRightsTo from v k.rights → ToldQuery from v k.rights facets.token text asked r)
    c.holdings.view_is
    (λ v own a. query_told from v rights facets.token text asked r c.holdings.inside.number view is own a told)
