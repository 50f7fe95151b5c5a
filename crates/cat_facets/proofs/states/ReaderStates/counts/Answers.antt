use Rattle.std.proofs.Common.{◌≡◌, ◌∙◌, ℕ, ◌≤◌, List, [], ◌∷◌, ◌++◌, inr, sym, ap, subst}
use Rattle.std.specs.Prelude.{Result, Ok, Err, IfOk, OnOk, OnErr}
use Rattle.cat_model.specs.Answer.{Found}
use Rattle.cat_model.specs.Facets.{Facets, facets_of}
use Rattle.cat_model.specs.Item.{Record}
use Rattle.cat_model.specs.Limits.{page_limit}
use Rattle.cat_model.specs.Page.{hits}
use Rattle.cat_model.specs.Text.{Text}
use Rattle.cat_model.specs.View.{Shows, View, segments_of}
use Rattle.cat_search.specs.cat_query.declared.query.Query.{Query}
use Rattle.cat_search.specs.cat_query.View.{query_of}
use Rattle.cat_facets.specs.Kept.{last_kept, segment_numbers, others, state_used_in, RemembersOf, RemembersOfBelow}
use Rattle.cat_facets.specs.States.{IsDimensionOf, IsFacetsAnswer, ReaderState, WantedCounts}
use Rattle.cat_facets.proofs.Answered.{found}
use Rattle.cat_facets.proofs.Kept.{used_below, used_remembers}
use Rattle.cat_facets.proofs.states.ReaderStates.counts.Goals as goal

-- the state that was taken, and then kept, was used
used : (view seen : View) (dimension named : Text) (k : ReaderState) (old rest new : List ReaderState) → seen ≡ view → named ≡ dimension
    → k ≡ record { segments = segments_of seen.leaves; dimension = named } → rest ≡ others (segment_numbers (segments_of seen.leaves)) named old
    → new ≡ last_kept (rest ++ k ∷ []) → new ≡ state_used_in (record { segments = segments_of view.leaves; dimension = dimension }) old
used view seen dimension named k old rest new same name is taken kept =
    kept
    ∙ ap (λ (ks : List ReaderState). last_kept (ks ++ k ∷ [])) taken
    ∙ ap (λ (j : ReaderState). last_kept (others (segment_numbers (segments_of seen.leaves)) named old ++ j ∷ [])) is
    ∙ ap (λ (v : View). state_used_in (record { segments = segments_of v.leaves; dimension = named }) old) same
    ∙ ap (λ (d : Text). state_used_in (record { segments = segments_of view.leaves; dimension = d }) old) name

-- the counts of the state are the answer to what was wanted
answered : {E : Type 0} (view : View) (q : Query) (w : WantedCounts) (m : ℕ) (dimension : Text) (r : Result Facets E)
    → w.view ≡ view → IsDimensionOf w.view w.dimension → m ≡ w.count → w.count ≤ page_limit → dimension ≡ w.dimension
    → IfOk r (λ f. (rs : List Record) → Shows view rs → f ≡ facets_of (hits rs (query_of q)) dimension m)
    → IfOk r (λ f. IsFacetsAnswer view w.dimension q w.count (Ok (Found.facets f)))
answered view q w m dimension (Err e) same facet count few named counted = tt
answered view q w m dimension (Ok f) same facet count few named counted = λ rs shown.
    found view w.dimension q w.count rs f (subst (λ (v : View). IsDimensionOf v w.dimension) same facet) few
    (counted rs shown ∙ ap (λ d. facets_of (hits rs (query_of q)) d m) named ∙ ap (facets_of (hits rs (query_of q)) w.dimension) count)

on_ok : {A E P : Type 0} (r : Result A E) → P → OnOk r P
on_ok (Ok x) p = p
on_ok (Err e) p = tt

on_err : {A E P : Type 0} (r : Result A E) → P → OnErr r P
on_err (Ok x) p = tt
on_err (Err e) p = p

pub take-requires-clause-facet : goal.take-requires-clause-facet
take-requires-clause-facet c =
    subst (λ (v : View). IsDimensionOf v c.dimension.result.now) (c.requires.judged ∙ sym c.view.ensures)
    (subst (IsDimensionOf c.args.wanted.now.view) (sym c.dimension.ensures.value) c.dimension.ensures.facet)

pub returns-clause-ok : goal.returns-clause-ok
returns-clause-ok c =
    answered c.args.prepared.now.view c.args.prepared.now.query c.args.wanted.now c.count.result _ c.counts-facets.result c.requires.judged c.dimension.ensures.facet c.count.ensures.value
    c.count.ensures.few (ap (λ (k : ReaderState). k.dimension) (c.kept.view_is ∙ c.in_ok-kept.ensures.ok) ∙ c.dimension.ensures.value) c.counts-facets.ensures.ok

pub returns-clause-used : goal.returns-clause-used
returns-clause-used c =
    on_ok c.counts-facets.result
    (used c.args.prepared.now.view c.view.result.now c.args.wanted.now.dimension c.dimension.result.now c.counts-facets.new.self c.args.self.now c.take.new.self c.keep.new.self
    c.view.ensures c.dimension.ensures.value (c.counts-facets.ensures.same ∙ c.kept.view_is ∙ c.in_ok-kept.ensures.ok) c.in_ok-kept.ensures.others c.keep.ensures)

pub returns-clause-left : goal.returns-clause-left
returns-clause-left c =
    on_err c.counts-facets.result
    (inr (used c.args.prepared.now.view c.view.result.now c.args.wanted.now.dimension c.dimension.result.now c.counts-facets.new.self c.args.self.now c.take.new.self c.keep.new.self
    c.view.ensures c.dimension.ensures.value (c.counts-facets.ensures.same ∙ c.kept.view_is ∙ c.in_ok-kept.ensures.ok) c.in_ok-kept.ensures.others c.keep.ensures))

pub returns-clause-known : goal.returns-clause-known
returns-clause-known c =
    let view = c.args.prepared.now.view in
    subst (RemembersOf (segments_of view.leaves) c.args.self.now)
    (sym (used c.args.prepared.now.view c.view.result.now c.args.wanted.now.dimension c.dimension.result.now c.counts-facets.new.self c.args.self.now c.take.new.self c.keep.new.self
    c.view.ensures c.dimension.ensures.value (c.counts-facets.ensures.same ∙ c.kept.view_is ∙ c.in_ok-kept.ensures.ok) c.in_ok-kept.ensures.others c.keep.ensures))
    (used_remembers (segments_of view.leaves) c.args.wanted.now.dimension c.args.self.now)

pub returns-clause-below : goal.returns-clause-below
returns-clause-below c =
    let view = c.args.prepared.now.view in
    subst (RemembersOfBelow (segments_of view.leaves) c.args.self.now)
    (sym (used c.args.prepared.now.view c.view.result.now c.args.wanted.now.dimension c.dimension.result.now c.counts-facets.new.self c.args.self.now c.take.new.self c.keep.new.self
    c.view.ensures c.dimension.ensures.value (c.counts-facets.ensures.same ∙ c.kept.view_is ∙ c.in_ok-kept.ensures.ok) c.in_ok-kept.ensures.others c.keep.ensures))
    (used_below (segments_of view.leaves) c.args.wanted.now.dimension c.args.self.now)
