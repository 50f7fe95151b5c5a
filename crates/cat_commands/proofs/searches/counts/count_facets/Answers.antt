use Rattle.std.proofs.Common.{◌≡◌, ◌∙◌, All, ap, inl, option_map, refl, sym}
use Rattle.std.specs.Prelude.{Err, Ok}
use Rattle.cat_model.specs.Answer.{Found, Read}
use Rattle.cat_model.specs.Grammar.{Spells}
use Rattle.cat_cached_sets.specs.cat_query.View.{query_of}
use Rattle.cat_model.specs.View.{segments_of}
use Rattle.cat_cached_sets.specs.filters.Known.{Knows}
use Rattle.cat_protocol.specs.cat_facets.Kept.{KnowsIn, RemembersOf, RemembersOfBelow}
use Rattle.cat_commands.specs.searches.Uses.{NotesSpelled, UsesSpelled}
use Rattle.cat_commands.proofs.searches.Cached.{by_any, by_held, of_held, to_held, unchanged}
use Rattle.cat_commands.specs.searches.Reads.{GivesDue}
use Rattle.cat_model.specs.Query as model
use Rattle.cat_ledger.proofs.Results.{passed_on}
use Rattle.cat_commands.proofs.searches.Told.{due_passed, facets_is, fault_told, found_told, memory_told, refusal_told, unheld_told}
use Rattle.cat_commands.proofs.searches.counts.count_facets.Goals as goal

pub returns-in_err-query-clause-told : goal.returns-in_err-query-clause-told
returns-in_err-query-clause-told c =
    rw (passed_on c.from_residual.result c.in_err-query.field-0.0 c.from_residual.ensures)
    (fault_told c.args.schema.now c.args.text.now (Read.facets c.args.dimension.now c.args.count) (facets_is c.args.dimension.now c.args.count)
    (option_map (λ v. v.now) c.args.held) c.in_err-query.field-0.0 c.in_err-query.ensures.err)

pub returns-in_default-clause-told : goal.returns-in_default-clause-told
returns-in_default-clause-told c =
    let q = c.in_ok-query.ensures.spelled in
    unheld_told c.args.schema.now c.args.text.now (Read.facets c.args.dimension.now c.args.count) (facets_is c.args.dimension.now c.args.count)
    q.0 q.1 (option_map (λ v. v.now) c.args.held) (ap (option_map (λ v. v.now)) c.in_default.is)

pub returns-in_err-of-clause-told : goal.returns-in_err-of-clause-told
returns-in_err-of-clause-told c =
    let q = c.in_ok-query.ensures.spelled in
    rw (passed_on c.from_residual-in_err-of.result c.in_err-of.field-0.0 c.from_residual-in_err-of.ensures)
    (found_told c.args.schema.now c.args.text.now (Read.facets c.args.dimension.now c.args.count) (facets_is c.args.dimension.now c.args.count)
    q.0 q.1 (option_map (λ v. v.now) c.args.held) c.in-Some.view.now
    (ap (option_map (λ v. v.now)) c.in-Some.is) (Err c.in_err-of.field-0.0) (c.in_err-of.ensures.err q.0))

pub returns-in_default-query-clause-told : goal.returns-in_default-query-clause-told
returns-in_default-query-clause-told c =
    let q = c.in_ok-query.ensures.spelled in
    memory_told c.args.schema.now c.args.text.now (Read.facets c.args.dimension.now c.args.count) (facets_is c.args.dimension.now c.args.count)
    q.0 q.1 (option_map (λ v. v.now) c.args.held)

pub returns-in_err-facets-clause-told : goal.returns-in_err-facets-clause-told
returns-in_err-facets-clause-told c =
    let spelled : Spells c.args.schema.now c.args.text.now (query_of c.in-Some-query.query) = rw c.in-Some-query.is at c.in_ok-query.ensures.ok in
    rw (passed_on c.from_residual-in_err-facets.result c.in_err-facets.field-0.0 c.from_residual-in_err-facets.ensures)
    (refusal_told c.args.schema.now c.args.text.now (Read.facets c.args.dimension.now c.args.count) (facets_is c.args.dimension.now c.args.count)
    (query_of c.in-Some-query.query) spelled (option_map (λ v. v.now) c.args.held) c.in-Some.view.now
    (ap (option_map (λ v. v.now)) c.in-Some.is) c.in_err-facets.field-0.0 c.in_err-facets.ensures.err)

pub returns-clause-told : goal.returns-clause-told
returns-clause-told c =
    let spelled : Spells c.args.schema.now c.args.text.now (query_of c.in-Some-query.query) = rw c.in-Some-query.is at c.in_ok-query.ensures.ok in
    found_told c.args.schema.now c.args.text.now (Read.facets c.args.dimension.now c.args.count) (facets_is c.args.dimension.now c.args.count)
    (query_of c.in-Some-query.query) spelled (option_map (λ v. v.now) c.args.held) c.in-Some.view.now
    (ap (option_map (λ v. v.now)) c.in-Some.is) (Ok (Found.facets c.in_ok-facets.facets)) c.in_ok-facets.ensures.ok

pub counts_of-requires-clause-cached : goal.counts_of-requires-clause-cached
counts_of-requires-clause-cached c =
    of_held (λ v. All (Knows c.args.filters.now) (segments_of v.now.leaves)) c.args.held c.in-Some.view c.in-Some.is c.requires.cached

pub counts_of-requires-clause-kept : goal.counts_of-requires-clause-kept
counts_of-requires-clause-kept c =
    of_held (λ v. All (KnowsIn c.args.states.now) (segments_of v.now.leaves)) c.args.held c.in-Some.view c.in-Some.is c.requires.kept

pub returns-in_err-query-clause-kept : goal.returns-in_err-query-clause-kept
returns-in_err-query-clause-kept c =
    by_any (c.args.states.now ≡ c.args.states.now) (λ v. RemembersOf (segments_of v.now.leaves) c.args.states.now c.args.states.now) c.args.held refl (λ h s agrees known. known)

pub returns-in_err-query-clause-kept_below : goal.returns-in_err-query-clause-kept_below
returns-in_err-query-clause-kept_below c =
    by_any (c.args.states.now ≡ c.args.states.now) (λ v. RemembersOfBelow (segments_of v.now.leaves) c.args.states.now c.args.states.now) c.args.held refl (λ h n agrees known. known)

pub returns-in_default-clause-kept : goal.returns-in_default-clause-kept
returns-in_default-clause-kept c =
    by_any (c.args.states.now ≡ c.args.states.now) (λ v. RemembersOf (segments_of v.now.leaves) c.args.states.now c.args.states.now) c.args.held refl (λ h s agrees known. known)

pub returns-in_default-clause-kept_below : goal.returns-in_default-clause-kept_below
returns-in_default-clause-kept_below c =
    by_any (c.args.states.now ≡ c.args.states.now) (λ v. RemembersOfBelow (segments_of v.now.leaves) c.args.states.now c.args.states.now) c.args.held refl (λ h n agrees known. known)

pub returns-in_err-of-clause-kept : goal.returns-in_err-of-clause-kept
returns-in_err-of-clause-kept c =
    by_any (c.args.states.now ≡ c.args.states.now) (λ v. RemembersOf (segments_of v.now.leaves) c.args.states.now c.args.states.now) c.args.held refl (λ h s agrees known. known)

pub returns-in_err-of-clause-kept_below : goal.returns-in_err-of-clause-kept_below
returns-in_err-of-clause-kept_below c =
    by_any (c.args.states.now ≡ c.args.states.now) (λ v. RemembersOfBelow (segments_of v.now.leaves) c.args.states.now c.args.states.now) c.args.held refl (λ h n agrees known. known)

pub returns-in_default-query-clause-kept : goal.returns-in_default-query-clause-kept
returns-in_default-query-clause-kept c =
    by_any (c.args.states.now ≡ c.args.states.now) (λ v. RemembersOf (segments_of v.now.leaves) c.args.states.now c.args.states.now) c.args.held refl (λ h s agrees known. known)

pub returns-in_default-query-clause-kept_below : goal.returns-in_default-query-clause-kept_below
returns-in_default-query-clause-kept_below c =
    by_any (c.args.states.now ≡ c.args.states.now) (λ v. RemembersOfBelow (segments_of v.now.leaves) c.args.states.now c.args.states.now) c.args.held refl (λ h n agrees known. known)

pub returns-in_err-facets-clause-kept : goal.returns-in_err-facets-clause-kept
returns-in_err-facets-clause-kept c =
    by_held (c.counts_of.new.states ≡ c.args.states.now) (λ v. RemembersOf (segments_of v.now.leaves) c.args.states.now c.counts_of.new.states) c.args.held c.in-Some.view c.in-Some.is
    c.counts_of.ensures.kept

pub returns-in_err-facets-clause-kept_below : goal.returns-in_err-facets-clause-kept_below
returns-in_err-facets-clause-kept_below c =
    by_held (c.counts_of.new.states ≡ c.args.states.now) (λ v. RemembersOfBelow (segments_of v.now.leaves) c.args.states.now c.counts_of.new.states) c.args.held c.in-Some.view c.in-Some.is
    c.counts_of.ensures.kept_below

pub returns-clause-kept : goal.returns-clause-kept
returns-clause-kept c =
    by_held (c.counts_of.new.states ≡ c.args.states.now) (λ v. RemembersOf (segments_of v.now.leaves) c.args.states.now c.counts_of.new.states) c.args.held c.in-Some.view c.in-Some.is
    c.counts_of.ensures.kept

pub returns-clause-kept_below : goal.returns-clause-kept_below
returns-clause-kept_below c =
    by_held (c.counts_of.new.states ≡ c.args.states.now) (λ v. RemembersOfBelow (segments_of v.now.leaves) c.args.states.now c.counts_of.new.states) c.args.held c.in-Some.view c.in-Some.is
    c.counts_of.ensures.kept_below

pub returns-in_err-query-clause-used : goal.returns-in_err-query-clause-used
returns-in_err-query-clause-used c =
    rw (passed_on c.from_residual.result c.in_err-query.field-0.0 c.from_residual.ensures)
    (unchanged (λ v. v.now) c.args.schema.now c.args.text.now c.args.filters.now c.args.held)

pub returns-in_default-clause-used : goal.returns-in_default-clause-used
returns-in_default-clause-used c = unchanged (λ v. v.now) c.args.schema.now c.args.text.now c.args.filters.now c.args.held

pub returns-in_err-of-clause-used : goal.returns-in_err-of-clause-used
returns-in_err-of-clause-used c =
    rw (passed_on c.from_residual-in_err-of.result c.in_err-of.field-0.0 c.from_residual-in_err-of.ensures)
    (unchanged (λ v. v.now) c.args.schema.now c.args.text.now c.args.filters.now c.args.held)

pub returns-in_default-query-clause-used : goal.returns-in_default-query-clause-used
returns-in_default-query-clause-used c = unchanged (λ v. v.now) c.args.schema.now c.args.text.now c.args.filters.now c.args.held

pub returns-in_err-facets-clause-used : goal.returns-in_err-facets-clause-used
returns-in_err-facets-clause-used c =
    let q = query_of c.in-Some-query.query in
    let old = c.args.filters.now in
    let new = c.counts_of.new.filters in
    let spelled : Spells c.args.schema.now c.args.text.now q = rw c.in-Some-query.is at c.in_ok-query.ensures.ok in
    rw (passed_on c.from_residual-in_err-facets.result c.in_err-facets.field-0.0 c.from_residual-in_err-facets.ensures)
    (by_held (new ≡ old) (λ v. UsesSpelled c.args.schema.now c.args.text.now v.now old new) c.args.held c.in-Some.view c.in-Some.is
    (inl (q, spelled, c.in_err-facets.ensures.used)))

pub returns-clause-noted : goal.returns-clause-noted
returns-clause-noted c =
    let q = query_of c.in-Some-query.query in
    let old = c.args.filters.now in
    let new = c.counts_of.new.filters in
    let spelled : Spells c.args.schema.now c.args.text.now q = rw c.in-Some-query.is at c.in_ok-query.ensures.ok in
    to_held (λ v. NotesSpelled c.args.schema.now c.args.text.now v.now old new) c.args.held c.in-Some.view c.in-Some.is
    (q, spelled, c.in_ok-facets.ensures.noted)

pub returns-in_err-facets-clause-due : goal.returns-in_err-facets-clause-due
returns-in_err-facets-clause-due c =
    let given = c.from_residual-in_err-facets.result in
    let e = c.in_err-facets.field-0.0 in
    to_held (λ v. (q : model.Query) → Spells c.args.schema.now c.args.text.now q → GivesDue v.now (Read.facets c.args.dimension.now c.args.count (Ok q)) given) c.args.held c.in-Some.view c.in-Some.is
    (λ q spelled. due_passed c.in-Some.view.now (Read.facets c.args.dimension.now c.args.count (Ok q)) e (Err e) given refl (passed_on given e c.from_residual-in_err-facets.ensures) (c.in_err-facets.ensures.due q))

pub returns-in_err-query-clause-unheld : goal.returns-in_err-query-clause-unheld
returns-in_err-query-clause-unheld c = λ unheld sound. absurd (sound c.in_err-query.ensures.err.0 c.in_err-query.ensures.err.2)

pub returns-in_err-of-clause-unheld : goal.returns-in_err-of-clause-unheld
returns-in_err-of-clause-unheld c = λ none sound. let no = sym c.in-Some.is ∙ none in cc

pub returns-in_default-query-clause-unheld : goal.returns-in_default-query-clause-unheld
returns-in_default-query-clause-unheld c = λ none sound. let no = sym c.in-Some.is ∙ none in cc

pub returns-in_err-facets-clause-unheld : goal.returns-in_err-facets-clause-unheld
returns-in_err-facets-clause-unheld c = λ none sound. let no = sym c.in-Some.is ∙ none in cc

pub returns-clause-unheld : goal.returns-clause-unheld
returns-clause-unheld c = λ none sound. let no = sym c.in-Some.is ∙ none in cc

pub returns-in_err-query-clause-known : goal.returns-in_err-query-clause-known
returns-in_err-query-clause-known c = λ s knows. knows

pub returns-in_err-query-clause-below : goal.returns-in_err-query-clause-below
returns-in_err-query-clause-below c = λ s knows. knows

pub returns-in_default-clause-known : goal.returns-in_default-clause-known
returns-in_default-clause-known c = λ s knows. knows

pub returns-in_default-clause-below : goal.returns-in_default-clause-below
returns-in_default-clause-below c = λ s knows. knows

pub returns-in_err-of-clause-known : goal.returns-in_err-of-clause-known
returns-in_err-of-clause-known c = λ s knows. knows

pub returns-in_err-of-clause-below : goal.returns-in_err-of-clause-below
returns-in_err-of-clause-below c = λ s knows. knows

pub returns-in_default-query-clause-known : goal.returns-in_default-query-clause-known
returns-in_default-query-clause-known c = λ s knows. knows

pub returns-in_default-query-clause-below : goal.returns-in_default-query-clause-below
returns-in_default-query-clause-below c = λ s knows. knows

pub returns-in_err-facets-clause-known : goal.returns-in_err-facets-clause-known
returns-in_err-facets-clause-known c = c.in_err-facets.ensures.known

pub returns-clause-known : goal.returns-clause-known
returns-clause-known c = c.in_ok-facets.ensures.known

pub returns-in_err-facets-clause-below : goal.returns-in_err-facets-clause-below
returns-in_err-facets-clause-below c = c.in_err-facets.ensures.below

pub returns-clause-below : goal.returns-clause-below
returns-clause-below c = c.in_ok-facets.ensures.below
