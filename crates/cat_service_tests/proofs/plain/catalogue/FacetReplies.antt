-- What a FACETS is answered.
use Rattle.std.proofs.Common.{◌≡◌, ℕ, Bool, true, false, cond, ltb, refl, sym, ap, ◌∙◌, inl, inr}
use Rattle.std.specs.Prelude.{Result, Ok, Err}
use Rattle.cat_base.specs.declared.refusal.Refusal.{Refusal}
use Rattle.cat_base.specs.declared.refusal.Refusal.TheVariants.{Memory, NotHeld, Query as NoQuery}
use Rattle.cat_model.specs.Text.{Text}
use Rattle.cat_model.specs.Item.{kind_of}
use Rattle.cat_model.specs.Answer.{Read, Found, answer, is_facet_kind}
use Rattle.cat_model.specs.Facets.{Facets, facets_in}
use Rattle.cat_model.specs.Faults.{Fault}
use Rattle.cat_model.specs.Grammar.{Spells}
use Rattle.cat_model.specs.Heard.{IsQueryOf}
use Rattle.cat_model.specs.Limits.{page_limit}
use Rattle.cat_model.specs.Query.{Query}
use Rattle.cat_model.specs.Run as run
use Rattle.cat_model.specs.Run.{found_reply}
use Rattle.cat_model.specs.State.{has_hold, table_under}
use Rattle.cat_service_tests.specs.plain.Exchange.{DoesFacets}
use Rattle.cat_service_tests.specs.plain.Plain.{PlainService}
use Rattle.cat_service_tests.proofs.plain.catalogue.Finds.{either_way}

module _ (w : PlainService) (s t : ℕ) (dim : Text) (n : ℕ) (text : Text) where
  -- the text is no query
  pub facets_fault : (place : ℕ) → Fault w.schema text place → DoesFacets w s t dim n text (Err (NoQuery place))
  facets_fault place fault = (Err (NoQuery place), IsQueryOf.faulty place fault, inl (sym (either_way (has_hold w.state.holds s t) (NoQuery place)), refl))

  module _ (q : Query) (spells : Spells w.schema text q) where
    abbrev due : Result Found Refusal
    due = answer w.schema (table_under w.state.views t) (Read.facets dim n (Ok q))

    abbrev reply : Bool → Result Found Refusal → run.Reply
    reply held found = cond held (found_reply found) (Err NotHeld)

    -- the token is not held
    pub facets_unheld : has_hold w.state.holds s t ≡ false → DoesFacets w s t dim n text (Err NotHeld)
    facets_unheld free = (Ok q, IsQueryOf.spelled q spells, inl (rw free refl, refl))

    module _ (held : has_hold w.state.holds s t ≡ true) where
      -- the field or the count is refused
      pub facets_refused : (e : Refusal) → due ≡ Err e → DoesFacets w s t dim n text (Err e)
      facets_refused e is = (Ok q, IsQueryOf.spelled q spells, inl (sym (ap (λ b. reply b due) held ∙ ap found_reply is), refl))

      module _ (facet : is_facet_kind (kind_of w.schema dim) ≡ true) (few : ltb page_limit n ≡ false) where
        counts_due : due ≡ Ok (Found.facets (facets_in (table_under w.state.views t) q dim n))
        counts_due = rw (facet, few) refl

        -- counts are due, and told
        pub facets_told_so : (f : Facets) → f ≡ facets_in (table_under w.state.views t) q dim n → DoesFacets w s t dim n text (Ok (run.Answer.found (Found.facets f)))
        facets_told_so f is =
            (Ok q, IsQueryOf.spelled q spells, inl (sym (ap (λ b. reply b due) held ∙ ap found_reply counts_due ∙ ap (λ f. Ok (run.Answer.found (Found.facets f))) (sym is)), refl))

        -- counts are due, and memory is wanting
        pub facets_want : DoesFacets w s t dim n text (Err Memory)
        facets_want = (
          Ok q,
          IsQueryOf.spelled q spells,
          inr (refl, (refl, (run.Answer.found (Found.facets (facets_in (table_under w.state.views t) q dim n)), w.state, (sym (ap (λ b. reply b due) held ∙ ap found_reply counts_due), refl))), refl),
        )
