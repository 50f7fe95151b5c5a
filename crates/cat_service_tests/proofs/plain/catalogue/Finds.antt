-- What a FIND is answered, from the page of its records.
use Rattle.std.proofs.Common.{◌≡◌, ℕ, Bool, true, false, cond, refl, sym, ap, ◌∙◌, inl, inr}
use Rattle.std.specs.Prelude.{Option, Some, None, Result, Ok, Err}
use Rattle.cat_base.specs.declared.refusal.Refusal.{Refusal}
use Rattle.cat_base.specs.declared.refusal.Refusal.TheVariants.{Memory, NotHeld, Query as NoQuery}
use Rattle.cat_model.specs.Text.{Text}
use Rattle.cat_model.specs.Item.{Schema}
use Rattle.cat_model.specs.Answer.{Read, Found, answer}
use Rattle.cat_model.specs.Faults.{Fault}
use Rattle.cat_model.specs.Grammar.{Spells}
use Rattle.cat_model.specs.Heard.{IsQueryOf}
use Rattle.cat_model.specs.Page.{Sort, Page}
use Rattle.cat_model.specs.Query.{Query}
use Rattle.cat_model.specs.Run as run
use Rattle.cat_model.specs.Run.{found_reply}
use Rattle.cat_model.specs.State.{has_hold, table_under}
use Rattle.cat_search.specs.cat_query.View.{query_of}
use Rattle.cat_query.specs.declared.query.Query as code
use Rattle.cat_search.specs.Sorts.{sort_of}
use Rattle.cat_service_tests.specs.plain.Exchange.{DoesFind, IsReadQuery, TellsFound, find_of, page_reply}
use Rattle.cat_service_tests.specs.plain.Plain.{PlainService}
use Rattle.cat_search.specs.declared.ask.Ask.{Ask}

-- ---- what is asked

-- what a line asks, asked of a page
pub asks_so : (ask : Ask) (n : ℕ) (sort : Sort) (mark : Option ℕ) (q : Result Query Refusal) → ask.count ≡ n → sort_of ask.sort ≡ sort → ask.after ≡ mark → find_of ask q ≡ Read.find n sort mark q
asks_so ask n sort mark q count by_sort after = λ i. Read.find (count i) (by_sort i) (after i) q

-- ---- the reply to a FIND of a session

pub some_query : (schema : Schema) (text : Text) (o : Option code.Query) → IsReadQuery schema text o → (q : Query) × Spells schema text q
some_query schema text (Some q) spells = (query_of q, spells)
some_query schema text None is = is

-- a text whose reading stops for want of memory is a query
pub judged_query : (schema : Schema) (text : Text) (judged : Result Query Refusal) → IsQueryOf schema text judged → {T : Type 0} (r : Result T Refusal)
    → ((place : ℕ) → Fault schema text place → r ≡ Err (NoQuery place)) → r ≡ Err Memory → (q : Query) × Spells schema text q
judged_query schema text judged (IsQueryOf.spelled q spells) r due memory = (q, spells)
judged_query schema text judged (IsQueryOf.faulty place fault) r due memory = absurd (let same = sym memory ∙ due place fault in cc)

pub either_way : (b : Bool) (e : Refusal) → cond {A = run.Reply} b (Err e) (Err e) ≡ Err e
either_way true e = refl
either_way false e = refl

module _ (w : PlainService) (s t : ℕ) (ask : Ask) (text : Text) where
  -- the text is no query
  pub does_fault : (place : ℕ) → Fault w.schema text place → DoesFind w s t ask text (Err (NoQuery place))
  does_fault place fault =
      (Err (NoQuery place), IsQueryOf.faulty place fault, inl (sym (either_way (has_hold w.state.holds s t) (NoQuery place)), refl))

  module _ (q : Query) (spells : Spells w.schema text q) where
    abbrev asked : Read
    asked = find_of ask (Ok q)

    abbrev due : Result Found Refusal
    due = answer w.schema (table_under w.state.views t) asked

    -- the token is not held
    pub does_unheld : has_hold w.state.holds s t ≡ false → DoesFind w s t ask text (Err NotHeld)
    does_unheld free = (Ok q, IsQueryOf.spelled q spells, inl (rw free refl, refl))

    abbrev reply : Bool → Result Found Refusal → run.Reply
    reply held found = cond held (found_reply found) (Err NotHeld)

    -- the token is held, and what is due over its table is told
    pub does_tell : has_hold w.state.holds s t ≡ true → (told : Result Page Refusal) → TellsFound due told → DoesFind w s t ask text (page_reply told)
    does_tell held (Ok p) is_due =
        (Ok q, IsQueryOf.spelled q spells, inl (sym (ap (λ b. reply b due) held ∙ ap found_reply is_due), refl))
    does_tell held (Err e) (inl is_due) =
        (Ok q, IsQueryOf.spelled q spells, inl (sym (ap (λ b. reply b due) held ∙ ap found_reply is_due), refl))
    does_tell held (Err e) (inr (memory, found, is_due)) =
        (Ok q, IsQueryOf.spelled q spells, inr (ap Err memory, (refl, (run.Answer.found found, w.state, (sym (ap (λ b. reply b due) held ∙ ap found_reply is_due), refl))), refl))
