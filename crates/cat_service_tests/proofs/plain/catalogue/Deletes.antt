-- What a DELW is answered.
use Rattle.std.proofs.Common.{◌≡◌, ℕ, ◌+◌, Bool, true, false, cond, ltb, refl, inl, inr}
use Rattle.std.specs.Prelude.{Ok, Err}
use Rattle.cat_base.specs.declared.refusal.Refusal.TheVariants.{Memory, Spent, Query as NoQuery}
use Rattle.cat_model.specs.Text.{Text}
use Rattle.cat_model.specs.Faults.{Fault}
use Rattle.cat_model.specs.Grammar.{Spells}
use Rattle.cat_model.specs.Heard.{IsQueryOf}
use Rattle.cat_model.specs.Limits.{last_number}
use Rattle.cat_model.specs.Query.{Query}
use Rattle.cat_model.specs.Run.{Answer}
use Rattle.cat_model.specs.State.{written}
use Rattle.cat_model.specs.Write.{Write}
use Rattle.cat_service_tests.specs.plain.Exchange.{DoesDeleteWhere}
use Rattle.cat_service_tests.specs.plain.Plain.{PlainService}

module _ (w : PlainService) (s : ℕ) (text : Text) where
  -- the text is no query
  pub delete_fault : (place : ℕ) → Fault w.schema text place → DoesDeleteWhere w s text (Err (NoQuery place)) w.state
  delete_fault place fault = (Err (NoQuery place), IsQueryOf.faulty place fault, inl (refl, refl))

  module _ (q : Query) (spells : Spells w.schema text q) where
    -- the write takes the next number
    pub delete_told : ltb w.state.count last_number ≡ true → DoesDeleteWhere w s text (Ok (Answer.number (w.state.count + 1))) (written w.state (Write.delete_where q))
    delete_told low = (Ok q, IsQueryOf.spelled q spells, inl (rw low refl, rw low refl))

    -- no number is left
    pub delete_spent : ltb w.state.count last_number ≡ false → DoesDeleteWhere w s text (Err Spent) w.state
    delete_spent none = (Ok q, IsQueryOf.spelled q spells, inl (rw none refl, rw none refl))

    -- memory is wanting for the query
    pub delete_want : DoesDeleteWhere w s text (Err (cond (ltb w.state.count last_number) Memory Spent)) w.state
    delete_want = by (ltb w.state.count last_number) refl
      where
        by : (b : Bool) → ltb w.state.count last_number ≡ b → DoesDeleteWhere w s text (Err (cond b Memory Spent)) w.state
        by true low =
            (Ok q, IsQueryOf.spelled q spells, inr (refl, (refl, (Answer.number (w.state.count + 1), written w.state (Write.delete_where q), (rw low refl, rw low refl))), refl))
        by false none = delete_spent none
