-- What a read for items is told, from what its calls say.
use Rattle.std.proofs.Common.{◌≡◌, ◌∙◌, ℕ, List, ap, inl, inr, refl, subst, sym}
use Rattle.std.specs.Prelude.{◌≢◌, ◌⊎◌, Option, None, Some, Result, Ok, Err, IfErr}
use Rattle.cat_base.specs.declared.refusal.Refusal.{Refusal}
use Rattle.cat_base.specs.declared.refusal.Refusal.TheVariants.{Memory, NotHeld, Query as NoQuery}
use Rattle.cat_model.specs.Answer.{Found, Read, answer, query_refusal}
use Rattle.cat_model.specs.Faults.{Fault}
use Rattle.cat_model.specs.Grammar.{Spells}
use Rattle.cat_model.specs.Heard.{IsQueryOf}
use Rattle.cat_model.specs.Item.{Record, Schema}
use Rattle.cat_model.specs.Page.{Sort}
use Rattle.cat_model.specs.Query.{Query}
use Rattle.cat_model.specs.Run.{Reply, found_reply, or_not_held}
use Rattle.cat_model.specs.Text.{Text}
use Rattle.cat_model.specs.View.{View}
use Rattle.cat_ledger_laws.specs.lines.ReadLaws.{ReadFinds}
use Rattle.cat_commands.specs.searches.Reads.{GivesDue, MayTell}
use Rattle.cat_commands.proofs.ledger.Answered.{err_is}

-- whether it is want of memory
is_memory : (e : Refusal) → (e ≡ Memory) ⊎ (e ≢ Memory)
is_memory Memory = inl refl
is_memory _ = inr (λ h. cc h)

-- a read by a query, which is refused with the fault of its text, and only then before the view is looked at
pub record IsByQuery (asked : Result Query Refusal → Read) : Type 0 where
  pub sound : (q : Query) → query_refusal (asked (Ok q)) ≡ None
  pub faulty : (e : Refusal) → query_refusal (asked (Err e)) ≡ Some e
  pub answered : (schema : Schema) (rs : List Record) (e : Refusal) → answer schema rs (asked (Err e)) ≡ Err e

pub find_is : (count : ℕ) (sort : Sort) (after : Option ℕ) → IsByQuery (Read.find count sort after)
find_is count sort after = record { sound = λ q. refl; faulty = λ e. refl; answered = λ schema rs e. refl }

pub facets_is : (dimension : Text) (count : ℕ) → IsByQuery (Read.facets dimension count)
facets_is dimension count = record { sound = λ q. refl; faulty = λ e. refl; answered = λ schema rs e. refl }

module _ (schema : Schema) (text : Text) (asked : Result Query Refusal → Read) (is : IsByQuery asked) where
  -- the reply may be told to the read of the query that the text spells, or of its fault
  abbrev pub Told : Option View → Reply → Type 0
  Told held r = (q : Result Query Refusal) × IsQueryOf schema text q × MayTell held (asked q) r

  -- of a text that has a fault
  pub fault_told : (held : Option View) (e : Refusal) → ((place : ℕ) × (e ≡ NoQuery place) × Fault schema text place) → Told held (Err e)
  fault_told held e fault =
      (Err (NoQuery fault.0), IsQueryOf.faulty fault.0 fault.2, subst (λ f. MayTell held (asked (Err (NoQuery fault.0))) (Err f)) (sym fault.1) (by held))
    where
      by : (o : Option View) → MayTell o (asked (Err (NoQuery fault.0))) (Err (NoQuery fault.0))
      by None = inl (ap or_not_held (sym (is.faulty (NoQuery fault.0))))
      by (Some view) = inl (Err (NoQuery fault.0), λ rs shown. is.answered view.schema rs (NoQuery fault.0), refl)

  module _ (q : Query) (spelled : Spells schema text q) where
    -- where none is held
    pub unheld_told : (held : Option View) → held ≡ None → Told held (Err NotHeld)
    unheld_told held none =
        (Ok q, IsQueryOf.spelled q spelled, subst (λ o. MayTell o (asked (Ok q)) (Err NotHeld)) (sym none) (inl (ap or_not_held (sym (is.sound q)))))

    -- where memory is wanted
    pub memory_told : (held : Option View) → Told held (Err Memory)
    memory_told held = (Ok q, IsQueryOf.spelled q spelled, by held)
      where
        by : (o : Option View) → MayTell o (asked (Ok q)) (Err Memory)
        by None = inr refl
        by (Some view) = inr refl

    module _ (held : Option View) (view : View) (there : held ≡ Some view) where
      -- what is found
      pub found_told : (found : Result Found Refusal) → ReadFinds view (asked (Ok q)) found → Told held (found_reply found)
      found_told found finds =
          (Ok q, IsQueryOf.spelled q spelled, subst (λ o. MayTell o (asked (Ok q)) (found_reply found)) (sym there) (inl (found, finds, refl)))

      -- a refusal, which is found but where it is want of memory
      pub refusal_told : (e : Refusal) → (e ≢ Memory → ReadFinds view (asked (Ok q)) (Err e)) → Told held (Err e)
      refusal_told e finds = elim (is_memory e) [
        | inl memory ↦ subst (λ f. Told held (Err f)) (sym memory) (memory_told held)
        | inr other ↦ found_told (Err e) (finds other)
      ]

-- and if it was due, it is so of whoever passes it on
pub due_passed : {X Y : Type 0} (view : View) (asked : Read) (e : Refusal) (one : Result X Refusal) (other : Result Y Refusal) → one ≡ Err e → other ≡ Err e
    → GivesDue view asked one → GivesDue view asked other
due_passed view asked e one other is is' due rs shows = passed (answer view.schema rs asked) (due rs shows)
  where
    passed : (r : Result Found Refusal) → IfErr r (λ d. one ≡ Err d) → IfErr r (λ d. other ≡ Err d)
    passed (Ok found) u = tt
    passed (Err d) given = is' ∙ ap Err (err_is (sym is ∙ given))

-- a read that was judged to be due no refusal gives it, whatever it is told
pub due_done : {X Y : Type 0} (view : View) (asked : Read) (w : X) (given : Result Y Refusal) → GivesDue view asked (Ok w) → GivesDue view asked given
due_done view asked w given done rs shows = passed (answer view.schema rs asked) (done rs shows)
  where
    passed : (r : Result Found Refusal) → IfErr r (λ d. Ok w ≡ Err d) → IfErr r (λ d. given ≡ Err d)
    passed (Ok found) u = tt
    passed (Err d) other = cc
