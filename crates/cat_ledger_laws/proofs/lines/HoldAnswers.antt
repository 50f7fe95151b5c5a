-- Replies to OPEN and CLOSE.
use Rattle.std.proofs.Common.{◌≡◌, ℕ, List, Bool, true, false, refl, sym, ◌∙◌, ap, inl}
use Rattle.std.specs.Prelude.{◌==◌, Err}
use Rattle.std.specs.List.{list_any}
use Rattle.cat_model.specs.cat_base.declared.refusal.Refusal.TheVariants.{Gone, NotHeld}
use Rattle.cat_model.specs.Run.{Command, Reply, greatest}
use Rattle.cat_model.specs.State.{Hold, has_hold, with_hold, without_hold}
use Rattle.cat_model.specs.View.{View}
use Rattle.cat_ledger_laws.specs.model.Calls.{tokens_in, has_recorded}
use Rattle.cat_ledger_laws.specs.model.Ledger.{Ledger, state_of}
use Rattle.cat_ledger_laws.specs.model.Stored.{FileBytes, AreStored}
use Rattle.cat_ledger_laws.specs.shape.Shapes.{Shape, shape_of, recorded_view}
use Rattle.cat_ledger_laws.specs.shape.Steps.{tokens_of}
use Rattle.cat_ledger_laws.proofs.shape.Leaves.{any_map, map_twice}
use Rattle.cat_ledger_laws.specs.lines.LineLaws.{line_of, tells}
use Rattle.cat_ledger_laws.specs.lines.HoldLaws.{holding, letting_go, OpensNewestAnswer, OpensAnswer, GoneOpensAnswer, ClosesAnswer, UnheldClosesAnswer}
use Rattle.cat_ledger_laws.proofs.lines.LineAnswers.{answers_untouched, answers_still, given, denied}

-- other holds need no other file
still_stored : (l : Ledger) (hs : List Hold) (files : FileBytes) → AreStored files l → AreStored files (record l { holds = hs })
still_stored l hs files h = record { portions = h.portions; views = h.views; commits = h.commits; merging = h.merging }

pub recorded_as : (s : Shape) (l : Ledger) → shape_of l ≡ s → (t : ℕ) → has_recorded l.views t ≡ list_any (λ v. v.token == t) s.views
recorded_as s l e t = sym (any_map (recorded_view l.schema) (λ (v : View). v.token == t) l.views) ∙ ap (λ (s : Shape). list_any (λ v. v.token == t) s.views) e

tokens_as : (s : Shape) (l : Ledger) → shape_of l ≡ s → tokens_in l.views ≡ tokens_of s.views
tokens_as s l e = sym (map_twice (recorded_view l.schema) (λ (v : View). v.token) l.views) ∙ ap (λ (s : Shape). tokens_of s.views) e

pub held_as : (s : Shape) (l : Ledger) → shape_of l ≡ s → (session t : ℕ) (b : Bool) → has_hold s.holds session t ≡ b → has_hold l.holds session t ≡ b
held_as s l e session t b h = ap (λ (s : Shape). has_hold s.holds session t) e ∙ h

-- the ledger with the hold, and its shape
held_shape : (s : Shape) (l : Ledger) → shape_of l ≡ s → (session t : ℕ) → shape_of (record l { holds = (with_hold (state_of l) session t).holds }) ≡ holding session t s
held_shape s l e session t = ap (holding session t) e

pub opens_newest_answer : OpensNewestAnswer
opens_newest_answer policy told told' s new session t newest same untouched = answers_untouched policy told told' s new (line_of session Command.open_newest) (tells t) untouched (λ l e.
    let l' : Ledger = record l { holds = (with_hold (state_of l) session t).holds } in
    let is : t ≡ greatest (tokens_in l.views) = newest ∙ ap greatest (sym (tokens_as s l e)) in (
      l',
      held_shape s l e session t ∙ sym same,
      inl (ap tells is, ap (λ t. record l { holds = (with_hold (state_of l) session t).holds }) is),
      still_stored l l'.holds,
    ))

pub opens_answer : OpensAnswer
opens_answer policy told told' s new session t there same untouched = answers_untouched policy told told' s new (line_of session (Command.open_at t)) (tells t) untouched (λ l e.
    let l' : Ledger = record l { holds = (with_hold (state_of l) session t).holds } in (
      l',
      held_shape s l e session t ∙ sym same,
      inl (given ((tells t ≡ Err Gone) × (l' ≡ l)) (has_recorded l.views t) (recorded_as s l e t ∙ there) (refl, refl)),
      still_stored l l'.holds,
    ))

pub gone_opens_answer : GoneOpensAnswer
gone_opens_answer policy told told' s new session t gone still = answers_still policy told told' s new (line_of session (Command.open_at t)) (Err Gone) still (λ l e.
    inl (denied (◌≡◌ {A = Reply} (Err Gone) (tells t) × (l ≡ record l { holds = (with_hold (state_of l) session t).holds })) (has_recorded l.views t) (recorded_as s l e t ∙ gone) (refl, refl)))

pub closes_answer : ClosesAnswer
closes_answer policy told told' s new session t held same untouched = answers_untouched policy told told' s new (line_of session (Command.close t)) (tells t) untouched (λ l e.
    let l' : Ledger = record l { holds = (without_hold (state_of l) session t).holds } in (
      l',
      ap (letting_go session t) e ∙ sym same,
      inl (given ((tells t ≡ Err NotHeld) × (l' ≡ l)) (has_hold l.holds session t) (held_as s l e session t true held) (refl, refl)),
      still_stored l l'.holds,
    ))

pub unheld_closes_answer : UnheldClosesAnswer
unheld_closes_answer policy told told' s new session t unheld still = answers_still policy told told' s new (line_of session (Command.close t)) (Err NotHeld) still (λ l e.
    inl (denied (◌≡◌ {A = Reply} (Err NotHeld) (tells t) × (l ≡ record l { holds = (without_hold (state_of l) session t).holds })) (has_hold l.holds session t) (held_as s l e session t false unheld) (refl, refl)))
