-- What is answered to a read, from what it may be told over the view that the session holds.
use Rattle.std.proofs.Common.{ℕ, refl, sym, subst, inl, inr}
use Rattle.std.specs.Prelude.{Option, None, Some, option_map, Result, Err}
use Rattle.cat_base.specs.declared.refusal.Refusal.{Refusal}
use Rattle.cat_base.specs.declared.refusal.Refusal.TheVariants.{Memory}
use Rattle.cat_model.specs.Answer.{Read}
use Rattle.cat_model.specs.Heard.{IsCommand, IsQueryOf}
use Rattle.cat_model.specs.Lines.{Said}
use Rattle.cat_model.specs.Page.{Sort}
use Rattle.cat_model.specs.Query.{Query}
use Rattle.cat_model.specs.Run.{Command, Reply}
use Rattle.cat_model.specs.Text.{Text}
use Rattle.cat_model.specs.View.{View}
use Rattle.cat_items.specs.Reading.{json}
use Rattle.cat_commands.specs.searches.Reads.{MayTell}
use Rattle.cat_ledger_laws.specs.model.Plans.{MergePolicy}
use Rattle.cat_ledger_laws.specs.shape.Shapes.{Shape}
use Rattle.cat_ledger_laws.specs.shape.Ties.{ToldFiles}
use Rattle.cat_ledger_laws.specs.lines.LineLaws.{line_of}
use Rattle.cat_ledger_laws.specs.lines.RunLaws.{AnswersCarried}
use Rattle.cat_ledger_laws.proofs.lines.LineAnswers.{memory_answers}
use Rattle.cat_ledger_laws.proofs.lines.ReadAnswers.{reads_answer, unheld_reads_answer}
use Rattle.cat_ledger_laws.proofs.lines.StopAnswers.{nothing_is_left}
use Rattle.cat_service.proofs.Beside.{IsLent}

module _ (policy : MergePolicy) (told : ToldFiles) (s : Shape) (session t : ℕ) {R : Type 0} (value : R → View) (held : Option R)
    (lent : IsLent s session t value held) where
  -- the reply answers the read, and nothing changes
  abbrev Told : Read → Reply → Type 0
  Told asked r = AnswersCarried policy told s (line_of session (Command.read t asked)) r told s

  wanting : (asked : Read) → Told asked (Err Memory)
  wanting asked =
      memory_answers policy told told s s (line_of session (Command.read t asked)) refl (nothing_is_left told told s s (refl, λ q. refl))

  -- what it may be told over the view answers it
  read_told : (asked : Read) (r : Reply) → MayTell (option_map value held) asked r → Told asked r
  read_told asked r = by held lent
    where
      by : (o : Option R) → IsLent s session t value o → MayTell (option_map value o) asked r → Told asked r
      by None lent (inl is) = subst (Told asked) (sym is) (unheld_reads_answer policy told told s s session t asked lent.none (refl, λ q. refl))
      by None lent (inr is) = subst (Told asked) (sym is) (wanting asked)
      by (Some v) lent (inl (found, finds, is)) =
          subst (Told asked) (sym is)
          (reads_answer policy told told s s session t asked (value v) found lent.some.0 lent.some.1 finds (refl, λ q. refl))
      by (Some v) lent (inr is) = subst (Told asked) (sym is) (wanting asked)

  -- a FIND
  pub find_answers : (n : ℕ) (sort : Sort) (mark : Option ℕ) (text : Text) (r : Reply)
      → ((q : Result Query Refusal) × IsQueryOf s.schema text q × MayTell (option_map value held) (Read.find n sort mark q) r)
      → (c : Command) × IsCommand json s.schema (Said.find t n sort mark text) c × AnswersCarried policy told s (line_of session c) r told s
  find_answers n sort mark text r (q, is, may) =
      (Command.read t (Read.find n sort mark q), (q, is, refl), read_told (Read.find n sort mark q) r may)

  -- a FACETS
  pub facets_answers : (dim : Text) (n : ℕ) (text : Text) (r : Reply)
      → ((q : Result Query Refusal) × IsQueryOf s.schema text q × MayTell (option_map value held) (Read.facets dim n q) r)
      → (c : Command) × IsCommand json s.schema (Said.facets t dim n text) c × AnswersCarried policy told s (line_of session c) r told s
  facets_answers dim n text r (q, is, may) = (Command.read t (Read.facets dim n q), (q, is, refl), read_told (Read.facets dim n q) r may)
