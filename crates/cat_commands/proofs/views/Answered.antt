-- What is answered to a command, from what the ledger's call says.
use Rattle.std.proofs.Common.{◌≡◌, ◌∙◌, ℕ, Bool, true, false, Option, Some, None, refl, sym, subst, inl, inr}
use Rattle.std.specs.Prelude.{◌==◌, ◌⊎◌, Err, IsTrue, Ok, option_map}
use Rattle.std.specs.List.{list_any}
use Rattle.std.proofs.lemmas.Bool.{cases_Bool}
use Rattle.std.proofs.lemmas.List.Elements.{All-from_recursion, recursion_from_All}
use Rattle.cat_base.specs.declared.refusal.Refusal.{Refusal}
use Rattle.cat_base.specs.declared.refusal.Refusal.TheVariants.{Damaged, Device, Gone, Memory, NotHeld}
use Rattle.cat_model.specs.Answer.{Read}
use Rattle.cat_model.specs.Heard.{IsCommand}
use Rattle.cat_model.specs.Run.{Command, greatest, is_looked_at}
use Rattle.cat_model.specs.State.{has_hold}
use Rattle.cat_model.specs.Text.{Text}
use Rattle.cat_model.specs.View.{Leaf, View}
use Rattle.cat_model.proofs.Lists.{All-weaken}
use Rattle.cat_items.specs.Reading.{json}
use Rattle.cat_directory.specs.Devices.{ReadingCount}
use Rattle.cat_directory.specs.declared.name.FileName.TheVariants as file
use Rattle.cat_cached_sets.specs.cat_views.Sources.{TellsSource, has_live}
use Rattle.cat_ledger_laws.specs.model.Plans.{MergePolicy}
use Rattle.cat_ledger_laws.specs.shape.Shapes.{Shape}
use Rattle.cat_ledger_laws.specs.shape.Steps.{tokens_of}
use Rattle.cat_ledger_laws.specs.shape.Ties.{ToldFiles, TouchesNothing}
use Rattle.cat_ledger_laws.specs.lines.HoldLaws.{holding}
use Rattle.cat_ledger_laws.specs.lines.LineLaws.{NothingChanges, line_of, tells}
use Rattle.cat_ledger_laws.specs.lines.ReadLaws.{TellsSources}
use Rattle.cat_ledger_laws.specs.lines.RunLaws.{AnswersCarried}
use Rattle.cat_ledger_laws.proofs.lines.HoldAnswers.{gone_opens_answer, opens_answer, opens_newest_answer}
use Rattle.cat_ledger_laws.proofs.lines.LineAnswers.{memory_answers}
use Rattle.cat_ledger_laws.proofs.lines.ReadAnswers.{unheld_reads_answer}
use Rattle.cat_ledger_laws.proofs.lines.StopAnswers.{nothing_is_left, stopped_gets_answer}
use Rattle.cat_ledger.specs.Grants.{IsAsked}
use Rattle.cat_commands.specs.views.Holding.{said_open}

module _ (policy : MergePolicy) (told told' : ToldFiles) (s new : Shape) (session : ℕ) where
  -- the command is answered by the refusal
  abbrev Refuses : Command → Refusal → Type 0
  Refuses c e = AnswersCarried policy told s (line_of session c) (Err e) told' new

  -- one that is known by name
  named : (c : Command) (e r : Refusal) → e ≡ r → Refuses c r → Refuses c e
  named c e r same answered = subst (Refuses c) (sym same) answered

  -- a command that wants memory, and changes nothing
  pub memory_refused : (c : Command) → IsTrue (is_looked_at session c) → NothingChanges told s told' new → Refuses c Memory
  memory_refused c looked still = memory_answers policy told told' s new (line_of session c) looked (nothing_is_left told told' s new still)

  -- ---- OPEN

  -- an OPEN of what is asked for
  pub opened : (token : Option ℕ) (t : ℕ) → IsAsked s token t → new ≡ holding session t s → TouchesNothing told told'
      → (c : Command) × IsCommand json s.schema (said_open token) c × AnswersCarried policy told s (line_of session c) (tells t) told' new
  opened None t asked same untouched =
      (Command.open_newest, refl, opens_newest_answer policy told told' s new session t asked same untouched)
  opened (Some u) t asked same untouched = (
    Command.open_at u,
    refl,
    subst (λ n. AnswersCarried policy told s (line_of session (Command.open_at n)) (tells t) told' new) asked.0
        (opens_answer policy told told' s new session t
        (subst (λ n. list_any (λ (v : View). v.token == n) s.views ≡ true) (sym asked.0) asked.1) same untouched),
  )

  -- one that the ledger refuses
  pub open_refused : (token : Option ℕ) (e : Refusal) → (e ≡ Gone → (t : ℕ) → IsAsked s token t → ⊥) → NothingChanges told s told' new
      → (e ≡ Gone) ⊎ (e ≡ Memory)
      → (c : Command) × IsCommand json s.schema (said_open token) c × AnswersCarried policy told s (line_of session c) (Err e) told' new
  open_refused None e gone still (inl is) = absurd (gone is (greatest (tokens_of s.views)) refl)
  open_refused (Some u) e gone still (inl is) = (
    Command.open_at u,
    refl,
    elim (cases_Bool (list_any (λ (v : View). v.token == u) s.views)) [
      | inl there ↦ absurd (gone is u (refl, there))
      | inr none ↦ named (Command.open_at u) e Gone is (gone_opens_answer policy told told' s new session u none still)
    ],
  )
  open_refused None e gone still (inr is) =
      (Command.open_newest, refl, named Command.open_newest e Memory is (memory_refused Command.open_newest refl still))
  open_refused (Some u) e gone still (inr is) =
      (Command.open_at u, refl, named (Command.open_at u) e Memory is (memory_refused (Command.open_at u) refl still))

  -- ---- GET

  -- a GET that is refused while it reads, where its token is held
  pub get_refused : (t : ℕ) (id : Text) (e : Refusal) → has_hold s.holds session t ≡ true → NothingChanges told s told' new
      → (e ≡ Memory) ⊎ (e ≡ Device) ⊎ (e ≡ Damaged) → Refuses (Command.read t (Read.get (Ok id))) e
  get_refused t id e held still (inl is) = named (Command.read t (Read.get (Ok id))) e Memory is
      (memory_refused (Command.read t (Read.get (Ok id))) refl still)
  get_refused t id e held still (inr (inl is)) = named (Command.read t (Read.get (Ok id))) e Device is
      (stopped_gets_answer policy told told' s new session t id Device held refl (nothing_is_left told told' s new still))
  get_refused t id e held still (inr (inr is)) = named (Command.read t (Read.get (Ok id))) e Damaged is
      (stopped_gets_answer policy told told' s new session t id Damaged held refl (nothing_is_left told told' s new still))

  -- and where it isn't
  pub get_unheld : (t : ℕ) (id : Text) (e : Refusal) → e ≡ NotHeld → has_hold s.holds session t ≡ false → NothingChanges told s told' new
      → Refuses (Command.read t (Read.get (Ok id))) e
  get_unheld t id e is none still = named (Command.read t (Read.get (Ok id))) e NotHeld is
      (unheld_reads_answer policy told told' s new session t (Read.get (Ok id)) none still)

-- a call that reads is refused for memory, for a failure, or for a damaged file
pub reading_refusal : (old new : ℕ) (e : Refusal) → ReadingCount old new e → (e ≡ Memory) ⊎ (e ≡ Device) ⊎ (e ≡ Damaged)
reading_refusal old new Memory counted = inl refl
reading_refusal old new Device counted = inr (inl refl)
reading_refusal old new Damaged counted = inr (inr refl)
reading_refusal old new _ counted = absurd counted

-- ---- the text of an item

pub option_map_twice : {X Y Z : Type 0} (f : X → Y) (g : Y → Z) (o : Option X) → option_map g (option_map f o) ≡ option_map (λ x. g (f x)) o
option_map_twice f g None = refl
option_map_twice f g (Some x) = refl

-- what is told of all sources is told of those that are read for the id
pub sources_told : (told : ToldFiles) (sources : ℕ → Text) (view : View) (id : Text) → TellsSources told sources view
    → TellsSource told sources view id
sources_told told sources view id all =
    let tells_leaf : Leaf → Type 0 = λ leaf. told (file.Source leaf.segment.number) ≡ Some (Some (sources leaf.segment.number)) in
    let tells_live : Leaf → Type 0 = λ leaf. has_live id leaf ≡ true → tells_leaf leaf in
    All-from_recursion tells_live view.leaves
    (All-weaken tells_leaf tells_live (λ leaf h live. h) view.leaves (recursion_from_All tells_leaf view.leaves all))
