-- What a call of `serve` is promised to write is what the law speaks of.
use Rattle.std.proofs.Common.{inl, inr, ◌≡◌, ◌≤◌, List, ◌∷◌, sym, ◌∙◌, subst, append-nil, arith}
use Rattle.std.specs.Prelude.{Ok}
use Rattle.std.specs.List.{AllByRecursion}
use Rattle.std.proofs.lemmas.List.{append_cancel_right}
use Rattle.cat_model.specs.Text.{Text, IsOneLine}
use Rattle.cat_model.specs.Item.{IsSchema, Schema}
use Rattle.cat_model.specs.Table.{Opened}
use Rattle.cat_model.specs.Limits.{last_number}
use Rattle.cat_model.specs.Input.{ended_lines, lines_of}
use Rattle.cat_model.specs.Served.{Begins}
use Rattle.cat_model.specs.Served.{Answered as AnsweredBy}
use Rattle.cat_model.proofs.TalkInput.{ended_are_lines, lines_are_lines}
use Rattle.cat_items.specs.Reading.{json}
use Rattle.cat_items.proofs.SchemaTexts.{rules_kept}
use Rattle.cat_items.proofs.TalkTexts.{reads_lines}
use Rattle.cat_model.specs.Calls.{CallsAreOpened, HasAnswered, HeldReadsAgreeInCalls, IsCall}
use Rattle.cat_model.specs.Opens.{BeginsFrom, OpensFrom}
use Rattle.cat_model.specs.Restored.{Restored}
use Rattle.cat_model.specs.Serving.{IsServedIn}
use Rattle.cat_model.specs.Told.{DirectoryKind, MayHave, TellsAlways, ToldByName}
use Rattle.cat_service.proofs.theorem.Law.{reads_agree}
use Rattle.cat_service.proofs.theorem.Opened.{opened_part, opened_seen}
use Rattle.cat_service.proofs.theorem.Told.{IsSaid, PartRecord}

-- ---- what is opened

-- what is known of what a first line opens
pub record IsSound (from : Opened) : Type 0 where
  pub schema : IsSchema from.start.schema
  pub token : from.start.token ≤ last_number
  pub records : AllByRecursion PartRecord from.start.records
  pub seen : AllByRecursion (λ r. r.number ≤ from.start.token) from.start.records

sound_opening : (told : ToldByName) (schema : Schema) (from : Opened) → IsSchema schema → OpensFrom told schema (Ok from) → IsSound from
sound_opening told schema from ok (inl b) =
    let r : Restored = record { commit = b.commit; leaves = b.held.leaves } in record {
      schema = subst IsSchema (sym b.fields) ok;
      token = subst (λ n. n ≤ last_number) (sym b.token) b.held.held.commit.spelled.form.token;
      records = subst (AllByRecursion PartRecord) (sym b.held.table.shown) (opened_part (MayHave told) schema b.generation r b.held.table.sources b.held.held);
      seen = subst (λ n. AllByRecursion (λ r. r.number ≤ n) from.start.records) (sym b.token)
          (subst (AllByRecursion (λ r. r.number ≤ b.commit.token)) (sym b.held.table.shown) (opened_seen (MayHave told) schema b.generation r b.held.table.sources b.held.held));
    }
sound_opening told schema from ok (inr e) = subst IsSound (sym e.1) (record { schema = ok; token = omega arith; records = tt; seen = tt })

pub sound : (told : ToldByName) (first : Text) (from : Opened) → BeginsFrom json told first (Ok from) → IsSound from
sound told first from (Begins.opened f l text schema r readable a is opens) = sound_opening told schema from (rules_kept text schema is) opens

-- ---- what a call says

module _ {D : Type 0} (kind : DirectoryKind D) (device left : D) where
  abbrev pub Served : List Text → Text → Type 0
  Served lines output = AnsweredBy (◌≡◌ {A = D} left device) (IsServedIn json kind device left) lines output

  pub answered_is : (input output : Text) (lines : List Text) → HasAnswered json kind device left input output lines → Served lines output × AllByRecursion IsOneLine lines
  answered_is input output _ (HasAnswered.to_the_end s) =
      let same : input ≡ s.0 = s.1 ∙ append-nil s.0 in
      (subst (λ b. AnsweredBy (◌≡◌ {A = D} left device) (IsServedIn json kind device left) (lines_of b) output) (sym same) (subst (AnsweredBy (◌≡◌ {A = D} left device) (IsServedIn json kind device left) (lines_of s.0)) (sym s.5) s.4), lines_are_lines input)
  answered_is input output _ (HasAnswered.to_a_fault rest s) =
      let same : input ≡ s.0 = append_cancel_right input s.0 rest s.1 in
      (subst (λ b. AnsweredBy (◌≡◌ {A = D} left device) (IsServedIn json kind device left) (ended_lines b) output) (sym same) (subst (AnsweredBy (◌≡◌ {A = D} left device) (IsServedIn json kind device left) (ended_lines s.0)) (sym s.4) s.3), ended_are_lines input)

  pub served_first : (input output first : Text) (lines : List Text) → HasAnswered json kind device left input output (first ∷ lines) → IsServedIn json kind device left first lines output
  served_first input output first lines a = (answered_is input output (first ∷ lines) a).0

  abbrev pub said_by : (first : Text) (lines : List Text) (output : Text) (s : IsServedIn json kind device left first lines output) → AllByRecursion IsOneLine lines → IsSaid json (TellsAlways kind) s.from lines output
  said_by first lines output s one =
      let o : IsSound s.from = sound (kind.bytes device) first s.from s.begins in
      record {
        schema = o.schema;
        token = o.token;
        records = o.records;
        one_lines = one;
        tolds = s.tolds;
        heard_all = s.heard_all;
        fitting = s.fitting;
        is_run = s.is_run;
        alike = s.alike;
        same = s.same;
        whole = s.whole;
      }

  abbrev pub call_said : (first : Text) (lines : List Text) (output : Text) (c : IsCall json kind device left first lines output) → IsSaid json (TellsAlways kind) c.served.from lines output
  call_said first lines output c = said_by first lines output c.served (answered_is c.input output (first ∷ lines) c.answered).1.1

-- ---- the laws

pub calls_opened : {D : Type 0} (kind : DirectoryKind D) → CallsAreOpened json kind
calls_opened kind device left input output first lines a =
    let s : IsServedIn json kind device left first lines output = served_first kind device left input output first lines a in
    (record { input = input; answered = a; served = s }, s.begins)

pub calls_agree : {D E : Type 0} (kind₁ : DirectoryKind D) (kind₂ : DirectoryKind E)
    → HeldReadsAgreeInCalls json kind₁ kind₂
calls_agree kind₁ kind₂ device₁ left₁ device₂ left₂ first₁ first₂ lines₁ lines₂ output₁ output₂ one two =
    reads_agree (TellsAlways kind₁) (TellsAlways kind₂) json one.served.from two.served.from first₁ first₂ lines₁ lines₂ output₁ output₂ reads_lines
    (call_said kind₁ device₁ left₁ first₁ lines₁ output₁ one) (call_said kind₂ device₂ left₂ first₂ lines₂ output₂ two)
