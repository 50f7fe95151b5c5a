-- What memory and its device carry, and the runs of the service.
use Rattle.std.proofs.Common.{◌≡◌, List, [], ◌++◌, map, Some, None, refl, sym, ◌∙◌, ap, ap₂, subst}
use Rattle.cat_model.specs.Item.{Record}
use Rattle.cat_model.specs.CommitFile.{CommitFile}
use Rattle.cat_model.specs.State.{opened_as, newest_told, StandsFor}
use Rattle.cat_model.proofs.Opening.{fresh_begins}
use Rattle.cat_ledger_laws.specs.model.Portions.{Portion, records_of}
use Rattle.cat_ledger_laws.specs.model.Ledger.{commit_file, commit_shown, table_of, state_of}
use Rattle.cat_ledger_laws.specs.model.Calls.{IsOpened, IsEmpty}
use Rattle.cat_ledger_laws.proofs.model.Runs.{calls_keep_runs}
use Rattle.cat_ledger_laws.specs.shape.Shapes.{Shape}
use Rattle.cat_ledger_laws.specs.lines.RunLaws.{AnswersAreSteps, OpenedStand, EmptyStand}
use Rattle.cat_ledger_laws.proofs.shape.Opened.{opened_make, empty_make}

pub answers_are_steps : AnswersAreSteps
answers_are_steps policy told told' old new line reply answers from past schema run stands =
    let made = answers stands.ledger stands.files stands.carries in
    let kept = calls_keep_runs policy from past stands.ledger made.0 line made.2 (schema ∙ ap (λ (s : Shape). s.schema) (sym stands.carries.shape)) run stands.stands stands.carries.sound made.4 in
    (made.2, made.3, kept.1, record { ledger = made.0; files = made.1; carries = made.5; stands = kept.2 })

pub opened_stand : OpenedStand
opened_stand told schema generation r users n g h counted =
    let made = opened_make told schema generation r users n g h counted in
    let its : IsOpened made.2 made.0 = made.4 in
    let said : commit_file schema made.2 ≡ r.commit = made.3 in
    let told_commit : newest_told (state_of made.0).commits ≡ Some (record { generation = made.2.generation; text = made.2.text }) = ap (λ cs. newest_told (map commit_shown cs)) its.commits in (
      opened_as schema (state_of made.0),
      refl,
      its.count ∙ ap (λ (f : CommitFile). f.token) said,
      told_commit ∙ ap (λ (f : CommitFile). Some (record { generation = f.generation; text = f.text })) said,
      record { ledger = made.0; files = made.1; carries = made.6; stands = fresh_begins schema (state_of made.0) made.5 },
    )

pub empty_stand : EmptyStand
empty_stand told schema users n g counted =
    let made = empty_make told schema users n g counted in
    let its : IsEmpty made.0 = made.2 in
    let table : table_of made.0 ≡ [] = ap₂ (λ (ps : List Portion) (rs : List Record). records_of ps ++ rs) its.portions its.buffered in
    let told_commit : newest_told (state_of made.0).commits ≡ None = ap (λ cs. newest_told (map commit_shown cs)) its.commits in
    let same : opened_as schema (state_of made.0) ≡ record { start = record { schema = schema; records = []; token = 0 }; commit = None } =
    λ i. record { start = record { schema = schema; records = table i; token = its.count i }; commit = told_commit i } in
    record { ledger = made.0; files = made.1; carries = made.4; stands = subst (λ from. StandsFor from [] (state_of made.0)) same (fresh_begins schema (state_of made.0) made.3) }
