use Rattle.std.proofs.Common.{◌≡◌, refl, ap, inl, ⊎_elim}
use Rattle.std.specs.Prelude.{None}
use Rattle.cat_model.specs.Answer.{Read}
use Rattle.cat_model.specs.Heard.{id_of}
use Rattle.cat_model.specs.Run.{Command}
use Rattle.cat_search.specs.cat_items.Reading.{item_of}
use Rattle.cat_search.specs.Sorts.{sort_of}
use Rattle.cat_service_tests.specs.plain.Exchange.{find_of}
use Rattle.cat_service_tests.specs.plain.Line.{plain_of}
use Rattle.cat_service_tests.proofs.plain.catalogue.Finds.{asks_so}
use Rattle.cat_service_tests.proofs.plain.catalogue.Plain.answer.Goals as goal

pub returns-in-Put-clause-does : goal.returns-in-Put-clause-does
returns-in-Put-clause-does c = (Command.put (item_of c.args.self.now.schema c.in-Put.text.now), rw c.in-Put.is refl, c.answer_put.ensures.does c.args.line.now.session)

pub returns-in-Delete-clause-does : goal.returns-in-Delete-clause-does
returns-in-Delete-clause-does c = (Command.delete (id_of c.in-Delete.id.now), rw c.in-Delete.is refl, c.answer_delete.ensures.does c.args.line.now.session)

pub returns-in-Refresh-clause-does : goal.returns-in-Refresh-clause-does
returns-in-Refresh-clause-does c = (Command.refresh, rw c.in-Refresh.is refl, c.answer_refresh.ensures.does c.args.line.now.session)

pub returns-in-Close-clause-does : goal.returns-in-Close-clause-does
returns-in-Close-clause-does c = (Command.close c.in-Close.token, rw c.in-Close.is refl, c.answer_close.ensures.does)

pub returns-in-Find-clause-does : goal.returns-in-Find-clause-does
returns-in-Find-clause-does c =
    let does = c.answer_find.ensures in
    let find = c.in-Find.find in (
      Command.read find.token (find_of c.ask_of.result does.0),
      rw c.in-Find.is (does.0, does.1, ap (Command.read find.token) (asks_so c.ask_of.result find.count (sort_of find.sort) find.mark does.0 c.ask_of.ensures.count c.ask_of.ensures.sort c.ask_of.ensures.mark)),
      does.2,
    )

pub returns-in-DeleteWhere-clause-does : goal.returns-in-DeleteWhere-clause-does
returns-in-DeleteWhere-clause-does c =
    let does = c.answer_delete_where.ensures.does c.args.line.now.session in
    (Command.delete_where does.0, rw c.in-DeleteWhere.is (does.0, does.1, refl), does.2)

pub returns-in-Get-clause-does : goal.returns-in-Get-clause-does
returns-in-Get-clause-does c = (Command.read c.in-Get.token (Read.get (id_of c.in-Get.id.now)), rw c.in-Get.is refl, c.answer_get.ensures)

pub returns-in-Facets-clause-does : goal.returns-in-Facets-clause-does
returns-in-Facets-clause-does c =
    let does = c.answer_facets.ensures in
    let asked = c.in-Facets.asked in
    (Command.read asked.token (Read.facets asked.dimension.now asked.count does.0), rw c.in-Facets.is (does.0, does.1, refl), does.2)

pub returns-in-Prune-clause-does : goal.returns-in-Prune-clause-does
returns-in-Prune-clause-does c = (Command.prune c.in-Prune.count, rw c.in-Prune.is refl, c.answer_prune.ensures.does c.args.line.now.session)

-- no command of this arm is answered
pub returns-in-NoForm : goal.returns-in-NoForm
returns-in-NoForm c =
    let none : plain_of c.args.line.now.command ≡ None =
    ⊎_elim (λ e. ap plain_of e) (
    ⊎_elim (λ e. ap plain_of e.1) (
    ⊎_elim (λ e. ap plain_of e.1) (
    ⊎_elim (λ e. ap plain_of e.1) (
    ⊎_elim (λ e. ap plain_of e.1) (
    ⊎_elim (λ e. ap plain_of e) (
    ⊎_elim (λ e. ap plain_of e.1) (
    ⊎_elim (λ e. ap plain_of e) (
    ⊎_elim (λ e. ap plain_of e) (
    ⊎_elim (λ e. ap plain_of e) (
    ⊎_elim (λ e. ap plain_of e) (
    λ e. ap plain_of e))))))))))) c.in-NoForm.is in
    record { schema = refl; does = (Command.formless, rw none refl, inl (refl, refl)); due = rw none tt; refused = refl }
