use Rattle.std.proofs.Common.{◌≡◌, sym, ◌∙◌, subst, refl, true, false}
use Rattle.std.specs.Prelude.{Some, None}
use Rattle.std.proofs.lemmas.Result.{err_from_is_err_and}
use Rattle.cat_model.specs.CommitFile.{CommitFile, SpellsCommit}
use Rattle.cat_items.proofs.file_parts.Numbers.{some_is}
use Rattle.cat_commits.specs.Listings.{NumbersDiffer}
use Rattle.cat_commits.specs.Judged.{TellsCommit}
use Rattle.cat_commits.proofs.Listings.{differ_from}
use Rattle.cat_commits.proofs.Commits.{listed_fit, spelled_told, judged_spelled}
use Rattle.cat_commits.proofs.commit.Commit.decode.Goals as goal

pub returns-in_default-clause-damaged : goal.returns-in_default-clause-damaged
returns-in_default-clause-damaged c = λ e told spells.
    let none = c.in_default.ensures.none in
    let some = spelled_told c.args.bytes.now told spells in
    let no : None ≡ Some told = sym none ∙ some in cc

pub returns-then-not-numbers_differ-clause-damaged : goal.returns-then-not-numbers_differ-clause-damaged
returns-then-not-numbers_differ-clause-damaged c = λ e told spells.
    let judged = c.in-Some.ensures.some in
    let same : judged.0 ≡ told = some_is judged.0 told (sym judged.1 ∙ spelled_told c.args.bytes.now told spells) in
    let tells : TellsCommit c.in-Some.judged told = subst (λ (x : CommitFile). TellsCommit c.in-Some.judged x) same judged.2 in
    let fits = listed_fit told spells.form.generation spells.form.next_high spells.form.listed in
    let differ : NumbersDiffer c.in-Some.judged.listing.now = differ_from c.in-Some.judged.listing.now told.segments tells.listing fits spells.form.distinct in
    let no : false ≡ true = c.if-not-numbers_differ.ensures.1 differ in cc

pub returns-in_err-assembled-clause-due : goal.returns-in_err-assembled-clause-due
returns-in_err-assembled-clause-due c =
    let judged = c.in-Some.ensures.some in
    let differ : NumbersDiffer c.in-Some.judged.listing.now = c.if-not-numbers_differ.ensures.0 refl in
    let spells : SpellsCommit c.args.bytes.now judged.0 = judged_spelled c.args.bytes.now judged.0 c.in-Some.judged.listing.now judged.1 judged.2.listing differ in
    let failed = err_from_is_err_and c.from_residual.result c.from_residual.ensures.1 in
    rw failed.1 (λ e. (judged.0, spells))

pub returns-clause-ok : goal.returns-clause-ok
returns-clause-ok c =
    let judged = c.in-Some.ensures.some in
    let differ : NumbersDiffer c.in-Some.judged.listing.now = c.if-not-numbers_differ.ensures.0 refl in
    let spells : SpellsCommit c.args.bytes.now judged.0 = judged_spelled c.args.bytes.now judged.0 c.in-Some.judged.listing.now judged.1 judged.2.listing differ in
    subst (λ (x : CommitFile). SpellsCommit c.args.bytes.now x) (sym (c.in_ok-assembled.ensures judged.0 spells.form judged.2)) spells
