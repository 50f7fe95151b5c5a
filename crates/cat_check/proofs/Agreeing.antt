-- What a commit's own file says, beside what its files are told to hold.
use Rattle.std.proofs.Common.{◌≡◌, sym, ◌∙◌, ap, subst, ℕ}
use Rattle.cat_model.specs.Text.{Text}
use Rattle.cat_model.specs.Item.{Schema}
use Rattle.cat_model.specs.Files.{Name}
use Rattle.cat_model.specs.CommitFile.{CommitFile}
use Rattle.cat_ledger_laws.specs.model.Opening.{Restored, HasCommit, IsRestored, IsForeign}
use Rattle.cat_ledger_laws.specs.shape.Ties.{ToldFiles}
use Rattle.cat_ledger_laws.specs.shape.OpeningLaws.{MayHold}
use Rattle.cat_commits.specs.reading.Told.{Tells}
use Rattle.cat_commits.proofs.reading.Parts.{CommitsLaw, commit_spells, commit_agrees}
use Rattle.cat_check.specs.Said.{SaysCommit, IsTorn}
use Rattle.cat_check.specs.Judged.{IsLost}

-- the commit that is told is the one that its own file was read to say
said_agrees : CommitsLaw → (told : ToldFiles) (g : ℕ) (c d : CommitFile) → SaysCommit (MayHold told) g c → HasCommit (Tells told) g d → d ≡ c
said_agrees law told g c d may tells = law may.bytes d c (commit_spells told g may.bytes d may.there tells) may.spelled

-- what isn't told under the fields of its own file isn't told under any
pub lost : CommitsLaw → (told : ToldFiles) (g : ℕ) (c : CommitFile) → SaysCommit (MayHold told) g c → ((r : Restored) → IsRestored (Tells told) c.schema g r → ⊥) → IsLost told g
lost law told g c said refuted = λ schema r is.
    let same : r.commit ≡ c = said_agrees law told g c r.commit said is.commit in
    let fields : schema ≡ c.schema = sym is.fields ∙ ap (λ (d : CommitFile). d.schema) same in
    refuted r (subst (λ (s : Schema). IsRestored (Tells told) s g r) fields is)

-- nor is it where its own file says other fields by now
pub lost_to_another : CommitsLaw → (told : ToldFiles) (g : ℕ) (c : CommitFile) → SaysCommit (MayHold told) g c → IsForeign (MayHold told) c.schema g → IsLost told g
lost_to_another law told g c said foreign = λ schema r is.
    let same : r.commit ≡ c = said_agrees law told g c r.commit said is.commit in
    let other : r.commit ≡ foreign.0 = commit_agrees law told g foreign.0 r.commit foreign.1 is.commit in
    foreign.2 (ap (λ (d : CommitFile). d.schema) (sym other ∙ same))

-- nor where its own file is no commit's
pub lost_if_torn : (told : ToldFiles) (g : ℕ) → IsTorn told g → IsLost told g
lost_if_torn told g torn = λ schema r is. torn r.commit (record { bytes = is.commit.bytes; there = is.commit.there; spelled = is.commit.spelled })

-- what is read under some fields is read under its own
pub under_own : (holds : Name → Text → Type 0) (schema : Schema) (g : ℕ) (r : Restored) → IsRestored holds schema g r → IsRestored holds r.commit.schema g r
under_own holds schema g r is = subst (λ (s : Schema). IsRestored holds s g r) (sym is.fields) is
