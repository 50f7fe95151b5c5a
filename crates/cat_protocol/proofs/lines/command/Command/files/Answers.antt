use Rattle.std.proofs.Common.{◌≡◌, codes, ◌∷◌, ◌++◌, ap, ◌∙◌}
use Rattle.cat_model.specs.Text.{Text}
use Rattle.cat_protocol.proofs.lines.WordsSpelled.{no_files_word, no_files_number, no_files_kind}
use Rattle.cat_protocol.proofs.lines.command.Command.files.Goals as goal

-- the rest, put together of its two words
files_of : (rest kind digits word number : Text) → rest ≡ kind ++ 32 ∷ digits → kind ≡ word → digits ≡ number → codes "FILES" ++ 32 ∷ rest ≡ codes "FILES" ++ 32 ∷ (word ++ 32 ∷ number)
files_of rest kind digits word number split first second = ap (λ l. codes "FILES" ++ 32 ∷ l) (split ∙ ap (λ l. l ++ 32 ∷ digits) first ∙ ap (λ l. word ++ 32 ∷ l) second)

pub returns-in_default : goal.returns-in_default
returns-in_default c = no_files_word c.args.rest.now c.in_default.ensures.none

pub returns-in_default-parse_number : goal.returns-in_default-parse_number
returns-in_default-parse_number c =
    let word = c.in-Some.ensures in
    no_files_number c.args.rest.now c.in-Some.kind.now c.in-Some.digits.now word.found word.first c.in_default-parse_number.ensures.none

pub returns-in_default-kind : goal.returns-in_default-kind
returns-in_default-kind c =
    let word = c.in-Some.ensures in
    no_files_kind c.args.rest.now c.in-Some.kind.now c.in-Some.digits.now word.found word.first c.in_default-kind.not-t c.in_default-kind.not-g

pub returns-in-t : goal.returns-in-t
returns-in-t c =
    let number = c.in-Some-parse_number.ensures.found in
    record { form = number.0; spelled = files_of c.args.rest.now _ _ _ _ c.in-Some.ensures.found c.in-t.is number.1 }

pub returns-in-g : goal.returns-in-g
returns-in-g c =
    let number = c.in-Some-parse_number.ensures.found in
    record { form = number.0; spelled = files_of c.args.rest.now _ _ _ _ c.in-Some.ensures.found c.in-g.is number.1 }
