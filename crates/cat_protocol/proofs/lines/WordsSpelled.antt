-- What spells no command, and what a line reads as.
use Rattle.std.proofs.Common.{◌≡◌, ◌≢◌, ℕ, ◌<◌, ◌^◌, [], ◌∷◌, ◌++◌, codes, get_or, true, refl, sym, ap, ◌∙◌, subst, inl, inr, arith}
use Rattle.std.specs.Prelude.{◌≤◌, Option, Some, None, Result, Ok, Err, IfErr, IsErrAnd}
use Rattle.cat_base.specs.declared.refusal.Refusal.{Refusal}
use Rattle.cat_base.specs.declared.refusal.Refusal.TheVariants.{Line}
use Rattle.std.specs.Fmt.{decimal}
use Rattle.cat_model.specs.Text.{Text}
use Rattle.cat_model.specs.Run.{Chore}
use Rattle.cat_model.specs.Lines.{Said, IsNumber, SpellsSaid, ShowsSession}
use Rattle.cat_protocol.specs.lines.Line.{SpellsOrNot, SpellsOrShows}
use Rattle.cat_protocol.specs.lines.Words.{HasNoSpace}
use Rattle.cat_protocol.proofs.lines.WordsSplit.{all_behind_space, space_within, one_split, letters_no_space, one_number, decimal_no_space}

-- a word that is the name of no command without arguments
pub no_command_alone : (text : Text) → HasNoSpace text → text ≢ codes "REFRESH" → text ≢ codes "OPEN" → text ≢ codes "COMMIT" → text ≢ codes "SNAP"
    → text ≢ codes "MERGE" → text ≢ codes "FORCE" → text ≢ codes "WARM" → text ≢ codes "SWEEP" → text ≢ codes "STAT"
    → (said : Said) → SpellsSaid text said → ⊥
no_command_alone text none refresh opens commit snap merge force warm sweep stat (Said.put item) h = space_within (codes "PUT") item (subst HasNoSpace h.spelled none)
no_command_alone text none refresh opens commit snap merge force warm sweep stat (Said.delete id) h = space_within (codes "DEL") id (subst HasNoSpace h.spelled none)
no_command_alone text none refresh opens commit snap merge force warm sweep stat (Said.delete_where query) h = space_within (codes "DELW") query (subst HasNoSpace h.spelled none)
no_command_alone text none refresh opens commit snap merge force warm sweep stat Said.refresh h = refresh h.spelled
no_command_alone text none refresh opens commit snap merge force warm sweep stat Said.open_newest h = opens h.spelled
no_command_alone text none refresh opens commit snap merge force warm sweep stat (Said.open_at t) h = space_within (codes "OPEN") _ (subst HasNoSpace h.spelled none)
no_command_alone text none refresh opens commit snap merge force warm sweep stat (Said.close t) h = space_within (codes "CLOSE") _ (subst HasNoSpace h.spelled none)
no_command_alone text none refresh opens commit snap merge force warm sweep stat (Said.find t n sort mark query) h = space_within (codes "FIND") _ (subst HasNoSpace h.spelled none)
no_command_alone text none refresh opens commit snap merge force warm sweep stat (Said.facets t dim n query) h = space_within (codes "FACETS") _ (subst HasNoSpace h.spelled none)
no_command_alone text none refresh opens commit snap merge force warm sweep stat (Said.get t id) h = space_within (codes "GET") _ (subst HasNoSpace h.spelled none)
no_command_alone text none refresh opens commit snap merge force warm sweep stat (Said.files_of_token t) h = space_within (codes "FILES") (codes "t" ++ 32 ∷ decimal t) (subst HasNoSpace h.spelled none)
no_command_alone text none refresh opens commit snap merge force warm sweep stat (Said.files_of_commit g) h = space_within (codes "FILES") (codes "g" ++ 32 ∷ decimal g) (subst HasNoSpace h.spelled none)
no_command_alone text none refresh opens commit snap merge force warm sweep stat (Said.commit []) h = commit h.spelled
no_command_alone text none refresh opens commit snap merge force warm sweep stat (Said.commit (b ∷ note)) h = space_within (codes "COMMIT") (b ∷ note) (subst HasNoSpace h.spelled none)
no_command_alone text none refresh opens commit snap merge force warm sweep stat (Said.text_of_commit g) h = space_within (codes "NOTE") _ (subst HasNoSpace h.spelled none)
no_command_alone text none refresh opens commit snap merge force warm sweep stat Said.snapshot h = snap h.spelled
no_command_alone text none refresh opens commit snap merge force warm sweep stat (Said.release_snapshot g) h = space_within (codes "UNSNAP") _ (subst HasNoSpace h.spelled none)
no_command_alone text none refresh opens commit snap merge force warm sweep stat (Said.prune n) h = space_within (codes "PRUNE") _ (subst HasNoSpace h.spelled none)
no_command_alone text none refresh opens commit snap merge force warm sweep stat (Said.chore Chore.merge) h = merge h.spelled
no_command_alone text none refresh opens commit snap merge force warm sweep stat (Said.chore Chore.force) h = force h.spelled
no_command_alone text none refresh opens commit snap merge force warm sweep stat (Said.chore Chore.warm) h = warm h.spelled
no_command_alone text none refresh opens commit snap merge force warm sweep stat (Said.chore Chore.sweep) h = sweep h.spelled
no_command_alone text none refresh opens commit snap merge force warm sweep stat (Said.chore Chore.stat) h = stat h.spelled

-- a text with a space behind its first word doesn't spell a name alone
not_alone : (name rest alone : Text) → name ++ 32 ∷ rest ≡ alone → all_behind_space alone ≡ true → ⊥
not_alone name rest alone same letters = space_within name rest (subst HasNoSpace (sym same) (letters_no_space alone letters))

-- its first word is the name that it begins with
first_is : (name rest word behind : Text) → HasNoSpace name → name ++ 32 ∷ rest ≡ word ++ 32 ∷ behind → all_behind_space word ≡ true → name ≡ word
first_is name rest word behind one same letters = (one_split name word rest behind one (letters_no_space word letters) same).0

-- a word that is the name of no command with arguments, and what is behind it
pub no_command : (name rest : Text) → HasNoSpace name
    → name ≢ codes "PUT" → name ≢ codes "DEL" → name ≢ codes "DELW" → name ≢ codes "OPEN" → name ≢ codes "CLOSE" → name ≢ codes "FIND" → name ≢ codes "FACETS"
    → name ≢ codes "GET" → name ≢ codes "FILES" → name ≢ codes "COMMIT" → name ≢ codes "NOTE" → name ≢ codes "UNSNAP" → name ≢ codes "PRUNE"
    → (said : Said) → SpellsSaid (name ++ 32 ∷ rest) said → ⊥
no_command name rest one put delete where_ opens close find facets get files commit note unsnap prune (Said.put item) h = put (first_is name rest (codes "PUT") item one h.spelled refl)
no_command name rest one put delete where_ opens close find facets get files commit note unsnap prune (Said.delete id) h = delete (first_is name rest (codes "DEL") id one h.spelled refl)
no_command name rest one put delete where_ opens close find facets get files commit note unsnap prune (Said.delete_where query) h = where_ (first_is name rest (codes "DELW") query one h.spelled refl)
no_command name rest one put delete where_ opens close find facets get files commit note unsnap prune Said.refresh h = not_alone name rest (codes "REFRESH") h.spelled refl
no_command name rest one put delete where_ opens close find facets get files commit note unsnap prune Said.open_newest h = not_alone name rest (codes "OPEN") h.spelled refl
no_command name rest one put delete where_ opens close find facets get files commit note unsnap prune (Said.open_at t) h = opens (first_is name rest (codes "OPEN") (decimal t) one h.spelled refl)
no_command name rest one put delete where_ opens close find facets get files commit note unsnap prune (Said.close t) h = close (first_is name rest (codes "CLOSE") (decimal t) one h.spelled refl)
no_command name rest one put delete where_ opens close find facets get files commit note unsnap prune (Said.find t n sort mark query) h = find (first_is name rest (codes "FIND") _ one h.spelled refl)
no_command name rest one put delete where_ opens close find facets get files commit note unsnap prune (Said.facets t dim n query) h = facets (first_is name rest (codes "FACETS") _ one h.spelled refl)
no_command name rest one put delete where_ opens close find facets get files commit note unsnap prune (Said.get t id) h = get (first_is name rest (codes "GET") (decimal t ++ 32 ∷ id) one h.spelled refl)
no_command name rest one put delete where_ opens close find facets get files commit note unsnap prune (Said.files_of_token t) h = files (first_is name rest (codes "FILES") (codes "t" ++ 32 ∷ decimal t) one h.spelled refl)
no_command name rest one put delete where_ opens close find facets get files commit note unsnap prune (Said.files_of_commit g) h = files (first_is name rest (codes "FILES") (codes "g" ++ 32 ∷ decimal g) one h.spelled refl)
no_command name rest one put delete where_ opens close find facets get files commit note unsnap prune (Said.commit []) h = not_alone name rest (codes "COMMIT") h.spelled refl
no_command name rest one put delete where_ opens close find facets get files commit note unsnap prune (Said.commit (b ∷ text)) h = commit (first_is name rest (codes "COMMIT") (b ∷ text) one h.spelled refl)
no_command name rest one put delete where_ opens close find facets get files commit note unsnap prune (Said.text_of_commit g) h = note (first_is name rest (codes "NOTE") (decimal g) one h.spelled refl)
no_command name rest one put delete where_ opens close find facets get files commit note unsnap prune Said.snapshot h = not_alone name rest (codes "SNAP") h.spelled refl
no_command name rest one put delete where_ opens close find facets get files commit note unsnap prune (Said.release_snapshot g) h = unsnap (first_is name rest (codes "UNSNAP") (decimal g) one h.spelled refl)
no_command name rest one put delete where_ opens close find facets get files commit note unsnap prune (Said.prune n) h = prune (first_is name rest (codes "PRUNE") (decimal n) one h.spelled refl)
no_command name rest one put delete where_ opens close find facets get files commit note unsnap prune (Said.chore Chore.merge) h = not_alone name rest (codes "MERGE") h.spelled refl
no_command name rest one put delete where_ opens close find facets get files commit note unsnap prune (Said.chore Chore.force) h = not_alone name rest (codes "FORCE") h.spelled refl
no_command name rest one put delete where_ opens close find facets get files commit note unsnap prune (Said.chore Chore.warm) h = not_alone name rest (codes "WARM") h.spelled refl
no_command name rest one put delete where_ opens close find facets get files commit note unsnap prune (Said.chore Chore.sweep) h = not_alone name rest (codes "SWEEP") h.spelled refl
no_command name rest one put delete where_ opens close find facets get files commit note unsnap prune (Said.chore Chore.stat) h = not_alone name rest (codes "STAT") h.spelled refl

-- ---- the arguments of a FILES

-- what a FILES says
data SaysFiles (rest : Text) : Type 0 where
  of_token : (t : ℕ) → IsNumber t → rest ≡ codes "t" ++ 32 ∷ decimal t → SaysFiles rest
  of_commit : (g : ℕ) → IsNumber g → rest ≡ codes "g" ++ 32 ∷ decimal g → SaysFiles rest

-- no other name begins with its first three letters
says_files : (rest : Text) (said : Said) → SpellsSaid (codes "FILES" ++ 32 ∷ rest) said → SaysFiles rest
says_files rest (Said.files_of_token t) h = SaysFiles.of_token t h.form (cc h.spelled)
says_files rest (Said.files_of_commit g) h = SaysFiles.of_commit g h.form (cc h.spelled)
says_files rest (Said.commit []) h = absurd (omega (arith, ap (λ t. get_or t 0 0) h.spelled, ap (λ t. get_or t 1 0) h.spelled, ap (λ t. get_or t 2 0) h.spelled))
says_files rest (Said.commit (b ∷ text)) h = absurd (omega (arith, ap (λ t. get_or t 0 0) h.spelled, ap (λ t. get_or t 1 0) h.spelled, ap (λ t. get_or t 2 0) h.spelled))
says_files rest (Said.chore Chore.merge) h = absurd (omega (arith, ap (λ t. get_or t 0 0) h.spelled, ap (λ t. get_or t 1 0) h.spelled, ap (λ t. get_or t 2 0) h.spelled))
says_files rest (Said.chore Chore.force) h = absurd (omega (arith, ap (λ t. get_or t 0 0) h.spelled, ap (λ t. get_or t 1 0) h.spelled, ap (λ t. get_or t 2 0) h.spelled))
says_files rest (Said.chore Chore.warm) h = absurd (omega (arith, ap (λ t. get_or t 0 0) h.spelled, ap (λ t. get_or t 1 0) h.spelled, ap (λ t. get_or t 2 0) h.spelled))
says_files rest (Said.chore Chore.sweep) h = absurd (omega (arith, ap (λ t. get_or t 0 0) h.spelled, ap (λ t. get_or t 1 0) h.spelled, ap (λ t. get_or t 2 0) h.spelled))
says_files rest (Said.chore Chore.stat) h = absurd (omega (arith, ap (λ t. get_or t 0 0) h.spelled, ap (λ t. get_or t 1 0) h.spelled, ap (λ t. get_or t 2 0) h.spelled))
says_files rest said h = absurd (omega (arith, ap (λ t. get_or t 0 0) h.spelled, ap (λ t. get_or t 1 0) h.spelled, ap (λ t. get_or t 2 0) h.spelled))

-- the text is no number
abbrev pub Unread : Text → Type 0
Unread text = (n : ℕ) → n < 2 ^ 63 → text ≡ decimal n → ⊥

-- a FILES without a space behind its first word
pub no_files_word : (rest : Text) → HasNoSpace rest → (said : Said) → SpellsSaid (codes "FILES" ++ 32 ∷ rest) said → ⊥
no_files_word rest none said h = elim (says_files rest said h) [
  | SaysFiles.of_token t form e ↦ space_within (codes "t") (decimal t) (subst HasNoSpace e none)
  | SaysFiles.of_commit g form e ↦ space_within (codes "g") (decimal g) (subst HasNoSpace e none)
]

-- without a number
pub no_files_number : (rest kind digits : Text) → rest ≡ kind ++ 32 ∷ digits → HasNoSpace kind → Unread digits
    → (said : Said) → SpellsSaid (codes "FILES" ++ 32 ∷ rest) said → ⊥
no_files_number rest kind digits split one unread said h = elim (says_files rest said h) [
  | SaysFiles.of_token t form e ↦ unread t form (one_split kind (codes "t") digits (decimal t) one (letters_no_space (codes "t") refl) (sym split ∙ e)).1
  | SaysFiles.of_commit g form e ↦ unread g form (one_split kind (codes "g") digits (decimal g) one (letters_no_space (codes "g") refl) (sym split ∙ e)).1
]

-- of neither kind
pub no_files_kind : (rest kind digits : Text) → rest ≡ kind ++ 32 ∷ digits → HasNoSpace kind → kind ≢ codes "t" → kind ≢ codes "g"
    → (said : Said) → SpellsSaid (codes "FILES" ++ 32 ∷ rest) said → ⊥
no_files_kind rest kind digits split one token commit said h = elim (says_files rest said h) [
  | SaysFiles.of_token t form e ↦ token (one_split kind (codes "t") digits (decimal t) one (letters_no_space (codes "t") refl) (sym split ∙ e)).0
  | SaysFiles.of_commit g form e ↦ commit (one_split kind (codes "g") digits (decimal g) one (letters_no_space (codes "g") refl) (sym split ∙ e)).0
]

-- ---- sessions

-- behind the session stands what the rest spells, or nothing
pub reads : (text rest : Text) (session : ℕ) (said : Option Said) → session ≤ 9999 → text ≡ decimal session ++ 32 ∷ rest → SpellsOrNot rest said → SpellsOrShows text session said
reads text rest session (Some s) small e found = record { small = small; rest = rest; session_first = e; says = found }
reads text rest session None small e none = (
  record { small = small; split = inr (rest, e) },
  λ s h. let behind = one_number session session h.rest rest (omega arith) (omega arith) (sym h.session_first ∙ e) in
      none s (subst (λ (t : Text). SpellsSaid t s) behind.1 h.says),
)

-- a word that is no session shows none
pub no_session_alone : (text : Text) → HasNoSpace text → ((session : ℕ) → session ≤ 9999 → text ≡ decimal session → ⊥) → (session : ℕ) → ShowsSession text session → ⊥
no_session_alone text none unread session h = elim h.split [
  | inl e ↦ unread session h.small e
  | inr p ↦ space_within (decimal session) p.0 (subst HasNoSpace p.1 none)
]

-- nor does it with something behind it
pub no_session : (text first rest : Text) → text ≡ first ++ 32 ∷ rest → HasNoSpace first → ((session : ℕ) → session ≤ 9999 → first ≡ decimal session → ⊥) → (session : ℕ) → ShowsSession text session → ⊥
no_session text first rest e none unread session h =
    let small : session ≤ 9999 = h.small in
    let plain = decimal_no_space session (omega arith) in
    elim h.split [
      | inl same ↦ space_within first rest (subst HasNoSpace (sym same ∙ e) plain)
      | inr p ↦ unread session small (one_split first (decimal session) rest p.0 none plain (sym e ∙ p.1)).0
    ]

-- a refusal that is handed on
pub refused : {A : Type 0} (r : Result A Refusal) (e : Refusal) (P : Type 0) → IsErrAnd r (λ f. f ≡ e) → e ≡ Line → P → IfErr r (λ f. (f ≡ Line) × P)
refused (Ok x) e P given is p = tt
refused (Err f) e P given is p = (given ∙ is, p)
