-- What is heard of a line: the command that it says, once its item, id, query or text is looked at. The rules are our own.
use Rattle.std.specs.Prelude.{◌≡◌, ℕ, ltb, length, Result, Ok, Err, cond}
use Rattle.std.specs.List.{list_all}
use Rattle.cat_base.specs.declared.refusal.Refusal.{Refusal}
use Rattle.cat_base.specs.declared.refusal.Refusal.TheVariants.{Id, Large, Kind as WrongKind, Query as NoQuery}
use Rattle.cat_model.specs.Text.{Text}
use Rattle.cat_model.specs.Item.{Schema, Item, is_id}
use Rattle.cat_model.specs.Forms.{is_plain_byte}
use Rattle.cat_model.specs.Limits.{commit_text_limit}
use Rattle.cat_model.specs.Query.{Query}
use Rattle.cat_model.specs.Grammar.{Spells}
use Rattle.cat_model.specs.Faults.{Fault}
use Rattle.cat_model.specs.Answer.{Read}
use Rattle.cat_model.specs.Run.{Command, Line}
use Rattle.cat_model.specs.Lines.{Said, ShowsSession, SpellsLine, IsReadable}

-- how texts of JSON are read, which cat_items says
pub record Json : Type 0 where
  pub schema_of : Text → Result Schema Refusal
  pub item_of : Schema → Text → Result Item Refusal

-- the id that the text is, or the refusal of one that has the wrong form
abbrev pub id_of : Text → Result Text Refusal
id_of t = cond (is_id t) (Ok t) (Err Id)

-- the text of a commit that the text is, or the refusal of one that is too long or, else, has a control character
abbrev pub commit_text_of : Text → Result Text Refusal
commit_text_of t = cond (ltb commit_text_limit (length t)) (Err Large) (cond (list_all is_plain_byte t) (Ok t) (Err WrongKind))

-- the query that a text spells, or the place of its fault
pub data IsQueryOf (schema : Schema) (text : Text) : Result Query Refusal → Type 0 where
  spelled : (q : Query) → Spells schema text q → IsQueryOf schema text (Ok q)
  faulty : (place : ℕ) → Fault schema text place → IsQueryOf schema text (Err (NoQuery place))

-- what is said is this command under the schema
abbrev pub IsCommand : Json → Schema → Said → Command → Type 0
IsCommand json schema (Said.put text) c = c ≡ Command.put (json.item_of schema text)
IsCommand json schema (Said.delete text) c = c ≡ Command.delete (id_of text)
IsCommand json schema (Said.delete_where text) c =
    (q : Result Query Refusal) × IsQueryOf schema text q × (c ≡ Command.delete_where q)
IsCommand json schema Said.refresh c = c ≡ Command.refresh
IsCommand json schema Said.open_newest c = c ≡ Command.open_newest
IsCommand json schema (Said.open_at t) c = c ≡ Command.open_at t
IsCommand json schema (Said.close t) c = c ≡ Command.close t
IsCommand json schema (Said.find t n sort mark text) c =
    (q : Result Query Refusal) × IsQueryOf schema text q × (c ≡ Command.read t (Read.find n sort mark q))
IsCommand json schema (Said.facets t dim n text) c =
    (q : Result Query Refusal) × IsQueryOf schema text q × (c ≡ Command.read t (Read.facets dim n q))
IsCommand json schema (Said.get t text) c = c ≡ Command.read t (Read.get (id_of text))
IsCommand json schema (Said.files_of_token t) c = c ≡ Command.files_of_token t
IsCommand json schema (Said.files_of_commit g) c = c ≡ Command.files_of_commit g
IsCommand json schema (Said.commit text) c = c ≡ Command.commit (commit_text_of text)
IsCommand json schema (Said.text_of_commit g) c = c ≡ Command.text_of_commit g
IsCommand json schema Said.snapshot c = c ≡ Command.snapshot
IsCommand json schema (Said.release_snapshot g) c = c ≡ Command.release_snapshot g
IsCommand json schema (Said.prune n) c = c ≡ Command.prune n
IsCommand json schema (Said.chore what) c = c ≡ Command.chore what

-- nothing that can be read, or a line
pub data Heard : Type 0 where
  unreadable : Heard
  a_line : Line → Heard

-- What is heard of the bytes of a line: what they spell under their session; a line without a form, where they show a session
-- and spell nothing under it; or nothing that can be read.
pub data Hears (json : Json) (schema : Schema) (bytes : Text) : Heard → Type 0 where
  spelled : (session : ℕ) (said : Said) (c : Command) → IsReadable bytes → SpellsLine bytes session said
      → IsCommand json schema said c
      → Hears json schema bytes (Heard.a_line (record { session = session; command = c }))
  formless : (session : ℕ) → IsReadable bytes → ShowsSession bytes session
      → ((said : Said) → SpellsLine bytes session said → ⊥)
      → Hears json schema bytes (Heard.a_line (record { session = session; command = Command.formless }))
  unreadable : (IsReadable bytes → (session : ℕ) → ShowsSession bytes session → ⊥) → Hears json schema bytes Heard.unreadable
