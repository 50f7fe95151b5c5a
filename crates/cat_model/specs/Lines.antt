-- What a line says and the one way to spell it, and the text of a reply. The protocol is our own.
use Rattle.std.specs.Prelude.{◌≡◌, ℕ, ◌<◌, ◌≤◌, ◌^◌, ◌⊎◌, List, [], ◌∷◌, ◌++◌, codes, map, length, IsUtf8, IsTrue, Option, None, Some, IfSome, Ok, Err}
use Rattle.std.specs.List.{flat_map}
use Rattle.std.specs.Option.{option_map_or, unwrap_or}
use Rattle.std.specs.Fmt.{decimal, signed_decimal}
use Rattle.cat_base.specs.declared.refusal.Refusal.{Refusal}
use Rattle.cat_base.specs.declared.refusal.Refusal.TheVariants as refusal
use Rattle.cat_base.specs.Refusals.{number_of}
use Rattle.cat_model.specs.Text.{Text, one_or_none}
use Rattle.cat_model.specs.Item.{has_name_form}
use Rattle.cat_model.specs.Page.{Sort, Key, Entry}
use Rattle.cat_model.specs.Facets.{Counted}
use Rattle.cat_model.specs.Answer.{Found}
use Rattle.cat_model.specs.Run.{Chore, Answer, News, SegmentStat, Reply}
use Rattle.cat_model.specs.Limits.{line_limit, session_limit}

-- ---- lines

-- A command with its arguments as they came: no item, id, query or text of a commit has been looked at. The protocol is
-- our own.
pub data Said : Type 0 where
  put : (item : Text) → Said
  delete : (id : Text) → Said
  delete_where : (query : Text) → Said
  refresh : Said
  open_newest : Said
  open_at : (token : ℕ) → Said
  close : (token : ℕ) → Said
  find : (token n : ℕ) (sort : Sort) (mark : Option ℕ) (query : Text) → Said
  facets : (token : ℕ) (dim : Text) (n : ℕ) (query : Text) → Said
  get : (token : ℕ) (id : Text) → Said
  files_of_token : (token : ℕ) → Said
  files_of_commit : (generation : ℕ) → Said
  commit : (text : Text) → Said
  text_of_commit : (generation : ℕ) → Said
  snapshot : Said
  release_snapshot : (generation : ℕ) → Said
  prune : (n : ℕ) → Said
  chore : Chore → Said

-- the texts with one space between each two
abbrev pub spaced : List Text → Text
spaced [] = []
spaced (t ∷ []) = t
spaced (t ∷ u ∷ ts) = t ++ 32 ∷ spaced (u ∷ ts)

-- a dot for the order of addition, or a sign and the name of a field
abbrev pub sort_text : Sort → Text
sort_text Sort.added = codes "."
sort_text (Sort.rising name) = codes "+" ++ name
sort_text (Sort.falling name) = codes "-" ++ name

-- a dot for no mark, or the number of a record
abbrev pub mark_text : Option ℕ → Text
mark_text mark = option_map_or decimal mark (codes ".")

-- the name of the maintenance
abbrev pub chore_name : Chore → Text
chore_name Chore.merge = codes "MERGE"
chore_name Chore.force = codes "FORCE"
chore_name Chore.warm = codes "WARM"
chore_name Chore.sweep = codes "SWEEP"
chore_name Chore.stat = codes "STAT"

-- The name of the command and its arguments, each spelled. The last one is the rest of the line, whatever it is: an item, an
-- id, a query or the text of a commit, of which the empty one is given by a COMMIT alone.
abbrev pub spelling : Said → List Text
spelling (Said.put item) = codes "PUT" ∷ item ∷ []
spelling (Said.delete id) = codes "DEL" ∷ id ∷ []
spelling (Said.delete_where query) = codes "DELW" ∷ query ∷ []
spelling Said.refresh = codes "REFRESH" ∷ []
spelling Said.open_newest = codes "OPEN" ∷ []
spelling (Said.open_at t) = codes "OPEN" ∷ decimal t ∷ []
spelling (Said.close t) = codes "CLOSE" ∷ decimal t ∷ []
spelling (Said.find t n sort mark query) = codes "FIND" ∷ decimal t ∷ decimal n ∷ sort_text sort ∷ option_map_or decimal mark (codes ".") ∷ query ∷ []
spelling (Said.facets t dim n query) = codes "FACETS" ∷ decimal t ∷ dim ∷ decimal n ∷ query ∷ []
spelling (Said.get t id) = codes "GET" ∷ decimal t ∷ id ∷ []
spelling (Said.files_of_token t) = codes "FILES" ∷ codes "t" ∷ decimal t ∷ []
spelling (Said.files_of_commit g) = codes "FILES" ∷ codes "g" ∷ decimal g ∷ []
spelling (Said.commit text) = codes "COMMIT" ∷ one_or_none text
spelling (Said.text_of_commit g) = codes "NOTE" ∷ decimal g ∷ []
spelling Said.snapshot = codes "SNAP" ∷ []
spelling (Said.release_snapshot g) = codes "UNSNAP" ∷ decimal g ∷ []
spelling (Said.prune n) = codes "PRUNE" ∷ decimal n ∷ []
spelling (Said.chore c) = chore_name c ∷ []

-- a number that may be said: at most `last_number`
abbrev pub IsNumber : ℕ → Type 0
IsNumber n = n < 2 ^ 63

-- the name that a sort goes by has the form of a field's
abbrev pub IsSort : Sort → Type 0
IsSort Sort.added = Unit {0}
IsSort (Sort.rising name) = IsTrue (has_name_form name)
IsSort (Sort.falling name) = IsTrue (has_name_form name)

-- the numbers that are said are below 2^63, and the names have the form of a field's
abbrev pub HasForm : Said → Type 0
HasForm (Said.open_at t) = IsNumber t
HasForm (Said.close t) = IsNumber t
HasForm (Said.find t n sort mark query) = IsNumber t × IsNumber n × IsSort sort × IfSome mark IsNumber
HasForm (Said.facets t dim n query) = IsNumber t × IsTrue (has_name_form dim) × IsNumber n
HasForm (Said.get t id) = IsNumber t
HasForm (Said.files_of_token t) = IsNumber t
HasForm (Said.files_of_commit g) = IsNumber g
HasForm (Said.text_of_commit g) = IsNumber g
HasForm (Said.release_snapshot g) = IsNumber g
HasForm (Said.prune n) = IsNumber n
HasForm _ = Unit {0}

-- the text, behind the session and its space, spells what is said
pub record SpellsSaid (text : Text) (said : Said) : Type 0 where
  pub form : HasForm said
  pub spelled : text ≡ spaced (spelling said)

-- the session stands before the first space, or is the whole line
pub record ShowsSession (line : Text) (session : ℕ) : Type 0 where
  pub small : session ≤ session_limit
  pub split : (line ≡ decimal session) ⊎ ((rest : Text) × (line ≡ decimal session ++ 32 ∷ rest))

-- the line spells the session, and what is said under it
pub record SpellsLine (line : Text) (session : ℕ) (said : Said) : Type 0 where
  pub small : session ≤ session_limit
  pub rest : Text
  pub session_first : line ≡ decimal session ++ 32 ∷ rest
  pub says : SpellsSaid rest said

-- a line that can be read at all: it isn't too long, and is UTF-8
pub record IsReadable (line : Text) : Type 0 where
  pub short : length line ≤ line_limit
  pub utf8 : IsUtf8 line

-- ---- replies

-- a sort key, or a dot where there is none
abbrev pub key_text : Option Key → Text
key_text None = codes "."
key_text (Some (Key.number z)) = signed_decimal z
key_text (Some (Key.keyword k)) = codes "=" ++ k

-- a stored item, or a dot where there is none
abbrev pub source_text : Option Text → Text
source_text stored = unwrap_or stored (codes ".")

-- what maintenance tells
abbrev pub news_words : News → List Text
news_words News.idle = codes "idle" ∷ []
news_words News.busy = codes "busy" ∷ []
news_words (News.begun_merge k) = codes "begun" ∷ decimal k ∷ []
news_words (News.copied r) = codes "copied" ∷ decimal r ∷ []
news_words News.done = codes "done" ∷ []
news_words News.begun_warming = codes "begun" ∷ []
news_words (News.warmed r) = codes "warmed" ∷ decimal r ∷ []
news_words News.stored = codes "stored" ∷ []
news_words (News.swept n) = decimal n ∷ []
news_words (News.state st) =
    decimal st.writes ∷ decimal st.buffered ∷ decimal (length st.segments) ∷ decimal st.views ∷ decimal st.cached ∷ decimal st.pending ∷ []

-- what stands behind OK
abbrev pub answer_words : Answer → List Text
answer_words (Answer.number n) = decimal n ∷ []
answer_words (Answer.found (Found.page p)) = decimal (length p.entries) ∷ decimal p.total ∷ []
answer_words (Answer.found (Found.facets f)) = decimal f.matching ∷ decimal f.met ∷ []
answer_words (Answer.found (Found.source s)) = unwrap_or s (codes ".") ∷ []
answer_words (Answer.names names) = decimal (length names) ∷ []
answer_words (Answer.commit_text text) = (codes "=" ++ text) ∷ []
answer_words (Answer.news news) = news_words news

-- the line of a hit
abbrev pub entry_words : Entry → List Text
entry_words e = decimal e.number ∷ e.id ∷ key_text e.key ∷ []

-- the line of a label
abbrev pub counted_words : Counted → List Text
counted_words c = decimal c.count ∷ c.label ∷ []

-- the line of a segment
abbrev pub segment_words : SegmentStat → List Text
segment_words p = decimal p.number ∷ decimal p.rows ∷ decimal p.live ∷ []

-- the further lines of an answer
abbrev pub further : Answer → List (List Text)
further (Answer.found (Found.page p)) = map (λ e. decimal e.number ∷ e.id ∷ key_text e.key ∷ []) p.entries
further (Answer.found (Found.facets f)) = map (λ c. decimal c.count ∷ c.label ∷ []) f.counts
further (Answer.names names) = map (λ name. name ∷ []) names
further (Answer.news (News.state st)) = map (λ x. decimal x.number ∷ decimal x.rows ∷ decimal x.live ∷ []) st.segments
further _ = []

-- the number of a refusal, and the place where a text is no query
abbrev pub refusal_words : Refusal → List Text
refusal_words (refusal.Query place) = decimal 24 ∷ decimal place ∷ []
refusal_words e = decimal (number_of e) ∷ []

-- the words, and a line feed
abbrev pub line_text : List Text → Text
line_text words = spaced words ++ 10 ∷ []

-- the reply under a session: each of its lines begins with the session
abbrev pub reply_text : ℕ → Reply → Text
reply_text s (Ok a) = line_text (decimal s ∷ codes "OK" ∷ answer_words a) ++ flat_map (λ words. line_text (decimal s ∷ words)) (further a)
reply_text s (Err e) = line_text (decimal s ∷ codes "NO" ∷ refusal_words e)

-- the reply to a line that shows no session, or can't be read
abbrev pub unreadable_text : Text
unreadable_text = codes "? NO 10\n"
