-- No text that a reply shows has a line feed.
use Rattle.std.proofs.Common.{◌≡◌, ◌≢◌, ◌⊎◌, ℕ, ◌+◌, ◌<◌, ◌≤◌, List, [], ◌∷◌, ◌++◌, map, length, ltb, sym, ◌∙◌, refl, ap, subst, arith, codes, true≢false}
use Rattle.std.specs.Prelude.{find, not, ◌&&◌, ◌==◌, option_map, Option, None, Some, Result, Ok, Err, true, false, Bool, cond, IsTrue}
use Rattle.std.specs.List.{flat_map, filter_map, cons_option, list_all, AllByRecursion}
use Rattle.std.specs.Option.{option_map_or}
use Rattle.std.specs.Fmt.{decimal}
use Rattle.std.proofs.lemmas.Bool.{and_parts}
use Rattle.cat_base.specs.declared.refusal.Refusal.{Refusal}
use Rattle.cat_base.specs.declared.refusal.Refusal.TheVariants.{Count, SortField, NotFacet, Mark, Full, Gone, Spent, NotHeld, NoCommit, NoSnapshot, Large, Line as NoForm, Kind as WrongKind}
use Rattle.std.proofs.lemmas.List.Elements.{All-from_recursion, recursion_from_All}
use Rattle.std.proofs.lemmas.Map.Views.{All-insert_key}
use Rattle.cat_base.specs.Texts.{sorted_set}
use Rattle.cat_model.specs.Text.{Text, same_text, text_cmp, IsOneLine}
use Rattle.cat_model.specs.Item.{Item, Schema, Content, FieldContent, Record, kind_of, content_of, labels_in}
use Rattle.cat_model.specs.Write.{Write}
use Rattle.cat_model.specs.Query.{Query}
use Rattle.cat_model.specs.Page.{Sort, hits, key, key_in, before, ranked, first_ranked, rest, page_of}
use Rattle.cat_model.specs.Facets.{labels_of, counted, more, facets_in}
use Rattle.cat_model.specs.Files.{Name, IsFileName, text_of_name}
use Rattle.cat_model.specs.Forms.{is_plain_byte}
use Rattle.cat_model.specs.Limits.{last_number, snapshot_limit, commit_text_limit}
use Rattle.cat_model.specs.Table.{Start, Opened, CommitText, numbered, put_by, stands, table}
use Rattle.cat_model.specs.Answer.{Read, Found, stored, can_sort, has_mark, is_facet_kind, answer, query_refusal}
use Rattle.cat_model.specs.Run.{Chore, Command, News, may_tell, Answer, Reply, Run, writes, now, holds, has, is_held, is_full, view_tokens, commits, generations, commit_under, text_under, newest_commit, snapshots, is_kept, snapshot_of, found_reply, or_not_held, Answers, Stops}
use Rattle.cat_model.specs.Lines.{Said}
use Rattle.cat_model.specs.Heard.{Json, IsCommand, id_of, commit_text_of}
use Rattle.cat_model.specs.Served.{NamesFiles}
use Rattle.cat_model.specs.Talk.{HasOneLines, IsShownInLines}
use Rattle.cat_model.proofs.Lists.{All-both, All-kept}
use Rattle.cat_model.proofs.Runs.{answered}
use Rattle.cat_model.proofs.TalkDigits.{decimal_one_line, decimal_one_word}
use Rattle.cat_model.proofs.TalkLines.{IsOneWord, literal, literal_word, ShownKey, ShownSource, ShownAnswer, Shown}

-- ---- lists

abbrev OfOption : {X : Type 0} → (X → Type 0) → Option X → Type 0
OfOption P None = Unit {0}
OfOption P (Some x) = P x

found_of : {X : Type 0} (P : X → Type 0) (p : X → Bool) (xs : List X) → AllByRecursion P xs → OfOption P (find p xs)
found_of P p [] a = tt
found_of P p (x ∷ xs) a = elim (p x) as (λ b. OfOption P (cond b (Some x) (find p xs))) [ true ↦ a.0 | false ↦ found_of P p xs a.1 ]

kept_of : {X Y : Type 0} (P : Y → Type 0) (f : X → Option Y) → ((x : X) → OfOption P (f x)) → (xs : List X) → AllByRecursion P (filter_map f xs)
kept_of P f g [] = tt
kept_of {Y = Y} P f g (x ∷ xs) = by (kept_of P f g xs) (f x) (g x)
  where
    by : AllByRecursion P (filter_map f xs) → (o : Option Y) → OfOption P o → AllByRecursion P (cons_option o (filter_map f xs))
    by rest None a = rest
    by rest (Some y) a = (a, rest)

ranked_of : {X : Type 0} (P : X → Type 0) (lt : X → X → Bool) (xs : List X) (n : ℕ) → AllByRecursion P xs → AllByRecursion P (first_ranked lt xs n)
ranked_of P lt xs n a = kept_of P (ranked lt xs) (λ k. found_of P _ xs a) _

map_of : {X Y : Type 0} (P : X → Type 0) (Q : Y → Type 0) (f : X → Y) → ((x : X) → P x → Q (f x)) → (xs : List X) → AllByRecursion P xs → AllByRecursion Q (map f xs)
map_of P Q f g [] a = tt
map_of P Q f g (x ∷ xs) a = (g x a.0, map_of P Q f g xs a.1)

flat_of : {X Y : Type 0} (P : X → Type 0) (Q : Y → Type 0) (f : X → List Y) → ((x : X) → P x → AllByRecursion Q (f x)) → (xs : List X) → AllByRecursion P xs → AllByRecursion Q (flat_map f xs)
flat_of P Q f g [] a = tt
flat_of P Q f g (x ∷ xs) a = All-both Q (f x) (flat_map f xs) (g x a.0) (flat_of P Q f g xs a.1)

-- ---- items

-- a record whose item is shown in lines
abbrev pub ShownRecord : Record → Type 0
ShownRecord r = IsShownInLines r.item

mapped_of : {X Y : Type 0} (P : X → Type 0) (Q : Y → Type 0) (f : X → Y) → ((x : X) → P x → Q (f x)) → (o : Option X) → OfOption P o → OfOption Q (option_map f o)
mapped_of P Q f g None a = tt
mapped_of P Q f g (Some x) a = g x a

content_shown : (name : Text) (i : Item) → IsShownInLines i → OfOption HasOneLines (content_of name i)
content_shown name i h = mapped_of {X = FieldContent} (λ p. HasOneLines p.content) HasOneLines (λ p. p.content) (λ p k. k) _ (found_of (λ p. HasOneLines p.content) (λ p. same_text p.name name) i.fields h.fields)

key_in_shown : (c : Option Content) → OfOption HasOneLines c → ShownKey (key_in c)
key_in_shown None a = tt
key_in_shown (Some (Content.words ws)) a = tt
key_in_shown (Some (Content.keyword None)) a = tt
key_in_shown (Some (Content.keyword (Some k))) a = a
key_in_shown (Some (Content.number None)) a = tt
key_in_shown (Some (Content.number (Some z))) a = tt
key_in_shown (Some (Content.labels ls)) a = tt

key_shown : (sort : Sort) (r : Record) → ShownRecord r → ShownKey (key sort r)
key_shown Sort.added r h = tt
key_shown (Sort.rising f) r h = key_in_shown (content_of f r.item) (content_shown f r.item h)
key_shown (Sort.falling f) r h = key_in_shown (content_of f r.item) (content_shown f r.item h)

labels_in_shown : (c : Option Content) → OfOption HasOneLines c → AllByRecursion IsOneLine (labels_in c)
labels_in_shown None a = tt
labels_in_shown (Some (Content.words ws)) a = tt
labels_in_shown (Some (Content.keyword k)) a = tt
labels_in_shown (Some (Content.number z)) a = tt
labels_in_shown (Some (Content.labels ls)) a = a

-- ---- reads

rest_shown : (sort : Sort) (rs : List Record) (mark : Option ℕ) (hs : List Record) → AllByRecursion ShownRecord hs → AllByRecursion ShownRecord (rest sort rs mark hs)
rest_shown sort rs None hs a = a
rest_shown sort rs (Some mark) hs a = All-kept ShownRecord _ hs a

page_shown : (rs : List Record) (q : Query) (sort : Sort) (mark : Option ℕ) (n : ℕ) → AllByRecursion ShownRecord rs → ShownAnswer (Answer.found (Found.page (page_of rs q sort mark n)))
page_shown rs q sort mark n a =
    map_of ShownRecord (λ e. IsOneLine e.id × ShownKey e.key) _ (λ r h. (h.id, key_shown sort r h)) _
    (ranked_of ShownRecord (before sort) (rest sort rs mark (hits rs q)) n (rest_shown sort rs mark (hits rs q) (All-kept ShownRecord _ rs a)))

sorted_shown : (ls : List Text) → AllByRecursion IsOneLine ls → AllByRecursion IsOneLine (sorted_set ls)
sorted_shown [] a = tt
sorted_shown (l ∷ ls) a = recursion_from_All IsOneLine _ (All-insert_key text_cmp l IsOneLine (sorted_set ls) (All-from_recursion IsOneLine (sorted_set ls) (sorted_shown ls a.1)) a.0)

facets_shown : (rs : List Record) (q : Query) (dim : Text) (n : ℕ) → AllByRecursion ShownRecord rs → ShownAnswer (Answer.found (Found.facets (facets_in rs q dim n)))
facets_shown rs q dim n a =
    ranked_of (λ c. IsOneLine c.label) more _ n
    (map_of IsOneLine (λ c. IsOneLine c.label) (counted dim (hits rs q)) (λ l h. h) _
    (sorted_shown (flat_map (labels_of dim) (hits rs q)) (flat_of ShownRecord IsOneLine (labels_of dim) (λ r h. labels_in_shown (content_of dim r.item) (content_shown dim r.item h)) (hits rs q) (All-kept ShownRecord _ rs a))))

source_shown : (o : Option Text) → OfOption IsOneLine o → ShownSource o
source_shown None a = tt
source_shown (Some s) a = a

read_shown : (schema : Schema) (rs : List Record) (asked : Read) → AllByRecursion ShownRecord rs → Shown (found_reply (answer schema rs asked))
read_shown schema rs (Read.find n sort mark (Err e)) a = tt
read_shown schema rs (Read.find n sort mark (Ok q)) a =
    elim (ltb 1000 n) as (λ b. Shown (found_reply (cond b (Err Count) (cond (can_sort schema sort) (cond (has_mark rs mark) (Ok (Found.page (page_of rs q sort mark n))) (Err Mark)) (Err SortField))))) [
      | true ↦ tt
      | false ↦ elim (can_sort schema sort) as (λ b. Shown (found_reply (cond b (cond (has_mark rs mark) (Ok (Found.page (page_of rs q sort mark n))) (Err Mark)) (Err SortField)))) [
        | true ↦ elim (has_mark rs mark) as (λ b. Shown (found_reply (cond b (Ok (Found.page (page_of rs q sort mark n))) (Err Mark)))) [ true ↦ page_shown rs q sort mark n a | false ↦ tt ]
        | false ↦ tt
      ]
    ]
read_shown schema rs (Read.facets dim n (Err e)) a = tt
read_shown schema rs (Read.facets dim n (Ok q)) a =
    elim (is_facet_kind (kind_of schema dim)) as (λ b. Shown (found_reply (cond b (cond (ltb 1000 n) (Err Count) (Ok (Found.facets (facets_in rs q dim n)))) (Err NotFacet)))) [
      | true ↦ elim (ltb 1000 n) as (λ b. Shown (found_reply (cond b (Err Count) (Ok (Found.facets (facets_in rs q dim n)))))) [ true ↦ tt | false ↦ facets_shown rs q dim n a ]
      | false ↦ tt
    ]
read_shown schema rs (Read.get (Err e)) a = tt
read_shown schema rs (Read.get (Ok id)) a = source_shown (stored rs id) (mapped_of {X = Record} ShownRecord IsOneLine (λ r. r.item.source) (λ r h. h.source) _ (found_of ShownRecord (λ r. same_text r.item.id id) rs a))

-- ---- tables

-- an item that is put is shown in lines
abbrev pub ShownWrite : Write → Type 0
ShownWrite (Write.put i) = IsShownInLines i
ShownWrite (Write.delete id) = Unit {0}
ShownWrite (Write.delete_where q) = Unit {0}

puts_shown : (n : ℕ) (ws : List Write) → AllByRecursion ShownWrite ws → AllByRecursion ShownRecord (filter_map put_by (numbered n ws))
puts_shown n [] a = tt
puts_shown n (Write.put i ∷ ws) a = (a.0, puts_shown (n + 1) ws a.1)
puts_shown n (Write.delete id ∷ ws) a = puts_shown (n + 1) ws a.1
puts_shown n (Write.delete_where q ∷ ws) a = puts_shown (n + 1) ws a.1

pub table_shown : (start : Start) (ws : List Write) (t : ℕ) → AllByRecursion ShownRecord start.records → AllByRecursion ShownWrite ws → AllByRecursion ShownRecord (table start ws t)
table_shown start ws t a b = All-kept ShownRecord (stands t (numbered start.token ws)) _ (All-both ShownRecord start.records _ a (puts_shown start.token ws b))

-- ---- replies

number_shown : (b : Bool) (m : ℕ) (a : Answer) (e : Refusal) → ◌≡◌ {A = Reply} (Ok a) (cond b (Ok (Answer.number m)) (Err e)) → ShownAnswer a
number_shown true m a e h = subst Shown (sym h) tt
number_shown false m a e h = subst Shown (sym h) tt

refused_shown : (o : Option Refusal) → Shown (or_not_held o)
refused_shown None = tt
refused_shown (Some e) = tt

-- ---- names of files, and texts of commits

answer_is : (a b : Answer) → ◌≡◌ {A = Reply} (Ok a) (Ok b) → a ≡ b
answer_is a b e = cc e

text_is : (a b : Text) → ◌≡◌ {A = Result Text Refusal} (Ok a) (Ok b) → a ≡ b
text_is a b e = cc e

plain_line : (t : Text) → list_all is_plain_byte t ≡ true → IsOneLine t
plain_line [] h = tt
plain_line (b ∷ t) h =
    let parts = and_parts (is_plain_byte b) (list_all is_plain_byte t) h in
    (λ e. true≢false (sym parts.0 ∙ ap is_plain_byte e), plain_line t parts.1)

-- the names of the answer are those of files
abbrev AnswersFiles : Answer → Type 0
AnswersFiles a = NamesFiles (Ok a)

-- a name that begins with a low line and a number
numbered_name : (n : ℕ) (rest : Text) → IsOneLine rest → IsOneWord rest → IsOneLine (95 ∷ (decimal n ++ rest)) × IsOneWord (95 ∷ (decimal n ++ rest))
numbered_name n rest a b = (
  (λ e. omega (arith, e), All-both (λ b. b ≢ 10) (decimal n) rest (decimal_one_line n) a),
  (λ e. omega (arith, e), All-both (λ b. b ≢ 32) (decimal n) rest (decimal_one_word n) b),
)

name_shown : (name : Name) → IsFileName name → IsOneLine (text_of_name name) × IsOneWord (text_of_name name)
name_shown (Name.segment n) form = numbered_name n (codes ".seg") (literal (codes ".seg") refl) (literal_word (codes ".seg") refl)
name_shown (Name.source n) form = numbered_name n (codes ".sto") (literal (codes ".sto") refl) (literal_word (codes ".sto") refl)
name_shown (Name.live n d) form =
    let generation : Text = decimal d ++ codes ".liv" in
    numbered_name n (95 ∷ generation)
    (λ e. omega (arith, e), All-both (λ b. b ≢ 10) (decimal d) (codes ".liv") (decimal_one_line d) (literal (codes ".liv") refl))
    (λ e. omega (arith, e), All-both (λ b. b ≢ 32) (decimal d) (codes ".liv") (decimal_one_word d) (literal_word (codes ".liv") refl))
name_shown (Name.commit g) form = (
  All-both (λ b. b ≢ 10) (codes "segments_") (decimal g) (literal (codes "segments_") refl) (decimal_one_line g),
  All-both (λ b. b ≢ 32) (codes "segments_") (decimal g) (literal_word (codes "segments_") refl) (decimal_one_word g),
)

names_shown : (ns : List Text) → NamesFiles (Ok (Answer.names ns)) → ShownAnswer (Answer.names ns)
names_shown ns n =
    subst (AllByRecursion (λ t. IsOneLine t × IsOneWord t)) (sym n.2) (map_of {X = Name} IsFileName (λ t. IsOneLine t × IsOneWord t) text_of_name name_shown n.0 n.1)

files_shown : (b : Bool) (a : Answer) (e : Refusal) → cond b ((ns : List Text) × ◌≡◌ {A = Reply} (Ok a) (Ok (Answer.names ns))) (◌≡◌ {A = Reply} (Ok a) (Err e)) → NamesFiles (Ok a) → ShownAnswer a
files_shown true a e f n = let is : a ≡ Answer.names f.0 = answer_is a (Answer.names f.0) f.1 in subst ShownAnswer (sym is) (names_shown f.0 (subst AnswersFiles is n))
files_shown false a e f n = subst Shown (sym f) tt

-- the text of a commit of the run has no line feed
abbrev pub ShownText : CommitText → Type 0
ShownText c = IsOneLine c.text

text_shown : (o : Option CommitText) → OfOption ShownText o → IsOneLine (option_map_or (λ c. c.text) o [])
text_shown None a = tt
text_shown (Some c) a = a

note_shown : (b : Bool) (t : Text) (a : Answer) (e : Refusal) → IsOneLine t → ◌≡◌ {A = Reply} (Ok a) (cond b (Ok (Answer.commit_text t)) (Err e)) → ShownAnswer a
note_shown true t a e one h = subst Shown (sym h) one
note_shown false t a e one h = subst Shown (sym h) tt

-- a text that may be a commit's
pub text_line : (t : Text) (u : Text) → commit_text_of t ≡ Ok u → IsOneLine u
text_line t u e = by (ltb commit_text_limit (length t)) (list_all is_plain_byte t) refl e
  where
    by : (long plain : Bool) → list_all is_plain_byte t ≡ plain → ◌≡◌ {A = Result Text Refusal} (cond long (Err Large) (cond plain (Ok t) (Err WrongKind))) (Ok u) → IsOneLine u
    by true plain is k = absurd (cc k)
    by false true is k = let same : t ≡ u = text_is t u k in subst IsOneLine same (plain_line t is)
    by false false is k = absurd (cc k)

chore_shown : (b : Bool) (c : Chore) (a : Answer) → cond b ((n : News) × ◌≡◌ {A = Reply} (Ok a) (Ok (Answer.news n)) × IsTrue (may_tell c n)) (◌≡◌ {A = Reply} (Ok a) (Err NoForm)) → ShownAnswer a
chore_shown true c a f = subst Shown (sym f.1) tt
chore_shown false c a f = subst Shown (sym f) tt

commit_shown : (b : Bool) (gs : List ℕ) (a : Answer)
    → cond b ((g : ℕ) × ◌≡◌ {A = Reply} (Ok a) (Ok (Answer.number g)) × (0 < g) × (g ≤ last_number) × IsTrue (list_all (λ h. ltb h g) gs)) (◌≡◌ {A = Reply} (Ok a) (Err Spent)) → ShownAnswer a
commit_shown true gs a f = subst Shown (sym f.1) tt
commit_shown false gs a f = subst Shown (sym f) tt

snapshot_shown : (taken : ℕ → ℕ) (o : Option ℕ) (a : Answer) → ◌≡◌ {A = Reply} (Ok a) (snapshot_of taken o) → ShownAnswer a
snapshot_shown taken None a h = subst Shown (sym h) tt
snapshot_shown taken (Some g) a h = number_shown (ltb (taken g) snapshot_limit) g a Spent h

module _ (json : Json) (from : Opened) (past : Run) (s : ℕ) (shown : AllByRecursion ShownRecord from.start.records) (puts : AllByRecursion ShownWrite (writes past)) (texts : AllByRecursion ShownText (commits from past)) where
  write_told : (e : Refusal) (a : Answer) → ◌≡◌ {A = Reply} (Ok a) (Err e) → ShownAnswer a
  write_told e a g = subst Shown (sym g) tt

  read_told : (t : ℕ) (asked : Read) (c : Command) (a : Answer) → c ≡ Command.read t asked → Answers from past s c (Ok a) → ShownAnswer a
  read_told t asked c a is f =
      let g : ◌≡◌ {A = Reply} (Ok a) (cond (holds s t past) (found_reply (answer from.start.schema (table from.start (writes past) t) asked)) (or_not_held (query_refusal asked))) = subst (λ d. Answers from past s d (Ok a)) is f in
      subst Shown (sym g) (elim (holds s t past) as (λ b. Shown (cond b (found_reply (answer from.start.schema (table from.start (writes past) t) asked)) (or_not_held (query_refusal asked)))) [
        | true ↦ read_shown from.start.schema (table from.start (writes past) t) asked (table_shown from.start (writes past) t shown puts)
        | false ↦ refused_shown (query_refusal asked)
      ])

  -- whatever is said, the reply is shown in lines, where its names are those of files
  pub answer_shown : (said : Said) (c : Command) (a : Answer) → NamesFiles (Ok a) → IsCommand json from.start.schema said c → Answers from past s c (Ok a) → ShownAnswer a
  answer_shown (Said.put text) c a n is f = by (json.item_of from.start.schema text) (subst (λ d. Answers from past s d (Ok a)) is f)
    where
      by : (r : Result Item Refusal) → Answers from past s (Command.put r) (Ok a) → ShownAnswer a
      by (Ok i) g = number_shown _ _ a Spent g
      by (Err e) g = write_told e a g
  answer_shown (Said.delete text) c a n is f = by (id_of text) (subst (λ d. Answers from past s d (Ok a)) is f)
    where
      by : (r : Result Text Refusal) → Answers from past s (Command.delete r) (Ok a) → ShownAnswer a
      by (Ok i) g = number_shown _ _ a Spent g
      by (Err e) g = write_told e a g
  answer_shown (Said.delete_where text) c a n is f = by is.0 (subst (λ d. Answers from past s d (Ok a)) is.2 f)
    where
      by : (r : Result Query Refusal) → Answers from past s (Command.delete_where r) (Ok a) → ShownAnswer a
      by (Ok q) g = number_shown _ _ a Spent g
      by (Err e) g = write_told e a g
  answer_shown Said.refresh c a n is f =
      let g : ◌≡◌ {A = Reply} (Ok a) (cond (not (has (view_tokens from.start past) (now from.start past)) && is_full (is_held past) (view_tokens from.start past)) (Err Full) (Ok (Answer.number (now from.start past)))) = subst (λ d. Answers from past s d (Ok a)) is f in
      subst Shown (sym g) (elim (not (has (view_tokens from.start past) (now from.start past)) && is_full (is_held past) (view_tokens from.start past)) as (λ b. Shown (cond b (Err Full) (Ok (Answer.number (now from.start past))))) [ true ↦ tt | false ↦ tt ])
  answer_shown Said.open_newest c a n is f = subst Shown (sym (subst (λ d. Answers from past s d (Ok a)) is f)) tt
  answer_shown (Said.open_at t) c a n is f = number_shown _ _ a Gone (subst (λ d. Answers from past s d (Ok a)) is f)
  answer_shown (Said.close t) c a n is f = number_shown _ _ a NotHeld (subst (λ d. Answers from past s d (Ok a)) is f)
  answer_shown (Said.find t m sort mark text) c a n is f = read_told t (Read.find m sort mark is.0) c a is.2 f
  answer_shown (Said.facets t dim m text) c a n is f = read_told t (Read.facets dim m is.0) c a is.2 f
  answer_shown (Said.get t text) c a n is f = read_told t (Read.get (id_of text)) c a is f
  answer_shown (Said.files_of_token t) c a n is f = files_shown (holds s t past) a NotHeld (subst (λ d. Answers from past s d (Ok a)) is f) n
  answer_shown (Said.files_of_commit g) c a n is f = files_shown (is_kept from past g) a NoCommit (subst (λ d. Answers from past s d (Ok a)) is f) n
  answer_shown (Said.commit text) c a n is f = by (commit_text_of text) (subst (λ d. Answers from past s d (Ok a)) is f)
    where
      by : (r : Result Text Refusal) → Answers from past s (Command.commit r) (Ok a) → ShownAnswer a
      by (Ok t) g = commit_shown (list_all (λ h. ltb h last_number) (generations from past)) (generations from past) a g
      by (Err e) g = write_told e a g
  answer_shown (Said.text_of_commit g) c a n is f =
      note_shown (is_kept from past g) (text_under (commits from past) g) a NoCommit
      (text_shown (commit_under (commits from past) g) (found_of ShownText (λ x. x.generation == g) (commits from past) texts))
      (subst (λ d. Answers from past s d (Ok a)) is f)
  answer_shown Said.snapshot c a n is f = snapshot_shown (snapshots past) (newest_commit from past) a (subst (λ d. Answers from past s d (Ok a)) is f)
  answer_shown (Said.release_snapshot g) c a n is f = number_shown _ _ a NoSnapshot (subst (λ d. Answers from past s d (Ok a)) is f)
  answer_shown (Said.prune m) c a n is f = subst Shown (sym (subst (λ d. Answers from past s d (Ok a)) is f)) tt
  answer_shown (Said.chore what) c a n is f = chore_shown (s == 0) what a (subst (λ d. Answers from past s d (Ok a)) is f)

  pub reply_shown : (said : Said) (c : Command) (r : Reply) → NamesFiles r → IsCommand json from.start.schema said c → Answers from past s c r ⊎ Stops from past s c r → Shown r
  reply_shown said c (Ok a) n is f = answer_shown said c a n is (answered from past s c a f)
  reply_shown said c (Err e) n is f = tt

  pub formless_shown : (c : Command) (r : Reply) → c ≡ Command.formless → Answers from past s c r ⊎ Stops from past s c r → Shown r
  formless_shown c (Ok a) is f = subst Shown (sym (subst (λ d. Answers from past s d (Ok a)) is (answered from past s c a f))) tt
  formless_shown c (Err e) is f = tt
