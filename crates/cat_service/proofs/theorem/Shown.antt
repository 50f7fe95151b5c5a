-- No line of a page or of counts has a line feed within it, whatever stands in sources.
use Rattle.std.proofs.Common.{inl, inr, ◌≡◌, ◌≢◌, ℕ, ◌+◌, List, [], ◌∷◌, ◌++◌, map, ltb, sym, ◌∙◌, refl, ap, subst, codes}
use Rattle.std.specs.Prelude.{find, option_map, Option, None, Some, Result, Ok, Err, true, false, Bool, cond}
use Rattle.std.specs.List.{flat_map, filter_map, cons_option, AllByRecursion}
use Rattle.std.specs.Fmt.{decimal}
use Rattle.cat_base.specs.declared.refusal.Refusal.{Refusal}
use Rattle.cat_base.specs.declared.refusal.Refusal.TheVariants.{Count, SortField, NotFacet, Mark}
use Rattle.std.proofs.lemmas.List.Elements.{All-from_recursion, recursion_from_All}
use Rattle.std.proofs.lemmas.Map.Views.{All-insert_key}
use Rattle.cat_base.specs.Texts.{sorted_set}
use Rattle.cat_model.specs.Text.{Text, same_text, text_cmp, IsOneLine}
use Rattle.cat_model.specs.Item.{Item, Schema, IsSchema, Content, FieldContent, Record, kind_of, content_of, labels_in}
use Rattle.cat_model.specs.Write.{Write}
use Rattle.cat_model.specs.Query.{Query}
use Rattle.cat_model.specs.Page.{Sort, hits, key, key_in, before, ranked, first_ranked, rest, page_of}
use Rattle.cat_model.specs.Facets.{labels_of, counted, more, facets_in}
use Rattle.cat_model.specs.Table.{Start, Opened, numbered, put_by, stands, table}
use Rattle.cat_model.specs.Answer.{Read, Found, can_sort, has_mark, is_facet_kind, answer}
use Rattle.cat_model.specs.Run.{Command, Answer, Exchange, accepted, accepted_by, writes, found_reply}
use Rattle.cat_model.specs.Lines.{spaced, spelling}
use Rattle.cat_model.specs.Heard.{Json, Hears}
use Rattle.cat_model.specs.Served.{Outcome, heard, exchange}
use Rattle.cat_model.specs.Talk.{HasOneLines, IsShownInLines, ReadsLines}
use Rattle.cat_model.proofs.Lists.{All-both, All-kept}
use Rattle.cat_model.proofs.TalkHeard.{Entry, run_of, Heeded, heard_line}
use Rattle.cat_model.proofs.TalkHolds.{all_split}
use Rattle.cat_model.proofs.TalkWrites.{Makes, asks}
use Rattle.cat_model.proofs.TalkLines.{ShownKey, ShownAnswer, Shown}
use Rattle.cat_service.proofs.theorem.Told.{PartShown, PartRecord}

-- ---- lists

abbrev OfOption : {X : Type 0} → (X → Type 0) → Option X → Type 0
OfOption P None = Unit {0}
OfOption P (Some x) = P x

found_of : {X : Type 0} (P : X → Type 0) (p : X → Bool) (xs : List X) → AllByRecursion P xs → OfOption P (find p xs)
found_of P p [] a = tt
found_of P p (x ∷ xs) a = elim (p x) as (λ b. OfOption P (cond b (Some x) (find p xs))) [ true ↦ a.0 | false ↦ found_of P p xs a.1 ]

kept_of : {X Y : Type 0} (P : Y → Type 0) (f : X → Option Y) → ((x : X) → OfOption P (f x)) → (xs : List X) → AllByRecursion P (filter_map f xs)
kept_of P f g [] = tt
kept_of {Y = Y} P f g (x ∷ xs) = by (kept_of P f g xs) (f x) (g x)
  where
    by : AllByRecursion P (filter_map f xs) → (o : Option Y) → OfOption P o → AllByRecursion P (cons_option o (filter_map f xs))
    by rest None a = rest
    by rest (Some y) a = (a, rest)

ranked_of : {X : Type 0} (P : X → Type 0) (lt : X → X → Bool) (xs : List X) (n : ℕ) → AllByRecursion P xs → AllByRecursion P (first_ranked lt xs n)
ranked_of P lt xs n a = kept_of P (ranked lt xs) (λ k. found_of P _ xs a) _

map_of : {X Y : Type 0} (P : X → Type 0) (Q : Y → Type 0) (f : X → Y) → ((x : X) → P x → Q (f x)) → (xs : List X) → AllByRecursion P xs → AllByRecursion Q (map f xs)
map_of P Q f g [] a = tt
map_of P Q f g (x ∷ xs) a = (g x a.0, map_of P Q f g xs a.1)

flat_of : {X Y : Type 0} (P : X → Type 0) (Q : Y → Type 0) (f : X → List Y) → ((x : X) → P x → AllByRecursion Q (f x)) → (xs : List X) → AllByRecursion P xs → AllByRecursion Q (flat_map f xs)
flat_of P Q f g [] a = tt
flat_of P Q f g (x ∷ xs) a = All-both Q (f x) (flat_map f xs) (g x a.0) (flat_of P Q f g xs a.1)

mapped_of : {X Y : Type 0} (P : X → Type 0) (Q : Y → Type 0) (f : X → Y) → ((x : X) → P x → Q (f x)) → (o : Option X) → OfOption P o → OfOption Q (option_map f o)
mapped_of P Q f g None a = tt
mapped_of P Q f g (Some x) a = g x a

content_shown : (name : Text) (i : Item) → PartShown i → OfOption HasOneLines (content_of name i)
content_shown name i h = mapped_of {X = FieldContent} (λ p. HasOneLines p.content) HasOneLines (λ p. p.content) (λ p k. k) _ (found_of (λ p. HasOneLines p.content) (λ p. same_text p.name name) i.fields h.fields)

key_in_shown : (c : Option Content) → OfOption HasOneLines c → ShownKey (key_in c)
key_in_shown None a = tt
key_in_shown (Some (Content.words ws)) a = tt
key_in_shown (Some (Content.keyword None)) a = tt
key_in_shown (Some (Content.keyword (Some k))) a = a
key_in_shown (Some (Content.number None)) a = tt
key_in_shown (Some (Content.number (Some z))) a = tt
key_in_shown (Some (Content.labels ls)) a = tt

key_shown : (sort : Sort) (r : Record) → PartRecord r → ShownKey (key sort r)
key_shown Sort.added r h = tt
key_shown (Sort.rising f) r h = key_in_shown (content_of f r.item) (content_shown f r.item h)
key_shown (Sort.falling f) r h = key_in_shown (content_of f r.item) (content_shown f r.item h)

labels_in_shown : (c : Option Content) → OfOption HasOneLines c → AllByRecursion IsOneLine (labels_in c)
labels_in_shown None a = tt
labels_in_shown (Some (Content.words ws)) a = tt
labels_in_shown (Some (Content.keyword k)) a = tt
labels_in_shown (Some (Content.number z)) a = tt
labels_in_shown (Some (Content.labels ls)) a = a

-- ---- reads

rest_shown : (sort : Sort) (rs : List Record) (mark : Option ℕ) (hs : List Record) → AllByRecursion PartRecord hs → AllByRecursion PartRecord (rest sort rs mark hs)
rest_shown sort rs None hs a = a
rest_shown sort rs (Some mark) hs a = All-kept PartRecord _ hs a

page_shown : (rs : List Record) (q : Query) (sort : Sort) (mark : Option ℕ) (n : ℕ) → AllByRecursion PartRecord rs → ShownAnswer (Answer.found (Found.page (page_of rs q sort mark n)))
page_shown rs q sort mark n a =
    map_of PartRecord (λ e. IsOneLine e.id × ShownKey e.key) _ (λ r h. (h.id, key_shown sort r h)) _
    (ranked_of PartRecord (before sort) (rest sort rs mark (hits rs q)) n (rest_shown sort rs mark (hits rs q) (All-kept PartRecord _ rs a)))

sorted_shown : (ls : List Text) → AllByRecursion IsOneLine ls → AllByRecursion IsOneLine (sorted_set ls)
sorted_shown [] a = tt
sorted_shown (l ∷ ls) a = recursion_from_All IsOneLine _ (All-insert_key text_cmp l IsOneLine (sorted_set ls) (All-from_recursion IsOneLine (sorted_set ls) (sorted_shown ls a.1)) a.0)

facets_shown : (rs : List Record) (q : Query) (dim : Text) (n : ℕ) → AllByRecursion PartRecord rs → ShownAnswer (Answer.found (Found.facets (facets_in rs q dim n)))
facets_shown rs q dim n a =
    ranked_of (λ c. IsOneLine c.label) more _ n
    (map_of IsOneLine (λ c. IsOneLine c.label) (counted dim (hits rs q)) (λ l h. h) _
    (sorted_shown (flat_map (labels_of dim) (hits rs q)) (flat_of PartRecord IsOneLine (labels_of dim) (λ r h. labels_in_shown (content_of dim r.item) (content_shown dim r.item h)) (hits rs q) (All-kept PartRecord _ rs a))))

-- ---- tables

-- of an item that is put, no text that a page shows has a line feed
abbrev pub PartWrite : Write → Type 0
PartWrite (Write.put i) = PartShown i
PartWrite (Write.delete id) = Unit {0}
PartWrite (Write.delete_where q) = Unit {0}

part : {i : Item} → IsShownInLines i → PartShown i
part a = record { id = a.id; fields = a.fields }

puts_shown : (n : ℕ) (ws : List Write) → AllByRecursion PartWrite ws → AllByRecursion PartRecord (filter_map put_by (numbered n ws))
puts_shown n [] a = tt
puts_shown n (Write.put i ∷ ws) a = (a.0, puts_shown (n + 1) ws a.1)
puts_shown n (Write.delete id ∷ ws) a = puts_shown (n + 1) ws a.1
puts_shown n (Write.delete_where q ∷ ws) a = puts_shown (n + 1) ws a.1

table_shown : (start : Start) (ws : List Write) (t : ℕ) → AllByRecursion PartRecord start.records → AllByRecursion PartWrite ws → AllByRecursion PartRecord (table start ws t)
table_shown start ws t a b = All-kept PartRecord (stands t (numbered start.token ws)) _ (All-both PartRecord start.records _ a (puts_shown start.token ws b))

-- ---- what a search shows

pub page_told : (schema : Schema) (rs : List Record) (m : ℕ) (sort : Sort) (mark : Option ℕ) (r : Result Query Refusal) → AllByRecursion PartRecord rs → Shown (found_reply (answer schema rs (Read.find m sort mark r)))
page_told schema rs n sort mark (Err e) a = tt
page_told schema rs n sort mark (Ok q) a = by (ltb 1000 n) (can_sort schema sort) (has_mark rs mark)
  where
    by : (large sorts marks : Bool) → Shown (found_reply (cond large (Err Count) (cond sorts (cond marks (Ok (Found.page (page_of rs q sort mark n))) (Err Mark)) (Err SortField))))
    by true sorts marks = tt
    by false true true = page_shown rs q sort mark n a
    by false true false = tt
    by false false marks = tt

pub facets_told : (schema : Schema) (rs : List Record) (dim : Text) (m : ℕ) (r : Result Query Refusal) → AllByRecursion PartRecord rs → Shown (found_reply (answer schema rs (Read.facets dim m r)))
facets_told schema rs dim n (Err e) a = tt
facets_told schema rs dim n (Ok q) a = by (is_facet_kind (kind_of schema dim)) (ltb 1000 n)
  where
    by : (kind large : Bool) → Shown (found_reply (cond kind (cond large (Err Count) (Ok (Found.facets (facets_in rs q dim n)))) (Err NotFacet)))
    by true true = tt
    by true false = facets_shown rs q dim n a
    by false large = tt

-- ---- the writes of a run

module _ (json : Json) (from : Opened) (reads : ReadsLines json) (sound : IsSchema from.start.schema) where
  makes_shown : (text : Text) (w : Write) → IsOneLine text → Makes json from.start.schema text w → PartWrite w
  makes_shown text w one (Makes.put_it a i e k is) =
      let whole : IsOneLine (codes "PUT " ++ a) = subst IsOneLine e one in
      subst PartWrite (sym is) (part (reads from.start.schema a i sound whole.1.1.1.1 k))
  makes_shown text w one (Makes.delete_it a e is) = subst PartWrite (sym is) tt
  makes_shown text w one (Makes.delete_where_it a q e k is) = subst PartWrite (sym is) tt

  write_shown : (e : Entry) (x : Exchange) (w : Write) → Hears json from.start.schema e.line (heard e.told) → IsOneLine e.line → e.told ≡ Outcome.replied x → accepted x ≡ Some w → PartWrite w
  write_shown e x w h one is some =
      elim (heard_line json from.start.schema e.line (heard e.told) x.line h (ap heard is)) [
        | inl so ↦
            let a = asks json from.start.schema so.said x.line.command x.reply w so.is some in
            let whole : e.line ≡ decimal x.line.session ++ 32 ∷ spaced (spelling so.said) = so.spells.session_first ∙ ap (λ r. decimal x.line.session ++ 32 ∷ r) so.spells.says.spelled in
            makes_shown (spaced (spelling so.said)) w (all_split (λ b. b ≢ 10) (decimal x.line.session) (32 ∷ spaced (spelling so.said)) (subst IsOneLine whole one)).1.1 a.makes
        | inr nothing ↦ absurd (let k : ◌≡◌ {A = Option Write} None (Some w) = sym (nothing_accepted x nothing.is) ∙ some in cc k)
      ]
    where
      nothing_accepted : (x : Exchange) → x.line.command ≡ Command.formless → accepted x ≡ None
      nothing_accepted x k = ap (λ c. accepted_by c x.reply) k

  writes_part : (es : List Entry) → Heeded json from.start.schema es → AllByRecursion (λ e. IsOneLine e.line) es → AllByRecursion PartWrite (writes (run_of es))
  writes_part [] h one = tt
  writes_part (e ∷ es) h one = by (writes_part es h.1 one.1) e.told refl
    where
      by : AllByRecursion PartWrite (writes (run_of es)) → (told : Outcome) → e.told ≡ told → AllByRecursion PartWrite (writes (cons_option (exchange told) (run_of es)))
      by rest Outcome.unreadable is = rest
      by rest (Outcome.replied x) is = here (accepted x) refl
        where
          here : (o : Option Write) → accepted x ≡ o → AllByRecursion PartWrite (cons_option o (writes (run_of es)))
          here None none = rest
          here (Some w) some = (write_shown e x w h.0 one.0 is some, rest)

  pub tables_part : (es : List Entry) (t : ℕ) → AllByRecursion PartRecord from.start.records → Heeded json from.start.schema es → AllByRecursion (λ e. IsOneLine e.line) es → AllByRecursion PartRecord (table from.start (writes (run_of es)) t)
  tables_part es t start h one = table_shown from.start (writes (run_of es)) t start (writes_part es h one)
