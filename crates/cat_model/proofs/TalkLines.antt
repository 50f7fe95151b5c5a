-- The lines of a reply, and that each reply is one.
use Rattle.std.proofs.Common.{inl, inr, ◌≡◌, ◌≢◌, ℕ, List, [], ◌∷◌, ◌++◌, map, length, refl, sym, ◌∙◌, ap, subst, append-nil, arith, codes, true≢false}
use Rattle.std.specs.Prelude.{not, true, false, ◌==◌, Option, None, Some, Ok, Err}
use Rattle.std.specs.List.{flat_map, list_all, AllByRecursion}
use Rattle.std.proofs.lemmas.Bool.{and_parts}
use Rattle.std.specs.Fmt.{decimal}
use Rattle.cat_base.specs.declared.refusal.Refusal.{Refusal}
use Rattle.cat_base.specs.declared.refusal.Refusal.TheVariants as refusal
use Rattle.cat_base.specs.Refusals.{number_of}
use Rattle.cat_model.specs.Text.{Text, IsOneLine}
use Rattle.cat_model.specs.Page.{Key}
use Rattle.cat_model.specs.Answer.{Found}
use Rattle.cat_model.specs.Lines.{spaced, key_text, source_text, news_words, answer_words, entry_words, counted_words, segment_words, further, refusal_words, line_text, reply_text, unreadable_text}
use Rattle.cat_model.specs.Run.{Answer, News, SegmentStat, Reply}
use Rattle.cat_model.specs.Talk.{BeginsReply, IsReply}
use Rattle.cat_model.proofs.Lists.{All-both, All-weaken}
use Rattle.cat_model.proofs.TalkCuts.{ended}
use Rattle.cat_model.proofs.TalkHeard.{spaced_head}
use Rattle.cat_model.proofs.TalkDigits.{decimal_one_line, decimal_one_word, signed_one_line, decimal_starts, not_letter}

-- the lines without their session
abbrev pub lines_said : Reply → List Text
lines_said (Ok a) = spaced (codes "OK" ∷ answer_words a) ∷ map spaced (further a)
lines_said (Err e) = spaced (codes "NO" ∷ refusal_words e) ∷ []

-- words of which there is a first
words_lines : {X : Type 0} (head : X → Text) (tail : X → List Text) (s : ℕ) (xs : List X)
    → flat_map (λ words. line_text (decimal s ∷ words)) (map (λ x. head x ∷ tail x) xs) ≡ flat_map (λ l. line_text (decimal s ∷ l ∷ [])) (map spaced (map (λ x. head x ∷ tail x) xs))
words_lines head tail s [] = refl
words_lines head tail s (x ∷ xs) = ap (λ t. line_text (decimal s ∷ head x ∷ tail x) ++ t) (words_lines head tail s xs)

further_lines : (s : ℕ) (a : Answer) → flat_map (λ words. line_text (decimal s ∷ words)) (further a) ≡ flat_map (λ l. line_text (decimal s ∷ l ∷ [])) (map spaced (further a))
further_lines s (Answer.number n) = refl
further_lines s (Answer.found (Found.page p)) = words_lines (λ e. decimal e.number) (λ e. e.id ∷ key_text e.key ∷ []) s p.entries
further_lines s (Answer.found (Found.facets f)) = words_lines (λ c. decimal c.count) (λ c. c.label ∷ []) s f.counts
further_lines s (Answer.found (Found.source x)) = refl
further_lines s (Answer.names ns) = words_lines (λ n. n) (λ n. []) s ns
further_lines s (Answer.commit_text t) = refl
further_lines s (Answer.news News.idle) = refl
further_lines s (Answer.news News.busy) = refl
further_lines s (Answer.news (News.begun_merge k)) = refl
further_lines s (Answer.news (News.copied r)) = refl
further_lines s (Answer.news News.done) = refl
further_lines s (Answer.news News.begun_warming) = refl
further_lines s (Answer.news (News.warmed r)) = refl
further_lines s (Answer.news News.stored) = refl
further_lines s (Answer.news (News.swept n)) = refl
further_lines s (Answer.news (News.state st)) = words_lines (λ p. decimal p.number) (λ p. decimal p.rows ∷ decimal p.live ∷ []) s st.segments

pub reply_lines : (s : ℕ) (r : Reply) → reply_text s r ≡ flat_map (λ l. line_text (decimal s ∷ l ∷ [])) (lines_said r)
reply_lines s (Ok a) = ap (λ t. line_text (decimal s ∷ codes "OK" ∷ answer_words a) ++ t) (further_lines s a)
reply_lines s (Err e) = sym (append-nil (line_text (decimal s ∷ codes "NO" ∷ refusal_words e)))

-- ---- lines

one_spaced : (ws : List Text) → AllByRecursion IsOneLine ws → IsOneLine (spaced ws)
one_spaced [] a = tt
one_spaced (w ∷ []) a = a.0
one_spaced (w ∷ v ∷ ws) a = All-both (λ b. b ≢ 10) w (32 ∷ spaced (v ∷ ws)) a.0 (λ e. omega (arith, e), one_spaced (v ∷ ws) a.1)

-- a further line, behind its session
pub record IsFurther (line : Text) : Type 0 where
  pub one_line : IsOneLine line
  pub not_ok : (rest : Text) → line ≢ codes "OK " ++ rest
  pub not_no : (rest : Text) → line ≢ codes "NO " ++ rest

numbered_further : (n : ℕ) (ws : List Text) → AllByRecursion IsOneLine ws → IsFurther (spaced (decimal n ∷ ws))
numbered_further n ws a =
    let head = spaced_head (decimal n) ws in
    record {
      one_line = one_spaced (decimal n ∷ ws) (decimal_one_line n, a);
      not_ok = λ rest e. not_letter (decimal n) head.0 _ 79 (decimal_starts n) (omega arith) (sym head.1 ∙ e);
      not_no = λ rest e. not_letter (decimal n) head.0 _ 78 (decimal_starts n) (omega arith) (sym head.1 ∙ e);
    }

abbrev pub IsOneWord : Text → Type 0
IsOneWord text = AllByRecursion (λ b. b ≢ 32) text

third_word : (x y : ℕ) (rest : Text) → IsOneWord (x ∷ y ∷ 32 ∷ rest) → ⊥
third_word x y rest a = a.1.1.0 refl

word_further : (w : Text) → IsOneLine w → IsOneWord w → IsFurther w
word_further w a b = record { one_line = a; not_ok = λ rest e. third_word _ _ rest (subst IsOneWord e b); not_no = λ rest e. third_word _ _ rest (subst IsOneWord e b) }

-- ---- replies whose texts have no line feed

abbrev pub ShownKey : Option Key → Type 0
ShownKey None = Unit {0}
ShownKey (Some (Key.number z)) = Unit {0}
ShownKey (Some (Key.keyword k)) = IsOneLine k

abbrev pub ShownSource : Option Text → Type 0
ShownSource None = Unit {0}
ShownSource (Some source) = IsOneLine source

abbrev pub ShownAnswer : Answer → Type 0
ShownAnswer (Answer.number n) = Unit {0}
ShownAnswer (Answer.found (Found.page p)) = AllByRecursion (λ e. IsOneLine e.id × ShownKey e.key) p.entries
ShownAnswer (Answer.found (Found.facets f)) = AllByRecursion (λ c. IsOneLine c.label) f.counts
ShownAnswer (Answer.found (Found.source s)) = ShownSource s
ShownAnswer (Answer.names ns) = AllByRecursion (λ n. IsOneLine n × IsOneWord n) ns
ShownAnswer (Answer.commit_text t) = IsOneLine t
ShownAnswer (Answer.news n) = Unit {0}

abbrev pub Shown : Reply → Type 0
Shown (Ok a) = ShownAnswer a
Shown (Err e) = Unit {0}

key_line : (k : Option Key) → ShownKey k → IsOneLine (key_text k)
key_line None a = (λ e. omega (arith, e), tt)
key_line (Some (Key.number z)) a = signed_one_line z
key_line (Some (Key.keyword k)) a = (λ e. omega (arith, e), a)

source_line : (s : Option Text) → ShownSource s → IsOneLine (source_text s)
source_line None a = (λ e. omega (arith, e), tt)
source_line (Some source) a = a

refusal_lines : (e : Refusal) → AllByRecursion IsOneLine (refusal_words e)
refusal_lines (refusal.Query place) = (decimal_one_line 24, (decimal_one_line place, tt))
refusal_lines e = (decimal_one_line (number_of e), tt)

-- a literal without a byte
without : (c : ℕ) (t : Text) → not (c == c) ≡ false → list_all (λ b. not (b == c)) t ≡ true → AllByRecursion (λ b. b ≢ c) t
without c [] same h = tt
without c (b ∷ t) same h =
    let parts = and_parts (not (b == c)) (list_all (λ b. not (b == c)) t) h in
    (λ e. true≢false (sym parts.0 ∙ ap (λ d. not (d == c)) e ∙ same), without c t same parts.1)

pub literal : (t : Text) → list_all (λ b. not (b == 10)) t ≡ true → IsOneLine t
literal t h = without 10 t refl h

pub literal_word : (t : Text) → list_all (λ b. not (b == 32)) t ≡ true → IsOneWord t
literal_word t h = without 32 t refl h

news_lines : (n : News) → AllByRecursion IsOneLine (news_words n)
news_lines News.idle = (literal (codes "idle") refl, tt)
news_lines News.busy = (literal (codes "busy") refl, tt)
news_lines (News.begun_merge k) = (literal (codes "begun") refl, (decimal_one_line k, tt))
news_lines (News.copied r) = (literal (codes "copied") refl, (decimal_one_line r, tt))
news_lines News.done = (literal (codes "done") refl, tt)
news_lines News.begun_warming = (literal (codes "begun") refl, tt)
news_lines (News.warmed r) = (literal (codes "warmed") refl, (decimal_one_line r, tt))
news_lines News.stored = (literal (codes "stored") refl, tt)
news_lines (News.swept n) = (decimal_one_line n, tt)
news_lines (News.state st) = (decimal_one_line st.writes, (decimal_one_line st.buffered, (decimal_one_line (length st.segments), (decimal_one_line st.views, (decimal_one_line st.cached, (decimal_one_line st.pending, tt))))))

answer_lines : (a : Answer) → ShownAnswer a → AllByRecursion IsOneLine (answer_words a)
answer_lines (Answer.number n) h = (decimal_one_line n, tt)
answer_lines (Answer.found (Found.page p)) h = (decimal_one_line (length p.entries), (decimal_one_line p.total, tt))
answer_lines (Answer.found (Found.facets f)) h = (decimal_one_line f.matching, (decimal_one_line f.met, tt))
answer_lines (Answer.found (Found.source s)) h = (source_line s h, tt)
answer_lines (Answer.names ns) h = (decimal_one_line (length ns), tt)
answer_lines (Answer.commit_text t) h = ((λ e. omega (arith, e), h), tt)
answer_lines (Answer.news n) h = news_lines n

each_further : {X : Type 0} (P : X → Type 0) (f : X → List Text) → ((x : X) → P x → IsFurther (spaced (f x))) → (xs : List X) → AllByRecursion P xs → AllByRecursion IsFurther (map spaced (map f xs))
each_further P f g [] a = tt
each_further P f g (x ∷ xs) a = (g x a.0, each_further P f g xs a.1)

all_parts : (ps : List SegmentStat) → AllByRecursion (λ p. Unit {0}) ps
all_parts [] = tt
all_parts (p ∷ ps) = (tt, all_parts ps)

further_shown : (a : Answer) → ShownAnswer a → AllByRecursion IsFurther (map spaced (further a))
further_shown (Answer.number n) h = tt
further_shown (Answer.found (Found.page p)) h = each_further _ entry_words (λ e k. numbered_further e.number (e.id ∷ key_text e.key ∷ []) (k.0, (key_line e.key k.1, tt))) p.entries h
further_shown (Answer.found (Found.facets f)) h = each_further _ counted_words (λ c k. numbered_further c.count (c.label ∷ []) (k, tt)) f.counts h
further_shown (Answer.found (Found.source s)) h = tt
further_shown (Answer.names ns) h = each_further _ (λ name. name ∷ []) (λ n k. word_further n k.0 k.1) ns h
further_shown (Answer.commit_text t) h = tt
further_shown (Answer.news News.idle) h = tt
further_shown (Answer.news News.busy) h = tt
further_shown (Answer.news (News.begun_merge k)) h = tt
further_shown (Answer.news (News.copied r)) h = tt
further_shown (Answer.news News.done) h = tt
further_shown (Answer.news News.begun_warming) h = tt
further_shown (Answer.news (News.warmed r)) h = tt
further_shown (Answer.news News.stored) h = tt
further_shown (Answer.news (News.swept n)) h = tt
further_shown (Answer.news (News.state st)) h = each_further (λ p. Unit {0}) segment_words (λ p k. numbered_further p.number (decimal p.rows ∷ decimal p.live ∷ []) (decimal_one_line p.rows, (decimal_one_line p.live, tt))) st.segments (all_parts st.segments)

-- the lines of a reply, none of which has a line feed
pub said_lines : (r : Reply) → Shown r → AllByRecursion IsOneLine (lines_said r)
said_lines (Ok a) h = (one_spaced (codes "OK" ∷ answer_words a) (literal (codes "OK") refl, answer_lines a h), All-weaken IsFurther IsOneLine (λ l f. f.one_line) (map spaced (further a)) (further_shown a h))
said_lines (Err e) h = (one_spaced (codes "NO" ∷ refusal_words e) (literal (codes "NO") refl, refusal_lines e), tt)

-- ---- each reply is one

-- each line behind its session
behind : (s : ℕ) → List Text → List Text
behind s ls = map (λ l. decimal s ++ 32 ∷ l) ls

behind_ended : (s : ℕ) (ls : List Text) → flat_map (λ l. line_text (decimal s ∷ l ∷ [])) ls ≡ ended (behind s ls)
unfolding behind
behind_ended s [] = refl
behind_ended s (l ∷ ls) = ap (λ t. ((decimal s ++ 32 ∷ l) ++ 10 ∷ []) ++ t) (behind_ended s ls)

session_line : (s : ℕ) (l : Text) → IsOneLine l → IsOneLine (decimal s ++ 32 ∷ l)
session_line s l a = All-both (λ b. b ≢ 10) (decimal s) (32 ∷ l) (decimal_one_line s) (λ e. omega (arith, e), a)

behind_lines : (s : ℕ) (ls : List Text) → AllByRecursion IsOneLine ls → AllByRecursion IsOneLine (behind s ls)
unfolding behind
behind_lines s [] a = tt
behind_lines s (l ∷ ls) a = (session_line s l a.0, behind_lines s ls a.1)

-- two words that stand before a space
first_word : (a b r q : Text) → IsOneWord a → IsOneWord b → a ++ 32 ∷ r ≡ b ++ 32 ∷ q → r ≡ q
first_word [] [] r q na nb e = cc e
first_word [] (y ∷ b) r q na nb e = absurd (nb.0 (cc e))
first_word (x ∷ a) [] r q na nb e = absurd (na.0 (cc e))
first_word (x ∷ a) (y ∷ b) r q na nb e = first_word a b r q na.1 nb.1 (cc e)

further_begins : (s : ℕ) (l : Text) → IsFurther l → BeginsReply (decimal s ++ 32 ∷ l) → ⊥
further_begins s l f b = elim b.whole [
  | inl e ↦ f.not_ok b.rest (first_word (decimal s) b.who l (codes "OK " ++ b.rest) (decimal_one_word s) b.one_word e)
  | inr e ↦ f.not_no b.rest (first_word (decimal s) b.who l (codes "NO " ++ b.rest) (decimal_one_word s) b.one_word e)
]

behind_go_on : (s : ℕ) (ls : List Text) → AllByRecursion IsFurther ls → AllByRecursion (λ l. BeginsReply l → ⊥) (behind s ls)
unfolding behind
behind_go_on s [] a = tt
behind_go_on s (l ∷ ls) a = (further_begins s l a.0, behind_go_on s ls a.1)

begins_ok : (s : ℕ) (w : Text) (ws : List Text) → BeginsReply (decimal s ++ 32 ∷ spaced (codes "OK" ∷ w ∷ ws))
begins_ok s w ws = record { who = decimal s; rest = spaced (w ∷ ws); one_word = decimal_one_word s; whole = inl refl }

begins_no : (s : ℕ) (w : Text) (ws : List Text) → BeginsReply (decimal s ++ 32 ∷ spaced (codes "NO" ∷ w ∷ ws))
begins_no s w ws = record { who = decimal s; rest = spaced (w ∷ ws); one_word = decimal_one_word s; whole = inr refl }

-- there is a word behind OK and NO
news_begin : (s : ℕ) (n : News) → BeginsReply (decimal s ++ 32 ∷ spaced (codes "OK" ∷ news_words n))
news_begin s News.idle = begins_ok s (codes "idle") []
news_begin s News.busy = begins_ok s (codes "busy") []
news_begin s (News.begun_merge k) = begins_ok s (codes "begun") (decimal k ∷ [])
news_begin s (News.copied r) = begins_ok s (codes "copied") (decimal r ∷ [])
news_begin s News.done = begins_ok s (codes "done") []
news_begin s News.begun_warming = begins_ok s (codes "begun") []
news_begin s (News.warmed r) = begins_ok s (codes "warmed") (decimal r ∷ [])
news_begin s News.stored = begins_ok s (codes "stored") []
news_begin s (News.swept n) = begins_ok s (decimal n) []
news_begin s (News.state st) = begins_ok s (decimal st.writes) (decimal st.buffered ∷ decimal (length st.segments) ∷ decimal st.views ∷ decimal st.cached ∷ decimal st.pending ∷ [])

answer_begins : (s : ℕ) (a : Answer) → BeginsReply (decimal s ++ 32 ∷ spaced (codes "OK" ∷ answer_words a))
answer_begins s (Answer.number n) = begins_ok s (decimal n) []
answer_begins s (Answer.found (Found.page p)) = begins_ok s (decimal (length p.entries)) (decimal p.total ∷ [])
answer_begins s (Answer.found (Found.facets f)) = begins_ok s (decimal f.matching) (decimal f.met ∷ [])
answer_begins s (Answer.found (Found.source x)) = begins_ok s (source_text x) []
answer_begins s (Answer.names ns) = begins_ok s (decimal (length ns)) []
answer_begins s (Answer.commit_text t) = begins_ok s (codes "=" ++ t) []
answer_begins s (Answer.news n) = news_begin s n

refusal_begins : (s : ℕ) (e : Refusal) → BeginsReply (decimal s ++ 32 ∷ spaced (codes "NO" ∷ refusal_words e))
refusal_begins s (refusal.Query place) = begins_no s (decimal 24) (decimal place ∷ [])
refusal_begins s e = begins_no s (decimal (number_of e)) []

pub is_reply : (s : ℕ) (r : Reply) → Shown r → IsReply (reply_text s r)
unfolding behind
is_reply s (Ok a) h = record {
  first = decimal s ++ 32 ∷ spaced (codes "OK" ∷ answer_words a);
  more = behind s (map spaced (further a));
  begins = answer_begins s a;
  goes_on = behind_go_on s (map spaced (further a)) (further_shown a h);
  cut = behind_lines s (lines_said (Ok a)) (said_lines (Ok a) h);
  whole = reply_lines s (Ok a) ∙ behind_ended s (lines_said (Ok a));
}
is_reply s (Err e) h = record {
  first = decimal s ++ 32 ∷ spaced (codes "NO" ∷ refusal_words e);
  more = [];
  begins = refusal_begins s e;
  goes_on = tt;
  cut = behind_lines s (lines_said (Err e)) (said_lines (Err e) h);
  whole = reply_lines s (Err e) ∙ behind_ended s (lines_said (Err e));
}

pub unreadable_is_reply : IsReply unreadable_text
unreadable_is_reply = record {
  first = codes "? NO 10";
  more = [];
  begins = record { who = codes "?"; rest = codes "10"; one_word = (λ e. omega (arith, e), tt); whole = inr refl };
  goes_on = tt;
  cut = (literal (codes "? NO 10") refl, tt);
  whole = refl;
}
