-- A line says at most one thing, under one session, and is heard in one way.
use Rattle.std.proofs.Common.{inl, inr, suc, ◌≡◌, ◌⊎◌, ◌≢◌, ℕ, ◌<◌, true≢false, List, [], ◌∷◌, ◌++◌, sym, ◌∙◌, refl, ap, subst, length, get_or, arith, codes}
use Rattle.std.specs.Prelude.{zero, true, cond, ◌==◌, ◌&&◌, leb, slice_index, map, Option, None, Some, IfSome, Result, Ok, Err, IsTrue}
use Rattle.std.specs.List.{list_all}
use Rattle.std.specs.Char.{is_ascii_lowercase}
use Rattle.std.specs.Fmt.{decimal}
use Rattle.std.proofs.lemmas.Bool.{and_parts}
use Rattle.std.proofs.lemmas.Fmt.{decimal_is_IsNumeral, decimal_injective}
use Rattle.std.proofs.lemmas.Str.Parse.{digit_at}
use Rattle.cat_base.specs.declared.refusal.Refusal.{Refusal}
use Rattle.cat_base.specs.declared.refusal.Refusal.TheVariants.{Query as NoQuery}
use Rattle.cat_model.specs.Text.{Text}
use Rattle.cat_model.specs.Item.{Schema, IsSchema, has_name_form, is_name_byte}
use Rattle.cat_model.specs.Query.{Query}
use Rattle.cat_model.specs.Page.{Sort}
use Rattle.cat_model.specs.Answer.{Read}
use Rattle.cat_model.specs.Table.{Opened}
use Rattle.cat_model.specs.Lines.{Said, spaced, spelling, sort_text, mark_text, chore_name, HasForm, IsNumber, IsSort, SpellsLine, ShowsSession}
use Rattle.cat_model.specs.Run.{Chore, Command}
use Rattle.cat_model.specs.Heard.{Json, Heard, Hears, IsCommand, IsQueryOf}
use Rattle.cat_model.specs.Files.{Name}
use Rattle.cat_model.specs.Served.{Begins, Outcome, heard, HeardAll}
use Rattle.cat_model.specs.Told.{ToldByName}
use Rattle.cat_model.specs.Opens.{BeginsFrom, OpensFrom}
use Rattle.cat_model.specs.Laws.{LinesSayOneThing, SchemaLinesSayOneThing, EachTextIsAQueryOrNone, HearingIsOne, ReadsSchemas, InputsAreHeardOneWay}
use Rattle.cat_model.proofs.QueryFaults.{lower_name}
use Rattle.cat_model.proofs.QueryLaws.{one_query, place_is_one, texts_are_judged, no_fault}

-- ---- words

abbrev pub NoSpace : Text → Type 0
NoSpace word = (i : ℕ) → i < length word → slice_index word i ≢ 32

pub decimal_no_space : (n : ℕ) → IsNumber n → NoSpace (decimal n)
decimal_no_space n h i k e = let range = digit_at (decimal n) i (decimal_is_IsNumeral n (omega arith)).0.1 k in omega (arith, range.0, e)

-- two words without spaces that stand before a space
pub same_word : (a b r q : Text) → NoSpace a → NoSpace b → a ++ 32 ∷ r ≡ b ++ 32 ∷ q → (a ≡ b) × (r ≡ q)
same_word [] [] r q na nb e = (refl, cc e)
same_word [] (y ∷ b) r q na nb e = absurd (nb 0 (omega arith) (cc e))
same_word (x ∷ a) [] r q na nb e = absurd (na 0 (omega arith) (cc e))
same_word (x ∷ a) (y ∷ b) r q na nb e =
    let tails : (a ≡ b) × (r ≡ q) = same_word a b r q (λ i k. na (suc i) (omega (arith, k))) (λ i k. nb (suc i) (omega (arith, k))) (cc e)
    in (cc (e, tails.0), tails.1)

-- a whole word without spaces isn't one before a space
pub whole_word : (a b q : Text) → NoSpace a → a ≡ b ++ 32 ∷ q → ⊥
whole_word [] [] q na e = absurd (cc e)
whole_word [] (y ∷ b) q na e = absurd (cc e)
whole_word (x ∷ a) [] q na e = na 0 (omega arith) (cc e)
whole_word (x ∷ a) (y ∷ b) q na e = whole_word a b q (λ i k. na (suc i) (omega (arith, k))) (cc e)

-- two numbers that stand before a space
pub same_number : (n m : ℕ) (r q : Text) → IsNumber n → IsNumber m → decimal n ++ 32 ∷ r ≡ decimal m ++ 32 ∷ q → (n ≡ m) × (r ≡ q)
same_number n m r q hn hm e =
    let words = same_word (decimal n) (decimal m) r q (decimal_no_space n hn) (decimal_no_space m hm) e
    in (decimal_injective n m (omega (arith, hn)) (omega (arith, hm)) words.0, words.1)

-- ---- sorts and marks

name_bytes_no_space : (bytes : Text) → list_all is_name_byte bytes ≡ true → NoSpace bytes
name_bytes_no_space [] h i k e = absurd (omega arith)
name_bytes_no_space (b ∷ bytes) h zero k e = absurd (true≢false (sym (and_parts (is_name_byte b) (list_all is_name_byte bytes) h).0 ∙ ap is_name_byte e))
name_bytes_no_space (b ∷ bytes) h (suc i) k e = name_bytes_no_space bytes (and_parts (is_name_byte b) (list_all is_name_byte bytes) h).1 i (omega (arith, k)) e

name_bytes : (name : Text) → IsTrue (has_name_form name) → list_all is_name_byte name ≡ true
name_bytes [] h = absurd cc
name_bytes (b ∷ bs) h =
    let bytes = (and_parts (is_ascii_lowercase b && list_all is_name_byte bs) (leb (length bs) 31) h).0 in
    let parts = and_parts (is_ascii_lowercase b) (list_all is_name_byte bs) bytes
    in rw (lower_name b parts.0, parts.1) refl

-- a byte that isn't a space, and a name behind it
signed_no_space : (sign : ℕ) (name : Text) → sign ≢ 32 → IsTrue (has_name_form name) → NoSpace (sign ∷ name)
signed_no_space sign name other h zero k e = other e
signed_no_space sign name other h (suc i) k e = name_bytes_no_space name (name_bytes name h) i (omega (arith, k)) e

name_no_space : (name : Text) → IsTrue (has_name_form name) → NoSpace name
name_no_space name h = name_bytes_no_space name (name_bytes name h)

dot_no_space : NoSpace (codes ".")
dot_no_space zero k e = absurd (omega (arith, e))
dot_no_space (suc i) k e = absurd (omega (arith, k))

sort_no_space : (sort : Sort) → IsSort sort → NoSpace (sort_text sort)
sort_no_space Sort.added h = dot_no_space
sort_no_space (Sort.rising name) h = signed_no_space 43 name (λ e. omega (arith, e)) h
sort_no_space (Sort.falling name) h = signed_no_space 45 name (λ e. omega (arith, e)) h

-- the first byte tells the sorts apart
sort_spelled_alike : (one two : Sort) → sort_text one ≡ sort_text two → one ≡ two
sort_spelled_alike Sort.added Sort.added e = refl
sort_spelled_alike (Sort.rising name) (Sort.rising other) e = ap Sort.rising (cc e)
sort_spelled_alike (Sort.falling name) (Sort.falling other) e = ap Sort.falling (cc e)
sort_spelled_alike one two e = absurd (omega (arith, ap (λ t. get_or t 0 0) e))

mark_no_space : (mark : Option ℕ) → IfSome mark IsNumber → NoSpace (mark_text mark)
mark_no_space None h = dot_no_space
mark_no_space (Some n) h = decimal_no_space n h

-- a number doesn't begin with a dot
no_dot : (n : ℕ) → IsNumber n → decimal n ≡ codes "." → ⊥
no_dot n h e =
    let size : length (decimal n) ≡ 1 = ap length e in
    let range = digit_at (decimal n) 0 (decimal_is_IsNumeral n (omega (arith, h))).0.1 (omega (arith, size)) in
    omega (arith, range.0, ap (λ t. get_or t 0 0) e)

mark_spelled_alike : (one two : Option ℕ) → IfSome one IsNumber → IfSome two IsNumber → mark_text one ≡ mark_text two → one ≡ two
mark_spelled_alike None None h k e = refl
mark_spelled_alike None (Some m) h k e = absurd (no_dot m k (sym e))
mark_spelled_alike (Some n) None h k e = absurd (no_dot n h e)
mark_spelled_alike (Some n) (Some m) h k e = ap Some (decimal_injective n m (omega (arith, h)) (omega (arith, k)) e)

-- two sorts that stand before a space
same_sort : (one two : Sort) (r q : Text) → IsSort one → IsSort two → sort_text one ++ 32 ∷ r ≡ sort_text two ++ 32 ∷ q → (one ≡ two) × (r ≡ q)
same_sort one two r q h k e =
    let words = same_word (sort_text one) (sort_text two) r q (sort_no_space one h) (sort_no_space two k) e
    in (sort_spelled_alike one two words.0, words.1)

-- two marks that stand before a space
same_mark : (one two : Option ℕ) (r q : Text) → IfSome one IsNumber → IfSome two IsNumber → mark_text one ++ 32 ∷ r ≡ mark_text two ++ 32 ∷ q → (one ≡ two) × (r ≡ q)
same_mark one two r q h k e =
    let words = same_word (mark_text one) (mark_text two) r q (mark_no_space one h) (mark_no_space two k) e
    in (mark_spelled_alike one two h k words.0, words.1)

-- ---- what is said

-- what stands behind the sort of a FIND
abbrev marked : Option ℕ → Text → Text
marked mark query = spaced (mark_text mark ∷ query ∷ [])

-- what stands behind the count of a FIND
abbrev sorted : Sort → Option ℕ → Text → Text
sorted sort mark query = spaced (sort_text sort ∷ mark_text mark ∷ query ∷ [])

-- two names of fields that stand before a space
same_name : (one two : Text) (r q : Text) → IsTrue (has_name_form one) → IsTrue (has_name_form two) → one ++ 32 ∷ r ≡ two ++ 32 ∷ q → (one ≡ two) × (r ≡ q)
same_name one two r q h k e = same_word one two r q (name_no_space one h) (name_no_space two k) e

-- what stands behind the dimension of a FACETS
abbrev numbered : ℕ → Text → Text
numbered n query = spaced (decimal n ∷ query ∷ [])

-- a COMMIT alone isn't one with a text
commits_alike : (one two : Text) → spaced (spelling (Said.commit one)) ≡ spaced (spelling (Said.commit two)) → one ≡ two
commits_alike [] [] e = refl
commits_alike [] (b ∷ two) e = absurd (omega (arith, ap length e))
commits_alike (a ∷ one) [] e = absurd (omega (arith, ap length e))
commits_alike (a ∷ one) (b ∷ two) e = cc e

-- the chores differ in their second letters, or in their first
chores_alike : (one two : Chore) → chore_name one ≡ chore_name two → one ≡ two
chores_alike Chore.merge Chore.merge e = refl
chores_alike Chore.force Chore.force e = refl
chores_alike Chore.warm Chore.warm e = refl
chores_alike Chore.sweep Chore.sweep e = refl
chores_alike Chore.stat Chore.stat e = refl
chores_alike one two e = absurd (omega (arith, ap (λ t. get_or t 0 0) e, ap (λ t. get_or t 1 0) e))

-- the commands numbered
pub rank : Said → ℕ
rank (Said.put item) = 0
rank (Said.prune n) = 1
rank (Said.delete id) = 2
rank (Said.delete_where query) = 3
rank Said.refresh = 4
rank Said.open_newest = 5
rank (Said.open_at t) = 6
rank (Said.close t) = 7
rank (Said.commit text) = 8
rank (Said.find t n sort mark query) = 9
rank (Said.files_of_token t) = 10
rank (Said.files_of_commit g) = 11
rank (Said.facets t dim n query) = 12
rank (Said.get t id) = 13
rank (Said.text_of_commit g) = 14
rank Said.snapshot = 15
rank (Said.release_snapshot g) = 16
rank (Said.chore c) = 17

-- and their numbers by what is spelled, of which the first letters are looked at, and what ends the names that begin others
pub spelled_rank : Text → ℕ
spelled_rank t =
    cond (get_or t 0 0 == 80) (cond (get_or t 1 0 == 85) 0 1)
    (cond (get_or t 0 0 == 68) (cond (get_or t 3 0 == 32) 2 3)
    (cond (get_or t 0 0 == 82) 4
    (cond (get_or t 0 0 == 79) (cond (get_or t 4 0 == 32) 6 5)
    (cond (get_or t 0 0 == 67) (cond (get_or t 1 0 == 76) 7 8)
    (cond (get_or t 0 0 == 70) (cond (get_or t 1 0 == 65) 12 (cond (get_or t 1 0 == 79) 17 (cond (get_or t 2 0 == 78) 9 (cond (get_or t 6 0 == 116) 10 11))))
    (cond (get_or t 0 0 == 71) 13
    (cond (get_or t 0 0 == 78) 14
    (cond (get_or t 0 0 == 83) (cond (get_or t 1 0 == 78) 15 17)
    (cond (get_or t 0 0 == 85) 16 17)))))))))

pub spells_rank : (said : Said) → spelled_rank (spaced (spelling said)) ≡ rank said
unfolding rank spelled_rank
spells_rank (Said.put item) = refl
spells_rank (Said.prune n) = refl
spells_rank (Said.delete id) = refl
spells_rank (Said.delete_where query) = refl
spells_rank Said.refresh = refl
spells_rank Said.open_newest = refl
spells_rank (Said.open_at t) = refl
spells_rank (Said.close t) = refl
spells_rank (Said.commit []) = refl
spells_rank (Said.commit (b ∷ text)) = refl
spells_rank (Said.find t n sort mark query) = refl
spells_rank (Said.files_of_token t) = refl
spells_rank (Said.files_of_commit g) = refl
spells_rank (Said.facets t dim n query) = refl
spells_rank (Said.get t id) = refl
spells_rank (Said.text_of_commit g) = refl
spells_rank Said.snapshot = refl
spells_rank (Said.release_snapshot g) = refl
spells_rank (Said.chore Chore.merge) = refl
spells_rank (Said.chore Chore.force) = refl
spells_rank (Said.chore Chore.warm) = refl
spells_rank (Said.chore Chore.sweep) = refl
spells_rank (Said.chore Chore.stat) = refl

same_rank : (one two : Said) → spaced (spelling one) ≡ spaced (spelling two) → rank one ≡ rank two
same_rank one two e = sym (spells_rank one) ∙ ap spelled_rank e ∙ spells_rank two

-- no two commands are spelled alike
pub spelled_alike : (one two : Said) → HasForm one → HasForm two → spaced (spelling one) ≡ spaced (spelling two) → one ≡ two
unfolding rank
spelled_alike (Said.put item) (Said.put item') h k e = ap Said.put (cc e)
spelled_alike (Said.delete id) (Said.delete id') h k e = ap Said.delete (cc e)
spelled_alike (Said.delete_where query) (Said.delete_where query') h k e = ap Said.delete_where (cc e)
spelled_alike Said.refresh Said.refresh h k e = refl
spelled_alike Said.open_newest Said.open_newest h k e = refl
spelled_alike (Said.open_at t) (Said.open_at u) h k e = ap Said.open_at (decimal_injective t u (omega (arith, h)) (omega (arith, k)) (cc e))
spelled_alike (Said.close t) (Said.close u) h k e = ap Said.close (decimal_injective t u (omega (arith, h)) (omega (arith, k)) (cc e))
spelled_alike (Said.find t n sort mark query) (Said.find u m sort' mark' query') h k e =
    let tokens : (t ≡ u) × (decimal n ++ 32 ∷ sorted sort mark query ≡ decimal m ++ 32 ∷ sorted sort' mark' query') = same_number t u (decimal n ++ 32 ∷ sorted sort mark query) (decimal m ++ 32 ∷ sorted sort' mark' query') h.0 k.0 (cc e) in
    let counts : (n ≡ m) × (sorted sort mark query ≡ sorted sort' mark' query') = same_number n m (sorted sort mark query) (sorted sort' mark' query') h.1 k.1 tokens.1 in
    let sorts : (sort ≡ sort') × (marked mark query ≡ marked mark' query') = same_sort sort sort' (marked mark query) (marked mark' query') h.2 k.2 counts.1 in
    let marks : (mark ≡ mark') × (query ≡ query') = same_mark mark mark' query query' h.3 k.3 sorts.1
    in cc (tokens.0, counts.0, sorts.0, marks.0, marks.1)
spelled_alike (Said.facets t dim n query) (Said.facets u dim' m query') h k e =
    let tokens : (t ≡ u) × (dim ++ 32 ∷ numbered n query ≡ dim' ++ 32 ∷ numbered m query') = same_number t u (dim ++ 32 ∷ numbered n query) (dim' ++ 32 ∷ numbered m query') h.0 k.0 (cc e) in
    let dims : (dim ≡ dim') × (numbered n query ≡ numbered m query') = same_name dim dim' (numbered n query) (numbered m query') h.1 k.1 tokens.1 in
    let counts : (n ≡ m) × (query ≡ query') = same_number n m query query' h.2 k.2 dims.1
    in cc (tokens.0, dims.0, counts.0, counts.1)
spelled_alike (Said.get t id) (Said.get u id') h k e =
    let tokens : (t ≡ u) × (id ≡ id') = same_number t u id id' h k (cc e)
    in cc (tokens.0, tokens.1)
spelled_alike (Said.files_of_token t) (Said.files_of_token u) h k e = ap Said.files_of_token (decimal_injective t u (omega (arith, h)) (omega (arith, k)) (cc e))
spelled_alike (Said.files_of_commit g) (Said.files_of_commit l) h k e = ap Said.files_of_commit (decimal_injective g l (omega (arith, h)) (omega (arith, k)) (cc e))
spelled_alike (Said.commit text) (Said.commit text') h k e = ap Said.commit (commits_alike text text' e)
spelled_alike (Said.text_of_commit g) (Said.text_of_commit l) h k e = ap Said.text_of_commit (decimal_injective g l (omega (arith, h)) (omega (arith, k)) (cc e))
spelled_alike Said.snapshot Said.snapshot h k e = refl
spelled_alike (Said.release_snapshot g) (Said.release_snapshot l) h k e = ap Said.release_snapshot (decimal_injective g l (omega (arith, h)) (omega (arith, k)) (cc e))
spelled_alike (Said.prune n) (Said.prune m) h k e = ap Said.prune (decimal_injective n m (omega (arith, h)) (omega (arith, k)) (cc e))
spelled_alike (Said.chore c) (Said.chore d) h k e = ap Said.chore (chores_alike c d e)
-- else they are of two commands
spelled_alike one two h k e = absurd (omega (arith, same_rank one two e))

pub one_thing : LinesSayOneThing
one_thing line s t one two a b =
    let sessions = same_number s t a.rest b.rest (omega (arith, a.small)) (omega (arith, b.small)) (sym a.session_first ∙ b.session_first)
    in (sessions.0, spelled_alike one two a.says.form b.says.form (sym a.says.spelled ∙ sessions.1 ∙ b.says.spelled))

-- the numbers of a schema line are followed by a space each
pub one_schema : SchemaLinesSayOneThing
one_schema line f l g k text text' a b =
    let factors : (f ≡ g) × (decimal l ++ 32 ∷ text ≡ decimal k ++ 32 ∷ text') =
    same_number f g (decimal l ++ 32 ∷ text) (decimal k ++ 32 ∷ text') (omega (arith, a.factor_high)) (omega (arith, b.factor_high)) (behind_name (sym a.spelled ∙ b.spelled)) in
    let leasts : (l ≡ k) × (text ≡ text') = same_number l k text text' (omega (arith, a.least_high)) (omega (arith, b.least_high)) factors.1 in
    (factors.0, leasts.0, leasts.1)
  where
    behind_name : codes "SCHEMA" ++ 32 ∷ (decimal f ++ 32 ∷ (decimal l ++ 32 ∷ text)) ≡ codes "SCHEMA" ++ 32 ∷ (decimal g ++ 32 ∷ (decimal k ++ 32 ∷ text')) → decimal f ++ 32 ∷ (decimal l ++ 32 ∷ text) ≡ decimal g ++ 32 ∷ (decimal k ++ 32 ∷ text')
    behind_name e = cc e

-- ---- what is heard

-- a line shows at most one session
pub one_session : (line : Text) (s t : ℕ) → ShowsSession line s → ShowsSession line t → s ≡ t
one_session line s t a b = decimal_injective s t (omega (arith, a.small)) (omega (arith, b.small)) (by a.split b.split)
  where
    quiet_s : NoSpace (decimal s)
    quiet_s = decimal_no_space s (omega (arith, a.small))

    quiet_t : NoSpace (decimal t)
    quiet_t = decimal_no_space t (omega (arith, b.small))

    by : (line ≡ decimal s) ⊎ ((rest : Text) × (line ≡ decimal s ++ 32 ∷ rest)) → (line ≡ decimal t) ⊎ ((rest : Text) × (line ≡ decimal t ++ 32 ∷ rest)) → decimal s ≡ decimal t
    by (inl p) (inl q) = sym p ∙ q
    by (inl p) (inr q) = absurd (whole_word (decimal s) (decimal t) q.0 quiet_s (sym p ∙ q.1))
    by (inr p) (inl q) = absurd (whole_word (decimal t) (decimal s) p.0 quiet_t (sym q ∙ p.1))
    by (inr p) (inr q) = (same_word (decimal s) (decimal t) p.0 q.0 quiet_s quiet_t (sym p.1 ∙ q.1)).0

-- a line that spells something shows its session
pub shown : (line : Text) (s : ℕ) (said : Said) → SpellsLine line s said → ShowsSession line s
shown line s said a = record { small = a.small; split = inr (a.rest, a.session_first) }

-- and isn't without a form under the session that it shows
pub no_form : (line : Text) (s t : ℕ) (said : Said) → SpellsLine line s said → ShowsSession line t → ((said : Said) → SpellsLine line t said → ⊥) → ⊥
no_form line s t said a b none = none said (subst (λ u. SpellsLine line u said) (one_session line s t (shown line s said a) b) a)

-- a text is one query, or has one fault
one_judgement : (schema : Schema) (text : Text) (one two : Result Query Refusal) → IsSchema schema → IsQueryOf schema text one → IsQueryOf schema text two → one ≡ two
one_judgement schema text one two ok (IsQueryOf.spelled p a) (IsQueryOf.spelled q b) = ap (λ r. Ok r) (one_query schema text p q a b)
one_judgement schema text one two ok (IsQueryOf.spelled p a) (IsQueryOf.faulty place b) = absurd (no_fault schema text p place ok a b)
one_judgement schema text one two ok (IsQueryOf.faulty place a) (IsQueryOf.spelled q b) = absurd (no_fault schema text q place ok b a)
one_judgement schema text one two ok (IsQueryOf.faulty place a) (IsQueryOf.faulty other b) = ap (λ n. Err (NoQuery n)) (place_is_one schema text place other ok a b)

pub one_text : EachTextIsAQueryOrNone
one_text schema text ok = elim (texts_are_judged schema text ok) [
  | inl h ↦ (Ok h.0, IsQueryOf.spelled h.0 h.1, λ r a. one_judgement schema text r (Ok h.0) ok a (IsQueryOf.spelled h.0 h.1))
  | inr h ↦ (Err (NoQuery h.0), IsQueryOf.faulty h.0 h.1, λ r a. one_judgement schema text r (Err (NoQuery h.0)) ok a (IsQueryOf.faulty h.0 h.1))
]

-- what is said is one command
pub one_command : (json : Json) (schema : Schema) (said : Said) (one two : Command) → IsSchema schema → IsCommand json schema said one → IsCommand json schema said two → one ≡ two
one_command json schema (Said.put text) one two ok a b = a ∙ sym b
one_command json schema (Said.delete text) one two ok a b = a ∙ sym b
one_command json schema (Said.delete_where text) one two ok a b =
    a.2 ∙ ap Command.delete_where (one_judgement schema text a.0 b.0 ok a.1 b.1) ∙ sym b.2
one_command json schema Said.refresh one two ok a b = a ∙ sym b
one_command json schema Said.open_newest one two ok a b = a ∙ sym b
one_command json schema (Said.open_at t) one two ok a b = a ∙ sym b
one_command json schema (Said.close t) one two ok a b = a ∙ sym b
one_command json schema (Said.find t n sort mark text) one two ok a b =
    a.2 ∙ ap (λ q. Command.read t (Read.find n sort mark q)) (one_judgement schema text a.0 b.0 ok a.1 b.1) ∙ sym b.2
one_command json schema (Said.facets t dim n text) one two ok a b =
    a.2 ∙ ap (λ q. Command.read t (Read.facets dim n q)) (one_judgement schema text a.0 b.0 ok a.1 b.1) ∙ sym b.2
one_command json schema (Said.get t text) one two ok a b = a ∙ sym b
one_command json schema (Said.files_of_token t) one two ok a b = a ∙ sym b
one_command json schema (Said.files_of_commit g) one two ok a b = a ∙ sym b
one_command json schema (Said.commit text) one two ok a b = a ∙ sym b
one_command json schema (Said.text_of_commit g) one two ok a b = a ∙ sym b
one_command json schema Said.snapshot one two ok a b = a ∙ sym b
one_command json schema (Said.release_snapshot g) one two ok a b = a ∙ sym b
one_command json schema (Said.prune n) one two ok a b = a ∙ sym b
one_command json schema (Said.chore c) one two ok a b = a ∙ sym b

pub one_hearing : HearingIsOne
one_hearing json schema bytes one two ok (Hears.spelled s said c readable a is) (Hears.spelled t other d readable' b is') =
    let same = one_thing bytes s t said other a b in
    let command : c ≡ d = one_command json schema other c d ok (subst (λ x. IsCommand json schema x c) same.1 is) is' in
    λ i. Heard.a_line (record { session = same.0 i; command = command i })
one_hearing json schema bytes one two ok (Hears.spelled s said c readable a is) (Hears.formless t readable' b none) = absurd (no_form bytes s t said a b none)
one_hearing json schema bytes one two ok (Hears.formless s readable a none) (Hears.spelled t said c readable' b is) = absurd (no_form bytes t s said b a none)
one_hearing json schema bytes one two ok (Hears.formless s readable a none) (Hears.formless t readable' b none') = ap (λ u. Heard.a_line (record { session = u; command = Command.formless })) (one_session bytes s t a b)
one_hearing json schema bytes one two ok (Hears.unreadable none) (Hears.unreadable none') = refl
one_hearing json schema bytes one two ok (Hears.spelled s said c readable a is) (Hears.unreadable none) = absurd (none readable s (shown bytes s said a))
one_hearing json schema bytes one two ok (Hears.formless s readable a none') (Hears.unreadable none) = absurd (none readable s a)
one_hearing json schema bytes one two ok (Hears.unreadable none) (Hears.spelled s said c readable a is) = absurd (none readable s (shown bytes s said a))
one_hearing json schema bytes one two ok (Hears.unreadable none) (Hears.formless s readable a none') = absurd (none readable s a)

-- two accounts of what was told to the same lines heard the same of each
lines_heard : (json : Json) (schema : Schema) (lines : List Text) (one two : List Outcome) → IsSchema schema → HeardAll json schema lines one → HeardAll json schema lines two → map heard one ≡ map heard two
lines_heard json schema [] [] [] ok a b = refl
lines_heard json schema [] [] (t ∷ two) ok a b = absurd b
lines_heard json schema [] (t ∷ one) two ok a b = absurd a
lines_heard json schema (line ∷ lines) [] two ok a b = absurd a
lines_heard json schema (line ∷ lines) (s ∷ one) [] ok a b = absurd b
lines_heard json schema (line ∷ lines) (s ∷ one) (t ∷ two) ok a b =
    let here = one_hearing json schema line (heard s) (heard t) ok a.0 b.0 in
    let rest = lines_heard json schema lines one two ok a.1 b.1 in
    λ i. here i ∷ rest i

-- ---- how a service begins

-- it begins under the schema that its first line spells
opened_under : (told : ToldByName) (schema : Schema) (from : Opened) → OpensFrom told schema (Ok from) → from.start.schema ≡ schema
opened_under told schema from (inl b) = b.fields
opened_under told schema from (inr e) = ap (λ o. o.start.schema) e.1

-- where no file is, it begins with nothing
opened_empty : (told : ToldByName) → ((q : Name) → told q ≡ Some None) → (schema : Schema) (from : Opened) → OpensFrom told schema (Ok from)
    → from ≡ record { start = record { schema = schema; records = []; token = 0 }; commit = None }
opened_empty told none schema from (inl b) = absurd (b.newest.there (none (Name.commit b.generation)))
opened_empty told none schema from (inr e) = e.1

module _ (json : Json) (reads : ReadsSchemas json) (told₁ told₂ : ToldByName) (first : Text) (lines : List Text) (from₁ from₂ : Opened) (tolds₁ tolds₂ : List Outcome) where
  abbrev Heard_so : Type 0
  Heard_so =
      (from₁.start.schema ≡ from₂.start.schema) × (map heard tolds₁ ≡ map heard tolds₂)
      × (((q : Name) → told₁ q ≡ Some None) → ((q : Name) → told₂ q ≡ Some None) → from₁ ≡ from₂)

  one_beginning : BeginsFrom json told₁ first (Ok from₁) → BeginsFrom json told₂ first (Ok from₂)
      → HeardAll json from₁.start.schema lines tolds₁ → HeardAll json from₂.start.schema lines tolds₂ → Heard_so
  one_beginning (Begins.opened f l text schema r readable a is opens) (Begins.opened g k text' schema' r' readable' b is' opens') one two =
      let texts = one_schema first f l g k text text' a b in
      let same : schema ≡ schema' = ok_value (sym is ∙ ap json.schema_of texts.2 ∙ is') in
      let under₁ : from₁.start.schema ≡ schema' = opened_under told₁ schema from₁ opens ∙ same in
      let under₂ : from₂.start.schema ≡ schema' = opened_under told₂ schema' from₂ opens' in (
        under₁ ∙ sym under₂,
        lines_heard json schema' lines tolds₁ tolds₂ (reads text' schema' is') (subst (λ s. HeardAll json s lines tolds₁) under₁ one) (subst (λ s. HeardAll json s lines tolds₂) under₂ two),
        λ none₁ none₂.
            opened_empty told₁ none₁ schema from₁ opens ∙ ap (λ s. record { start = record { schema = s; records = []; token = 0 }; commit = None }) same
            ∙ sym (opened_empty told₂ none₂ schema' from₂ opens'),
      )
    where
      ok_value : ◌≡◌ {A = Result Schema Refusal} (Ok schema) (Ok schema') → schema ≡ schema'
      ok_value e = cc e

pub one_way : InputsAreHeardOneWay
one_way json reads told₁ told₂ first lines from₁ from₂ tolds₁ tolds₂ = one_beginning json reads told₁ told₂ first lines from₁ from₂ tolds₁ tolds₂
