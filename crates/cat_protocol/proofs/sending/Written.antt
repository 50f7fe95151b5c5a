-- Texts that go out in pieces, one behind another.
use Rattle.std.proofs.Common.{◌≡◌, ℕ, ◌+◌, ◌-◌, ◌≤◌, ◌<◌, List, [], ◌∷◌, ◌++◌, codes, length, take, drop, refl, sym, ap, ◌∙◌, subst, arith, length-take, append_assoc, append-nil, get_or, take-append-drop}
use Rattle.std.specs.Prelude.{Option, Result, Ok, Err, map}
use Rattle.std.specs.Result.{IsErr}
use Rattle.std.specs.List.{flat_map}
use Rattle.std.specs.Fmt.{decimal}
use Rattle.std.proofs.lemmas.List.{take_more, take_rest}
use Rattle.std.proofs.lemmas.List.Concat.{flat_map-append}
use lib.Seq.{take-add, take-take}
use Rattle.std.specs.Io.KnownBytes.{Appends, Keeps}
use Rattle.std.proofs.KnownBytes.{Appends-nil, Appends-trans, Appends-kept}
use Rattle.cat_base.specs.declared.refusal.Refusal.{Refusal}
use Rattle.cat_base.specs.declared.refusal.Refusal.TheVariants.{Query}
use Rattle.cat_base.specs.Refusals.{number_of}
use Rattle.cat_model.specs.Text.{Text}
use Rattle.cat_model.specs.Lines.{line_text, refusal_words}
use Rattle.cat_model.specs.Served.{AppendsFront, refused_text}
use Rattle.cat_protocol.specs.sending.Out.{Gathers, PassesOn, Sent}

-- ---- the bytes of one piece

-- n more bytes went out behind the first `sent`, of a slice of the rest
pub front_more : (a b c : Option Text) (bytes : Text) (sent n : ℕ) → n ≤ length (take (length bytes - sent) (drop sent bytes))
    → Appends a b (take sent bytes) → Appends b c (take n (take (length bytes - sent) (drop sent bytes))) → Appends a c (take (sent + n) bytes)
front_more a b c bytes sent n fits before now =
    let most = length-take (length bytes - sent) (drop sent bytes) in
    let whole = take-take n (length bytes - sent) (drop sent bytes) (omega arith) in
    subst (Appends a c) (ap (λ l. take sent bytes ++ l) whole ∙ sym (take-add sent n bytes)) (Appends-trans a b c _ _ before now)

pub front_of_take : (a b : Option Text) (bytes : Text) (sent : ℕ) → Appends a b (take sent bytes) → AppendsFront a b bytes
front_of_take a b bytes sent before = record { front = take sent bytes; rest = drop sent bytes; whole = take-append-drop sent bytes; went = before }

pub front_kept : (a b c : Option Text) (bytes : Text) (sent : ℕ) → Appends a b (take sent bytes) → Keeps b c → AppendsFront a c bytes
front_kept a b c bytes sent before kept = front_of_take a c bytes sent (Appends-kept a b c _ before kept)

-- ---- one piece behind another

-- all of a text is a front of it
pub front_whole : (a b : Option Text) (text : Text) → Appends a b text → AppendsFront a b text
front_whole a b text went = record { front = text; rest = []; whole = append-nil text; went = went }

-- a front of the first piece is a front of both
pub front_before : {a b : Option Text} {x : Text} (y : Text) → AppendsFront a b x → AppendsFront a b (x ++ y)
front_before {x} y part = record {
  front = part.front;
  rest = part.rest ++ y;
  whole = sym (append_assoc part.front part.rest y) ∙ ap (λ l. l ++ y) part.whole;
  went = part.went;
}

-- the first piece went out, and a front of the second
pub front_behind : (a b c : Option Text) (x y : Text) → Appends a b x → AppendsFront b c y → AppendsFront a c (x ++ y)
front_behind a b c x y all part = record {
  front = x ++ part.front;
  rest = part.rest;
  whole = append_assoc x part.front part.rest ∙ ap (λ l. x ++ l) part.whole;
  went = Appends-trans a b c x part.front all part.went;
}

-- the first piece went out, and the second was sent
pub sent_behind : {T E : Type 0} (a b c : Option Text) (r : Result T E) (x y : Text) → Appends a b x → Sent b c r y → Sent a c r (x ++ y)
sent_behind a b c (Ok u) x y all more = Appends-trans a b c x y all more
sent_behind a b c (Err e) x y all part = front_behind a b c x y all part

-- a front of the bytes went out, and the rest was sent
pub sent_in_two : {T E : Type 0} (a b c : Option Text) (r : Result T E) (bytes : Text) (n : ℕ) → Appends a b (take n bytes)
    → Sent b c r (take (length bytes - n) (drop n bytes)) → Sent a c r bytes
sent_in_two a b c r bytes n all more =
    subst (Sent a c r) (ap (λ l. take n bytes ++ l) (take_rest bytes n) ∙ take-append-drop n bytes)
    (sent_behind a b c r (take n bytes) (take (length bytes - n) (drop n bytes)) all more)

-- what a fault returns
pub sent_at_fault : {T E : Type 0} {a b : Option Text} {x : Text} (r : Result T E) → IsErr r → AppendsFront a b x → Sent a b r x
sent_at_fault (Ok u) is part = cc
sent_at_fault (Err e) is part = part

pub front_as : {a b : Option Text} {x y : Text} → x ≡ y → AppendsFront a b x → AppendsFront a b y
front_as {a} {b} e = subst (AppendsFront a b) e

-- ---- pieces that are gathered

-- a text that is taken in whole, so that nothing goes out
pub taken_in : (a : Option Text) (waited waits text : Text) → waits ≡ waited ++ text → PassesOn a a waited waits text
taken_in a waited waits text e = record { out = []; went = Appends-nil a; whole = sym e }

-- all that waited went out, and the text was sent behind it
pub all_out : {T E : Type 0} (a b c : Option Text) (r : Result T E) (waited waits text : Text) → waits ≡ [] → Appends a b waited → Sent b c r text
    → Gathers a c waited waits r text
all_out a b c (Ok u) waited waits text e before now = record {
  out = waited ++ text;
  went = Appends-trans a b c waited text before now;
  whole = sym (append-nil (waited ++ text)) ∙ ap (λ l. (waited ++ text) ++ l) (sym e);
}
all_out a b c (Err u) waited waits text e before part = front_behind a b c waited text before part

-- a front of what waited and of the first piece is a front of all
pub gathered_before : {a b : Option Text} (waited x y : Text) → AppendsFront a b (waited ++ x) → AppendsFront a b (waited ++ (x ++ y))
gathered_before waited x y part = front_as (append_assoc waited x y) (front_before y part)

-- what a fault returns
pub gathered_at_fault : {T E : Type 0} {a b : Option Text} (waited waits x : Text) (r : Result T E) → IsErr r → AppendsFront a b (waited ++ x)
    → Gathers a b waited waits r x
gathered_at_fault waited waits x (Ok u) is part = cc
gathered_at_fault waited waits x (Err e) is part = part

-- where a piece was taken in, what went out is all but what waits
passed : (waited waits x y out : Text) → waited ++ x ≡ out ++ waits → out ++ (waits ++ y) ≡ waited ++ (x ++ y)
passed waited waits x y out e = sym (append_assoc out waits y) ∙ ap (λ l. l ++ y) (sym e) ∙ append_assoc waited x y

-- the first piece was taken in, and a front of the rest went out
pub gathered_front : (a b c : Option Text) (waited waits x y : Text) → PassesOn a b waited waits x → AppendsFront b c (waits ++ y)
    → AppendsFront a c (waited ++ (x ++ y))
gathered_front a b c waited waits x y first part = front_as (passed waited waits x y first.out first.whole) (front_behind a b c first.out (waits ++ y) first.went part)

-- one piece behind another
pub both_taken : (a b c : Option Text) (waited between waits x y : Text) → PassesOn a b waited between x → PassesOn b c between waits y → PassesOn a c waited waits (x ++ y)
both_taken a b c waited between waits x y first more = record {
  out = first.out ++ more.out;
  went = Appends-trans a b c first.out more.out first.went more.went;
  whole = sym (passed waited between x y first.out first.whole) ∙ ap (λ l. first.out ++ l) more.whole ∙ sym (append_assoc first.out more.out waits);
}

pub gathered_behind : {T E : Type 0} (a b c : Option Text) (waited between waits : Text) (r : Result T E) (x y : Text)
    → PassesOn a b waited between x → Gathers b c between waits r y → Gathers a c waited waits r (x ++ y)
gathered_behind a b c waited between waits (Ok u) x y first more = both_taken a b c waited between waits x y first more
gathered_behind a b c waited between waits (Err e) x y first part = gathered_front a b c waited between x y first part

-- where nothing waited the text alone goes out
pub unwaited : {a b : Option Text} (waited x : Text) → waited ≡ [] → AppendsFront a b (waited ++ x) → AppendsFront a b x
unwaited waited x e = front_as (ap (λ l. l ++ x) e)

pub gathered_sent : {T E : Type 0} (a b c : Option Text) (waited waits : Text) (r : Result T E) (x : Text) → waited ≡ []
    → PassesOn a b waited waits x → Sent b c r waits → Sent a c r x
gathered_sent a b c waited waits r x e taken last =
    subst (Sent a c r) (sym taken.whole ∙ ap (λ l. l ++ x) e) (sent_behind a b c r taken.out waits taken.went last)

-- ---- lists of lines

pub flat_map_more : {X : Type 0} (f : X → Text) (xs : List X) (i : ℕ) (d : X) → i < length xs → flat_map f (take (i + 1) xs) ≡ flat_map f (take i xs) ++ f (get_or xs i d)
flat_map_more f xs i d h =
    ap (flat_map f) (take_more xs i d h) ∙ flat_map-append f (take i xs) (get_or xs i d ∷ []) ∙ ap (λ l. flat_map f (take i xs) ++ l) (append-nil (f (get_or xs i d)))

pub flat_map-map : {X Y : Type 0} (f : Y → Text) (g : X → Y) (xs : List X) → flat_map f (map g xs) ≡ flat_map (λ x. f (g x)) xs
flat_map-map f g [] = refl
flat_map-map f g (x ∷ xs) = ap (λ l. f (g x) ++ l) (flat_map-map f g xs)

-- the lines of the elements up to one, and of those behind it
pub flat_map_split : {X : Type 0} (f : X → Text) (xs : List X) (i : ℕ) (d : X) → i < length xs
    → flat_map f xs ≡ flat_map f (take i xs) ++ (f (get_or xs i d) ++ flat_map f (drop (i + 1) xs))
flat_map_split f xs i d h =
    sym (ap (flat_map f) (take-append-drop (i + 1) xs)) ∙ flat_map-append f (take (i + 1) xs) (drop (i + 1) xs)
    ∙ ap (λ l. l ++ flat_map f (drop (i + 1) xs)) (flat_map_more f xs i d h) ∙ append_assoc (flat_map f (take i xs)) (f (get_or xs i d)) (flat_map f (drop (i + 1) xs))

-- ---- what is refused, in pieces, where a number has the bytes behind it

pub refused_first_in_pieces : (e : Refusal) → refused_text e ≡ codes "NO " ++ line_text (refusal_words e)
refused_first_in_pieces (Query place) = refl
refused_first_in_pieces e = refl

pub no_query_in_pieces : (e : Refusal) (number place : ℕ) → e ≡ Query place → number ≡ number_of e
    → line_text (refusal_words e) ≡ (decimal number ++ codes " ") ++ (decimal place ++ codes "\n")
no_query_in_pieces e number place is n = rw (n, is) (simp append_assoc)

-- ---- what is refused, by pieces whose texts are told by equations: so a piece that is another is told from it by that equation, before
-- any text is computed

pub refused_sent : {T E : Type 0} (a b c : Option Text) (r : Result T E) (e : Refusal) (first : Text) → Appends a b first → Sent b c r (line_text (refusal_words e))
    → first ≡ codes "NO " → Sent a c r (refused_text e)
refused_sent a b c r e first before more is =
    rw (refused_first_in_pieces e) (sent_behind a b c r (codes "NO ") (line_text (refusal_words e)) (subst (λ l. Appends a b l) is before) more)

pub refused_cut : {T E : Type 0} (a b : Option Text) (r : Result T E) (e : Refusal) (first : Text) → AppendsFront a b first → IsErr r → first ≡ codes "NO "
    → Sent a b r (refused_text e)
refused_cut a b r e first part fails is =
    rw (refused_first_in_pieces e) (sent_at_fault r fails (front_before (line_text (refusal_words e)) (front_as is part)))

pub query_sent : {T E : Type 0} (a b c : Option Text) (r : Result T E) (e : Refusal) (place number behind : ℕ) → e ≡ Query place
    → Appends a b (decimal number ++ codes " ") → Sent b c r (decimal behind ++ codes "\n") → number ≡ number_of e → behind ≡ place
    → Sent a c r (line_text (refusal_words e))
query_sent a b c r e place number behind is before more n p =
    rw (no_query_in_pieces e number place is n)
    (sent_behind a b c r (decimal number ++ codes " ") (decimal place ++ codes "\n") before (subst (λ k. Sent b c r (decimal k ++ codes "\n")) p more))
