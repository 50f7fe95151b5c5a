-- Lines cut out of bytes that come in pieces, where of each line only a front is gathered.
use Rattle.std.proofs.Common.{◌≡◌, ◌≢◌, ℕ, suc, zero, ◌+◌, ◌-◌, ◌<◌, ◌≤◌, inl, inr, Bool, true, false, cond, List, [], ◌∷◌, ◌++◌, length, get_or, take, drop, map, refl, sym, ap, ◌∙◌, arith, append_assoc, append-nil, length-take, length-take-le, take_all, length-drop}
use Rattle.std.specs.Prelude.{Option, None, Some, nat_lt, min, ◌==◌}
use Rattle.std.specs.Io.BufRead.{strip_last, ends_with_byte}
use Rattle.std.proofs.lemmas.Bool.{eq-eqb, lt-ltb, cases_lt}
use Rattle.std.proofs.lemmas.Bool.Decides.{eqb_tells}
use Rattle.std.proofs.lemmas.List.{map-append, take-append-le, take_min}
use lib.Seq.{drop-drop, take-take, take-append-add}
use Rattle.cat_model.specs.Text.{Text, one_or_none}
use Rattle.cat_model.specs.Input.{ended_after, rest_after, ended_lines, lines_of}
use Rattle.cat_protocol.specs.serving.Machine.{short_line}

abbrev pub short_by : ℕ → Text → Option Text
short_by n line = cond (nat_lt n (length line)) None (Some line)

short_long : (n : ℕ) (line : Text) → n < length line → short_by n line ≡ None
short_long n line h = ap (λ b. cond b None (Some line)) (lt-ltb n (length line) h)

cut_len : (b : Bool) (p : Text) → length p ≤ length (cond b (take (length p - 1) p) p) + 1
cut_len true p = omega (arith, length-take (length p - 1) p)
cut_len false p = omega arith

stripped_len : (p : Text) → length p ≤ length (strip_last 13 p) + 1
stripped_len p = cut_len (ends_with_byte 13 p) p

-- what is gathered of a line shows as much as the line
pub short_gathered : (n : ℕ) (p : Text) → short_by n (take (n + 2) p) ≡ short_by n p
short_gathered n p =
    elim (cases_lt (n + 2) (length p)) [
      | inl h ↦ short_long n _ (omega (arith, length-take-le (n + 2) p (omega arith))) ∙ sym (short_long n p (omega arith))
      | inr h ↦ ap (short_by n) (take_all (n + 2) p h)
    ]

pub short_gathered_stripped : (n : ℕ) (p : Text) → short_by n (strip_last 13 (take (n + 2) p)) ≡ short_by n (strip_last 13 p)
short_gathered_stripped n p =
    elim (cases_lt (n + 2) (length p)) [
      | inl h ↦ (
          let long : n + 2 ≡ length (take (n + 2) p) = sym (length-take-le (n + 2) p (omega arith)) in
          short_long n _ (omega (arith, stripped_len (take (n + 2) p))) ∙ sym (short_long n _ (omega (arith, stripped_len p)))
          )
      | inr h ↦ ap (λ l. short_by n (strip_last 13 l)) (take_all (n + 2) p h)
    ]

-- a front of what is gathered and more
pub gathered_more : (k : ℕ) (p x : Text) → take k (take k p ++ x) ≡ take k (p ++ x)
gathered_more k p x =
    elim (cases_lt k (length p)) [
      | inl h ↦ (
          let full : length (take k p) ≡ k = length-take-le k p (omega arith) in
          take-append-le k (take k p) x (omega arith) ∙ take-take k k p (omega arith) ∙ sym (take-append-le k p x (omega arith))
          )
      | inr h ↦ ap (λ l. take k (l ++ x)) (take_all k p h)
    ]

-- what is added where there is room
pub gathered_with : (k : ℕ) (p x : Text) → length p ≤ k → take k (p ++ x) ≡ p ++ take (min (k - length p) (length x)) x
gathered_with k p x h =
    let parts : k ≡ length p + (k - length p) = omega arith in
    ap (λ n. take n (p ++ x)) parts ∙ take-append-add p x (k - length p) ∙ ap (λ l. p ++ l) (sym (take_min (k - length p) x))

-- ---- the first line feed

at_feed : (b : ℕ) (front bytes : Text) → b ≡ 10 → ended_after front (b ∷ bytes) ≡ strip_last 13 front ∷ ended_after [] bytes
at_feed b front bytes e = ap (λ t. cond t (strip_last 13 front ∷ ended_after [] bytes) (ended_after (front ++ b ∷ []) bytes)) (eq-eqb b 10 e)

at_feed_rest : (b : ℕ) (front bytes : Text) → b ≡ 10 → rest_after front (b ∷ bytes) ≡ rest_after [] bytes
at_feed_rest b front bytes e = ap (λ t. cond t (rest_after [] bytes) (rest_after (front ++ b ∷ []) bytes)) (eq-eqb b 10 e)

not_feed : (b : ℕ) → b ≢ 10 → (b == 10) ≡ false
not_feed b h = elim (eqb_tells b 10) [ inl t ↦ absurd (h t.1) | inr f ↦ f.0 ]

at_other : (b : ℕ) (front bytes : Text) → b ≢ 10 → ended_after front (b ∷ bytes) ≡ ended_after (front ++ b ∷ []) bytes
at_other b front bytes h = ap (λ t. cond t (strip_last 13 front ∷ ended_after [] bytes) (ended_after (front ++ b ∷ []) bytes)) (not_feed b h)

at_other_rest : (b : ℕ) (front bytes : Text) → b ≢ 10 → rest_after front (b ∷ bytes) ≡ rest_after (front ++ b ∷ []) bytes
at_other_rest b front bytes h = ap (λ t. cond t (rest_after [] bytes) (rest_after (front ++ b ∷ []) bytes)) (not_feed b h)

-- no line feed stands before the place
abbrev pub IsFirstFeed : Text → ℕ → Type 0
IsFirstFeed bytes at = (k : ℕ) → k < at → get_or bytes k 0 ≢ 10

later : (b : ℕ) (bytes : Text) (at : ℕ) → IsFirstFeed (b ∷ bytes) (suc at) → IsFirstFeed bytes at
later b bytes at first k h = first (suc k) (omega arith)

pub ended_at : (front bytes : Text) (at : ℕ) → at < length bytes → get_or bytes at 0 ≡ 10 → IsFirstFeed bytes at
    → ended_after front bytes ≡ strip_last 13 (front ++ take at bytes) ∷ ended_after [] (drop (suc at) bytes)
ended_at front [] at h e first = absurd (omega arith)
ended_at front (b ∷ bytes) zero h e first = at_feed b front bytes e ∙ ap (λ l. strip_last 13 l ∷ ended_after [] bytes) (sym (append-nil front))
ended_at front (b ∷ bytes) (suc at) h e first =
    at_other b front bytes (first 0 (omega arith)) ∙ ended_at (front ++ b ∷ []) bytes at (omega arith) e (later b bytes at first)
    ∙ ap (λ l. strip_last 13 l ∷ ended_after [] (drop (suc at) bytes)) (append_assoc front (b ∷ []) (take at bytes))

pub rest_at : (front bytes : Text) (at : ℕ) → at < length bytes → get_or bytes at 0 ≡ 10 → IsFirstFeed bytes at → rest_after front bytes ≡ rest_after [] (drop (suc at) bytes)
rest_at front [] at h e first = absurd (omega arith)
rest_at front (b ∷ bytes) zero h e first = at_feed_rest b front bytes e
rest_at front (b ∷ bytes) (suc at) h e first =
    at_other_rest b front bytes (first 0 (omega arith)) ∙ rest_at (front ++ b ∷ []) bytes at (omega arith) e (later b bytes at first)

pub ended_none : (front bytes : Text) → IsFirstFeed bytes (length bytes) → ended_after front bytes ≡ []
ended_none front [] first = refl
ended_none front (b ∷ bytes) first = at_other b front bytes (first 0 (omega arith)) ∙ ended_none (front ++ b ∷ []) bytes (later b bytes (length bytes) first)

pub rest_none : (front bytes : Text) → IsFirstFeed bytes (length bytes) → rest_after front bytes ≡ front ++ bytes
rest_none front [] first = sym (append-nil front)
rest_none front (b ∷ bytes) first =
    at_other_rest b front bytes (first 0 (omega arith)) ∙ rest_none (front ++ b ∷ []) bytes (later b bytes (length bytes) first) ∙ append_assoc front (b ∷ []) bytes

-- ---- pieces

ended_append_by : (t : Bool) (b : ℕ) (front bytes more : Text) → ((f : Text) → ended_after f (bytes ++ more) ≡ ended_after f bytes ++ ended_after (rest_after f bytes) more)
    → cond t (strip_last 13 front ∷ ended_after [] (bytes ++ more)) (ended_after (front ++ b ∷ []) (bytes ++ more))
    ≡ cond t (strip_last 13 front ∷ ended_after [] bytes) (ended_after (front ++ b ∷ []) bytes) ++ ended_after (cond t (rest_after [] bytes) (rest_after (front ++ b ∷ []) bytes)) more
ended_append_by true b front bytes more by = ap (λ l. strip_last 13 front ∷ l) (by [])
ended_append_by false b front bytes more by = by (front ++ b ∷ [])

pub ended_append : (bytes more front : Text) → ended_after front (bytes ++ more) ≡ ended_after front bytes ++ ended_after (rest_after front bytes) more
ended_append [] more front = refl
ended_append (b ∷ bytes) more front = ended_append_by (b == 10) b front bytes more (ended_append bytes more)

rest_append_by : (t : Bool) (b : ℕ) (front bytes more : Text) → ((f : Text) → rest_after f (bytes ++ more) ≡ rest_after (rest_after f bytes) more)
    → cond t (rest_after [] (bytes ++ more)) (rest_after (front ++ b ∷ []) (bytes ++ more)) ≡ rest_after (cond t (rest_after [] bytes) (rest_after (front ++ b ∷ []) bytes)) more
rest_append_by true b front bytes more by = by []
rest_append_by false b front bytes more by = by (front ++ b ∷ [])

pub rest_append : (bytes more front : Text) → rest_after front (bytes ++ more) ≡ rest_after (rest_after front bytes) more
rest_append [] more front = refl
rest_append (b ∷ bytes) more front = rest_append_by (b == 10) b front bytes more (rest_append bytes more)

-- ---- a front of the line is as good as the line

module _ (n : ℕ) where
  abbrev gathered : Text → Text
  gathered p = take (n + 2) p

  abbrev shown : List Text → List (Option Text)
  shown lines = map (short_by n) lines

  ended_gathered_by : (t : Bool) (b : ℕ) (p bytes : Text) → ((q : Text) → shown (ended_after (gathered q) bytes) ≡ shown (ended_after q bytes))
      → shown (cond t (strip_last 13 (gathered p) ∷ ended_after [] bytes) (ended_after (gathered p ++ b ∷ []) bytes)) ≡ shown (cond t (strip_last 13 p ∷ ended_after [] bytes) (ended_after (p ++ b ∷ []) bytes))
  ended_gathered_by true b p bytes by = ap (λ o. o ∷ shown (ended_after [] bytes)) (short_gathered_stripped n p)
  ended_gathered_by false b p bytes by = sym (by (gathered p ++ b ∷ [])) ∙ ap (λ l. shown (ended_after l bytes)) (gathered_more (n + 2) p (b ∷ [])) ∙ by (p ++ b ∷ [])

  pub ended_gathered : (bytes p : Text) → shown (ended_after (gathered p) bytes) ≡ shown (ended_after p bytes)
  ended_gathered [] p = refl
  ended_gathered (b ∷ bytes) p = ended_gathered_by (b == 10) b p bytes (ended_gathered bytes)

  rest_gathered_by : (t : Bool) (b : ℕ) (p bytes : Text) → ((q : Text) → gathered (rest_after (gathered q) bytes) ≡ gathered (rest_after q bytes))
      → gathered (cond t (rest_after [] bytes) (rest_after (gathered p ++ b ∷ []) bytes)) ≡ gathered (cond t (rest_after [] bytes) (rest_after (p ++ b ∷ []) bytes))
  rest_gathered_by true b p bytes by = refl
  rest_gathered_by false b p bytes by = sym (by (gathered p ++ b ∷ [])) ∙ ap (λ l. gathered (rest_after l bytes)) (gathered_more (n + 2) p (b ∷ [])) ∙ by (p ++ b ∷ [])

  pub rest_gathered : (bytes p : Text) → gathered (rest_after (gathered p) bytes) ≡ gathered (rest_after p bytes)
  rest_gathered [] p = take-take (n + 2) (n + 2) p (omega arith)
  rest_gathered (b ∷ bytes) p = rest_gathered_by (b == 10) b p bytes (rest_gathered bytes)

  pub last_gathered : (p : Text) → shown (one_or_none (gathered p)) ≡ shown (one_or_none p)
  last_gathered [] = ap (λ l. shown (one_or_none l)) (take_all (n + 2) [] (omega arith))
  last_gathered (b ∷ p) =
      let one : n + 2 ≡ suc (n + 1) = omega arith in
      let e = ap (λ k. take k (b ∷ p)) one in
      ap (λ l. shown (one_or_none l)) e ∙ ap (λ o. o ∷ []) (ap (short_by n) (sym e) ∙ short_gathered n (b ∷ p))

-- ---- what the code does at a line feed

tail_of : (bytes more : Text) (at : ℕ) → more ≡ drop at bytes → drop (suc at) bytes ≡ take (length more - 1) (drop 1 more)
tail_of bytes more at m =
    let step : suc at ≡ at + 1 = omega arith in
    let whole = take_all (length more - 1) (drop 1 more) (omega (arith, length-drop 1 more)) in
    ap (λ k. drop k bytes) step ∙ sym (drop-drop 1 at bytes) ∙ ap (drop 1) (sym m) ∙ sym whole

pub ended_split : (front bytes piece more : Text) (at : ℕ) → at < length bytes → get_or bytes at 0 ≡ 10 → IsFirstFeed bytes at → piece ≡ take at bytes → more ≡ drop at bytes
    → ended_after front bytes ≡ strip_last 13 (front ++ piece) ∷ ended_after [] (take (length more - 1) (drop 1 more))
ended_split front bytes piece more at h e first p m =
    ended_at front bytes at h e first ∙ ap (λ l. strip_last 13 (front ++ l) ∷ ended_after [] (drop (suc at) bytes)) (sym p)
    ∙ ap (λ l. strip_last 13 (front ++ piece) ∷ ended_after [] l) (tail_of bytes more at m)

pub rest_split : (front bytes more : Text) (at : ℕ) → at < length bytes → get_or bytes at 0 ≡ 10 → IsFirstFeed bytes at → more ≡ drop at bytes
    → rest_after front bytes ≡ rest_after [] (take (length more - 1) (drop 1 more))
rest_split front bytes more at h e first m = rest_at front bytes at h e first ∙ ap (rest_after []) (tail_of bytes more at m)

-- a line that the gathered front ends is short_line as the whole line is
pub line_shortened : (front piece line gathered : Text) → line ≡ strip_last 13 gathered → gathered ≡ take 10002 (front ++ piece) → short_line line ≡ short_line (strip_last 13 (front ++ piece))
line_shortened front piece line gathered l h = ap short_line (l ∙ ap (strip_last 13) h) ∙ short_gathered_stripped 10000 (front ++ piece)

abbrev pub shown_lines : List Text → List (Option Text)
shown_lines lines = map short_line lines

-- fronts of one line end it alike
pub ended_same : (bytes p q : Text) → take 10002 p ≡ take 10002 q → shown_lines (ended_after p bytes) ≡ shown_lines (ended_after q bytes)
ended_same bytes p q e = sym (ended_gathered 10000 bytes p) ∙ ap (λ l. shown_lines (ended_after l bytes)) e ∙ ended_gathered 10000 bytes q

pub rest_same : (bytes p q : Text) → take 10002 p ≡ take 10002 q → take 10002 (rest_after p bytes) ≡ take 10002 (rest_after q bytes)
rest_same bytes p q e = sym (rest_gathered 10000 bytes p) ∙ ap (λ l. take 10002 (rest_after l bytes)) e ∙ rest_gathered 10000 bytes q

pub last_same : (p q : Text) → take 10002 p ≡ take 10002 q → shown_lines (one_or_none p) ≡ shown_lines (one_or_none q)
last_same p q e = sym (last_gathered 10000 p) ∙ ap (λ l. shown_lines (one_or_none l)) e ∙ last_gathered 10000 q

-- more bytes after the first
pub ended_on : (bytes more gathered : Text) → take 10002 gathered ≡ take 10002 (rest_after [] bytes)
    → shown_lines (ended_after [] bytes) ++ shown_lines (ended_after gathered more) ≡ shown_lines (ended_after [] (bytes ++ more))
ended_on bytes more gathered e =
    ap (λ l. shown_lines (ended_after [] bytes) ++ l) (ended_same more gathered (rest_after [] bytes) e) ∙ sym (map-append short_line (ended_after [] bytes) (ended_after (rest_after [] bytes) more))
    ∙ ap shown_lines (sym (ended_append bytes more []))

pub rest_on : (bytes more gathered : Text) → take 10002 gathered ≡ take 10002 (rest_after [] bytes) → take 10002 (rest_after gathered more) ≡ take 10002 (rest_after [] (bytes ++ more))
rest_on bytes more gathered e = rest_same more gathered (rest_after [] bytes) e ∙ ap (take 10002) (sym (rest_append bytes more []))

-- what is gathered of a line is short_line as the line is
pub short_same : (gathered line : Text) → take 10002 gathered ≡ take 10002 line → short_line gathered ≡ short_line line
short_same gathered line e = sym (short_gathered 10000 gathered) ∙ ap short_line e ∙ short_gathered 10000 line

-- ---- the end of the input

no_feed_by : (t : Bool) (b : ℕ) (bytes front : Text) → ((f : Text) → ended_after f bytes ≡ [] → rest_after f bytes ≡ f ++ bytes)
    → cond t (strip_last 13 front ∷ ended_after [] bytes) (ended_after (front ++ b ∷ []) bytes) ≡ []
    → cond t (rest_after [] bytes) (rest_after (front ++ b ∷ []) bytes) ≡ front ++ b ∷ bytes
no_feed_by true b bytes front by e = absurd (cc)
no_feed_by false b bytes front by e = by (front ++ b ∷ []) e ∙ append_assoc front (b ∷ []) bytes

-- where no line feed has come, nothing comes after one
pub no_feed : (bytes front : Text) → ended_after front bytes ≡ [] → rest_after front bytes ≡ front ++ bytes
no_feed [] front e = sym (append-nil front)
no_feed (b ∷ bytes) front e = no_feed_by (b == 10) b bytes front (no_feed bytes) e

-- an input without a line feed is one line
pub one_line : (bytes : Text) → ended_lines bytes ≡ [] → lines_of bytes ≡ bytes ∷ []
one_line [] e = refl
one_line (b ∷ bytes) e = ap (λ l. l ++ one_or_none (rest_after [] (b ∷ bytes))) e ∙ ap one_or_none (no_feed (b ∷ bytes) [] e)

pub lines_end : (b : ℕ) (bytes gathered : Text) → take 10002 gathered ≡ take 10002 (rest_after [] (b ∷ bytes))
    → shown_lines (ended_lines (b ∷ bytes)) ++ shown_lines (one_or_none gathered) ≡ shown_lines (lines_of (b ∷ bytes))
lines_end b bytes gathered e =
    ap (λ l. shown_lines (ended_lines (b ∷ bytes)) ++ l) (last_same gathered (rest_after [] (b ∷ bytes)) e)
    ∙ sym (map-append short_line (ended_lines (b ∷ bytes)) (one_or_none (rest_after [] (b ∷ bytes))))
