-- Texts with backslashes: where the closing quote stands, and what they are without the backslashes.
use Rattle.std.proofs.Common.{◌≡◌, ◌≢◌, ◌⊎◌, ℕ, zero, suc, ◌+◌, ◌<◌, List, [], ◌∷◌, ◌++◌, length, get_or, take, drop, Option, Some, None, Bool, true, false, eqb, cond, not, ◌||◌, refl, sym, ap, ◌∙◌, inl, inr, map, arith, eqb-true, true≢false, append-nil, append_assoc, subst, IsUtf8, length-drop, get_or-drop, add-zero}
use Rattle.std.specs.Str.{IsCharBoundary}
use Rattle.std.proofs.lemmas.Str.{IsCharBoundary-before_ascii, IsCharBoundary-after_ascii, IsUtf8-drop}
use Rattle.cat_query.proofs.Cuts.{plain_cut}
use Rattle.std.specs.Prelude.{option_map, filter}
use Rattle.std.specs.List.{prefix_len, slice_split}
use Rattle.std.specs.Char.{is_ascii_digit}
use Rattle.std.proofs.lemmas.List.Splits.{slice_split-cons_yes, slice_split-cons_no}
use Rattle.std.proofs.lemmas.Bool.{and_parts}
use Rattle.cat_base.specs.Texts.{sorted_set}
use Rattle.cat_model.specs.Text.{Text}
use Rattle.cat_model.specs.Grammar.{is_bare_byte}
use Rattle.cat_model.specs.Words.{is_word_byte, is_some_text, lowered, words}
use Rattle.cat_model.specs.Reader.{quoted_at, with_byte}
use Rattle.cat_query.specs.Reading.{behind_byte}
use Rattle.cat_query.specs.Escapes.{unescaped_from, unescaped, is_escaped_from, is_escaped, closing_quote_from, is_no_backslash}

-- ---- the closing quote

pub record ClosesAt (escaped : Bool) (t : Text) (n : ℕ) : Type 0 where
  pub within : n < length t
  pub quote : get_or t n 0 ≡ 34
  pub read : quoted_at escaped t ≡ Some (unescaped_from escaped (take n t), drop (suc n) t)
  pub right : is_escaped_from escaped (take n t) ≡ true

abbrev pub Closes : Bool → Text → Option ℕ → Type 0
Closes escaped t None = quoted_at escaped t ≡ None
Closes escaped t (Some n) = ClosesAt escaped t n

module _ (b : ℕ) (bs : Text) where
  escaped_byte : (v : Bool) → (eqb b 34 || eqb b 92) ≡ v → (o : Option ℕ) → Closes false bs o → Closes true (b ∷ bs) (cond v (option_map (λ n. suc n) o) None)
  unfolding quoted_at
  escaped_byte false e o h = rw e refl
  escaped_byte true e None h = rw e (ap (with_byte b) h)
  escaped_byte true e (Some n) h = record {
    within = let lt = h.within in omega arith;
    quote = h.quote;
    read = rw e (ap (with_byte b) h.read);
    right = rw e h.right;
  }

  closing_byte : eqb b 34 ≡ true → ClosesAt false (b ∷ bs) 0
  unfolding quoted_at
  closing_byte e = record {
    within = omega arith;
    quote = eqb-true b 34 e;
    read = rw e refl;
    right = refl;
  }

  byte : (v : Bool) → eqb b 34 ≡ false → eqb b 92 ≡ v → (o : Option ℕ) → Closes v bs o → Closes false (b ∷ bs) (option_map (λ n. suc n) o)
  unfolding quoted_at
  byte true p q None h = rw (p, q) h
  byte false p q None h = rw (p, q) (ap (with_byte b) h)
  byte true p q (Some n) h = record {
    within = let lt = h.within in omega arith;
    quote = h.quote;
    read = rw (p, q) h.read;
    right = rw q h.right;
  }
  byte false p q (Some n) h = record {
    within = let lt = h.within in omega arith;
    quote = h.quote;
    read = rw (p, q) (ap (with_byte b) h.read);
    right = rw q h.right;
  }

pub closes : (escaped : Bool) (t : Text) → Closes escaped t (closing_quote_from escaped t)
unfolding quoted_at
closes escaped [] = refl
closes true (b ∷ bs) = escaped_byte b bs (eqb b 34 || eqb b 92) refl (closing_quote_from false bs) (closes false bs)
closes false (b ∷ bs) = at (λ v. closes v bs) (eqb b 34) refl
  where
    at : ((v : Bool) → Closes v bs (closing_quote_from v bs)) → (v : Bool) → eqb b 34 ≡ v → Closes false (b ∷ bs) (cond v (Some 0) (option_map (λ n. suc n) (closing_quote_from (eqb b 92) bs)))
    at later true e = closing_byte b bs e
    at later false e = byte b bs (eqb b 92) e refl (closing_quote_from (eqb b 92) bs) (later (eqb b 92))

-- ---- bare texts

no_backslash : (b : ℕ) (v : Bool) → eqb b 92 ≡ v → is_bare_byte b ≡ true → v ≡ false
no_backslash b false e bare = refl
no_backslash b true e bare = absurd (true≢false (sym bare ∙ ap is_bare_byte (eqb-true b 92 e)))

-- a bare text has no backslash
pub bare_stays : (t : Text) → (unescaped (take (prefix_len is_bare_byte t) t) ≡ take (prefix_len is_bare_byte t) t) × (is_escaped (take (prefix_len is_bare_byte t) t) ≡ true)
bare_stays [] = (refl, refl)
bare_stays (b ∷ bs) = step (bare_stays bs) (is_bare_byte b) refl
  where
    step : (unescaped (take (prefix_len is_bare_byte bs) bs) ≡ take (prefix_len is_bare_byte bs) bs) × (is_escaped (take (prefix_len is_bare_byte bs) bs) ≡ true)
        → (v : Bool) → is_bare_byte b ≡ v
        → (unescaped (take (cond v (1 + prefix_len is_bare_byte bs) 0) (b ∷ bs)) ≡ take (cond v (1 + prefix_len is_bare_byte bs) 0) (b ∷ bs)) × (is_escaped (take (cond v (1 + prefix_len is_bare_byte bs) 0) (b ∷ bs)) ≡ true)
    step later true e =
        let n : 1 + prefix_len is_bare_byte bs ≡ suc (prefix_len is_bare_byte bs) = omega arith in
        let plain = no_backslash b (eqb b 92) refl e in
        rw n (rw plain (ap (λ (x : Text). b ∷ x) later.0), rw plain later.1)
    step later false e = (refl, refl)

-- ---- the text without its backslashes, piece by piece

abbrev pub front : Text → Text
front t = take (prefix_len is_no_backslash t) t

abbrev pub behind : Text → Text
behind t = drop (prefix_len is_no_backslash t) t

not_true : (v : Bool) → not v ≡ true → v ≡ false
not_true true e = absurd cc
not_true false e = refl

not_false : (v : Bool) → not v ≡ false → v ≡ true
not_false true e = refl
not_false false e = absurd cc

plain_front : (t : Text) → unescaped t ≡ front t ++ unescaped (behind t)
plain_front [] = refl
plain_front (b ∷ bs) = step (plain_front bs) (is_no_backslash b) refl
  where
    step : unescaped bs ≡ front bs ++ unescaped (behind bs) → (v : Bool) → is_no_backslash b ≡ v
        → unescaped (b ∷ bs) ≡ take (cond v (1 + prefix_len is_no_backslash bs) 0) (b ∷ bs) ++ unescaped (drop (cond v (1 + prefix_len is_no_backslash bs) 0) (b ∷ bs))
    step later true e =
        let n : 1 + prefix_len is_no_backslash bs ≡ suc (prefix_len is_no_backslash bs) = omega arith in
        rw n (rw (not_true (eqb b 92) e) (ap (λ (x : Text). b ∷ x) later))
    step later false e = refl

-- what stands behind the plain bytes is nothing, or begins with a backslash
stops : (t : Text) → (behind t ≡ []) ⊎ ((bs : Text) × (behind t ≡ 92 ∷ bs))
stops [] = inl refl
stops (b ∷ bs) = step (stops bs) (is_no_backslash b) refl
  where
    step : (behind bs ≡ []) ⊎ ((cs : Text) × (behind bs ≡ 92 ∷ cs)) → (v : Bool) → is_no_backslash b ≡ v
        → (drop (cond v (1 + prefix_len is_no_backslash bs) 0) (b ∷ bs) ≡ []) ⊎ ((cs : Text) × (drop (cond v (1 + prefix_len is_no_backslash bs) 0) (b ∷ bs) ≡ 92 ∷ cs))
    step later true e = let n : 1 + prefix_len is_no_backslash bs ≡ suc (prefix_len is_no_backslash bs) = omega arith in rw n later
    step later false e = inr (bs, ap (λ c. c ∷ bs) (eqb-true b 92 (not_false (eqb b 92) e)))

module _ (t : Text) where
  pub all_plain : behind_byte 92 (behind t) ≡ None → unescaped t ≡ front t
  all_plain n = elim (stops t) [
    | inl e ↦ plain_front t ∙ ap (λ (x : Text). front t ++ unescaped x) e ∙ append-nil (front t)
    | inr h ↦ absurd (let there = rw h.1 at n in cc)
  ]

  -- an escaped byte that is no backslash is like any other
  escaped_byte_is : (from : Text) → behind_byte 92 from ≡ None → unescaped (92 ∷ from) ≡ unescaped from
  escaped_byte_is [] n = refl
  escaped_byte_is (b ∷ bs) n = same (eqb b 92) n
    where
      same : (v : Bool) → cond v (Some bs) None ≡ None → b ∷ unescaped bs ≡ cond v (unescaped_from true bs) (b ∷ unescaped bs)
      same true e = absurd cc
      same false e = refl

  pub with_plain : (from : Text) → behind t ≡ 92 ∷ from → behind_byte 92 from ≡ None → unescaped t ≡ front t ++ unescaped from
  with_plain from e n = plain_front t ∙ ap (λ (x : Text). front t ++ unescaped x) e ∙ ap (λ (x : Text). front t ++ x) (escaped_byte_is from n)

  pub with_backslash : (from more : Text) → behind t ≡ 92 ∷ from → from ≡ 92 ∷ more → unescaped t ≡ front t ++ (92 ∷ unescaped more)
  with_backslash from more e f = plain_front t ∙ ap (λ (x : Text). front t ++ unescaped x) e ∙ ap (λ (x : Text). front t ++ unescaped (92 ∷ x)) f

-- ---- what is judged of a text with its backslashes

-- which escaped byte it is
quote_or_backslash : (b : ℕ) → (eqb b 34 || eqb b 92) ≡ true → (b ≡ 34) ⊎ (b ≡ 92)
quote_or_backslash b e = by (eqb b 34) (eqb b 92) refl refl e
  where
    by : (x y : Bool) → eqb b 34 ≡ x → eqb b 92 ≡ y → (x || y) ≡ true → (b ≡ 34) ⊎ (b ≡ 92)
    by true y p q h = inl (eqb-true b 34 p)
    by false true p q h = inr (eqb-true b 92 q)
    by false false p q h = absurd cc

no_word : (b : ℕ) → (eqb b 34 || eqb b 92) ≡ true → is_word_byte b ≡ false
no_word b e = elim (quote_or_backslash b e) [ inl q ↦ ap is_word_byte q | inr q ↦ ap is_word_byte q ]

pub no_digit : (b : ℕ) → (eqb b 34 || eqb b 92) ≡ true → is_ascii_digit b ≡ false
no_digit b e = elim (quote_or_backslash b e) [ inl q ↦ ap is_ascii_digit q | inr q ↦ ap is_ascii_digit q ]

pub no_minus : (b : ℕ) → (eqb b 34 || eqb b 92) ≡ true → eqb b 45 ≡ false
no_minus b e = elim (quote_or_backslash b e) [ inl q ↦ ap (λ c. eqb c 45) q | inr q ↦ ap (λ c. eqb c 45) q ]

abbrev cuts : ℕ → Bool
cuts b = not (is_word_byte b)

-- two series of parts with one first part, and the same parts that aren't empty behind it
record SameRuns (xs ys : List Text) : Type 0 where
  head : Text
  left : List Text
  right : List Text
  one : xs ≡ head ∷ left
  other : ys ≡ head ∷ right
  tails : filter is_some_text left ≡ filter is_some_text right

same_filtered : (xs ys : List Text) → SameRuns xs ys → filter is_some_text xs ≡ filter is_some_text ys
same_filtered xs ys s = ap (filter is_some_text) s.one ∙ ap (λ (r : List Text). cond (is_some_text s.head) (s.head ∷ r) r) s.tails ∙ sym (ap (filter is_some_text) s.other)

split_byte : (b : ℕ) (xs ys : Text) (v : Bool) → cuts b ≡ v → SameRuns (slice_split cuts xs) (slice_split cuts ys) → SameRuns (slice_split cuts (b ∷ xs)) (slice_split cuts (b ∷ ys))
split_byte b xs ys true e s = record {
  head = [];
  left = slice_split cuts xs;
  right = slice_split cuts ys;
  one = slice_split-cons_yes cuts b xs e;
  other = slice_split-cons_yes cuts b ys e;
  tails = same_filtered (slice_split cuts xs) (slice_split cuts ys) s;
}
split_byte b xs ys false e s = record {
  head = b ∷ s.head;
  left = s.left;
  right = s.right;
  one = slice_split-cons_no cuts b xs e ∙ rw s.one refl;
  other = slice_split-cons_no cuts b ys e ∙ rw s.other refl;
  tails = s.tails;
}

-- an escaped byte cuts as the backslash before it does
split_escaped : (b : ℕ) (xs ys : Text) → cuts b ≡ true → SameRuns (slice_split cuts xs) (slice_split cuts ys) → SameRuns (slice_split cuts (92 ∷ b ∷ xs)) (slice_split cuts (b ∷ ys))
split_escaped b xs ys e s = record {
  head = [];
  left = slice_split cuts (b ∷ xs);
  right = slice_split cuts ys;
  one = slice_split-cons_yes cuts 92 (b ∷ xs) refl;
  other = slice_split-cons_yes cuts b ys e;
  tails = ap (filter is_some_text) (slice_split-cons_yes cuts b xs e) ∙ same_filtered (slice_split cuts xs) (slice_split cuts ys) s;
}

-- the text, behind a backslash where the flag says so
abbrev after_flag : Bool → Text → Text
after_flag true t = 92 ∷ t
after_flag false t = t

same_runs_from : (v : Bool) (t : Text) → is_escaped_from v t ≡ true → SameRuns (slice_split cuts (after_flag v t)) (slice_split cuts (unescaped_from v t))
same_runs_from true [] e = absurd cc
same_runs_from false [] e = record { head = []; left = []; right = []; one = refl; other = refl; tails = refl }
same_runs_from true (b ∷ bs) e =
    let parts = and_parts (eqb b 34 || eqb b 92) (is_escaped bs) e in
    split_escaped b bs (unescaped bs) (ap not (no_word b parts.0)) (same_runs_from false bs parts.1)
same_runs_from false (b ∷ bs) e = at (λ v. same_runs_from v bs) (eqb b 92) refl e
  where
    at : ((v : Bool) → is_escaped_from v bs ≡ true → SameRuns (slice_split cuts (after_flag v bs)) (slice_split cuts (unescaped_from v bs))) → (v : Bool) → eqb b 92 ≡ v → cond v (is_escaped_from true bs) (is_escaped bs) ≡ true → SameRuns (slice_split cuts (b ∷ bs)) (slice_split cuts (cond v (unescaped_from true bs) (b ∷ unescaped bs)))
    at later true q f = rw (eqb-true b 92 q) (later true f)
    at later false q f = split_byte b bs (unescaped bs) (cuts b) refl (later false f)

-- an escaped text has the words that it has with its backslashes
pub words_stay : (t : Text) → is_escaped t ≡ true → words (unescaped t) ≡ words t
words_stay t e = sym (ap (λ (r : List Text). sorted_set (map lowered r)) (same_filtered (slice_split cuts t) (slice_split cuts (unescaped t)) (same_runs_from false t e)))

-- ---- a walk up to the closing quote

-- so many bytes from the beginning, where the walk has come to the index i
abbrev pub counted : ℕ → Option ℕ → Option ℕ
counted i = option_map (λ n. i + n)

counted-suc : (i : ℕ) (o : Option ℕ) → counted i (option_map (λ n. suc n) o) ≡ counted (i + 1) o
counted-suc i None = refl
counted-suc i (Some n) = ap (λ (k : ℕ). Some k) (omega arith)

module _ (total : Option ℕ) (i b : ℕ) (rest t : Text) (v : Bool) (at : t ≡ b ∷ rest) (so : counted i (closing_quote_from v t) ≡ total) where
  pub wrong_byte : v ≡ true → (eqb b 34 || eqb b 92) ≡ false → total ≡ None
  wrong_byte e w = let done = rw (at, e, w) at so in sym done

  pub escaped_passed : v ≡ true → (eqb b 34 || eqb b 92) ≡ true → counted (i + 1) (closing_quote_from false rest) ≡ total
  escaped_passed e w = let done = rw (at, e, w) at so in sym (counted-suc i (closing_quote_from false rest)) ∙ done

  pub quote_met : v ≡ false → eqb b 34 ≡ true → total ≡ Some i
  quote_met e w = let done = rw (at, e, w) at so in sym done ∙ ap (λ (k : ℕ). Some k) (omega arith)

  pub byte_passed : v ≡ false → eqb b 34 ≡ false → counted (i + 1) (closing_quote_from (eqb b 92) rest) ≡ total
  byte_passed e w = let done = rw (at, e, w) at so in sym (counted-suc i (closing_quote_from (eqb b 92) rest)) ∙ done

-- ---- what stands between the quotes

pub no_close : (t : Text) → None ≡ closing_quote_from false t → quoted_at false t ≡ None
no_close t e = subst (Closes false t) (sym e) (closes false t)

pub closes_at : (t : Text) (n : ℕ) → Some n ≡ closing_quote_from false t → ClosesAt false t n
closes_at t n e = subst (Closes false t) (sym e) (closes false t)

pub close_cut : (t : Text) (n : ℕ) → ClosesAt false t n → IsCharBoundary t n
close_cut t n at = IsCharBoundary-before_ascii t n at.within (let quote = at.quote in omega arith)

-- the closing quote is cut off
pub quote_cut : (t after : Text) (n : ℕ) → IsUtf8 t → ClosesAt false t n → after ≡ drop n t → IsCharBoundary after 1
quote_cut t after n utf8 at is =
    let long : 0 < length after = let lt = at.within in omega (arith, ap length is, length-drop {A = ℕ}) in
    let first : get_or after 0 0 ≡ 34 = ap (λ (x : Text). get_or x 0 0) is ∙ get_or-drop n t 0 0 ∙ ap (λ (i : ℕ). get_or t i 0) (add-zero n) ∙ at.quote in
    IsCharBoundary-after_ascii after 0 (subst IsUtf8 (sym is) (IsUtf8-drop t n utf8 (close_cut t n at))) long (omega arith)

drop_one : (n : ℕ) (t : Text) → drop 1 (drop n t) ≡ drop (suc n) t
drop_one zero t = refl
drop_one (suc n) [] = refl
drop_one (suc n) (b ∷ bs) = drop_one n bs

pub quoted_is : (t front after : Text) (n : ℕ) → ClosesAt false t n → front ≡ take n t → after ≡ drop n t → Some (unescaped front, drop 1 after) ≡ quoted_at false t
quoted_is t front after n at is_front is_after = rw (is_front, is_after, drop_one n t) (sym at.read)

-- ---- a walk over a text with backslashes

pub push_both : (out plain more : Text) → ((out ++ plain) ++ 92 ∷ []) ++ more ≡ out ++ (plain ++ (92 ∷ more))
push_both out plain more = append_assoc (out ++ plain) (92 ∷ []) more ∙ append_assoc out plain (92 ∷ more)

-- behind a byte of ASCII stands a text
pub utf8_behind : (b : ℕ) (bs t : Text) → b < 128 → t ≡ b ∷ bs → IsUtf8 t → IsUtf8 bs
utf8_behind b bs t low is u =
    let all : IsUtf8 (b ∷ bs) = subst IsUtf8 is u in
    IsUtf8-drop (b ∷ bs) 1 all (IsCharBoundary-after_ascii (b ∷ bs) 0 all (omega arith) low)

pub utf8_after : (t after : Text) → IsUtf8 t → after ≡ behind t → IsUtf8 after
utf8_after t after u is = subst IsUtf8 (sym is) (IsUtf8-drop t (prefix_len is_no_backslash t) u (plain_cut t))
