-- The first word of a line spells the session that the line shows.
use Rattle.std.proofs.Common.{◌≡◌, ◌≢◌, ◌∙◌, ℕ, ◌<◌, ◌≤◌, ◌+◌, ◌∷◌, ◌++◌, inl, inr, length, get_or, take, drop, sym, subst, ap, arith, length-take-le}
use Rattle.std.specs.Prelude.{slice_index}
use Rattle.std.specs.Fmt.{decimal}
use Rattle.std.specs.Str.{IsUtf8}
use Rattle.std.proofs.lemmas.Fmt.{IsAscii-decimal}
use Rattle.std.proofs.lemmas.List.{take-append-drop, drop_more, get_or-take}
use Rattle.std.proofs.lemmas.Str.{IsUtf8-from_ascii}
use Rattle.cat_model.specs.Lines.{ShowsSession}
use Rattle.cat_model.specs.Text.{Text}
use Rattle.cat_model.proofs.Sayings.{NoSpace, decimal_no_space, same_word, whole_word}

-- a line without a space spells its session alone
pub alone : (line : Text) (session : ℕ) → NoSpace line → ShowsSession line session → line ≡ decimal session
alone line session plain h = elim h.split [
  | inl same ↦ same
  | inr p ↦ absurd (whole_word line (decimal session) p.0 plain p.1)
]

-- what stands before the first space spells it
pub before : (line word rest : Text) (session : ℕ) → line ≡ word ++ 32 ∷ rest → NoSpace word → ShowsSession line session → word ≡ decimal session
before line word rest session e plain h =
    let small : session ≤ 9999 = h.small in
    elim h.split [
      | inl same ↦ absurd (whole_word (decimal session) word rest (decimal_no_space session (omega arith)) (sym same ∙ e))
      | inr p ↦ (same_word word (decimal session) rest p.0 plain (decimal_no_space session (omega arith)) (sym e ∙ p.1)).0
    ]

-- a line that has its first space there
pub cut : (line word : Text) (at : ℕ) (session : ℕ) → at < length line → slice_index line at ≡ 32 → ((k : ℕ) → k < at → slice_index line k ≢ 32)
    → word ≡ take at line → ShowsSession line session → word ≡ decimal session
cut line word at session within found first front h =
    before line word (drop (at + 1) line) session whole plain h
  where
    whole : line ≡ word ++ 32 ∷ drop (at + 1) line
    whole = sym (take-append-drop at line) ∙ ap (λ (t : Text). take at line ++ t) (drop_more line at 0 within)
        ∙ ap (λ (b : ℕ). take at line ++ b ∷ drop (at + 1) line) found ∙ ap (λ (t : Text). t ++ 32 ∷ drop (at + 1) line) (sym front)

    short : length word ≡ at
    short = ap length front ∙ length-take-le at line (omega arith)

    plain : NoSpace word
    plain i lt e =
        let before_at : i < at = omega (arith, short, lt) in
        first i before_at (sym (get_or-take at line i 0 before_at) ∙ ap (λ (t : Text). get_or t i 0) (sym front) ∙ e)

-- the word is text
pub is_text : (word : Text) (session : ℕ) → session ≤ 9999 → word ≡ decimal session → IsUtf8 word
is_text word session small e = subst IsUtf8 (sym e) (IsUtf8-from_ascii (decimal session) (IsAscii-decimal session (omega arith)))
