-- One step of a walk over the runs of a text.
use Rattle.std.proofs.Common.{◌≡◌, ℕ, ◌<◌, ◌≤◌, List, [], ◌∷◌, ◌++◌, length, get_or, take, drop, map, Bool, true, false, not, cond, IsUtf8, refl, sym, ap, ◌∙◌, subst, arith, rules, append-nil, append_assoc, ltb, take-append-drop, length-take-le, length-drop, get_or-drop, get_or-take, add-zero, ⊎_elim}
use Rattle.std.specs.Prelude.{All, filter}
use Rattle.std.specs.List.{slice_split}
use Rattle.std.specs.Str.{IsCharBoundary}
use Rattle.std.proofs.lemmas.List.Splits.{slice_split-cons_yes, slice_split_none, slice_split_at}
use Rattle.std.proofs.lemmas.List.Elements.{All-from_get_or}
use Rattle.std.proofs.lemmas.Str.{IsCharBoundary-before_ascii, IsCharBoundary-after_ascii, IsCharBoundary-end}
use Rattle.std.proofs.lemmas.Bool.{cases_lt}
use Rattle.cat_model.specs.Words.{is_word_byte, is_some_text, lowered, runs}

abbrev cuts : ℕ → Bool
cuts = λ b. not (is_word_byte b)

-- a byte that is no word byte is passed
runs-skip : (b : ℕ) (bs : List ℕ) → is_word_byte b ≡ false → runs (b ∷ bs) ≡ runs bs
runs-skip b bs e = ap (filter is_some_text) (slice_split-cons_yes cuts b bs (ap not e))

kept : (xs : List ℕ) (more : List (List ℕ)) → 0 < length xs → filter is_some_text (xs ∷ more) ≡ xs ∷ filter is_some_text more
kept [] more some = absurd (omega arith)
kept (x ∷ xs) more some = passes (ltb 0 (length (x ∷ xs))) (grind (arith, rules))
  where
    passes : (b : Bool) → b ≡ true → cond b ((x ∷ xs) ∷ filter is_some_text more) (filter is_some_text more) ≡ (x ∷ xs) ∷ filter is_some_text more
    passes true e = refl
    passes false e = (cc)

runs-run : (xs rest : List ℕ) → All (λ x. cuts x ≡ false) xs → 0 < length xs → (0 < length rest → is_word_byte (get_or rest 0 0) ≡ false) → runs (xs ++ rest) ≡ xs ∷ runs rest
runs-run xs [] all some stops = ap runs (append-nil xs) ∙ ap (filter is_some_text) (slice_split_none cuts xs all) ∙ kept xs [] some
runs-run xs (y ∷ ys) all some stops =
    let ends = stops (omega arith) in
    ap (filter is_some_text) (slice_split_at cuts xs y ys all (ap not ends)) ∙ kept xs (slice_split cuts ys) some ∙ ap (λ rs. xs ∷ rs) (sym (runs-skip y ys ends))

-- the first n bytes are word bytes, and the next is none
pub record IsFrontRun (bs : List ℕ) (n : ℕ) : Type 0 where
  pub in_range : n ≤ length bs
  pub all : (k : ℕ) → k < n → is_word_byte (get_or bs k 0) ≡ true
  pub stops : n < length bs → is_word_byte (get_or bs n 0) ≡ false

runs-front : (bs : List ℕ) (n : ℕ) → IsFrontRun bs n → 0 < n → runs bs ≡ take n bs ∷ runs (drop n bs)
runs-front bs n front some =
    let parts = take-append-drop n bs in
    let len = length-take-le n bs front.in_range in
    ap runs (sym parts)
    ∙ runs-run (take n bs) (drop n bs)
    (All-from_get_or (λ x. cuts x ≡ false) (take n bs) 0 (λ i lt. ap not (ap is_word_byte (get_or-take n bs i 0 (omega arith)) ∙ front.all i (omega arith))))
    (omega arith)
    (λ more. ap is_word_byte (get_or-drop n bs 0 0 ∙ ap (λ i. get_or bs i 0) (add-zero n)) ∙ front.stops (omega (arith, length-drop n bs)))

-- a byte that is no word byte is ASCII
ascii_from_stop : (b : ℕ) → is_word_byte b ≡ false → b < 128
ascii_from_stop b e = grind (arith, rules)

-- a text may be cut where a run ends
pub boundary_after_run : (bs : List ℕ) (n : ℕ) → IsFrontRun bs n → IsCharBoundary bs n
boundary_after_run bs n front =
    ⊎_elim
    (λ (lt : n < length bs). IsCharBoundary-before_ascii bs n lt (ascii_from_stop _ (front.stops lt)))
    (λ (le : length bs ≤ n). let at_end : length bs ≡ n = omega (arith, front.in_range) in subst (IsCharBoundary bs) at_end (IsCharBoundary-end bs))
    (cases_lt n (length bs))

-- a run that is pushed, and the runs after it
words_step : (old : List (List ℕ)) (bs : List ℕ) (n : ℕ) → IsFrontRun bs n → 0 < n → (old ++ lowered (take n bs) ∷ []) ++ map lowered (runs (drop n bs)) ≡ old ++ map lowered (runs bs)
words_step old bs n front some = append_assoc old (lowered (take n bs) ∷ []) (map lowered (runs (drop n bs))) ∙ ap (λ rs. old ++ map lowered rs) (sym (runs-front bs n front some))

-- where no run begins, the first byte is ASCII
pub boundary_after_skip : (bs : List ℕ) (n : ℕ) → IsFrontRun bs n → n ≡ 0 → 0 < length bs → IsUtf8 bs → IsCharBoundary bs 1
boundary_after_skip bs n front none some utf8 =
    let first : is_word_byte (get_or bs 0 0) ≡ false = ap (λ i. is_word_byte (get_or bs i 0)) (sym none) ∙ front.stops (omega arith) in
    IsCharBoundary-after_ascii bs 0 utf8 some (ascii_from_stop _ first)

-- what `run_len` says of a text's bytes holds of the text
pub front_of : (bytes rest : List ℕ) (n : ℕ) → bytes ≡ rest → n ≤ length bytes → ((k : ℕ) → k < n → is_word_byte (get_or bytes k 0) ≡ true) → (n < length bytes → is_word_byte (get_or bytes n 0) ≡ false) → IsFrontRun rest n
front_of bytes rest n same in_range all stops = subst (λ bs. IsFrontRun bs n) same (record { in_range = in_range; all = all; stops = stops })

-- the step of the loop, by what its calls said
pub words_more : (old new : List (List ℕ)) (bs run after w : List ℕ) (n : ℕ) → new ≡ old ++ w ∷ [] → w ≡ lowered run → run ≡ take n bs → after ≡ drop n bs → IsFrontRun bs n → 0 < n
    → new ++ map lowered (runs after) ≡ old ++ map lowered (runs bs)
words_more old new bs run after w n pushed low is_run is_after front some =
    (λ i. pushed i ++ map lowered (runs (is_after i)))
    ∙ ap (λ x. (old ++ x ∷ []) ++ map lowered (runs (drop n bs))) (low ∙ ap lowered is_run)
    ∙ words_step old bs n front some
