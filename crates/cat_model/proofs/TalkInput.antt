-- No line of an input has a line feed.
use Rattle.std.proofs.Common.{inl, inr, suc, ◌≢◌, ℕ, ◌-◌, [], ◌∷◌, ◌++◌, length, take, sym, subst}
use Rattle.std.specs.Prelude.{zero, true, false, cond}
use Rattle.std.specs.List.{AllByRecursion}
use Rattle.std.specs.Io.BufRead.{strip_last, ends_with_byte}
use Rattle.std.proofs.lemmas.Bool.Decides.{eqb_tells}
use Rattle.cat_model.specs.Text.{Text, IsOneLine, one_or_none}
use Rattle.cat_model.specs.Input.{ended_after, rest_after, ended_lines, lines_of}
use Rattle.cat_model.proofs.Lists.{All-both}

taken : (n : ℕ) (xs : Text) → IsOneLine xs → IsOneLine (take n xs)
taken zero xs a = tt
taken (suc n) [] a = tt
taken (suc n) (x ∷ xs) a = (a.0, taken n xs a.1)

stripped : (xs : Text) → IsOneLine xs → IsOneLine (strip_last 13 xs)
stripped xs a = elim (ends_with_byte 13 xs) as (λ b. IsOneLine (cond b (take (length xs - 1) xs) xs)) [ true ↦ taken (length xs - 1) xs a | false ↦ a ]

ended_one : (front bytes : Text) → IsOneLine front → AllByRecursion IsOneLine (ended_after front bytes)
ended_one front [] a = tt
ended_one front (b ∷ bytes) a =
    elim (eqb_tells b 10) [
      | inl e ↦ subst (λ c. AllByRecursion IsOneLine (cond c (strip_last 13 front ∷ ended_after [] bytes) (ended_after (front ++ b ∷ []) bytes))) (sym e.0) (stripped front a, ended_one [] bytes tt)
      | inr e ↦ subst (λ c. AllByRecursion IsOneLine (cond c (strip_last 13 front ∷ ended_after [] bytes) (ended_after (front ++ b ∷ []) bytes))) (sym e.0) (ended_one (front ++ b ∷ []) bytes (All-both (λ x. x ≢ 10) front (b ∷ []) a (e.1, tt)))
    ]

rest_one : (front bytes : Text) → IsOneLine front → IsOneLine (rest_after front bytes)
rest_one front [] a = a
rest_one front (b ∷ bytes) a =
    elim (eqb_tells b 10) [
      | inl e ↦ subst (λ c. IsOneLine (cond c (rest_after [] bytes) (rest_after (front ++ b ∷ []) bytes))) (sym e.0) (rest_one [] bytes tt)
      | inr e ↦ subst (λ c. IsOneLine (cond c (rest_after [] bytes) (rest_after (front ++ b ∷ []) bytes))) (sym e.0) (rest_one (front ++ b ∷ []) bytes (All-both (λ x. x ≢ 10) front (b ∷ []) a (e.1, tt)))
    ]

last_one : (line : Text) → IsOneLine line → AllByRecursion IsOneLine (one_or_none line)
last_one [] a = tt
last_one (b ∷ line) a = (a, tt)

pub ended_are_lines : (bytes : Text) → AllByRecursion IsOneLine (ended_lines bytes)
ended_are_lines bytes = ended_one [] bytes tt

pub lines_are_lines : (bytes : Text) → AllByRecursion IsOneLine (lines_of bytes)
lines_are_lines [] = (tt, tt)
lines_are_lines (b ∷ bytes) = All-both IsOneLine (ended_lines (b ∷ bytes)) (one_or_none (rest_after [] (b ∷ bytes))) (ended_are_lines (b ∷ bytes)) (last_one (rest_after [] (b ∷ bytes)) (rest_one [] (b ∷ bytes) tt))
