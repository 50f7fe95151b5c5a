-- Texts without a line feed, by where the first one stands.
use Rattle.std.proofs.Common.{◌≡◌, ℕ, zero, suc, ◌<◌, ◌≤◌, [], ◌∷◌, length, Bool, true, false, Option, Some, None, refl, arith}
use Rattle.std.specs.Prelude.{◌==◌, slice_index, is_some, not, IsTrue}
use Rattle.memchr.specs.Find.{IsFirstByte, is_byte}
use Rattle.std.proofs.lemmas.Bool.{eqb-true, eq-eqb}
use Rattle.cat_model.specs.Text.{Text, IsOneLine}

-- no byte of it is a line feed
pub none_is_line : (bytes : Text) → ((k : ℕ) → 0 ≤ k → k < length bytes → ¬ ((slice_index bytes k == 10) ≡ true)) → IsOneLine bytes
none_is_line [] h = tt
none_is_line (b ∷ bs) h = (
  λ e. h 0 (omega arith) (omega arith) (eq-eqb b 10 e),
  none_is_line bs (λ k low l p. h (suc k) (omega arith) (omega arith) p),
)

-- some byte is one
pub some_is_none : (bytes : Text) (k : ℕ) → k < length bytes → (slice_index bytes k == 10) ≡ true → IsOneLine bytes → ⊥
some_is_none [] k l p a = absurd (omega arith)
some_is_none (b ∷ bs) zero l p a = a.0 (eqb-true b 10 p)
some_is_none (b ∷ bs) (suc k) l p a = some_is_none bs k (omega arith) p a.1

-- where no first line feed is found, it is one line, and only there
pub decided : (bytes : Text) (o : Option ℕ) (b : Bool) → IsFirstByte (is_byte 10) bytes o → is_some o ≡ not b → (IsTrue b → IsOneLine bytes) × (IsOneLine bytes → IsTrue b)
decided bytes None true first e = (λ _. none_is_line bytes first, λ _. refl)
decided bytes None false first e = absurd (let no : false ≡ true = e in cc)
decided bytes (Some k) true first e = absurd (let no : true ≡ false = e in cc)
decided bytes (Some k) false first e = (λ t. absurd (let no : false ≡ true = t in cc), λ one. absurd (some_is_none bytes k first.0.high first.1 one))
