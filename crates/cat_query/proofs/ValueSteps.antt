-- What reading gives where a text doesn't begin with a mark.
use Rattle.std.proofs.Common.{◌≡◌, ℕ, [], ◌∷◌, Err, Option, Some, None, Bool, true, false, cond, eqb, refl, sym, ap, ◌∙◌}
use Rattle.std.specs.Prelude.{option_map}
use Rattle.cat_model.specs.Text.{Text}
use Rattle.cat_model.specs.Grammar.{Asks}
use Rattle.cat_model.specs.Reader.{quoted_at, closed_end_at, run_at, end_at, starred, bracket_at, range_at, bare_at, value_at, colon_at}
use Rattle.cat_query.specs.Reading.{behind_byte}

-- a text that doesn't begin with the byte is empty, or begins with another
pub other_first : (c b : ℕ) (bs : Text) → behind_byte c (b ∷ bs) ≡ None → eqb b c ≡ false
other_first c b bs e = test (eqb b c) e
  where
    test : (v : Bool) → cond v (Some bs) None ≡ None → v ≡ false
    test true e = absurd cc
    test false e = refl

pub no_quote_end : (t : Text) → behind_byte 34 t ≡ None → closed_end_at t ≡ run_at t
no_quote_end [] e = refl
no_quote_end (b ∷ bs) e = rw (other_first 34 b bs e) refl

pub closed_end : (t : Text) → behind_byte 42 t ≡ None → end_at t ≡ option_map (λ x. (Some x.0, x.1)) (closed_end_at t)
unfolding end_at
closed_end [] e = refl
closed_end (b ∷ bs) e = rw (other_first 42 b bs e) refl

pub open_end : (rest : Text) → end_at (42 ∷ rest) ≡ Some (None, rest)
unfolding end_at
open_end rest = refl

pub no_star : (t rest : Text) → behind_byte 42 rest ≡ None → starred t rest ≡ (Asks.is t, rest)
no_star t [] e = refl
no_star t (b ∷ bs) e = rw (other_first 42 b bs e) refl

pub no_bracket : (t : Text) → behind_byte 93 t ≡ None → bracket_at t ≡ None
no_bracket [] e = refl
no_bracket (b ∷ bs) e = rw (other_first 93 b bs e) refl

pub quoted_value : (rest : Text) → value_at (34 ∷ rest) ≡ option_map (λ x. (Asks.is x.0, x.1)) (quoted_at false rest)
unfolding value_at
quoted_value rest = refl

pub range_value : (rest : Text) → value_at (91 ∷ rest) ≡ range_at rest
unfolding value_at
range_value rest = refl

pub bare_value : (t : Text) → behind_byte 34 t ≡ None → behind_byte 91 t ≡ None → value_at t ≡ bare_at t
unfolding value_at
bare_value [] p q = refl
bare_value (b ∷ bs) p q = rw (other_first 34 b bs p, other_first 91 b bs q) refl

pub no_colon : (left : ℕ) (t : Text) → behind_byte 58 t ≡ None → colon_at left t ≡ Err left
no_colon left [] e = refl
no_colon left (b ∷ bs) e = rw (other_first 58 b bs e) refl

-- ---- what is read of a part, and of what it makes

pub end_closed : (t : Text) (o : Option (Text × Text)) → behind_byte 42 t ≡ None → o ≡ closed_end_at t → option_map (λ x. (Some x.0, x.1)) o ≡ end_at t
end_closed t o n e = ap (option_map (λ x. (Some x.0, x.1))) e ∙ sym (closed_end t n)

pub value_quoted : (t inner : Text) (o : Option (Text × Text)) → t ≡ 34 ∷ inner → o ≡ quoted_at false inner → option_map (λ x. (Asks.is x.0, x.1)) o ≡ value_at t
value_quoted t inner o is e = ap (option_map (λ x. (Asks.is x.0, x.1))) e ∙ sym (ap value_at is ∙ quoted_value inner)
