-- Where a query text is cut.
use Rattle.std.proofs.Common.{◌≡◌, ◌≢◌, ◌+◌, ◌<◌, ◌≤◌, ℕ, zero, suc, [], ◌∷◌, length, get_or, drop, Option, Some, None, Bool, true, false, Bor, refl, sym, ap, ◌∙◌, true≢false, inl, inr, arith}
use Rattle.std.specs.Prelude.{MatchOption, option_map, nat_eq}
use Rattle.std.specs.List.{prefix_len, starts_with}
use Rattle.std.specs.Str.{IsUtf8, IsCharBoundary}
use Rattle.std.specs.Str.Pattern.{FindsTextPrefix}
use Rattle.std.proofs.lemmas.Bool.{ne_eqb, cases_lt}
use Rattle.std.proofs.lemmas.Grind.{common_steps}
use Rattle.std.proofs.lemmas.List.Sums.{prefix_len-le-length, prefix_len_passes, prefix_len_stops}
use Rattle.std.proofs.lemmas.Str.{IsCharBoundary-start, IsCharBoundary-after_ascii}
use Rattle.std.proofs.lemmas.Str.Pattern.{starts_text}
use Rattle.cat_model.specs.Text.{Text}
use Rattle.cat_model.specs.Item.{is_name_byte}
use Rattle.cat_model.specs.Grammar.{is_bare_byte}
use Rattle.cat_query.specs.Reading.{behind_byte, behind_mark}
use Rattle.cat_query.specs.Escapes.{is_no_backslash}

-- a text is cut at a byte of ASCII
at_stop : (p : ℕ → Bool) → ((b : ℕ) → 128 ≤ b → p b ≡ true) → (bs : Text) → IsCharBoundary bs (prefix_len p bs)
at_stop p past bs = (prefix_len-le-length p bs, λ lt high. absurd (true≢false (sym (past (get_or bs (prefix_len p bs) 0) high) ∙ prefix_len_stops p bs 0 lt)))

bare_past : (b : ℕ) → 128 ≤ b → is_bare_byte b ≡ true
bare_past b h = rw (ne_eqb b 32 (omega arith), ne_eqb b 40 (omega arith), ne_eqb b 41 (omega arith), ne_eqb b 91 (omega arith), ne_eqb b 93 (omega arith), ne_eqb b 34 (omega arith), ne_eqb b 42 (omega arith), ne_eqb b 92 (omega arith)) refl

pub bare_cut : (bs : Text) → IsCharBoundary bs (prefix_len is_bare_byte bs)
bare_cut bs = at_stop is_bare_byte bare_past bs

no_backslash_past : (b : ℕ) → 128 ≤ b → is_no_backslash b ≡ true
no_backslash_past b h = rw (ne_eqb b 92 (omega arith)) refl

pub plain_cut : (bs : Text) → IsCharBoundary bs (prefix_len is_no_backslash bs)
plain_cut bs = at_stop is_no_backslash no_backslash_past bs

name_past : (b : ℕ) → 128 ≤ b → is_name_byte b ≡ true → ⊥
name_past b h e = grind (arith, common_steps)

name_is_ascii : (b : ℕ) → is_name_byte b ≡ true → b < 128
name_is_ascii b e = elim (cases_lt b 128) [ inl h ↦ h | inr h ↦ absurd (name_past b h e) ]

-- a text is cut behind a name
pub name_cut : (bs : Text) → IsUtf8 bs → IsCharBoundary bs (prefix_len is_name_byte bs)
name_cut bs u = cut (prefix_len is_name_byte bs) refl
  where
    cut : (n : ℕ) → prefix_len is_name_byte bs ≡ n → IsCharBoundary bs n
    cut zero e = IsCharBoundary-start bs u
    cut (suc n) e =
        let within : n < length bs = omega (arith, prefix_len-le-length is_name_byte bs) in
        let past : n + 1 ≡ suc n = omega arith in
        let before = IsCharBoundary-after_ascii bs n u within (name_is_ascii (get_or bs n 0) (prefix_len_passes is_name_byte bs n 0 (omega arith))) in
        rw past at before

-- ---- marks

pub mark_taken : (c : ℕ) (bs : Text) (r : Option (Bor Text)) → MatchOption r ((rest : Text) → bs ≢ c ∷ rest) (λ x. bs ≡ c ∷ x.now) → MatchOption r (behind_byte c bs ≡ None) (λ x. bs ≡ c ∷ x.now)
mark_taken c bs (Some x) h = h
mark_taken c [] None h = refl
mark_taken c (b ∷ bs) None h = rw (ne_eqb b c (λ e. h bs (ap (λ x. x ∷ bs) e))) refl

pub marks_taken : (mark bs : Text) (r : Option (Bor Text)) → MatchOption r (FindsTextPrefix mark bs None) (λ x. (n : ℕ) × FindsTextPrefix mark bs (Some n) × (x.now ≡ drop n bs) × (length x.now + n ≡ length bs)) → option_map (λ x. x.now) r ≡ behind_mark mark bs
marks_taken mark bs None h = let e : false ≡ starts_with nat_eq bs mark = starts_text false mark bs h in rw (sym e) refl
marks_taken mark bs (Some x) h =
    let e : true ≡ starts_with nat_eq bs mark = starts_text true mark bs (h.0, h.1, rw h.1.0 h.1.2) in
    rw (sym e, h.2, h.1.0) refl
