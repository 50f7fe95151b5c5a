use Rattle.std.proofs.Common.{◌≡◌, ℕ, zero, suc, ◌+◌, ◌++◌, List, [], ◌∷◌, take, drop, refl, sym, ap, ap₂, ◌∙◌, arith}
use Rattle.std.proofs.Math.Seq.{take-nil}
use Rattle.std.proofs.lemmas.List.{drop-drop}
use Rattle.cat_merge.specs.Copied.{bytes_in}
use Rattle.cat_merge.specs.declared.sources.SourceRange.{SourceRange}
use Rattle.cat_merge.proofs.sources.joined.Goals as goal

-- more elements than the first of two numbers are those, and as many more
take_add : (m n : ℕ) (xs : List ℕ) → take (m + n) xs ≡ take m xs ++ take n (drop m xs)
take_add zero n xs = ap (λ k. take k xs) (let e : 0 + n ≡ n = omega arith in e)
take_add (suc m) n [] = take-nil (suc m + n) ∙ sym (take-nil n)
take_add (suc m) n (x ∷ xs) = ap (λ k. take k (x ∷ xs)) (let e : suc m + n ≡ suc (m + n) = omega arith in e) ∙ ap (λ l. x ∷ l) (take_add m n xs)

-- the bytes of both, one behind the other
both : (files : ℕ → List ℕ) (first second : SourceRange) (len : ℕ) → first.segment ≡ second.segment → first.offset + first.len ≡ second.offset → len ≡ first.len + second.len
    → bytes_in files (record { segment = first.segment; offset = first.offset; len = len }) ≡ bytes_in files first ++ bytes_in files second
both files first second len segment offset long =
    ap (λ n. take n (drop first.offset (files first.segment))) long ∙ take_add first.len second.len (drop first.offset (files first.segment))
    ∙ ap (λ l. bytes_in files first ++ take second.len l) (drop-drop first.len first.offset (files first.segment) ∙ ap₂ (λ n s. drop n (files s)) offset segment)

pub returns : goal.returns
returns c =
    let follows : c.args.first.now.offset + c.args.first.now.len ≡ c.args.second.now.offset = omega (arith, c.in_ok-gap.ensures, c.if-first-second.false, c.if-gap-from.false, c.from.ensures) in
    record {
      bytes = λ files. both files c.args.first.now c.args.second.now c.in_ok-checked_add.field-0 c.if-first-second.false follows c.in_ok-checked_add.ensures.1;
      start = (refl, refl);
      end = (c.if-first-second.false, omega (arith, follows, c.in_ok-checked_add.ensures.1));
      len = c.in_ok-checked_add.ensures.1;
      none = λ e. absurd (cc);
    }
