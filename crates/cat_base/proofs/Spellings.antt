-- What is spelled alike is one.
use Rattle.std.proofs.Common.{◌≡◌, ℕ, ◌<◌, ◌^◌, List, [], ◌∷◌, ◌++◌, length, refl, sym, ap, ◌∙◌, arith}
use Rattle.std.proofs.lemmas.Nat.{from_be_bytes-to_be_bytes_4, from_be_bytes-to_be_bytes_8}
use Rattle.std.specs.Int.{w32, w64, from_be_bytes}
use Rattle.cat_base.specs.Bytes.{spelled_u32, spelled_u64, spelled_bytes}

-- two fronts of one length that begin one list are one, and so are the rests
split_alike : (xs ys r s : List ℕ) → length xs ≡ length ys → xs ++ r ≡ ys ++ s → (xs ≡ ys) × (r ≡ s)
split_alike [] [] r s same e = (refl, e)
split_alike [] (y ∷ ys) r s same e = absurd (cc)
split_alike (x ∷ xs) [] r s same e = absurd (cc)
split_alike (x ∷ xs) (y ∷ ys) r s same e =
    let head : x ≡ y = cc in
    let tail : xs ++ r ≡ ys ++ s = cc in
    let long : length xs ≡ length ys = omega arith in
    let rest : (xs ≡ ys) × (r ≡ s) = split_alike xs ys r s long tail in
    (cc (head, rest.0), rest.1)

pub u32_exact : (m n : ℕ) (r s : List ℕ) → m < 2 ^ 32 → n < 2 ^ 32 → spelled_u32 m ++ r ≡ spelled_u32 n ++ s → (m ≡ n) × (r ≡ s)
u32_exact m n r s small small' e =
    let both : (spelled_u32 m ≡ spelled_u32 n) × (r ≡ s) = split_alike (spelled_u32 m) (spelled_u32 n) r s refl e in
    (sym (from_be_bytes-to_be_bytes_4 m small) ∙ ap (from_be_bytes w32) both.0 ∙ from_be_bytes-to_be_bytes_4 n small', both.1)

pub u64_exact : (m n : ℕ) (r s : List ℕ) → m < 2 ^ 64 → n < 2 ^ 64 → spelled_u64 m ++ r ≡ spelled_u64 n ++ s → (m ≡ n) × (r ≡ s)
u64_exact m n r s small small' e =
    let both : (spelled_u64 m ≡ spelled_u64 n) × (r ≡ s) = split_alike (spelled_u64 m) (spelled_u64 n) r s refl e in
    (sym (from_be_bytes-to_be_bytes_8 m small) ∙ ap (from_be_bytes w64) both.0 ∙ from_be_bytes-to_be_bytes_8 n small', both.1)

pub bytes_exact : (a b r s : List ℕ) → length a < 2 ^ 32 → length b < 2 ^ 32 → spelled_bytes a ++ r ≡ spelled_bytes b ++ s → (a ≡ b) × (r ≡ s)
bytes_exact a b r s small small' e =
    let counted : spelled_u32 (length a) ++ (a ++ r) ≡ spelled_u32 (length b) ++ (b ++ s) = e in
    let fronts : (length a ≡ length b) × (a ++ r ≡ b ++ s) = u32_exact (length a) (length b) (a ++ r) (b ++ s) small small' counted in
    split_alike a b r s fronts.0 fronts.1
