-- What a crash leaves of a file that is written whole.
use Rattle.std.proofs.Common.{◌≡◌, ◌⊎◌, ℕ, List, [], ◌∷◌, ◌++◌, Some, None, refl, ◌∙◌, ap, inl, inr}
use Rattle.cat_directory.specs.Devices.{FileContent, IsTorn, OrTorn, Told, emptied, told_after}

nothing : (a b : List ℕ) → a ++ b ≡ [] → a ≡ []
nothing [] b e = refl
nothing (x ∷ a) b e = absurd (let no : (x ∷ (a ++ b)) ≡ [] = e in cc)

-- a file without a byte has a beginning of all bytes
torn_more : (whole : List ℕ) (e : FileContent) → IsTorn [] e → IsTorn whole e
torn_more whole e (inl none) = inl none
torn_more whole e (inr t) = inr (t.0, t.1, whole, ap (λ l. l ++ whole) (nothing t.0 t.2 t.3))

-- so a file that is begun
pub begun : (whole : List ℕ) (old new : FileContent → Type 0) → OrTorn [] old new → OrTorn whole old new
begun whole old new torn e after = elim (torn e after) [ inl before ↦ inl before | inr t ↦ inr (torn_more whole e t) ]

-- and one that is then written
pub written : (whole : List ℕ) (told told' : Told) (now : FileContent) (old mid new : FileContent → Type 0) → told ≡ Some now → told' ≡ told_after emptied told
    → OrTorn [] old mid → ((bs : List ℕ) → told' ≡ Some (Some bs) → OrTorn (bs ++ whole) mid new) → OrTorn whole old new
written whole told told' now old mid new is made first more e after =
    elim (more [] (made ∙ ap (told_after emptied) is) e after) [ inl before ↦ begun whole old mid first e before | inr t ↦ inr t ]
