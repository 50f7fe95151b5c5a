-- A list of segments has one window.
use Rattle.std.proofs.Common.{◌≡◌, ℕ, suc, refl, ap, arith, inl, inr}
use Rattle.std.specs.Prelude.{Some}
use Rattle.std.proofs.lemmas.Bool.Decides.{leb_tells}
use Rattle.cat_model.specs.Window.{IsFirst, IsWindow}
use Rattle.cat_model.specs.SegmentLaws.{LevelsAreOne, WindowsAreOne}

pub levels_are_one : LevelsAreOne
levels_are_one factor least rows k l one two = elim (leb_tells (suc k) l) [
  | inl under ↦ absurd (omega (arith, one.fits, two.lowest k (omega (arith, under.1))))
  | inr other ↦ elim (leb_tells (suc l) k) [
    | inl over ↦ absurd (omega (arith, two.fits, one.lowest l (omega (arith, over.1))))
    | inr same ↦ omega (arith, other.1, same.1)
  ]
]

same_first : (level index level' index' : ℕ) → IsFirst level index level' index' → IsFirst level' index' level index → index ≡ index'
same_first level index level' index' (inl f) (inl g) = absurd (omega (arith, f, g))
same_first level index level' index' (inl f) (inr g) = absurd (omega (arith, f, g.0))
same_first level index level' index' (inr f) (inl g) = absurd (omega (arith, f.0, g))
same_first level index level' index' (inr f) (inr g) = omega (arith, f.1, g.1)

pub windows_are_one : WindowsAreOne
windows_are_one factor least sizes o p (IsWindow.no_window f) (IsWindow.no_window g) = refl
windows_are_one factor least sizes o p (IsWindow.no_window f) (IsWindow.window l i m g) = absurd (f l i m)
windows_are_one factor least sizes o p (IsWindow.window l i m f) (IsWindow.no_window g) = absurd (g l i m)
windows_are_one factor least sizes o p (IsWindow.window l i m f) (IsWindow.window k j n g) = ap Some (same_first l i k j (f k j n) (g l i m))
