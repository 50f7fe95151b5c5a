-- The record that a mark names.
use Rattle.std.proofs.Common.{◌≡◌, ℕ, List, [], ◌∷◌, map, Bool, true, false, cond, Option, Some, None, option_map, is_some, find, ◌==◌, refl, ap, ◌∙◌}
use Rattle.cat_model.specs.Item.{Record}
use Rattle.cat_model.specs.Answer.{has_mark}
use Rattle.cat_views.proofs.Found.{any-is_some}

pub find-map : {X Y : Type 0} (q : Y → Bool) (f : X → Y) (xs : List X) → find q (map f xs) ≡ option_map f (find (λ x. q (f x)) xs)
find-map q f [] = refl
find-map q f (x ∷ xs) =
    elim (q (f x)) as (λ b. cond b (Some (f x)) (find q (map f xs)) ≡ option_map f (cond b (Some x) (find (λ y. q (f y)) xs))) [
      | true ↦ refl
      | false ↦ find-map q f xs
    ]

module _ {X : Type 0} (record_of : X → Record) (xs : List X) (mark : Option ℕ) (number : ℕ) (is : mark ≡ Some number) where
  found : (o : Option X) → find (λ x. (record_of x).number == number) xs ≡ o → find (λ r. r.number == number) (map record_of xs) ≡ option_map record_of o
  found o e = find-map (λ r. r.number == number) record_of xs ∙ ap (option_map record_of) e

  pub has : (o : Option X) → find (λ x. (record_of x).number == number) xs ≡ o → has_mark (map record_of xs) mark ≡ is_some (option_map record_of o)
  has o e = ap (has_mark (map record_of xs)) is ∙ any-is_some (λ r. r.number == number) (map record_of xs) ∙ ap is_some (found o e)

  pub no_mark : find (λ x. (record_of x).number == number) xs ≡ None → has_mark (map record_of xs) mark ≡ false
  no_mark e = has None e
