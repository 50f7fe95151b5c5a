-- What is kept of one row, by whether it is live.
use Rattle.std.proofs.Common.{◌≡◌, ℕ, ◌<◌, Bool, true, false, List, [], ◌∷◌, ◌++◌, length, get_or, sym, ap, ◌∙◌, append-nil}
use Rattle.std.specs.Prelude.{if◌then◌else◌}
use Rattle.std.proofs.lemmas.List.{get_or_default}
use Rattle.cat_model.specs.Layout.{Head, head_of}
use Rattle.cat_model.specs.RowSets.{has_row}
use Rattle.cat_model.specs.View.{Leaf, Segment}
use Rattle.cat_merge.specs.Copied.{segment_row_at, source_in}
use Rattle.cat_merge.specs.Places.{input_at, no_leaf}
use Rattle.cat_merge.specs.Walk.{heads_at, source_at}
use Rattle.cat_merge.specs.declared.place.Place.{Place}

module _ (inputs : List Leaf) (place : Place) (x : Leaf) (at : x ≡ get_or inputs place.input x) (input : place.input < length inputs) (live : List Bool) (e : live ≡ x.live)
    (b : Bool) (is : b ≡ has_row live place.row) where
  here : x ≡ input_at inputs place.input
  here = at ∙ get_or_default inputs place.input x no_leaf input

  abbrev heads_if : Bool → List Head
  heads_if y = (if y then head_of (segment_row_at (input_at inputs place.input).segment place.row) ∷ [] else [])

  abbrev source_if : (ℕ → List ℕ) → Bool → List ℕ
  source_if files y = (if y then source_in files (input_at inputs place.input).segment place.row else [])

  is_kept : (y : Bool) → b ≡ y → has_row (input_at inputs place.input).live place.row ≡ y
  is_kept y so = sym (ap (λ (l : Leaf). has_row l.live place.row) here) ∙ sym (ap (λ (l : List Bool). has_row l place.row) e) ∙ sym is ∙ so

  pub no_head : b ≡ false → (heads : List Head) → heads ≡ heads ++ heads_at inputs place
  no_head dead heads = sym (append-nil heads) ∙ ap (λ (y : Bool). heads ++ heads_if y) (sym (is_kept false dead))

  pub no_source : b ≡ false → (files : ℕ → List ℕ) (bytes : List ℕ) → bytes ≡ bytes ++ source_at files inputs place
  no_source dead files bytes = sym (append-nil bytes) ∙ ap (λ (y : Bool). bytes ++ source_if files y) (sym (is_kept false dead))

  pub one_head : b ≡ true → (s : Segment) → s ≡ x.segment → (head : Head) → head_of (segment_row_at s place.row) ≡ head → (heads after : List Head) → after ≡ heads ++ head ∷ []
      → after ≡ heads ++ heads_at inputs place
  one_head alive s same head of heads after pushed =
      pushed ∙ ap (λ (h : Head). heads ++ h ∷ []) (sym of ∙ ap (λ (t : Segment). head_of (segment_row_at t place.row)) (same ∙ ap (λ (l : Leaf). l.segment) here))
      ∙ ap (λ (y : Bool). heads ++ heads_if y) (sym (is_kept true alive))

  pub one_source : b ≡ true → (s : Segment) → s ≡ x.segment → (files : ℕ → List ℕ) → source_in files s place.row ≡ source_at files inputs place
  one_source alive s same files =
      ap (λ (t : Segment). source_in files t place.row) (same ∙ ap (λ (l : Leaf). l.segment) here) ∙ ap (source_if files) (sym (is_kept true alive))
