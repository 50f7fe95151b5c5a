-- A run of word bytes, lowered, is a word.
use Rattle.std.proofs.Common.{◌≡◌, ℕ, ◌<◌, ◌^◌, List, [], ◌∷◌, length, get_or, take, true, IsUtf8, sym, ap, ◌∙◌, subst, arith, rules, length-take-le, get_or-take}
use Rattle.std.specs.Prelude.{All}
use Rattle.std.specs.List.{list_all}
use Rattle.std.specs.Ordering.{nat_cmp}
use Rattle.std.specs.Char.{to_ascii_lowercase}
use Rattle.std.specs.Cmp.Lexicographic.{slice_cmp}
use Rattle.std.proofs.lemmas.List.{length-map}
use Rattle.std.proofs.lemmas.List.Folds.{list_all-map}
use Rattle.std.proofs.lemmas.List.Sums.{list_all-from_AllPass}
use Rattle.std.proofs.lemmas.List.Elements.{All-nil, All-head, All-tail, All-from_get_or}
use Rattle.std.proofs.lemmas.Map.Views.{All-insert_key}
use Rattle.cat_base.specs.Texts.{sorted_set}
use Rattle.cat_model.specs.Words.{is_word_byte, lowered}
use Rattle.cat_model.specs.Forms.{is_low_byte, IsWord}
use Rattle.cat_items.proofs.RunSteps.{IsFrontRun}

-- what holds of each text of a list holds of each of its set
pub All-sorted_set : (P : List ℕ → Type 0) (xs : List (List ℕ)) → All P xs → All P (sorted_set xs)
All-sorted_set P [] all = All-nil P
All-sorted_set P (x ∷ xs) all = All-insert_key (slice_cmp nat_cmp) x P (sorted_set xs) (All-sorted_set P xs (All-tail P x xs all)) (All-head P x xs all)

low_byte : (b : ℕ) → is_word_byte b ≡ true → is_low_byte (to_ascii_lowercase b) ≡ true
low_byte b e = grind (arith, rules)

all_low : (run : List ℕ) → All (λ b. is_word_byte b ≡ true) run → list_all is_low_byte (lowered run) ≡ true
all_low run all = list_all-map is_low_byte to_ascii_lowercase run ∙ list_all-from_AllPass (λ b. is_low_byte (to_ascii_lowercase b)) run (λ k d lt. low_byte (get_or run k d) (all k d lt))

all_of_run : (bs : List ℕ) (n : ℕ) → IsFrontRun bs n → All (λ b. is_word_byte b ≡ true) (take n bs)
all_of_run bs n front =
    let len = length-take-le n bs front.in_range in
    All-from_get_or (λ b. is_word_byte b ≡ true) (take n bs) 0 (λ i lt. ap is_word_byte (get_or-take n bs i 0 (omega arith)) ∙ front.all i (omega arith))

-- a run at the front of a text that isn't too long
pub IsWord-run : (word run bs : List ℕ) (n : ℕ) → word ≡ lowered run → IsUtf8 word → run ≡ take n bs → IsFrontRun bs n → 0 < n → length bs < 2 ^ 32 → IsWord word
IsWord-run word run bs n is utf8 at front some short =
    let long : length word ≡ n = ap length is ∙ length-map run to_ascii_lowercase ∙ ap length at ∙ length-take-le n bs front.in_range in
    record {
      utf8 = utf8;
      some = omega arith;
      short = omega (arith, front.in_range);
      low = ap (list_all is_low_byte) is ∙ all_low run (subst (All (λ b. is_word_byte b ≡ true)) (sym at) (all_of_run bs n front));
    }
