-- The codes of keywords.
use Rattle.std.proofs.Common.{◌≡◌, ℕ, zero, suc, ◌^◌, ◌<◌, ◌≤◌, List, [], ◌∷◌, length, get_or, map, Option, Some, None, option_map, refl, sym, ap, ◌∙◌, arith, subst}
use Rattle.std.proofs.lemmas.List.{length-map}
use Rattle.std.specs.Prelude.{All}
use Rattle.std.specs.Borrow.{Bor}
use Rattle.std.specs.List.{list_any, flat_map}
use Rattle.cat_base.specs.Texts.{sorted_set}
use Rattle.cat_base.proofs.TextSets.{has-sorted_set, has-Decides}
use Rattle.cat_model.specs.Text.{Text, same_text}
use Rattle.cat_model.specs.Ordinals.{texts_of, dictionary_of}
use Rattle.cat_columns.specs.Columns.{texts_behind, DictionaryHas, text_of_code, IsKeywords}
use Rattle.cat_columns.proofs.Members.{length-sorted_set, gathered_all}

-- the texts behind references are those of the rows
pub texts_behind-all : (vs : List (Option (Bor Text))) → flat_map texts_behind vs ≡ flat_map (λ texts. texts) (map texts_of (map (option_map (λ t. t.now)) vs))
texts_behind-all [] = refl
texts_behind-all (None ∷ vs) = texts_behind-all vs
texts_behind-all (Some t ∷ vs) = ap (λ l. t.now ∷ l) (texts_behind-all vs)

pub length-texts_of : (vs : List (Option Text)) → length (flat_map (λ texts. texts) (map texts_of vs)) ≤ length vs
length-texts_of [] = omega arith
length-texts_of (None ∷ vs) = omega (arith, length-texts_of vs)
length-texts_of (Some t ∷ vs) = omega (arith, length-texts_of vs)

pub length-dictionary_of : (vs : List (Option Text)) → length (dictionary_of (map texts_of vs)) ≤ length vs
length-dictionary_of vs = omega (arith, length-sorted_set (flat_map (λ texts. texts) (map texts_of vs)), length-texts_of vs)

text_more : (t : Text) (xs : List Text) (o : Option Text) → DictionaryHas xs o → DictionaryHas (t ∷ xs) o
text_more t xs None h = tt
text_more t xs (Some u) h = (suc h.0, (let lt = h.1 in omega arith), h.2)

has_texts : (vs : List (Option (Bor Text))) → All (λ v. DictionaryHas (flat_map texts_behind vs) (option_map (λ t. t.now) v)) vs
has_texts [] k d lt = absurd (omega arith)
has_texts (None ∷ vs) zero d lt = tt
has_texts (None ∷ vs) (suc k) d lt = has_texts vs k d (omega arith)
has_texts (Some t ∷ vs) zero d lt = (0, omega arith, refl)
has_texts (Some t ∷ vs) (suc k) d lt = text_more t.now (flat_map texts_behind vs) (option_map (λ t. t.now) (get_or vs k d)) (has_texts vs k d (omega arith))

text_sorted : (xs : List Text) (o : Option Text) → DictionaryHas xs o → DictionaryHas (sorted_set xs) o
text_sorted xs None h = tt
text_sorted xs (Some t) h = (has-Decides t (sorted_set xs)).0 (has-sorted_set t xs ∙ (has-Decides t xs).1 h)

-- the dictionary of the rows has each row's text
pub each_text : (vs : List (Option (Bor Text))) → All (λ v. DictionaryHas (sorted_set (flat_map texts_behind vs)) (option_map (λ t. t.now) v)) vs
each_text vs k d lt = text_sorted (flat_map texts_behind vs) (option_map (λ t. t.now) (get_or vs k d)) (has_texts vs k d lt)

-- the dictionary of the labels that were gathered is that of the rows
module _ (vs : List (Option (Bor Text))) (ks : List (Bor Text)) (ds : List Text) (of : ds ≡ sorted_set (map (λ k. k.now) ks))
    (gathered : (q : Text) → list_any (λ k. same_text q k.now) ks ≡ list_any (same_text q) (flat_map texts_behind vs)) where
  gathered_dictionary : ds ≡ sorted_set (flat_map texts_behind vs)
  gathered_dictionary = of ∙ gathered_all ks (flat_map texts_behind vs) gathered

  pub keywords_dictionary : ds ≡ dictionary_of (map texts_of (map (option_map (λ t. t.now)) vs))
  keywords_dictionary = gathered_dictionary ∙ ap sorted_set (texts_behind-all vs)

  pub keywords_few : length vs < 2 ^ 32 → length ds < 2 ^ 32
  keywords_few few =
      omega (arith, ap length keywords_dictionary, length-dictionary_of (map (option_map (λ t. t.now)) vs), length-map vs (option_map {T = Bor Text} {U = Text} (λ t. t.now)))

  pub keywords_there : All (λ v. DictionaryHas ds (option_map (λ t. t.now) v)) vs
  keywords_there = subst (λ (l : List Text). All (λ v. DictionaryHas l (option_map (λ t. t.now) v)) vs) (sym gathered_dictionary) (each_text vs)

  pub IsKeywords-of : (codes : List ℕ) → length vs < 2 ^ 32 → map (text_of_code ds) codes ≡ map (option_map (λ t. t.now)) vs → All (λ code. code ≤ length ds) codes → IsKeywords ds codes
  IsKeywords-of codes few values bound = record {
    few = omega (arith, length-map codes (text_of_code ds), ap length values, length-map vs (option_map {T = Bor Text} {U = Text} (λ t. t.now)));
    within = bound;
    whole = keywords_dictionary ∙ sym (ap (λ (l : List (Option Text)). dictionary_of (map texts_of l)) values);
  }
