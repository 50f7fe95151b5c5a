-- What a column tells of the labels of rows, and rows without labels.
use Rattle.std.proofs.Common.{◌≡◌, ℕ, zero, suc, List, [], ◌∷◌, length, map, Option, Some, None, Bool, true, false, not, refl, sym, ap, ◌∙◌, arith}
use Rattle.std.specs.Prelude.{replicate}
use Rattle.cat_model.specs.Facets.{is_empty}
use Rattle.cat_model.specs.Item.{Content, content_of, labels_in}
use Rattle.cat_model.specs.Ordinals.{dictionary_of}
use Rattle.cat_model.specs.Text.{Text}
use Rattle.cat_model.specs.View.{Row, item_in, selected}
use Rattle.cat_facets.specs.Tallies.{has_label, label_count, labelled_count, labels_at}
use Rattle.cat_facets.proofs.Counted.{count, count-is}

abbrev pub empty_rows : List Row → List (List Text)
empty_rows rows = map {A = Row} {B = List Text} (λ r. []) rows

abbrev contents : Text → List Row → List (Option Content)
contents dimension rows = map (λ r. content_of dimension (item_in r)) rows

read_all : (dimension : Text) (rows : List Row) → map labels_in (contents dimension rows) ≡ map (labels_at dimension) rows
read_all dimension [] = refl
read_all dimension (r ∷ rows) = ap (λ xs. labels_at dimension r ∷ xs) (read_all dimension rows)

abbrev blank : List (Option Content) → List (List Text)
blank xs = map {A = Option Content} {B = List Text} (λ x. []) xs

blank_rows : (dimension : Text) (rows : List Row) → blank (contents dimension rows) ≡ empty_rows rows
blank_rows dimension [] = refl
blank_rows dimension (r ∷ rows) = ap (λ xs. [] ∷ xs) (blank_rows dimension rows)

-- where the contents have no labels, the rows have none
without : (dimension : Text) (rows : List Row) (xs : List (Option Content)) → xs ≡ contents dimension rows → map labels_in xs ≡ blank xs → map (labels_at dimension) rows ≡ empty_rows rows
without dimension rows xs e none = sym (read_all dimension rows) ∙ ap (map labels_in) (sym e) ∙ none ∙ ap blank e ∙ blank_rows dimension rows

missing : (n : ℕ) → map labels_in (replicate n None) ≡ blank (replicate n None)
missing zero = refl
missing (suc n) = ap (λ xs. [] ∷ xs) (missing n)

pub no_column : (dimension : Text) (rows : List Row) → contents dimension rows ≡ replicate (length rows) None → map (labels_at dimension) rows ≡ empty_rows rows
no_column dimension rows e = without dimension rows (replicate (length rows) None) (sym e) (missing (length rows))

unlabelled : {X : Type 0} (f : X → Content) → ((x : X) → labels_in (Some (f x)) ≡ []) → (xs : List X) → map labels_in (map (λ c. Some c) (map f xs)) ≡ blank (map (λ c. Some c) (map f xs))
unlabelled f h [] = refl
unlabelled {X} f h (x ∷ xs) = ap (λ t. t ∷ map labels_in (map (λ c. Some c) (map f xs))) (h x) ∙ ap (λ ts. [] ∷ ts) (unlabelled f h xs)

pub other_column : {X : Type 0} (f : X → Content) → ((x : X) → labels_in (Some (f x)) ≡ []) → (dimension : Text) (rows : List Row) (xs : List X)
    → map (λ c. Some c) (map f xs) ≡ contents dimension rows → map (labels_at dimension) rows ≡ empty_rows rows
other_column f h dimension rows xs e = without dimension rows (map (λ c. Some c) (map f xs)) e (unlabelled f h xs)

plain : (ls : List (List Text)) → map labels_in (map (λ c. Some c) (map Content.labels ls)) ≡ ls
plain [] = refl
plain (l ∷ ls) = ap (λ xs. l ∷ xs) (plain ls)

pub facet_column : (dimension : Text) (rows : List Row) (ls : List (List Text)) → map (λ c. Some c) (map Content.labels ls) ≡ contents dimension rows → ls ≡ map (labels_at dimension) rows
facet_column dimension rows ls e = sym (plain ls) ∙ ap (map labels_in) e ∙ read_all dimension rows

-- ---- rows without labels count for nothing

count_none : (p : List Text → Bool) → p [] ≡ false → (set : List Bool) (rows : List Row) → count p (selected set (empty_rows rows)) ≡ 0
count_none p e [] rows = refl
count_none p e (b ∷ bs) [] = refl
count_none p e (true ∷ bs) (r ∷ rows) = let h : count p (selected bs (empty_rows rows)) ≡ 0 = count_none p e bs rows in rw e (omega (arith, h))
count_none p e (false ∷ bs) (r ∷ rows) = count_none p e bs rows

pub none_labelled : (set : List Bool) (rows : List Row) (labels : List (List Text)) → labels ≡ empty_rows rows → 0 ≡ labelled_count (selected set labels)
none_labelled set rows labels e =
    sym (count_none (λ ls. not (is_empty ls)) refl set rows) ∙ count-is (λ ls. not (is_empty ls)) (selected set (empty_rows rows)) ∙ ap (λ ls. labelled_count (selected set ls)) (sym e)

pub none_with_label : (t : Text) (set : List Bool) (rows : List Row) (labels : List (List Text)) → labels ≡ empty_rows rows → 0 ≡ label_count t (selected set labels)
none_with_label t set rows labels e =
    sym (count_none (has_label t) refl set rows) ∙ count-is (has_label t) (selected set (empty_rows rows)) ∙ ap (λ ls. label_count t (selected set ls)) (sym e)

no_texts : (rows : List Row) → dictionary_of (empty_rows rows) ≡ []
no_texts [] = refl
no_texts (r ∷ rows) = no_texts rows

-- nor do they have a dictionary
pub no_dictionary : (rows : List Row) (labels : List (List Text)) → labels ≡ empty_rows rows → [] ≡ dictionary_of labels
no_dictionary rows labels e = sym (no_texts rows) ∙ ap dictionary_of (sym e)

-- or any label
none_at_all : (rows : List Row) → count (λ ls. not (is_empty ls)) (empty_rows rows) ≡ 0
none_at_all [] = refl
none_at_all (r ∷ rows) = let h : count (λ ls. not (is_empty ls)) (empty_rows rows) ≡ 0 = none_at_all rows in omega (arith, h)

pub no_labelled : (rows : List Row) (labels : List (List Text)) → labels ≡ empty_rows rows → 0 ≡ labelled_count labels
no_labelled rows labels e = sym (none_at_all rows) ∙ count-is (λ ls. not (is_empty ls)) (empty_rows rows) ∙ ap labelled_count (sym e)
