-- What a value means, by what is judged of its text with the backslashes.
use Rattle.std.proofs.Common.{◌≡◌, List, [], ◌∷◌, length, Option, Some, None, Ok, Err, Bool, true, cond, refl, sym, ap, ◌∙◌}
use Rattle.std.specs.Prelude.{option_map, IfOk, IsSome}
use Rattle.std.specs.List.{list_all}
use Rattle.cat_model.specs.Text.{Text}
use Rattle.cat_model.specs.Item.{Schema, Kind, kind_of}
use Rattle.cat_model.specs.Words.{words, lowered, is_word_byte}
use Rattle.cat_model.specs.Grammar.{Asks}
use Rattle.cat_model.specs.Query as model
use Rattle.cat_model.specs.Reader.{◌>>=◌, or_fault, colon_at, name_at, behind_name, value_at, only_word, meaning, term_at}
use Rattle.cat_query.specs.Escapes.{unescaped, is_escaped}
use Rattle.cat_query.specs.Runs.{only}
use Rattle.cat_query.specs.View.{tested}
use Rattle.cat_query.specs.Reading.{Built, JudgesAs}
use Rattle.cat_query.specs.declared.query.Test.{Test}
use Rattle.cat_query.proofs.Backslashes.{words_stay}

-- what was built stands for what was judged
pub judged_as : (r : Built Test) (f : Text) (m : Option model.Primary) (p : model.Primary) → m ≡ Some p → IfOk r (λ t. tested f t ≡ p) → JudgesAs (tested f) (Some r) m
judged_as (Ok t) f m p e h = (rw e refl, e ∙ ap (λ (x : model.Primary). Some x) (sym h))
judged_as (Err x) f m p e h = (rw e refl, tt)

pub judged_none : (r : Option (Built Test)) (f : Text) (m : Option model.Primary) → r ≡ None → m ≡ None → JudgesAs (tested f) r m
judged_none r f m is e = rw is e

-- and the other way round
pub judged_is : (r : Built Test) (f : Text) (m : Option model.Primary) → JudgesAs (tested f) (Some r) m → (p : model.Primary) × (m ≡ Some p) × IfOk r (λ t. tested f t ≡ p)
judged_is r f None h = absurd (let bad = h.0 in cc)
judged_is (Ok t) f (Some p) h = let same : p ≡ tested f t = (let there = h.1 in cc) in (p, refl, sym same)
judged_is (Err x) f (Some p) h = (p, refl, tt)

only_word_is : (f : Text) (ws : List Text) → only_word f ws ≡ option_map (λ w. model.Primary.word f w) (only ws)
only_word_is f [] = refl
only_word_is f (w ∷ []) = refl
only_word_is f (w ∷ v ∷ ws) = refl

pub word_is : (f t : Text) (o : Option Text) → is_escaped t ≡ true → o ≡ only (words t) → meaning f Kind.text (Asks.is (unescaped t)) ≡ option_map (λ w. model.Primary.word f w) o
unfolding meaning
word_is f t o e is = ap (only_word f) (words_stay t e) ∙ only_word_is f (words t) ∙ sym (ap (option_map (λ w. model.Primary.word f w)) is)

pub prefix_is : (f t : Text) (v : Bool) → v ≡ list_all is_word_byte t → meaning f Kind.text (Asks.begins t) ≡ cond v (Some (model.Primary.word_prefix f (lowered t))) None
unfolding meaning
prefix_is f t v e = ap (λ (b : Bool). cond b (Some (model.Primary.word_prefix f (lowered t))) None) (sym e)

pub no_words_between : (f : Text) (low high : Option Text) → meaning f Kind.text (Asks.between low high) ≡ None
unfolding meaning
no_words_between f low high = refl

pub label_is : (f t : Text) → meaning f Kind.facet (Asks.is t) ≡ Some (model.Primary.label f t)
unfolding meaning
label_is f t = refl

pub label_prefix_is : (f t : Text) → meaning f Kind.facet (Asks.begins t) ≡ Some (model.Primary.label_prefix f t)
unfolding meaning
label_prefix_is f t = refl

pub no_labels_between : (f : Text) (low high : Option Text) → meaning f Kind.facet (Asks.between low high) ≡ None
unfolding meaning
no_labels_between f low high = refl

pub keyword_means : (f : Text) (a : Asks) → IsSome (meaning f Kind.keyword a)
unfolding meaning
keyword_means f (Asks.is t) = refl
keyword_means f (Asks.begins t) = refl
keyword_means f (Asks.between low high) = refl

-- ---- a term, step by step

module _ (schema : Schema) (text f after : Text) (front : f ≡ name_at text) (back : after ≡ behind_name text) where
  term_is : term_at schema text ≡ (or_fault (length text) (kind_of schema f) >>= λ kind. colon_at (length text) after >>= λ behind.
      or_fault (length behind) (value_at behind) >>= λ value. or_fault (length behind) (meaning f kind value.0) >>= λ primary. Ok (primary, value.1))
  unfolding term_at
  term_is = rw (front, back) refl

  pub no_kind : None ≡ kind_of schema f → term_at schema text ≡ Err (length text)
  no_kind k = term_is ∙ rw (← k) refl

  module _ (kind : Kind) (k : Some kind ≡ kind_of schema f) where
    pub no_colon_behind : colon_at (length text) after ≡ Err (length text) → term_at schema text ≡ Err (length text)
    no_colon_behind n = term_is ∙ rw (← k, n) refl

    module _ (rest : Text) (colon : after ≡ 58 ∷ rest) where
      pub no_value : None ≡ value_at rest → term_at schema text ≡ Err (length rest)
      no_value v = term_is ∙ rw (← k, colon, ← v) refl

      module _ (a : Asks) (more : Text) (v : Some (a, more) ≡ value_at rest) where
        pub no_meaning : meaning f kind a ≡ None → term_at schema text ≡ Err (length rest)
        no_meaning m = term_is ∙ rw (← k, colon, ← v, m) refl

        pub term_read : (p : model.Primary) → meaning f kind a ≡ Some p → term_at schema text ≡ Ok (p, more)
        term_read p m = term_is ∙ rw (← k, colon, ← v, m) refl
