-- What reading gives is what the text spells, and what it refuses is a fault: the laws of query texts.
use Rattle.std.proofs.Common.{◌≡◌, ℕ, ◌-◌, ◌+◌, ◌≤◌, [], ◌∷◌, length, Result, Ok, Err, ◌⊎◌, inl, inr, refl, sym, ap, subst, ◌∙◌, arith, append-nil}
use Rattle.cat_model.specs.Text.{Text}
use Rattle.cat_model.specs.Item.{Schema, IsSchema}
use Rattle.cat_model.specs.Query.{Query}
use Rattle.cat_model.specs.Grammar.{IsQuery, Spells, clauses}
use Rattle.cat_model.specs.Faults.{Fault}
use Rattle.cat_model.specs.Reader.{◌>>=◌, content_at, whole, placed, read_query}
use Rattle.cat_model.specs.QueryLaws.{QueriesAreRead, FaultsAreFound, TextsSpellOneQuery, FaultsHaveOnePlace, TextsAreJudged, SpelledTextsHaveNoFault}
use Rattle.cat_model.proofs.QueryTerms.{ok_is, ok_not_err}
use Rattle.cat_model.proofs.QueryComplete.{reads_query}
use Rattle.cat_model.proofs.QuerySound.{Sound, SoGroup, sound_ok, content_sound}
use Rattle.cat_model.proofs.QueryPlaces.{reads_length, stops_farthest}
use Rattle.cat_model.proofs.QueryFaults.{Faulty, Judged, text_goes}

placed_ok : (total : ℕ) (r : Result Query ℕ) (q : Query) → placed total r ≡ Ok q → r ≡ Ok q
placed_ok total (Ok p) q e = e
placed_ok total (Err left) q e = absurd cc

whole_sound : (schema : Schema) (text : Text) (r : Result (Query × ℕ × Text) ℕ) → Sound (SoGroup schema 9 64 text) r → Sound (Spells schema text) (r >>= whole)
whole_sound schema text (Err left) so = tt
whole_sound schema text (Ok (q, left, b ∷ bs)) so = tt
whole_sound schema text (Ok (q, left, [])) so = record {
  grammar = subst (λ (t : Text). IsQuery schema t q) (sym (so.takes.1 ∙ append-nil so.takes.0)) so.takes.2;
  few = omega (arith, so.used);
  shallow = omega (arith, so.deep);
}

pub read_spells : (schema : Schema) (text : Text) (q : Query) → read_query schema text ≡ Ok q → Spells schema text q
unfolding read_query
read_spells schema text q e =
    let read : Result Query ℕ = content_at schema 9 64 text >>= whole in
    sound_ok (Spells schema text) read q (whole_sound schema text (content_at schema 9 64 text) (content_sound schema 9 64 text)) (placed_ok (length text) read q e)

pub spells_read : (schema : Schema) (text : Text) (q : Query) → Spells schema text q → read_query schema text ≡ Ok q
unfolding read_query
spells_read schema text q s =
    let r : content_at schema 9 64 text ≡ Ok (q, 64 - clauses q, []) = ap (content_at schema 9 64) (sym (append-nil text)) ∙ reads_query s.grammar 8 64 [] refl s.few s.shallow in
    rw r refl

pub queries_are_read : QueriesAreRead
queries_are_read schema text q = (read_spells schema text q, spells_read schema text q)

pub one_query : TextsSpellOneQuery
one_query schema text p q s t = ok_is p q (sym (spells_read schema text p s) ∙ spells_read schema text q t)

-- ---- faults

refused_is : (total : ℕ) (r : Result Query ℕ) (place : ℕ) → placed total r ≡ Err place → (left : ℕ) × (r ≡ Err left) × (place ≡ total - left)
refused_is total (Ok q) place e = absurd cc
refused_is total (Err left) place e = (left, refl, cc)

result_cases : (r : Result Query ℕ) → ((q : Query) × (r ≡ Ok q)) ⊎ ((place : ℕ) × (r ≡ Err place))
result_cases (Ok q) = inl (q, refl)
result_cases (Err place) = inr (place, refl)

-- a text is refused where it stops being read
pub read_faults : (schema : Schema) (text : Text) (place : ℕ) → IsSchema schema → read_query schema text ≡ Err place → Fault schema text place
unfolding read_query
read_faults schema text place ok e =
    let read : Result Query ℕ = content_at schema 9 64 text >>= whole in
    let r = refused_is (length text) read place e in
    let at : Faulty schema text r.0 = subst (Judged schema text (λ q. Unit {0})) r.1 (text_goes schema text ok) in
    let total : length at.front + length at.rest ≡ length text = reads_length at.reads in
    let here : length at.front ≡ place = omega (arith, r.2, at.least, total) in
    record {
      front = at.front;
      rest = at.rest;
      next = at.next;
      reads = at.reads;
      here = here;
      farthest = λ f r n reads. subst (λ (most : ℕ). length f ≤ most) here (stops_farthest ok at.reads at.stuck f r n reads);
      wrong = λ q spells. ok_not_err q place (sym (spells_read schema text q spells) ∙ e);
    }

pub no_fault : SpelledTextsHaveNoFault
no_fault schema text q place ok spells fault = fault.wrong q spells

pub place_is_one : FaultsHaveOnePlace
place_is_one schema text m n ok x y =
    let more : length x.front ≤ n = y.farthest x.front x.rest x.next x.reads in
    let less : length y.front ≤ m = x.farthest y.front y.rest y.next y.reads in
    omega (arith, x.here, y.here, more, less)

faults_read : (schema : Schema) (text : Text) (place : ℕ) → IsSchema schema → Fault schema text place → read_query schema text ≡ Err place
faults_read schema text place ok fault = elim (result_cases (read_query schema text)) [
  | inl h ↦ absurd (fault.wrong h.0 (read_spells schema text h.0 h.1))
  | inr h ↦ h.1 ∙ ap (λ (n : ℕ). Err n) (place_is_one schema text h.0 place ok (read_faults schema text h.0 ok h.1) fault)
]

pub faults_are_found : FaultsAreFound
faults_are_found schema text place ok = (read_faults schema text place ok, faults_read schema text place ok)

pub texts_are_judged : TextsAreJudged
texts_are_judged schema text ok = elim (result_cases (read_query schema text)) [
  | inl h ↦ inl (h.0, read_spells schema text h.0 h.1)
  | inr h ↦ inr (h.0, read_faults schema text h.0 ok h.1)
]
