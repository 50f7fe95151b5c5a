-- What a bar keeps out lies outside the ends, and how the columns rank the rows.
use Rattle.std.proofs.Common.{◌≡◌, ◌∷◌, [], ◌&&◌, ℕ, zero, suc, get_or, ℤ, List, map, Option, Some, None, option_map, Bool, true, false, length, refl, sym, ◌∙◌, ap, subst, arith}
use Rattle.std.specs.Prelude.{slice_index_or}
use Rattle.std.specs.Borrow.{Bor}
use Rattle.std.specs.Ordering.{is_le, int_cmp}
use Rattle.std.proofs.lemmas.Int.{ints}
use Rattle.std.proofs.lemmas.List.{length-map}
use Rattle.cat_model.specs.Item.{Content}
use Rattle.cat_model.specs.Page.{Key, key_in}
use Rattle.cat_model.specs.Query.{open_or, int_le}
use Rattle.cat_model.specs.Text.{Text}
use Rattle.cat_model.specs.View.{Row}
use Rattle.cat_views.specs.cat_segment.Contents.{contents_of}
use Rattle.cat_views.specs.cat_segment.declared.column.Column.{Column}
use Rattle.cat_views.specs.cat_segment.declared.column.Column.TheVariants as columns
use Rattle.cat_search.specs.Bars.{HaveRanks, HaveRanksOf, AreEndsOf, IsBarOf, IsLeftOut, key_le, lets_in, number_of_key}
use Rattle.cat_search.specs.declared.ends.Ends.{Ends}
use Rattle.cat_search.specs.declared.number_bar.NumberBar.{NumberBar}
use Rattle.cat_search.specs.declared.sort.Order.{Order}
use Rattle.cat_search.specs.declared.sort.Order.TheVariants as order
use Rattle.cat_search.specs.Keys.{key_ref_of}
use Rattle.cat_search.specs.Standings.{HitStanding, Rank}
use Rattle.cat_search.specs.BestItems.{BestItems}
use Rattle.cat_search.specs.Pages.{rank_with}
use Rattle.cat_search.specs.Rows.{keys_by, keyed_standings}
use Rattle.cat_search.specs.declared.standings.Candidate.{Candidate}
use Rattle.cat_search.proofs.Defined.{map_map}
use Rattle.cat_search.proofs.Gathered.{none}

-- ---- the bar of numbers

number_over : (a b : ℤ) → int_le a b ≡ false → is_le (int_cmp a b) ≡ false
number_over a b e = grind (arith, ints, e)

low_over : (low : Option Key) (n : ℤ) → open_or (λ a. int_le a n) (number_of_key low) ≡ false → open_or (λ a. key_le a (Key.number n)) low ≡ false
low_over None n e = e
low_over (Some (Key.number a)) n e = number_over a n e
low_over (Some (Key.keyword t)) n e = absurd (cc)

high_under : (high : Option Key) (n : ℤ) → open_or (int_le n) (number_of_key high) ≡ false → open_or (key_le (Key.number n)) high ≡ false
high_under None n e = e
high_under (Some (Key.number a)) n e = number_over n a e
high_under (Some (Key.keyword t)) n e = absurd (cc)

-- what one of two tests refuses, a stricter pair refuses
pub either_refuses : (a b c d : Bool) → (a ≡ false → c ≡ false) → (b ≡ false → d ≡ false) → (a && b) ≡ false → (c && d) ≡ false
either_refuses true b c d f g e = ap (λ x. c && x) (g e) ∙ never c
  where
    never : (x : Bool) → (x && false) ≡ false
    never true = refl
    never false = refl
either_refuses false b c d f g e = ap (λ x. x && d) (f refl)

pub bar_of : (o : Order) (mark : Option HitStanding) (kept : BestItems Candidate) (ends : Ends) (low high : Option ℤ) → AreEndsOf o mark kept ends
    → low ≡ number_of_key (option_map key_ref_of ends.low) → high ≡ number_of_key (option_map key_ref_of ends.high) → IsBarOf o mark kept (record { low = low; high = high; missing = ends.missing })
bar_of o mark kept ends low high h a b None e = h None e
bar_of o mark kept ends low high h a b (Some n) e =
    h (Some (Key.number n)) (either_refuses (open_or (λ x. int_le x n) low) (open_or (int_le n) high) (open_or (λ x. key_le x (Key.number n)) (option_map key_ref_of ends.low)) (open_or (key_le (Key.number n)) (option_map key_ref_of ends.high))
    (λ x. low_over (option_map key_ref_of ends.low) n (ap (open_or (λ y. int_le y n)) (sym a) ∙ x)) (λ x. high_under (option_map key_ref_of ends.high) n (ap (open_or (int_le n)) (sym b) ∙ x)) e)

-- ---- the ranks of a column of numbers or keywords

module _ {X : Type 0} (key : X → Key) (make : Option X → Content) (same : (v : Option X) → key_in (Some (make v)) ≡ option_map key v) (o : Order) where
  ranks-by : (vs : List (Option X)) (rows : List Row) → length (map (λ x. key_in (Some x)) (map make vs)) ≡ length rows
      → map (λ p. p.rank) (keyed_standings o (map (λ x. key_in (Some x)) (map make vs)) rows) ≡ map (λ v. rank_with o (option_map key v)) vs
  ranks-by [] rows e = refl
  ranks-by (v ∷ vs) [] e = absurd (omega arith)
  ranks-by (v ∷ vs) (row ∷ rows) e = ap (λ k. rank_with o k ∷ map (λ p. p.rank) (keyed_standings o (map (λ x. key_in (Some x)) (map make vs)) rows)) (same v) ∙ ap (λ rs. rank_with o (option_map key v) ∷ rs) (ranks-by vs rows (omega arith))

  are_ranked : (column : Option (Bor Column)) (c : Bor Column) (vs : List (Option X)) (rows : List Row) (standings : List HitStanding)
      → column ≡ Some c → contents_of c.now ≡ map make vs → length (keys_by column (length rows)) ≡ length rows → keyed_standings o (keys_by column (length rows)) rows ≡ standings → HaveRanks key o vs standings
  are_ranked column c vs rows standings is made long e =
      let keys : keys_by column (length rows) ≡ map (λ x. key_in (Some x)) (map make vs) = ap (λ k. keys_by k (length rows)) is ∙ ap (map (λ x. key_in (Some x))) made in
      ap (map (λ p. p.rank)) (sym e) ∙ ap (λ ks. map (λ p. p.rank) (keyed_standings o ks rows)) keys ∙ ranks-by vs rows (sym (ap length keys) ∙ long)

pub numbers_ranked : (o : Order) (column : Option (Bor Column)) (c : Bor Column) (ns : List (Option ℤ)) (rows : List Row) (standings : List HitStanding)
    → column ≡ Some c → c.now ≡ columns.Number ns → length (keys_by column (length rows)) ≡ length rows → keyed_standings o (keys_by column (length rows)) rows ≡ standings → HaveRanks Key.number o ns standings
numbers_ranked o column c ns rows standings is at long e = are_ranked Key.number Content.number (λ v. refl) o column c ns rows standings is (ap contents_of at) long e

pub keywords_ranked : (o : Order) (column : Option (Bor Column)) (c : Bor Column) (ts vs : List (Option Text)) (rows : List Row) (standings : List HitStanding)
    → column ≡ Some c → c.now ≡ columns.Keyword ts → vs ≡ ts → length (keys_by column (length rows)) ≡ length rows → keyed_standings o (keys_by column (length rows)) rows ≡ standings → HaveRanks Key.keyword o vs standings
keywords_ranked o column c ts vs rows standings is at same long e = are_ranked Key.keyword Content.keyword (λ v. refl) o column c vs rows standings is (ap contents_of at ∙ ap (map Content.keyword) (sym same)) long e

get_or-map : {X Y : Type 0} (f : X → Y) (xs : List X) (i : ℕ) (d : X) → get_or (map f xs) i (f d) ≡ f (get_or xs i d)
get_or-map f [] i d = refl
get_or-map f (x ∷ xs) zero d = refl
get_or-map f (x ∷ xs) (suc i) d = get_or-map f xs i d

no_key : (o : Order) → Rank.missing ≡ rank_with o None
no_key order.Added = refl
no_key (order.Rising f) = refl
no_key (order.Falling f) = refl

module _ {X : Type 0} (key : X → Key) (o : Order) (vs : List (Option X)) (standings : List HitStanding) (e : HaveRanks key o vs standings) where
  pub rank-at : (i : ℕ) (v : Option X) → v ≡ slice_index_or vs i None → (get_or standings i none).rank ≡ rank_with o (option_map key v)
  rank-at i v is =
      sym (get_or-map (λ p. p.rank) standings i none) ∙ ap (λ rs. get_or rs i Rank.missing) e ∙ ap (get_or (map (λ w. rank_with o (option_map key w)) vs) i) (no_key o)
      ∙ get_or-map (λ w. rank_with o (option_map key w)) vs i None ∙ ap (λ w. rank_with o (option_map key w)) (sym is)

  pub length-ranked : length standings ≡ length vs
  length-ranked = sym (length-map standings (λ p. p.rank)) ∙ ap length e ∙ length-map vs (λ w. rank_with o (option_map key w))

-- ---- the keys of a bar

module _ (o : Order) (ks : List (Option Key)) (standings : List HitStanding) (e : HaveRanksOf o ks standings) where
  pub rank_of_key : (i : ℕ) → (get_or standings i none).rank ≡ rank_with o (slice_index_or ks i None)
  rank_of_key i =
      sym (get_or-map (λ p. p.rank) standings i none) ∙ ap (λ rs. get_or rs i Rank.missing) e ∙ ap (get_or (map (rank_with o) ks) i) (no_key o) ∙ get_or-map (rank_with o) ks i None

  pub length-keyed : length standings ≡ length ks
  length-keyed = sym (length-map standings (λ p. p.rank)) ∙ ap length e ∙ length-map ks (rank_with o)

pub keyed_ranks : {X : Type 0} (key : X → Key) (o : Order) (vs : List (Option X)) (standings : List HitStanding) → HaveRanks key o vs standings → HaveRanksOf o (map (option_map key) vs) standings
keyed_ranks key o vs standings e = e ∙ sym (map_map (rank_with o) (option_map key) (λ v. rank_with o (option_map key v)) (λ v. refl) vs)

-- a bar that is renewed has its order and its keys
module _ (o old : Order) (ks before : List (Option Key)) (same : o ≡ old) (alike : ks ≡ before) where
  pub renewed_ranks : (standings : List HitStanding) → HaveRanksOf old before standings → HaveRanksOf o ks standings
  renewed_ranks standings h = subst (λ w. HaveRanksOf w ks standings) (sym same) (subst (λ w. HaveRanksOf old w standings) (sym alike) h)

  pub renewed_left_out : (mark : Option HitStanding) (kept : BestItems Candidate) (row : ℕ) → IsLeftOut old mark kept (slice_index_or before row None) → IsLeftOut o mark kept (slice_index_or ks row None)
  renewed_left_out mark kept row h =
      subst (λ w. IsLeftOut w mark kept (slice_index_or ks row None)) (sym same) (subst (λ w. IsLeftOut old mark kept (slice_index_or w row None)) (sym alike) h)

-- the key of a row of a column
pub key-of_row : {X : Type 0} (key : X → Key) (vs : List (Option X)) (row : ℕ) → option_map key (slice_index_or vs row None) ≡ slice_index_or (map (option_map key) vs) row None
key-of_row key vs row = sym (get_or-map (option_map key) vs row None)

-- ---- what a test of 64 numbers keeps out

pub out_of_range : (bar : NumberBar) (number : Option ℤ) (among : Bool) → bar.missing ≡ false → ((n : ℤ) → number ≡ Some n → among ≡ lets_in bar (Some n)) → among ≡ false → lets_in bar number ≡ false
out_of_range bar None among closed says e = closed
out_of_range bar (Some n) among closed says e = sym (says n refl) ∙ e
