-- Lists that lie one after the other in one list, with the end of each.
use Rattle.std.proofs.Common.{◌≡◌, ℕ, suc, ◌+◌, ◌-◌, ◌≤◌, List, [], ◌∷◌, ◌++◌, length, take, drop, Option, Some, None, refl, sym, ap, ◌∙◌, arith, length-append, length-drop}
use Rattle.std.proofs.lemmas.List.{take-append-le, drop-append-le}
use Rattle.std.proofs.Math.Seq.{drop-append_seam, take-length}
use Rattle.cat_model.specs.Text.{Text}
use Rattle.cat_model.specs.Layout.{WordPostings, Head, AreEnds, pieces, paired_postings}
use Rattle.cat_items.specs.file_parts.Reading.{◌>>=◌, u32_at, many_at, both_at, tested_text_at, with_front}
use Rattle.cat_items.specs.file_parts.Layouts.{is_word, list_at, posted_at}
use Rattle.cat_items.specs.file_parts.Parts.{heads_in}
use Rattle.cat_items.proofs.file_parts.Numbers.{some_is}

-- no end lies past the whole
ends_below : (from : ℕ) (ends : List ℕ) (total : ℕ) → AreEnds from ends total → from ≤ total
ends_below from [] total h = omega arith
ends_below from (e ∷ es) total h = let rest : e ≤ total = ends_below e es total h.1 in let first : from ≤ e = h.0 in omega arith

pub ends_push : (from : ℕ) (ends : List ℕ) (total e : ℕ) → total ≤ e → AreEnds from ends total → AreEnds from (ends ++ e ∷ []) e
ends_push from [] total e le h = (omega arith, refl)
ends_push from (x ∷ xs) total e le h = (h.0, ends_push x xs total e le h.1)

take_whole : {A : Type 0} (n : ℕ) (xs : List A) → n ≡ length xs → take n xs ≡ xs
take_whole n xs is = ap (λ (k : ℕ). take k xs) is ∙ take-length xs

pub pieces_push : {A : Type 0} (from : ℕ) (ends : List ℕ) (xs ys : List A) (e : ℕ) → e ≡ length xs + length ys → AreEnds from ends (length xs)
    → pieces from (ends ++ e ∷ []) (xs ++ ys) ≡ pieces from ends xs ++ ys ∷ []
pieces_push {A} from [] xs ys e is h =
    let at : from ≡ length xs = h in
    let rest : drop from (xs ++ ys) ≡ ys = ap (λ (n : ℕ). drop n (xs ++ ys)) at ∙ drop-append_seam xs ys in
    ap (λ (zs : List A). take (e - from) zs ∷ []) rest ∙ ap (λ (zs : List A). zs ∷ []) (take_whole (e - from) ys (omega arith))
pieces_push {A} from (x ∷ xs') xs ys e is h =
    let first : from ≤ x = h.0 in
    let last : x ≤ length xs = ends_below x xs' (length xs) h.1 in
    let cut : drop from (xs ++ ys) ≡ drop from xs ++ ys = drop-append-le from xs ys (omega arith) in
    let piece : take (x - from) (drop from (xs ++ ys)) ≡ take (x - from) (drop from xs) = ap (take (x - from)) cut ∙ take-append-le (x - from) (drop from xs) ys (omega (arith, length-drop from xs)) in
    let others : pieces x (xs' ++ e ∷ []) (xs ++ ys) ≡ pieces x xs' xs ++ ys ∷ [] = pieces_push x xs' xs ys e is h.1 in
    cc (piece, others)

pub length-pieces : {A : Type 0} (from : ℕ) (ends : List ℕ) (xs : List A) → length (pieces from ends xs) ≡ length ends
length-pieces from [] xs = refl
length-pieces from (e ∷ es) xs = ap suc (length-pieces e es xs)

pub posted_push : (ws : List Text) (parts : List (List ℕ)) (w : Text) (rows : List ℕ) → length parts ≡ length ws → paired_postings (ws ++ w ∷ []) (parts ++ rows ∷ []) ≡ paired_postings ws parts ++ record { word = w; rows = rows } ∷ []
posted_push [] [] w rows same = refl
posted_push [] (p ∷ ps) w rows same = absurd (omega arith)
posted_push (x ∷ xs) [] w rows same = absurd (omega arith)
posted_push (x ∷ xs) (p ∷ ps) w rows same = ap (λ (ts : List WordPostings). record { word = x; rows = p } ∷ ts) (posted_push xs ps w rows (omega arith))

-- one more word, with the rows that were put behind the others
pub postings_push : (words : List Text) (ends rows : List ℕ) (w : Text) (more all : List ℕ) (e : ℕ) → length ends ≡ length words → AreEnds 0 ends (length rows) → all ≡ rows ++ more → e ≡ length all
    → paired_postings (words ++ w ∷ []) (pieces 0 (ends ++ e ∷ []) all) ≡ paired_postings words (pieces 0 ends rows) ++ record { word = w; rows = more } ∷ []
postings_push words ends rows w more all e even are is counted =
    let sum : e ≡ length rows + length more = counted ∙ ap length is ∙ length-append rows more in
    ap (λ (zs : List ℕ). paired_postings (words ++ w ∷ []) (pieces 0 (ends ++ e ∷ []) zs)) is
    ∙ ap (paired_postings (words ++ w ∷ [])) (pieces_push 0 ends rows more e sum are)
    ∙ posted_push words (pieces 0 ends rows) w more (length-pieces 0 ends rows ∙ even)

pub ordinals_push : (ends ordinals more all : List ℕ) (e : ℕ) → AreEnds 0 ends (length ordinals) → all ≡ ordinals ++ more → e ≡ length all → pieces 0 (ends ++ e ∷ []) all ≡ pieces 0 ends ordinals ++ more ∷ []
ordinals_push ends ordinals more all e are is counted =
    let sum : e ≡ length ordinals + length more = counted ∙ ap length is ∙ length-append ordinals more in
    ap (pieces 0 (ends ++ e ∷ [])) is ∙ pieces_push 0 ends ordinals more e sum are

pub heads_push : (numbers : List ℕ) (ids : List Text) (longs : List ℕ) (n : ℕ) (id : Text) (long : ℕ) → length ids ≡ length numbers → length longs ≡ length numbers
    → heads_in (numbers ++ n ∷ []) (ids ++ id ∷ []) (longs ++ long ∷ []) ≡ heads_in numbers ids longs ++ record { number = n; id = id; length = long } ∷ []
heads_push [] [] [] n id long p q = refl
heads_push [] (i ∷ is) longs n id long p q = absurd (omega arith)
heads_push [] [] (l ∷ ls) n id long p q = absurd (omega arith)
heads_push (m ∷ ms) [] longs n id long p q = absurd (omega arith)
heads_push (m ∷ ms) (i ∷ is) [] n id long p q = absurd (omega arith)
heads_push (m ∷ ms) (i ∷ is) (l ∷ ls) n id long p q = ap (λ (hs : List Head). record { number = m; id = i; length = l } ∷ hs) (heads_push ms is ls n id long (omega arith) (omega arith))

-- ---- what is read behind other

-- what stands behind the front was read
pub record ReadBehind {A : Type 0} (front out : List A) (after : List ℕ) (reading : Option (List A × List ℕ)) : Type 0 where
  pub more : List A
  pub is : out ≡ front ++ more
  pub read : reading ≡ Some (more, after)

pub read_behind : {A : Type 0} (front out : List A) (after : List ℕ) (read : Option (List A × List ℕ)) → with_front front read ≡ Some (out, after) → ReadBehind front out after read
read_behind {A} front out after (Some x) e =
    let both = some_is (front ++ x.0, x.1) (out, after) e in
    record { more = x.0; is = sym (ap (λ (y : List A × List ℕ). y.0) both); read = ap (λ (r : List ℕ). Some (x.0, r)) (ap (λ (y : List A × List ℕ). y.1) both) }
read_behind front out after None e = absurd cc

pub front_none : {A : Type 0} (front : List A) (read : Option (List A × List ℕ)) → with_front front read ≡ None → read ≡ None
front_none front (Some x) e = absurd cc
front_none front None e = refl

as_it_is : {A : Type 0} (r : Option (A × List ℕ)) → (r >>= λ x. Some (x.0, x.1)) ≡ r
as_it_is (Some x) = refl
as_it_is None = refl

pub list_goes : (old mid : List ℕ) (n : ℕ) → u32_at old ≡ Some (n, mid) → list_at old ≡ many_at u32_at n mid
unfolding list_at both_at
list_goes old mid n e = rw e (as_it_is (many_at u32_at n mid))

pub list_not : (front : List ℕ) (old : List ℕ) → u32_at old ≡ None → with_front front (list_at old) ≡ None
unfolding list_at both_at
list_not front old e = rw e refl

pub posted_here : (old mid after : List ℕ) (w : Text) (rows : List ℕ) → tested_text_at is_word old ≡ Some (w, mid) → list_at mid ≡ Some (rows, after) → posted_at old ≡ Some (record { word = w; rows = rows }, after)
unfolding posted_at both_at
posted_here old mid after w rows e f = rw (e, f) refl

pub posted_not_word : (old : List ℕ) → tested_text_at is_word old ≡ None → posted_at old ≡ None
unfolding posted_at both_at
posted_not_word old e = rw e refl

pub posted_not_list : (old mid : List ℕ) (w : Text) → tested_text_at is_word old ≡ Some (w, mid) → list_at mid ≡ None → posted_at old ≡ None
unfolding posted_at both_at
posted_not_list old mid w e f = rw (e, f) refl
