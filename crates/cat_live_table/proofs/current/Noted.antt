-- What is noted of places after rows come and go is what a look-up among the rows finds.
use Rattle.std.proofs.Common.{◌≡◌, ◌≢◌, List, [], ◌∷◌, ◌++◌, map, filter, not, Bool, true, false, cond, Option, Some, None, inl, inr, refl, sym, ap, ◌∙◌, subst, append_assoc, append-nil}
use Rattle.std.specs.List.{AllByRecursion, list_any}
use Rattle.std.proofs.lemmas.Bool.{cases_Bool}
use Rattle.cat_model.specs.Text.{Text, same_text}
use Rattle.cat_model.specs.View.{Row}
use Rattle.cat_model.proofs.Lists.{All-kept}
use Rattle.cat_views.proofs.Selected.{All-right}
use Rattle.cat_live_table.specs.declared.current.places.Place.{Place}
use Rattle.cat_live_table.specs.current.Places.{PlacedRow, place_in, placed_id_of, placed_in_turn, forgotten}
use Rattle.cat_live_table.proofs.current.Standing.{is_same, differ_text, same_sym, the_rows, IdsDiffer, absent}

abbrev Apart : PlacedRow → PlacedRow → Type 0
Apart a b = a.row.id ≢ b.row.id

-- ---- a segment comes last

one_placed : (ss : List PlacedRow) (t : PlacedRow) (id : Text) → AllByRecursion (λ s. s.row.id ≢ t.row.id) ss
    → cond (same_text t.row.id id) (Some t.place) (place_in ss id) ≡ place_in (ss ++ t ∷ []) id
one_placed [] t id a = rw (same_sym t.row.id id) (elim (cases_Bool (same_text id t.row.id)) [
  | inl e ↦ rw e refl
  | inr f ↦ rw f refl
])
one_placed (s ∷ ss) t id a = elim (cases_Bool (same_text id s.row.id)) [
  | inl e ↦
      let other : same_text t.row.id id ≡ false = differ_text t.row.id id (λ q. a.0 (sym (is_same id s.row.id e) ∙ sym q)) in
      rw (e, other) refl
  | inr f ↦ rw f (one_placed ss t id a.1)
]

before : (ss : List PlacedRow) (t : PlacedRow) (ts : List PlacedRow) → IdsDiffer (ss ++ t ∷ ts) → AllByRecursion (λ s. s.row.id ≢ t.row.id) ss
before [] t ts d = tt
before (s ∷ ss) t ts d = ((All-right (Apart s) ss (t ∷ ts) d.0).0, before ss t ts d.1)

pub all_placed : (ss ts : List PlacedRow) (id : Text) → IdsDiffer (ss ++ ts) → placed_in_turn (map placed_id_of ts) id (place_in ss id) ≡ place_in (ss ++ ts) id
all_placed ss [] id d = ap (λ l. place_in l id) (sym (append-nil ss))
all_placed ss (t ∷ ts) id d =
    let assoc : (ss ++ t ∷ []) ++ ts ≡ ss ++ (t ∷ ts) = append_assoc ss (t ∷ []) ts in
    ap (placed_in_turn (map placed_id_of ts) id) (one_placed ss t id (before ss t ts d)) ∙ all_placed (ss ++ t ∷ []) ts id (subst IdsDiffer (sym assoc) d)
    ∙ ap (λ l. place_in l id) assoc

-- ---- rows go

-- one row is forgotten, and then the others
pub forgotten-cons : (r : Row) (key : Text) (rs : List Row) (id : Text) (old new : Option Place) → r.id ≡ key → new ≡ cond (same_text key id) None old
    → forgotten rs id new ≡ forgotten (r ∷ rs) id old
forgotten-cons r key rs id old new e is =
    let here : same_text key id ≡ same_text r.id id = ap (λ k. same_text k id) (sym e) in
    ap (forgotten rs id) (is ∙ ap (λ b. cond b None old) here)
    ∙ elim (cases_Bool (same_text r.id id)) [
      | inl t ↦ rw t (nothing (list_any (λ x. same_text x.id id) rs) None refl)
      | inr f ↦ rw f refl
    ]
  where
    nothing : (b : Bool) (o : Option Place) → o ≡ None → cond b None o ≡ o
    nothing true o e = sym e
    nothing false o e = refl

-- some rows are forgotten, and then others
pub forgotten-append : (rs ss : List Row) (id : Text) (old : Option Place) → forgotten ss id (forgotten rs id old) ≡ forgotten (rs ++ ss) id old
forgotten-append [] ss id old = refl
forgotten-append (r ∷ rs) ss id old = elim (cases_Bool (same_text r.id id)) [
  | inl t ↦ rw t (nothing (list_any (λ x. same_text x.id id) ss) None refl)
  | inr f ↦ rw f (forgotten-append rs ss id old)
]
  where
    nothing : (b : Bool) (o : Option Place) → o ≡ None → cond b None o ≡ None
    nothing true o e = refl
    nothing false o e = e

-- none of these rows has the id
none_has : (id : Text) (s : PlacedRow) (ts : List PlacedRow) → same_text id s.row.id ≡ true → AllByRecursion (Apart s) ts → list_any (λ r. same_text r.id id) (the_rows ts) ≡ false
none_has id s [] e a = refl
none_has id s (t ∷ ts) e a =
    let other : same_text t.row.id id ≡ false = differ_text t.row.id id (λ q. a.0 (sym (is_same id s.row.id e) ∙ sym q)) in
    rw other (none_has id s ts e a.1)

none_found : (id : Text) (ts : List PlacedRow) → list_any (λ r. same_text r.id id) (the_rows ts) ≡ false → place_in ts id ≡ None
none_found id [] e = refl
none_found id (t ∷ ts) e = elim (cases_Bool (same_text t.row.id id)) [
  | inl k ↦ let no : true ≡ false = rw k at e in cc
  | inr k ↦ let rest : list_any (λ r. same_text r.id id) (the_rows ts) ≡ false = rw k at e in rw (same_sym id t.row.id, k) (none_found id ts rest)
]

-- the last of them
pub all_forgotten : (ss ts : List PlacedRow) (id : Text) → IdsDiffer (ss ++ ts) → forgotten (the_rows ts) id (place_in (ss ++ ts) id) ≡ place_in ss id
all_forgotten [] ts id d = elim (cases_Bool (list_any (λ r. same_text r.id id) (the_rows ts))) [
  | inl t ↦ rw t refl
  | inr f ↦ rw f (none_found id ts f)
]
all_forgotten (s ∷ ss) ts id d = elim (cases_Bool (same_text id s.row.id)) [
  | inl e ↦ rw (e, none_has id s ts e (All-right (Apart s) ss ts d.0)) refl
  | inr f ↦ rw f (all_forgotten ss ts id d.1)
]

-- those of one id
pub one_forgotten : (id : Text) (ss : List PlacedRow) (q : Text) → cond (same_text id q) None (place_in ss q) ≡ place_in (filter (λ s. not (same_text id s.row.id)) ss) q
one_forgotten id [] q = elim (cases_Bool (same_text id q)) [
  | inl t ↦ rw t refl
  | inr f ↦ rw f refl
]
one_forgotten id (s ∷ ss) q = elim (cases_Bool (same_text id s.row.id)) [
  | inl t ↦ rw t (gone t ∙ one_forgotten id ss q)
  | inr f ↦ rw f (stays f (one_forgotten id ss q))
]
  where
    gone : same_text id s.row.id ≡ true → cond (same_text id q) None (place_in (s ∷ ss) q) ≡ cond (same_text id q) None (place_in ss q)
    gone t = elim (cases_Bool (same_text id q)) [
      | inl k ↦ rw k refl
      | inr k ↦
          let other : same_text q s.row.id ≡ false =
          differ_text q s.row.id (λ e. let same : same_text id q ≡ true = subst (λ x. same_text id x ≡ true) (sym e) t in let no : true ≡ false = sym same ∙ k in cc) in
          rw (k, other) refl
    ]

    stays : same_text id s.row.id ≡ false → cond (same_text id q) None (place_in ss q) ≡ place_in (filter (λ x. not (same_text id x.row.id)) ss) q
        → cond (same_text id q) None (place_in (s ∷ ss) q) ≡ place_in (s ∷ filter (λ x. not (same_text id x.row.id)) ss) q
    stays f rest = elim (cases_Bool (same_text q s.row.id)) [
      | inl k ↦
          let other : same_text id q ≡ false = subst (λ x. same_text id x ≡ false) (sym (is_same q s.row.id k)) f in
          rw (k, other) refl
      | inr k ↦ rw k rest
    ]

-- those that pass
pub some_forgotten : (p : Row → Bool) (ss : List PlacedRow) (id : Text) → IdsDiffer ss
    → forgotten (filter p (the_rows ss)) id (place_in ss id) ≡ place_in (filter (λ s. not (p s.row)) ss) id
some_forgotten p [] id d = refl
some_forgotten p (s ∷ ss) id d = elim (cases_Bool (p s.row)) [
  | inl t ↦ rw t (elim (cases_Bool (same_text id s.row.id)) [
    | inl e ↦
        let here : same_text s.row.id id ≡ true = same_sym s.row.id id ∙ e in
        let id_is : id ≡ s.row.id = is_same id s.row.id e in
        let rest : place_in (filter (λ x. not (p x.row)) ss) id ≡ None =
        absent _ id (All-kept (λ x. x.row.id ≢ id) (λ x. not (p x.row)) ss (turned id id_is ss d.0)) in
        rw here (sym rest)
    | inr f ↦ rw (f, same_sym s.row.id id ∙ f) (some_forgotten p ss id d.1)
  ])
  | inr u ↦ rw u (elim (cases_Bool (same_text id s.row.id)) [
    | inl e ↦ rw (e, kept_none ss e d.0) refl
    | inr f ↦ rw f (some_forgotten p ss id d.1)
  ])
]
  where
    turned : (id : Text) → id ≡ s.row.id → (ts : List PlacedRow) → AllByRecursion (Apart s) ts → AllByRecursion (λ x. x.row.id ≢ id) ts
    turned id id_is [] a = tt
    turned id id_is (t ∷ ts) a = (λ q. a.0 (sym id_is ∙ sym q), turned id id_is ts a.1)

    kept_none : (ts : List PlacedRow) → same_text id s.row.id ≡ true → AllByRecursion (Apart s) ts → list_any (λ r. same_text r.id id) (filter p (the_rows ts)) ≡ false
    kept_none [] e a = refl
    kept_none (t ∷ ts) e a =
        let other : same_text t.row.id id ≡ false = differ_text t.row.id id (λ q. a.0 (sym (is_same id s.row.id e) ∙ sym q)) in
        elim (cases_Bool (p t.row)) [
          | inl k ↦ rw (k, other) (kept_none ts e a.1)
          | inr k ↦ rw k (kept_none ts e a.1)
        ]
