-- Sets of rows as what a test says of each row, and what joining such sets does to the tests.
use Rattle.std.proofs.Common.{◌≡◌, ℕ, zero, suc, ◌+◌, ◌<◌, ◌≤◌, ℤ, Bool, true, false, not, ◌&&◌, ◌||◌, List, [], ◌∷◌, length, map, replicate, get_or, drop, refl, sym, ap, ◌∙◌, rules, Option, Some, None, Bor}
use Rattle.std.specs.Prelude.{Result, Ok, Err, IfOk, option_map}
use Rattle.std.specs.Global.{Vec}
use Rattle.std.specs.Option.{option_copied}
use Rattle.std.specs.List.{list_any}
use Rattle.std.proofs.lemmas.Simd.{map-map}
use Rattle.std.proofs.lemmas.List.{drop_more, drop_all, length-map}
use Rattle.std.proofs.lemmas.List.Folds.{list_any_at}
use Rattle.std.specs.declared.alloc.AllocError.{AllocError}
use Rattle.cat_model.specs.Text.{Text, text_le}
use Rattle.cat_model.specs.Item.{Content, content_of}
use Rattle.cat_model.specs.Query as model
use Rattle.cat_model.specs.Query.{has_some, open_or, obeys, supports, obeyed, supported, primary_matches}
use Rattle.cat_model.specs.View.{Row, item_in}
use Rattle.cat_model.specs.RowSets.{joined, both, either, first_only}
use Rattle.cat_model.specs.Ordinals.{texts_of}
use Rattle.cat_query.specs.declared.query.Clause.{Clause}
use Rattle.cat_query.specs.declared.query.Sign.{Sign}
use Rattle.cat_query.specs.declared.query.Sign.TheVariants as sign
use Rattle.cat_query.specs.declared.query.Test.{Test}
use Rattle.cat_query.specs.declared.query.Test.TheVariants as test
use Rattle.cat_query.specs.declared.query.Primary.TheVariants.{Everything, Group, Field, rolls-Everything, rolls-Group, rolls-Field}
use Rattle.cat_query.specs.declared.query.Primary.TheOpen.{Primary-F}
use Rattle.cat_query.specs.declared.query.Primary.TheFolds.{fold_out-Clause, fold-roll-Primary}
use Rattle.cat_query.specs.View.{sign_of, tested, primary_of, Signed, primary_step, clause_step, signed, clauses_of}
use Rattle.cat_query.specs.Tests.{passes}

-- a set that is answered says the same in other words
pub retold : {E : Type 0} {a b : List Bool} (r : Result (List Bool) E) → a ≡ b → IfOk r (λ s. s ≡ a) → IfOk r (λ s. s ≡ b)
retold (Ok s) e is = is ∙ e
retold (Err x) e is = tt

module _ {X : Type 0} where
  pub map_same : {Y : Type 0} (f g : X → Y) → ((x : X) → f x ≡ g x) → (xs : List X) → map f xs ≡ map g xs
  map_same f g same [] = refl
  map_same f g same (x ∷ xs) = ap (λ y. y ∷ map f xs) (same x) ∙ ap (λ ys. g x ∷ ys) (map_same f g same xs)

  joined-map : (f : Bool → Bool → Bool) (p q : X → Bool) (xs : List X) → joined f (map p xs) (map q xs) ≡ map (λ x. f (p x) (q x)) xs
  joined-map f p q [] = refl
  joined-map f p q (x ∷ xs) = ap (λ bs. f (p x) (q x) ∷ bs) (joined-map f p q xs)

  -- the set of all rows, or of none, by a test that says the same of each row
  pub all_say : (b : Bool) (p : X → Bool) → ((x : X) → p x ≡ b) → (xs : List X) (n : ℕ) → n ≡ length xs → replicate n b ≡ map p xs
  all_say b p same [] n long = ap (λ k. replicate k b) long
  all_say b p same (x ∷ xs) n long =
      ap (λ k. replicate k b) long ∙ ap (λ c. c ∷ replicate (length xs) b) (sym (same x)) ∙ ap (λ bs. p x ∷ bs) (all_say b p same xs (length xs) refl)

and_chain : (a b c : Bool) → ((a && b) && c) ≡ (a && (b && c))
and_chain true b c = refl
and_chain false b c = refl

or_chain : (a b c : Bool) → ((a || b) || c) ≡ (a || (b || c))
or_chain true b c = refl
or_chain false b c = refl

or_true : (a : Bool) → (a || true) ≡ true
or_true true = refl
or_true false = refl

and_true : (a : Bool) → (a && true) ≡ a
and_true true = refl
and_true false = refl

or_false : (a : Bool) → (a || false) ≡ a
or_false true = refl
or_false false = refl

-- A set by a test, which the tests that are left turn into the whole test.
pub record Joined {X : Type 0} (f : Bool → Bool → Bool) (rows : List X) (left whole : X → Bool) (set : List Bool) : Type 0 where
  pub said : X → Bool
  pub is : set ≡ map said rows
  pub comes_to : (x : X) → f (said x) (left x) ≡ whole x

module _ {X : Type 0} (f : Bool → Bool → Bool) (rows : List X) where
  pub joins : (g : Bool → Bool → Bool) (found left left' whole : X → Bool) (set other new : List Bool)
      → ((b : Bool) (x : X) → f (g b (found x)) (left' x) ≡ f b (left x))
      → Joined f rows left whole set → other ≡ map found rows → new ≡ joined g set other → Joined f rows left' whole new
  joins g found left left' whole set other new turns j is e = record {
    said = λ x. g (j.said x) (found x);
    is = e ∙ ap (λ s. joined g s other) j.is ∙ ap (joined g (map j.said rows)) is ∙ joined-map g j.said found rows;
    comes_to = λ x. turns (j.said x) x ∙ j.comes_to x;
  }

  -- what is passed over changes nothing
  pub stays : (left left' whole : X → Bool) (set new : List Bool) → ((b : Bool) (x : X) → f b (left' x) ≡ f b (left x))
      → Joined f rows left whole set → new ≡ set → Joined f rows left' whole new
  stays left left' whole set new turns j e = record {
    said = j.said;
    is = e ∙ j.is;
    comes_to = λ x. turns (j.said x) x ∙ j.comes_to x;
  }

  pub ends : (left whole : X → Bool) (set : List Bool) → ((b : Bool) (x : X) → f b (left x) ≡ b) → Joined f rows left whole set → set ≡ map whole rows
  ends left whole set nothing j = j.is ∙ map_same j.said whole (λ x. sym (nothing (j.said x) x) ∙ j.comes_to x) rows

  pub same_length : (left whole found : X → Bool) (set other : List Bool) → Joined f rows left whole set → other ≡ map found rows → length set ≡ length other
  same_length left whole found set other j is = ap length j.is ∙ length-map rows j.said ∙ sym (ap length is ∙ length-map rows found)

signed_is : (c : Clause) → signed c ≡ (sign_of c.sign, primary_of c.primary)
signed_is c = fold_out-Clause model.Primary Signed primary_step clause_step c

pub everything_is : primary_of Everything ≡ model.Primary.everything
everything_is = ap primary_of (sym rolls-Everything) ∙ fold-roll-Primary model.Primary Signed primary_step clause_step Primary-F.Everything

pub group_is : (cs : Vec Clause) → primary_of (Group cs) ≡ model.Primary.group (clauses_of cs.items)
group_is cs = ap primary_of (sym (rolls-Group cs)) ∙ fold-roll-Primary model.Primary Signed primary_step clause_step (Primary-F.Group cs)

pub field_is : (name : Text) (t : Test) → primary_of (Field name t) ≡ tested name t
field_is name t = ap primary_of (sym (rolls-Field name t)) ∙ fold-roll-Primary model.Primary Signed primary_step clause_step (Primary-F.Field name t)

-- the clauses from this place on: this one, and those behind it
pub clauses_from : (cs : List Clause) (i : ℕ) (c : Clause) → i < length cs → c ≡ get_or cs i c
    → clauses_of (drop i cs) ≡ model.Query.clause (sign_of c.sign) (primary_of c.primary) (clauses_of (drop (i + 1) cs))
clauses_from cs i c lt is =
    ap clauses_of (drop_more cs i c lt) ∙ ap (λ x. model.Query.clause (signed x).0 (signed x).1 (clauses_of (drop (i + 1) cs))) (sym is)
    ∙ ap (λ y. model.Query.clause y.0 y.1 (clauses_of (drop (i + 1) cs))) (signed_is c)

-- a test of a field is the test of what the item has there
pub tested_passes : (name : Text) (t : Test) (r : Row) → primary_matches (tested name t) (item_in r) ≡ passes t (content_of name (item_in r))
tested_passes name (test.Word w) r = refl
tested_passes name (test.WordPrefix p) r = refl
tested_passes name (test.Keyword k) r = refl
tested_passes name (test.KeywordPrefix p) r = refl
tested_passes name (test.KeywordRange low high) r = refl
tested_passes name (test.Number n) r = refl
tested_passes name (test.NumberRange low high) r = refl
tested_passes name (test.Label l) r = refl
tested_passes name (test.LabelPrefix p) r = refl

passes_none : (t : Test) → passes t None ≡ false
passes_none (test.Word w) = refl
passes_none (test.WordPrefix p) = refl
passes_none (test.Keyword k) = refl
passes_none (test.KeywordPrefix p) = refl
passes_none (test.KeywordRange low high) = refl
passes_none (test.Number n) = refl
passes_none (test.NumberRange low high) = refl
passes_none (test.Label l) = refl
passes_none (test.LabelPrefix p) = refl

none_passes : (t : Test) (n : ℕ) → map (passes t) (replicate n None) ≡ replicate n false
none_passes t zero = refl
none_passes t (suc n) = ap (λ b. b ∷ map (passes t) (replicate n None)) (passes_none t) ∙ ap (λ bs. false ∷ bs) (none_passes t n)

module _ (name : Text) (t : Test) (rows : List Row) where
  field_rows : map (passes t) (map (λ r. content_of name (item_in r)) rows) ≡ map (λ r. primary_matches (tested name t) (item_in r)) rows
  field_rows =
      map-map (passes t) (λ r. content_of name (item_in r)) rows
      ∙ map_same (λ r. passes t (content_of name (item_in r))) (λ r. primary_matches (tested name t) (item_in r)) (λ r. sym (tested_passes name t r)) rows

  -- the rows of a column that pass the test are the rows of the segment that do
  pub column_rows : (contents : List Content) → map (λ c. Some c) contents ≡ map (λ r. content_of name (item_in r)) rows
      → map (λ c. passes t (Some c)) contents ≡ map (λ r. primary_matches (tested name t) (item_in r)) rows
  column_rows contents are = sym (map-map (passes t) (λ c. Some c) contents) ∙ ap (map (passes t)) are ∙ field_rows

  pub column_long : (contents : List Content) → map (λ c. Some c) contents ≡ map (λ r. content_of name (item_in r)) rows → length contents ≡ length rows
  column_long contents are = sym (length-map contents (λ c. Some c)) ∙ ap length are ∙ length-map rows (λ r. content_of name (item_in r))

  pub no_column : map (λ r. content_of name (item_in r)) rows ≡ replicate (length rows) None
      → replicate (length rows) false ≡ map (λ r. primary_matches (tested name t) (item_in r)) rows
  no_column none = sym (ap (map (passes t)) none ∙ none_passes t (length rows)) ∙ field_rows

-- A keyword is a text or none, so some text of it passes or it has none that does.
text_passes : (f : Text → Bool) (o : Option Text) → list_any f (texts_of o) ≡ has_some f o
text_passes f None = refl
text_passes f (Some k) = elim (f k) as (λ b. (b || false) ≡ b) [ true ↦ refl | false ↦ refl ]

pub keyword_rows : (f : Text → Bool) (terms : List (List Text)) (keywords : List (Option Text)) → terms ≡ map texts_of keywords → map (list_any f) terms ≡ map (has_some f) keywords
keyword_rows f terms keywords are = ap (map (list_any f)) are ∙ map-map (list_any f) texts_of keywords ∙ map_same (λ k. list_any f (texts_of k)) (has_some f) (text_passes f) keywords

-- A test of one kind of field passes nothing of another.
pub only_words : (t : Test) → ((w : Text) → t ≡ test.Word w → ⊥) → ((p : Text) → t ≡ test.WordPrefix p → ⊥) → (x : List Text) → passes t (Some (Content.words x)) ≡ false
only_words t a b x = search rules

pub only_keywords : (t : Test) → ((k : Text) → t ≡ test.Keyword k → ⊥) → ((p : Text) → t ≡ test.KeywordPrefix p → ⊥) → ((low high : Option Text) → t ≡ test.KeywordRange low high → ⊥) → (x : Option Text) → passes t (Some (Content.keyword x)) ≡ false
only_keywords t a b c x = search rules

pub only_numbers : (t : Test) → ((n : ℤ) → t ≡ test.Number n → ⊥) → ((low high : Option ℤ) → t ≡ test.NumberRange low high → ⊥) → (x : Option ℤ) → passes t (Some (Content.number x)) ≡ false
only_numbers t a b x = search rules

pub only_labels : (t : Test) → ((l : Text) → t ≡ test.Label l → ⊥) → ((p : Text) → t ≡ test.LabelPrefix p → ⊥) → (x : List Text) → passes t (Some (Content.labels x)) ≡ false
only_labels t a b x = search rules

-- A MUST supports every row.
must_or : (s : model.Sign) (b any rest : Bool) → (any ≡ true → rest ≡ true) → (supports s false || any) ≡ true → (supports s b || rest) ≡ true
must_or model.Sign.must b any rest then h = refl
must_or model.Sign.must_not b any rest then h = then h
must_or model.Sign.should b any rest then h = ap (λ x. b || x) (then h) ∙ or_true b

pub all_supported : (cs : List Clause) (r : Row) → list_any (λ d. supports (sign_of d.sign) false) cs ≡ true → supported (clauses_of cs) (item_in r) ≡ true
all_supported [] r h = absurd (cc)
all_supported (c ∷ cs) r h =
    ap (λ y. supports y.0 (primary_matches y.1 (item_in r)) || supported (clauses_of cs) (item_in r)) (signed_is c)
    ∙ must_or (sign_of c.sign) (primary_matches (primary_of c.primary) (item_in r)) (list_any (λ d. supports (sign_of d.sign) false) cs) (supported (clauses_of cs) (item_in r))
    (all_supported cs r) h

-- the contents of a column of one kind
pub content_rows : {X : Type 0} (content : X → Content) (t : Test) (xs : List X) → map (λ x. passes t (Some (content x))) xs ≡ map (λ c. passes t (Some c)) (map content xs)
content_rows content t xs = sym (map-map (λ c. passes t (Some c)) content xs)

-- the start: a set of all rows, or of none, that changes nothing
pub starts : (f : Bool → Bool → Bool) (b : Bool) → ((c : Bool) → f b c ≡ c) → (rows : List Row) (whole : Row → Bool) (set : List Bool) (n : ℕ)
    → n ≡ length rows → set ≡ replicate n b → Joined f rows whole whole set
starts f b nothing rows whole set n long is = record {
  said = λ r. b;
  is = is ∙ all_say b (λ r. b) (λ r. refl) rows n long;
  comes_to = λ r. nothing (whole r);
}

-- what the clauses from this place on say of a row
abbrev pub obeyed_from : List Clause → ℕ → Row → Bool
obeyed_from cs i r = obeyed (clauses_of (drop i cs)) (item_in r)

abbrev pub supported_from : List Clause → ℕ → Row → Bool
supported_from cs i r = supported (clauses_of (drop i cs)) (item_in r)

abbrev pub matched : Clause → Row → Bool
matched c r = primary_matches (primary_of c.primary) (item_in r)

module _ (rows : List Row) (whole : Row → Bool) (cs : List Clause) (i : ℕ) (c : Clause) (lt : i < length cs) (at : c ≡ get_or cs i c) (set new : List Bool) where
  under : (s : Sign) → c.sign ≡ s → clauses_of (drop i cs) ≡ model.Query.clause (sign_of s) (primary_of c.primary) (clauses_of (drop (i + 1) cs))
  under s e = clauses_from cs i c lt at ∙ ap (λ x. model.Query.clause (sign_of x) (primary_of c.primary) (clauses_of (drop (i + 1) cs))) e

  obeyed_is : (s : Sign) → c.sign ≡ s → (r : Row) → (obeys (sign_of s) (matched c r) && obeyed_from cs (i + 1) r) ≡ obeyed_from cs i r
  obeyed_is s e r = ap (λ q. obeyed q (item_in r)) (sym (under s e))

  supported_is : (s : Sign) → c.sign ≡ s → (r : Row) → (supports (sign_of s) (matched c r) || supported_from cs (i + 1) r) ≡ supported_from cs i r
  supported_is s e r = ap (λ q. supported q (item_in r)) (sym (under s e))

  pub must_joined : Joined both rows (obeyed_from cs i) whole set → c.sign ≡ sign.Must → (found : List Bool) → found ≡ map (matched c) rows
      → new ≡ joined both set found → Joined both rows (obeyed_from cs (i + 1)) whole new
  must_joined j e found is joined_is =
      joins both rows both (matched c) (obeyed_from cs i) (obeyed_from cs (i + 1)) whole set found new
      (λ b r. and_chain b (matched c r) (obeyed_from cs (i + 1) r) ∙ ap (both b) (obeyed_is sign.Must e r)) j is joined_is

  pub must_not_joined : Joined both rows (obeyed_from cs i) whole set → c.sign ≡ sign.MustNot → (found : List Bool) → found ≡ map (matched c) rows
      → new ≡ joined first_only set found → Joined both rows (obeyed_from cs (i + 1)) whole new
  must_not_joined j e found is joined_is =
      joins both rows first_only (matched c) (obeyed_from cs i) (obeyed_from cs (i + 1)) whole set found new
      (λ b r. and_chain b (not (matched c r)) (obeyed_from cs (i + 1) r) ∙ ap (both b) (obeyed_is sign.MustNot e r)) j is joined_is

  pub should_passed : Joined both rows (obeyed_from cs i) whole set → c.sign ≡ sign.Should → new ≡ set → Joined both rows (obeyed_from cs (i + 1)) whole new
  should_passed j e same =
      stays both rows (obeyed_from cs i) (obeyed_from cs (i + 1)) whole set new (λ b r. ap (both b) (obeyed_is sign.Should e r)) j same

  pub should_joined : Joined either rows (supported_from cs i) whole set → c.sign ≡ sign.Should → (found : List Bool) → found ≡ map (matched c) rows
      → new ≡ joined either set found → Joined either rows (supported_from cs (i + 1)) whole new
  should_joined j e found is joined_is =
      joins either rows either (matched c) (supported_from cs i) (supported_from cs (i + 1)) whole set found new
      (λ b r. or_chain b (matched c r) (supported_from cs (i + 1) r) ∙ ap (either b) (supported_is sign.Should e r)) j is joined_is

  -- where no clause is a MUST, one that isn't a SHOULD supports nothing
  pub others_passed : Joined either rows (supported_from cs i) whole set → list_any (λ d. supports (sign_of d.sign) false) cs ≡ false
      → (c.sign ≡ sign.Should → ⊥) → new ≡ set → Joined either rows (supported_from cs (i + 1)) whole new
  others_passed j no_must no_should same =
      stays either rows (supported_from cs i) (supported_from cs (i + 1)) whole set new (λ b r. ap (either b) (go r c.sign refl)) j same where
        go : (r : Row) (s : Sign) → c.sign ≡ s → supported_from cs (i + 1) r ≡ supported_from cs i r
        go r sign.Must e =
            let found : list_any (λ d. supports (sign_of d.sign) false) cs ≡ true =
            list_any_at (λ d. supports (sign_of d.sign) false) cs i c lt (ap (λ d. supports (sign_of d.sign) false) (sym at) ∙ ap (λ s. supports (sign_of s) false) e) in
            absurd (cc)
        go r sign.MustNot e = supported_is sign.MustNot e r
        go r sign.Should e = absurd (no_should e)

module _ (rows : List Row) (whole : Row → Bool) (cs : List Clause) (i : ℕ) (past : length cs ≤ i) (set : List Bool) where
  pub obeyed_ends : Joined both rows (obeyed_from cs i) whole set → set ≡ map whole rows
  obeyed_ends = ends both rows (obeyed_from cs i) whole set (λ b r. ap (λ l. both b (obeyed (clauses_of l) (item_in r))) (drop_all i cs past) ∙ and_true b)

  pub supported_ends : Joined either rows (supported_from cs i) whole set → set ≡ map whole rows
  supported_ends = ends either rows (supported_from cs i) whole set (λ b r. ap (λ l. either b (supported (clauses_of l) (item_in r))) (drop_all i cs past) ∙ or_false b)

copied_is : {T : Type 0} (o : Option (Bor T)) → option_map (λ t. t.now) o ≡ option_copied o
copied_is None = refl
copied_is (Some t) = refl

abbrev pub in_range : Option Text → Option Text → Text → Bool
in_range low high k = open_or (λ a. text_le a k) low && open_or (text_le k) high

pub range_rows : (low high : Option (Bor Text)) (low' high' : Option Text) (terms : List (List Text)) (keywords : List (Option Text)) (r : Result (List Bool) AllocError)
    → option_copied low ≡ low' → option_copied high ≡ high' → terms ≡ map texts_of keywords
    → IfOk r (λ s. s ≡ map (list_any (in_range (option_map (λ t. t.now) low) (option_map (λ t. t.now) high))) terms)
    → IfOk r (λ s. s ≡ map (has_some (in_range low' high')) keywords)
range_rows low high low' high' terms keywords r l h are =
    retold r (ap (λ o. map (list_any (in_range o (option_map (λ t. t.now) high))) terms) (copied_is low ∙ l)
    ∙ ap (λ o. map (list_any (in_range low' o)) terms) (copied_is high ∙ h)
    ∙ keyword_rows (in_range low' high') terms keywords are)
