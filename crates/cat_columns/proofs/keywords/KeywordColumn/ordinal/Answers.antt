use Rattle.std.proofs.Common.{◌≡◌, ℕ, zero, suc, ◌-◌, ◌<◌, ◌≤◌, List, length, get_or, map, Option, Some, None, refl, sym, ap, ◌∙◌, arith}
use Rattle.std.proofs.lemmas.List.{get_or-map, length-map}
use Rattle.cat_model.specs.Text.{Text}
use Rattle.cat_model.specs.Ordinals.{dictionary_of, text_at, texts_of}
use Rattle.cat_columns.specs.Columns.{text_of_code, IsKeywords}
use Rattle.cat_columns.proofs.keywords.KeywordColumn.ordinal.Goals as goal

module _ (ds : List Text) (codes : List ℕ) (v : List (Option Text)) (row code : ℕ) (is : IsKeywords ds codes) (view : map (text_of_code ds) codes ≡ v) (lt : row < length v)
    (at : code ≡ get_or codes row code) where
  row_within : row < length codes
  row_within = omega (arith, lt, ap length view, length-map codes (text_of_code ds))

  code_read : get_or v row None ≡ text_of_code ds code
  code_read = ap (λ (l : List (Option Text)). get_or l row None) (sym view) ∙ get_or-map (text_of_code ds) codes row code None row_within ∙ ap (text_of_code ds) (sym at)

  code_within : code ≤ length ds
  code_within = omega (arith, at, is.within row code row_within)

  whole : ds ≡ dictionary_of (map texts_of v)
  whole = is.whole ∙ ap (λ (l : List (Option Text)). dictionary_of (map texts_of l)) view

some_code : (ds : List Text) (code : ℕ) → (code ≡ 0 → ⊥) → text_of_code ds code ≡ Some (text_at ds (code - 1))
some_code ds zero some = absurd (some refl)
some_code ds (suc ordinal) some =
    let before : suc ordinal - 1 ≡ ordinal = omega arith in
    ap (λ (k : ℕ). Some (text_at ds k)) (sym before)

pub returns-in-0-clause-value : goal.returns-in-0-clause-value
returns-in-0-clause-value c =
    let none : c.index.result.now ≡ 0 = omega arith in
    sym (code_read c.self.inside.dictionary c.self.inside.codes.items c.args.self.now c.args.row c.index.result.now c.self.invariant c.self.view_is c.requires c.index.ensures ∙ ap (text_of_code c.self.inside.dictionary) none)

pub returns-in-0-clause-bound : goal.returns-in-0-clause-bound
returns-in-0-clause-bound c = tt

pub returns-in_default-clause-value : goal.returns-in_default-clause-value
returns-in_default-clause-value c =
    let ds = c.self.inside.dictionary in
    let codes = c.self.inside.codes.items in
    let code = c.index.result.now in
    sym (code_read ds codes c.args.self.now c.args.row code c.self.invariant c.self.view_is c.requires c.index.ensures ∙ some_code ds code (λ e. omega arith)
    ∙ ap (λ (l : List Text). Some (text_at l (code - 1))) (whole ds codes c.args.self.now c.args.row code c.self.invariant c.self.view_is c.requires c.index.ensures))

pub returns-in_default-clause-bound : goal.returns-in_default-clause-bound
returns-in_default-clause-bound c =
    let ds = c.self.inside.dictionary in
    let codes = c.self.inside.codes.items in
    let code = c.index.result.now in
    omega (arith, code_within ds codes c.args.self.now c.args.row code c.self.invariant c.self.view_is c.requires c.index.ensures, ap length (whole ds codes c.args.self.now c.args.row code c.self.invariant c.self.view_is c.requires c.index.ensures))
