-- What a write is refused for.
use Rattle.std.proofs.Common.{◌≡◌, ℕ, List, sym, ◌∙◌, inl, inr}
use Rattle.std.specs.Prelude.{◌⊎◌, IfErr, Result, Ok, Err}
use Rattle.cat_base.specs.declared.refusal.Refusal.{Refusal}
use Rattle.cat_base.specs.declared.refusal.Refusal.TheVariants.{Device, Kind, Memory, Spent}
use Rattle.cat_ledger_laws.specs.shape.Shapes.{Shape}
use Rattle.cat_ledger_laws.specs.shape.Ties.{ToldFiles}
use Rattle.cat_threads.specs.history.Rules.{Sight}
use Rattle.cat_threads.specs.sharing.Grounds.{Ground, Shares}

-- a refusal that is another one
not_kind : (A : Type 0) (e : Refusal) → (e ≡ Memory) ⊎ (e ≡ Spent) → e ≡ Kind → A
not_kind A e (inl m) k = absurd (let no : Memory ≡ Kind = sym m ∙ k in cc)
not_kind A e (inr s) k = absurd (let no : Spent ≡ Kind = sym s ∙ k in cc)

pub never_kind : (A : Type 0) (r : Result ℕ Refusal) → IfErr r (λ e. (e ≡ Memory) ⊎ (e ≡ Spent)) → IfErr r (λ e. e ≡ Kind → A)
never_kind A (Ok n) h = h
never_kind A (Err e) h = not_kind A e h

pub first_kind : (A B : Type 0) (r : Result ℕ Refusal) → IfErr r (λ e. e ≡ Kind → A × B) → IfErr r (λ e. e ≡ Kind → A)
first_kind A B (Ok n) h = h
first_kind A B (Err e) h = λ is. (h is).0

among : (e : Refusal) → (e ≡ Memory) ⊎ (e ≡ Spent) → (e ≡ Kind) ⊎ (e ≡ Memory) ⊎ (e ≡ Device) ⊎ (e ≡ Spent)
among e (inl m) = inr (inl m)
among e (inr s) = inr (inr (inr s))

pub among_all : (r : Result ℕ Refusal) → IfErr r (λ e. (e ≡ Memory) ⊎ (e ≡ Spent)) → IfErr r (λ e. (e ≡ Kind) ⊎ (e ≡ Memory) ⊎ (e ≡ Device) ⊎ (e ≡ Spent))
among_all (Ok n) h = h
among_all (Err e) h = among e h

-- the schema is that of the start
pub fields_share : (told : ToldFiles) (s : Shape) (from : Ground) (sessions : List ℕ) (v : Sight) → Shares told s from sessions v → s.schema ≡ from.start.schema
fields_share told s from sessions v a = sym a.agrees.fields ∙ a.begins.fields
