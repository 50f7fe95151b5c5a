-- What is taken of names, and given back.
use Rattle.std.proofs.Common.{◌≡◌, ℕ, ◌≤◌, Bool, true, false, ◌||◌, List, [], refl, ap, ◌∙◌, arith}
use Rattle.cat_model.specs.Files.{Name}
use Rattle.cat_ledger_laws.specs.model.Users.{Used, users_of, is_known, has_name, times, Changes}
use Rattle.cat_ledger_state.specs.Cores.{StayKnown}

pub or_none : (b : Bool) → (b || false) ≡ b
or_none true = refl
or_none false = refl

or_there : (b : Bool) → (b || true) ≡ true
or_there true = refl
or_there false = refl

-- what is taken first, and then given
pub changes_join : (taken given : List Name) (old mid new : List Used) → Changes taken [] old mid → Changes [] given mid new → Changes taken given old new
changes_join taken given old mid new first second = record {
  users = λ q. omega (arith, first.users q, second.users q);
  known = λ q. second.known q ∙ or_none (is_known mid q) ∙ first.known q;
}

-- What was there can be given once more was taken,
pub given_after : (taken : List Name) (old mid : List Used) → Changes taken [] old mid → (q : Name) (n : ℕ) → n ≤ users_of old q → n ≤ users_of mid q
given_after taken old mid first q n le = omega (arith, first.users q)

-- and what was taken can be given again.
pub given_again : (taken : List Name) (old mid : List Used) → Changes taken [] old mid → (q : Name) → times q taken ≤ users_of mid q
given_again taken old mid first q = omega (arith, first.users q)

-- Then the users are as they were, and the names are known.
pub users_undone : (names : List Name) (old mid new : List Used) → Changes names [] old mid → Changes [] names mid new → (q : Name) → users_of new q ≡ users_of old q
users_undone names old mid new first second q = omega (arith, first.users q, second.users q)

pub known_undone : (names : List Name) (old mid new : List Used) → Changes names [] old mid → Changes [] names mid new
    → (q : Name) → has_name q names ≡ true → is_known new q ≡ true
known_undone names old mid new first second q there =
    second.known q ∙ or_none (is_known mid q) ∙ first.known q ∙ ap (λ b. is_known old q || b) there ∙ or_there (is_known old q)

-- What was known still is, whatever is taken and given,
pub known_after : (taken given : List Name) (old new : List Used) → Changes taken given old new → StayKnown old new
known_after taken given old new changed q there = changed.known q ∙ ap (λ b. b || has_name q taken) there

-- also where it is taken first, and then given.
pub known_still : (names given : List Name) (old mid new : List Used) → Changes names [] old mid → Changes [] given mid new → StayKnown old new
known_still names given old mid new first second q there =
    known_after [] given mid new second q (known_after names [] old mid first q there)
