use Rattle.std.proofs.Common.{◌≡◌, ℕ, nat_eq, true, false, cond, rules, sym, ◌∙◌, subst, arith}
use Rattle.std.proofs.lemmas.Bool.{not-true, not-false}
use Rattle.std.specs.HashSet.{contains}
use Rattle.cat_commits.specs.Listings.{listed_segment_at}
use Rattle.cat_commits.proofs.Listings.{none_hashed, one_hashed, not_apart}
use Rattle.cat_commits.proofs.listing.numbers_differ_by_hash.Goals as goal

pub loop-index-init : goal.loop-index-init
loop-index-init c = none_hashed c.args.listing.now (contains nat_eq c.in_ok-seen.seen) (search rules)

pub loop-index-preserved : goal.loop-index-preserved
loop-index-preserved c =
    let n : ℕ = c.loop-index.index in
    let number : c.number.result ≡ (listed_segment_at c.args.listing.now n).number = search rules in
    let fresh : contains nat_eq c.loop-index.seen c.number.result ≡ false = not-true _ (sym c.in_ok-insert.ensures.added ∙ c.if-not-branch.false) in
    one_hashed c.args.listing.now n (contains nat_eq c.loop-index.seen) (contains nat_eq c.insert.new.self)
    (subst (λ (v : ℕ). (q : ℕ) → contains nat_eq c.insert.new.self q ≡ cond (nat_eq v q) true (contains nat_eq c.loop-index.seen q)) number c.in_ok-insert.ensures.updates.0)
    (subst (λ (v : ℕ). contains nat_eq c.loop-index.seen v ≡ false) number fresh) c.loop-index.invariant

pub returns-then-not-branch : goal.returns-then-not-branch
returns-then-not-branch c =
    let n : ℕ = c.loop-index.index in
    let number : c.number.result ≡ (listed_segment_at c.args.listing.now n).number = search rules in
    let met : contains nat_eq c.loop-index.seen c.number.result ≡ true = not-false _ (sym c.in_ok-insert.ensures.added ∙ c.if-not-branch.true) in (
      λ no. absurd (let wrong : false ≡ true = no in cc),
      λ differ. absurd (not_apart c.args.listing.now n (contains nat_eq c.loop-index.seen) c.loop-index.invariant (omega arith) (subst (λ (v : ℕ). contains nat_eq c.loop-index.seen v ≡ true) number met) differ),
    )
