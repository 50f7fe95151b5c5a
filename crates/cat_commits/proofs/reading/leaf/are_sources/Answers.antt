use Rattle.std.proofs.Common.{◌≡◌, ◌-◌, nat_eq, leb, true, arith, inl, inr}
use Rattle.std.proofs.lemmas.Bool.Decides.{eqb_tells, leb_tells}
use Rattle.cat_commits.proofs.reading.Reading.{lengths_of}
use Rattle.cat_commits.proofs.reading.leaf.are_sources.Goals as goal

pub returns-then-size-offset : goal.returns-then-size-offset
returns-then-size-offset c =
    let total = lengths_of c.args.segment.now.rows (c.len-last.result - 1) c.source_length.result (omega (arith, c.len-last.ensures.same, c.len-last.ensures.rows.some)) c.source_length.ensures in
    elim (eqb_tells (c.args.size - c.source_offset-offset.result) c.from-length.result) [
      | inl e ↦ (λ yes. omega (arith, total, e.1, c.source_offset-offset.ensures, c.from-length.ensures), λ is. e.0)
      | inr e ↦ (
        λ yes. absurd (let t : nat_eq (c.args.size - c.source_offset-offset.result) c.from-length.result ≡ true = yes in cc),
        λ is. absurd (omega (arith, total, is, e.1, c.source_offset-offset.ensures, c.from-length.ensures)),
      )
    ]

pub returns-else-size-offset : goal.returns-else-size-offset
returns-else-size-offset c =
    let total = lengths_of c.args.segment.now.rows (c.len-last.result - 1) c.source_length.result (omega (arith, c.len-last.ensures.same, c.len-last.ensures.rows.some)) c.source_length.ensures in
    elim (leb_tells c.source_offset-offset.result c.args.size) [
      | inl e ↦ absurd (omega (arith, e.1))
      | inr e ↦ (λ yes. absurd (let t : leb c.source_offset-offset.result c.args.size ≡ true = yes in cc), λ is. absurd (omega (arith, total, is, e.1, c.source_offset-offset.ensures)))
    ]
