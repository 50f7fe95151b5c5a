use Rattle.cat_protocol.proofs.serving.Cuts.{ended_split, rest_split, ended_none, rest_none}
use Rattle.cat_protocol.proofs.serving.input.split_line.Goals as goal

pub returns-clause-ended : goal.returns-clause-ended
returns-clause-ended c =
    let feed = c.in_ok-at.ensures in
    let split = c.split_at.ensures in
    λ front. ended_split front c.args.bytes.now _ c.split_at.result.1.now c.in_ok-at.at feed.within feed.found feed.first split.front split.back

pub returns-clause-rest : goal.returns-clause-rest
returns-clause-rest c =
    let feed = c.in_ok-at.ensures in
    λ front. rest_split front c.args.bytes.now c.split_at.result.1.now c.in_ok-at.at feed.within feed.found feed.first c.split_at.ensures.back

pub returns-in_err-at-clause-none : goal.returns-in_err-at-clause-none
returns-in_err-at-clause-none c = rw c.from_residual.ensures (λ front. ended_none front c.args.bytes.now c.in_err-at.ensures.none)

pub returns-in_err-at-clause-all : goal.returns-in_err-at-clause-all
returns-in_err-at-clause-all c = rw c.from_residual.ensures (λ front. rest_none front c.args.bytes.now c.in_err-at.ensures.none)
