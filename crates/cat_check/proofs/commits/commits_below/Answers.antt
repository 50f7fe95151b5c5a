use Rattle.std.proofs.Common.{ap, ◌∙◌, arith}
use Rattle.std.proofs.lemmas.List.{take_all}
use Rattle.cat_directory.specs.contracts.name.FileName.{the_type}
use Rattle.cat_check.proofs.Older.{are_below, generations_below, newer_passed, one_more_below, other_passed}
use Rattle.cat_check.proofs.commits.commits_below.Goals as goal
use Rattle.cat_check.proofs.commits.commits_below.Goals.{in-Commit+then-generation-bound+in_ok-push, in_default, in_default-via-in-Segment-1, in_default-via-in-Commit+else-generation-bound}
use denote.Enum.Declared.{tag_of}

pub loop-name-preserved : goal.loop-name-preserved
loop-name-preserved c = elim c.match-name.branch [
  | in-Commit+then-generation-bound+in_ok-push w ↦
      ap (λ v. v.items) w.generations-is
      ∙ one_more_below c.args.bound c.loop-name.name-index w.in-Commit.generation c.args.names.now _ c.loop-name.generations.items w.push.new.self.items c.loop-name-test.true w.in-Commit.is
      w.if-generation-bound.true c.loop-name.invariant w.in_ok-push.ensures.items
  | in_default w ↦ elim w.in_default.branch [
    | in_default-via-in-Segment-1 v ↦
        ap (λ v. v.items) w.generations-is
        ∙ other_passed c.args.bound c.loop-name.name-index c.args.names.now _ c.loop-name.generations.items c.loop-name-test.true
        (λ g is. v.in-Segment-1.refused-1.1 (ap (tag_of the_type) is)) c.loop-name.invariant
    | in_default-via-in-Commit+else-generation-bound v ↦
        ap (λ v. v.items) w.generations-is
        ∙ newer_passed c.args.bound c.loop-name.name-index v.in-Commit.generation c.args.names.now _ c.loop-name.generations.items c.loop-name-test.true v.in-Commit.is v.if-generation-bound.false
        c.loop-name.invariant
  ]
]

pub returns : goal.returns
returns c =
    are_below c.args.names.now c.args.bound c.loop-name.generations.items c.sort_unstable.new.self.items c.reverse.new.self.items
    (c.loop-name.invariant ∙ ap (generations_below c.args.bound) (take_all c.loop-name.name-index c.args.names.now (omega arith))) c.sort_unstable.ensures.permutation c.sort_unstable.ensures.sorted
    c.reverse.ensures.items
