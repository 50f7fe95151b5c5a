use Rattle.std.proofs.Common.{◌≡◌, ◌∙◌, ℕ, Bool, List, ap, subst}
use Rattle.cat_directory.specs.declared.name.FileName.TheVariants as file
use Rattle.cat_model.specs.CommitFile.{ListedSegment}
use Rattle.cat_model.specs.LiveFile.{SpellsLive}
use Rattle.cat_commits.proofs.writing.draft.live_file.Goals as goal

pub returns : goal.returns
returns c =
    let number : c.number-number.result ≡ c.args.entry.now.number = c.number-number.ensures ∙ ap (λ (s : ListedSegment). s.number) c.segment.ensures in
    record {
      named = ap (λ (n : ℕ). file.Live n c.args.generation) number;
      spelled = subst (λ (n : ℕ). SpellsLive c.in_ok-encode_liv.field-0.items (record { number = n; generation = c.args.generation; live = c.args.entry.now.live })) number
          (subst (λ (live : List Bool). SpellsLive c.in_ok-encode_liv.field-0.items (record { number = c.number-number.result; generation = c.args.generation; live = live })) c.live.ensures c.in_ok-encode_liv.ensures.ok);
    }
