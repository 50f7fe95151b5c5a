-- The samples of query texts, as reading judges them.
use Rattle.std.proofs.Common.{◌≡◌, ℕ, List, [], ◌∷◌, Ok, Err, refl, arith}
use Rattle.std.specs.List.{AllByRecursion}
use Rattle.std.specs.List.Sorted.{IsStrictlySortedBy}
use Rattle.cat_model.specs.Text.{Text}
use Rattle.cat_model.specs.Item.{IsSchema}
use Rattle.cat_model.specs.Faults.{Fault}
use Rattle.cat_model.specs.Reader.{read_query, content_at, clauses_at, clause_at, primary_at, leaf_at, term_at, meaning, integer_of, value_at, range_at, end_at, quoted_at}
use Rattle.cat_model.specs.QuerySamples.{sample_schema, sample_text, sample_query, faulty_samples, SamplesAreJudged}
use Rattle.cat_model.proofs.QueryLaws.{read_spells, read_faults}

sample_is_schema : IsSchema sample_schema
unfolding IsStrictlySortedBy
sample_is_schema = record { few = omega arith; rising = search; named = search }

-- what reading gives, which computes
samples_read : (read_query sample_schema sample_text ≡ Ok sample_query) × AllByRecursion (λ s. read_query sample_schema s.0 ≡ Err s.1) faulty_samples
unfolding read_query content_at clauses_at clause_at primary_at leaf_at term_at meaning integer_of value_at range_at end_at quoted_at
samples_read = (refl, search)

faults_of : (samples : List (Text × ℕ)) → AllByRecursion (λ s. read_query sample_schema s.0 ≡ Err s.1) samples → AllByRecursion (λ s. Fault sample_schema s.0 s.1) samples
faults_of [] all = tt
faults_of (s ∷ samples) all = (read_faults sample_schema s.0 s.1 sample_is_schema all.0, faults_of samples all.1)

pub samples_are_judged : SamplesAreJudged
samples_are_judged = record { spelled = read_spells sample_schema sample_text sample_query samples_read.0; refused = faults_of faulty_samples samples_read.1 }
