-- The samples of replicas are as the laws ask.
use Rattle.std.proofs.Common.{inl, inr, ◌≡◌, [], ◌∷◌, ◌++◌, refl, arith}
use Rattle.std.specs.Prelude.{Ok, Err}
use Rattle.std.proofs.lemmas.List.Elements.{All-from_recursion}
use Rattle.cat_base.specs.declared.refusal.Refusal.TheVariants.{Spent, Device}
use Rattle.cat_model.specs.Text.{Text}
use Rattle.cat_model.specs.Item.{Item, Schema}
use Rattle.cat_model.specs.Write.{Write}
use Rattle.cat_model.specs.Table.{table}
use Rattle.cat_model.specs.Answer.{Read, Found, stored}
use Rattle.cat_model.specs.Run.{Command, Answer, Reply, Refuses, IsRun}
use Rattle.cat_service.specs.replicas.Samples.{said, told, first, first_past, first_run, first_read, second, second_run, second_read, AreReplicas, StopsPart, SamplesAreReplicas}

no_refusal : (c : Command) (a : Answer) → Refuses c (Ok a) → ⊥
no_refusal c a f = let h : ◌≡◌ {A = Reply} (Ok a) (Err f.0) = f.1 in cc h

module _ (schema : Schema) (a b : Item) (id : Text) where
  first_is_run : IsRun (first schema) ((first_past a ++ first_run b) ++ first_read schema a b id)
  first_is_run = (
    inl refl,
    (
      inl (1, refl, omega arith, omega arith, refl),
      (
        inr (inl (refl, refl)),
        (
          inl refl,
          (
            inl refl,
            (
              inl refl,
              (
                inl refl,
                (inl refl, tt),
              ),
            ),
          ),
        ),
      ),
    ),
  )

  second_is_run : IsRun (second schema a) (second_run a b ++ second_read schema a b id)
  second_is_run = (
    inl refl,
    (
      inl refl,
      (
        inr (inr ((Device, refl, refl), (Answer.number 3, refl))),
        (
          inl refl,
          (
            inl refl,
            (
              inl refl,
              (
                inl refl,
                (inl refl, tt),
              ),
            ),
          ),
        ),
      ),
    ),
  )

  replicas : AreReplicas schema a b id
  replicas = record {
    seen = All-from_recursion _ [] tt;
    begun = refl;
    said_alike = refl;
    reached = omega arith;
    one = record {
      is_run = first_is_run;
      session = 7;
      past = (first_past a ++ first_run b) ++ said 1 Command.refresh (told 2) ∷ said 7 Command.open_newest (told 2) ∷ [];
      later = [];
      split = refl;
      held = refl;
      undisturbed = no_refusal (Command.read 2 (Read.get (Ok id))) (Answer.found (Found.source (stored (table (first schema).start (Write.put a ∷ Write.put b ∷ []) 2) id)));
    };
    two = record {
      is_run = second_is_run;
      session = 9;
      past = second_run a b ++ said 4 Command.refresh (told 2) ∷ said 9 (Command.open_at 2) (told 2) ∷ said 3 (Command.delete (Ok id)) (told 3) ∷ [];
      later = [];
      split = refl;
      held = refl;
      undisturbed = no_refusal (Command.read 2 (Read.get (Ok id))) (Answer.found (Found.source (stored (table (first schema).start (Write.put a ∷ Write.put b ∷ []) 2) id)));
    };
  }

stops_part : (schema : Schema) (a : Item) → StopsPart schema a
stops_part schema a = record {
  goes = (inl refl, tt);
  spent = (inr (inr ((Spent, refl, refl), (Answer.number 1, refl))), tt);
  device = (inr (inr ((Device, refl, refl), (Answer.number 1, refl))), tt);
  memory = (inr (inl (refl, refl)), tt);
}

pub samples : SamplesAreReplicas
samples schema a b id = (replicas schema a b id, stops_part schema a)
