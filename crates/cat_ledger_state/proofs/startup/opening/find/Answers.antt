use Rattle.std.proofs.Common.{◌∙◌, ℕ, List, map, sym, ap, subst, arith}
use Rattle.std.specs.Prelude.{Contains, MatchOption}
use Rattle.cat_directory.specs.declared.name.FileName.{FileName}
use Rattle.cat_directory.specs.declared.name.FileName.TheVariants as file
use Rattle.cat_directory.specs.Devices.{Lists}
use Rattle.cat_directory.specs.Names.{name_of}
use Rattle.cat_ledger_laws.specs.model.Users.{has_name}
use Rattle.cat_commits.specs.reading.Numbers.{AreNext, IsNewest}
use Rattle.cat_ledger_state.proofs.startup.Listing.{listed_once}
use Rattle.cat_ledger_state.proofs.startup.opening.find.Goals as goal

pub known_names-requires : goal.known_names-requires
known_names-requires g c = record {
  once = listed_once (g.D.Holder.bytes c.args.device.now) c.deref.result.now
      (subst (Lists (g.D.Holder.bytes c.args.device.now)) (sym c.deref.ensures.value) c.in_ok-names.ensures.ok);
}

pub returns-clause-ok : goal.returns-clause-ok
returns-clause-ok g c = record {
  names = c.in_ok-names.names.items;
  listed = c.in_ok-names.ensures.ok;
  unused = c.in_ok-refs.ensures.users;
  known = λ q. c.in_ok-refs.ensures.known q ∙ ap (λ (ns : List FileName). has_name q (map name_of ns)) c.deref.ensures.value;
  next = subst (λ (ns : List FileName). AreNext ns c.next_numbers-next.result.0 c.next_numbers-next.result.1) c.deref-2.ensures.value c.next_numbers-next.ensures.next;
  left = (omega (arith, c.next_numbers-next.ensures.fit.0), omega (arith, c.next_numbers-next.ensures.fit.1));
  among = subst (λ (ns : List FileName). MatchOption c.newest_commit-newest.result ((h : ℕ) → Contains ns (file.Commit h) → ⊥) (IsNewest ns)) c.deref-3.ensures.value
      c.newest_commit-newest.ensures;
}

pub returns-clause-frame : goal.returns-clause-frame
returns-clause-frame g c = record { same = c.in_ok-names.ensures.same; crash = c.in_ok-names.ensures.crash; can = c.in_ok-names.ensures.can }

pub returns-clause-fails : goal.returns-clause-fails
returns-clause-fails g c = record { device = tt; counted = c.in_ok-names.ensures.counted; can = c.in_ok-names.ensures.can }
