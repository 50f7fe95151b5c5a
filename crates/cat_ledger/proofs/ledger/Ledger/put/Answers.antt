use Rattle.std.proofs.Common.{ℕ, ◌<◌, ◌≡◌, ◌≤◌, Err, ap, arith, inl, inr, refl, subst, sym}
use Rattle.cat_base.specs.declared.refusal.Refusal.{Refusal}
use Rattle.cat_base.specs.declared.refusal.Refusal.TheVariants.{Device, Kind, Memory, Spent}
use Rattle.cat_ledger.proofs.Failures.{fails_as, memory_is_none, none_fails, none_is_kind, quiet_fails}
use Rattle.cat_ledger.proofs.Lasting.{call_keeps, lets_left, lets_put}
use Rattle.cat_ledger.proofs.Made.{room_left, untouched, written}
use Rattle.cat_ledger_laws.proofs.lines.JoinedCalls.{puts_make}
use Rattle.cat_ledger_laws.specs.lines.LineLaws.{Puts}
use Rattle.cat_ledger_laws.specs.model.Replies.{IsLeft}
use Rattle.cat_model.specs.Item.{IsItem}
use Rattle.cat_model.specs.Limits.{buffer_limit, last_number}
use Rattle.cat_model.specs.Write.{Write}
use Rattle.cat_ledger.proofs.Histories.{call_goes, goes_so, nothing_goes_on}
use Rattle.cat_ledger.proofs.Taken.{takes_put}
use Rattle.cat_ledger_laws.proofs.model.Taking.{takes_left}
use Rattle.cat_ledger.proofs.Refused.{goes_on, nothing_ends}
use Rattle.cat_ledger.specs.Ledgers.{shape_in}
use Rattle.cat_ledger.specs.Refusals.{KeepsMerge}
use Rattle.cat_ledger_state.specs.Cores.{MayNotFlush}
use Rattle.std.specs.Prelude.{length, ◌⊎◌}
use Rattle.cat_ledger.proofs.ledger.Ledger.put.Goals as goal

none_left : (n : ℕ) → n < last_number → last_number ≤ n → ⊥
none_left n few many = omega (arith, few, many)

pub invariant_of-self : goal.invariant_of-self
invariant_of-self g c =
    call_keeps g.D.Holder.bytes g.D.Holder.may_leave g.met.D.Holder.may_stay IsLeft lets_left c.self.inside.device c.make_room.new.device
    c.self.inside.core c.make_room.new.core c.in-Err-make_room.ensures.err (λ q old apart. c.make_room.ensures.crash q old) c.self.invariant

pub invariant_of-self-2 : goal.invariant_of-self-2
invariant_of-self-2 g c =
    let told = g.D.Holder.bytes c.self.inside.device in
    let told' = g.D.Holder.bytes c.make_room.new.device in
    call_keeps g.D.Holder.bytes g.D.Holder.may_leave g.met.D.Holder.may_stay (Puts c.args.item) (lets_put c.args.item) c.self.inside.device
    c.make_room.new.device c.self.inside.core c.put.new.self
    (puts_make told told' told' c.self.inside.core c.make_room.new.core c.put.new.self c.args.item c.in_default-make_room.ensures.ok
    (written told' c.make_room.new.core c.put.new.self (Write.put c.args.item) c.in_default-put.ensures.ok
    (subst (λ n. n < last_number) (sym c.in_default-make_room.ensures.count) c.in_default.ensures.left)
    (subst (λ f. IsItem f c.args.item) (sym c.in_default-make_room.ensures.schema) c.in_default.ensures.item)))
    (λ q old apart. c.make_room.ensures.crash q old) c.self.invariant

pub returns-clause-ok : goal.returns-clause-ok
returns-clause-ok g c =
    let told = g.D.Holder.bytes c.self.inside.device in
    let told' = g.D.Holder.bytes c.make_room.new.device in
    rw (← c.self.view_is) (puts_make told told' told' c.self.inside.core c.make_room.new.core c.put.new.self c.args.item c.in_default-make_room.ensures.ok
    (written told' c.make_room.new.core c.put.new.self (Write.put c.args.item) c.in_default-put.ensures.ok
    (subst (λ n. n < last_number) (sym c.in_default-make_room.ensures.count) c.in_default.ensures.left)
    (subst (λ f. IsItem f c.args.item) (sym c.in_default-make_room.ensures.schema) c.in_default.ensures.item)))

pub invariant_of-self-in-Err-put : goal.invariant_of-self-in-Err-put
invariant_of-self-in-Err-put g c =
    call_keeps g.D.Holder.bytes g.D.Holder.may_leave g.met.D.Holder.may_stay IsLeft lets_left c.self.inside.device c.make_room.new.device
    c.self.inside.core c.put.new.self
    (room_left (g.D.Holder.bytes c.self.inside.device) (g.D.Holder.bytes c.make_room.new.device) c.self.inside.core c.make_room.new.core
    c.put.new.self c.in_default-make_room.ensures.ok c.in-Err-put.ensures.err)
    (λ q old apart. c.make_room.ensures.crash q old) c.self.invariant

pub returns-clause-fails : goal.returns-clause-fails
returns-clause-fails g c = rw (← c.self.view_is) (fails_as _ _ (λ P no. no) c.in_default-make_room.ensures.fails)

pub returns-clause-goes : goal.returns-clause-goes
returns-clause-goes g c =
    let told = g.D.Holder.bytes c.self.inside.device in
    let told' = g.D.Holder.bytes c.make_room.new.device in
    rw (← c.self.view_is) (goes_so g.D.Holder.bytes g.D.Holder.may_leave (call_goes g.D.Holder.bytes g.D.Holder.may_leave (Puts c.args.item) (lets_put c.args.item) (takes_put c.args.item) c.self.inside.device c.make_room.new.device c.self.inside.core c.put.new.self
    c.self.inside.policy c.self.inside.policy (puts_make told told' told' c.self.inside.core c.make_room.new.core c.put.new.self c.args.item c.in_default-make_room.ensures.ok
    (written told' c.make_room.new.core c.put.new.self (Write.put c.args.item) c.in_default-put.ensures.ok
    (subst (λ n. n < last_number) (sym c.in_default-make_room.ensures.count) c.in_default.ensures.left)
    (subst (λ f. IsItem f c.args.item) (sym c.in_default-make_room.ensures.schema) c.in_default.ensures.item))) c.self.invariant.carried (λ q old apart. c.make_room.ensures.crash q old) c.make_room.ensures.commits))

-- what the buffer asks for

pub put-requires : goal.put-requires
put-requires g c = record {
  item = subst (λ f. IsItem f c.args.item) (sym c.in_default-make_room.ensures.schema) c.in_default.ensures.item;
  space = c.in_default-make_room.ensures.space;
  left = subst (λ n. n < last_number) (sym c.in_default-make_room.ensures.count) c.in_default.ensures.left;
}

-- These returns are answered whole: a body that does something else is refused at the first clause that it breaks.

-- the item is of another schema, or no number is left

judged : (e : Refusal) → (e ≡ Kind) ⊎ (e ≡ Spent) → (e ≡ Memory) ⊎ (e ≡ Device) → ⊥
judged e (inl kind) (inl memory) = cc
judged e (inl kind) (inr device) = cc
judged e (inr spent) (inl memory) = cc
judged e (inr spent) (inr device) = cc

pub returns-in-Err : goal.returns-in-Err
returns-in-Err g c =
    let l = c.args.self.now in
    let never = judged c.in-Err.refusal c.in-Err.ensures.refusal in
    record {
      number = tt;
      item = tt;
      left = tt;
      ok = tt;
      kind = rw (← c.self.view_is) (λ is. (c.in-Err.ensures.kind is, refl));
      fitting = rw (← c.self.view_is) c.in-Err.ensures.fitting;
      full = rw (← c.self.view_is) (λ item none. (
        elim c.in-Err.ensures.refusal [ inl kind ↦ absurd (c.in-Err.ensures.kind kind item) | inr spent ↦ ap Err spent ],
        refl,
      ));
      spent = rw (← c.self.view_is) (λ is. inl (c.in-Err.ensures.spent is));
      due = λ is. absurd (never is);
      room = λ is full may. never is;
      err = untouched (g.D.Holder.bytes l.device) l.core;
      stays = nothing_ends l.core;
      crash = λ q old apart e might. might;
      refusal = elim c.in-Err.ensures.refusal [ inl kind ↦ inl kind | inr spent ↦ inr (inr (inr spent)) ];
      fails = none_fails l.device (Err c.in-Err.refusal) (λ is. never (inr is));
      goes = nothing_goes_on g.D.Holder.bytes g.D.Holder.may_leave l;
    }

-- no room was made
pub returns-in-Err-make_room : goal.returns-in-Err-make_room
returns-in-Err-make_room g c =
    let fits = subst (λ l. IsItem (shape_in l).schema c.args.item) c.self.view_is c.in_default.ensures.item in
    let few = subst (λ l. (shape_in l).count < last_number) c.self.view_is c.in_default.ensures.left in
    record {
      number = tt;
      item = tt;
      left = tt;
      ok = tt;
      kind = λ is. absurd (none_is_kind c.in-Err-make_room.refusal c.in-Err-make_room.ensures.refusal is);
      fitting = λ _. fits;
      full = λ _ none. absurd (none_left (shape_in c.args.self.now).count few none);
      spent = λ is.
          subst (λ l. (last_number ≤ (shape_in l).count) ⊎ ((buffer_limit ≤ length (shape_in l).buffered) × MayNotFlush (shape_in l)))
          c.self.view_is (inr (c.in-Err-make_room.ensures.spent is));
      due = λ _. (fits, few);
      room = λ is full. subst (λ l. MayNotFlush (shape_in l) → ⊥) c.self.view_is (c.in-Err-make_room.ensures.due is);
      err = rw (← c.self.view_is) c.in-Err-make_room.ensures.err;
      stays = subst (λ l. KeepsMerge (shape_in l) c.make_room.new.core) c.self.view_is
          (goes_on c.self.inside.core c.make_room.new.core c.make_room.new.core c.make_room.ensures.merging
          c.make_room.ensures.known refl);
      crash = rw (← c.self.view_is) (λ q old apart. c.make_room.ensures.crash q old);
      refusal = inr c.in-Err-make_room.ensures.refusal;
      fails = rw (← c.self.view_is) (fails_as _ _ (λ P no. no) c.in-Err-make_room.ensures.fails);
      goes = rw (← c.self.view_is) (goes_so g.D.Holder.bytes g.D.Holder.may_leave (call_goes g.D.Holder.bytes g.D.Holder.may_leave IsLeft
          lets_left takes_left c.self.inside.device c.make_room.new.device c.self.inside.core c.make_room.new.core c.self.inside.policy
          c.self.inside.policy c.in-Err-make_room.ensures.err c.self.invariant.carried (λ q old apart. c.make_room.ensures.crash q old)
          c.make_room.ensures.commits));
    }

-- room was made, and the item doesn't come into the buffer
pub returns-in-Err-put : goal.returns-in-Err-put
returns-in-Err-put g c =
    let fits = subst (λ l. IsItem (shape_in l).schema c.args.item) c.self.view_is c.in_default.ensures.item in
    let few = subst (λ l. (shape_in l).count < last_number) c.self.view_is c.in_default.ensures.left in
    let left = room_left (g.D.Holder.bytes c.self.inside.device) (g.D.Holder.bytes c.make_room.new.device) c.self.inside.core c.make_room.new.core
    c.put.new.self c.in_default-make_room.ensures.ok c.in-Err-put.ensures.err in
    record {
      number = tt;
      item = tt;
      left = tt;
      ok = tt;
      kind = λ is. cc is;
      fitting = λ _. fits;
      full = λ _ none. absurd (none_left (shape_in c.args.self.now).count few none);
      spent = λ is. cc is;
      due = λ _. (fits, few);
      room = λ is.
          subst (λ l. buffer_limit ≤ length (shape_in l).buffered → MayNotFlush (shape_in l) → ⊥) c.self.view_is c.in_default-make_room.ensures.may;
      err = rw (← c.self.view_is) left;
      stays = subst (λ l. KeepsMerge (shape_in l) c.put.new.self) c.self.view_is
          (goes_on c.self.inside.core c.make_room.new.core c.put.new.self c.make_room.ensures.merging
          c.make_room.ensures.known c.in-Err-put.ensures.err);
      crash = rw (← c.self.view_is) (λ q old apart. c.make_room.ensures.crash q old);
      refusal = inr (inl refl);
      fails = rw (← c.self.view_is) (quiet_fails (Err Memory) (λ is. absurd (memory_is_none is)) c.in_default-make_room.ensures.quiet
          c.make_room.ensures.fails.can);
      goes = rw (← c.self.view_is) (goes_so g.D.Holder.bytes g.D.Holder.may_leave (call_goes g.D.Holder.bytes g.D.Holder.may_leave IsLeft
          lets_left takes_left c.self.inside.device c.make_room.new.device c.self.inside.core c.put.new.self c.self.inside.policy
          c.self.inside.policy left c.self.invariant.carried (λ q old apart. c.make_room.ensures.crash q old) c.make_room.ensures.commits));
    }

-- the item is put

pub returns-clause-item : goal.returns-clause-item
returns-clause-item g c =
    subst (λ l. IsItem (shape_in l).schema c.args.item) c.self.view_is c.in_default.ensures.item

pub returns-clause-left : goal.returns-clause-left
returns-clause-left g c =
    subst (λ l. (shape_in l).count < last_number) c.self.view_is c.in_default.ensures.left

pub returns-clause-full : goal.returns-clause-full
returns-clause-full g c = λ _ none.
    absurd (none_left (shape_in c.args.self.now).count
    (subst (λ l. (shape_in l).count < last_number) c.self.view_is c.in_default.ensures.left) none)

pub returns-clause-crash : goal.returns-clause-crash
returns-clause-crash g c = rw (← c.self.view_is) (λ q old apart. c.make_room.ensures.crash q old)
