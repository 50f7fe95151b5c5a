use Rattle.std.proofs.Common.{◌≡◌, ℕ, ◌+◌, [], ◌∷◌, ◌++◌, length, sym, ap, ◌∙◌, subst, arith}
use Rattle.std.specs.Prelude.{Err}
use Rattle.crossbeam_utils.specs.Seq.{cell_view}
use Rattle.cat_base.specs.declared.refusal.Refusal.TheVariants.{Memory}
use Rattle.cat_threads.specs.history.Entries.{LogEntry, entry, has_session}
use Rattle.cat_threads.specs.history.Rules.{Sight, noted, scribe}
use Rattle.cat_commands.specs.cat_ledger.Ledgers.{device_in, policy_in, shape_in}
use Rattle.cat_ledger_laws.specs.lines.LineLaws.{tells}
use Rattle.cat_ledger_laws.specs.lines.RefusalLaws.{command_of}
use Rattle.cat_threads.proofs.sharing.Sharing.{counts_share, noted_share, still_share}
use Rattle.cat_threads.specs.service.Passes.{Seen}
use Rattle.cat_threads.specs.service.Writes.{PutsForeign, write_of}
use Rattle.cat_threads.proofs.service.Beside.{by_answer}
use Rattle.cat_threads.proofs.service.Passed.{follows_noted, wrote_noted, has_self}
use Rattle.cat_threads.proofs.service.Granting.{apart_again, apart_noted, refused_still}
use Rattle.cat_threads.proofs.service.Refusing.{fields_share}
use Rattle.cat_threads.proofs.service.Spelled.{caller_apart, caller_behind, scribe_alone, scribe_own}
use Rattle.cat_threads.proofs.service.Telling.{follows_joined, idle_told, noted_apart, noted_token, same_apart, told_apart}
use Rattle.cat_threads.proofs.service.desk.Desk.write_as.Goals as goal

pub join-requires-clause-desk : goal.join-requires-clause-desk
join-requires-clause-desk g c = (c.self.invariant.0 ∙ sym c.requires.cell, scribe_alone (cell_view c.self.inside.scribe) g.J.Naming.sessions c.self.invariant.3.agrees.whole)

pub join-requires-clause-mine : goal.join-requires-clause-mine
join-requires-clause-mine g c = (c.me.invariant.0 ∙ sym c.requires.cell, ap (λ (x : Sight). x.scribe) c.me.invariant.1)

pub note_number-requires-clause-desk : goal.note_number-requires-clause-desk
note_number-requires-clause-desk g c =
    let v = cell_view c.self.inside.scribe in
    let j = c.join.ensures.desk in
    (j.0 ∙ (c.self.invariant.0 ∙ sym c.requires.cell), scribe_own (cell_view c.join.new.desk) v.list v.token v.seated (cell_view c.me.inside.seat).own j.1)

pub note_number-requires-clause-own : goal.note_number-requires-clause-own
note_number-requires-clause-own g c =
    let session = c.args.me.now.session in
    let same : session ≡ c.me.inside.session = sym (ap (λ (x : Seen). x.session) c.me.view_is) in
    ap (λ (e : LogEntry). has_session e.session (cell_view c.join.new.desk).own) c.requires.named
    ∙ (ap (λ (x : Sight). has_session session x.own) c.join.ensures.desk.1
    ∙ (ap (λ (x : Sight). has_session session x.own) c.me.invariant.1
    ∙ (ap (λ (s : ℕ). has_session s (c.me.inside.session ∷ [])) same ∙ has_self c.me.inside.session)))

pub part_into-requires : goal.part_into-requires
part_into-requires g c =
    let v = cell_view c.self.inside.scribe in
    let e = g.W.Noting.entry in
    let j = c.join.ensures.desk in
    let n = c.note_number.ensures in (
      n.0 ∙ (j.0 ∙ (c.self.invariant.0 ∙ sym c.requires.cell)),
      scribe_own (cell_view c.note_number.new.scribe) (v.list ++ e ∷ []) v.token v.seated (cell_view c.me.inside.seat).own (n.1 ∙ ap (λ (x : Sight). noted e x) j.1),
    )

pub part_into-requires-in-Err : goal.part_into-requires-in-Err
part_into-requires-in-Err g c =
    let v = cell_view c.self.inside.scribe in
    let j = c.join.ensures.desk in
    (j.0 ∙ (c.self.invariant.0 ∙ sym c.requires.cell), scribe_own (cell_view c.join.new.desk) v.list v.token v.seated (cell_view c.me.inside.seat).own j.1)

pub invariant_of-me : goal.invariant_of-me
invariant_of-me g c =
    let j = c.join.ensures.desk in
    let n = c.note_number.ensures in
    let p = c.part_into.ensures.mine in (
      p.0 ∙ (n.0 ∙ (j.0 ∙ c.self.invariant.0)),
      caller_behind c.me.inside.session (cell_view c.self.inside.scribe) (cell_view c.join.new.desk) (cell_view c.note_number.new.scribe) (cell_view c.me.inside.seat) (cell_view c.part_into.new.mine) c.me.invariant.1 j.1
          (ap (λ (x : Sight). x.own) n.1) p.1,
    )

pub invariant_of-me-in-Err : goal.invariant_of-me-in-Err
invariant_of-me-in-Err g c =
    let j = c.join.ensures.desk in
    let p = c.part_into-in-Err.ensures.mine in
    (p.0 ∙ (j.0 ∙ c.self.invariant.0), caller_apart c.me.inside.session (cell_view c.self.inside.scribe) (cell_view c.join.new.desk) (cell_view c.me.inside.seat) (cell_view c.part_into-in-Err.new.mine) c.me.invariant.1 j.1 p.1)

pub invariant_of-self : goal.invariant_of-self
invariant_of-self g c =
    let i = c.self.invariant in
    let a = i.3 in
    let j = c.join.ensures.desk in
    let n = c.note_number.ensures in
    let p = c.part_into.ensures.desk in
    let v = cell_view c.self.inside.scribe in
    let w = cell_view c.part_into.new.desk in
    let old = c.self.inside.ledger in
    let new = c.accept.new.ledger in
    let bytes = g.D.Holder.bytes in
    let from = g.J.Naming.from in
    let sessions = g.J.Naming.sessions in
    let session = c.args.me.now.session in
    let write = write_of c.args.write in
    let is : w ≡ scribe (v.list ++ entry session write ∷ []) v.token sessions [] =
    apart_noted v (cell_view c.join.new.desk) (cell_view c.note_number.new.scribe) w sessions (cell_view c.me.inside.seat).own g.W.Noting.entry a.agrees.whole j.1 n.1 p.1
    ∙ ap (λ (e : LogEntry). scribe (v.list ++ e ∷ []) v.token sessions []) c.requires.named in (
      p.0 ∙ (n.0 ∙ (j.0 ∙ i.0)),
      i.1,
      i.2 ∙ ap (λ (k : ℕ). from.start.token + k) (sym (ap (λ (x : Sight). x.token) is)),
      noted_share (policy_in old) (bytes (device_in old)) (bytes (device_in new)) (shape_in old) (shape_in new) from sessions v w session a c.in-Ok.number write
          (c.in-Ok.ensures.answers session) is,
      by_answer bytes c.self.inside.filters old new session (command_of write) (tells c.in-Ok.number) (c.in-Ok.ensures.answers session) i.4,
    )

pub invariant_of-self-in-Err : goal.invariant_of-self-in-Err
invariant_of-self-in-Err g c =
    let i = c.self.invariant in
    let a = i.3 in
    let j = c.join.ensures.desk in
    let p = c.part_into-in-Err.ensures.desk in
    let v = cell_view c.self.inside.scribe in
    let w = cell_view c.part_into-in-Err.new.desk in
    let old = c.self.inside.ledger in
    let new = c.accept.new.ledger in
    let bytes = g.D.Holder.bytes in
    let from = g.J.Naming.from in
    let sessions = g.J.Naming.sessions in
    let session = c.args.me.now.session in
    let write = write_of c.args.write in
    let is : w ≡ scribe v.list v.token sessions [] =
    apart_again v (cell_view c.join.new.desk) w sessions (cell_view c.me.inside.seat).own a.agrees.whole j.1 p.1 in (
      p.0 ∙ (j.0 ∙ i.0),
      i.1,
      i.2 ∙ ap (λ (k : ℕ). from.start.token + k) (sym (ap (λ (x : Sight). x.token) is)),
      still_share (policy_in old) (bytes (device_in old)) (bytes (device_in new)) (shape_in old) (shape_in new) from sessions v w session a (command_of write) (Err Memory)
          (refused_still write) (c.in-Err.ensures.refused session) is,
      by_answer bytes c.self.inside.filters old new session (command_of write) (Err Memory) (c.in-Err.ensures.refused session) i.4,
    )

pub returns-in-Ok-clause-seen : goal.returns-in-Ok-clause-seen
returns-in-Ok-clause-seen g c =
    let j = c.join.ensures in
    let n = c.note_number.ensures in
    let p = c.part_into.ensures.mine in
    follows_noted g.J.Naming.from.start.token c.me.inside.session (cell_view c.me.inside.seat) (cell_view c.join.new.desk) (cell_view c.part_into.new.mine) g.W.Noting.entry c.args.me.now c.me.view_is j.seen
    (ap (λ (v : Sight). v.list) p.1 ∙ ap (λ (v : Sight). v.list) n.1) (ap (λ (v : Sight). v.token) p.1 ∙ ap (λ (v : Sight). v.token) n.1)

pub returns-in-Ok-clause-wrote : goal.returns-in-Ok-clause-wrote
returns-in-Ok-clause-wrote g c =
    let j = c.join.ensures in
    let n = c.note_number.ensures in
    let p = c.part_into.ensures.mine in
    let start = g.J.Naming.from.start.token in
    let session = c.me.inside.session in
    let write = write_of c.args.write in
    let old = c.self.inside.ledger in
    let v = cell_view c.self.inside.scribe in
    let joined = cell_view c.join.new.desk in
    let named : g.W.Noting.entry ≡ entry session write = c.requires.named ∙ ap (λ (s : ℕ). entry s write) (sym (ap (λ (x : Seen). x.session) c.me.view_is)) in
    let counted = counts_share (g.D.Holder.bytes (device_in old)) (shape_in old) g.J.Naming.from g.J.Naming.sessions v c.self.invariant.3 in
    let long : length joined.list ≡ length v.list = ap (λ (x : Sight). length x.list) j.desk.1 in
    let number = c.in-Ok.ensures.number in
    wrote_noted start session c.in-Ok.number write (cell_view c.me.inside.seat) joined (cell_view c.part_into.new.mine) c.args.me.now c.me.view_is j.seen
    (ap (λ (x : Sight). has_session session x.own) c.me.invariant.1 ∙ has_self session)
    (omega arith)
    (ap (λ (x : Sight). x.list) p.1 ∙ ap (λ (x : Sight). x.list) n.1 ∙ ap (λ (e : LogEntry). joined.list ++ e ∷ []) named)

pub returns-in-Err-clause-kind : goal.returns-in-Err-clause-kind
returns-in-Err-clause-kind g c =
    let old = c.self.inside.ledger in
    let same = fields_share (g.D.Holder.bytes (device_in old)) (shape_in old) g.J.Naming.from g.J.Naming.sessions (cell_view c.self.inside.scribe) c.self.invariant.3 in
    λ is. subst (λ s. PutsForeign s (write_of c.args.write)) same (c.in-Err.ensures.kind is)

pub returns-in-Ok-clause-told : goal.returns-in-Ok-clause-told
returns-in-Ok-clause-told g c = told_apart g.J.Naming.from.start.token (cell_view c.note_number.new.scribe) (cell_view c.part_into.new.desk) (cell_view c.part_into.new.mine) c.part_into.ensures.desk.1 c.part_into.ensures.mine.1

pub returns-in-Ok-clause-list : goal.returns-in-Ok-clause-list
returns-in-Ok-clause-list g c =
    let old = c.self.inside.ledger in
    let all = counts_share (g.D.Holder.bytes (device_in old)) (shape_in old) g.J.Naming.from g.J.Naming.sessions (cell_view c.self.inside.scribe) c.self.invariant.3 in
    noted_apart g.J.Naming.from.start.token c.in-Ok.number (shape_in old).count (cell_view c.self.inside.scribe) (cell_view c.join.new.desk) (cell_view c.note_number.new.scribe) (cell_view c.part_into.new.desk) (cell_view c.me.inside.seat).own g.W.Noting.entry c.args.self.now c.self.view_is c.join.ensures.desk.1 c.note_number.ensures.1 c.part_into.ensures.desk.1 c.in-Ok.ensures.number all

pub returns-in-Ok-clause-same : goal.returns-in-Ok-clause-same
returns-in-Ok-clause-same g c = tt

pub returns-in-Ok-clause-token : goal.returns-in-Ok-clause-token
returns-in-Ok-clause-token g c = noted_token g.J.Naming.from.start.token (cell_view c.self.inside.scribe) (cell_view c.join.new.desk) (cell_view c.note_number.new.scribe) (cell_view c.part_into.new.desk) (cell_view c.me.inside.seat).own g.W.Noting.entry c.args.self.now c.self.view_is c.join.ensures.desk.1 c.note_number.ensures.1 c.part_into.ensures.desk.1

pub returns-in-Ok-clause-idle : goal.returns-in-Ok-clause-idle
returns-in-Ok-clause-idle g c = tt

pub returns-in-Ok-clause-kind : goal.returns-in-Ok-clause-kind
returns-in-Ok-clause-kind g c = tt

pub returns-in-Ok-clause-refusal : goal.returns-in-Ok-clause-refusal
returns-in-Ok-clause-refusal g c = tt

pub returns-in-Err-clause-told : goal.returns-in-Err-clause-told
returns-in-Err-clause-told g c = told_apart g.J.Naming.from.start.token (cell_view c.join.new.desk) (cell_view c.part_into-in-Err.new.desk) (cell_view c.part_into-in-Err.new.mine) c.part_into-in-Err.ensures.desk.1 c.part_into-in-Err.ensures.mine.1

pub returns-in-Err-clause-list : goal.returns-in-Err-clause-list
returns-in-Err-clause-list g c = tt

pub returns-in-Err-clause-same : goal.returns-in-Err-clause-same
returns-in-Err-clause-same g c = (same_apart g.J.Naming.from.start.token (cell_view c.self.inside.scribe) (cell_view c.join.new.desk) (cell_view c.part_into-in-Err.new.desk) (cell_view c.me.inside.seat).own c.args.self.now c.self.view_is c.join.ensures.desk.1 c.part_into-in-Err.ensures.desk.1).0

pub returns-in-Err-clause-token : goal.returns-in-Err-clause-token
returns-in-Err-clause-token g c = (same_apart g.J.Naming.from.start.token (cell_view c.self.inside.scribe) (cell_view c.join.new.desk) (cell_view c.part_into-in-Err.new.desk) (cell_view c.me.inside.seat).own c.args.self.now c.self.view_is c.join.ensures.desk.1 c.part_into-in-Err.ensures.desk.1).1

pub returns-in-Err-clause-seen : goal.returns-in-Err-clause-seen
returns-in-Err-clause-seen g c =
    let p = c.part_into-in-Err.ensures.mine.1 in
    follows_joined g.J.Naming.from.start.token c.me.inside.session (cell_view c.me.inside.seat) (cell_view c.join.new.desk) (cell_view c.part_into-in-Err.new.mine) c.args.me.now c.me.view_is c.join.ensures.seen
    (ap (λ (x : Sight). x.list) p) (ap (λ (x : Sight). x.token) p)

pub returns-in-Err-clause-wrote : goal.returns-in-Err-clause-wrote
returns-in-Err-clause-wrote g c = tt

pub returns-in-Err-clause-idle : goal.returns-in-Err-clause-idle
returns-in-Err-clause-idle g c =
    idle_told g.J.Naming.from.start.token c.me.inside.session (cell_view c.me.inside.seat) (cell_view c.join.new.desk) (cell_view c.part_into-in-Err.new.mine) c.args.me.now c.me.view_is c.join.ensures.seen c.me.invariant.1
    (ap (λ (x : Sight). x.list) c.part_into-in-Err.ensures.mine.1)

pub returns-in-Err-clause-refusal : goal.returns-in-Err-clause-refusal
returns-in-Err-clause-refusal g c = c.in-Err.ensures.refusal

pub note_number-requires-clause-number : goal.note_number-requires-clause-number
note_number-requires-clause-number g c =
    let i = c.self.invariant in
    let old = c.self.inside.ledger in
    let v = cell_view c.self.inside.scribe in
    let joined = cell_view c.join.new.desk in
    let all = counts_share (g.D.Holder.bytes (device_in old)) (shape_in old) g.J.Naming.from g.J.Naming.sessions v i.3 in
    let long : length joined.list ≡ length v.list = ap (λ (x : Sight). length x.list) c.join.ensures.desk.1 in
    let start = i.1 in
    let is = c.in-Ok.ensures.number in
    omega arith

pub note_number-requires-clause-newest : goal.note_number-requires-clause-newest
note_number-requires-clause-newest g c =
    let i = c.self.invariant in
    let v = cell_view c.self.inside.scribe in
    let joined = cell_view c.join.new.desk in
    let top : joined.token ≡ v.token = ap (λ (x : Sight). x.token) c.join.ensures.desk.1 in
    let start = i.1 in
    let newest = i.2 in
    omega arith
