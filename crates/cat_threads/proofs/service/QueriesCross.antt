-- A query, and the rows that match it, may be sent to another thread and shared with one: clauses hold each other, so what holds of
-- one layer of them by what they hold holds of all.
use denote.RattleType.{RattleType}
use denote.Hole.Fix.{holes}
use denote.Hole.FixSend.{Sends, Syncs, fix_send, fix_sync}
use denote.Param.Send.{IsSend, IsSync, sendable}
use denote.Param.SendFields.{as_row_send, as_row_sync, declared_send, declared_sync, variants_send, variants_sync}
use denote.Struct.Field.{row_field}
use Rattle.std.proofs.Crossing.{crosses, Vec-send, Vec-sync}
use Rattle.std.specs.contracts.alloc.Global as Heap
use Rattle.std.specs.contracts.impls.GlobalAllocator.TheImpl.{ghosts}
use Rattle.std.specs.contracts.vec.Vec as Vec
use Rattle.cat_commands.specs.cat_cached_sets.cat_query.contracts.query.Primary as Primary
use Rattle.cat_commands.specs.cat_cached_sets.cat_query.contracts.query.Primary.TheKnot as knot
use Rattle.cat_commands.specs.cat_cached_sets.cat_query.contracts.query.Clause as Clause
use Rattle.cat_commands.specs.cat_cached_sets.cat_query.contracts.query.Query as Query
use Rattle.cat_commands.specs.cat_cached_sets.cat_query.contracts.query.Sign as Sign
use Rattle.cat_commands.specs.cat_cached_sets.cat_query.contracts.query.Test as Test
use Rattle.cat_commands.specs.cat_cached_sets.cat_query.contracts.doc_set.DocSet as DocSet
use Rattle.cat_base.specs.contracts.text.Text as Text

ruleset base = (sendable, crosses)

text_send : IsSend Text.the_row
text_send = search base depth 20

text_sync : IsSync Text.the_row
text_sync = search base depth 20

test_send : IsSend Test.the_row
test_send = search (base, text_send) depth 20

test_sync : IsSync Test.the_row
test_sync = search (base, text_sync) depth 20

sign_send : IsSend Sign.the_row
sign_send = search base depth 20

sign_sync : IsSync Sign.the_row
sign_sync = search base depth 20

-- what a group has
abbrev clauses : RattleType → RattleType
clauses h = Vec.the_row h Heap.the_row ghosts

holes_send : (i : knot.the_members) → IsSend (holes Primary.the_ring i)
holes_send = fix_send Primary.the_ring (Primary.by_members (Sends Primary.the_ring)
    record {
      send = λ h all. variants_send (knot.type-Primary (h knot.member-Clause)) (
        tt,
        (
          (as_row_send (row_field (clauses (h knot.member-Clause))) (Vec-send (h knot.member-Clause) (all knot.member-Clause)), tt),
          ((as_row_send (row_field Text.the_row) text_send, (as_row_send (row_field Test.the_row) test_send, tt)), tt),
        ),
      );
    }
    record {
      send = λ h all. declared_send (knot.type-Clause (h knot.member-Primary))
          (as_row_send (row_field Sign.the_row) sign_send, (as_row_send (row_field (h knot.member-Primary)) (all knot.member-Primary), tt));
    })

holes_sync : (i : knot.the_members) → IsSync (holes Primary.the_ring i)
holes_sync = fix_sync Primary.the_ring (Primary.by_members (Syncs Primary.the_ring)
    record {
      sync = λ h all. variants_sync (knot.type-Primary (h knot.member-Clause)) (
        tt,
        (
          (as_row_sync (row_field (clauses (h knot.member-Clause))) (Vec-sync (h knot.member-Clause) (all knot.member-Clause)), tt),
          ((as_row_sync (row_field Text.the_row) text_sync, (as_row_sync (row_field Test.the_row) test_sync, tt)), tt),
        ),
      );
    }
    record {
      sync = λ h all. declared_sync (knot.type-Clause (h knot.member-Primary))
          (as_row_sync (row_field Sign.the_row) sign_sync, (as_row_sync (row_field (h knot.member-Primary)) (all knot.member-Primary), tt));
    })

primary_send : IsSend Primary.the_row
primary_send = variants_send Primary.enum
    (tt, ((as_row_send (row_field (clauses knot.hole-Clause)) (Vec-send knot.hole-Clause (holes_send knot.member-Clause)), tt), ((text_send, (test_send, tt)), tt)))

primary_sync : IsSync Primary.the_row
primary_sync = variants_sync Primary.enum
    (tt, ((as_row_sync (row_field (clauses knot.hole-Clause)) (Vec-sync knot.hole-Clause (holes_sync knot.member-Clause)), tt), ((text_sync, (test_sync, tt)), tt)))

clause_send : IsSend Clause.the_row
clause_send = declared_send Clause.the_type (sign_send, (primary_send, tt))

clause_sync : IsSync Clause.the_row
clause_sync = declared_sync Clause.the_type (sign_sync, (primary_sync, tt))

pub query_send : IsSend (Query.the_field).row
query_send = search (base, clause_send) depth 20

pub query_sync : IsSync (Query.the_field).row
query_sync = search (base, clause_sync) depth 20

pub set_send : IsSend DocSet.the_row
set_send = search base depth 20

pub set_sync : IsSync DocSet.the_row
set_sync = search base depth 20
