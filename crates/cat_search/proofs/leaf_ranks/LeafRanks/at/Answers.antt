use Rattle.std.proofs.Common.{◌≡◌, ◌∙◌, ◌<◌, length, get_or, None, option_map, sym, ap, arith}
use Rattle.cat_search.specs.Keys.{key_ref_of}
use Rattle.cat_search.specs.Rows.{keys_by}
use Rattle.cat_search.proofs.Ranks.{length-standings, length-keys, keyed-at, key-at, no_key-at}
use Rattle.cat_search.proofs.leaf_ranks.LeafRanks.at.Goals as goal
use Rattle.cat_search.proofs.leaf_ranks.LeafRanks.at.Goals.{in-Some, in-None}

pub key_at-key-requires : goal.key_at-key-requires
key_at-key-requires c =
    let rows = c.self.inside.segment.now.rows in
    let keys = keys_by c.self.inside.column (length rows) in
    let long = length-standings c.self.inside.order keys rows c.self.invariant in
    let some = ap (λ o. length (keys_by o (length rows))) c.in-Some.is in
    omega (arith, c.requires, ap length c.self.view_is, long, c.self.invariant, some, length-keys c.in-Some.column (length rows))

pub write_number-requires : goal.write_number-requires
write_number-requires c =
    let rows = c.self.inside.segment.now.rows in
    let long = length-standings c.self.inside.order (keys_by c.self.inside.column (length rows)) rows c.self.invariant in
    omega (arith, c.requires, ap length c.self.view_is, long)

pub id_text-requires : goal.id_text-requires
id_text-requires c =
    let rows = c.self.inside.segment.now.rows in
    let long = length-standings c.self.inside.order (keys_by c.self.inside.column (length rows)) rows c.self.invariant in
    omega (arith, c.requires, ap length c.self.view_is, long)

pub returns : goal.returns
returns c = λ d.
    let rows = c.self.inside.segment.now.rows in
    let o = c.self.inside.order in
    let keys = keys_by c.self.inside.column (length rows) in
    let long = length-standings o keys rows c.self.invariant in
    let within : c.args.row < length rows = omega (arith, c.requires, ap length c.self.view_is, long) in
    let key : get_or keys c.args.row None ≡ option_map key_ref_of c.match-self.key =
    elim c.match-self.branch [
      | in-Some w ↦
          let some = ap (λ x. length (keys_by x (length rows))) w.in-Some.is in
          let there : c.args.row < length keys = omega (arith, within, c.self.invariant) in
          ap (λ x. get_or (keys_by x (length rows)) c.args.row None) w.in-Some.is
          ∙ key-at w.in-Some.column (length rows) c.args.row (omega (arith, there, some, length-keys w.in-Some.column (length rows)))
          ∙ sym w.key_at-key.ensures ∙ ap (option_map key_ref_of) (sym w.key-is)
      | in-None w ↦ ap (λ x. get_or (keys_by x (length rows)) c.args.row None) w.in-None.is ∙ no_key-at (length rows) c.args.row ∙ ap (option_map key_ref_of) (sym w.key-is)
    ] in
    (λ j. record { rank = c.rank_with.ensures j; number = c.write_number.result; id = c.id_text.result.now })
    ∙ keyed-at o keys rows c.args.row d (option_map key_ref_of c.match-self.key) c.write_number.result c.id_text.result.now c.self.invariant within key c.write_number.ensures c.id_text.ensures
    ∙ ap (λ ps. get_or ps c.args.row d) c.self.view_is
