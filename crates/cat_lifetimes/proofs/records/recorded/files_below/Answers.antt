use Rattle.std.proofs.Common.{◌++◌, ◌∙◌, map, ap, append-nil, false, not, sym, true}
use Rattle.std.proofs.lemmas.List.{map-append, take_all}
use Rattle.cat_directory.specs.Names.{name_of}
use Rattle.cat_lifetimes.specs.records.Counts.{files_dropped}
use Rattle.cat_lifetimes.proofs.records.Dropped.{names_more}
use Rattle.cat_lifetimes.proofs.records.recorded.files_below.Goals as goal
use Rattle.cat_lifetimes.proofs.records.recorded.files_below.Goals.{then-not-is_kept_from+in_ok-files+in_ok-append, else-not-is_kept_from}

pub loop-each-init : goal.loop-each-init
loop-each-init c = ap (map name_of) c.new-names.ensures.items

pub loop-each-preserved : goal.loop-each-preserved
loop-each-preserved c =
    let t = c.args.token in
    let rs = c.args.recorded.now in
    let each = c.each-item.result in
    let before = map name_of c.loop-each.names.items in
    elim c.if-not-is_kept_from.branch [
      | then-not-is_kept_from+in_ok-files+in_ok-append w ↦
          names_more t rs c.loop-each.each-index each true before _ c.loop-each-test.true c.each-item.is (ap not (sym w.if-not-is_kept_from.true ∙ c.is_kept_from.ensures))
          c.loop-each.invariant
          (ap (λ v. map name_of v.items) w.names-is ∙ ap (map name_of) w.in_ok-append.ensures.items ∙ map-append name_of c.loop-each.names.items w.in_ok-files.files.items
          ∙ ap (λ ns. before ++ ns) w.in_ok-files.ensures.ok)
      | else-not-is_kept_from w ↦
          names_more t rs c.loop-each.each-index each false before _ c.loop-each-test.true c.each-item.is (ap not (sym w.if-not-is_kept_from.false ∙ c.is_kept_from.ensures))
          c.loop-each.invariant (ap (λ v. map name_of v.items) w.names-is ∙ sym (append-nil before))
    ]

pub returns : goal.returns
returns c = record { ok = c.loop-each.invariant ∙ ap (files_dropped c.args.token) (take_all _ _ c.loop-each-test.false) }
