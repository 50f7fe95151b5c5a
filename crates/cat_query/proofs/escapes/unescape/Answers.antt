use Rattle.std.proofs.Common.{◌≡◌, ◌++◌, [], ◌∷◌, ◌∙◌, sym, ap, append_assoc, arith}
use Rattle.std.specs.Prelude.{string_bytes}
use Rattle.std.proofs.lemmas.Grind.{elements}
use Rattle.cat_query.specs.Escapes.{unescaped}
use Rattle.cat_query.proofs.Backslashes.{front, all_plain, with_plain, with_backslash, push_both, utf8_behind, utf8_after}
use Rattle.cat_query.proofs.escapes.unescape.Goals as goal

pub returns-in_default : goal.returns-in_default
returns-in_default c =
    let pushed : string_bytes c.push_str.new.self ≡ string_bytes c.loop-out.out ++ front c.loop-out.rest.now =
    c.in_ok-push_str.ensures.bytes ∙ ap (λ x. string_bytes c.loop-out.out ++ x) c.plain.ensures.front in
    let none = rw c.plain.ensures.behind at c.in_default.ensures in
    c.new.ensures ∙ pushed ∙ ap (λ x. string_bytes c.loop-out.out ++ x) (sym (all_plain c.loop-out.rest.now none)) ∙ c.loop-out.invariant.so

pub loop-out-preserved-in-Some-behind : goal.loop-out-preserved-in-Some-behind
loop-out-preserved-in-Some-behind c =
    let pushed : string_bytes c.push_str.new.self ≡ string_bytes c.loop-out.out ++ front c.loop-out.rest.now =
    c.in_ok-push_str.ensures.bytes ∙ ap (λ x. string_bytes c.loop-out.out ++ x) c.plain.ensures.front in
    let byte = c.in_ok-push_str-2.ensures.bytes ∙ ap (λ x. x ++ 92 ∷ []) pushed in
    let after = utf8_after c.loop-out.rest.now c.plain.result.1.now c.loop-out.invariant.text c.plain.ensures.behind in
    let from = utf8_behind 92 c.in-Some.escaped.now c.plain.result.1.now (omega arith) c.in-Some.ensures after in
    record {
      text = utf8_behind 92 c.in-Some-behind.more.now c.in-Some.escaped.now (omega arith) c.in-Some-behind.ensures from;
      so = ap (λ x. x ++ unescaped c.in-Some-behind.more.now) byte
          ∙ push_both (string_bytes c.loop-out.out) (front c.loop-out.rest.now) (unescaped c.in-Some-behind.more.now)
          ∙ ap (λ x. string_bytes c.loop-out.out ++ x) (sym (with_backslash c.loop-out.rest.now c.in-Some.escaped.now c.in-Some-behind.more.now (sym c.plain.ensures.behind ∙ c.in-Some.ensures) c.in-Some-behind.ensures))
          ∙ c.loop-out.invariant.so;
    }

pub loop-out-preserved : goal.loop-out-preserved
loop-out-preserved c =
    let pushed : string_bytes c.push_str.new.self ≡ string_bytes c.loop-out.out ++ front c.loop-out.rest.now =
    c.in_ok-push_str.ensures.bytes ∙ ap (λ x. string_bytes c.loop-out.out ++ x) c.plain.ensures.front in
    let after = utf8_after c.loop-out.rest.now c.plain.result.1.now c.loop-out.invariant.text c.plain.ensures.behind in
    record {
      text = utf8_behind 92 c.in-Some.escaped.now c.plain.result.1.now (omega arith) c.in-Some.ensures after;
      so = ap (λ x. x ++ unescaped c.in-Some.escaped.now) pushed
          ∙ append_assoc (string_bytes c.loop-out.out) (front c.loop-out.rest.now) (unescaped c.in-Some.escaped.now)
          ∙ ap (λ x. string_bytes c.loop-out.out ++ x) (sym (with_plain c.loop-out.rest.now c.in-Some.escaped.now (sym c.plain.ensures.behind ∙ c.in-Some.ensures) c.in_default-behind.ensures))
          ∙ c.loop-out.invariant.so;
    }

pub loop-out-smaller-in-Some-behind : goal.loop-out-smaller-in-Some-behind
loop-out-smaller-in-Some-behind c = grind (arith, elements)

pub loop-out-smaller : goal.loop-out-smaller
loop-out-smaller c = grind (arith, elements)
