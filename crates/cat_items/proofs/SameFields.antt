-- Fields are the same exactly where they are one.
use Rattle.std.proofs.Common.{◌≡◌, Bool, true, ◌&&◌, refl, sym, ap, ◌∙◌}
use Rattle.std.specs.Prelude.{nat_eq}
use Rattle.std.specs.Cmp.Lexicographic.{pointwise, pointwise_decides, bytes_decides}
use Rattle.std.proofs.lemmas.Bool.{and_parts}
use Rattle.cat_model.specs.Item.{Field, Kind, Schema}
use Rattle.cat_model.specs.Layout.{kind_byte}
use Rattle.cat_items.specs.Kinds.{same_field, same_fields}

-- a kind has a byte of its own
one_kind : (a b : Kind) → nat_eq (kind_byte a) (kind_byte b) ≡ true → a ≡ b
one_kind Kind.text Kind.text e = refl
one_kind Kind.text Kind.keyword e = absurd (cc)
one_kind Kind.text Kind.number e = absurd (cc)
one_kind Kind.text Kind.facet e = absurd (cc)
one_kind Kind.keyword Kind.text e = absurd (cc)
one_kind Kind.keyword Kind.keyword e = refl
one_kind Kind.keyword Kind.number e = absurd (cc)
one_kind Kind.keyword Kind.facet e = absurd (cc)
one_kind Kind.number Kind.text e = absurd (cc)
one_kind Kind.number Kind.keyword e = absurd (cc)
one_kind Kind.number Kind.number e = refl
one_kind Kind.number Kind.facet e = absurd (cc)
one_kind Kind.facet Kind.text e = absurd (cc)
one_kind Kind.facet Kind.keyword e = absurd (cc)
one_kind Kind.facet Kind.number e = absurd (cc)
one_kind Kind.facet Kind.facet e = refl

itself : (k : Kind) → nat_eq (kind_byte k) (kind_byte k) ≡ true
itself Kind.text = refl
itself Kind.keyword = refl
itself Kind.number = refl
itself Kind.facet = refl

both : (a b : Bool) → a ≡ true → b ≡ true → (a && b) ≡ true
both a b p q = λ i. p i && q i

one_field : (f g : Field) → same_field f g ≡ true → f ≡ g
one_field f g e =
    let h = and_parts (pointwise nat_eq f.name g.name) (nat_eq (kind_byte f.kind) (kind_byte g.kind)) e in
    let name : f.name ≡ g.name = (bytes_decides f.name g.name).0 h.0 in
    let kind : f.kind ≡ g.kind = one_kind f.kind g.kind h.1 in
    λ i. record { name = name i; kind = kind i }

own_field : (f g : Field) → f ≡ g → same_field f g ≡ true
own_field f g e = ap (λ h. same_field f h) (sym e) ∙ both (pointwise nat_eq f.name f.name) (nat_eq (kind_byte f.kind) (kind_byte f.kind)) ((bytes_decides f.name f.name).1 refl) (itself f.kind)

pub same_fields_decides : (a b : Schema) → (same_fields a b ≡ true → a ≡ b) × (a ≡ b → same_fields a b ≡ true)
same_fields_decides = pointwise_decides (λ f g. (one_field f g, own_field f g))
