-- A lawful head has numbers of 16 bits, and no other has the same.
use Rattle.std.proofs.Common.{◌≡◌, ℕ, ◌<◌, ◌≤◌, true, Some, None, refl, ap, arith}
use mathlib.Core.HLevel.{is_prop→PathP}
use denote.Struct.Props.{props}
use Rattle.std.proofs.lemmas.Bool.{and_parts, leb-true}
use Rattle.sheet.specs.Heads.{numbers_of}
use Rattle.types.specs.Types.{Size, within, area_within, kind_number, shape_number, size_number, form_number}
use Rattle.types.specs.Typings.{lawful, type_fits}
use Rattle.sheet.specs.declared.head.Head.{Head}
use Rattle.types.specs.declared.kinds.Form.{Form}
use Rattle.types.specs.declared.kinds.Kind.{Kind}
use Rattle.types.specs.declared.kinds.Shape.{Shape}
use Rattle.types.specs.declared.typing.Typing.{Typing}
use Rattle.sheet.proofs.Back.{Small}

-- a size of a lawful head
abbrev Bounded : Size → Type 0
Bounded None = Unit {0}
Bounded (Some n) = n ≤ 1024

from_within : (w : ℕ) (r : Size) → w ≤ 1024 → within w r ≡ true → Bounded r
from_within w None h e = tt
from_within w (Some n) h e = omega (arith, leb-true n w e)

bounded : (w : ℕ) (t : Typing) → w ≤ 1024 → lawful w t ≡ true → Bounded t.r × Bounded t.s
bounded w t h e =
    let p = and_parts (type_fits t.kind t.shape t.r t.s) _ e in
    let q = and_parts (within w t.r) _ p.1 in
    let z = and_parts (within w t.s) (area_within w t.r t.s) q.1 in
    (from_within w t.r h q.0, from_within w t.s h z.0)

size_small : (r : Size) → Bounded r → size_number r < 65536
size_small None h = omega arith
size_small (Some n) h = omega arith

kind_small : (k : Kind) → kind_number k < 65536
kind_small k = grind arith

shape_small : (s : Shape) → shape_number s < 65536
shape_small s = grind arith

form_small : (f : Form) → form_number f < 65536
form_small f = grind arith

kind_same : (a b : Kind) → kind_number a ≡ kind_number b → a ≡ b
kind_same a b e = grind arith

shape_same : (a b : Shape) → shape_number a ≡ shape_number b → a ≡ b
shape_same a b e = grind arith

form_same : (a b : Form) → form_number a ≡ form_number b → a ≡ b
form_same a b e = grind arith

size_same : (a b : Size) → Bounded a → Bounded b → size_number a ≡ size_number b → a ≡ b
size_same None None p q e = refl
size_same None (Some n) p q e = absurd (omega arith)
size_same (Some m) None p q e = absurd (omega arith)
size_same (Some m) (Some n) p q e = ap Some e

sizes : (h : Head) → Bounded h.result.r × Bounded h.result.s
sizes h = bounded h.width h.result h.high h.lawful

pub head_small : (h : Head) → Small (numbers_of h)
head_small h = record { width = omega (arith, h.high); kind = kind_small h.result.kind; shape = shape_small h.result.shape; r = size_small h.result.r (sizes h).0; s = size_small h.result.s (sizes h).1; form = form_small h.form }

pub heads_same : (h g : Head) → numbers_of h ≡ numbers_of g → h ≡ g
heads_same h g e =
    let width : h.width ≡ g.width = ap (λ n. n.width) e in
    let kind : h.result.kind ≡ g.result.kind = kind_same h.result.kind g.result.kind (ap (λ n. n.kind) e) in
    let shape : h.result.shape ≡ g.result.shape = shape_same h.result.shape g.result.shape (ap (λ n. n.shape) e) in
    let r : h.result.r ≡ g.result.r = size_same h.result.r g.result.r (sizes h).0 (sizes g).0 (ap (λ n. n.r) e) in
    let s : h.result.s ≡ g.result.s = size_same h.result.s g.result.s (sizes h).1 (sizes g).1 (ap (λ n. n.s) e) in
    let result : h.result ≡ g.result = λ i. record { kind = kind i; shape = shape i; r = r i; s = s i } in
    let form : h.form ≡ g.form = form_same h.form g.form (ap (λ n. n.form) e) in
    λ i. record {
      width = width i;
      result = result i;
      form = form i;
      low = is_prop→PathP (λ j. 2 ≤ width j) (λ j. hlevel props) h.low g.low i;
      high = is_prop→PathP (λ j. width j ≤ 1024) (λ j. hlevel props) h.high g.high i;
      lawful = is_prop→PathP (λ j. lawful (width j) (result j) ≡ true) (λ j. hlevel props) h.lawful g.lawful i;
    }
