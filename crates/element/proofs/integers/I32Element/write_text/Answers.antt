use Rattle.std.proofs.Common.{to_z-of_z, rules}
use Rattle.element.proofs.Digits.{put_sign, text_negative}
use Rattle.element.proofs.integers.I32Element.write_text.Goals as goal

pub returns-then-self-lt0 : goal.returns-then-self-lt0
returns-then-self-lt0 c =
    let f = c.ranges.self in
    let value = simp to_z-of_z at c.unsigned_abs.ensures.value in
    let negative = simp to_z-of_z at c.if-self-lt0.true in
    search (rules, put_sign, text_negative)
