use Rattle.std.proofs.Common.{ap, ◌∙◌, refl, w32, arith}
use Rattle.std.proofs.lemmas.Int.{to_z-of_z}
use Rattle.picks.specs.Indices.{inside, place_among}
use Rattle.picks.specs.Picks.{told}
use Rattle.picks.proofs.Indexing.{outside_here, placed_none}
use Rattle.picks.proofs.listed.Listed.check.Goals as goal

pub returns-then-is_none : goal.returns-then-is_none
returns-then-is_none g c =
    let a = c.args in
    let e = c.place_among.ensures ∙ ap (place_among a.n) (to_z-of_z w32 c.at.result (record { sfits = c.at.type_inv })) in
    ap told (outside_here a.before a.n a.self.now c.loop-k.k c.at.result (inside a.n c.at.result) (omega arith) c.at.ensures refl (placed_none a.n c.at.result c.place_among.result e c.if-is_none.ensures) c.loop-k.invariant)
