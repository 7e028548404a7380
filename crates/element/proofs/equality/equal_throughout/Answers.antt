use Rattle.std.proofs.Common.{◌∙◌, rules, tests}
use Rattle.std.proofs.lemmas.Iterator.{YieldsList-from_slice}
use Rattle.std.proofs.lemmas.Iterator.Search.{all_from_yields_List}
use Rattle.element.proofs.Comparing.{all_one}
use Rattle.element.proofs.Writes.{part_cells, length_cells}
use Rattle.element.proofs.equality.equal_throughout.Goals as goal

pub returns : goal.returns
returns g c =
    let a = c.args in
    let cells = YieldsList-from_slice _ (c.iter.ensures.rest ∙ part_cells a.table.now a.at a.n) in
    rw (all_from_yields_List (λ x. g.E.PartialEq.eq x a.value) _ _ _ c.all.ensures.ran cells (λ x b q k. search (rules, tests)))
    (all_one g.met.E.Element.same a.value _ a.n (length_cells a.table.now a.at a.n c.requires.within))
