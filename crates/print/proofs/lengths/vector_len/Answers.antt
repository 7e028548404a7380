use Rattle.std.proofs.Common.{◌≡◌, ◌*◌, ◌≤◌, length, arith, rules, tests}
use Rattle.std.specs.List.{sum_by}
use Rattle.std.proofs.lemmas.Iterator.{YieldsList-from_slice, YieldsList-from_map}
use Rattle.std.proofs.lemmas.Iterator.Consumers.{sum_by_from_yields_List, fits_by_from_yields_list}
use Rattle.element.specs.Cells.{cells}
use Rattle.element.proofs.Writes.{part_cells, length_cells}
use Rattle.print.proofs.Spaces.{length_vector, short_texts}
use Rattle.print.proofs.lengths.vector_len.Given.{Over}
use Rattle.print.proofs.lengths.vector_len.Goals as goal

pub sum-texts-requires-clause-fits : goal.sum-texts-requires-clause-fits
sum-texts-requires-clause-fits g c =
    let a = c.args in
    let e = g.met.E.Element in
    let h = λ (x : g.row.E.Denot). length (g.E.Element.text x) in
    let part = part_cells a.table.now a.at a.n in
    let short = short_texts g.E.Element.text g.E.Element.LONGEST e.narrow e.brief a.table.now a.at a.n c.requires.within in
    fits_by_from_yields_list h (cells a.table.now a.at a.n) c.map.result _
    (YieldsList-from_map _ h (YieldsList-from_slice _ (cc)) c.map.ensures.closure (λ x r q k. search (rules, tests)))
    (omega arith)

-- what the texts take together
texts : (g : Over) (c : goal.After-saturating_sub g) → (c.sum-texts.result ≡ sum_by (λ x. length (g.E.Element.text x)) (cells c.args.table.now c.args.at c.args.n)) × (c.sum-texts.result ≤ c.args.n * 255)
texts g c =
    let a = c.args in
    let e = g.met.E.Element in
    let h = λ (x : g.row.E.Denot). length (g.E.Element.text x) in
    let part = part_cells a.table.now a.at a.n in
    let short = short_texts g.E.Element.text g.E.Element.LONGEST e.narrow e.brief a.table.now a.at a.n c.requires.within in
    let sum = sum_by_from_yields_List h (cells a.table.now a.at a.n) c.map.result c.sum-texts.result c.sum-texts.ensures.ran
    (YieldsList-from_map _ h (YieldsList-from_slice _ (cc)) c.map.ensures.closure (λ x r q k. search (rules, tests))) in
    (sum, omega arith)

pub overflow_add-result-2 : goal.overflow_add-result-2
overflow_add-result-2 g c = let t = texts g c in search rules

pub returns : goal.returns
returns g c =
    let a = c.args in
    let t = texts g c in
    record { value = omega (arith, length_vector g.E.Element.text (cells a.table.now a.at a.n), length_cells a.table.now a.at a.n c.requires.within); small = omega arith }
