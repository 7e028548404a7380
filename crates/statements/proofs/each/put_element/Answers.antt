-- An element of an interval lies in no table: it is written as it is counted.
use Rattle.std.proofs.Common.{arith, ℤ, pos, ◌+ℤ◌, sym, ap, ◌∙◌, to_z-of_z, w32, SFits, rules}
use Rattle.picks.specs.declared.indices.Index.{Index}
use Rattle.tables.proofs.Changing.{put_cell}
use Rattle.meaning.specs.States.{tables}
use Rattle.statements.specs.Domains.{with_element}
use Rattle.tables.specs.Lent.{held}
use Rattle.statements.proofs.each.put_element.Goals as goal

pub returns-in-Interval-clause-value : goal.returns-in-Interval-clause-value
returns-in-Interval-clause-value c =
    let a = c.args in
    let t = held a.tables.now in
    let low : SFits w32 c.in-Interval.low = search rules in
    let fits : SFits w32 c.nth_between.result = search rules in
    let same = to_z-of_z {w = w32} fits ∙ c.nth_between.ensures ∙ ap (λ (z : ℤ). z +ℤ pos a.n) (to_z-of_z {w = w32} low) in
    ap (tables a.tables.now.booleans.now a.tables.now.characters.now) (put_cell a.tables.now.integers.now a.to _ _ (omega (arith, c.requires.within.integers)) same) ∙ ap (λ (l : Index). with_element a.kind l a.n a.to t) (sym c.in-Interval.is)
