use Rattle.std.proofs.Common.{◌≡◌, drop}
use Rattle.element.specs.Cells.{cells}
use Rattle.elementwise.specs.Products.{summed, dot, strided}
use Rattle.elementwise.proofs.products.inner.Given as goal

-- what is left, added to the sum so far, is the whole
abbrev pub invariant-loop-k : goal.invariant-loop-k
invariant-loop-k l =
    summed l.sum (drop l.k (cells l.source l.a l.n)) (drop l.k (strided l.source l.b l.stride l.n)) ≡ dot (cells l.source l.a l.n) (strided l.source l.b l.stride l.n)
