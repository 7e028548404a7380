-- What is said of a head and rows is said of the draft that they are read from.
use Rattle.std.proofs.Common.{◌≡◌, ℕ, List, subst}
use Rattle.types.specs.declared.typing.Typing.{Typing}
use Rattle.sheet.specs.declared.draft.Draft.{Draft}
use Rattle.sheet.specs.declared.head.Head.{Head}
use Rattle.sheet.specs.declared.row.Row.{Row}
use Rattle.sheet.specs.Rooms.{rows_of}

pub of_draft : (P : ℕ → Typing → List Row → Type 0) (d : Draft) (h : Head) (rows : List Row) → h ≡ d.head → rows ≡ rows_of d → P h.width h.result rows → P d.head.width d.head.result (rows_of d)
of_draft P d h rows eh er p =
    let near = subst (λ (xs : List Row). P h.width h.result xs) er p in
    subst (λ (k : Head). P k.width k.result (rows_of d)) eh near
