-- What tables that have the cells of the row at work reach.
use Rattle.std.proofs.Common.{◌≡◌, ℕ, ◌+◌, ◌*◌, ◌≤◌, length, ap, arith}
use Rattle.meaning.specs.declared.places.Place.{Place}
use Rattle.meaning.specs.States.{Tables}
use Rattle.tables.specs.declared.lent.Shared.{Shared}
use Rattle.tables.specs.declared.lent.Tables.{Tables as Lent}
use Rattle.tables.specs.Lent.{held, seen, Holds, Shows, Reach}

pub reach : {p : Place} (t : Lent) {n : ℕ} → Holds p t → n ≤ p.row * p.width + p.width → Reach n (held t)
reach t m h = record { booleans = omega (arith, m.booleans); characters = omega (arith, m.characters); integers = omega (arith, m.integers) }

pub reach_shared : {p : Place} (t : Shared) {n : ℕ} → Shows p t → n ≤ p.row * p.width + p.width → Reach n (seen t)
reach_shared t m h = record { booleans = omega (arith, m.booleans); characters = omega (arith, m.characters); integers = omega (arith, m.integers) }

-- tables that are shared have the cells that they had
pub shown : {p : Place} (s : Shared) (t : Lent) → seen s ≡ held t → Holds p t → Shows p s
shown s t e m =
    record {
      booleans = omega (arith, ap (λ (u : Tables). length u.booleans) e, m.booleans);
      characters = omega (arith, ap (λ (u : Tables). length u.characters) e, m.characters);
      integers = omega (arith, ap (λ (u : Tables). length u.integers) e, m.integers);
    }
