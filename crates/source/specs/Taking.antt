-- Bytes taken from the front of what waits, and the count of them.
use Rattle.std.specs.Prelude.{◌≡◌, ℕ, ◌+◌, ◌-◌, min, List, length, drop}

-- how many bytes a read removed
abbrev pub gone : List ℕ → List ℕ → ℕ
gone before after = length before - length after

-- a count that goes on by k, and stops at 4294967295
abbrev pub counted : ℕ → ℕ → ℕ
counted n k = min (n + k) 4294967295

-- what is removed comes from the front, and each byte of it is counted
pub record Took (before after : List ℕ) (taken taken' : ℕ) : Type 0 where
  pub front : after ≡ drop (gone before after) before
  pub count : taken' ≡ counted taken (gone before after)
