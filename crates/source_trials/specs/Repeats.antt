-- The bytes that wait in a source that repeats one byte, and how many there may be.
use Rattle.std.specs.Prelude.{ℕ, ◌≤◌, min, List, length, replicate}
use Rattle.std.proofs.Common.{arith}
use Rattle.std.proofs.lemmas.List.{length-replicate}
use Rattle.source_trials.specs.declared.repeated.Repeated.{Repeated}

abbrev pub repeats : Repeated → List ℕ
repeats r = replicate (min r.left 16777216) r.byte

pub repeats_short : (r : Repeated) → length (repeats r) ≤ 16777216
repeats_short r = omega (arith, length-replicate (min r.left 16777216) r.byte)
