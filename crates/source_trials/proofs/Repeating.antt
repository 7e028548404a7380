-- The first of a repeated byte, and those behind it.
use Rattle.std.proofs.Common.{◌≡◌, ℕ, zero, suc, ◌-◌, ◌<◌, replicate, Some, refl, ap, arith}
use Rattle.source.specs.Waiting.{first, behind}

pub first_repeated : (n b : ℕ) → 0 < n → Some b ≡ first (replicate n b)
first_repeated zero b h = absurd (omega arith)
first_repeated (suc n) b h = refl

pub behind_repeated : (m n b : ℕ) → m ≡ n - 1 → replicate m b ≡ behind (replicate n b)
behind_repeated m zero b e = ap (λ k. replicate k b) e
behind_repeated m (suc n) b e = let same : m ≡ n = omega arith in ap (λ k. replicate k b) same
