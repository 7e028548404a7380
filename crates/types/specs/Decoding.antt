-- What decoding a number answers: the one value that has it, or the number itself where none has.
use Rattle.std.specs.Prelude.{◌≡◌, ◌≢◌, ℕ, Option, Result, IfErr, MatchResult}
use Rattle.std.specs.Result.{result_ok}
use Rattle.types.specs.declared.unknown.UnknownNumber.{UnknownNumber}

pub record Decodes {T : Type 0} (number : T → ℕ) (of : ℕ → Option T) (n : ℕ) (r : Result T UnknownNumber) : Type 0 where
  pub value : result_ok r ≡ of n
  pub exact : MatchResult r (λ k. number k ≡ n) (λ e. (k : T) → number k ≢ n)
  pub told : IfErr r (λ e. e.0 ≡ n)
