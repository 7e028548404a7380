-- What is known of sizes stays true of them: of sums, of the larger, of a written size or else the value's.
use Rattle.std.proofs.Common.{◌≡◌, ℕ, ◌+◌, max, Bool, true, false, cond, sym, refl, ◌∙◌, arith, None, Some}
use Rattle.std.proofs.lemmas.Bool.{eqb-true}
use Rattle.types.specs.Types.{Size, agree, or_else, plus, larger}
use Rattle.meaning.specs.Expressions.{size_or}
use Rattle.laws.specs.Fitting.{SizeFits}

pub fits_either : (a b : Size) (m n : ℕ) → SizeFits a m → SizeFits b n → m ≡ n → SizeFits (or_else a b) m
fits_either (Some x) b m n p q e = p
fits_either None (Some y) m n p q e = q ∙ sym e
fits_either None None m n p q e = tt

pub fits_plus : (a b : Size) (m n : ℕ) → SizeFits a m → SizeFits b n → SizeFits (plus a b) (m + n)
fits_plus (Some x) (Some y) m n p q = omega arith
fits_plus (Some x) None m n p q = tt
fits_plus None b m n p q = tt

pub fits_larger : (a b : Size) (m n : ℕ) → SizeFits a m → SizeFits b n → SizeFits (larger a b) (max m n)
fits_larger (Some x) (Some y) m n p q = omega arith
fits_larger (Some x) None m n p q = tt
fits_larger None b m n p q = tt

-- a cond on the same test, on both sides
pub fits_cond : (t : Bool) (a b : Size) (m n : ℕ) → SizeFits a m → SizeFits b n → SizeFits (cond t a b) (cond t m n)
fits_cond true a b m n p q = p
fits_cond false a b m n p q = q

-- a written size, or else the value's
pub fits_written : (w a : Size) (m : ℕ) → SizeFits a m → SizeFits (or_else w a) (size_or w m)
fits_written (Some x) a m p = refl
fits_written None a m p = p

pub fits_given : (w : Size) (m : ℕ) → SizeFits w (size_or w m)
fits_given (Some x) m = refl
fits_given None m = tt

-- a size that agrees with a value's is that of the value, where it is known
pub agree_fits : (w : Size) (m : ℕ) → agree w (Some m) ≡ true → SizeFits w m
agree_fits (Some x) m h = eqb-true x m h
agree_fits None m h = tt
