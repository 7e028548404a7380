-- The orders of integers and the logic of booleans.
use Rattle.std.specs.Prelude.{Bool, cond, not, ◌&&◌, ◌||◌, ℤ, int_le, int_lt}
use Rattle.arithmetic.specs.declared.truths.Order.{Order}
use Rattle.arithmetic.specs.declared.truths.Order.TheVariants.{Less, Greater, AtMost, AtLeast}
use Rattle.arithmetic.specs.declared.truths.Logic.{Logic}
use Rattle.arithmetic.specs.declared.truths.Logic.TheVariants.{And, Or, Xor}

abbrev pub above : ℤ → ℤ → Bool
above x y = int_lt y x

abbrev pub at_least : ℤ → ℤ → Bool
at_least x y = int_le y x

abbrev pub ordered : Order → ℤ → ℤ → Bool
ordered Less x y = int_lt x y
ordered Greater x y = above x y
ordered AtMost x y = int_le x y
ordered AtLeast x y = at_least x y

-- one of the two, and not both
abbrev pub xor : Bool → Bool → Bool
xor x y = cond x (not y) y

abbrev pub decided : Logic → Bool → Bool → Bool
decided And x y = x && y
decided Or x y = x || y
decided Xor x y = xor x y
