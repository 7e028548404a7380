-- What a row asks of its operands and then gives, and the order in which its faults are sought.
use Rattle.std.specs.Prelude.{ℕ, Bool, true, false, ◌&&◌, List, Some, None, Ok, Err, Option, Result, nat_le}
use Rattle.arithmetic.specs.declared.faults.ElementFault.{ElementFault}
use Rattle.fault.specs.declared.causes.Cause.{Cause}
use Rattle.fault.specs.declared.causes.Cause.TheVariants.{Arithmetic, Index, SizesDiffer, Beyond, Disordered, NoRule}
use Rattle.meaning.specs.declared.layouts.Layout.{Layout}
use Rattle.meaning.specs.Values.{Cell, Value, value_of, within}

-- what becomes of a row: a value, or a fault with the element that met it
pub data Outcome : Type 0 where
  gives : Value → Outcome
  faults : Cause → ℕ → Outcome

-- what a row asks, and what it then gives
pub record Plan : Type 0 where
  -- kinds and shapes have a rule: else 27
  pub ruled : Bool
  -- bounds of intervals, and a step, are in order: else 26
  pub ordered : Bool
  -- an interval that stands for a vector has so many elements: more than the width are 25
  pub counted : Option ℕ
  -- of the result: beyond the width is 25
  pub layout : Layout
  -- sizes agree: else 24
  pub agree : Bool
  -- the place of the first index that names no element: 23
  pub outside : Option ℕ
  -- the elements, or the first of them that has none: 20 to 22
  pub elements : Result (List (Cell layout.kind)) ElementFault

abbrev pub unless : Bool → Cause → Outcome → Outcome
unless true c o = o
unless false c o = faults c 0

abbrev pub unless_outside : Option ℕ → Outcome → Outcome
unless_outside None o = o
unless_outside (Some k) o = faults Index k

abbrev pub finished : (f : Layout) → Result (List (Cell f.kind)) ElementFault → Outcome
finished f (Ok xs) = gives (value_of f xs)
finished f (Err e) = faults (Arithmetic e.fault) e.element

abbrev pub count_fits : ℕ → Option ℕ → Bool
count_fits W None = true
count_fits W (Some n) = nat_le n W

-- what is counted, and the result, are within the width
abbrev pub fits : ℕ → Option ℕ → Layout → Bool
fits W counted f = count_fits W counted && within W f.r f.s

-- faults are sought as 27, 26, 25, 24, 23, then 20 to 22 in the order of the elements
abbrev pub outcome : ℕ → Plan → Outcome
outcome W p =
    unless p.ruled NoRule (
    unless p.ordered Disordered (
    unless (fits W p.counted p.layout) Beyond (
    unless p.agree SizesDiffer (
    unless_outside p.outside (
    finished p.layout p.elements)))))

-- a row that only asks for kinds and shapes
abbrev pub simple : Bool → (f : Layout) → Result (List (Cell f.kind)) ElementFault → Plan
simple ruled f xs = record { ruled = ruled; ordered = true; counted = None; layout = f; agree = true; outside = None; elements = xs }

-- a row that finds no value where it needs one has no rule
abbrev pub with : Option Value → (Value → Outcome) → Outcome
with None f = faults NoRule 0
with (Some v) f = f v
