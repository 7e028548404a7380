-- The numbers of faults, and the fault of a row that an element's fault becomes.
use Rattle.std.specs.Prelude.{ℕ}
use Rattle.arithmetic.specs.Faults.{number_of}
use Rattle.arithmetic.specs.declared.faults.Located.{Located}
use Rattle.fault.specs.declared.causes.Cause.{Cause}
use Rattle.fault.specs.declared.causes.Cause.TheVariants.{Arithmetic, Index, SizesDiffer, Beyond, Disordered, NoRule}
use Rattle.fault.specs.declared.faults.Fault.{Fault}

abbrev pub cause_number : Cause → ℕ
cause_number (Arithmetic f) = number_of f
cause_number Index = 23
cause_number SizesDiffer = 24
cause_number Beyond = 25
cause_number Disordered = 26
cause_number NoRule = 27

-- the element's fault, carried whole
abbrev pub fault_of : Located → Fault
fault_of l = record { row = l.row; line = l.line; element = l.element; cause = Arithmetic l.fault }

-- of the row as a whole
abbrev pub whole_row : ℕ → ℕ → Cause → Fault
whole_row row line cause = record { row = row; line = line; element = 0; cause = cause }

-- an index outside, at a place of its list
abbrev pub index_at : ℕ → ℕ → ℕ → Fault
index_at row line place = record { row = row; line = line; element = place; cause = Index }
