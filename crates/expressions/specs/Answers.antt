-- What a row answers once its indices are sought.
use Rattle.std.specs.Prelude.{Ok, Err, Result}
use Rattle.fault.specs.declared.causes.Cause.TheVariants.{Index}
use Rattle.fault.specs.declared.faults.Fault.{Fault}
use Rattle.picks.specs.declared.indices.Outside.{Outside}
use Rattle.meaning.specs.declared.layouts.Layout.{Layout}
use Rattle.meaning.specs.declared.places.Place.{Place}
use Rattle.meaning.specs.Works.{fault_at}

-- the layout of what was picked or stored into; or the row's fault, at the index that names no element
abbrev pub answered : Place → Layout → Result (Unit {0}) Outside → Result Layout Fault
answered p f (Ok z) = Ok f
answered p f (Err o) = Err (fault_at p Index o.place)
