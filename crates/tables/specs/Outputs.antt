-- What a row leaves of the output that it prints into.
use Rattle.std.specs.Prelude.{◌≡◌, ℕ, Bool, true, false, List, Some, None, length}
use Rattle.print.specs.Texts.{Printed}
use Rattle.tables.specs.declared.outputs.Output.{Output}

-- it is still the output that was lent, as long as it was
pub record Goes (f g : Output) : Type 0 where
  pub bytes : g.bytes.ghost_name ≡ f.bytes.ghost_name
  pub long : length g.bytes.now ≡ length f.bytes.now

-- the text stands behind what was printed, and is printed; or it does not fit, and all is as it was
abbrev pub Prints : List ℕ → Output → Bool → Output → Type 0
Prints text f true g = Printed text f.bytes.now f.printed (Some g.printed) g.bytes.now
Prints text f false g = Printed text f.bytes.now f.printed None g.bytes.now × (g.printed ≡ f.printed)
