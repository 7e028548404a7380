-- What a read of each kind makes of the bytes that wait, and what waits afterwards.
use Rattle.std.specs.Prelude.{ℕ, List}
use Rattle.types.specs.declared.kinds.Kind.{Kind}
use Rattle.types.specs.declared.kinds.Kind.TheVariants.{Boolean, Character, Integer}
use Rattle.source.specs.declared.state.ReadValue.{ReadValue}
use Rattle.source.specs.Reads.{integer_read, boolean_read, character_read}
use Rattle.source.specs.States.{seen}
use Rattle.source.specs.Waiting.{behind}
use Rattle.source.specs.Words.{rest}
use Rattle.meaning.specs.Values.{Cell, null_of}

abbrev pub reading : (k : Kind) → List ℕ → ReadValue (Cell k)
reading Boolean bs = seen (null_of Boolean) (boolean_read bs)
reading Character bs = seen (null_of Character) (character_read bs)
reading Integer bs = seen (null_of Integer) (integer_read bs)

abbrev pub unread : Kind → List ℕ → List ℕ
unread Boolean bs = rest bs
unread Character bs = behind bs
unread Integer bs = rest bs
