-- The states of the stream by number, in which state a read leaves it, what is seen in each, and a misread in words.
use Rattle.std.specs.Prelude.{ℕ, List, Result, Ok, Err, codes}
use Rattle.std.specs.Result.{result_unwrap_or}
use Rattle.source.specs.declared.state.Misread.{Misread}
use Rattle.source.specs.declared.state.Misread.TheVariants.{BadWord as Unread, Ended as Missing}
use Rattle.source.specs.declared.state.ReadValue.{ReadValue}
use Rattle.source.specs.declared.state.StreamState.{StreamState}
use Rattle.source.specs.declared.state.StreamState.TheVariants.{Good, BadWord, Ended}

abbrev pub state_number : StreamState → ℕ
state_number Good = 0
state_number BadWord = 1
state_number Ended = 2

abbrev pub state_of : {T : Type 0} → Result T Misread → StreamState
state_of (Ok v) = Good
state_of (Err Unread) = BadWord
state_of (Err Missing) = Ended

abbrev pub misread_text : Misread → List ℕ
misread_text Unread = codes "the word writes no such value"
misread_text Missing = codes "no word before the end"

abbrev pub good : {T : Type 0} → T → ReadValue T
good v = record { value = v; state = Good }

abbrev pub bad_word : {T : Type 0} → T → ReadValue T
bad_word null = record { value = null; state = BadWord }

abbrev pub ended : {T : Type 0} → T → ReadValue T
ended null = record { value = null; state = Ended }

-- the null of the kind stands for a value that is not read
abbrev pub seen : {T : Type 0} → T → Result T Misread → ReadValue T
seen null r = record { value = result_unwrap_or r null; state = state_of r }
