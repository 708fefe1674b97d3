-- The code's reading beside the definition's: the code stops at a byte that spoils a word, so that it has no state for what is no number.
use Rattle.std.specs.Prelude.{Result, Ok, Err}
use Rattle.words.specs.declared.Partial.{Partial}
use Rattle.words.specs.declared.Stage.{Stage}
use Rattle.words.specs.declared.Stage.TheVariants as stage
use Rattle.words.specs.declared.Unread.{Unread}
use Rattle.words.specs.declared.Unread.TheVariants as unread
use Rattle.words.specs.Numbers.{State, Start, Whole, Point, Decimals, NotANumber, TooLong, Reading, reading}

abbrev pub state_of : Stage → State
state_of stage.Start = Start
state_of stage.Whole = Whole
state_of stage.Point = Point
state_of stage.Decimals = Decimals
state_of stage.TooLong = TooLong

abbrev pub reading_of : Partial → Reading
reading_of r = reading r.number r.scale (state_of r.stage)

abbrev pub partly : Reading → Stage → Partial
partly r s = record { number = r.number; scale = r.scale; stage = s }

-- what stands after a byte
abbrev pub going_in : State → Reading → Result Partial Unread
going_in Start r = Ok (partly r stage.Start)
going_in Whole r = Ok (partly r stage.Whole)
going_in Point r = Ok (partly r stage.Point)
going_in Decimals r = Ok (partly r stage.Decimals)
going_in NotANumber r = Err unread.NotANumber
going_in TooLong r = Ok (partly r stage.TooLong)

abbrev pub going_on : Reading → Result Partial Unread
going_on r = going_in r.state r

-- what stands at the end of the word: a number ends in a digit
abbrev pub ended_in : State → Reading → Result Partial Unread
ended_in Start r = Err unread.NotANumber
ended_in Whole r = Ok (partly r stage.Whole)
ended_in Point r = Err unread.NotANumber
ended_in Decimals r = Ok (partly r stage.Decimals)
ended_in NotANumber r = Err unread.NotANumber
ended_in TooLong r = Err unread.TooLong

abbrev pub ended : Reading → Result Partial Unread
ended r = ended_in r.state r
