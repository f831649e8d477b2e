-- What ends a run of lines early: its status and its text.
use Rattle.std.specs.Prelude.{ℕ, List, [], ◌++◌, codes, ⊤, Result, Ok, Err, Option, OnOk}
use Rattle.std.specs.Fmt.{decimal}
use Rattle.std.specs.Io.KnownBytes.{Appends}
use Rattle.std.specs.IoError.{error_kind}
use Rattle.std.specs.declared.io.Error.{Error}
use Rattle.std.specs.declared.io.ErrorKind.{ErrorKind}
use Rattle.std.specs.declared.io.ErrorKind.TheVariants.{OutOfMemory}
use Rattle.lb_command.specs.Answers.{refusal_text}
use Rattle.lb_command.specs.Fault.{fault_name, fault_number}
use Rattle.lb_command.specs.declared.fault.CommandFault.{CommandFault}
use Rattle.lb_program.specs.Output.{WritesFront}
use Rattle.lb_program.specs.declared.faults.Stop.{Stop}
use Rattle.lb_program.specs.declared.faults.Stop.TheVariants.{BadLine, Refused, NotUtf8, Input, Output, CountFull, NoMemory}

-- the line that tells of a line that does not read
abbrev pub bad_line_text : ℕ → CommandFault → List ℕ
bad_line_text number fault = codes "line " ++ decimal number ++ codes ": at " ++ decimal fault.place ++ codes ": " ++ decimal (fault_number fault.kind) ++ codes " " ++ fault_name fault.kind ++ codes "\n"

abbrev pub device_text : List ℕ
device_text = codes "device fault\n"

abbrev pub memory_text : List ℕ
memory_text = codes "no memory\n"

-- the line that tells of a device that failed: it may have wanted memory
abbrev pub failure_text : ErrorKind → List ℕ
failure_text OutOfMemory = memory_text
failure_text _ = device_text

-- the line that tells what ended a run of lines early
abbrev pub stop_text : Stop → List ℕ
stop_text (BadLine number fault) = bad_line_text number fault
stop_text (Refused number fault) = codes "line " ++ decimal number ++ codes ": " ++ refusal_text fault ++ codes "\n"
stop_text (NotUtf8 number) = device_text
stop_text (Input error) = failure_text (error_kind error)
stop_text (Output error) = failure_text (error_kind error)
stop_text (CountFull full) = device_text
stop_text NoMemory = memory_text

-- the exit status
abbrev pub stop_status : Stop → ℕ
stop_status (BadLine number fault) = 1
stop_status (Refused number fault) = 1
stop_status (NotUtf8 number) = 3
stop_status (Input error) = 3
stop_status (Output error) = 3
stop_status (CountFull full) = 3
stop_status NoMemory = 3

-- a device failed, a count is full or memory was lacking: what ended the run is no line
abbrev pub IsFailure : Stop → Type 0
IsFailure (BadLine number fault) = ⊥
IsFailure (Refused number fault) = ⊥
IsFailure (NotUtf8 number) = ⊥
IsFailure (Input error) = ⊤
IsFailure (Output error) = ⊤
IsFailure (CountFull full) = ⊤
IsFailure NoMemory = ⊤

-- the output failed
abbrev pub IsOutput : Stop → Type 0
IsOutput (Output error) = ⊤
IsOutput _ = ⊥

-- how a run of lines ends: with its last line, or early
abbrev pub End : Type 0
End = Result (Unit {0}) Stop

-- its exit status
abbrev pub end_status : End → ℕ
end_status (Ok done) = 0
end_status (Err stop) = stop_status stop

-- what is told of it
abbrev pub end_text : End → List ℕ
end_text (Ok done) = []
end_text (Err stop) = stop_text stop

-- what writing to the output gave, as the end of a run
abbrev pub output_end : Result (Unit {0}) Error → End
output_end (Ok done) = Ok done
output_end (Err error) = Err (Output error)

-- the output did not fail
abbrev pub IsOutputWell : End → Type 0
IsOutputWell (Err (Output error)) = ⊥
IsOutputWell _ = ⊤

-- a text is told whole, or the writer for faults failed, to which a front of it was written
pub record Tells (old new : Option (List ℕ)) (text : List ℕ) (told : Result (Unit {0}) Error) : Type 0 where
  pub front : WritesFront old new text
  pub whole : OnOk told (Appends old new text)
