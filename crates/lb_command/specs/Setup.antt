-- Reading lines of a setup file.
use Rattle.std.specs.Prelude.{if◌then◌else◌, ℕ, Bool, Result, Ok, List, bytes_eq, codes}
use Rattle.lb_masks.specs.Number.{number_up_to}
use Rattle.lb_command.specs.Line.{Left, first_of, whole}
use Rattle.lb_command.specs.Reading.{◌>>=◌, due, ended, taken, within}
use Rattle.lb_command.specs.Values.{addr_of, port_of, protocol_of}
use Rattle.lb_command.specs.Commands.{command_at}
use Rattle.lb_command.specs.declared.fault.CommandFault.{CommandFault}
use Rattle.lb_command.specs.declared.fault.FaultKind.TheVariants as kinds
use Rattle.lb_command.specs.declared.setup.SetupLine.{SetupLine}
use Rattle.lb_command.specs.declared.setup.SetupLine.TheVariants.{Listen, Log, Edit}

-- udp|tcp|doh|console ADDR PORT
unfoldable pub listen_at : Left → Result (SetupLine × Left) CommandFault
listen_at left = do
  protocol ← due kinds.UnknownWord protocol_of left
  addr ← due kinds.BadAddress addr_of protocol.1
  port ← due kinds.BadNumber port_of addr.1
  Ok (Listen (record { protocol = protocol.0; addr = addr.0; port = port.0 }), port.1)

-- N
unfoldable pub log_at : Left → Result (SetupLine × Left) CommandFault
log_at left = do
  number ← due kinds.BadNumber (number_up_to 10 1000000) left
  Ok (Log number.0, number.1)

-- COMMAND
unfoldable pub edit_line_at : Left → Result (SetupLine × Left) CommandFault
edit_line_at left = do
  command ← command_at left
  Ok (Edit command.0, command.1)

-- a line that listens, one that states the log's length, and else a command
unfoldable pub setup_at : Left → Result (SetupLine × Left) CommandFault
setup_at left =
    if (taken (codes "listen") left).0 then listen_at (taken (codes "listen") left).1
    else (if (taken (codes "log") left).0 then log_at (taken (codes "log") left).1 else edit_line_at left)

-- the first word of a line is `listen`
abbrev pub begins_listen : List ℕ → Bool
begins_listen line = bytes_eq (first_of (whole line)).text (codes "listen")

-- all of a line
unfoldable pub setup_whole : Left → Result SetupLine CommandFault
setup_whole left = do
  line ← setup_at left
  end ← ended line.1
  Ok line.0

abbrev pub setup_of : List ℕ → Result SetupLine CommandFault
setup_of line = within line (setup_whole (whole line))
