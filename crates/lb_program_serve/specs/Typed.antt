-- A line as a console's client types it.
use Rattle.std.specs.Prelude.{ℕ, ◌+◌}
use Rattle.lb_command.specs.Reading.{max_line}

-- the most bytes of a line that are held: those of the longest line, and a carriage return after it
abbrev pub longest_held : ℕ
longest_held = max_line + 1
