-- A line as it is read, and what its bytes make it.
use Rattle.std.specs.Prelude.{◌≡◌, ◌⊎◌, ℕ, ◌+◌, ◌-◌, ◌<◌, Bool, true, false, ◌==◌, if◌then◌else◌, List, [], ◌∷◌, ◌++◌, length, slice_index}
use Rattle.std.specs.List.{All}
use Rattle.std.specs.Str.{is_utf8}
use Rattle.lb_command.specs.Reading.{max_line}
use Rattle.lb_program.specs.declared.line.LineKind.{LineKind}
use Rattle.lb_program.specs.declared.line.LineKind.TheVariants.{Blank, Comment, Told}
use Rattle.lb_program.specs.declared.line.Line.{Line}
use Rattle.lb_program.specs.Shown.{is_line_feed}

-- what the bytes of a line make it: blank, with nothing but spaces; a comment, whose first other byte is `#`; or told
abbrev pub kind_of : List ℕ → LineKind
kind_of [] = Blank
kind_of (byte ∷ bytes) = if byte == 32 then kind_of bytes else (if byte == 35 then Comment else Told)

-- what more bytes make of a line
abbrev pub kind_with : LineKind → List ℕ → LineKind
kind_with Blank bytes = kind_of bytes
kind_with Comment bytes = Comment
kind_with Told bytes = Told

-- whether a line of this kind is told
abbrev pub is_told_kind : LineKind → Bool
is_told_kind Blank = false
is_told_kind Comment = false
is_told_kind Told = true

-- no byte of a line was read
abbrev pub IsFresh : Line → Type 0
IsFresh line = (line.bytes.items ≡ []) × (line.kind ≡ Blank) × (line.is_long ≡ false)

-- a line in hand holds no line feed, and unless it is long all that was read of it
pub record IsSound (line : Line) : Type 0 where
  pub no_feed : All (λ byte. is_line_feed byte ≡ false) line.bytes.items
  pub whole : line.is_long ≡ false → line.kind ≡ Blank

-- letting go of the front of a line that is too long: it is text, and went into the line's kind; where no byte is left, it ends with no
-- carriage return. A line that is not too long stays.
abbrev pub Drops : Line → Line → Type 0
Drops old new = (front : List ℕ) × (old.bytes.items ≡ front ++ new.bytes.items) × (new.kind ≡ kind_with old.kind front) × (length new.bytes.items ≡ 0 → slice_index front (length front - 1) ≡ 13 → ⊥) × (new.is_long ≡ true) × (max_line + 1 < length old.bytes.items) × (is_utf8 front ≡ true)

abbrev pub Stays : Line → Line → Type 0
Stays old new = (new.bytes.items ≡ old.bytes.items) × (new.kind ≡ old.kind) × (new.is_long ≡ old.is_long)

abbrev pub Sheds : Line → Line → Type 0
Sheds old new = Stays old new ⊎ Drops old new
