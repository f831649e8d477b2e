-- Words that are typed for values.
use Rattle.std.specs.Prelude.{◌≡◌, ◌<◌, ◌-◌, ◌⊎◌, ℕ, true, false, Option, Some, List, [], ◌∷◌, ◌++◌, length, slice_index}
use Rattle.std.specs.List.{list_all}
use Rattle.lb_name.specs.Text.{is_dot}
use Rattle.lb_wire.specs.Numbers.{rcode_number}
use Rattle.lb_wire.specs.declared.rcode.Rcode.{Rcode}
use Rattle.lb_command.specs.Line.{is_word_byte}

-- bytes that are one word of a line
pub record IsWord (text : List ℕ) : Type 0 where
  pub some : 0 < length text
  pub each : list_all is_word_byte text ≡ true

-- a word that says this value
pub record Types {A : Type 0} (value : List ℕ → Option A) (x : A) (text : List ℕ) : Type 0 where
  pub is_word : IsWord text
  pub says : value text ≡ Some x

-- a response code that can be typed: one of the first six
abbrev pub IsTypedCode : Rcode → Type 0
IsTypedCode rcode = rcode_number rcode < 6

-- the text of a name, without the dot at its end
pub record IsShort (front text : List ℕ) : Type 0 where
  pub whole : text ≡ front ++ 46 ∷ []
  pub some : 0 < length front
  pub last : is_dot (slice_index front (length front - 1)) ≡ false

-- the same, or the whole text
abbrev pub IsShortened : List ℕ → List ℕ → Type 0
IsShortened short text = (short ≡ text) ⊎ IsShort short text
