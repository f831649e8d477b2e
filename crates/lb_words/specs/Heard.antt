-- What the console's words say.
use Rattle.std.specs.Prelude.{◌≡◌, ℕ, List, Option, None, Some}
use Rattle.lb_words.specs.declared.heard.Heard.{Heard}
use Rattle.lb_words.specs.declared.heard.Heard.TheVariants as heards
use Rattle.lb_words.specs.declared.word.Word.{Word}
use Rattle.lb_words.specs.declared.word.Word.TheVariants as words
use Rattle.lb_words.specs.Word.{console_word}

-- what a word alone says: lines; quit alone closes, and top alone lacks a word
abbrev pub IsSaid : Word → Heard → Type 0
IsSaid word heards.Nothing = ⊥
IsSaid word (heards.Lines text) = Unit {0}
IsSaid word (heards.Fault fault) = word ≡ words.Top
IsSaid word heards.Quit = word ≡ words.Quit

-- what a line says: nothing, unless it begins with a word of the console
abbrev pub IsHeard : List ℕ → Heard → Type 0
IsHeard line heards.Nothing = console_word line ≡ None
IsHeard line (heards.Lines text) = (word : Word) × (console_word line ≡ Some word)
IsHeard line (heards.Fault fault) = (word : Word) × (console_word line ≡ Some word)
IsHeard line heards.Quit = console_word line ≡ Some words.Quit

-- what a word says with others after it: lines, or a fault
abbrev pub IsListed : Heard → Type 0
IsListed heards.Nothing = ⊥
IsListed (heards.Lines text) = Unit {0}
IsListed (heards.Fault fault) = Unit {0}
IsListed heards.Quit = ⊥
