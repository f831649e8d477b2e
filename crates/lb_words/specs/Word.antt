-- The words of the console.
use Rattle.std.specs.Prelude.{ℕ, Bool, List, drop, length, take, unwrap_or, codes, bytes_eq, ◌==◌, not, if◌then◌else◌, Option, None, Some}
use Rattle.std.specs.List.{position}
use Rattle.lb_words.specs.declared.word.Word.{Word}
use Rattle.lb_words.specs.declared.word.Word.TheVariants as words

-- the word that is spelled so
abbrev pub word_named : List ℕ → Option Word
word_named text =
    if bytes_eq text (codes "help") then Some words.Help
    else if bytes_eq text (codes "version") then Some words.Version
    else if bytes_eq text (codes "quit") then Some words.Quit
    else if bytes_eq text (codes "rules") then Some words.Rules
    else if bytes_eq text (codes "servers") then Some words.Servers
    else if bytes_eq text (codes "pools") then Some words.Pools
    else if bytes_eq text (codes "caches") then Some words.Caches
    else if bytes_eq text (codes "counters") then Some words.Counters
    else if bytes_eq text (codes "metrics") then Some words.Metrics
    else if bytes_eq text (codes "setup") then Some words.Setup
    else if bytes_eq text (codes "recent") then Some words.Recent
    else if bytes_eq text (codes "top") then Some words.Top
    else None

abbrev pub is_space : ℕ → Bool
is_space byte = byte == 32

abbrev pub is_other : ℕ → Bool
is_other byte = not (is_space byte)

-- how many spaces a line begins with, and how many bytes stand before a space
abbrev pub begin_of : List ℕ → ℕ
begin_of line = unwrap_or (position is_other line) (length line)

abbrev pub end_of : List ℕ → ℕ
end_of bytes = unwrap_or (position is_space bytes) (length bytes)

-- the bytes of a line up to a space, after the spaces that it begins with
abbrev pub up_to : List ℕ → List ℕ
up_to bytes = take (end_of bytes) bytes

abbrev pub first_bytes : List ℕ → List ℕ
first_bytes line = up_to (drop (begin_of line) line)

-- the word of the console that a line begins with
abbrev pub console_word : List ℕ → Option Word
console_word line = word_named (first_bytes line)
