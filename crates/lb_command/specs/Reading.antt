-- Reading from left to right, to the first fault that is met.
use Rattle.std.specs.Prelude.{if◌then◌else◌, ◌≡◌, ◌⊎◌, ℕ, zero, suc, Bool, true, false, ◌||◌, nat_lt, Option, Some, None, Result, Ok, Err, List, [], ◌∷◌, length, bytes_eq}
use Rattle.lb_command.specs.Line.{Seen, Left, first_of, behind_first, is_sign, is_word_byte}
use Rattle.lb_command.specs.declared.fault.CommandFault.{CommandFault}
use Rattle.lb_command.specs.declared.fault.FaultKind.{FaultKind}
use Rattle.lb_command.specs.declared.fault.FaultKind.TheVariants as kinds
use Rattle.lb_command.specs.declared.fault.Unread.{Unread}
use Rattle.lb_command.specs.declared.fault.Unread.TheVariants as unread

infixl 10 ◌>>=◌
abbrev pub ◌>>=◌ : {A B : Type 0} → Result A CommandFault → (A → Result B CommandFault) → Result B CommandFault
(Ok x) >>= f = f x
(Err e) >>= f = Err e

-- a reader that fails gives the fault that reading gives, unless memory is lacking
abbrev pub Fails : {Y : Type 0} → Unread → Result Y CommandFault → Type 0
Fails (unread.NoMemory refused) read = Unit {0}
Fails (unread.Fault f) read = read ≡ Err f

-- what a reader gives, seen so, and what it leaves are what reading gives
abbrev pub Reads : {X Y S : Type 0} → (X → Y) → Result X Unread → S → Result (Y × S) CommandFault → Type 0
Reads view (Ok x) left read = read ≡ Ok (view x, left)
Reads view (Err e) left read = Fails e read

-- the same of a reader of a whole line
abbrev pub Gives : {X : Type 0} → Result X Unread → Result X CommandFault → Type 0
Gives (Ok x) read = read ≡ Ok x
Gives (Err e) read = Fails e read

-- the same of a line: lack of memory may stand for any answer
abbrev pub Answers : {X : Type 0} → Result X CommandFault → Result X CommandFault → Type 0
Answers (Ok x) read = read ≡ Ok x
Answers (Err f) read = (f.kind ≡ kinds.NoMemory) ⊎ (read ≡ Err f)

-- a line that is this is read so, unless memory is lacking
abbrev pub ReadsAs : {X : Type 0} → Result X CommandFault → X → Type 0
ReadsAs (Ok x) y = x ≡ y
ReadsAs (Err f) y = f.kind ≡ kinds.NoMemory

-- what is wrong where something is due: it is missing at the end, unknown at a sign or a stray byte, and else of this kind
abbrev pub kind_at : FaultKind → List ℕ → FaultKind
kind_at kind [] = kinds.Missing
kind_at kind (b ∷ bs) = if is_word_byte b then kind else kinds.UnknownWord

abbrev pub fault_at : FaultKind → Seen → CommandFault
fault_at kind word = record { place = word.place; kind = kind_at kind word.text }

abbrev pub or_fault : {A : Type 0} → Option A → FaultKind → Seen → Result A CommandFault
or_fault (Some x) kind word = Ok x
or_fault None kind word = Err (fault_at kind word)

-- a word that is due, by what its text says
abbrev pub due : {A : Type 0} → FaultKind → (List ℕ → Option A) → Left → Result (A × Left) CommandFault
due kind value left = or_fault (value (first_of left).text) kind (first_of left) >>= λ x. Ok (x, behind_first left)

-- this word or sign
abbrev pub named : List ℕ → List ℕ → Option (Unit {0})
named word text = if bytes_eq text word then Some tt else None

-- whether this word or sign comes next, and what is left once it is taken there
abbrev pub taken : List ℕ → Left → Bool × Left
taken word left = if bytes_eq (first_of left).text word then (true, behind_first left) else (false, left)

-- a word that may be left out: it stands there where what comes next says a value
abbrev pub or_left_out : {A : Type 0} → Option A → Left → Result (Option A × Left) CommandFault
or_left_out (Some x) left = Ok (Some x, behind_first left)
or_left_out None left = Ok (None, left)

abbrev pub optional : {A : Type 0} → (List ℕ → Option A) → Left → Result (Option A × Left) CommandFault
optional value left = or_left_out (value (first_of left).text) left

-- what is wrong after a whole line: a word or a sign is too much, and a stray byte unknown
abbrev pub extra_at : List ℕ → FaultKind
extra_at [] = kinds.Extra
extra_at (b ∷ bs) = if is_word_byte b || is_sign b then kinds.Extra else kinds.UnknownWord

abbrev pub ended : Left → Result (Unit {0}) CommandFault
ended left = if bytes_eq (first_of left).text [] then Ok tt else Err (record { place = (first_of left).place; kind = extra_at (first_of left).text })

-- a limit is passed by what begins here
abbrev pub too_many : {A : Type 0} → Left → Result A CommandFault
too_many left = Err (record { place = (first_of left).place; kind = kinds.BadTerm })

-- one or more with a comma between each two, and at most so many: one more that reads is too many
unfoldable pub listed : {A S : Type 0} → (S → Result (A × S) CommandFault) → (S → Bool × S) → (S → Left) → ℕ → S → Result (List A × S) CommandFault
listed one comma left_in zero s = one s >>= λ x. too_many (left_in s)
listed one comma left_in (suc most) s =
    one s >>= λ x. if (comma x.1).0 then (listed one comma left_in most (comma x.1).1 >>= λ more. Ok (x.0 ∷ more.0, more.1)) else Ok (x.0 ∷ [], (comma x.1).1)

-- the most bytes of a line
abbrev pub max_line : ℕ
max_line = 300000

-- a line that is too long is not looked into
abbrev pub within : {A : Type 0} → List ℕ → Result A CommandFault → Result A CommandFault
within line read = if nat_lt max_line (length line) then Err (record { place = max_line; kind = kinds.Extra }) else read
