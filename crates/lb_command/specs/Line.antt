-- The words and signs of a line.
use Rattle.std.specs.Prelude.{if◌then◌else◌, ℕ, suc, ◌-◌, length, ◌==◌, nat_le, Bool, false, not, ◌&&◌, ◌||◌, List, [], ◌∷◌}

-- `(`, `)` and `,`
abbrev pub is_sign : ℕ → Bool
is_sign b = b == 40 || b == 41 || b == 44

-- a byte 0x21 to 0x7e other than the signs
abbrev pub is_word_byte : ℕ → Bool
is_word_byte b = nat_le 33 b && nat_le b 126 && not (is_sign b)

-- whether bytes begin with one of a word
abbrev pub begins_word : List ℕ → Bool
begins_word [] = false
begins_word (b ∷ bs) = is_word_byte b

-- a word or sign of a line, and the offset in bytes at which it begins; the end of the line has no text
pub record Seen : Type 0 where
  pub text : List ℕ
  pub place : ℕ

abbrev pub seen : List ℕ → ℕ → Seen
seen text place = record { text = text; place = place }

-- the byte at a place, in front of the word that comes after it
abbrev pub in_front : ℕ → ℕ → List Seen → List Seen
in_front b place [] = seen (b ∷ []) place ∷ []
in_front b place (word ∷ words) = seen (b ∷ word.text) place ∷ words

-- the words and signs in what is left of a line of this length: a word is a longest run of word bytes, any other byte but a
-- space stands alone
unfoldable pub words_of : ℕ → List ℕ → List Seen
words_of total [] = []
words_of total (b ∷ bs) =
    if b == 32 then words_of total bs
    else (if is_word_byte b && begins_word bs then in_front b (total - length (b ∷ bs)) (words_of total bs) else seen (b ∷ []) (total - length (b ∷ bs)) ∷ words_of total bs)

-- what is left of a line, and the line's length
pub record Left : Type 0 where
  pub words : List Seen
  pub total : ℕ

abbrev pub left_of : ℕ → List ℕ → Left
left_of total bytes = record { words = words_of total bytes; total = total }

-- all of a line
abbrev pub whole : List ℕ → Left
whole line = left_of (length line) line

-- what comes first; at the end of a line of this length no text, at that length
abbrev pub first_in : List Seen → ℕ → Seen
first_in [] total = seen [] total
first_in (word ∷ words) total = word

abbrev pub tail_of : List Seen → List Seen
tail_of [] = []
tail_of (word ∷ words) = words

abbrev pub first_of : Left → Seen
first_of left = first_in left.words left.total

-- what is left after it
abbrev pub behind_first : Left → Left
behind_first left = record { words = tail_of left.words; total = left.total }

-- how many spaces come first
abbrev pub spaces_of : List ℕ → ℕ
spaces_of [] = 0
spaces_of (b ∷ bs) = if b == 32 then suc (spaces_of bs) else 0

-- how many bytes of a word come first
abbrev pub run_of : List ℕ → ℕ
run_of [] = 0
run_of (b ∷ bs) = if is_word_byte b then suc (run_of bs) else 0

-- how many bytes the word or sign that comes first has, where no space comes before it
abbrev pub first_len : List ℕ → ℕ
first_len [] = 0
first_len (b ∷ bs) = if is_word_byte b then run_of (b ∷ bs) else 1
