-- Sentences for an operator, on standard error.
use Rattle.std.specs.Prelude.{Bool, true, ℕ, List, [], ◌∷◌, codes, take, bytes_eq}

-- what each sentence begins with
abbrev pub sentence_mark : List ℕ
sentence_mark = codes "lb: "

-- nothing, or a text that begins as a sentence does
abbrev pub are_sentences : List ℕ → Bool
are_sentences [] = true
are_sentences (b ∷ bs) = bytes_eq (take 4 (b ∷ bs)) sentence_mark
