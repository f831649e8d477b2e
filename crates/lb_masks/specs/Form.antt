-- The pieces of an address's text, and the octets that they spell.
use Rattle.std.specs.Prelude.{ℕ, ◌+◌, ◌==◌, Option, Some, None, option_map, List, [], ◌∷◌, ◌++◌, drop, position}
use Rattle.std.specs.List.{slice_split, before_first}
use Rattle.std.specs.Int.{w16, to_be_bytes}
use Rattle.lb_masks.specs.Number.{decimal_octet, group}
use Rattle.lb_masks.specs.declared.form.Form.{Form}
use Rattle.lb_masks.specs.declared.form.Form.TheVariants.{Dotted, Colons}

-- what stands between the marks of a text: n marks give n + 1 pieces
abbrev pub cut_at : ℕ → List ℕ → List (List ℕ)
cut_at mark text = slice_split (λ b. b == mark) text

-- what stands before the first mark, or all where there is none
abbrev pub before : ℕ → List ℕ → List ℕ
before mark text = before_first (λ b. b == mark) text

-- what stands after the first mark, where there is one
abbrev pub behind : ℕ → List ℕ → Option (List ℕ)
behind mark text = option_map (λ place. drop (place + 1) text) (position (λ b. b == mark) text)

-- the mark between the pieces: a dot, or a colon
abbrev pub mark_of : Form → ℕ
mark_of Dotted = 46
mark_of Colons = 58

-- the octets that a piece spells: a decimal number one octet, a group of hexadecimal digits two
abbrev pub piece_octets : Form → List ℕ → Option (List ℕ)
piece_octets Dotted piece = option_map (λ octet. octet ∷ []) (decimal_octet piece)
piece_octets Colons piece = option_map (λ group. to_be_bytes w16 group) (group piece)

-- both lists, one after the other
abbrev pub joined : Option (List ℕ) → Option (List ℕ) → Option (List ℕ)
joined None b = None
joined (Some a) None = None
joined (Some a) (Some b) = Some (a ++ b)

-- the octets of all pieces, in order
abbrev pub all_octets : Form → List (List ℕ) → Option (List ℕ)
all_octets form [] = Some []
all_octets form (piece ∷ pieces) = joined (piece_octets form piece) (all_octets form pieces)

-- the octets that a text spells in a form; none where a piece spells none
abbrev pub spelled : Form → List ℕ → Option (List ℕ)
spelled form text = all_octets form (cut_at (mark_of form) text)
