-- Reading terms.
use Rattle.std.specs.Prelude.{if◌then◌else◌, ℕ, zero, suc, Bool, Option, Result, Ok, Err, List, [], ◌∷◌, codes}
use Rattle.lb_masks.specs.Number.{number_up_to}
use Rattle.lb_terms.specs.Selector.{Selector, members_of}
use Rattle.lb_terms.specs.Selector as sel
use Rattle.lb_terms.specs.Check.{checked_of}
use Rattle.lb_wire.specs.declared.record_type.RecordType.{RecordType}
use Rattle.lb_command.specs.Line.{Left, first_of}
use Rattle.lb_command.specs.Reading.{◌>>=◌, due, listed, named, taken, too_many}
use Rattle.lb_command.specs.Values.{in_range, looked_up, mask_of, name_of, type_kind, type_of}
use Rattle.lb_command.specs.declared.fault.CommandFault.{CommandFault}
use Rattle.lb_command.specs.declared.fault.FaultKind.TheVariants as kinds
use Rattle.lb_command.specs.declared.terms.Form.{Form}
use Rattle.lb_command.specs.declared.terms.Form.TheVariants as forms

-- the words that begin terms
abbrev pub form_words : List (Form × List ℕ)
form_words =
    (forms.All, codes "all") ∷ (forms.Suffix, codes "suffix") ∷ (forms.Masks, codes "masks") ∷ (forms.Qtype, codes "qtype")
    ∷ (forms.And, codes "and") ∷ (forms.Or, codes "or") ∷ (forms.Not, codes "not") ∷ (forms.MaxQps, codes "maxqps") ∷ []

abbrev pub form_of : List ℕ → Option Form
form_of text = looked_up form_words text

-- TYPE
abbrev pub type_at : Left → Result (RecordType × Left) CommandFault
type_at left = due (type_kind (first_of left).text) type_of left

-- how many terms there may still be, and what is left of the line
abbrev pub State : Type 0
State = ℕ × Left

abbrev pub left_in : State → Left
left_in s = s.1

-- a comma between two terms
abbrev pub comma : State → Bool × State
comma s = ((taken (codes ",") s.1).0, (s.0, (taken (codes ",") s.1).1))

-- one term fewer, that of the word that begins here
abbrev pub one_fewer : ℕ → Left → Result ℕ CommandFault
one_fewer zero left = too_many left
one_fewer (suc nodes) left = Ok nodes

-- (NAME{,NAME})
unfoldable pub suffix_at : Left → Result (Selector × Left) CommandFault
suffix_at left = do
  bracket ← due kinds.UnknownWord (named (codes "(")) left
  names ← listed (due kinds.BadName name_of) (taken (codes ",")) (λ s. s) 1024 bracket.1
  close ← due kinds.UnknownWord (named (codes ")")) names.1
  Ok (sel.Suffix names.0, close.1)

-- (MASK{,MASK})
unfoldable pub masks_at : Left → Result (Selector × Left) CommandFault
masks_at left = do
  bracket ← due kinds.UnknownWord (named (codes "(")) left
  masks ← listed (due kinds.BadAddress mask_of) (taken (codes ",")) (λ s. s) 1024 bracket.1
  close ← due kinds.UnknownWord (named (codes ")")) masks.1
  Ok (sel.Masks masks.0, close.1)

-- (TYPE)
unfoldable pub qtype_at : Left → Result (Selector × Left) CommandFault
qtype_at left = do
  bracket ← due kinds.UnknownWord (named (codes "(")) left
  qtype ← type_at bracket.1
  close ← due kinds.UnknownWord (named (codes ")")) qtype.1
  Ok (sel.Qtype qtype.0, close.1)

-- [,V4BITS,V6BITS]: all 32 bits of an IPv4 address and the first 64 of an IPv6 address count where none are given
unfoldable pub lengths_at : Left → Result ((ℕ × ℕ) × Left) CommandFault
lengths_at left =
    if (taken (codes ",") left).0 then (do
      v4 ← due kinds.BadNumber (number_up_to 10 32) (taken (codes ",") left).1
      between ← due kinds.UnknownWord (named (codes ",")) v4.1
      v6 ← due kinds.BadNumber (number_up_to 10 128) between.1
      Ok ((v4.0, v6.0), v6.1))
    else Ok ((32, 64), (taken (codes ",") left).1)

-- (QPS[,V4BITS,V6BITS])
unfoldable pub maxqps_at : Left → Result (Selector × Left) CommandFault
maxqps_at left = do
  bracket ← due kinds.UnknownWord (named (codes "(")) left
  qps ← due kinds.BadNumber (in_range 1 1000) bracket.1
  lengths ← lengths_at qps.1
  close ← due kinds.UnknownWord (named (codes ")")) lengths.1
  Ok (sel.MaxQps qps.0 lengths.0.0 lengths.0.1, close.1)

-- a part that holds no terms
abbrev pub alone : ℕ → Result (Selector × Left) CommandFault → Result (Selector × State) CommandFault
alone nodes read = read >>= λ x. Ok (x.0, (nodes, x.1))

-- (TERM{,TERM})
unfoldable pub members_at : (State → Result (Selector × State) CommandFault) → State → Result (List Selector × State) CommandFault
members_at member s = do
  bracket ← due kinds.UnknownWord (named (codes "(")) s.1
  members ← listed member comma left_in 64 (s.0, bracket.1)
  close ← due kinds.UnknownWord (named (codes ")")) members.1.1
  Ok (members.0, (members.1.0, close.1))

-- a conjunction
unfoldable pub and_at : (State → Result (Selector × State) CommandFault) → State → Result (Selector × State) CommandFault
and_at member s = do
  members ← members_at member s
  Ok (sel.And (members_of members.0), members.1)

-- a disjunction
unfoldable pub or_at : (State → Result (Selector × State) CommandFault) → State → Result (Selector × State) CommandFault
or_at member s = do
  members ← members_at member s
  Ok (sel.Or (members_of members.0), members.1)

-- (TERM)
unfoldable pub not_at : (State → Result (Selector × State) CommandFault) → State → Result (Selector × State) CommandFault
not_at member s = do
  bracket ← due kinds.UnknownWord (named (codes "(")) s.1
  inner ← member (s.0, bracket.1)
  close ← due kinds.UnknownWord (named (codes ")")) inner.1.1
  Ok (sel.Not inner.0, (inner.1.0, close.1))

-- what stands after the word that begins a term
abbrev pub body_at : (State → Result (Selector × State) CommandFault) → Form → State → Result (Selector × State) CommandFault
body_at member forms.All s = Ok (sel.All, s)
body_at member forms.Suffix s = alone s.0 (suffix_at s.1)
body_at member forms.Masks s = alone s.0 (masks_at s.1)
body_at member forms.Qtype s = alone s.0 (qtype_at s.1)
body_at member forms.And s = and_at member s
body_at member forms.Or s = or_at member s
body_at member forms.Not s = not_at member s
body_at member forms.MaxQps s = alone s.0 (maxqps_at s.1)

-- a term of at most this depth, where there may be so many terms; a word that makes one deeper, or one more, is too many
unfoldable pub term_at : ℕ → State → Result (Selector × State) CommandFault
term_at zero s = do
  form ← due kinds.UnknownWord form_of s.1
  too_many s.1
term_at (suc depth) s = do
  form ← due kinds.UnknownWord form_of s.1
  nodes ← one_fewer s.0 s.1
  body_at (term_at depth) form.0 (nodes, form.1)

-- a term that was read, as it is checked. What was read is within all limits, so this refuses nothing.
abbrev pub checked_or : Selector → Left → Result Selector CommandFault
checked_or term left = if_ok (checked_of term) left
  where
    if_ok : {F : Type 0} → Result Selector F → Left → Result Selector CommandFault
    if_ok (Ok checked) left = Ok checked
    if_ok (Err fault) left = too_many left

-- TERM: its depth is at most 16, and 64 terms are in it at most
unfoldable pub checked_at : Left → Result (Selector × Left) CommandFault
checked_at left = do
  term ← term_at 16 (64, left)
  checked ← checked_or term.0 left
  Ok (checked, term.1.1)
