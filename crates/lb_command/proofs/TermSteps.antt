-- Reading a term, a step at a time.
use Rattle.std.proofs.Common.{◌≡◌, ℕ, zero, suc, ◌-◌, Some, None, Result, Ok, Err, refl, subst, arith}
use Rattle.lb_terms.specs.Selector.{Selector, selector_of}
use Rattle.lb_terms.specs.declared.term.Term.{Term}
use Rattle.lb_command.specs.Line.{Left, Seen, behind_first, first_of}
use Rattle.lb_command.specs.Reading.{◌>>=◌, Reads, due, fault_at, or_fault, too_many}
use Rattle.lb_command.specs.Terms.{alone, body_at, form_of, term_at}
use Rattle.lb_command.specs.declared.fault.CommandFault.{CommandFault}
use Rattle.lb_command.specs.declared.fault.FaultKind.TheVariants as kinds
use Rattle.lb_command.specs.declared.fault.Unread.{Unread}
use Rattle.lb_command.specs.declared.fault.Unread.TheVariants as unread
use Rattle.lb_command.specs.declared.terms.Form.{Form}

-- the word that begins a term, as it is due
abbrev as_due : Seen → Left → Result (Form × Left) CommandFault
as_due word rest = or_fault (form_of word.text) kinds.UnknownWord word >>= λ x. Ok (x, rest)

-- no term begins with a word, and one does
pub starts_none : (left : Left) (w : Seen) → w ≡ first_of left → form_of w.text ≡ None → due kinds.UnknownWord form_of left ≡ Err (fault_at kinds.UnknownWord w)
starts_none left w h none =
    subst (λ (v : Seen). as_due v (behind_first left) ≡ Err (fault_at kinds.UnknownWord w)) h (rw none refl)

pub starts : (left : Left) (w : Seen) (form : Form) → w ≡ first_of left → form_of w.text ≡ Some form → due kinds.UnknownWord form_of left ≡ Ok (form, behind_first left)
starts left w form h some =
    subst (λ (v : Seen). as_due v (behind_first left) ≡ Ok (form, behind_first left)) h (rw some refl)

-- no term begins so
pub no_form : (depth nodes : ℕ) (left : Left) (f : CommandFault) → due kinds.UnknownWord form_of left ≡ Err f → term_at depth (nodes, left) ≡ Err f
unfolding term_at
no_form zero nodes left f h = rw h refl
no_form (suc depth) nodes left f h = rw h refl

-- a term begins, but may not
pub too_deep : (nodes : ℕ) (left rest : Left) (form : Form) → due kinds.UnknownWord form_of left ≡ Ok (form, rest) → term_at 0 (nodes, left) ≡ too_many left
unfolding term_at
too_deep nodes left rest form h = rw h refl

pub one_too_many : (depth : ℕ) (left rest : Left) (form : Form) → due kinds.UnknownWord form_of left ≡ Ok (form, rest) → term_at depth (0, left) ≡ too_many left
unfolding term_at
one_too_many zero left rest form h = rw h refl
one_too_many (suc depth) left rest form h = rw h refl

-- a term that may: what stands after its word
pub behind_form : (depth nodes : ℕ) (left rest : Left) (form : Form) → (depth ≡ 0 → ⊥) → (nodes ≡ 0 → ⊥) → due kinds.UnknownWord form_of left ≡ Ok (form, rest) → term_at depth (nodes, left) ≡ body_at (term_at (depth - 1)) form (nodes - 1, rest)
unfolding term_at
behind_form zero nodes left rest form deep some h = absurd (deep refl)
behind_form (suc depth) zero left rest form deep some h = absurd (some refl)
behind_form (suc depth) (suc nodes) left rest form deep some h =
    let d : suc depth - 1 ≡ depth = omega arith in
    let n : suc nodes - 1 ≡ nodes = omega arith in
    rw (h, d, n) refl

-- a part that holds no terms leaves as many as there were
pub reads_alone : (result : Result Term Unread) (words : Left) (nodes : ℕ) (read : Result (Selector × Left) CommandFault) → Reads selector_of result words read → Reads selector_of result (nodes, words) (alone nodes read)
reads_alone (Ok term) words nodes read h = rw h refl
reads_alone (Err (unread.NoMemory refused)) words nodes read h = tt
reads_alone (Err (unread.Fault f)) words nodes read h = rw h refl
