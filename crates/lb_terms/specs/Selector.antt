-- Rule selectors as plain values: what a term is, wherever its parts lie in memory. Two terms are equal where these are.
use Rattle.std.specs.Prelude.{ℕ, List, [], ◌∷◌, map}
use Rattle.lb_masks.specs.Mask.{Prefix}
use Rattle.lb_wire.specs.declared.record_type.RecordType.{RecordType}
use Rattle.lb_terms.specs.declared.term.Term.{Term}
use Rattle.lb_terms.specs.declared.term.Term.TheOpen.{Term-F}
use Rattle.lb_terms.specs.declared.term.Term.TheFolds.{fold-Term}

mutual
  -- every query; a name of a set or one below it; an address under one mask of a group; a type; all of these; one of
  -- these; not this; a rate and the lengths of its addresses, of IPv4 and of IPv6
  pub data Selector : Type 0 where
    All : Selector
    Suffix : List (List (List ℕ)) → Selector
    Masks : List Prefix → Selector
    Qtype : RecordType → Selector
    And : Selectors → Selector
    Or : Selectors → Selector
    Not : Selector → Selector
    MaxQps : ℕ → ℕ → ℕ → Selector

  -- selectors in order: no more, or one and then others
  pub data Selectors : Type 0 where
    end : Selectors
    more : Selector → Selectors → Selectors

-- the selectors of a list
abbrev pub members_of : List Selector → Selectors
members_of [] = end
members_of (term ∷ terms) = more term (members_of terms)

-- the selector of a term whose members are these
abbrev pub selector_step : Term-F Selector → Selector
selector_step Term-F.All = All
selector_step (Term-F.Suffix names) = Suffix names
selector_step (Term-F.Masks group) = Masks group
selector_step (Term-F.Qtype qtype) = Qtype qtype
selector_step (Term-F.And members) = And (members_of members.items)
selector_step (Term-F.Or members) = Or (members_of members.items)
selector_step (Term-F.Not member) = Not member.value
selector_step (Term-F.MaxQps qps v4 v6) = MaxQps qps v4 v6

abbrev pub selector_of : Term → Selector
selector_of = fold-Term Selector selector_step

-- the selectors of several terms
abbrev pub selectors_of : List Term → Selectors
selectors_of terms = members_of (map selector_of terms)
