-- The selectors of terms, by their shapes.
use Rattle.std.proofs.Common.{◌≡◌, ℕ, List, refl, sym, ap, ◌∙◌}
use Rattle.lb_masks.specs.Mask.{Prefix}
use Rattle.lb_wire.specs.declared.record_type.RecordType.{RecordType}
use Rattle.lb_terms.specs.declared.term.Term.{Term}
use Rattle.lb_terms.specs.declared.term.Term.TheOpen.{Term-F}
use Rattle.lb_terms.specs.declared.term.Term.TheFolds.{fold-roll-Term}
use Rattle.lb_terms.specs.declared.term.Term.TheVariants.{All, Suffix, Masks, Qtype, MaxQps, rolls-All, rolls-Suffix, rolls-Masks, rolls-Qtype, rolls-MaxQps}
use Rattle.lb_terms.specs.Selector.{Selector, selector_of, selector_step, selectors_of}
use Rattle.lb_terms.specs.Selector as sel

pub all : selector_of All ≡ sel.All
all = ap selector_of (sym rolls-All) ∙ fold-roll-Term Selector selector_step Term-F.All

pub suffix : (names : List (List (List ℕ))) → selector_of (Suffix names) ≡ sel.Suffix names
suffix names = ap selector_of (sym (rolls-Suffix names)) ∙ fold-roll-Term Selector selector_step (Term-F.Suffix names)

pub masks : (group : List Prefix) → selector_of (Masks group) ≡ sel.Masks group
masks group = ap selector_of (sym (rolls-Masks group)) ∙ fold-roll-Term Selector selector_step (Term-F.Masks group)

pub qtype : (q : RecordType) → selector_of (Qtype q) ≡ sel.Qtype q
qtype q = ap selector_of (sym (rolls-Qtype q)) ∙ fold-roll-Term Selector selector_step (Term-F.Qtype q)

pub max_qps : (qps v4 v6 : ℕ) → selector_of (MaxQps qps v4 v6) ≡ sel.MaxQps qps v4 v6
max_qps qps v4 v6 = ap selector_of (sym (rolls-MaxQps qps v4 v6)) ∙ fold-roll-Term Selector selector_step (Term-F.MaxQps qps v4 v6)
