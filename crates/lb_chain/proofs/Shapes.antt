-- The sets that a term is itself, by its shape.
use Rattle.std.proofs.Common.{◌≡◌, false, [], ℕ, List, refl, sym, ap, ◌∙◌}
use Rattle.lb_masks.specs.Mask.{Prefix}
use Rattle.lb_terms.specs.declared.term.Term.{Term}
use Rattle.lb_terms.specs.declared.term.Term.TheOpen.{Term-F}
use Rattle.lb_terms.specs.declared.term.Term.TheFolds.{fold-roll-Term, fold_out-Term, map-Term}
use Rattle.lb_terms.specs.declared.term.Term.TheVariants.{All, Suffix, Masks, Qtype, And', Or', Not', MaxQps, outs-And', outs-Or', outs-Not', rolls-All, rolls-Suffix, rolls-Masks, rolls-Qtype, rolls-MaxQps}
use Rattle.lb_terms.specs.Selector.{Selector, selector_of, selector_step}
use Rattle.lb_chain.specs.FirstAsked.{loose, Sets}
use Rattle.lb_chain.specs.Filing.{own_sets}

abbrev pub own_at : Term → Sets
own_at t = own_sets (selector_of t)

pub own_names : (names : List (List (List ℕ))) → own_at (Suffix names) ≡ record { names = names; masks = []; is_loose = false }
own_names names = ap own_at (sym (rolls-Suffix names)) ∙ ap own_sets (fold-roll-Term Selector selector_step (Term-F.Suffix names))

pub own_masks : (group : List Prefix) → own_at (Masks group) ≡ record { names = []; masks = group; is_loose = false }
own_masks group = ap own_at (sym (rolls-Masks group)) ∙ ap own_sets (fold-roll-Term Selector selector_step (Term-F.Masks group))

pub own_loose : (t : Term) → ((names : List (List (List ℕ))) → t ≡ Suffix names → ⊥) → ((group : List Prefix) → t ≡ Masks group → ⊥) → own_at t ≡ loose
own_loose All no_names no_masks = ap own_at (sym rolls-All) ∙ ap own_sets (fold-roll-Term Selector selector_step Term-F.All)
own_loose (Suffix names) no_names no_masks = absurd (no_names names refl)
own_loose (Masks group) no_names no_masks = absurd (no_masks group refl)
own_loose (Qtype q) no_names no_masks = ap own_at (sym (rolls-Qtype q)) ∙ ap own_sets (fold-roll-Term Selector selector_step (Term-F.Qtype q))
own_loose (And' shape row) no_names no_masks = ap own_sets (fold_out-Term Selector selector_step (And' shape row)) ∙ ap (λ x. own_sets (selector_step (map-Term Term Selector selector_of x))) (outs-And' shape row)
own_loose (Or' shape row) no_names no_masks = ap own_sets (fold_out-Term Selector selector_step (Or' shape row)) ∙ ap (λ x. own_sets (selector_step (map-Term Term Selector selector_of x))) (outs-Or' shape row)
own_loose (Not' p t) no_names no_masks = ap own_sets (fold_out-Term Selector selector_step (Not' p t)) ∙ ap (λ x. own_sets (selector_step (map-Term Term Selector selector_of x))) (outs-Not' p t)
own_loose (MaxQps qps v4 v6) no_names no_masks = ap own_at (sym (rolls-MaxQps qps v4 v6)) ∙ ap own_sets (fold-roll-Term Selector selector_step (Term-F.MaxQps qps v4 v6))
