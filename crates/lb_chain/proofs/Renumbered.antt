-- Rules are given new ranks, one after the other.
use Rattle.std.proofs.Common.{◌≡◌, ℕ, zero, suc, ◌+◌, ◌<◌, ◌≤◌, ◌*◌, List, [], ◌∷◌, length, take, get_or, sym, ap, subst, ◌∙◌, arith}
use Rattle.std.specs.List.{insert}
use Rattle.std.proofs.lemmas.List.{take_all}
use Rattle.lb_suffix.specs.Index.{Pair as NamePair}
use Rattle.lb_masks.specs.Index.{Pair as MaskPair}
use Rattle.lb_terms.specs.Selector.{Selector}
use Rattle.lb_chain.specs.declared.numbered.Numbered.{Numbered}
use Rattle.lb_chain.specs.FirstAsked.{AreFiled}
use Rattle.lb_chain.specs.Offers.{terms_of}
use Rattle.lb_chain.specs.Filing.{AreEven}
use Rattle.lb_chain.proofs.Rising.{even_more}
use Rattle.std.proofs.lemmas.List.Edits.{length-insert}

terms_more : (rules : List Numbered) (n : Numbered) (i : ℕ) → i < length rules → n ≡ get_or rules i n → insert (terms_of (take i rules)) i n.rule.term ≡ terms_of (take (suc i) rules)
terms_more [] n i lt is = absurd (omega arith)
terms_more (m ∷ rules) n zero lt is = ap (λ (k : Numbered). k.rule.term ∷ []) is
terms_more (m ∷ rules) n (suc i) lt is = ap (λ (ts : List Selector). m.rule.term ∷ ts) (terms_more rules n i (omega arith) is)

-- what holds once so many rules have their ranks
abbrev pub AreNumbered : List NamePair → List MaskPair → List ℕ → List ℕ → List Numbered → ℕ → Type 0
AreNumbered names masks loose ranks rules n = AreFiled names masks loose ranks (terms_of (take n rules)) × AreEven ranks × (n ≡ length ranks)

pub numbered_more : (rules : List Numbered) (n : Numbered) (i : ℕ) (names new_names : List NamePair) (masks new_masks : List MaskPair) (loose new_loose : List ℕ) (ranks new : List ℕ) → i < length rules → n ≡ get_or rules i n → AreNumbered names masks loose ranks rules i → ((terms : List Selector) → AreFiled names masks loose ranks terms → AreFiled new_names new_masks new_loose new (insert terms i n.rule.term)) → new ≡ insert ranks i ((i + 1) * 1125899906842624) → AreNumbered new_names new_masks new_loose new rules (i + 1)
numbered_more rules n i names new_names masks new_masks loose new_loose ranks new lt is so_far puts is_new =
    let next : suc i ≡ i + 1 = omega arith in (
      subst (λ (ts : List Selector). AreFiled new_names new_masks new_loose new ts) (terms_more rules n i lt is ∙ ap (λ (k : ℕ). terms_of (take k rules)) next) (puts (terms_of (take i rules)) so_far.0),
      subst AreEven (sym is_new) (even_more ranks i so_far.1 so_far.2),
      omega (arith, so_far.2, ap length is_new, length-insert ranks i ((i + 1) * 1125899906842624) (omega (arith, so_far.2))),
    )

pub numbered_all : (rules : List Numbered) (i : ℕ) (names : List NamePair) (masks : List MaskPair) (loose ranks : List ℕ) → length rules ≤ i → AreFiled names masks loose ranks (terms_of (take i rules)) → AreFiled names masks loose ranks (terms_of rules)
numbered_all rules i names masks loose ranks le filed = subst (λ (rs : List Numbered). AreFiled names masks loose ranks (terms_of rs)) (take_all i rules le) filed
