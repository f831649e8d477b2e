use Rattle.std.proofs.Common.{rules, ◌≡◌, List, ℕ, string_bytes, codes, ◌++◌, ◌∷◌, arith, length, take, subst, sym, ap, ◌∙◌}
use Rattle.lb_terms.specs.Selector as sel
use Rattle.lb_terms.specs.Selector.{Selector, selector_of, selector_step, selectors_of}
use Rattle.lb_terms.specs.declared.term.Term.{Term}
use Rattle.lb_terms.specs.declared.term.Term.TheFolds.{fold_out-Term, map-Term}
use Rattle.lb_terms.specs.declared.term.Term.TheVariants.{outs-Not'}
use Rattle.lb_command.specs.Grammar.{term, terms}
use Rattle.lb_typed.specs.Pieces.{Spells}
use Rattle.lb_typed.specs.Typed.{AreTyped, IsTyped}
use Rattle.lb_typed.proofs.Selectors.{first_term, next_term}
use Rattle.lb_typed.proofs.Sets.{all_taken}
use Rattle.lb_typed.proofs.Shapes as shapes
use Rattle.lb_typed.proofs.TermPieces as pieces
use Rattle.lb_typed.proofs.Texts.{holds}
use Rattle.lb_typed.proofs.terms.+term_text.Goals as goal

pub term_text-returns-in-All : goal.term_text-returns-in-All
term_text-returns-in-All n c =
    let same : selector_of c.args.what.now ≡ sel.All = ap selector_of c.in-All.is ∙ shapes.all in
    holds string_bytes c.from_str.result (codes "all") (λ text. IsTyped c.args.most (selector_of c.args.what.now) → Spells (term (selector_of c.args.what.now)) text) (rw same (pieces.all c.args.most)) c.from_str.ensures.ok

pub term_text-returns-in_ok-inner-in-Suffix : goal.term_text-returns-in_ok-inner-in-Suffix
term_text-returns-in_ok-inner-in-Suffix n c =
    let inner = string_bytes c.in_ok-inner-in-Suffix.inner in
    let same : selector_of c.args.what.now ≡ sel.Suffix c.in-Suffix.names = ap selector_of c.in-Suffix.is ∙ shapes.suffix c.in-Suffix.names in
    holds string_bytes c.bracketed.result (pieces.within (codes "suffix") inner) (λ text. IsTyped c.args.most (selector_of c.args.what.now) → Spells (term (selector_of c.args.what.now)) text)
    (rw same (pieces.suffix c.args.most c.in-Suffix.names inner c.in_ok-inner-in-Suffix.ensures)) (rw c.as_str.ensures.value at c.bracketed.ensures)

pub term_text-returns-in_ok-inner-in-Masks : goal.term_text-returns-in_ok-inner-in-Masks
term_text-returns-in_ok-inner-in-Masks n c =
    let inner = string_bytes c.in_ok-inner-in-Masks.inner in
    let same : selector_of c.args.what.now ≡ sel.Masks c.in-Masks.group = ap selector_of c.in-Masks.is ∙ shapes.masks c.in-Masks.group in
    holds string_bytes c.bracketed-in-Masks.result (pieces.within (codes "masks") inner) (λ text. IsTyped c.args.most (selector_of c.args.what.now) → Spells (term (selector_of c.args.what.now)) text)
    (rw same (pieces.masks c.args.most c.in-Masks.group inner (rw c.as_slice.ensures at c.in_ok-inner-in-Masks.ensures))) (rw c.as_str-in-Masks.ensures.value at c.bracketed-in-Masks.ensures)

pub term_text-returns-in_ok-inner-in-Qtype : goal.term_text-returns-in_ok-inner-in-Qtype
term_text-returns-in_ok-inner-in-Qtype n c =
    let inner = string_bytes c.in_ok-inner-in-Qtype.inner in
    let same : selector_of c.args.what.now ≡ sel.Qtype c.in-Qtype.qtype = ap selector_of c.in-Qtype.is ∙ shapes.qtype c.in-Qtype.qtype in
    holds string_bytes c.bracketed-in-Qtype.result (pieces.within (codes "qtype") inner) (λ text. IsTyped c.args.most (selector_of c.args.what.now) → Spells (term (selector_of c.args.what.now)) text)
    (rw same (pieces.qtype c.args.most c.in-Qtype.qtype inner c.in_ok-inner-in-Qtype.ensures)) (rw c.as_str-in-Qtype.ensures.value at c.bracketed-in-Qtype.ensures)

pub term_text-returns-in_ok-inner-in-And : goal.term_text-returns-in_ok-inner-in-And
term_text-returns-in_ok-inner-in-And n c =
    let inner = string_bytes c.in_ok-inner-in-And.inner in
    let same : selector_of c.args.what.now ≡ sel.And (selectors_of c.in-And.members.items) = c.law_of_and.ensures c.in-And.members c.in-And.is in
    holds string_bytes c.bracketed-in-And.result (pieces.within (codes "and") inner) (λ text. IsTyped c.args.most (selector_of c.args.what.now) → Spells (term (selector_of c.args.what.now)) text)
    (rw same (pieces.and c.args.most (selectors_of c.in-And.members.items) inner (rw c.as_slice-in-And.ensures.value at c.in_ok-inner-in-And.ensures))) (rw c.as_str-in-And.ensures.value at c.bracketed-in-And.ensures)

pub term_text-returns-in_ok-inner-in-Or : goal.term_text-returns-in_ok-inner-in-Or
term_text-returns-in_ok-inner-in-Or n c =
    let inner = string_bytes c.in_ok-inner-in-Or.inner in
    let same : selector_of c.args.what.now ≡ sel.Or (selectors_of c.in-Or.members.items) = c.law_of_or.ensures c.in-Or.members c.in-Or.is in
    holds string_bytes c.bracketed-in-Or.result (pieces.within (codes "or") inner) (λ text. IsTyped c.args.most (selector_of c.args.what.now) → Spells (term (selector_of c.args.what.now)) text)
    (rw same (pieces.or c.args.most (selectors_of c.in-Or.members.items) inner (rw c.as_slice-in-Or.ensures.value at c.in_ok-inner-in-Or.ensures))) (rw c.as_str-in-Or.ensures.value at c.bracketed-in-Or.ensures)

pub term_text-returns-in_ok-inner-in-Not : goal.term_text-returns-in_ok-inner-in-Not
term_text-returns-in_ok-inner-in-Not n c =
    let inner = string_bytes c.in_ok-inner-in-Not.inner in
    let same : selector_of c.args.what.now ≡ sel.Not (selector_of c.in-Not.inside.value) = ap selector_of c.in-Not.is ∙ fold_out-Term Selector selector_step _ ∙ ap (λ x. selector_step (map-Term Term Selector selector_of x)) (outs-Not' _ _) in
    holds string_bytes c.bracketed-in-Not.result (pieces.within (codes "not") inner) (λ text. IsTyped c.args.most (selector_of c.args.what.now) → Spells (term (selector_of c.args.what.now)) text)
    (rw same (pieces.not c.args.most (selector_of c.in-Not.inside.value) inner (rw c.deref.ensures at c.in_ok-inner-in-Not.ensures))) (rw c.as_str-in-Not.ensures.value at c.bracketed-in-Not.ensures)

pub term_text-returns-in_ok-inner-in-MaxQps : goal.term_text-returns-in_ok-inner-in-MaxQps
term_text-returns-in_ok-inner-in-MaxQps n c =
    let inner = string_bytes c.in_ok-inner-in-MaxQps.inner in
    let same : selector_of c.args.what.now ≡ sel.MaxQps c.in-MaxQps.qps c.in-MaxQps.v4 c.in-MaxQps.v6 = ap selector_of c.in-MaxQps.is ∙ shapes.max_qps c.in-MaxQps.qps c.in-MaxQps.v4 c.in-MaxQps.v6 in
    holds string_bytes c.bracketed-in-MaxQps.result (pieces.within (codes "maxqps") inner) (λ text. IsTyped c.args.most (selector_of c.args.what.now) → Spells (term (selector_of c.args.what.now)) text)
    (rw same (pieces.rate c.args.most c.in-MaxQps.qps c.in-MaxQps.v4 c.in-MaxQps.v6 inner c.in_ok-inner-in-MaxQps.ensures)) (rw c.as_str-in-MaxQps.ensures.value at c.bracketed-in-MaxQps.ensures)

pub terms_text-members-preserved : goal.terms_text-members-preserved
terms_text-members-preserved n c = λ are.
    next_term c.args.most c.index-members-place.result c.args.members.now c.members.place (string_bytes c.members.text) (string_bytes c.in_ok-word.word) (string_bytes c.push_word.new.text) (omega (arith, c.members-test.true)) (c.members.invariant are) (rw c.index-members-place.is at c.in_ok-word.ensures) are (rw c.as_str.ensures.value at c.in_ok-push_word.ensures)

pub terms_text-returns : goal.terms_text-returns
terms_text-returns n c = λ are some. subst (λ (members : List Term). Spells (terms (selectors_of members)) (string_bytes c.members.text)) (all_taken c.args.members.now c.members.place (omega (arith, c.members-test.false))) (c.members.invariant are)
