use Rattle.std.proofs.Common.{◌≡◌, Bool, true, false, sym, ap, ◌∙◌, ◌++◌, ◌-◌, [], ◌∷◌, map}
use Rattle.std.proofs.lemmas.Result.{err_from_is_err_and}
use Rattle.std.proofs.lemmas.List.{map_push}
use Rattle.lb_terms.specs.Selector.{selector_of}
use Rattle.lb_command.specs.Line.{Seen, first_of, seen}
use Rattle.lb_command.specs.Terms.{comma, left_in, term_at}
use Rattle.lb_command.proofs.Lists.{ends, fails, goes_on, is_too_many}
use Rattle.lb_command.proofs.TermSteps.{behind_form, no_form, one_too_many, reads_alone, starts, starts_none, too_deep}
use Rattle.lb_command.proofs.terms.+terms.Goals.{term-then-depth-eq0-via-then-depth-eq0, term-then-depth-eq0-via-else-depth-eq0+then-left-eq0}
use Rattle.lb_command.proofs.terms.+terms.Goals as goal

pub members-returns-in_err-term : goal.members-returns-in_err-term
members-returns-in_err-term t c =
    let p = err_from_is_err_and c.from_residual.result c.from_residual.ensures.1 in
    rw (p.1, p.2) (fails c.in_err-term.field-0.0 (term_at c.args.depth) comma left_in (map selector_of c.terms.terms.items) (64 - c.terms.counter) (c.terms.left, c.terms.words) _ c.in_err-term.ensures c.terms.invariant)

pub members-returns-then-not-takes : goal.members-returns-then-not-takes
members-returns-then-not-takes t c =
    let pushed : map selector_of c.push.new.self.items ≡ map selector_of c.terms.terms.items ++ selector_of c.in_ok-term.field-0 ∷ [] = rw c.in_ok-push.ensures.items (map_push selector_of c.terms.terms.items c.in_ok-term.field-0) in
    let k : comma (c.term.new.left, c.term.new.words) ≡ (false, (c.term.new.left, c.takes.new.self)) = rw (← c.takes.ensures) (ap (λ (b : Bool). (b, (c.term.new.left, c.takes.new.self))) c.if-not-takes.true) in
    rw pushed (ends (term_at c.args.depth) comma left_in (map selector_of c.terms.terms.items) 64 c.terms.counter (c.terms.left, c.terms.words) (c.term.new.left, c.term.new.words) (c.term.new.left, c.takes.new.self) (selector_of c.in_ok-term.field-0) _ c.terms-test.true c.in_ok-term.ensures k c.terms.invariant)

pub members-terms-preserved : goal.members-terms-preserved
members-terms-preserved t c =
    let pushed : map selector_of c.push.new.self.items ≡ map selector_of c.terms.terms.items ++ selector_of c.in_ok-term.field-0 ∷ [] = rw c.in_ok-push.ensures.items (map_push selector_of c.terms.terms.items c.in_ok-term.field-0) in
    let k : comma (c.term.new.left, c.term.new.words) ≡ (true, (c.term.new.left, c.takes.new.self)) = rw (← c.takes.ensures) (ap (λ (b : Bool). (b, (c.term.new.left, c.takes.new.self))) c.if-not-takes.false) in
    rw pushed (goes_on (term_at c.args.depth) comma left_in (map selector_of c.terms.terms.items) 64 c.terms.counter (c.terms.left, c.terms.words) (c.term.new.left, c.term.new.words) (c.term.new.left, c.takes.new.self) (selector_of c.in_ok-term.field-0) _ c.terms-test.true c.in_ok-term.ensures k c.terms.invariant)

pub members-returns-in_err-term-2 : goal.members-returns-in_err-term-2
members-returns-in_err-term-2 t c =
    let p = err_from_is_err_and c.from_residual-in_err-term-2.result c.from_residual-in_err-term-2.ensures.1 in
    rw (p.1, p.2) (fails c.in_err-term-2.field-0.0 (term_at c.args.depth) comma left_in (map selector_of c.terms.terms.items) (64 - c.terms.counter) (c.terms.left, c.terms.words) _ c.in_err-term-2.ensures c.terms.invariant)

pub members-returns : goal.members-returns
members-returns t c =
    let place : c.peek-token.result.place ≡ (first_of c.terms.words).place = ap (λ (w : Seen). w.place) c.peek-token.ensures in
    rw (c.is_too_many.ensures, place) (is_too_many (term_at c.args.depth) comma left_in (map selector_of c.terms.terms.items) 64 c.terms.counter (c.terms.left, c.terms.words) (c.term-2.new.left, c.term-2.new.words) (selector_of c.in_ok-term-2.field-0) _ c.terms-test.false c.in_ok-term-2.ensures c.terms.invariant)

pub term-returns-in_default : goal.term-returns-in_default
term-returns-in_default t c =
    let none = starts_none c.args.words.now (seen c.next-token.result.text.now c.next-token.result.place) c.next-token.ensures.token (sym c.form_of.ensures ∙ c.in_default.is) in
    rw c.fault.ensures (no_form c.args.depth c.args.left.now c.args.words.now _ none)

pub term-returns-then-depth-eq0 : goal.term-returns-then-depth-eq0
term-returns-then-depth-eq0 t c =
    let some = starts c.args.words.now (seen c.next-token.result.text.now c.next-token.result.place) c.in-Some.form c.next-token.ensures.token (sym c.form_of.ensures ∙ c.in-Some.is) in
    let place : c.next-token.result.place ≡ (first_of c.args.words.now).place = ap (λ (w : Seen). w.place) c.next-token.ensures.token in
    elim c.then-depth-eq0.branch [
      | term-then-depth-eq0-via-then-depth-eq0 w ↦ rw (c.is_too_many.ensures, place, w.if-depth-eq0.true) (too_deep c.args.left.now c.args.words.now _ c.in-Some.form some)
      | term-then-depth-eq0-via-else-depth-eq0+then-left-eq0 w ↦ rw (c.is_too_many.ensures, place, w.if-left-eq0.true) (one_too_many c.args.depth c.args.words.now _ c.in-Some.form some)
    ]

pub term-returns-in-Suffix : goal.term-returns-in-Suffix
term-returns-in-Suffix t c =
    let some = starts c.args.words.now (seen c.next-token.result.text.now c.next-token.result.place) c.in-Some.form c.next-token.ensures.token (sym c.form_of.ensures ∙ c.in-Some.is) in
    let alone = reads_alone c.read_suffix.result c.read_suffix.new.words (c.args.left.now - 1) _ c.read_suffix.ensures in
    rw (behind_form c.args.depth c.args.left.now c.args.words.now _ c.in-Some.form c.if-depth-eq0.false c.if-left-eq0.false some, c.in-Suffix.is, ← c.next-token.ensures.left) alone

pub term-returns-in-Masks : goal.term-returns-in-Masks
term-returns-in-Masks t c =
    let some = starts c.args.words.now (seen c.next-token.result.text.now c.next-token.result.place) c.in-Some.form c.next-token.ensures.token (sym c.form_of.ensures ∙ c.in-Some.is) in
    let alone = reads_alone c.read_masks.result c.read_masks.new.words (c.args.left.now - 1) _ c.read_masks.ensures in
    rw (behind_form c.args.depth c.args.left.now c.args.words.now _ c.in-Some.form c.if-depth-eq0.false c.if-left-eq0.false some, c.in-Masks.is, ← c.next-token.ensures.left) alone

pub term-returns-in-Qtype : goal.term-returns-in-Qtype
term-returns-in-Qtype t c =
    let some = starts c.args.words.now (seen c.next-token.result.text.now c.next-token.result.place) c.in-Some.form c.next-token.ensures.token (sym c.form_of.ensures ∙ c.in-Some.is) in
    let alone = reads_alone c.read_qtype.result c.read_qtype.new.words (c.args.left.now - 1) _ c.read_qtype.ensures in
    rw (behind_form c.args.depth c.args.left.now c.args.words.now _ c.in-Some.form c.if-depth-eq0.false c.if-left-eq0.false some, c.in-Qtype.is, ← c.next-token.ensures.left) alone

pub term-returns-in-MaxQps : goal.term-returns-in-MaxQps
term-returns-in-MaxQps t c =
    let some = starts c.args.words.now (seen c.next-token.result.text.now c.next-token.result.place) c.in-Some.form c.next-token.ensures.token (sym c.form_of.ensures ∙ c.in-Some.is) in
    let alone = reads_alone c.read_maxqps.result c.read_maxqps.new.words (c.args.left.now - 1) _ c.read_maxqps.ensures in
    rw (behind_form c.args.depth c.args.left.now c.args.words.now _ c.in-Some.form c.if-depth-eq0.false c.if-left-eq0.false some, c.in-MaxQps.is, ← c.next-token.ensures.left) alone
