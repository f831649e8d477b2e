use Rattle.std.proofs.Common.{◌∙◌, ℕ, List, [], Ok, ap, sym, arith}
use Rattle.lb_name.proofs.Names.{IsWire-read, labels_of-read, IsName-root}
use Rattle.lb_name.proofs.CutAtDots.{length-cut, IsName-text, root_text, other_text, long_text, short_text}
use Rattle.lb_name.proofs.name.Name.parse_text.Goals as goal

pub invariant_of-result : goal.invariant_of-result
invariant_of-result c = IsWire-read _ [] IsName-root c.copied.ensures

pub returns-then-is_dot_alone : goal.returns-then-is_dot_alone
returns-then-is_dot_alone c =
    let is = labels_of-read c.copied.result.items [] IsName-root c.copied.ensures in
    ap (λ (ls : List (List ℕ)). Ok ls) is ∙ sym (root_text _ _ _ c.as_bytes-text.ensures.value c.is_dot_alone.ensures c.if-is_dot_alone.true)

pub returns-then-text-gt-MAX_TEXT : goal.returns-then-text-gt-MAX_TEXT
returns-then-text-gt-MAX_TEXT c =
    let none = sym c.text_fault.ensures ∙ c.in_default.is in
    sym (other_text _ _ _ _ c.as_bytes-text.ensures.value c.is_dot_alone.ensures c.if-is_dot_alone.false c.without_end_dot-text.ensures ∙ long_text c.without_end_dot-text.result.now none (omega arith))

pub text_wire-requires-clause-fits : goal.text_wire-requires-clause-fits
text_wire-requires-clause-fits c = omega (arith, length-cut c.without_end_dot-text.result.now)

pub invariant_of-result-2 : goal.invariant_of-result-2
invariant_of-result-2 c =
    let none = sym c.text_fault.ensures ∙ c.in_default.is in
    IsWire-read _ _ (IsName-text c.without_end_dot-text.result.now none (omega arith)) c.text_wire.ensures

pub returns : goal.returns
returns c =
    let none = sym c.text_fault.ensures ∙ c.in_default.is in
    let is = labels_of-read _ _ (IsName-text c.without_end_dot-text.result.now none (omega arith)) c.text_wire.ensures in
    ap (λ (ls : List (List ℕ)). Ok ls) is ∙ sym (other_text _ _ _ _ c.as_bytes-text.ensures.value c.is_dot_alone.ensures c.if-is_dot_alone.false c.without_end_dot-text.ensures ∙ short_text c.without_end_dot-text.result.now none (omega arith))
