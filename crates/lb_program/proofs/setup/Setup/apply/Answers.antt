use Rattle.std.proofs.Common.{◌≡◌, ◌+◌, ◌≤◌, ℕ, List, length, Ok, sym, ap, subst, refl, arith, rules}
use Rattle.std.proofs.lemmas.Result.{err_from_is_err_and}
use Rattle.std.proofs.lemmas.Iterator.Splits.{YieldsList-from_lines}
use Rattle.std.specs.Str.Iter.{lines_rest}
use Rattle.std.specs.Str.Lines.{lines}
use Rattle.lb_program.specs.Setup.{Applies, SetupEnd, told_before, told_from_number}
use Rattle.lb_program.proofs.SetupLines.{few_lines, line_comes, no_line_comes, stops_so}
use Rattle.lb_program.proofs.setup.Setup.apply.Goals as goal

pub loop-line-init : goal.loop-line-init
loop-line-init c =
    let text = c.args.text.now in
    let starts : lines_rest c.into_iter-line-iterator.result ≡ text = search rules in
    let few = few_lines text in
    let bound : 0 + length (lines text) ≤ 9223372036854775808 = omega (arith, few) in
    (lines text, (YieldsList-from_lines text starts).runs, bound, λ end applied. applied)

pub loop-line-preserved : goal.loop-line-preserved
loop-line-preserved c =
    let so = c.loop-line.invariant in
    let next = line_comes c.loop-line.line-iterator c.next.new.self c.in-Some.line so.0 so.1 c.in-Some.ensures.steps in
    let number = c.loop-line.number in
    let size = ap length next.1 in
    (next.0, next.2, omega (arith, so.2, size), λ end applied. so.3 end (subst (λ (told : List (List ℕ)). Applies (told_from_number (number + 1) told) c.loop-line.self c.loop-line.balancer end) (sym next.1) (c.in_ok-apply_line.ensures.on (told_from_number (number + 1 + 1) next.0) end applied)))

pub returns-in_err-apply_line : goal.returns-in_err-apply_line
returns-in_err-apply_line c =
    let p = err_from_is_err_and c.from_residual.result c.from_residual.ensures.1 in
    let so = c.loop-line.invariant in
    let next = line_comes c.loop-line.line-iterator c.next.new.self c.in-Some.line so.0 so.1 c.in-Some.ensures.steps in
    let number = c.loop-line.number in
    rw (p.1, p.2) (stops_so c.in_err-apply_line.field-0.0 (λ (end : SetupEnd). (others : List (ℕ × List ℕ)) → Applies (told_before (number + 1) c.in-Some.line.now others) c.loop-line.self c.loop-line.balancer end) _
    (λ end holds. so.3 end (subst (λ (told : List (List ℕ)). Applies (told_from_number (number + 1) told) c.loop-line.self c.loop-line.balancer end) (sym next.1) (holds (told_from_number (number + 1 + 1) next.0))))
    c.in_err-apply_line.ensures.stops)

pub returns : goal.returns
returns c =
    let so = c.loop-line.invariant in
    let none = no_line_comes _ _ so.0 so.1 c.in-None.ensures.steps in
    so.3 _ (subst (λ (told : List (List ℕ)). Applies (told_from_number (c.loop-line.number + 1) told) c.loop-line.self c.loop-line.balancer (Ok (c.loop-line.self, c.loop-line.balancer))) (sym none) refl)
