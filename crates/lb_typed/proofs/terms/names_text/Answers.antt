use Rattle.std.proofs.Common.{◌≡◌, List, ℕ, [], string_bytes, length, ◌<◌, take, arith, refl, sym, ◌∙◌, ◌++◌, ◌∷◌}
use Rattle.std.specs.List.{AllByRecursion}
use Rattle.lb_command.specs.Values.{name_of}
use Rattle.lb_typed.specs.Typed.{IsTypedName}
use Rattle.lb_typed.proofs.Sets.{all_taken, first_typed, next_typed, of_one}
use Rattle.lb_typed.proofs.terms.names_text.Goals as goal

pub names-init : goal.names-init
names-init c = (sym c.len-count.ensures, λ each. first_typed name_of [] c.args.names.now (string_bytes c.in_ok-text.text) (omega (arith, c.len-count.ensures, c.if-count-eq0.false)) (c.in_ok-text.ensures (of_one IsTypedName [] c.args.names.now 0 (omega (arith, c.len-count.ensures, c.if-count-eq0.false)) each)))

pub names-preserved : goal.names-preserved
names-preserved c =
    let within : c.names.place < length c.args.names.now = omega (arith, c.names.invariant.0, c.names-test.true) in
    (c.names.invariant.0, λ each. next_typed name_of [] c.args.names.now c.names.place (string_bytes c.names.text) (string_bytes c.in_ok-word.word) (string_bytes c.push_word.new.text) within (c.names.invariant.1 each) (c.in_ok-word.ensures (of_one IsTypedName [] c.args.names.now c.names.place within each)) (rw c.as_str.ensures.value at c.in_ok-push_word.ensures))
