use Rattle.std.proofs.Common.{◌≡◌, ◌-◌, ℕ, length, take, ap, ◌∙◌, arith, rules}
use Rattle.std.proofs.Math.Seq.{take-length}
use Rattle.std.proofs.lemmas.Str.{is_utf8-from_IsUtf8}
use Rattle.std.specs.Str.{is_utf8}
use Rattle.lb_program.proofs.Texts.{never_text, text_before_return}
use Rattle.lb_program.proofs.line.tail_len.Goals as goal

pub returns-in-Ok-clause-text : goal.returns-in-Ok-clause-text
returns-in-Ok-clause-text c = text_before_return c.args.bytes.now c.in-Ok.ensures.cases.1 (search rules) (search rules)

pub returns-in-Ok-2-clause-text : goal.returns-in-Ok-2-clause-text
returns-in-Ok-2-clause-text c =
    let same : length c.args.bytes.now - 0 ≡ length c.args.bytes.now = omega arith in
    let all : take (length c.args.bytes.now - 0) c.args.bytes.now ≡ c.args.bytes.now = ap (λ (n : ℕ). take n c.args.bytes.now) same ∙ take-length c.args.bytes.now in
    ap is_utf8 all ∙ is_utf8-from_IsUtf8 c.args.bytes.now c.in-Ok-2.ensures.cases.1

pub returns-then-len-lt4-clause-text : goal.returns-then-len-lt4-clause-text
returns-then-len-lt4-clause-text c =
    let bytes = c.args.bytes.now in
    let valid = c.in-Err.ensures.cases.1 in
    let short = valid.short in
    let at = c.valid_up_to.ensures in
    let same : length bytes - (length bytes - c.valid_up_to.result) ≡ c.valid_up_to.result = omega (arith, short, at) in
    ap (λ (n : ℕ). is_utf8 (take n bytes)) (same ∙ at) ∙ is_utf8-from_IsUtf8 _ valid.front

pub returns-else-len-lt4-clause-never : goal.returns-else-len-lt4-clause-never
returns-else-len-lt4-clause-never c =
    let bytes = c.args.bytes.now in
    let valid = c.in-Err.ensures.cases.1 in
    let short = valid.short in
    let at = c.valid_up_to.ensures in
    let far = c.if-len-lt4.false in
    never_text bytes _ valid (omega (arith, short, at, far))
