use Rattle.std.proofs.Common.{◌≡◌, ℕ, List, None, Some, sym, subst, ◌∙◌, ap}
use Rattle.lb_wire.specs.declared.key.Key.{Key}
use Rattle.lb_step.specs.declared.answer.Answer.{Answer}
use Rattle.lb_step.specs.Forward.{Forwards}
use Rattle.lb_step.specs.Look.{Hits, PoolAnswers}
use Rattle.lb_step.specs.declared.answer.Answer.TheVariants.{Local}
use Rattle.lb_step.specs.declared.answer.LocalReason.TheVariants as locals
use Rattle.lb_step.proofs.AskSo.{pool_none, pool_so, each_answer}
use Rattle.lb_step.proofs.look.answer_by_pool.Goals as goal

pub returns-in_default-clause-answers : goal.returns-in_default-clause-answers
returns-in_default-clause-answers c =
    let of = c.requires.view in
    let ups = c.args.upstream.now in
    let new = c.forward.new.upstream in
    each_answer (λ answer. Forwards ups c.args.asked.now c.args.bytes.items c.args.view.now c.args.routed None answer new)
    (λ answer. PoolAnswers ups c.args.asked.now c.args.bytes.items c.args.view.now c.args.routed answer new) c.forward.result c.forward.ensures.forwards
    (λ answer forwards. pool_none ups new c.args.asked.now c.args.bytes.items c.args.view.now c.args.routed of.0 answer of.1 of.3 (sym c.cache_asked.ensures ∙ c.in_default.is) forwards)

pub returns-in-Some-look-clause-answers : goal.returns-in-Some-look-clause-answers
returns-in-Some-look-clause-answers c =
    let of = c.requires.view in
    let ups = c.args.upstream.now in
    let hit = c.in-Some-look.hit in
    each_answer (λ answer. (octets : List ℕ) × Hits c.args.view.now hit.bytes.now hit.secs octets × (answer ≡ Local octets locals.Hit))
    (λ answer. PoolAnswers ups c.args.asked.now c.args.bytes.items c.args.view.now c.args.routed answer ups) c.hit_answer.result c.hit_answer.ensures.answer
    (λ answer hits.
    pool_so ups ups c.args.asked.now c.args.bytes.items c.args.view.now c.args.routed of.0 c.in-Some.cache c.in-Ok.octets _ answer of.1 of.3
    (sym c.cache_asked.ensures ∙ c.in-Some.is) (c.in-Ok.ensures.key of.0 of.1) c.in-Some-look.ensures.found
    (hits.0, hits.1, ap (λ (a : Answer). (ups, a)) hits.2))

pub returns-clause-answers : goal.returns-clause-answers
returns-clause-answers c =
    let of = c.requires.view in
    let ups = c.args.upstream.now in
    let new = c.forward-2.new.upstream in
    let key : Key = record { kind = c.args.asked.now.kind; octets = c.in-Ok.octets } in
    let cache = c.in-Some.cache in
    each_answer (λ answer. Forwards ups c.args.asked.now c.key_to_send.new.bytes.items c.args.view.now c.args.routed (Some (cache, key)) answer new)
    (λ answer. PoolAnswers ups c.args.asked.now c.args.bytes.items c.args.view.now c.args.routed answer new) c.forward-2.result c.forward-2.ensures.forwards
    (λ answer forwards.
    pool_so ups new c.args.asked.now c.args.bytes.items c.args.view.now c.args.routed of.0 cache c.in-Ok.octets None answer of.1 of.3
    (sym c.cache_asked.ensures ∙ c.in-Some.is) (c.in-Ok.ensures.key of.0 of.1) c.in_default-look.ensures.found
    (subst (λ (b : List ℕ). Forwards ups c.args.asked.now b c.args.view.now c.args.routed (Some (cache, key)) answer new) c.in-Ok.ensures.unchanged forwards))
