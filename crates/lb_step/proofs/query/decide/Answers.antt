use Rattle.lb_step.specs.Look.{PoolAnswers}
use Rattle.lb_step.specs.Query.{Decides}
use Rattle.lb_step.proofs.AskSo.{each_answer}
use Rattle.lb_step.proofs.Decided.{by_allow, by_none, by_pool}
use Rattle.lb_step.proofs.query.decide.Goals as goal

pub returns-in_default-clause-decides : goal.returns-in_default-clause-decides
returns-in_default-clause-decides c =
    let ups = c.args.upstream.now in
    let new = c.answer_by_pool.new.upstream in
    let routed = c.to_pool-routed.result in
    each_answer (λ answer. PoolAnswers ups c.args.asked.now c.args.bytes.items c.args.view.now routed answer new)
    (λ answer. Decides ups c.args.asked.now c.args.bytes.items c.args.view.now c.args.walked.now answer new) c.answer_by_pool.result c.answer_by_pool.ensures.answers
    (λ answer answers. by_none ups new c.args.asked.now c.args.bytes.items c.args.view.now c.args.walked.now routed answer c.in_default.is c.to_pool-routed.ensures answers)

pub returns-in-Allow-clause-decides : goal.returns-in-Allow-clause-decides
returns-in-Allow-clause-decides c =
    let ups = c.args.upstream.now in
    let new = c.answer_by_pool-in-Allow.new.upstream in
    let routed = c.to_pool-routed-in-Allow.result in
    each_answer (λ answer. PoolAnswers ups c.args.asked.now c.args.bytes.items c.args.view.now routed answer new)
    (λ answer. Decides ups c.args.asked.now c.args.bytes.items c.args.view.now c.args.walked.now answer new) c.answer_by_pool-in-Allow.result c.answer_by_pool-in-Allow.ensures.answers
    (λ answer answers. by_allow ups new c.args.asked.now c.args.bytes.items c.args.view.now c.args.walked.now routed answer c.in-Some.rule c.in-Some.is c.in-Allow.is c.to_pool-routed-in-Allow.ensures answers)

pub returns-in-Pool-clause-decides : goal.returns-in-Pool-clause-decides
returns-in-Pool-clause-decides c =
    let ups = c.args.upstream.now in
    let new = c.answer_by_pool-in-Pool.new.upstream in
    let routed = c.to_pool-routed-in-Pool.result in
    each_answer (λ answer. PoolAnswers ups c.args.asked.now c.args.bytes.items c.args.view.now routed answer new)
    (λ answer. Decides ups c.args.asked.now c.args.bytes.items c.args.view.now c.args.walked.now answer new) c.answer_by_pool-in-Pool.result c.answer_by_pool-in-Pool.ensures.answers
    (λ answer answers. by_pool ups new c.args.asked.now c.args.bytes.items c.args.view.now c.args.walked.now routed answer c.in-Some.rule c.in-Pool.pool c.in-Some.is c.in-Pool.is c.to_pool-routed-in-Pool.ensures answers)
