use Rattle.std.proofs.Common.{◌≡◌, ◌≤◌, map, vec_capacity, arith}
use Rattle.std.proofs.lemmas.Result.{IfOk-at_ok}
use Rattle.lb_loops.specs.Running.{HaveGoneOn}
use Rattle.lb_loops.proofs.GoingOn.{as_many, with_last}
use Rattle.lb_loops.proofs.row.+row.Goals as goal

pub push_reserved-requires : goal.push_reserved-requires
push_reserved-requires g t c =
    let gone = IfOk-at_ok (λ all. HaveGoneOn g.T.Taker.answered (map (λ part. part.taker) c.pop.new.self.items) all.items) c.in_ok-takers.was c.join-others.ensures.first.0 in
    let room = IfOk-at_ok (λ all. vec_capacity all ≡ vec_capacity c.args.takers) c.in_ok-takers.was c.join-others.ensures.first.1 in
    let many = as_many g.T.Taker.answered (λ part. part.taker) c.pop.new.self.items c.in_ok-takers.takers.items gone in
    let left = c.in-Some.ensures.len in
    omega (arith, many, room, left, c.requires.room)

pub returns-clause-gone_on : goal.returns-clause-gone_on
returns-clause-gone_on g t c =
    let gone = IfOk-at_ok (λ all. HaveGoneOn g.T.Taker.answered (map (λ part. part.taker) c.pop.new.self.items) all.items) c.in_ok-takers.was c.join-others.ensures.first.0 in
    let on = IfOk-at_ok (λ taker. g.T.Taker.answered c.in-Some.last.taker ≤ g.T.Taker.answered taker) c.in_ok-last.was c.join-others.ensures.second in
    let both = with_last g.T.Taker.answered (λ part. part.taker) c.pop.new.self.items c.in-Some.last c.in_ok-takers.takers.items c.in_ok-last.field-0 gone on in
    rw (c.in-Some.ensures.items, c.push_reserved.ensures.items) both
