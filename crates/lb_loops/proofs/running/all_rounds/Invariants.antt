use Rattle.lb_loops.proofs.running.all_rounds.Given as goal

abbrev pub invariant-loop : goal.invariant-loop
invariant-loop g l =
    (goal.iterator-loop g).can_next l.iterator' × (goal.iterator-loop g).is_finite l.iterator'
    × g.L.Rounds.goes_on l.fn.part l.part
