use Rattle.std.proofs.Common.{arith, rules}
use Rattle.std.proofs.lemmas.List.{length-drop}
use Rattle.lb_name.proofs.Passed.{fault_at, Passed-more, octet_at}
use Rattle.lb_name.proofs.name.name_len.Goals as goal

pub returns-then-octet-ge-POINTER-clause-fault : goal.returns-then-octet-ge-POINTER-clause-fault
returns-then-octet-ge-POINTER-clause-fault c =
    let here = octet_at c.args.octets.now c.loop-octet.len c.in-Some.octet (search rules) (search rules) in
    fault_at _ _ _ _ _ c.loop-octet.invariant here (omega arith)

pub returns-then-octet-ge-LABEL_END-clause-fault : goal.returns-then-octet-ge-LABEL_END-clause-fault
returns-then-octet-ge-LABEL_END-clause-fault c =
    let here = octet_at c.args.octets.now c.loop-octet.len c.in-Some.octet (search rules) (search rules) in
    fault_at _ _ _ _ _ c.loop-octet.invariant here (omega arith, omega arith)

pub returns-then-octets-next-clause-fault : goal.returns-then-octets-next-clause-fault
returns-then-octets-next-clause-fault c =
    let here = octet_at c.args.octets.now c.loop-octet.len c.in-Some.octet (search rules) (search rules) in
    fault_at _ _ _ _ _ c.loop-octet.invariant here (omega arith, omega arith, simp length-drop (omega arith))

pub returns-then-next-gt-MAX_NAME-clause-fault : goal.returns-then-next-gt-MAX_NAME-clause-fault
returns-then-next-gt-MAX_NAME-clause-fault c =
    let here = octet_at c.args.octets.now c.loop-octet.len c.in-Some.octet (search rules) (search rules) in
    fault_at _ _ _ _ _ c.loop-octet.invariant here (omega arith, omega arith, simp length-drop (omega arith), omega arith)

pub loop-octet-preserved : goal.loop-octet-preserved
loop-octet-preserved c =
    let here = octet_at c.args.octets.now c.loop-octet.len c.from.result (search rules) (search rules) in
    Passed-more _ _ _ c.loop-octet.invariant here (omega arith) (omega arith) (omega arith) (omega arith)
