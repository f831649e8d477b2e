use Rattle.std.proofs.Common.{◌+◌, get_or, inl, inr, refl, arith, rules}
use Rattle.std.proofs.lemmas.List.{length-drop}
use Rattle.lb_wire.proofs.Lists.{octet_at}
use Rattle.lb_wire.proofs.Owners.{no_owner_cut, no_owner, ends_root, ends_pointer}
use Rattle.lb_wire.proofs.owner.owner_len.Goals as goal
use Rattle.lb_wire.proofs.owner.owner_len.Goals.{then-octets-end-via-then-octets-end, then-octets-end-via-else-octets-end+then-end-gt-MAX_NAME, then-octets-next-via-then-octets-next, then-octets-next-via-else-octets-next+then-next-gt-MAX_NAME}

pub returns-in_default-clause-none : goal.returns-in_default-clause-none
returns-in_default-clause-none c = no_owner_cut c.labels_go_on.ensures _ _ c.loop-octet.invariant (search rules)

pub returns-then-octet-eq0-clause-found : goal.returns-then-octet-eq0-clause-found
returns-then-octet-eq0-clause-found c =
    let here = octet_at c.args.octets.now c.loop-octet.len c.in-Some.octet (search rules) (search rules) in
    ends_root _ _ _ c.loop-octet.invariant here (search rules) (search rules)

pub returns-then-octet-ge-LABEL_END-clause-none : goal.returns-then-octet-ge-LABEL_END-clause-none
returns-then-octet-ge-LABEL_END-clause-none c =
    let here = octet_at c.args.octets.now c.loop-octet.len c.in-Some.octet (search rules) (search rules) in
    no_owner c.labels_go_on.ensures _ _ _ _ c.loop-octet.invariant here (λ way. elim way [ inl root ↦ omega arith | inr others ↦ elim others [ inl pointer ↦ omega arith | inr label ↦ omega arith ] ])

pub returns-then-octet-ge-POINTER-clause-found : goal.returns-then-octet-ge-POINTER-clause-found
returns-then-octet-ge-POINTER-clause-found c =
    let here = octet_at c.args.octets.now c.loop-octet.len c.in-Some.octet (search rules) (search rules) in
    let next = octet_at c.args.octets.now (c.loop-octet.len + 1) (get_or c.args.octets.now (c.loop-octet.len + 1) 0) (omega arith) refl in
    ends_pointer _ _ _ _ c.loop-octet.invariant here next (search rules) (search rules) (search rules) (search rules) (search rules)

pub returns-then-octets-end-clause-none : goal.returns-then-octets-end-clause-none
returns-then-octets-end-clause-none c =
    let here = octet_at c.args.octets.now c.loop-octet.len c.in-Some.octet (search rules) (search rules) in
    let size = length-drop (c.loop-octet.len + 1) c.args.octets.now in
    no_owner c.labels_go_on.ensures _ _ _ _ c.loop-octet.invariant here (λ way. elim way [
      | inl root ↦ omega arith
      | inr others ↦ elim others [
        | inl pointer ↦ elim c.then-octets-end.branch [ then-octets-end-via-then-octets-end w ↦ omega (arith, size) | then-octets-end-via-else-octets-end+then-end-gt-MAX_NAME w ↦ omega arith ]
        | inr label ↦ omega arith
      ]
    ])

pub returns-then-octets-next-clause-none : goal.returns-then-octets-next-clause-none
returns-then-octets-next-clause-none c =
    let here = octet_at c.args.octets.now c.loop-octet.len c.in-Some.octet (search rules) (search rules) in
    let size = length-drop (c.loop-octet.len + 1) c.args.octets.now in
    no_owner c.labels_go_on.ensures _ _ _ _ c.loop-octet.invariant here (λ way. elim way [
      | inl root ↦ omega arith
      | inr others ↦ elim others [
        | inl pointer ↦ omega arith
        | inr label ↦ elim c.then-octets-next.branch [ then-octets-next-via-then-octets-next w ↦ omega (arith, size) | then-octets-next-via-else-octets-next+then-next-gt-MAX_NAME w ↦ omega arith ]
      ]
    ])

pub loop-octet-preserved : goal.loop-octet-preserved
loop-octet-preserved c =
    let here = octet_at c.args.octets.now c.loop-octet.len c.from.result (search rules) (search rules) in
    c.label_is_passed.ensures _ _ _ c.loop-octet.invariant here (omega arith) (omega arith) (omega arith) (omega arith)
