use Rattle.std.proofs.Common.{ℕ, List, ◌++◌, ◌∙◌, ap}
use Rattle.lb_wire.proofs.Spoofs.{spoofed_there}
use Rattle.lb_wire.proofs.spoof.spoofed.Goals as goal

pub returns-clause-octets : goal.returns-clause-octets
returns-clause-octets c =
    let cut = c.in_ok-extend_from_slice.ensures.items ∙ ap (λ (xs : List ℕ). xs ++ c.split_at.result.0.now) c.in_ok-answer.ensures.items ∙ c.split_at.ensures.front in
    spoofed_there c.args.bytes.now _ _ _ _ _ c.args.view.now c.args.addrs.now _ c.answer-flags.result _ _ c.requires.view.1 c.requires.view.3 cut c.in_ok-answers.ensures.octets c.in_ok-additionals.ensures.octets c.in_ok-answers.ensures.number c.in_ok-additionals.ensures.number c.answer-flags.ensures c.made_header.ensures c.put_header.ensures.octets
