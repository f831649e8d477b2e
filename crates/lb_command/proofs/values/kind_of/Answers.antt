use Rattle.std.proofs.Common.{rules, tests, bytes_eq, ◌∙◌, [], ◌∷◌}
use Rattle.std.proofs.lemmas.Iterator.{YieldsList-from_slice}
use Rattle.std.proofs.lemmas.Iterator.Search.{find_from_yields_List}
use Rattle.lb_wire.specs.declared.transport.Kind.TheVariants.{Datagram, Stream}
use Rattle.lb_command.specs.Answers.{kind_text}
use Rattle.lb_command.proofs.values.kind_of.Goals as goal

pub returns : goal.returns
returns c =
    c.copied.ensures
    ∙ find_from_yields_List (λ kind. bytes_eq (kind_text kind) c.args.text.now) _ _ c.find.result c.find.ensures.ran (YieldsList-from_slice (Datagram ∷ Stream ∷ []) (cc)) (λ x b q k. search (rules, tests))
