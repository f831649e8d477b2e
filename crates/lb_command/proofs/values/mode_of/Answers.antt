use Rattle.std.proofs.Common.{rules, tests, bytes_eq, ◌∙◌, [], ◌∷◌}
use Rattle.std.proofs.lemmas.Iterator.{YieldsList-from_slice}
use Rattle.std.proofs.lemmas.Iterator.Search.{find_from_yields_List}
use Rattle.lb_servers.specs.declared.server.Mode.TheVariants.{Up, Down, Auto}
use Rattle.lb_command.specs.Answers.{mode_text}
use Rattle.lb_command.proofs.values.mode_of.Goals as goal

pub returns : goal.returns
returns c =
    c.copied.ensures
    ∙ find_from_yields_List (λ mode. bytes_eq (mode_text mode) c.args.text.now) _ _ c.find.result c.find.ensures.ran (YieldsList-from_slice (Up ∷ Down ∷ Auto ∷ []) (cc)) (λ x b q k. search (rules, tests))
