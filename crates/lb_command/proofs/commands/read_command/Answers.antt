use Rattle.std.proofs.Common.{Ok, Err, rules}
use Rattle.lb_step.specs.declared.command.Command.{Command}
use Rattle.lb_command.specs.Reading.{Answers}
use Rattle.lb_command.specs.Commands.{command_of}
use Rattle.lb_command.specs.Grammar.{IsCommand}
use Rattle.lb_command.proofs.LineExact.{command_again, command_found, found_of, only_of}
use Rattle.lb_command.proofs.commands.read_command.Goals as goal

read : (c : goal.In-Ok) → Answers (Ok c.in-Ok.command) (command_of c.args.line.now)
read c = search rules

pub returns-in-Ok-clause-found : goal.returns-in-Ok-clause-found
returns-in-Ok-clause-found c = found_of (IsCommand c.args.line.now) (Ok c.in-Ok.command) (command_of c.args.line.now) (command_found c.args.line.now) (read c)

pub returns-in-Ok-clause-only : goal.returns-in-Ok-clause-only
returns-in-Ok-clause-only c = λ (x : Command) h. only_of (Ok c.in-Ok.command) (command_of c.args.line.now) x (command_again c.args.line.now x h) (read c)

pub returns-in-Err-Fault-clause-only : goal.returns-in-Err-Fault-clause-only
returns-in-Err-Fault-clause-only c =
    let fault : Answers {X = Command} (Err c.in-Err-Fault.fault) (command_of c.args.line.now) = search rules in
    λ (x : Command) h. only_of (Err c.in-Err-Fault.fault) (command_of c.args.line.now) x (command_again c.args.line.now x h) fault
