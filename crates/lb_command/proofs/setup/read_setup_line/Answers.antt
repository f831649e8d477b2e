use Rattle.std.proofs.Common.{Ok, Err, rules}
use Rattle.lb_command.specs.declared.setup.SetupLine.{SetupLine}
use Rattle.lb_command.specs.Reading.{Answers}
use Rattle.lb_command.specs.Setup.{setup_of}
use Rattle.lb_command.specs.Grammar.{IsSetup}
use Rattle.lb_command.proofs.LineExact.{setup_again, setup_found, found_of, only_of}
use Rattle.lb_command.proofs.setup.read_setup_line.Goals as goal

read : (c : goal.In-Ok) → Answers (Ok c.in-Ok.line) (setup_of c.args.line.now)
read c = search rules

pub returns-in-Ok-clause-found : goal.returns-in-Ok-clause-found
returns-in-Ok-clause-found c = found_of (IsSetup c.args.line.now) (Ok c.in-Ok.line) (setup_of c.args.line.now) (setup_found c.args.line.now) (read c)

pub returns-in-Ok-clause-only : goal.returns-in-Ok-clause-only
returns-in-Ok-clause-only c = λ (x : SetupLine) h. only_of (Ok c.in-Ok.line) (setup_of c.args.line.now) x (setup_again c.args.line.now x h) (read c)

pub returns-in-Err-Fault-clause-only : goal.returns-in-Err-Fault-clause-only
returns-in-Err-Fault-clause-only c =
    let fault : Answers {X = SetupLine} (Err c.in-Err-Fault.fault) (setup_of c.args.line.now) = search rules in
    λ (x : SetupLine) h. only_of (Err c.in-Err-Fault.fault) (setup_of c.args.line.now) x (setup_again c.args.line.now x h) fault
