use Rattle.std.proofs.Common.{Ok, Err, rules}
use Rattle.lb_step.specs.declared.event.Event.{Event}
use Rattle.lb_command.specs.Reading.{Answers}
use Rattle.lb_command.specs.Events.{event_of}
use Rattle.lb_command.specs.Grammar.{IsEvent}
use Rattle.lb_command.proofs.LineExact.{event_again, event_found, found_of, only_of}
use Rattle.lb_command.proofs.events.read_event_line.Goals as goal

read : (c : goal.In-Ok) → Answers (Ok c.in-Ok.event) (event_of c.args.line.now)
read c = search rules

pub returns-in-Ok-clause-found : goal.returns-in-Ok-clause-found
returns-in-Ok-clause-found c = found_of (IsEvent c.args.line.now) (Ok c.in-Ok.event) (event_of c.args.line.now) (event_found c.args.line.now) (read c)

pub returns-in-Ok-clause-only : goal.returns-in-Ok-clause-only
returns-in-Ok-clause-only c = λ (x : Event) h. only_of (Ok c.in-Ok.event) (event_of c.args.line.now) x (event_again c.args.line.now x h) (read c)

pub returns-in-Err-Fault-clause-only : goal.returns-in-Err-Fault-clause-only
returns-in-Err-Fault-clause-only c =
    let fault : Answers {X = Event} (Err c.in-Err-Fault.fault) (event_of c.args.line.now) = search rules in
    λ (x : Event) h. only_of (Err c.in-Err-Fault.fault) (event_of c.args.line.now) x (event_again c.args.line.now x h) fault
