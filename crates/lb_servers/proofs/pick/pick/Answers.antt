use Rattle.std.proofs.Common.{option_map, ap, ◌∙◌}
use Rattle.std.specs.List.{reduce}
use Rattle.lb_servers.specs.declared.server.Loaded.{Loaded}
use Rattle.lb_servers.specs.Pick.{less_loaded}
use Rattle.lb_servers.proofs.UpServers.{all_at, nth_at, turn_at}
use Rattle.lb_servers.proofs.pick.pick.Goals as goal

pub returns-in-FirstAvailable : goal.returns-in-FirstAvailable
returns-in-FirstAvailable c = λ those stand. rw c.in-FirstAvailable.is (c.nth_up.ensures ∙ ap (option_map (λ (l : Loaded). l.server.id)) (nth_at c.args.servers.now c.args.ups.now those 0 stand))

pub returns-in-LeastOutstanding : goal.returns-in-LeastOutstanding
returns-in-LeastOutstanding c = λ those stand. rw c.in-LeastOutstanding.is (c.least_id.ensures ∙ ap (λ ls. option_map (λ l. l.server.id) (reduce less_loaded ls)) (all_at c.args.servers.now c.args.ups.now those stand))

pub returns-in-RoundRobin : goal.returns-in-RoundRobin
returns-in-RoundRobin c = λ those stand. rw c.in-RoundRobin.is (c.in_turn.ensures ∙ ap (option_map (λ (l : Loaded). l.server.id)) (turn_at c.args.servers.now c.args.ups.now those c.args.turn stand))
