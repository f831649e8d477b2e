-- Where the servers of a balancer are, as what sends to them has to know it.
use Rattle.std.specs.Prelude.{◌==◌, ◌&&◌, Bool, List, map, Option, option_map}
use Rattle.std.specs.List.{find, list_any}
use Rattle.lb_wire.specs.declared.ids.ServerId.{ServerId}
use Rattle.lb_servers.specs.declared.server.Server.{Server}
use Rattle.lb_step.specs.Plain.{Plain}
use Rattle.lb_step.specs.declared.check.Check.{Check}
use Rattle.lb_core.specs.Laws.{has_number}
use Rattle.lb_program.specs.declared.servers.ServerPlace.{ServerPlace}

-- a health check is that of a server, and says that a probe's name has to be resolved
abbrev pub has_to_resolve : ServerId → Check → Bool
has_to_resolve id check = (check.server.0 == id.0) && check.must_resolve

-- where a server is, with what its health check says
abbrev pub placed : List Check → Server → ServerPlace
placed checks server = record {
  id = server.id;
  addr = server.addr;
  port = server.port;
  mode = server.mode;
  must_resolve = list_any (has_to_resolve server.id) checks;
  lanes = server.lanes;
}

-- where the server with a number is, if the balancer has one
abbrev pub server_place : Plain → ServerId → Option ServerPlace
server_place plain id = option_map (placed plain.checks) (find (has_number id) plain.servers)

-- where all servers of the balancer are, by number
abbrev pub server_places : Plain → List ServerPlace
server_places plain = map (placed plain.checks) plain.servers
