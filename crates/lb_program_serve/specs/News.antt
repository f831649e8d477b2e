-- What the loops learn of the servers.
use Rattle.std.specs.Prelude.{◌≡◌, ◌⊎◌, ◌==◌, if◌then◌else◌, length, Option, None, Some, option_map, IsSome}
use Rattle.std.specs.Int.NonZero.{non_zero_u16_get}
use Rattle.lb_step.specs.declared.answer.Answer.{Answer}
use Rattle.lb_step.specs.declared.answer.Answer.TheVariants.{Edited}
use Rattle.lb_step.specs.declared.answer.Note.{Note}
use Rattle.lb_step.specs.declared.answer.Note.TheVariants.{ServerAdded, ServerRemoved, ServerMode}
use Rattle.lb_step.specs.declared.event.Event.{Event}
use Rattle.lb_step.specs.Plain.{Plain}
use Rattle.lb_step.specs.Step.{Answers}
use Rattle.lb_loops_io.specs.Roster.{Rostered, most_servers, next_version, others, place_in}
use Rattle.lb_loops_io.specs.declared.endpoint.Endpoint.{Endpoint}
use Rattle.lb_loops_io.specs.declared.roster.Place.{Place}
use Rattle.lb_program.specs.Servers.{server_place}
use Rattle.lb_program.specs.declared.servers.ServerPlace.{ServerPlace}
use Rattle.lb_wire.specs.declared.ids.ServerId.{ServerId}
use Rattle.lb_program_serve.specs.declared.news.News.{News}

-- the server that a note says was added, put into a mode or removed
abbrev pub noted_server : Note → Option ServerId
noted_server (ServerAdded id) = Some id
noted_server (ServerRemoved id) = Some id
noted_server (ServerMode id mode) = Some id
noted_server _ = None

-- the same of an answer
abbrev pub changed_server : Answer → Option ServerId
changed_server (Edited note) = noted_server note
changed_server _ = None

-- a server, if an answer says that it was added, put into a mode or removed, and where the balancer has it right after that, if it
-- has it still
abbrev pub news_of : Plain → Answer → Option (ServerId × Option ServerPlace)
news_of plain answer = option_map (λ id. (id, server_place plain id)) (changed_server answer)

-- an event had this answer by a step of a balancer, and the news are what is so right after that step
abbrev pub IsNewsOf : Event → Answer → News → Type 0
IsNewsOf event answer news = (old new : Plain) × Answers old event answer new × (news.changed ≡ news_of new answer)

-- where a server is, as the loops have to know it
abbrev pub place_of : ServerPlace → Place
place_of server = record { at = record { addr = server.addr; port = non_zero_u16_get server.port }; mode = server.mode; must_resolve = server.must_resolve }

-- a roster has a server where this says, or has it no longer, and all others as before; or 256 others stand in it, and then nothing
-- has changed
abbrev pub Sets : ServerId → Option ServerPlace → Rostered → Rostered → Type 0
Sets id place old new =
    (((s : ServerId) → place_in s new.listed ≡ (if id.0 == s.0 then option_map place_of place else place_in s old.listed)) × (new.version ≡ next_version old.version))
    ⊎ (IsSome place × (length (others id old.listed) ≡ most_servers) × (new ≡ old))

-- a server is put into a roster
abbrev pub Puts : ServerPlace → Rostered → Rostered → Type 0
Puts server old new = Sets server.id (Some server) old new

-- a roster has a server that was announced no longer
abbrev pub Withdraws : Option ServerId → Rostered → Rostered → Type 0
Withdraws None old new = new ≡ old
Withdraws (Some id) old new = Sets id None old new

-- a roster has the server of which there are news as they say
abbrev pub Has : Option (ServerId × Option ServerPlace) → Rostered → Rostered → Type 0
Has None old new = new ≡ old
Has (Some (id, place)) old new = Sets id place old new

-- a roster learns news, once a server that was announced is out of it
abbrev pub Learns : Option ServerId → News → Rostered → Rostered → Type 0
Learns announced news old new = (mid : Rostered) × Withdraws announced old mid × Has news.changed mid new
