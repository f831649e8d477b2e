use Rattle.std.proofs.Common.{◌+◌, ◌<◌, ◌^◌, IsTrue, set, is_some, sym, ap, ◌∙◌}
use Rattle.std.proofs.lemmas.List.Elements.{All-get_or}
use Rattle.std.proofs.lemmas.List.Quantifiers.{position-Some}
use Rattle.lb_servers.specs.declared.server.Loaded.{Loaded}
use Rattle.lb_servers.specs.Server.{is_server, with_one_more}
use Rattle.lb_servers.proofs.ByNumber.{place_changed, unchanged}
use Rattle.lb_servers.proofs.server.began.Goals as goal

pub began-requires : goal.began-requires
began-requires c =
    let there = position-Some (is_server c.args.id) c.args.servers.now c.in-Some.at c.index-servers-at.result (sym c.place_of.ensures.place ∙ c.in-Some.is) in
    All-get_or (λ l. IsTrue (is_server c.args.id l) → l.outstanding + 1 < 2 ^ 64) c.args.servers.now c.in-Some.at c.index-servers-at.result there.0 c.requires.room there.1

pub returns-in-Some : goal.returns-in-Some
returns-in-Some c = ap (λ (l : Loaded). set c.args.servers.now c.in-Some.at l) c.began.ensures ∙ place_changed c.args.id with_one_more c.args.servers.now c.in-Some.at c.index-servers-at.result (c.requires.by_number, sym c.place_of.ensures.place ∙ c.in-Some.is)

pub returns-in_default : goal.returns-in_default
returns-in_default c = sym (unchanged c.args.id with_one_more c.args.servers.now (sym c.place_of.ensures.there ∙ ap is_some c.in_default.is))
