use Rattle.std.proofs.Common.{◌≡◌, refl, sym, ◌∙◌, subst}
use Rattle.lb_loops_connections.specs.Table.{at}
use Rattle.lb_loops_tcp.proofs.Going.{goes_put}
use Rattle.lb_loops_tcp.proofs.GivingUp.{Takes, goes_given_up, goes_unput, misses_unput, unput_others}
use Rattle.lb_loops_tcp.proofs.Settling.{undone_waits}
use Rattle.lb_loops_tcp.proofs.links.Links.promise.Goals as goal
use Rattle.lb_loops_tcp.specs.Goes.{Goes, Misses, just, none}
use Rattle.lb_loops_tcp.specs.Links.{Net}

pub returns-in-Ok-clause-goes : goal.returns-in-Ok-clause-goes
returns-in-Ok-clause-goes g c =
    let old : Net = record { told = g.S.Streams.told c.self.inside.sockets; table = c.self.inside.table; device = c.self.inside.device } in
    let new : Net = record { told = g.S.Streams.told c.self.inside.sockets; table = c.promise.new.self; device = c.self.inside.device } in
    subst (λ (z : Net). Goes z new none (just c.args.number c.args.message.now)) c.self.view_is (goes_put c.args.number old new c.args.message.now c.in-Ok.ensures.put refl refl)

pub returns-then-not-is_given_up-clause-goes : goal.returns-then-not-is_given_up-clause-goes
returns-then-not-is_given_up-clause-goes g c =
    let old : Net = record { told = g.S.Streams.told c.self.inside.sockets; table = c.self.inside.table; device = c.self.inside.device } in
    let new : Net = record { told = g.S.Streams.told c.self.inside.sockets; table = c.promise.new.self; device = c.self.inside.device } in
    subst (λ (z : Net). Goes z new none none) c.self.view_is (goes_unput c.args.number old new c.args.message.now c.in-Err.why c.in-Err.ensures.why refl refl)

pub returns-then-not-is_given_up-clause-why : goal.returns-then-not-is_given_up-clause-why
returns-then-not-is_given_up-clause-why g c =
    let old : Net = record { told = g.S.Streams.told c.self.inside.sockets; table = c.self.inside.table; device = c.self.inside.device } in
    let new : Net = record { told = g.S.Streams.told c.self.inside.sockets; table = c.promise.new.self; device = c.self.inside.device } in
    subst (λ (z : Net). Misses z new c.args.number c.args.message.now c.in-Err.why) c.self.view_is
    (misses_unput c.args.number old new c.args.message.now c.in-Err.why c.in-Err.ensures.why (sym c.is_given_up.ensures ∙ c.if-not-is_given_up.true))

pub returns-clause-goes : goal.returns-clause-goes
returns-clause-goes g c =
    let old : Net = record { told = g.S.Streams.told c.self.inside.sockets; table = c.self.inside.table; device = c.self.inside.device } in
    let new : Net = record { told = g.S.Streams.told c.close.new.self; table = c.take.new.self; device = c.self.inside.device } in
    let takes : Takes c.args.number c.promise.new.self c.take.new.self c.take.result = record {
      here = c.take.ensures.here;
      number = c.take.ensures.number;
      gone = c.take.ensures.gone;
      others = c.take.ensures.others;
      clients = c.take.ensures.clients;
      next = c.take.ensures.same.0;
      refusals = c.take.ensures.same.1;
    } in
    subst (λ (z : Net). Goes z new none none) c.self.view_is
    (goes_given_up c.args.number old new c.promise.new.self c.args.message.now c.take.result c.in-Err.why c.in-Err.ensures.why (sym c.is_given_up.ensures ∙ c.if-not-is_given_up.false) takes c.close.ensures.same refl).0

pub returns-clause-why : goal.returns-clause-why
returns-clause-why g c =
    let old : Net = record { told = g.S.Streams.told c.self.inside.sockets; table = c.self.inside.table; device = c.self.inside.device } in
    let new : Net = record { told = g.S.Streams.told c.close.new.self; table = c.take.new.self; device = c.self.inside.device } in
    let takes : Takes c.args.number c.promise.new.self c.take.new.self c.take.result = record {
      here = c.take.ensures.here;
      number = c.take.ensures.number;
      gone = c.take.ensures.gone;
      others = c.take.ensures.others;
      clients = c.take.ensures.clients;
      next = c.take.ensures.same.0;
      refusals = c.take.ensures.same.1;
    } in
    subst (λ (z : Net). Misses z new c.args.number c.args.message.now c.in-Err.why) c.self.view_is
    (goes_given_up c.args.number old new c.promise.new.self c.args.message.now c.take.result c.in-Err.why c.in-Err.ensures.why (sym c.is_given_up.ensures ∙ c.if-not-is_given_up.false) takes c.close.ensures.same refl).1

pub returns-in-Ok-clause-waits : goal.returns-in-Ok-clause-waits
returns-in-Ok-clause-waits g c =
    let old : Net = record { told = g.S.Streams.told c.self.inside.sockets; table = c.self.inside.table; device = c.self.inside.device } in
    let new : Net = record { told = g.S.Streams.told c.self.inside.sockets; table = c.promise.new.self; device = c.self.inside.device } in
    undone_waits c.args.number c.args.message.now old new c.in-Ok.ensures.put

pub returns-in-Ok-clause-others : goal.returns-in-Ok-clause-others
returns-in-Ok-clause-others g c =
    let new : Net = record { told = g.S.Streams.told c.self.inside.sockets; table = c.promise.new.self; device = c.self.inside.device } in
    λ k apart. subst (λ (z : Net). at k new.table ≡ at k z.table) c.self.view_is (c.in-Ok.ensures.put.swaps.others k apart)

pub returns-then-not-is_given_up-clause-others : goal.returns-then-not-is_given_up-clause-others
returns-then-not-is_given_up-clause-others g c =
    let old : Net = record { told = g.S.Streams.told c.self.inside.sockets; table = c.self.inside.table; device = c.self.inside.device } in
    let new : Net = record { told = g.S.Streams.told c.self.inside.sockets; table = c.promise.new.self; device = c.self.inside.device } in
    λ k apart. subst (λ (z : Net). at k new.table ≡ at k z.table) c.self.view_is (unput_others c.args.number old.table new.table c.args.message.now c.in-Err.why c.in-Err.ensures.why k)

pub returns-clause-others : goal.returns-clause-others
returns-clause-others g c =
    let old : Net = record { told = g.S.Streams.told c.self.inside.sockets; table = c.self.inside.table; device = c.self.inside.device } in
    let new : Net = record { told = g.S.Streams.told c.close.new.self; table = c.take.new.self; device = c.self.inside.device } in
    λ k apart. subst (λ (z : Net). at k new.table ≡ at k z.table) c.self.view_is (c.take.ensures.others k apart ∙ unput_others c.args.number old.table c.promise.new.self c.args.message.now c.in-Err.why c.in-Err.ensures.why k)
