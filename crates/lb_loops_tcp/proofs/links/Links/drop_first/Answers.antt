use Rattle.std.proofs.Common.{refl, sym, subst, ◌≡◌, ap, ◌∙◌}
use Rattle.lb_loops_connections.specs.Table.{IsFirst, Table, at}
use Rattle.lb_loops_connections.specs.Taking.{Takes}
use Rattle.lb_loops_tcp.proofs.Going.{Drops, drops_swapped, drops_taken, drops_for_memory, goes_took, goes_for_memory_taken, rose_for_memory}
use Rattle.lb_loops_tcp.proofs.links.Links.drop_first.Goals as goal
use Rattle.lb_loops_tcp.specs.Goes.{Goes, just, none}
use Rattle.lb_loops_tcp.specs.Links.{Net}

pub returns-in_default-clause-goes : goal.returns-in_default-clause-goes
returns-in_default-clause-goes g c = λ peer message first.
    let old : Net = record { told = g.S.Streams.told c.self.inside.sockets; table = c.self.inside.table; device = c.self.inside.device } in
    let new : Net = record { told = g.S.Streams.told c.self.inside.sockets; table = c.drop_first.new.self; device = c.self.inside.device } in
    let is_first : IsFirst c.args.number peer message old.table = subst (λ (z : Net). IsFirst c.args.number peer message z.table) (sym c.self.view_is) first in
    subst (λ (z : Net). Goes z new (just c.args.number message) none) c.self.view_is (goes_took c.args.number old new message (c.drop_first.ensures peer message is_first) refl refl)

pub returns-in-Err-clause-goes : goal.returns-in-Err-clause-goes
returns-in-Err-clause-goes g c = λ peer message first.
    let old : Net = record { told = g.S.Streams.told c.self.inside.sockets; table = c.self.inside.table; device = c.self.inside.device } in
    let mid : Table = c.drop_first.new.self in
    let out : Table = c.take.new.self in
    let new : Net = record { told = g.S.Streams.told c.close.new.self; table = c.lacks.new.self; device = c.self.inside.device } in
    let is_first : IsFirst c.args.number peer message old.table = subst (λ (z : Net). IsFirst c.args.number peer message z.table) (sym c.self.view_is) first in
    let taken : Takes c.args.number message old.table mid = c.drop_first.ensures peer message is_first in
    let gone : Drops c.args.number old.table out taken.x = drops_swapped c.args.number old.table mid out taken.x taken.y taken.swaps
    (drops_taken c.args.number mid out c.take.result taken.y taken.swaps.is c.take.ensures.here c.take.ensures.number c.take.ensures.gone c.take.ensures.others c.take.ensures.clients c.take.ensures.same.0 c.take.ensures.same.1) in
    let drop : Drops c.args.number old.table new.table taken.x = drops_for_memory c.args.number old.table out new.table taken.x gone c.lacks.ensures in
    let rose = rose_for_memory c.args.number old.table out new.table taken.x gone c.lacks.ensures in
    subst (λ (z : Net). Goes z new (just c.args.number message) none) c.self.view_is (goes_for_memory_taken c.args.number old new taken.x message drop rose c.close.ensures.same refl)

pub returns-in_default-clause-others : goal.returns-in_default-clause-others
returns-in_default-clause-others g c = λ peer message first.
    let old : Net = record { told = g.S.Streams.told c.self.inside.sockets; table = c.self.inside.table; device = c.self.inside.device } in
    let new : Net = record { told = g.S.Streams.told c.self.inside.sockets; table = c.drop_first.new.self; device = c.self.inside.device } in
    let is_first : IsFirst c.args.number peer message old.table = subst (λ (z : Net). IsFirst c.args.number peer message z.table) (sym c.self.view_is) first in
    let taken : Takes c.args.number message old.table new.table = c.drop_first.ensures peer message is_first in
    λ k apart. subst (λ (z : Net). at k new.table ≡ at k z.table) c.self.view_is (taken.swaps.others k apart)

pub returns-in-Err-clause-others : goal.returns-in-Err-clause-others
returns-in-Err-clause-others g c = λ peer message first.
    let old : Net = record { told = g.S.Streams.told c.self.inside.sockets; table = c.self.inside.table; device = c.self.inside.device } in
    let mid : Table = c.drop_first.new.self in
    let out : Table = c.take.new.self in
    let new : Net = record { told = g.S.Streams.told c.close.new.self; table = c.lacks.new.self; device = c.self.inside.device } in
    let is_first : IsFirst c.args.number peer message old.table = subst (λ (z : Net). IsFirst c.args.number peer message z.table) (sym c.self.view_is) first in
    let taken : Takes c.args.number message old.table mid = c.drop_first.ensures peer message is_first in
    λ k apart. subst (λ (z : Net). at k new.table ≡ at k z.table) c.self.view_is (ap (at k) c.lacks.ensures ∙ c.take.ensures.others k apart ∙ taken.swaps.others k apart)
