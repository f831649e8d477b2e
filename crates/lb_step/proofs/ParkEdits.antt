-- An edit of the servers and pools that lacked memory: no other refusal meets it.
use Rattle.std.proofs.Common.{◌≡◌, ◌^◌, ◌==◌, Bool, true, false, IsTrue, length, Result, Ok, Err, nat_le, refl, sym, ◌∙◌, ap}
use Rattle.std.specs.Prelude.{if◌then◌else◌, is_some}
use Rattle.std.specs.List.{list_any}
use Rattle.lb_wire.specs.declared.ids.PoolId.{PoolId}
use Rattle.lb_wire.specs.declared.ids.ServerId.{ServerId}
use Rattle.lb_servers.specs.declared.fault.ParkFault.{ParkFault}
use Rattle.lb_servers.specs.declared.fault.ParkFault.TheVariants as faults
use Rattle.lb_servers.specs.declared.pool.PoolName.{PoolName}
use Rattle.lb_servers.specs.declared.spec.ServerSpec.{ServerSpec}
use Rattle.lb_servers.specs.Park.{Backends, added_pool, added_server, lacks, max_pools, max_servers}
use Rattle.lb_servers.specs.Pool.{is_named}
use Rattle.lb_servers.specs.Server.{server_named}
use Rattle.lb_servers.specs.Spec.{lacks_pool, stated_pools}
use Rattle.lb_step.specs.declared.answer.Answer.TheVariants.{Refused}
use Rattle.lb_step.specs.declared.answer.EditFault.TheVariants.{Servers}
use Rattle.lb_step.specs.declared.answer.Note.{Note}
use Rattle.lb_step.specs.declared.answer.Note.TheVariants.{PoolAdded, ServerAdded}
use Rattle.lb_step.specs.Answer.{marked}
use Rattle.lb_step.specs.declared.check.CheckSpec.{CheckSpec}
use Rattle.lb_step.specs.Edit.{Lacks, servers_told, upstream_edited, upstream_told}
use Rattle.lb_step.specs.Upstream.{Upstreams, added_checked, backends_of, on_backends}
use Rattle.lb_step.proofs.ChainEdits.{false_true}

-- a refusal that is not for lack of memory comes with and without it
unlock : {A : Type 0} (b : Bool) (park : Backends) (fault : ParkFault) (x y : Backends × Result A ParkFault) (given : A) →
    lacks {A = A} (Err fault) ≡ false →
    (if b then (park, Err fault) else x).1 ≡ Err faults.NoMemory → (x.1 ≡ Err faults.NoMemory → y.1 ≡ Ok given) → (if b then (park, Err fault) else y).1 ≡ Ok given
unlock {A} true park fault x y given other is rest = absurd (false_true (sym other ∙ ap (lacks {A = A}) is))
unlock false park fault x y given other is rest = rest is

server_lacks : (park : Backends) (spec : ServerSpec) → (added_server true park spec).1 ≡ Err faults.NoMemory → (added_server false park spec).1 ≡ Ok (record { 0 = park.next })
server_lacks park spec is =
    unlock (lacks_pool park.pools (stated_pools spec.pools)) park faults.NoSuchPool _ _ (record { 0 = park.next }) refl is
    (λ is. unlock (is_some (server_named park.servers spec.name)) park faults.NameTaken _ _ (record { 0 = park.next }) refl is
    (λ is. unlock (nat_le max_servers (length park.servers)) park faults.TooMany _ _ (record { 0 = park.next }) refl is
    (λ is. unlock (park.next == 2 ^ 64) park faults.NoMoreIds _ _ (record { 0 = park.next }) refl is (λ is. refl))))

pool_lacks : (park : Backends) (name : PoolName) → (added_pool true park name).1 ≡ Err faults.NoMemory → (added_pool false park name).1 ≡ Ok (record { 0 = length park.pools })
pool_lacks park name is =
    unlock (list_any (is_named name) park.pools) park faults.NameTaken _ _ (record { 0 = length park.pools }) refl is
    (λ is. unlock (nat_le max_pools (length park.pools)) park faults.TooMany _ _ (record { 0 = length park.pools }) refl is (λ is. refl))

pub may_add_server : (old new : Upstreams) (spec : ServerSpec) (check : CheckSpec) (fault : ParkFault) →
    (new, Err fault) ≡ added_checked (lacks {A = ServerId} (Err fault)) old spec check → IsTrue (marked (Refused (Servers fault))) →
    Lacks (λ mark. upstream_told ServerAdded (added_checked mark old spec check))
may_add_server old new spec check faults.NoMemory is mark =
    let done = server_lacks (backends_of old) spec (sym (ap (λ (p : Upstreams × Result ServerId ParkFault). p.1) is)) in
    (ServerAdded (record { 0 = old.next_server }), ap (servers_told ServerAdded) done)
may_add_server old new spec check faults.NoSuchServer is mark = absurd (false_true mark)
may_add_server old new spec check faults.NoSuchPool is mark = absurd (false_true mark)
may_add_server old new spec check faults.NameTaken is mark = absurd (false_true mark)
may_add_server old new spec check faults.TooMany is mark = absurd (false_true mark)
may_add_server old new spec check faults.NoMoreIds is mark = absurd (false_true mark)

pub may_add_pool : (old new : Upstreams) (name : PoolName) (fault : ParkFault) →
    (new, Err fault) ≡ on_backends old (added_pool (lacks {A = PoolId} (Err fault)) (backends_of old) name) → IsTrue (marked (Refused (Servers fault))) →
    Lacks (λ mark. upstream_edited (λ _. PoolAdded name) old (added_pool mark (backends_of old) name))
may_add_pool old new name faults.NoMemory is mark =
    let done = pool_lacks (backends_of old) name (sym (ap (λ (p : Upstreams × Result PoolId ParkFault). p.1) is)) in
    let note : PoolId → Note = λ pool. PoolAdded name in
    (PoolAdded name, ap (servers_told note) done)
may_add_pool old new name faults.NoSuchServer is mark = absurd (false_true mark)
may_add_pool old new name faults.NoSuchPool is mark = absurd (false_true mark)
may_add_pool old new name faults.NameTaken is mark = absurd (false_true mark)
may_add_pool old new name faults.TooMany is mark = absurd (false_true mark)
may_add_pool old new name faults.NoMoreIds is mark = absurd (false_true mark)
