use Rattle.std.proofs.Common.{◌≡◌, ◌∙◌, ◌++◌, List, ap, rules, subst, ℕ}
use Rattle.std.specs.FinMap.Entries.{find}
use Rattle.lb_wire.specs.declared.transport.Kind.TheVariants.{Datagram, Stream}
use Rattle.lb_index_ranks.specs.Filed.{IsFiledAt}
use Rattle.lb_index_ranks.specs.Least.{IsLeastFrom}
use Rattle.lb_cache.specs.Keys.{filed_as, key_with}
use Rattle.lb_cache.specs.Reply.{cmp_key}
use Rattle.lb_cache.proofs.KeySides.{found_datagram, found_stream}
use Rattle.lb_cache.proofs.keys.Keys.get.Goals as goal

pub returns-in-Datagram : goal.returns-in-Datagram
returns-in-Datagram c =
    let kind : c.args.kind ≡ Datagram = search rules in
    let head : c.as_slice.result.now ++ c.args.octets.now ≡ filed_as c.args.octets.now = ap (λ (xs : List ℕ). xs ++ c.args.octets.now) (c.as_slice.ensures ∙ c.lay_before.ensures) in
    found_datagram c.self.inside.datagrams c.self.inside.streams (key_with c.args.kind c.args.octets.now) c.next_joined.result kind c.self.invariant.0 c.self.invariant.1 (subst (λ (k : List ℕ). IsLeastFrom (IsFiledAt c.self.inside.datagrams k) 0 c.next_joined.result) head c.next_joined.ensures)
    ∙ ap (find cmp_key (key_with c.args.kind c.args.octets.now)) c.self.view_is

pub returns-in-Stream : goal.returns-in-Stream
returns-in-Stream c =
    let kind : c.args.kind ≡ Stream = search rules in
    let head : c.as_slice-in-Stream.result.now ++ c.args.octets.now ≡ filed_as c.args.octets.now = ap (λ (xs : List ℕ). xs ++ c.args.octets.now) (c.as_slice-in-Stream.ensures ∙ c.lay_before.ensures) in
    found_stream c.self.inside.datagrams c.self.inside.streams (key_with c.args.kind c.args.octets.now) c.next_joined-in-Stream.result kind c.self.invariant.0 c.self.invariant.1 (subst (λ (k : List ℕ). IsLeastFrom (IsFiledAt c.self.inside.streams k) 0 c.next_joined-in-Stream.result) head c.next_joined-in-Stream.ensures)
    ∙ ap (find cmp_key (key_with c.args.kind c.args.octets.now)) c.self.view_is
