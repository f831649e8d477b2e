use Rattle.std.proofs.Common.{◌≡◌, ◌∙◌, ◌++◌, List, ap, rules, subst, ℕ, Some}
use Rattle.std.specs.FinMap.Entries.{find}
use Rattle.lb_wire.specs.declared.transport.Kind.TheVariants.{Datagram, Stream}
use Rattle.lb_index_ranks.specs.Filed.{filed_at, HasBut}
use Rattle.lb_cache.specs.Keys.{entries_of, filed_as, key_with, without_key}
use Rattle.lb_cache.specs.Reply.{cmp_key}
use Rattle.lb_cache.proofs.KeySides.{but_datagram, but_stream}
use Rattle.lb_cache.proofs.keys.Keys.remove.Goals as goal

pub invariant_of-self : goal.invariant_of-self
invariant_of-self c =
    let kind : c.args.kind ≡ Datagram = search rules in
    let head : c.as_slice.result.now ++ c.args.octets.now ≡ filed_as c.args.octets.now = ap (λ (xs : List ℕ). xs ++ c.args.octets.now) (c.as_slice.ensures ∙ c.lay_before.ensures) in
    let found : find cmp_key (key_with c.args.kind c.args.octets.now) (entries_of c.self.inside.datagrams c.self.inside.streams) ≡ Some c.args.slot = ap (find cmp_key (key_with c.args.kind c.args.octets.now)) c.self.view_is ∙ c.requires in
    let changed = but_datagram c.self.inside.datagrams c.self.inside.streams c.unfile_joined.new.self (key_with c.args.kind c.args.octets.now) c.args.slot kind c.self.invariant.0 c.self.invariant.1 found (subst (λ (k : List ℕ). HasBut c.self.inside.datagrams (filed_at k c.args.slot) c.unfile_joined.new.self) head c.unfile_joined.ensures) in
    (changed.datagrams, changed.streams)

pub returns-in-Datagram : goal.returns-in-Datagram
returns-in-Datagram c =
    let kind : c.args.kind ≡ Datagram = search rules in
    let head : c.as_slice.result.now ++ c.args.octets.now ≡ filed_as c.args.octets.now = ap (λ (xs : List ℕ). xs ++ c.args.octets.now) (c.as_slice.ensures ∙ c.lay_before.ensures) in
    let found : find cmp_key (key_with c.args.kind c.args.octets.now) (entries_of c.self.inside.datagrams c.self.inside.streams) ≡ Some c.args.slot = ap (find cmp_key (key_with c.args.kind c.args.octets.now)) c.self.view_is ∙ c.requires in
    (but_datagram c.self.inside.datagrams c.self.inside.streams c.unfile_joined.new.self (key_with c.args.kind c.args.octets.now) c.args.slot kind c.self.invariant.0 c.self.invariant.1 found (subst (λ (k : List ℕ). HasBut c.self.inside.datagrams (filed_at k c.args.slot) c.unfile_joined.new.self) head c.unfile_joined.ensures)).is ∙ ap (without_key (key_with c.args.kind c.args.octets.now)) c.self.view_is

pub invariant_of-self-in-Stream : goal.invariant_of-self-in-Stream
invariant_of-self-in-Stream c =
    let kind : c.args.kind ≡ Stream = search rules in
    let head : c.as_slice-in-Stream.result.now ++ c.args.octets.now ≡ filed_as c.args.octets.now = ap (λ (xs : List ℕ). xs ++ c.args.octets.now) (c.as_slice-in-Stream.ensures ∙ c.lay_before.ensures) in
    let found : find cmp_key (key_with c.args.kind c.args.octets.now) (entries_of c.self.inside.datagrams c.self.inside.streams) ≡ Some c.args.slot = ap (find cmp_key (key_with c.args.kind c.args.octets.now)) c.self.view_is ∙ c.requires in
    let changed = but_stream c.self.inside.datagrams c.self.inside.streams c.unfile_joined-in-Stream.new.self (key_with c.args.kind c.args.octets.now) c.args.slot kind c.self.invariant.0 c.self.invariant.1 found (subst (λ (k : List ℕ). HasBut c.self.inside.streams (filed_at k c.args.slot) c.unfile_joined-in-Stream.new.self) head c.unfile_joined-in-Stream.ensures) in
    (changed.datagrams, changed.streams)

pub returns-in-Stream : goal.returns-in-Stream
returns-in-Stream c =
    let kind : c.args.kind ≡ Stream = search rules in
    let head : c.as_slice-in-Stream.result.now ++ c.args.octets.now ≡ filed_as c.args.octets.now = ap (λ (xs : List ℕ). xs ++ c.args.octets.now) (c.as_slice-in-Stream.ensures ∙ c.lay_before.ensures) in
    let found : find cmp_key (key_with c.args.kind c.args.octets.now) (entries_of c.self.inside.datagrams c.self.inside.streams) ≡ Some c.args.slot = ap (find cmp_key (key_with c.args.kind c.args.octets.now)) c.self.view_is ∙ c.requires in
    (but_stream c.self.inside.datagrams c.self.inside.streams c.unfile_joined-in-Stream.new.self (key_with c.args.kind c.args.octets.now) c.args.slot kind c.self.invariant.0 c.self.invariant.1 found (subst (λ (k : List ℕ). HasBut c.self.inside.streams (filed_at k c.args.slot) c.unfile_joined-in-Stream.new.self) head c.unfile_joined-in-Stream.ensures)).is ∙ ap (without_key (key_with c.args.kind c.args.octets.now)) c.self.view_is
