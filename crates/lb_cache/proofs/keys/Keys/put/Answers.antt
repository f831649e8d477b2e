use Rattle.std.proofs.Common.{◌≡◌, ◌∙◌, ◌++◌, List, ap, rules, subst, sym, ℕ, None}
use Rattle.std.specs.FinMap.Entries.{find, put}
use Rattle.std.proofs.lemmas.Result.{on_ok_weaker}
use Rattle.lb_wire.specs.declared.transport.Kind.TheVariants.{Datagram, Stream}
use Rattle.lb_index_ranks.specs.declared.filed.Filed.{Filed}
use Rattle.lb_index_ranks.specs.Filed.{filed_at, HasBesides}
use Rattle.lb_cache.specs.Keys.{entries_of, filed_as, key_with, AreKeys}
use Rattle.lb_cache.specs.Reply.{cmp_key}
use Rattle.lb_cache.proofs.Entries.{either_way}
use Rattle.lb_cache.proofs.KeySides.{put_datagram, put_stream}
use Rattle.lb_cache.proofs.keys.Keys.put.Goals as goal

pub invariant_of-self : goal.invariant_of-self
invariant_of-self c =
    let kind : c.args.kind ≡ Datagram = search rules in
    let head : c.as_slice.result.now ++ c.args.octets.now ≡ filed_as c.args.octets.now = ap (λ (xs : List ℕ). xs ++ c.args.octets.now) (c.as_slice.ensures ∙ c.lay_before.ensures) in
    let found : find cmp_key (key_with c.args.kind c.args.octets.now) (entries_of c.self.inside.datagrams c.self.inside.streams) ≡ None = ap (find cmp_key (key_with c.args.kind c.args.octets.now)) c.self.view_is ∙ c.requires in
    either_way c.file_joined.result c.file_joined.ensures.ok c.file_joined.ensures.err
    (λ filed.
    let changed = put_datagram c.self.inside.datagrams c.self.inside.streams c.file_joined.new.self (key_with c.args.kind c.args.octets.now) c.args.slot kind c.self.invariant.0 c.self.invariant.1 found (subst (λ (k : List ℕ). HasBesides c.self.inside.datagrams (filed_at k c.args.slot) c.file_joined.new.self) head filed) in
    (changed.datagrams, changed.streams))
    (λ kept. subst (λ (items : List Filed). AreKeys items × AreKeys c.self.inside.streams) (sym kept) c.self.invariant)

pub returns-in-Datagram-clause-put : goal.returns-in-Datagram-clause-put
returns-in-Datagram-clause-put c =
    let kind : c.args.kind ≡ Datagram = search rules in
    let head : c.as_slice.result.now ++ c.args.octets.now ≡ filed_as c.args.octets.now = ap (λ (xs : List ℕ). xs ++ c.args.octets.now) (c.as_slice.ensures ∙ c.lay_before.ensures) in
    let found : find cmp_key (key_with c.args.kind c.args.octets.now) (entries_of c.self.inside.datagrams c.self.inside.streams) ≡ None = ap (find cmp_key (key_with c.args.kind c.args.octets.now)) c.self.view_is ∙ c.requires in
    on_ok_weaker c.file_joined.result
    (λ filed. (put_datagram c.self.inside.datagrams c.self.inside.streams c.file_joined.new.self (key_with c.args.kind c.args.octets.now) c.args.slot kind c.self.invariant.0 c.self.invariant.1 found (subst (λ (k : List ℕ). HasBesides c.self.inside.datagrams (filed_at k c.args.slot) c.file_joined.new.self) head filed)).is ∙ ap (put cmp_key (key_with c.args.kind c.args.octets.now) c.args.slot) c.self.view_is)
    c.file_joined.ensures.ok

pub invariant_of-self-in-Stream : goal.invariant_of-self-in-Stream
invariant_of-self-in-Stream c =
    let kind : c.args.kind ≡ Stream = search rules in
    let head : c.as_slice-in-Stream.result.now ++ c.args.octets.now ≡ filed_as c.args.octets.now = ap (λ (xs : List ℕ). xs ++ c.args.octets.now) (c.as_slice-in-Stream.ensures ∙ c.lay_before.ensures) in
    let found : find cmp_key (key_with c.args.kind c.args.octets.now) (entries_of c.self.inside.datagrams c.self.inside.streams) ≡ None = ap (find cmp_key (key_with c.args.kind c.args.octets.now)) c.self.view_is ∙ c.requires in
    either_way c.file_joined-in-Stream.result c.file_joined-in-Stream.ensures.ok c.file_joined-in-Stream.ensures.err
    (λ filed.
    let changed = put_stream c.self.inside.datagrams c.self.inside.streams c.file_joined-in-Stream.new.self (key_with c.args.kind c.args.octets.now) c.args.slot kind c.self.invariant.0 c.self.invariant.1 found (subst (λ (k : List ℕ). HasBesides c.self.inside.streams (filed_at k c.args.slot) c.file_joined-in-Stream.new.self) head filed) in
    (changed.datagrams, changed.streams))
    (λ kept. subst (λ (items : List Filed). AreKeys c.self.inside.datagrams × AreKeys items) (sym kept) c.self.invariant)

pub returns-in-Stream-clause-put : goal.returns-in-Stream-clause-put
returns-in-Stream-clause-put c =
    let kind : c.args.kind ≡ Stream = search rules in
    let head : c.as_slice-in-Stream.result.now ++ c.args.octets.now ≡ filed_as c.args.octets.now = ap (λ (xs : List ℕ). xs ++ c.args.octets.now) (c.as_slice-in-Stream.ensures ∙ c.lay_before.ensures) in
    let found : find cmp_key (key_with c.args.kind c.args.octets.now) (entries_of c.self.inside.datagrams c.self.inside.streams) ≡ None = ap (find cmp_key (key_with c.args.kind c.args.octets.now)) c.self.view_is ∙ c.requires in
    on_ok_weaker c.file_joined-in-Stream.result
    (λ filed. (put_stream c.self.inside.datagrams c.self.inside.streams c.file_joined-in-Stream.new.self (key_with c.args.kind c.args.octets.now) c.args.slot kind c.self.invariant.0 c.self.invariant.1 found (subst (λ (k : List ℕ). HasBesides c.self.inside.streams (filed_at k c.args.slot) c.file_joined-in-Stream.new.self) head filed)).is ∙ ap (put cmp_key (key_with c.args.kind c.args.octets.now) c.args.slot) c.self.view_is)
    c.file_joined-in-Stream.ensures.ok
