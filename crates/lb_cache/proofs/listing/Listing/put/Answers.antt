use Rattle.std.proofs.lemmas.Result.{on_ok_weaker}
use Rattle.std.proofs.Common.{◌≡◌, ◌∙◌, List, ap, rules, subst, sym, T, None}
use Rattle.std.specs.FinMap.Entries.{find, is_sorted, put}
use Rattle.lb_wire.specs.declared.transport.Kind.TheVariants.{Datagram, Stream}
use Rattle.lb_index_ranks.specs.declared.filed.Filed.{Filed}
use Rattle.lb_cache.specs.Keys.{key_with}
use Rattle.lb_cache.specs.Listing.{listed_in}
use Rattle.lb_cache.specs.Reply.{cmp_key}
use Rattle.lb_cache.proofs.Entries.{either_way}
use Rattle.lb_cache.proofs.Listings.{put_datagram, put_stream}
use Rattle.lb_cache.proofs.listing.Listing.put.Goals as goal

pub invariant_of-self : goal.invariant_of-self
invariant_of-self c =
    let kind : c.args.kind ≡ Datagram = search rules in
    let found : find cmp_key (key_with c.args.kind c.args.octets.now) (listed_in c.self.inside.datagrams c.self.inside.streams) ≡ None = ap (find cmp_key (key_with c.args.kind c.args.octets.now)) c.self.view_is ∙ c.requires in
    either_way c.file.result c.file.ensures.filed c.file.ensures.kept
    (λ filed. (put_datagram c.self.inside.datagrams c.self.inside.streams c.file.new.slots (key_with c.args.kind c.args.octets.now) c.args.slot kind c.self.invariant found c.file.ensures.order filed).0)
    (λ kept. subst (λ (items : List Filed). T (is_sorted cmp_key (listed_in items c.self.inside.streams))) (sym kept) c.self.invariant)

pub returns-in-Datagram-clause-put : goal.returns-in-Datagram-clause-put
returns-in-Datagram-clause-put c =
    let kind : c.args.kind ≡ Datagram = search rules in
    let found : find cmp_key (key_with c.args.kind c.args.octets.now) (listed_in c.self.inside.datagrams c.self.inside.streams) ≡ None = ap (find cmp_key (key_with c.args.kind c.args.octets.now)) c.self.view_is ∙ c.requires in
    on_ok_weaker c.file.result
    (λ filed. (put_datagram c.self.inside.datagrams c.self.inside.streams c.file.new.slots (key_with c.args.kind c.args.octets.now) c.args.slot kind c.self.invariant found c.file.ensures.order filed).1 ∙ ap (put cmp_key (key_with c.args.kind c.args.octets.now) c.args.slot) c.self.view_is)
    c.file.ensures.filed

pub invariant_of-self-in-Stream : goal.invariant_of-self-in-Stream
invariant_of-self-in-Stream c =
    let kind : c.args.kind ≡ Stream = search rules in
    let found : find cmp_key (key_with c.args.kind c.args.octets.now) (listed_in c.self.inside.datagrams c.self.inside.streams) ≡ None = ap (find cmp_key (key_with c.args.kind c.args.octets.now)) c.self.view_is ∙ c.requires in
    either_way c.file-in-Stream.result c.file-in-Stream.ensures.filed c.file-in-Stream.ensures.kept
    (λ filed. (put_stream c.self.inside.datagrams c.self.inside.streams c.file-in-Stream.new.slots (key_with c.args.kind c.args.octets.now) c.args.slot kind c.self.invariant found c.file-in-Stream.ensures.order filed).0)
    (λ kept. subst (λ (items : List Filed). T (is_sorted cmp_key (listed_in c.self.inside.datagrams items))) (sym kept) c.self.invariant)

pub returns-in-Stream-clause-put : goal.returns-in-Stream-clause-put
returns-in-Stream-clause-put c =
    let kind : c.args.kind ≡ Stream = search rules in
    let found : find cmp_key (key_with c.args.kind c.args.octets.now) (listed_in c.self.inside.datagrams c.self.inside.streams) ≡ None = ap (find cmp_key (key_with c.args.kind c.args.octets.now)) c.self.view_is ∙ c.requires in
    on_ok_weaker c.file-in-Stream.result
    (λ filed. (put_stream c.self.inside.datagrams c.self.inside.streams c.file-in-Stream.new.slots (key_with c.args.kind c.args.octets.now) c.args.slot kind c.self.invariant found c.file-in-Stream.ensures.order filed).1 ∙ ap (put cmp_key (key_with c.args.kind c.args.octets.now) c.args.slot) c.self.view_is)
    c.file-in-Stream.ensures.filed
