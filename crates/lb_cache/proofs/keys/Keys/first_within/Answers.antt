use Rattle.std.proofs.Common.{◌≡◌, true, false, Contains, IfNone, List, Option, Some, subst, sym, ℕ}
use Rattle.std.specs.FinMap.Entries.{find}
use Rattle.lb_wire.specs.declared.key.Key.{Key}
use Rattle.lb_wire.specs.declared.transport.Kind.TheVariants.{Datagram}
use Rattle.lb_index_ranks.specs.declared.filed.Filed.{Filed}
use Rattle.lb_cache.specs.Keys.{is_filed_within, is_within}
use Rattle.lb_cache.specs.Reply.{cmp_key}
use Rattle.lb_cache.proofs.KeySides.{no_key, none_of, within_key, within_some}
use Rattle.lb_cache.proofs.keys.Keys.first_within.Goals as goal

pub returns-in-Some-clause-some : goal.returns-in-Some-clause-some
returns-in-Some-clause-some c =
    let low = c.args.span.now.low in
    let high = c.args.span.now.high in
    let first = c.in-Some.ensures.some in
    subst (λ (entries : List (Key × ℕ)). (key : Key) × (find cmp_key key entries ≡ Some c.in-Some.slot) × (is_within low high key.octets ≡ true)) c.self.view_is
    (within_key c.self.inside.datagrams c.self.inside.streams Datagram low high first.0 c.in-Some.slot c.self.invariant.0 c.self.invariant.1 first.1 first.2 first.3)

pub returns-in-None-clause-some : goal.returns-in-None-clause-some
returns-in-None-clause-some c =
    let low = c.args.span.now.low in
    let high = c.args.span.now.high in
    within_some c.first_in-in-None.result low high c.self.inside.datagrams c.self.inside.streams c.args.self.now c.self.view_is c.self.invariant.0 c.self.invariant.1 c.first_in-in-None.ensures.some

pub returns-in-None-clause-none : goal.returns-in-None-clause-none
returns-in-None-clause-none c =
    let low = c.args.span.now.low in
    let high = c.args.span.now.high in
    none_of c.first_in-in-None.result
    (λ is.
    subst (λ (entries : List (Key × ℕ)). (key : Key) (slot : ℕ) → find cmp_key key entries ≡ Some slot → is_within low high key.octets ≡ false) c.self.view_is
    (no_key c.self.inside.datagrams c.self.inside.streams low high c.self.invariant.0 c.self.invariant.1 c.in-None.ensures.none
    (subst (λ (r : Option ℕ). IfNone r ((f : Filed) → Contains c.self.inside.streams f → is_filed_within low high f ≡ false)) (sym is) c.first_in-in-None.ensures.none)))
