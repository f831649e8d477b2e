use Rattle.std.proofs.Common.{◌≡◌, ◌<◌, ◌+◌, ◌^◌, ◌==◌, true, false, List, ◌∷◌, ℕ, length, ap, ◌∙◌, arith}
use Rattle.lb_index_ring.specs.Ring.{has, put_behind, slots_of}
use Rattle.lb_index_ring.proofs.Paths.{has_passes, lacks_is}
use Rattle.lb_index_ring.proofs.Rings.{fits, grown, next_has, not_zero, put_in}
use Rattle.lb_index_ring.proofs.ring.Ring.put.Goals as goal

pub invariant_of-self : goal.invariant_of-self
invariant_of-self c =
    let grow = grown c.self.inside.links.items c.grow.new.links.items c.self.inside.len c.self.invariant c.grow.ensures.next c.grow.ensures.prev c.grow.ensures.more in
    grow.1

pub link-requires-clause-within : goal.link-requires-clause-within
link-requires-clause-within c =
    let grow = grown c.self.inside.links.items c.grow.new.links.items c.self.inside.len c.self.invariant c.grow.ensures.next c.grow.ensures.prev c.grow.ensures.more in
    let shown : slots_of c.grow.new.links.items c.self.inside.len ≡ c.args.self.now = grow.0 ∙ c.self.view_is in
    let room : c.args.slot < length c.grow.new.links.items = c.in_ok-grow.ensures.room in
    let is : has c.args.prev (0 ∷ slots_of c.grow.new.links.items c.self.inside.len) ≡ true = ap (λ (ks : List ℕ). has c.args.prev (0 ∷ ks)) shown ∙ c.requires.prev in
    let fresh : has c.args.slot (slots_of c.grow.new.links.items c.self.inside.len) ≡ false = ap (has c.args.slot) shown ∙ c.requires.fresh in
    let first : 0 < length c.grow.new.links.items = omega (arith, room) in
    has_passes (λ k. k < length c.grow.new.links.items) c.args.prev (0 ∷ slots_of c.grow.new.links.items c.self.inside.len) is (first, grow.1.within)

pub link-requires-clause-next : goal.link-requires-clause-next
link-requires-clause-next c =
    let grow = grown c.self.inside.links.items c.grow.new.links.items c.self.inside.len c.self.invariant c.grow.ensures.next c.grow.ensures.prev c.grow.ensures.more in
    let shown : slots_of c.grow.new.links.items c.self.inside.len ≡ c.args.self.now = grow.0 ∙ c.self.view_is in
    let room : c.args.slot < length c.grow.new.links.items = c.in_ok-grow.ensures.room in
    let is : has c.args.prev (0 ∷ slots_of c.grow.new.links.items c.self.inside.len) ≡ true = ap (λ (ks : List ℕ). has c.args.prev (0 ∷ ks)) shown ∙ c.requires.prev in
    let fresh : has c.args.slot (slots_of c.grow.new.links.items c.self.inside.len) ≡ false = ap (has c.args.slot) shown ∙ c.requires.fresh in
    let first : 0 < length c.grow.new.links.items = omega (arith, room) in
    next_has (λ k. k < length c.grow.new.links.items) c.grow.new.links.items c.self.inside.len c.args.prev grow.1 is first grow.1.within

pub link-requires-clause-fresh : goal.link-requires-clause-fresh
link-requires-clause-fresh c =
    let grow = grown c.self.inside.links.items c.grow.new.links.items c.self.inside.len c.self.invariant c.grow.ensures.next c.grow.ensures.prev c.grow.ensures.more in
    let shown : slots_of c.grow.new.links.items c.self.inside.len ≡ c.args.self.now = grow.0 ∙ c.self.view_is in
    let room : c.args.slot < length c.grow.new.links.items = c.in_ok-grow.ensures.room in
    let is : has c.args.prev (0 ∷ slots_of c.grow.new.links.items c.self.inside.len) ≡ true = ap (λ (ks : List ℕ). has c.args.prev (0 ∷ ks)) shown ∙ c.requires.prev in
    let fresh : has c.args.slot (slots_of c.grow.new.links.items c.self.inside.len) ≡ false = ap (has c.args.slot) shown ∙ c.requires.fresh in
    next_has (λ k. (c.args.slot == k) ≡ false) c.grow.new.links.items c.self.inside.len c.args.prev grow.1 is (not_zero c.args.slot c.requires.slot) (lacks_is c.args.slot (slots_of c.grow.new.links.items c.self.inside.len) fresh)

pub overflow_add-self : goal.overflow_add-self
overflow_add-self c =
    let cap : length c.self.inside.links.items < 2 ^ 63 = omega (arith, c.self.inside.links.ok.0, c.self.inside.links.ok.1, c.self.inside.links.small) in
    let few : c.self.inside.len + 2 < 2 ^ 64 = fits c.self.inside.links.items c.self.inside.len c.self.invariant cap in
    omega (arith, few)

pub invariant_of-self-2 : goal.invariant_of-self-2
invariant_of-self-2 c =
    let grow = grown c.self.inside.links.items c.grow.new.links.items c.self.inside.len c.self.invariant c.grow.ensures.next c.grow.ensures.prev c.grow.ensures.more in
    let shown : slots_of c.grow.new.links.items c.self.inside.len ≡ c.args.self.now = grow.0 ∙ c.self.view_is in
    let room : c.args.slot < length c.grow.new.links.items = c.in_ok-grow.ensures.room in
    let is : has c.args.prev (0 ∷ slots_of c.grow.new.links.items c.self.inside.len) ≡ true = ap (λ (ks : List ℕ). has c.args.prev (0 ∷ ks)) shown ∙ c.requires.prev in
    let fresh : has c.args.slot (slots_of c.grow.new.links.items c.self.inside.len) ≡ false = ap (has c.args.slot) shown ∙ c.requires.fresh in
    let cap : length c.self.inside.links.items < 2 ^ 63 = omega (arith, c.self.inside.links.ok.0, c.self.inside.links.ok.1, c.self.inside.links.small) in
    let few : c.self.inside.len + 2 < 2 ^ 64 = fits c.self.inside.links.items c.self.inside.len c.self.invariant cap in
    let both = put_in c.grow.new.links.items c.link.new.links.items c.self.inside.len c.args.prev c.args.slot grow.1 c.requires.slot room fresh is few c.link.ensures.next c.link.ensures.prev c.link.ensures.len in
    both.1

pub returns-clause-put : goal.returns-clause-put
returns-clause-put c =
    let grow = grown c.self.inside.links.items c.grow.new.links.items c.self.inside.len c.self.invariant c.grow.ensures.next c.grow.ensures.prev c.grow.ensures.more in
    let shown : slots_of c.grow.new.links.items c.self.inside.len ≡ c.args.self.now = grow.0 ∙ c.self.view_is in
    let room : c.args.slot < length c.grow.new.links.items = c.in_ok-grow.ensures.room in
    let is : has c.args.prev (0 ∷ slots_of c.grow.new.links.items c.self.inside.len) ≡ true = ap (λ (ks : List ℕ). has c.args.prev (0 ∷ ks)) shown ∙ c.requires.prev in
    let fresh : has c.args.slot (slots_of c.grow.new.links.items c.self.inside.len) ≡ false = ap (has c.args.slot) shown ∙ c.requires.fresh in
    let cap : length c.self.inside.links.items < 2 ^ 63 = omega (arith, c.self.inside.links.ok.0, c.self.inside.links.ok.1, c.self.inside.links.small) in
    let few : c.self.inside.len + 2 < 2 ^ 64 = fits c.self.inside.links.items c.self.inside.len c.self.invariant cap in
    let both = put_in c.grow.new.links.items c.link.new.links.items c.self.inside.len c.args.prev c.args.slot grow.1 c.requires.slot room fresh is few c.link.ensures.next c.link.ensures.prev c.link.ensures.len in
    both.0 ∙ ap (put_behind c.args.prev c.args.slot) shown
