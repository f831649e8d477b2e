use Rattle.std.proofs.Common.{◌≡◌, ◌++◌, List, ℕ, ap, sym, ◌∙◌, rules}
use Rattle.lb_index_ranks.specs.declared.filed.Filed.{Filed}
use Rattle.lb_index_ranks.specs.declared.front.Front.{Front}
use Rattle.lb_index_ranks.specs.Front.{key_from}
use Rattle.lb_index_ranks.proofs.Packing.{packed_front}
use Rattle.lb_index_ranks.proofs.key.Key.is.Goals as goal

pub returns-then-is : goal.returns-then-is
returns-then-is c =
    let own = c.self.inside in
    let other = c.at.inside in
    let key : key_from other.front (other.rest.now ++ other.more.now) ≡ c.args.at.now.key = ap (λ (f : Filed). f.key) c.at.view_is in (
      λ yes_rest.
          let front : own.front ≡ other.front = c.is.ensures.0 (search rules) in
          let rest : own.rest.items ≡ other.rest.now ++ other.more.now = sym c.as_slice-rest.ensures.value ∙ c.is_joined.ensures.0 yes_rest in
          sym c.self.view_is ∙ ap (λ (f : Front). key_from f own.rest.items) front ∙ ap (λ (xs : List ℕ). key_from other.front xs) rest ∙ key,
      λ same.
          let both = packed_front own.front other.front own.rest.items (other.rest.now ++ other.more.now) c.self.invariant c.at.invariant (c.self.view_is ∙ same ∙ sym key) in
          c.is_joined.ensures.1 (c.as_slice-rest.ensures.value ∙ both.1),
    )
