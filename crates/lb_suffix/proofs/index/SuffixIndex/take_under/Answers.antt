use Rattle.std.proofs.Common.{List, ℕ, ◌≡◌, map, ◌∙◌, ap, subst}
use Rattle.lb_index_ranks.specs.Filed.{TakesFirst}
use Rattle.lb_suffix.specs.Index.{Pair, shown, TakesUnder}
use Rattle.lb_suffix.specs.Key.{end_of, key_of}
use Rattle.lb_suffix.proofs.Pairs.{keyed_but}
use Rattle.lb_suffix.proofs.Shown.{takes_keyed, takes_under}
use Rattle.lb_suffix.proofs.index.SuffixIndex.take_under.Goals as goal

pub invariant_of-self : goal.invariant_of-self
invariant_of-self c =
    let old = c.self.inside.ranks in
    let new = c.take_first.new.self in
    takes_keyed c.as_slice.result.now c.as_end.result.now old new c.take_first.result c.self.invariant (λ f but. keyed_but old new f c.self.invariant but) c.take_first.ensures

pub returns : goal.returns
returns c =
    let name = c.args.name.now in
    let old = c.self.inside.ranks in
    let new = c.take_first.new.self in
    let low : c.as_slice.result.now ≡ key_of name = c.as_slice.ensures.octets ∙ c.key_of-key.ensures.key in
    let high : c.as_end.result.now ≡ end_of (key_of name) = c.as_end.ensures ∙ ap end_of c.key_of-key.ensures.key in
    let takes : TakesFirst (key_of name) (end_of (key_of name)) old c.take_first.result new =
    subst (λ (k : List ℕ). TakesFirst k (end_of (key_of name)) old c.take_first.result new) low
    (subst (λ (k : List ℕ). TakesFirst c.as_slice.result.now k old c.take_first.result new) high c.take_first.ensures) in
    subst (λ (ps : List Pair). TakesUnder name ps c.take_first.result (map shown new)) c.self.view_is
    (takes_under c.key_of-key.ensures.back c.key_of-key.ensures.on old new name c.take_first.result c.self.invariant c.key_of-key.ensures.name takes)
