use Rattle.std.proofs.Common.{◌∙◌, [], List, ap, subst, sym}
use Rattle.lb_index_ranks.specs.declared.filed.Filed.{Filed}
use Rattle.lb_cache.specs.Keys.{entries_of, AreKeys}
use Rattle.lb_cache.proofs.KeySides.{no_keys}
use Rattle.lb_cache.proofs.keys.Keys.new.Goals as goal

pub invariant_of-result : goal.invariant_of-result
invariant_of-result c = (subst AreKeys (sym c.new.ensures) no_keys, subst AreKeys (sym c.new-2.ensures) no_keys)

pub returns : goal.returns
returns c = ap (λ (d : List Filed). entries_of d c.new-2.result) c.new.ensures ∙ ap (entries_of []) c.new-2.ensures
