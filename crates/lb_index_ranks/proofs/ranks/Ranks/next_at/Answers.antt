use Rattle.std.proofs.Common.{List, ℕ, subst}
use Rattle.std.proofs.lemmas.List.{append-nil}
use Rattle.lb_index_ranks.specs.Filed.{IsFiledAt}
use Rattle.lb_index_ranks.specs.Least.{IsLeastFrom}
use Rattle.lb_index_ranks.proofs.ranks.Ranks.next_at.Goals as goal

pub returns : goal.returns
returns c = subst (λ (key : List ℕ). IsLeastFrom (IsFiledAt c.args.self.now key) c.args.from c.next_joined.result) (append-nil c.args.key.now) c.next_joined.ensures
