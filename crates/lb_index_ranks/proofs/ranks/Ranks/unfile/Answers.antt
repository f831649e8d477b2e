use Rattle.std.proofs.Common.{List, ℕ, subst}
use Rattle.std.proofs.lemmas.List.{append-nil}
use Rattle.lb_index_ranks.specs.Filed.{filed_at, HasBut}
use Rattle.lb_index_ranks.proofs.ranks.Ranks.unfile.Goals as goal

pub returns : goal.returns
returns c = subst (λ (key : List ℕ). HasBut c.args.self.now (filed_at key c.args.rank) c.unfile_joined.new.self) (append-nil c.args.key.now) c.unfile_joined.ensures
