use Rattle.std.proofs.Common.{List, OnOk, ℕ, subst}
use Rattle.std.proofs.lemmas.List.{append-nil}
use Rattle.lb_index_ranks.specs.Filed.{filed_at, HasBesides}
use Rattle.lb_index_ranks.proofs.ranks.Ranks.file.Goals as goal

pub returns-clause-ok : goal.returns-clause-ok
returns-clause-ok c = subst (λ (key : List ℕ). OnOk c.file_joined.result (HasBesides c.args.self.now (filed_at key c.args.rank) c.file_joined.new.self)) (append-nil c.args.key.now) c.file_joined.ensures.ok
