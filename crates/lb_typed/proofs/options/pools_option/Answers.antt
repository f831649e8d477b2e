use Rattle.std.proofs.Common.{List, ℕ, string_bytes, take, arith, subst}
use Rattle.lb_servers.specs.declared.pool.PoolName.{PoolName}
use Rattle.lb_command.specs.Grammar.{options}
use Rattle.lb_typed.specs.Options.{pool_choices}
use Rattle.lb_typed.specs.Pieces.{Follows}
use Rattle.lb_typed.proofs.OptionPieces.{next_pool}
use Rattle.lb_typed.proofs.Sets.{all_taken}
use Rattle.lb_typed.proofs.options.pools_option.Goals as goal

pub names-preserved : goal.names-preserved
names-preserved c = next_pool c.index-names-place.result c.args.names.now c.names.place (string_bytes c.names.text) c.pool_word.result.now (string_bytes c.push_pool.new.text) (omega (arith, c.names-test.true)) c.names.invariant (rw c.index-names-place.is at c.pool_word.ensures) c.in_ok-push_pool.ensures

pub returns : goal.returns
returns c = subst (λ (names : List PoolName). Follows (options (pool_choices names)) (string_bytes c.names.text)) (all_taken c.args.names.now c.names.place (omega (arith, c.names-test.false))) c.names.invariant
