use Rattle.std.proofs.Common.{List, ℕ, string_bytes, codes, arith}
use Rattle.lb_command.specs.Grammar.{action}
use Rattle.lb_typed.specs.Pieces.{Spells}
use Rattle.lb_typed.specs.Typed.{IsTypedAction}
use Rattle.lb_typed.proofs.ActionPieces as pieces
use Rattle.lb_typed.proofs.Keywords as words
use Rattle.lb_typed.proofs.TermPieces.{within}
use Rattle.lb_typed.proofs.Texts.{holds}
use Rattle.lb_typed.proofs.actions.action_text.Goals as goal

pub returns-in-Allow : goal.returns-in-Allow
returns-in-Allow c = holds string_bytes c.from_str.result (codes "allow") (λ text. IsTypedAction c.args.what.now → Spells (action c.args.what.now) text) (rw c.in-Allow.is (λ is. words.allow_word)) c.from_str.ensures.ok

pub returns-in-Drop : goal.returns-in-Drop
returns-in-Drop c = holds string_bytes c.from_str-in-Drop.result (codes "drop") (λ text. IsTypedAction c.args.what.now → Spells (action c.args.what.now) text) (rw c.in-Drop.is (λ is. words.drop_word)) c.from_str-in-Drop.ensures.ok

pub returns-in-Tc : goal.returns-in-Tc
returns-in-Tc c = holds string_bytes c.from_str-in-Tc.result (codes "tc") (λ text. IsTypedAction c.args.what.now → Spells (action c.args.what.now) text) (rw c.in-Tc.is (λ is. words.tc_word)) c.from_str-in-Tc.ensures.ok

pub returns-in-None : goal.returns-in-None
returns-in-None c = holds string_bytes c.from_str-in-None.result (codes "none") (λ text. IsTypedAction c.args.what.now → Spells (action c.args.what.now) text) (rw c.in-None.is (λ is. words.none_word)) c.from_str-in-None.ensures.ok

pub returns-in-NoRecurse : goal.returns-in-NoRecurse
returns-in-NoRecurse c = holds string_bytes c.from_str-in-NoRecurse.result (codes "norecurse") (λ text. IsTypedAction c.args.what.now → Spells (action c.args.what.now) text) (rw c.in-NoRecurse.is (λ is. words.norecurse_word)) c.from_str-in-NoRecurse.ensures.ok

pub returns-in-SkipCache : goal.returns-in-SkipCache
returns-in-SkipCache c = holds string_bytes c.from_str-in-SkipCache.result (codes "skipcache") (λ text. IsTypedAction c.args.what.now → Spells (action c.args.what.now) text) (rw c.in-SkipCache.is (λ is. words.skipcache_word)) c.from_str-in-SkipCache.ensures.ok

pub returns-in-Rcode : goal.returns-in-Rcode
returns-in-Rcode c = holds string_bytes c.bracketed.result (within (codes "rcode") c.rcode_word.result.now) (λ text. IsTypedAction c.args.what.now → Spells (action c.args.what.now) text) (rw c.in-Rcode.is (pieces.rcode c.in-Rcode.rcode c.rcode_word.result.now c.rcode_word.ensures)) c.bracketed.ensures

pub returns-in-Pool : goal.returns-in-Pool
returns-in-Pool c = holds string_bytes c.bracketed-in-Pool.result (within (codes "pool") c.pool_word.result.now) (λ text. IsTypedAction c.args.what.now → Spells (action c.args.what.now) text) (rw c.in-Pool.is (λ is. pieces.pool c.in-Pool.name c.pool_word.result.now c.pool_word.ensures)) c.bracketed-in-Pool.ensures

pub returns-in_ok-inner-in-Spoof : goal.returns-in_ok-inner-in-Spoof
returns-in_ok-inner-in-Spoof c =
    let inner = string_bytes c.in_ok-inner-in-Spoof.inner in
    holds string_bytes c.bracketed-in-Spoof.result (within (codes "spoof") inner) (λ text. IsTypedAction c.args.what.now → Spells (action c.args.what.now) text)
    (rw c.in-Spoof.is (λ is. pieces.spoof c.in-Spoof.addrs inner (rw c.as_slice.ensures.addresses at c.in_ok-inner-in-Spoof.ensures (omega (arith, c.as_slice.ensures.some))))) (rw c.as_str.ensures.value at c.bracketed-in-Spoof.ensures)
