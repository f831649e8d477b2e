-- Actions, against the grammar.
use Rattle.std.proofs.Common.{◌≡◌, ℕ, ◌≤◌, ◌&&◌, Some, Result, Ok, List, [], ◌∷◌, length, refl, ◌∙◌, arith}
use Rattle.std.specs.Prelude.{codes, nat_le}
use Rattle.lb_wire.specs.declared.addr.Addr.{Addr}
use Rattle.lb_wire.specs.declared.rcode.Rcode.{Rcode}
use Rattle.lb_servers.specs.declared.pool.PoolName.{PoolName}
use Rattle.lb_chain.specs.declared.action.Action.{Action}
use Rattle.lb_chain.specs.declared.action.Action.TheVariants as actions
use Rattle.lb_command.specs.Line.{Left}
use Rattle.lb_command.specs.Reading.{due, listed, taken}
use Rattle.lb_command.specs.Values.{addr_of, pool_of, rcode_of}
use Rattle.lb_command.specs.Actions.{action_at, action_body, pool_at, rcode_at, spoof_at, verdict_of, verdict_words}
use Rattle.lb_command.specs.Grammar.{AllowedAction, action, bracketed, comma_list, says, word}
use Rattle.lb_command.specs.declared.actions.Verdict.{Verdict}
use Rattle.lb_command.specs.declared.actions.Verdict.TheVariants as verdicts
use Rattle.lb_command.specs.declared.fault.CommandFault.{CommandFault}
use Rattle.lb_command.specs.declared.fault.FaultKind.TheVariants as kinds
use Rattle.lb_command.proofs.Exact.{Finds, Spelled, carried, says_again, says_step, step, table_again, table_step, tested, word_again, word_step}
use Rattle.lb_command.proofs.Truths.{both, le_of, of_le}
use Rattle.lb_command.proofs.Sequences.{says_list_again, says_list_found, stops_at_close}

abbrev verdict_text : Verdict → List ℕ
verdict_text verdicts.Allow = codes "allow"
verdict_text verdicts.Drop = codes "drop"
verdict_text verdicts.Rcode = codes "rcode"
verdict_text verdicts.Pool = codes "pool"
verdict_text verdicts.Tc = codes "tc"
verdict_text verdicts.Spoof = codes "spoof"
verdict_text verdicts.None = codes "none"
verdict_text verdicts.NoRecurse = codes "norecurse"
verdict_text verdicts.SkipCache = codes "skipcache"

-- an action that the grammar allows
abbrev pub Acts : Action PoolName → Left → Left → Type 0
Acts a s t = action a s t × AllowedAction a

rcode_found : (line s t : Left) (y : Action PoolName) → word (codes "rcode") line s → rcode_at s ≡ Ok (y, t) → Acts y line t
unfolding rcode_at
rcode_found line s t y w h =
    let a = word_step kinds.UnknownWord (codes "(") s _ (y, t) refl h in
    let b = says_step kinds.UnknownWord rcode_of a.1 _ (y, t) refl a.3 in
    let c = word_step kinds.UnknownWord (codes ")") b.1 _ (y, t) refl b.3 in
    carried (λ (z : Action PoolName) (u : Left). Acts z line u) (actions.Rcode b.0) y c.1 t c.3 ((s, w, (a.1, a.2, (b.1, b.2, c.2))), tt)

pool_found : (line s t : Left) (y : Action PoolName) → word (codes "pool") line s → pool_at s ≡ Ok (y, t) → Acts y line t
unfolding pool_at
pool_found line s t y w h =
    let a = word_step kinds.UnknownWord (codes "(") s _ (y, t) refl h in
    let b = says_step kinds.BadName pool_of a.1 _ (y, t) refl a.3 in
    let c = word_step kinds.UnknownWord (codes ")") b.1 _ (y, t) refl b.3 in
    carried (λ (z : Action PoolName) (u : Left). Acts z line u) (actions.Pool b.0) y c.1 t c.3 ((s, w, (a.1, a.2, (b.1, b.2, c.2))), tt)

spoof_found : (line s t : Left) (y : Action PoolName) → word (codes "spoof") line s → spoof_at s ≡ Ok (y, t) → Acts y line t
unfolding spoof_at
spoof_found line s t y w h =
    let a = word_step kinds.UnknownWord (codes "(") s _ (y, t) refl h in
    let b = step (listed (due kinds.BadAddress addr_of) (taken (codes ",")) (λ s. s) 8) (comma_list (says addr_of)) a.1 _ (y, t) (says_list_found kinds.BadAddress addr_of 8 refl) a.3 in
    let c = word_step kinds.UnknownWord (codes ")") b.1 _ (y, t) refl b.3 in
    let k = tested (nat_le 1 (length b.0) && nat_le (length b.0) 8) s (actions.Spoof b.0, c.1) (y, t) c.3 in
    let few = le_of (length b.0) 8 (both (nat_le 1 (length b.0)) (nat_le (length b.0) 8) k.0).1 in
    carried (λ (z : Action PoolName) (u : Left). Acts z line u) (actions.Spoof b.0) y c.1 t k.1 ((s, w, (a.1, a.2, (b.1, b.2, c.2))), few)

-- an action that is its word
alone : (a y : Action PoolName) (line s t : Left) → Acts a line s → ◌≡◌ {A = Result (Action PoolName × Left) CommandFault} (Ok (a, s)) (Ok (y, t)) → Acts y line t
alone a y line s t w h = carried (λ (z : Action PoolName) (u : Left). Acts z line u) a y s t h w

body_found : (v : Verdict) (line s t : Left) (y : Action PoolName) → word (verdict_text v) line s → action_body v s ≡ Ok (y, t) → Acts y line t
body_found verdicts.Allow line s t y w h = alone actions.Allow y line s t (w, tt) h
body_found verdicts.Drop line s t y w h = alone actions.Drop y line s t (w, tt) h
body_found verdicts.Rcode line s t y w h = rcode_found line s t y w h
body_found verdicts.Pool line s t y w h = pool_found line s t y w h
body_found verdicts.Tc line s t y w h = alone actions.Tc y line s t (w, tt) h
body_found verdicts.Spoof line s t y w h = spoof_found line s t y w h
body_found verdicts.None line s t y w h = alone actions.None y line s t (w, tt) h
body_found verdicts.NoRecurse line s t y w h = alone actions.NoRecurse y line s t (w, tt) h
body_found verdicts.SkipCache line s t y w h = alone actions.SkipCache y line s t (w, tt) h

all_spelled : Spelled verdict_text verdict_words
all_spelled = (refl, (refl, (refl, (refl, (refl, (refl, (refl, (refl, (refl, tt)))))))))

-- what is read as an action is one
pub action_found : Finds action_at Acts
unfolding action_at
action_found s t y h =
    let a = table_step kinds.UnknownWord verdict_text verdict_words s _ (y, t) all_spelled refl h in
    body_found a.0 s a.1 t y a.2 a.3

behind : (s t : Left) (v : Verdict) → verdict_of (verdict_text v) ≡ Some v → word (verdict_text v) s t → action_at s ≡ action_body v t
unfolding action_at
behind s t v known h = rw (table_again kinds.UnknownWord verdict_words (verdict_text v) s t v known h) refl

rcode_again : (s t : Left) (rcode : Rcode) → bracketed (says rcode_of rcode) s t → rcode_at s ≡ Ok (actions.Rcode rcode, t)
unfolding rcode_at
rcode_again s t rcode h =
    rw (word_again kinds.UnknownWord (codes "(") s h.0 h.1, says_again kinds.UnknownWord rcode_of h.0 h.2.0 rcode h.2.1, word_again kinds.UnknownWord (codes ")") h.2.0 t h.2.2) refl

pool_again : (s t : Left) (name : PoolName) → bracketed (says pool_of name) s t → pool_at s ≡ Ok (actions.Pool name, t)
unfolding pool_at
pool_again s t name h =
    rw (word_again kinds.UnknownWord (codes "(") s h.0 h.1, says_again kinds.BadName pool_of h.0 h.2.0 name h.2.1, word_again kinds.UnknownWord (codes ")") h.2.0 t h.2.2) refl

some_member : (addrs : List Addr) (s t : Left) → comma_list (says addr_of) addrs s t → 1 ≤ length addrs
some_member [] s t h = absurd h
some_member (a ∷ others) s t h = omega arith

spoof_again : (s t : Left) (addrs : List Addr) → length addrs ≤ 8 → bracketed (comma_list (says addr_of) addrs) s t → spoof_at s ≡ Ok (actions.Spoof addrs, t)
unfolding spoof_at
spoof_again s t addrs few h =
    rw (word_again kinds.UnknownWord (codes "(") s h.0 h.1, says_list_again kinds.BadAddress addr_of 8 h.0 h.2.0 addrs few (stops_at_close h.2.0 t h.2.2) h.2.1, word_again kinds.UnknownWord (codes ")") h.2.0 t h.2.2, of_le 1 (length addrs) (some_member addrs h.0 h.2.0 h.2.1), of_le (length addrs) 8 few) refl

-- an action is read
pub action_again : (y : Action PoolName) (s t : Left) → Acts y s t → action_at s ≡ Ok (y, t)
action_again actions.Allow s t h = behind s t verdicts.Allow refl h.0
action_again actions.Drop s t h = behind s t verdicts.Drop refl h.0
action_again (actions.Rcode rcode) s t h = behind s h.0.0 verdicts.Rcode refl h.0.1 ∙ rcode_again h.0.0 t rcode h.0.2
action_again (actions.Pool name) s t h = behind s h.0.0 verdicts.Pool refl h.0.1 ∙ pool_again h.0.0 t name h.0.2
action_again actions.Tc s t h = behind s t verdicts.Tc refl h.0
action_again (actions.Spoof addrs) s t h = behind s h.0.0 verdicts.Spoof refl h.0.1 ∙ spoof_again h.0.0 t addrs h.1 h.0.2
action_again actions.None s t h = behind s t verdicts.None refl h.0
action_again actions.NoRecurse s t h = behind s t verdicts.NoRecurse refl h.0
action_again actions.SkipCache s t h = behind s t verdicts.SkipCache refl h.0
