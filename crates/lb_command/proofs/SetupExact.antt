-- Lines of a setup file, against the grammar.
use Rattle.std.proofs.Common.{◌≡◌, ℕ, ◌≤◌, false, Ok, [], length, refl, inl, inr}
use Rattle.std.proofs.lemmas.Bool.{cases_Bool}
use Rattle.std.specs.Prelude.{codes}
use Rattle.lb_masks.specs.Number.{number_up_to}
use Rattle.lb_step.specs.declared.command.Command.{Command}
use Rattle.lb_step.specs.declared.command.Command.TheVariants.{RuleAdd, RuleRemove, RuleMove, ServerAdd, ServerRemove, ServerMode, PoolAdd, PoolPolicy, CacheAttach, CacheDetach, Expunge, SetTimeout, Show}
use Rattle.lb_command.specs.Line.{Left}
use Rattle.lb_command.specs.Reading.{taken}
use Rattle.lb_command.specs.Values.{addr_of, port_of, protocol_of}
use Rattle.lb_command.specs.Commands.{command_at}
use Rattle.lb_command.specs.Setup.{edit_line_at, listen_at, log_at, setup_at}
use Rattle.lb_command.specs.Grammar.{AllowedSetup, ◌▷◌, command, says, setup, word}
use Rattle.lb_command.specs.declared.fault.FaultKind.TheVariants as kinds
use Rattle.lb_command.specs.declared.setup.Listener.{Listener}
use Rattle.lb_command.specs.declared.setup.SetupLine.{SetupLine}
use Rattle.lb_command.specs.declared.setup.SetupLine.TheVariants.{Listen, Log, Edit}
use Rattle.lb_command.proofs.Exact.{Finds, carried, says_again, says_step, step, taken_again, taken_found}
use Rattle.lb_command.proofs.CommandExact.{Commands, command_part_again, command_part_found}

-- a line that the grammar allows
abbrev pub Setups : SetupLine → Left → Left → Type 0
Setups l s t = setup l s t × AllowedSetup l

-- listen udp|tcp|doh|console ADDR PORT
listen_found : (line s t : Left) (y : SetupLine) → word (codes "listen") line s → listen_at s ≡ Ok (y, t) → Setups y line t
unfolding listen_at
listen_found line s t y w h =
    let a = says_step kinds.UnknownWord protocol_of s _ (y, t) refl h in
    let b = says_step kinds.BadAddress addr_of a.1 _ (y, t) refl a.3 in
    let c = says_step kinds.BadNumber port_of b.1 _ (y, t) refl b.3 in
    let listener : Listener = record { protocol = a.0; addr = b.0; port = c.0 } in
    carried (λ (z : SetupLine) (u : Left). Setups z line u) (Listen listener) y c.1 t c.3 ((s, w, (a.1, a.2, (b.1, b.2, c.2))), tt)

-- log N
log_found : (line s t : Left) (y : SetupLine) → word (codes "log") line s → log_at s ≡ Ok (y, t) → Setups y line t
unfolding log_at
log_found line s t y w h =
    let a = says_step kinds.BadNumber (number_up_to 10 1000000) s _ (y, t) refl h in
    carried (λ (z : SetupLine) (u : Left). Setups z line u) (Log a.0) y a.1 t a.3 ((s, w, a.2), tt)

-- COMMAND
edit_line_found : Finds edit_line_at Setups
unfolding edit_line_at
edit_line_found s t y h =
    let c = step command_at Commands s _ (y, t) command_part_found h in
    carried (λ (z : SetupLine) (u : Left). Setups z s u) (Edit c.0) y c.1 t c.3 c.2

-- what is read as a line of a setup file is one
pub setup_part_found : Finds setup_at Setups
unfolding setup_at
setup_part_found s t y h =
    elim (cases_Bool (taken (codes "listen") s).0) [
      | inl e ↦ listen_found s (taken (codes "listen") s).1 t y (taken_found (codes "listen") s refl e) (rw e at h)
      | inr e ↦ elim (cases_Bool (taken (codes "log") s).0) [
        | inl f ↦ log_found s (taken (codes "log") s).1 t y (taken_found (codes "log") s refl f) (rw (e, f) at h)
        | inr f ↦ edit_line_found s t y (rw (e, f) at h)
      ]
    ]

listen_again : (s t : Left) (listener : Listener) → (says protocol_of listener.protocol ▷ says addr_of listener.addr ▷ says port_of listener.port) s t → listen_at s ≡ Ok (Listen listener, t)
unfolding listen_at
listen_again s t listener h =
    rw (says_again kinds.UnknownWord protocol_of s h.0 listener.protocol h.1, says_again kinds.BadAddress addr_of h.0 h.2.0 listener.addr h.2.1, says_again kinds.BadNumber port_of h.2.0 t listener.port h.2.2) refl

log_again : (s t : Left) (n : ℕ) → says (number_up_to 10 1000000) n s t → log_at s ≡ Ok (Log n, t)
unfolding log_at
log_again s t n h = rw (says_again kinds.BadNumber (number_up_to 10 1000000) s t n h) refl

edit_line_again : (s t : Left) (c : Command) → command_at s ≡ Ok (c, t) → edit_line_at s ≡ Ok (Edit c, t)
unfolding edit_line_at
edit_line_again s t c read = rw read refl

-- no command begins with `listen` or `log`
abbrev IsNeither : Left → Type 0
IsNeither s = (taken (codes "listen") s ≡ (false, s)) × (taken (codes "log") s ≡ (false, s))

no_setup : (c : Command) (s t : Left) → command c s t → IsNeither s
no_setup (RuleAdd p rule) s t h = rw h.1.1 (refl, refl)
no_setup (RuleRemove id) s t h = rw h.1.1 (refl, refl)
no_setup (RuleMove id to) s t h = rw h.1.1 (refl, refl)
no_setup (ServerAdd spec check) s t h = rw h.1.1 (refl, refl)
no_setup (ServerRemove name) s t h = rw h.1.1 (refl, refl)
no_setup (ServerMode name mode) s t h = rw h.1.1 (refl, refl)
no_setup (PoolAdd name) s t h = rw h.1.1 (refl, refl)
no_setup (PoolPolicy name policy) s t h = rw h.1.1 (refl, refl)
no_setup (CacheAttach name max shards max_ttl listed) s t h = rw h.1.1 (refl, refl)
no_setup (CacheDetach name) s t h = rw h.1.1 (refl, refl)
no_setup (Expunge name what) s t h = rw h.1.1 (refl, refl)
no_setup (SetTimeout millis) s t h = rw h.1.1 (refl, refl)
no_setup Show s t h = rw h.1 (refl, refl)

-- a line of a setup file is read, where it ends after what it states
pub setup_part_again : (y : SetupLine) (s t : Left) → Setups y s t → length s.words ≤ 300000 → t.words ≡ [] → setup_at s ≡ Ok (y, t)
unfolding setup_at
setup_part_again (Listen listener) s t h enough none = rw (taken_again (codes "listen") s h.0.0 h.0.1) (listen_again h.0.0 t listener h.0.2)
setup_part_again (Log n) s t h enough none =
    let other : taken (codes "listen") s ≡ (false, s) = rw h.0.1.1 refl in
    rw (other, taken_again (codes "log") s h.0.0 h.0.1) (log_again h.0.0 t n h.0.2)
setup_part_again (Edit c) s t h enough none =
    let n = no_setup c s t h.0 in
    rw (n.0, n.1) (edit_line_again s t c (command_part_again c s t h enough none))
