-- Whole lines, against the grammar.
use Rattle.std.proofs.Common.{◌≡◌, ℕ, ◌≤◌, Result, Ok, Err, List, [], ◌∷◌, length, subst, refl, sym, ap, ◌∙◌, arith, inl, inr}
use Rattle.std.proofs.lemmas.Bool.{cases_Bool}
use Rattle.std.proofs.lemmas.Slice.Eq.{bytes_eq-Decides}
use Rattle.std.specs.Prelude.{IfOk, bytes_eq, nat_lt}
use Rattle.lb_step.specs.declared.command.Command.{Command}
use Rattle.lb_step.specs.declared.event.Event.{Event}
use Rattle.lb_command.specs.Line.{Left, Seen, whole}
use Rattle.lb_command.specs.Reading.{◌>>=◌, Answers, ReadsAs, ended, max_line, within}
use Rattle.lb_command.specs.Commands.{command_at, command_of, command_whole}
use Rattle.lb_command.specs.Events.{event_at, event_of, event_whole}
use Rattle.lb_command.specs.Setup.{setup_at, setup_of, setup_whole}
use Rattle.lb_command.specs.Grammar.{Allowed, AllowedEvent, AllowedSetup, IsCommand, IsEvent, IsSetup, Part, Says, all_taken, command, event, setup}
use Rattle.lb_command.specs.declared.fault.CommandFault.{CommandFault}
use Rattle.lb_command.specs.declared.setup.SetupLine.{SetupLine}
use Rattle.lb_command.proofs.Exact.{Finds, bind_ok, ok_same}
use Rattle.lb_command.proofs.Truths.{not_over, of_not_over}
use Rattle.lb_command.proofs.Keeping.{AreSome, IsSome, Keeps, command_keeps, event_keeps, line_few, line_some, setup_keeps}
use Rattle.lb_command.proofs.CommandExact.{command_part_again, command_part_found}
use Rattle.lb_command.proofs.EventExact.{event_part_again, event_part_found}
use Rattle.lb_command.proofs.SetupExact.{setup_part_again, setup_part_found}

-- where the end is read nothing is left
none_left : (ws : List Seen) (total : ℕ) (x : Unit {0}) → AreSome ws → ended (record { words = ws; total = total }) ≡ Ok x → ws ≡ []
none_left [] total x all h = refl
none_left (w ∷ ws) total x all h =
    elim (cases_Bool (bytes_eq w.text [])) [
      | inl e ↦ absurd (subst IsSome ((bytes_eq-Decides w.text []).0 e) all.0)
      | inr e ↦ absurd (let k = rw e at h in cc)
    ]

taken_all : (s : Left) (line : List ℕ) → s.words ≡ [] → s.total ≡ length line → s ≡ all_taken line
taken_all s line none total = ap (λ (ws : List Seen). record { words = ws; total = s.total }) none ∙ ap (λ (n : ℕ). record { words = []; total = n }) total

-- a part and the end after it
abbrev read_whole : {X : Type 0} → (Left → Result (X × Left) CommandFault) → Left → Result X CommandFault
read_whole read s = read s >>= λ x. ended x.1 >>= λ end. Ok x.0

whole_found : {X : Type 0} (read : Left → Result (X × Left) CommandFault) (part : X → Part) (allowed : X → Type 0) → Finds read (λ x s t. part x s t × allowed x) → ((x : X) → Keeps (part x))
    → (line : List ℕ) (x : X) → length line ≤ max_line → read_whole read (whole line) ≡ Ok x → Says (part x) line × allowed x
whole_found {X} read part allowed finds keeps line x fits h =
    let a = bind_ok (read (whole line)) _ x h in
    let b = bind_ok (ended a.0.1) _ x a.2 in
    let p = finds (whole line) a.0.1 a.0.0 a.1 in
    let k = keeps a.0.0 (whole line) a.0.1 p.0 in
    let end : a.0.1 ≡ all_taken line = taken_all a.0.1 line (none_left a.0.1.words a.0.1.total b.0 (k.2 (line_some line)) b.1) k.0 in
    subst (λ (z : X). Says (part z) line × allowed z) (ok_same a.0.0 x b.2) ((fits, subst (λ (u : Left). part a.0.0 (whole line) u) end p.0), p.1)

-- what is read of a line is in the grammar
line_found : {X : Type 0} (read : Left → Result (X × Left) CommandFault) (part : X → Part) (allowed : X → Type 0) → Finds read (λ x s t. part x s t × allowed x) → ((x : X) → Keeps (part x))
    → (line : List ℕ) (x : X) → within line (read_whole read (whole line)) ≡ Ok x → Says (part x) line × allowed x
line_found read part allowed finds keeps line x h =
    elim (cases_Bool (nat_lt max_line (length line))) [
      | inl e ↦ absurd (let k = rw e at h in cc)
      | inr e ↦ whole_found read part allowed finds keeps line x (not_over (length line) max_line e) (rw e at h)
    ]

-- a line that is in the grammar is read
line_again : {X : Type 0} (read : Left → Result (X × Left) CommandFault) (part : X → Part) (allowed : X → Type 0)
    → ((x : X) (s t : Left) → part x s t × allowed x → length s.words ≤ 300000 → t.words ≡ [] → read s ≡ Ok (x, t))
    → (line : List ℕ) (x : X) → Says (part x) line × allowed x → within line (read_whole read (whole line)) ≡ Ok x
line_again read part allowed again line x h =
    let few = line_few line in
    let fits : length line ≤ 300000 = h.0.0 in
    rw (of_not_over (length line) max_line h.0.0, again x (whole line) (all_taken line) (h.0.1, h.1) (omega (arith, few, fits)) refl) refl

pub command_found : (line : List ℕ) (c : Command) → command_of line ≡ Ok c → IsCommand line c
unfolding command_whole
command_found line c h = line_found command_at command Allowed command_part_found command_keeps line c h

pub command_again : (line : List ℕ) (c : Command) → IsCommand line c → command_of line ≡ Ok c
unfolding command_whole
command_again line c h = line_again command_at command Allowed command_part_again line c h

pub event_found : (line : List ℕ) (e : Event) → event_of line ≡ Ok e → IsEvent line e
unfolding event_whole
event_found line e h = line_found event_at event AllowedEvent event_part_found event_keeps line e h

pub event_again : (line : List ℕ) (e : Event) → IsEvent line e → event_of line ≡ Ok e
unfolding event_whole
event_again line e h = line_again event_at event AllowedEvent event_part_again line e h

pub setup_found : (line : List ℕ) (l : SetupLine) → setup_of line ≡ Ok l → IsSetup line l
unfolding setup_whole
setup_found line l h = line_found setup_at setup AllowedSetup setup_part_found setup_keeps line l h

pub setup_again : (line : List ℕ) (l : SetupLine) → IsSetup line l → setup_of line ≡ Ok l
unfolding setup_whole
setup_again line l h = line_again setup_at setup AllowedSetup setup_part_again line l h

-- what a reader of lines gives, where it answers what reading gives
pub found_of : {X : Type 0} (P : X → Type 0) (r read : Result X CommandFault) → ((x : X) → read ≡ Ok x → P x) → Answers r read → IfOk r P
found_of P (Ok x) read finds a = finds x a
found_of P (Err f) read finds a = tt

pub only_of : {X : Type 0} (r read : Result X CommandFault) (x : X) → read ≡ Ok x → Answers r read → ReadsAs r x
only_of (Ok y) read x h a = ok_same y x (sym a ∙ h)
only_of (Err f) read x h (inl memory) = memory
only_of {X} (Err f) read x h (inr fault) = absurd (let wrong : ◌≡◌ {A = Result X CommandFault} (Err f) (Ok x) = sym fault ∙ h in cc)

-- a line is one thing at most
pub one_command : (line : List ℕ) (a b : Command) → IsCommand line a → IsCommand line b → a ≡ b
one_command line a b h k = ok_same a b (sym (command_again line a h) ∙ command_again line b k)

pub one_event : (line : List ℕ) (a b : Event) → IsEvent line a → IsEvent line b → a ≡ b
one_event line a b h k = ok_same a b (sym (event_again line a h) ∙ event_again line b k)

pub one_setup : (line : List ℕ) (a b : SetupLine) → IsSetup line a → IsSetup line b → a ≡ b
one_setup line a b h k = ok_same a b (sym (setup_again line a h) ∙ setup_again line b k)
