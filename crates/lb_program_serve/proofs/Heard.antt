-- A line that is no command.
use Rattle.std.proofs.Common.{◌≡◌, ◌⊎◌, ℕ, List, Result, Ok, Err, IfOk, IsErr, None, inl, inr, refl, sym, subst}
use Rattle.lb_command.specs.Commands.{command_of}
use Rattle.lb_command.specs.declared.fault.CommandFault.{CommandFault}
use Rattle.lb_command.specs.declared.fault.FaultKind.TheVariants as kinds
use Rattle.lb_step.specs.declared.command.Command.{Command}
use Rattle.lb_program_serve.specs.declared.operator.Said.{Said}
use Rattle.lb_program_serve.specs.declared.operator.Said.TheVariants.{Line, Lines, Quit, Stop}
use Rattle.lb_program_serve.specs.Operator.{BySaid, IsHeard, IsLine, Says, Told, Lacks, fault_text}
use Rattle.lb_words.specs.Word.{console_word}

-- a lack of memory may be told of any line
lacking_said : (line : List ℕ) (said : Said) (old new : Told) (r : Result Command CommandFault) → Lacks said old new → BySaid line r said old new
lacking_said line said old new (Ok command) lacks = inr lacks
lacking_said line said old new (Err fault) lacks = inr lacks

is_err : (line : List ℕ) (fault : CommandFault) → (fault.kind ≡ kinds.NoMemory → ⊥) → (fault.kind ≡ kinds.NoMemory) ⊎ (command_of line ≡ Err fault) → IsErr (command_of line)
is_err line fault other (inl kind) = absurd (other kind)
is_err line fault other (inr is) = subst (λ (r : Result Command CommandFault). IsErr r) (sym is) refl

line_said : (line : List ℕ) (fault : CommandFault) (old new : Told) (said : Said) → (fault.kind ≡ kinds.NoMemory) ⊎ (command_of line ≡ Err fault) → new ≡ old →
    ((console_word line ≡ None) × IsLine said (fault_text fault)) ⊎ ((own : CommandFault) × (own.kind ≡ kinds.NoMemory) × IsLine said (fault_text own)) → BySaid line (command_of line) said old new
line_said line fault old new said read same (inr own) = lacking_said line said old new (command_of line) (record { fault = own.0; kind = own.1; is = own.2; same = same })
line_said line fault old new said (inl kind) same (inl heard) = lacking_said line said old new (command_of line) (record { fault = fault; kind = kind; is = heard.1; same = same })
line_said line fault old new said (inr is) same (inl heard) = subst (λ (r : Result Command CommandFault). BySaid line r said old new) (sym is) (inl (heard.0, heard.1, same))

pub heard_said : {E : Type 0} (line : List ℕ) (fault : CommandFault) (old new : Told) → (fault.kind ≡ kinds.NoMemory) ⊎ (command_of line ≡ Err fault) → new ≡ old → (r : Result Said E) → IfOk r (IsHeard line fault) → IfOk r (λ said. Says line said old new)
heard_said line fault old new read same (Err e) heard = tt
heard_said line fault old new read same (Ok (Line text)) heard = line_said line fault old new (Line text) read same heard
heard_said line fault old new read same (Ok (Lines text)) heard = (is_err line fault heard.0 read, (heard.1, heard.2), same)
heard_said line fault old new read same (Ok Quit) heard = (is_err line fault heard.0 read, heard.1, same)
heard_said line fault old new read same (Ok Stop) heard = absurd heard
