-- What an event led to is what its datagram led to.
use Rattle.std.proofs.Common.{◌≡◌, ℕ, ◌+◌, Bool, false, if◌then◌else◌, inl, Option, Some, None, List, [], ◌∷◌, length, option_to_list, refl, sym, ap, ◌∙◌, subst, arith}
use Rattle.std.proofs.lemmas.List.{append-nil}
use Rattle.lb_step.specs.declared.answer.Answer.{Answer}
use Rattle.lb_step.specs.declared.event.Event.{Event}
use Rattle.lb_step.specs.declared.event.Event.TheVariants.{Query, Reply}
use Rattle.lb_loops_udp.specs.Turn.{Handles, Leads, asked_line}
use Rattle.lb_loops_io.specs.Counts.{Grows}
use Rattle.lb_loops_io.specs.Events.{asker, event_at, event_of, is_strange, timeless}
use Rattle.lb_loops_io.specs.Lines.{answered_as}
use Rattle.lb_loops_io.specs.Stamps.{Bears, Stamp}
use Rattle.lb_loops_io.specs.declared.endpoint.Endpoint.{Endpoint}
use Rattle.lb_loops_io.specs.declared.report.Line.{Line}
use Rattle.lb_loops_io.specs.declared.traffic.Datagram.{Datagram}
use Rattle.lb_loops_io.specs.declared.traffic.Socket.{Socket}
use Rattle.lb_loops_io.specs.declared.traffic.Socket.TheVariants.{Listener, Server}
use Rattle.lb_wire.specs.declared.ids.ServerId.{ServerId}
use Rattle.lb_wire.specs.declared.transport.Kind.TheVariants as kinds

-- a list that stayed as it was
pub grows_none : (p p' : List (Event × Answer)) → p' ≡ p → Grows p p' []
grows_none p p' same = let count : length p' ≡ length p = ap (λ zs. length zs) same in (omega arith, λ _. same ∙ sym (append-nil p))

-- a datagram that makes no event
pub handles_none : (d : Datagram) (stamp : Stamp) (before after : List Line) (a a' : ℕ) (p p' : List (Event × Answer))
    → event_of d ≡ None → after ≡ before → a' ≡ a → p' ≡ p → Handles d stamp before after a a' p p' None
handles_none d stamp before after a a' p p' is same count told = record {
  more = [];
  put = same ∙ sym (append-nil before);
  events = rw is refl;
  stamped = tt;
  few = omega arith;
  asked = tt;
  counted = omega arith;
  grows = grows_none p p' told;
}

-- a datagram that makes one
pub handles : (d : Datagram) (event : Event) (stamp : Stamp) (held : Option Event) (before after : List Line) (a a' : ℕ) (p p' : List (Event × Answer))
    → event_of d ≡ Some (timeless event) → Bears event stamp → Leads event held before after a a' p p' → Handles d stamp before after a a' p p' held
handles d event stamp None before after a a' p p' is bears led =
    let pairs_none = append-nil (answered_as event led.outcome) in record {
      more = asked_line event led.outcome ∷ [];
      put = led.put;
      events = rw is refl;
      stamped = inl (bears, tt);
      few = omega arith;
      asked = ((refl, led.is), tt);
      counted = led.counted ∙ ap (λ zs. a + length zs) (sym pairs_none);
      grows = subst (Grows p p') (sym pairs_none) led.grows;
    }
handles d event stamp (Some held) before after a a' p p' is bears led =
    let count = led.2 in record {
      more = [];
      put = led.1 ∙ sym (append-nil before);
      events = rw is (ap (λ e. timeless e ∷ []) led.0);
      stamped = inl (subst (λ e. Bears e stamp) (sym led.0) bears, tt);
      few = omega arith;
      asked = tt;
      counted = omega arith;
      grows = grows_none p p' led.3;
    }

-- a datagram to a listener makes a query
pub query_of : (socket : Socket) (peer : Endpoint) (bytes : List ℕ) (front now word : ℕ) → socket ≡ Listener front
    → (if is_strange socket peer then None else Some (event_at 0 0 socket peer bytes)) ≡ Some (timeless (Query now (asker front peer) kinds.Datagram word bytes))
query_of socket peer bytes front now word is =
    subst (λ s. (if is_strange s peer then None else Some (event_at 0 0 s peer bytes)) ≡ Some (timeless (Query now (asker front peer) kinds.Datagram word bytes))) (sym is) refl

-- one from a server makes a reply
pub reply_of : (socket : Socket) (peer : Endpoint) (bytes : List ℕ) (server : ServerId) (number : ℕ) (at : Endpoint) (now : ℕ) → socket ≡ Server server number at → is_strange socket peer ≡ false
    → (if is_strange socket peer then None else Some (event_at 0 0 socket peer bytes)) ≡ Some (timeless (Reply now server (record { kind = kinds.Datagram; number = number }) bytes))
reply_of socket peer bytes server number at now is known =
    subst (λ (b : Bool). (if b then None else Some (event_at 0 0 socket peer bytes)) ≡ Some (timeless (Reply now server (record { kind = kinds.Datagram; number = number }) bytes))) (sym known)
    (subst (λ s. Some (event_at 0 0 s peer bytes) ≡ Some (timeless (Reply now server (record { kind = kinds.Datagram; number = number }) bytes))) (sym is) refl)
