-- What comes of a letter, by its way.
use Rattle.std.proofs.Common.{◌≡◌, ℕ, Bool, false, Some, None, List, [], ◌++◌, refl, sym, ap, ◌∙◌, subst}
use Rattle.std.proofs.lemmas.List.{append-nil}
use Rattle.std.specs.Prelude.{◌==◌, get_or, if◌then◌else◌, slice_get}
use Rattle.lb_loops_clock.specs.Lines.{ComesBy, way_to}
use Rattle.lb_loops_clock.specs.Turn.{FailsBy, Sends}
use Rattle.lb_loops_clock.specs.World.{World}
use Rattle.lb_loops_io.specs.Lines.{is_by_device}
use Rattle.lb_loops_io.specs.Ways.{job_in, packet_in, post_in}
use Rattle.lb_loops_io.specs.declared.letter.End.TheVariants.{Client, Server}
use Rattle.lb_loops_io.specs.declared.report.Sending.{Sending}
use Rattle.lb_loops_io.specs.declared.report.Sending.TheVariants.{Failed, Nothing}
use Rattle.lb_loops_io.specs.declared.report.Way.TheVariants as ways
use Rattle.lb_loops_io.specs.declared.report.Why.TheVariants as whys
use Rattle.lb_loops_io.specs.declared.roster.Listed.{Listed}
use Rattle.lb_loops_io.specs.declared.traffic.Service.TheVariants as services
use Rattle.lb_outbox.specs.declared.job.Job.{Job}
use Rattle.lb_wire.specs.declared.addr.Origin.{Origin}
use Rattle.lb_wire.specs.declared.ids.ServerId.{ServerId}
use Rattle.lb_wire.specs.declared.transport.Lane.{Lane}

same_outbox : (w : World) (js : List Job) → js ≡ [] → w.outbox ≡ record w.outbox { sent = w.outbox.sent ++ js }
same_outbox w js none = ap (λ zs. record w.outbox { sent = zs }) (sym (append-nil w.outbox.sent) ∙ ap (λ zs. w.outbox.sent ++ zs) (sym none))

same_handed : (w : World) (ps : List (Origin × List ℕ)) → ps ≡ [] → w.handed ≡ w.handed ++ ps
same_handed w ps none = sym (append-nil w.handed) ∙ ap (λ zs. w.handed ++ zs) (sym none)

same_fails : (b : Bool) (n : ℕ) → b ≡ false → FailsBy b n n
same_fails b n is = subst (λ (x : Bool). FailsBy x n n) (sym is) refl

-- there is no letter
pub sends_none : (w : World) → Sends w w None Nothing
sends_none w = record {
  comes = refl;
  taken = λ roster. sym (append-nil w.taken);
  sent = same_outbox w [] refl;
  handed = same_handed w [] refl;
  failed = refl;
  same = refl;
}

-- the clock has no way to a server
pub sends_to_server : (w : World) (server : ServerId) (lane : Lane) (bytes : List ℕ) → Sends w w (Some (Server server lane, bytes)) (Failed whys.Gone)
sends_to_server w server lane bytes = record {
  comes = tt;
  taken = λ roster. sym (append-nil w.taken);
  sent = same_outbox w [] refl;
  handed = same_handed w [] refl;
  failed = refl;
  same = refl;
}

-- no way to a client
pub sends_nowhere : (w : World) (origin : Origin) (bytes : List ℕ) → way_to (slice_get w.fronts origin.front) origin.slot ≡ None → Sends w w (Some (Client origin, bytes)) (Failed whys.Gone)
sends_nowhere w origin bytes none = record {
  comes = rw none tt;
  taken = λ roster. sym (append-nil w.taken);
  sent = same_outbox w [] refl;
  handed = same_handed w [] refl;
  failed = refl;
  same = refl;
}

-- by the socket of a listener
pub sends_packet : (old new : World) (origin : Origin) (bytes : List ℕ) (sending : Sending) → slice_get old.fronts origin.front ≡ Some services.Datagram
    → ComesBy (if origin.slot == 0 then Some ways.Datagram else None) (get_or old.there origin.front false) sending
    → ((roster : List Listed) → new.taken ≡ old.taken ++ packet_in roster (Some (Client origin, bytes)) sending)
    → job_in (Some (Client origin, bytes)) sending ≡ [] → post_in (Some (Client origin, bytes)) sending ≡ []
    → FailsBy (is_by_device sending) old.failures new.failures → new ≡ record old { taken = new.taken; failures = new.failures }
    → Sends old new (Some (Client origin, bytes)) sending
sends_packet old new origin bytes sending front comes taken jobs posts failed same = record {
  comes = rw front comes;
  taken = taken;
  sent = ap (λ (w : World). w.outbox) same ∙ same_outbox old (job_in (Some (Client origin, bytes)) sending) jobs;
  handed = ap (λ (w : World). w.handed) same ∙ same_handed old (post_in (Some (Client origin, bytes)) sending) posts;
  failed = failed;
  same = same ∙ ap (λ (w : World). record old { taken = new.taken; failures = new.failures; outbox = w.outbox; handed = w.handed }) (sym same);
}

-- by the outbox
pub sends_job : (old new : World) (origin : Origin) (bytes : List ℕ) (sending : Sending) → slice_get old.fronts origin.front ≡ Some services.Stream
    → ((there : Bool) → ComesBy (Some ways.Outbox) there sending)
    → new.outbox ≡ record old.outbox { sent = old.outbox.sent ++ job_in (Some (Client origin, bytes)) sending }
    → ((roster : List Listed) → packet_in roster (Some (Client origin, bytes)) sending ≡ []) → post_in (Some (Client origin, bytes)) sending ≡ [] → is_by_device sending ≡ false
    → new ≡ record old { outbox = new.outbox }
    → Sends old new (Some (Client origin, bytes)) sending
sends_job old new origin bytes sending front comes sent packets posts device same = record {
  comes = rw front (comes (get_or old.there origin.front false));
  taken = λ roster. ap (λ (w : World). w.taken) same ∙ sym (append-nil old.taken) ∙ ap (λ zs. old.taken ++ zs) (sym (packets roster));
  sent = sent;
  handed = ap (λ (w : World). w.handed) same ∙ same_handed old (post_in (Some (Client origin, bytes)) sending) posts;
  failed = subst (λ (n : ℕ). FailsBy (is_by_device sending) old.failures n) (sym (ap (λ (w : World). w.failures) same)) (same_fails (is_by_device sending) old.failures device);
  same = same ∙ ap (λ (w : World). record old { outbox = new.outbox; taken = w.taken; handed = w.handed; failures = w.failures }) (sym same);
}

-- to the request that waits for it
pub sends_post : (old new : World) (origin : Origin) (bytes : List ℕ) (sending : Sending) → slice_get old.fronts origin.front ≡ Some services.Http
    → ((there : Bool) → ComesBy (Some ways.Post) there sending)
    → new.handed ≡ old.handed ++ post_in (Some (Client origin, bytes)) sending
    → ((roster : List Listed) → packet_in roster (Some (Client origin, bytes)) sending ≡ []) → job_in (Some (Client origin, bytes)) sending ≡ [] → is_by_device sending ≡ false
    → new ≡ record old { handed = new.handed }
    → Sends old new (Some (Client origin, bytes)) sending
sends_post old new origin bytes sending front comes handed packets jobs device same = record {
  comes = rw front (comes (get_or old.there origin.front false));
  taken = λ roster. ap (λ (w : World). w.taken) same ∙ sym (append-nil old.taken) ∙ ap (λ zs. old.taken ++ zs) (sym (packets roster));
  sent = ap (λ (w : World). w.outbox) same ∙ same_outbox old (job_in (Some (Client origin, bytes)) sending) jobs;
  handed = handed;
  failed = subst (λ (n : ℕ). FailsBy (is_by_device sending) old.failures n) (sym (ap (λ (w : World). w.failures) same)) (same_fails (is_by_device sending) old.failures device);
  same = same ∙ ap (λ (w : World). record old { handed = new.handed; taken = w.taken; outbox = w.outbox; failures = w.failures }) (sym same);
}
