-- Stamps, counts, and lists that grow, in two steps.
use Rattle.std.proofs.Common.{◌≡◌, ℕ, ◌+◌, ◌≤◌, ◌⊎◌, inl, inr, Bool, true, false, IsTrue, List, [], ◌∷◌, ◌++◌, length, flat_map, sym, ap, ◌∙◌, arith, append_assoc}
use Rattle.std.specs.Prelude.{◌||◌}
use Rattle.std.proofs.lemmas.Grind.{flat_map-append}
use Rattle.std.proofs.lemmas.List.{append-nil, length-append}
use Rattle.lb_step.specs.declared.event.Event.{Event}
use Rattle.lb_loops_io.specs.Counts.{Grows, Rose}
use Rattle.lb_loops_io.specs.Lines.{any_by_device, is_by_device}
use Rattle.lb_loops_io.specs.Stamps.{Stamp, Stamped}
use Rattle.lb_loops_io.specs.Ways.{sending_of}
use Rattle.lb_loops_io.specs.declared.report.Line.{Line}
use Rattle.lb_outbox.specs.Outbox.{Receiving}
use Rattle.lb_outbox.specs.declared.job.Job.{Job}
use Rattle.lb_outbox.specs.declared.rule.Delivery.{Delivery}
use Rattle.lb_loops_tcp.proofs.Faring.{rose_earlier, rose_later}
use Rattle.lb_loops_tcp.specs.Turn.{AreOf, Receives, Stamps}

stamped_later : (events : List Event) (earlier later : List Stamp) → Stamped events later → Stamped events (earlier ++ later)
stamped_later [] earlier later s = tt
stamped_later (e ∷ es) [] later s = s
stamped_later (e ∷ es) (x ∷ xs) later s = inr (stamped_later (e ∷ es) xs later s)

stamped_on : (events more : List Event) (xs ys : List Stamp) → Stamped events xs → Stamped more ys → Stamped (events ++ more) (xs ++ ys)
stamped_on [] more xs ys first then = stamped_later more xs ys then
stamped_on (e ∷ es) more [] ys first then = absurd first
stamped_on (e ∷ es) more (x ∷ xs) ys (inl this) then = inl (this.0, stamped_on es more xs ys this.1 then)
stamped_on (e ∷ es) more (x ∷ xs) ys (inr later) then = inr (stamped_on (e ∷ es) more xs ys later then)

pub stamps_on : (a b c : List Stamp) (events more : List Event) → Stamps a b events → Stamps b c more → Stamps a c (events ++ more)
stamps_on a b c events more one two = record {
  stamps = one.stamps ++ two.stamps;
  said = two.said ∙ ap (λ zs. zs ++ two.stamps) one.said ∙ append_assoc a one.stamps two.stamps;
  stamped = stamped_on events more one.stamps two.stamps one.stamped two.stamped;
}

pub stamps_none : (a : List Stamp) → Stamps a a []
stamps_none a = record { stamps = []; said = sym (append-nil a); stamped = tt }

pub grows_on : {A : Type 0} (old mid new these more : List A) → Grows old mid these → Grows mid new more → Grows old new (these ++ more)
grows_on old mid new these more first then =
    let sum : length (these ++ more) ≡ length these + length more = length-append these more in
    let one = first.0 in
    let two = then.0 in (
      omega arith,
      λ full. then.1 (omega arith) ∙ ap (λ zs. zs ++ more) (first.1 (omega arith)) ∙ append_assoc old these more,
    )

any_head : (a b c : Bool) (X : Type 0) → (IsTrue c → IsTrue b ⊎ X) → IsTrue (a || c) → IsTrue (a || b) ⊎ X
any_head true b c X f t = inl t
any_head false b c X f t = f t

any_either : (ls xs : List Line) → IsTrue (any_by_device (ls ++ xs)) → IsTrue (any_by_device ls) ⊎ IsTrue (any_by_device xs)
any_either [] xs t = inr t
any_either (l ∷ ls) xs t = any_head (is_by_device (sending_of l)) (any_by_device ls) (any_by_device (ls ++ xs)) (IsTrue (any_by_device xs)) (any_either ls xs) t

failed_by : (a b c : ℕ) (X Y : Type 0) → a ≤ b → b ≤ c → (X → Rose a b) → (Y → Rose b c) → X ⊎ Y → Rose a c
failed_by a b c X Y ab bc first then (inl x) = rose_later a b c (first x) bc
failed_by a b c X Y ab bc first then (inr y) = rose_earlier a b c ab (then y)

pub failed_on : (a b c : ℕ) (ls xs : List Line) → a ≤ b → b ≤ c → (IsTrue (any_by_device ls) → Rose a b) → (IsTrue (any_by_device xs) → Rose b c) → IsTrue (any_by_device (ls ++ xs)) → Rose a c
failed_on a b c ls xs ab bc one two t = failed_by a b c (IsTrue (any_by_device ls)) (IsTrue (any_by_device xs)) ab bc one two (any_either ls xs t)

pub grown_by : {A : Type 0} (f : Line → List A) (old mid new : List A) (ls xs : List Line) → mid ≡ old ++ flat_map f ls → new ≡ mid ++ flat_map f xs → new ≡ old ++ flat_map f (ls ++ xs)
grown_by f old mid new ls xs e is = is ∙ ap (λ zs. zs ++ flat_map f xs) e ∙ append_assoc old (flat_map f ls) (flat_map f xs) ∙ ap (λ zs. old ++ zs) (sym (flat_map-append f ls xs))

of_on : (js ks : List Job) (ds es : List Delivery) → AreOf js ds → AreOf ks es → AreOf (js ++ ks) (ds ++ es)
of_on [] ks [] es one two = two
of_on [] ks (d ∷ ds) es one two = absurd one
of_on (j ∷ js) ks [] es one two = absurd one
of_on (j ∷ js) ks (d ∷ ds) es one two = (one.0, of_on js ks ds es one.1 two)

pub received_on : (a b c : Receiving) (js ks : List Job) → Receives a b js → Receives b c ks → Receives a c (js ++ ks)
received_on a b c js ks one two = record {
  deliveries = one.deliveries ++ two.deliveries;
  are = of_on js ks one.deliveries two.deliveries one.are two.are;
  received = two.received ∙ ap (λ (r : Receiving). record r { received = r.received ++ two.deliveries }) one.received ∙ ap (λ (zs : List Delivery). record a { received = zs }) (append_assoc a.received one.deliveries two.deliveries);
}

pub received_none : (a : Receiving) → Receives a a []
received_none a = record { deliveries = []; are = tt; received = ap (λ (zs : List Delivery). record a { received = zs }) (sym (append-nil a.received)) }
