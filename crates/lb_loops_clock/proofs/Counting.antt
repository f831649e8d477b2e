-- How many events and probes lines have.
use Rattle.std.proofs.Common.{◌≡◌, ◌+◌, List, [], ◌∷◌, ◌++◌, length, ap, ◌∙◌, arith}
use Rattle.std.proofs.lemmas.Grind.{flat_map-append}
use Rattle.std.proofs.lemmas.List.{length-append}
use Rattle.lb_loops_clock.specs.Lines.{probe_line, probes_in}
use Rattle.lb_loops_io.specs.Lines.{event_in, events_in}
use Rattle.lb_loops_io.specs.declared.report.Line.{Line}

pub event_more : (ls : List Line) (l : Line) → length (events_in (l ∷ [])) ≡ 1 → length (events_in (ls ++ l ∷ [])) ≡ length (events_in ls) + 1
event_more ls l one = let sum : length (events_in (ls ++ l ∷ [])) ≡ length (events_in ls) + length (events_in (l ∷ [])) = ap (λ zs. length zs) (flat_map-append event_in ls (l ∷ [])) ∙ length-append (events_in ls) (events_in (l ∷ [])) in omega arith

pub event_no_probe : (ls : List Line) (l : Line) → probes_in (l ∷ []) ≡ [] → length (probes_in (ls ++ l ∷ [])) ≡ length (probes_in ls)
event_no_probe ls l none =
    let sum : length (probes_in (ls ++ l ∷ [])) ≡ length (probes_in ls) + length (probes_in (l ∷ [])) = ap (λ zs. length zs) (flat_map-append probe_line ls (l ∷ [])) ∙ length-append (probes_in ls) (probes_in (l ∷ [])) in
    let nil : length (probes_in (l ∷ [])) ≡ 0 = ap (λ zs. length zs) none in
    omega arith

pub probe_more : (ls : List Line) (l : Line) → length (probes_in (l ∷ [])) ≡ 1 → length (probes_in (ls ++ l ∷ [])) ≡ length (probes_in ls) + 1
probe_more ls l one = let sum : length (probes_in (ls ++ l ∷ [])) ≡ length (probes_in ls) + length (probes_in (l ∷ [])) = ap (λ zs. length zs) (flat_map-append probe_line ls (l ∷ [])) ∙ length-append (probes_in ls) (probes_in (l ∷ [])) in omega arith

pub probe_no_event : (ls : List Line) (l : Line) → events_in (l ∷ []) ≡ [] → length (events_in (ls ++ l ∷ [])) ≡ length (events_in ls)
probe_no_event ls l none =
    let sum : length (events_in (ls ++ l ∷ [])) ≡ length (events_in ls) + length (events_in (l ∷ [])) = ap (λ zs. length zs) (flat_map-append event_in ls (l ∷ [])) ∙ length-append (events_in ls) (events_in (l ∷ [])) in
    let nil : length (events_in (l ∷ [])) ≡ 0 = ap (λ zs. length zs) none in
    omega arith
