-- Whole messages at a place.
use Rattle.std.proofs.Common.{◌≡◌, ℕ, ◌+◌, ◌-◌, ◌<◌, ◌≤◌, ◌^◌, List, [], ◌∷◌, ◌++◌, length, take, drop, flat_map, refl, sym, ap, ◌∙◌, arith, append_assoc}
use Rattle.std.proofs.lemmas.List.{length-append, length-drop, length-take-le, drop-append-le, take-append-drop, append-nil}
use Rattle.std.proofs.lemmas.Grind.{flat_map-append}
use Rattle.lb_wire.specs.BigEndian.{two_octets}
use Rattle.lb_loops_frames.proofs.Words.{one_word}
use Rattle.lb_loops_frames.specs.Frames.{framed, frames, AreMessages, NoneWhole, Divides}

pub none_short : (octets : List ℕ) → length octets < 2 → NoneWhole octets
none_short octets short message more fits whole =
    let long : length octets ≡ length (two_octets (length message) ++ (message ++ more)) = ap (λ (xs : List ℕ). length xs) (whole ∙ append_assoc (two_octets (length message)) message more) in
    let two : length (two_octets (length message) ++ (message ++ more)) ≡ 2 + length (message ++ more) = length-append (two_octets (length message)) (message ++ more) in
    omega arith

pub none_cut : (octets behind : List ℕ) (n : ℕ) → n < 2 ^ 16 → octets ≡ two_octets n ++ behind → length behind < n → NoneWhole octets
none_cut octets behind n small is short message more fits whole =
    let cut = one_word n (length message) behind (message ++ more) small fits (sym is ∙ whole ∙ append_assoc (two_octets (length message)) message more) in
    let long : length behind ≡ length message + length more = ap (λ (xs : List ℕ). length xs) cut.1 ∙ length-append message more in
    let same : n ≡ length message = cut.0 in
    omega arith

-- the part between two places, and what follows
between : (a b : ℕ) (xs : List ℕ) → a ≤ b → b ≤ length xs → drop a xs ≡ drop a (take b xs) ++ drop b xs
between a b xs le fits =
    let long : length (take b xs) ≡ b = length-take-le b xs fits in
    ap (λ (ys : List ℕ). drop a ys) (sym (take-append-drop b xs)) ∙ drop-append-le a (take b xs) (drop b xs) (omega arith)

pub length_between : (a b : ℕ) (xs : List ℕ) → b ≤ length xs → length (drop a (take b xs)) ≡ b - a
length_between a b xs fits = length-drop a (take b xs) ∙ ap (λ (n : ℕ). n - a) (length-take-le b xs fits)

pub whole_there : (octets : List ℕ) (at n end : ℕ) → end ≡ at + 2 + n → end ≤ length octets → drop at octets ≡ two_octets n ++ drop (at + 2) octets → drop at octets ≡ framed (drop (at + 2) (take end octets)) ++ drop end octets
whole_there octets at n end is fits there =
    let long : n ≡ length (drop (at + 2) (take end octets)) = sym (length_between (at + 2) end octets fits ∙ omega arith) in
    there ∙ ap (λ (ys : List ℕ). two_octets n ++ ys) (between (at + 2) end octets (omega arith) fits)
    ∙ ap (λ (k : ℕ). two_octets k ++ (drop (at + 2) (take end octets) ++ drop end octets)) long
    ∙ sym (append_assoc (two_octets (length (drop (at + 2) (take end octets)))) (drop (at + 2) (take end octets)) (drop end octets))

-- one message more
pub parts_more : (octets : List ℕ) (ms : List (List ℕ)) (m here there : List ℕ) → octets ≡ frames ms ++ here → here ≡ framed m ++ there → octets ≡ frames (ms ++ m ∷ []) ++ there
parts_more octets ms m here there a b =
    a ∙ ap (λ (xs : List ℕ). frames ms ++ xs) b ∙ sym (append_assoc (frames ms) (framed m) there)
    ∙ ap (λ (xs : List ℕ). xs ++ there) (ap (λ (xs : List ℕ). frames ms ++ xs) (sym (append-nil (framed m))) ∙ sym (flat_map-append framed ms (m ∷ [])))
