-- Octets divide into messages and a rest in one way.
use Rattle.std.proofs.Common.{◌≡◌, ℕ, ◌+◌, ◌<◌, ◌≤◌, ◌^◌, List, [], ◌∷◌, ◌++◌, length, flat_map, refl, sym, ap, ◌∙◌, arith, append_assoc}
use Rattle.std.proofs.lemmas.Grind.{flat_map-append}
use Rattle.lb_loops_frames.proofs.Words.{halves}
use Rattle.lb_wire.specs.BigEndian.{two_octets}
use Rattle.lb_loops_frames.proofs.Words.{one_word}
use Rattle.lb_loops_frames.specs.Frames.{framed, frames, AreMessages, NoneWhole, Divides, OneDivision, CutsDoNotMatter}

pub one_framed : (m n a b : List ℕ) → length m < 2 ^ 16 → length n < 2 ^ 16 → framed m ++ a ≡ framed n ++ b → (m ≡ n) × (a ≡ b)
one_framed m n a b fits_m fits_n whole =
    let nested = sym (append_assoc (two_octets (length m)) m a) ∙ whole ∙ append_assoc (two_octets (length n)) n b in
    let cut = one_word (length m) (length n) (m ++ a) (n ++ b) fits_m fits_n nested in
    halves m n a b cut.0 cut.1

heads : (m n : List ℕ) (ms ns : List (List ℕ)) (r s : List ℕ) → m ≡ n → (ms ≡ ns) × (r ≡ s) → ((m ∷ ms) ≡ (n ∷ ns)) × (r ≡ s)
heads m n ms ns r s e more = (ap (λ (x : List ℕ). x ∷ ms) e ∙ ap (λ (xs : List (List ℕ)). n ∷ xs) more.0, more.1)

one_parts : (ms ns : List (List ℕ)) (r s : List ℕ) → AreMessages ms → AreMessages ns → NoneWhole r → NoneWhole s → frames ms ++ r ≡ frames ns ++ s → (ms ≡ ns) × (r ≡ s)
one_parts [] [] r s ms_fit ns_fit none_r none_s whole = (refl, whole)
one_parts [] (n ∷ ns) r s ms_fit ns_fit none_r none_s whole = elim (none_r n (frames ns ++ s) ns_fit.0 (whole ∙ append_assoc (framed n) (frames ns) s)) [ ]
one_parts (m ∷ ms) [] r s ms_fit ns_fit none_r none_s whole = elim (none_s m (frames ms ++ r) ms_fit.0 (sym whole ∙ append_assoc (framed m) (frames ms) r)) [ ]
one_parts (m ∷ ms) (n ∷ ns) r s ms_fit ns_fit none_r none_s whole =
    let cut = one_framed m n (frames ms ++ r) (frames ns ++ s) ms_fit.0 ns_fit.0 (sym (append_assoc (framed m) (frames ms) r) ∙ whole ∙ append_assoc (framed n) (frames ns) s) in
    heads m n ms ns r s cut.0 (one_parts ms ns r s ms_fit.1 ns_fit.1 none_r none_s cut.1)

pub one_division : OneDivision
one_division octets ms ns r s a b = one_parts ms ns r s a.each b.each a.none b.none (sym a.parts ∙ b.parts)

pub all_messages : (ms ns : List (List ℕ)) → AreMessages ms → AreMessages ns → AreMessages (ms ++ ns)
all_messages [] ns a b = b
all_messages (m ∷ ms) ns a b = (a.0, all_messages ms ns a.1 b)

pub cuts_do_not_matter : CutsDoNotMatter
cuts_do_not_matter octets piece ms ns r s a b = record {
  each = all_messages ms ns a.each b.each;
  parts = ap (λ (xs : List ℕ). xs ++ piece) a.parts ∙ append_assoc (frames ms) r piece ∙ ap (λ (xs : List ℕ). frames ms ++ xs) b.parts ∙ sym (append_assoc (frames ms) (frames ns) s) ∙ ap (λ (xs : List ℕ). xs ++ s) (sym (flat_map-append framed ms ns));
  none = b.none;
}
