-- Sends of lines, one after the other.
use Rattle.std.proofs.Common.{◌≡◌, ◌≢◌, ℕ, zero, suc, ◌+◌, ◌<◌, ◌≤◌, ◌⊎◌, inl, inr, Bool, true, false, IsTrue, Option, Some, None, List, [], ◌∷◌, ◌++◌, length, get_or, set, take, drop, refl, sym, ap, ◌∙◌, subst, arith, append_assoc, rules, if◌then◌else◌, true≢false}
use Rattle.std.specs.Prelude.{◌||◌}
use Rattle.std.specs.Option.{option_or}
use Rattle.std.proofs.lemmas.Grind.{flat_map-append}
use Rattle.std.proofs.lemmas.List.{drop_more, drop-set-lt, take_more, take_more_set}
use Rattle.lb_loops_udp.specs.Lines.{AreAsked, AreLines, AreSent, FailsBy, IsAsked, IsSent}
use Rattle.lb_loops_io.specs.Counts.{Rose}
use Rattle.lb_loops_io.specs.Lines.{FirstFault, answered_as, any_by_device, events_in, is_by_device, pairs}
use Rattle.lb_loops_io.specs.Ways.{letter_of, packet_in, packets, sending_of}
use Rattle.lb_loops_io.specs.declared.report.DeviceFault.{DeviceFault}
use Rattle.lb_loops_io.specs.declared.report.DeviceFault.TheVariants as devices
use Rattle.lb_loops_io.specs.declared.report.Line.{Line}
use Rattle.lb_loops_io.specs.declared.report.Line.TheVariants as lines
use Rattle.lb_loops_io.specs.declared.roster.Listed.{Listed}
use Rattle.lb_loops_io.specs.declared.traffic.Datagram.{Datagram}

-- Counts.

rose_later : (a b c : ℕ) → Rose a b → b ≤ c → Rose a c
rose_later a b c (inl lt) le = inl (omega arith)
rose_later a b c (inr most) le = inr (omega arith)

rose_earlier : (a b c : ℕ) → a ≤ b → Rose b c → Rose a c
rose_earlier a b c le (inl lt) = inl (omega arith)
rose_earlier a b c le (inr most) = inr most

fails_rose : (b : Bool) (s s' : ℕ) → FailsBy b s s' → IsTrue b → Rose s s'
fails_rose true s s' f t = f.1
fails_rose false s s' f t = absurd (true≢false (sym t))

fails_le : (b : Bool) (s s' : ℕ) → FailsBy b s s' → s ≤ s'
fails_le true s s' f = f.0
fails_le false s s' f = omega arith

sockets_le : (f : Option DeviceFault) (s s' o o' : ℕ) → FirstFault f s s' o o' → s ≤ s'
sockets_le None s s' o o' f = let same = f.0 in omega arith
sockets_le (Some devices.Sockets) s s' o o' f = f.0
sockets_le (Some devices.Outside) s s' o o' f = let same = f.0 in omega arith

-- a line's fault, by the count of failures
pub line_fault : (b : Bool) (s s' o : ℕ) → FailsBy b s s' → FirstFault (if b then Some devices.Sockets else None) s s' o o
line_fault true s s' o f = f
line_fault false s s' o f = (f, refl)

-- which is not one of what is outside
pub line_clear : (b : Bool) → (if b then Some devices.Sockets else None) ≢ Some devices.Outside
line_clear true = search rules
line_clear false = search rules

-- what fails among sends belongs to earlier rounds than the fault of what is outside, which ends the turn
pub sends_first : (sent device : Option DeviceFault) (s s' s'' o o' : ℕ) → sent ≢ Some devices.Outside → FirstFault sent s' s'' o' o' → FirstFault device s s' o o' → FirstFault (option_or sent device) s s'' o o'
sends_first None device s s' s'' o o' clear two one = subst (λ n. FirstFault device s n o o') (sym two.0) one
sends_first (Some devices.Sockets) device s s' s'' o o' clear two one =
    let le = sockets_le device s s' o o' one in
    let more = two.0 in (omega arith, rose_earlier s s' s'' le two.1)
sends_first (Some devices.Outside) device s s' s'' o o' clear two one = absurd (clear refl)

-- Lines.

any_head : (a b c : Bool) (X : Type 0) → (IsTrue c → IsTrue b ⊎ X) → IsTrue (a || c) → IsTrue (a || b) ⊎ X
any_head true b c X f t = inl t
any_head false b c X f t = f t

any_either : (ls xs : List Line) → IsTrue (any_by_device (ls ++ xs)) → IsTrue (any_by_device ls) ⊎ IsTrue (any_by_device xs)
any_either [] xs t = inr t
any_either (l ∷ ls) xs t = any_head (is_by_device (sending_of l)) (any_by_device ls) (any_by_device (ls ++ xs)) (IsTrue (any_by_device xs)) (any_either ls xs) t

any_one : (b : Bool) → IsTrue (b || false) → IsTrue b
any_one true t = t
any_one false t = t

sent_on : (roster : List Listed) (listens : ℕ → Bool) (ls ks : List Line) (l k : Line) → AreSent roster listens ls ks → IsSent roster listens l k → AreSent roster listens (ls ++ l ∷ []) (ks ++ k ∷ [])
sent_on roster listens [] [] l k all one = (one, tt)
sent_on roster listens [] (y ∷ ks) l k all one = absurd all
sent_on roster listens (x ∷ ls) [] l k all one = absurd all
sent_on roster listens (x ∷ ls) (y ∷ ks) l k all one = (all.0, sent_on roster listens ls ks l k all.1 one)

pub asked_at : (ls : List Line) (i : ℕ) (d : Line) → i < length ls → AreAsked ls → IsAsked (get_or ls i d)
asked_at [] i d lt all = absurd (omega arith)
asked_at (l ∷ ls) zero d lt all = all.0
asked_at (l ∷ ls) (suc i) d lt all = asked_at ls i d (omega arith) all.1

cons_head : {X : Type 0} (x y : X) (xs ys : List X) → x ∷ xs ≡ y ∷ ys → x ≡ y
cons_head x y xs ys e = ap (λ zs. get_or zs 0 x) e

cons_tail : {X : Type 0} (x y : X) (xs ys : List X) → x ∷ xs ≡ y ∷ ys → xs ≡ ys
cons_tail x y xs ys e = ap (drop 1) e

-- where two lists are the same from a place on, so are their elements there and what stands after
pub same_here : {X : Type 0} (xs ys : List X) (i : ℕ) (d : X) → i < length xs → i < length ys → drop i ys ≡ drop i xs → get_or ys i d ≡ get_or xs i d
same_here xs ys i d a b e = cons_head (get_or ys i d) (get_or xs i d) (drop (i + 1) ys) (drop (i + 1) xs) (sym (drop_more ys i d b) ∙ e ∙ drop_more xs i d a)

pub same_behind : {X : Type 0} (xs ys : List X) (i : ℕ) (d y : X) → i < length xs → i < length ys → drop i ys ≡ drop i xs → drop (i + 1) (set ys i y) ≡ drop (i + 1) xs
same_behind xs ys i d y a b e = drop-set-lt (i + 1) ys i y (omega arith) ∙ cons_tail (get_or ys i d) (get_or xs i d) (drop (i + 1) ys) (drop (i + 1) xs) (sym (drop_more ys i d b) ∙ e ∙ drop_more xs i d a)

-- one line more was sent
pub sent_more : (roster : List Listed) (listens : ℕ → Bool) (xs ys : List Line) (i : ℕ) (d y : Line) → i < length xs → i < length ys
    → AreSent roster listens (take i xs) (take i ys) → IsSent roster listens (get_or xs i d) y → AreSent roster listens (take (i + 1) xs) (take (i + 1) (set ys i y))
sent_more roster listens xs ys i d y a b all one = rw (take_more xs i d a, take_more_set ys i y b) (sent_on roster listens (take i xs) (take i ys) (get_or xs i d) y all one)

pub taken_more : (roster : List Listed) (old mid new : List Datagram) (ys : List Line) (i : ℕ) (y : Line) → i < length ys
    → mid ≡ old ++ packets roster (take i ys) → new ≡ mid ++ packets roster (y ∷ []) → new ≡ old ++ packets roster (take (i + 1) (set ys i y))
taken_more roster old mid new ys i y lt before now =
    now ∙ ap (λ zs. zs ++ packets roster (y ∷ [])) before ∙ append_assoc old (packets roster (take i ys)) (packets roster (y ∷ []))
    ∙ ap (λ zs. old ++ zs) (sym (flat_map-append (λ (l : Line). packet_in roster (letter_of l) (sending_of l)) (take i ys) (y ∷ [])) ∙ ap (packets roster) (sym (take_more_set ys i y lt)))

failed_either : (s s' s'' : ℕ) (X Y : Type 0) → s ≤ s' → s' ≤ s'' → (X → Rose s s') → (Y → Rose s' s'') → X ⊎ Y → Rose s s''
failed_either s s' s'' X Y a b first later (inl x) = rose_later s s' s'' (first x) b
failed_either s s' s'' X Y a b first later (inr y) = rose_earlier s s' s'' a (later y)

pub failed_more : (device : Option DeviceFault) (s s' s'' : ℕ) (ys : List Line) (i : ℕ) (y : Line) → i < length ys → FirstFault device s s' 0 0
    → (IsTrue (any_by_device (take i ys)) → Rose s s') → FailsBy (is_by_device (sending_of y)) s' s'' → IsTrue (any_by_device (take (i + 1) (set ys i y))) → Rose s s''
failed_more device s s' s'' ys i y lt first before now t =
    failed_either s s' s'' (IsTrue (any_by_device (take i ys))) (IsTrue (any_by_device (y ∷ []))) (sockets_le device s s' 0 0 first) (fails_le (is_by_device (sending_of y)) s' s'' now) before
    (λ u. fails_rose (is_by_device (sending_of y)) s' s'' now (any_one (is_by_device (sending_of y)) u))
    (any_either (take i ys) (y ∷ []) (subst (λ zs. IsTrue (any_by_device zs)) (take_more_set ys i y lt) t))

pub front_of : {X : Type 0} (n : ℕ) (ks rest : List X) → n ≡ length ks → take n (ks ++ rest) ≡ ks
front_of n [] rest e = rw e refl
front_of n (k ∷ ks) rest e = rw e (ap (λ zs. k ∷ zs) (front_of (length ks) ks rest refl))

-- What sends leave as it was.

pub sent_events : (roster : List Listed) (listens : ℕ → Bool) (ls ks : List Line) → AreAsked ls → AreSent roster listens ls ks → events_in ks ≡ events_in ls
sent_events roster listens [] [] asked sent = refl
sent_events roster listens [] (k ∷ ks) asked sent = absurd sent
sent_events roster listens (l ∷ ls) [] asked sent = absurd sent
sent_events roster listens (lines.Event source event outcome before ∷ ls) (k ∷ ks) asked sent = rw sent.0.1 (ap (λ zs. event ∷ zs) (sent_events roster listens ls ks asked.1 sent.1))
sent_events roster listens (lines.Job job before ∷ ls) (k ∷ ks) asked sent = absurd asked.0
sent_events roster listens (lines.Probe server word before ∷ ls) (k ∷ ks) asked sent = absurd asked.0

pub sent_pairs : (roster : List Listed) (listens : ℕ → Bool) (ls ks : List Line) → AreAsked ls → AreSent roster listens ls ks → pairs ks ≡ pairs ls
sent_pairs roster listens [] [] asked sent = refl
sent_pairs roster listens [] (k ∷ ks) asked sent = absurd sent
sent_pairs roster listens (l ∷ ls) [] asked sent = absurd sent
sent_pairs roster listens (lines.Event source event outcome before ∷ ls) (k ∷ ks) asked sent = rw sent.0.1 (ap (λ zs. answered_as event outcome ++ zs) (sent_pairs roster listens ls ks asked.1 sent.1))
sent_pairs roster listens (lines.Job job before ∷ ls) (k ∷ ks) asked sent = absurd asked.0
sent_pairs roster listens (lines.Probe server word before ∷ ls) (k ∷ ks) asked sent = absurd asked.0

pub sent_length : (roster : List Listed) (listens : ℕ → Bool) (ls ks : List Line) → AreSent roster listens ls ks → length ks ≡ length ls
sent_length roster listens [] [] sent = refl
sent_length roster listens [] (k ∷ ks) sent = absurd sent
sent_length roster listens (l ∷ ls) [] sent = absurd sent
sent_length roster listens (l ∷ ls) (k ∷ ks) sent = let more = sent_length roster listens ls ks sent.1 in omega arith

pub sent_lines : (roster : List Listed) (listens : ℕ → Bool) (ls ks : List Line) → AreAsked ls → AreSent roster listens ls ks → AreLines roster listens ks
sent_lines roster listens [] [] asked sent = tt
sent_lines roster listens [] (k ∷ ks) asked sent = absurd sent
sent_lines roster listens (l ∷ ls) [] asked sent = absurd sent
sent_lines roster listens (lines.Event source event outcome before ∷ ls) (k ∷ ks) asked sent = (rw sent.0.1 (asked.0.0, asked.0.1, sent.0.2), sent_lines roster listens ls ks asked.1 sent.1)
sent_lines roster listens (lines.Job job before ∷ ls) (k ∷ ks) asked sent = absurd asked.0
sent_lines roster listens (lines.Probe server word before ∷ ls) (k ∷ ks) asked sent = absurd asked.0
