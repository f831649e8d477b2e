-- What sockets tell of one connection changes nothing of another.
use Rattle.std.proofs.Common.{◌≡◌, ◌≢◌, ℕ, ◌+◌, ◌≤◌, Bool, true, false, List, [], ◌∷◌, ◌++◌, length, if◌then◌else◌, ◌==◌, ap, ◌∙◌, arith, rules}
use Rattle.std.specs.Prelude.{cond}
use Rattle.std.specs.List.{count_by}
use Rattle.std.proofs.lemmas.Grind.{flat_map-append}
use Rattle.std.proofs.lemmas.List.{append-nil, length-append}
use Rattle.std.proofs.lemmas.List.Sums.{sum_by-append}
use Rattle.lb_loops_io.specs.Moves.{Piece, Traffic, octets_of}
use Rattle.lb_loops_io.specs.declared.endpoint.Endpoint.{Endpoint}
use Rattle.lb_loops_tcp.proofs.Pieces.{Counted, counted_end, counted_none, counted_piece}
use Rattle.lb_loops_tcp.specs.Links.{of_number}

pub is_same : (c : ℕ) → (c == c) ≡ true
is_same c = search rules

pub is_other : (a c : ℕ) → c ≢ a → (a == c) ≡ false
is_other a c not_same = search rules

-- octets of a connection, where a piece came after the others
one_octets : (c : ℕ) (p : Piece) → octets_of c (p ∷ []) ≡ (if p.0 == c then p.1 else [])
one_octets c p = append-nil (if p.0 == c then p.1 else [])

pub octets_here : (n : ℕ) (ps : List Piece) (o : List ℕ) → octets_of n (ps ++ (n, o) ∷ []) ≡ octets_of n ps ++ o
octets_here n ps o = flat_map-append (λ (p : Piece). if p.0 == n then p.1 else []) ps ((n, o) ∷ [])
    ∙ ap (λ zs. octets_of n ps ++ zs) (one_octets n (n, o) ∙ ap (λ (b : Bool). if b then o else []) (is_same n))

pub octets_other : (c n : ℕ) (ps : List Piece) (o : List ℕ) → c ≢ n → octets_of c (ps ++ (n, o) ∷ []) ≡ octets_of c ps
octets_other c n ps o apart = flat_map-append (λ (p : Piece). if p.0 == c then p.1 else []) ps ((n, o) ∷ [])
    ∙ ap (λ zs. octets_of c ps ++ zs) (one_octets c (n, o) ∙ ap (λ (b : Bool). if b then o else []) (is_other n c apart)) ∙ append-nil (octets_of c ps)

-- what is told of a number, where something was told after the rest
nothing : {A : Type 0} → List A
nothing = []

pub number_here : {A : Type 0} (n : ℕ) (ps : List (ℕ × A)) (o : A) → of_number n (ps ++ (n, o) ∷ []) ≡ of_number n ps ++ o ∷ []
number_here {A} n ps o = flat_map-append (λ (p : ℕ × A). if p.0 == n then p.1 ∷ [] else []) ps ((n, o) ∷ [])
    ∙ ap (λ zs. of_number n ps ++ zs) (append-nil (if n == n then o ∷ [] else []) ∙ ap (λ (b : Bool). if b then o ∷ [] else []) (is_same n))

pub number_other : {A : Type 0} (c n : ℕ) (ps : List (ℕ × A)) (o : A) → c ≢ n → of_number c (ps ++ (n, o) ∷ []) ≡ of_number c ps
number_other {A} c n ps o apart = flat_map-append (λ (p : ℕ × A). if p.0 == c then p.1 ∷ [] else []) ps ((n, o) ∷ [])
    ∙ ap (λ zs. of_number c ps ++ zs) (append-nil (if n == c then o ∷ [] else []) ∙ ap (λ (b : Bool). if b then o ∷ [] else []) (is_other n c apart)) ∙ append-nil (of_number c ps)

-- how often a number was told
abbrev tally : ℕ → ℕ → ℕ
tally n c = cond (n == c) 1 0

tally_here : (n : ℕ) → tally n n ≡ 1
tally_here n = ap (λ (b : Bool). cond b 1 0) (is_same n)

tally_other : (c n : ℕ) → c ≢ n → tally n c ≡ 0
tally_other c n apart = ap (λ (b : Bool). cond b 1 0) (is_other n c apart)

count_more : (c n : ℕ) (ns : List ℕ) → count_by (λ (k : ℕ). k == c) (ns ++ n ∷ []) ≡ count_by (λ (k : ℕ). k == c) ns + tally n c
count_more c n ns = sum_by-append (λ (k : ℕ). cond (k == c) 1 0) ns (n ∷ []) ∙ omega arith

pub count_here : (n : ℕ) (ns : List ℕ) → count_by (λ (k : ℕ). k == n) (ns ++ n ∷ []) ≡ count_by (λ (k : ℕ). k == n) ns + 1
count_here n ns = let all = count_more n n ns in let one = tally_here n in omega (arith, all, one)

pub count_other : (c n : ℕ) (ns : List ℕ) → c ≢ n → count_by (λ (k : ℕ). k == c) (ns ++ n ∷ []) ≡ count_by (λ (k : ℕ). k == c) ns
count_other c n ns apart = let all = count_more c n ns in let nothing_more = tally_other c n apart in omega (arith, all, nothing_more)

-- nothing is told of connections other than this one, no client came, none was turned away, and
-- what was given was given by a read
pub record Apart (n : ℕ) (a b : Traffic) : Type 0 where
  pub given : (c : ℕ) → c ≢ n → octets_of c b.given ≡ octets_of c a.given
  pub taken : (c : ℕ) → c ≢ n → octets_of c b.taken ≡ octets_of c a.taken
  pub came : b.came ≡ a.came
  pub dialed : (c : ℕ) → c ≢ n → of_number c b.dialed ≡ of_number c a.dialed
  pub ended : (c : ℕ) → c ≢ n → count_by (λ (k : ℕ). k == c) b.ended ≡ count_by (λ (k : ℕ). k == c) a.ended
  pub gone : (c : ℕ) → c ≢ n → count_by (λ (k : ℕ). k == c) b.gone ≡ count_by (λ (k : ℕ). k == c) a.gone
  pub failed : (c : ℕ) → c ≢ n → count_by (λ (k : ℕ). k == c) b.failed ≡ count_by (λ (k : ℕ). k == c) a.failed
  pub lacked : (c : ℕ) → c ≢ n → count_by (λ (k : ℕ). k == c) b.lacked ≡ count_by (λ (k : ℕ). k == c) a.lacked
  pub all_gone : length a.gone ≤ length b.gone
  pub turned : b.turned ≡ a.turned
  pub failures : a.failures ≤ b.failures
  pub counted : Counted a b

pub apart_looked : (n r : ℕ) (a b : Traffic) → b ≡ record a { reads = r } → a.reads ≤ r → Apart n a b
apart_looked n r a b e le = record {
  given = λ c apart. ap (λ (t : Traffic). octets_of c t.given) e;
  taken = λ c apart. ap (λ (t : Traffic). octets_of c t.taken) e;
  came = ap (λ (t : Traffic). t.came) e;
  dialed = λ c apart. ap (λ (t : Traffic). of_number c t.dialed) e;
  ended = λ c apart. ap (λ (t : Traffic). count_by (λ (k : ℕ). k == c) t.ended) e;
  gone = λ c apart. ap (λ (t : Traffic). count_by (λ (k : ℕ). k == c) t.gone) e;
  failed = λ c apart. ap (λ (t : Traffic). count_by (λ (k : ℕ). k == c) t.failed) e;
  lacked = λ c apart. ap (λ (t : Traffic). count_by (λ (k : ℕ). k == c) t.lacked) e;
  all_gone = let same = ap (λ (t : Traffic). length t.gone) e in omega (arith, same);
  turned = ap (λ (t : Traffic). t.turned) e;
  failures = let same = ap (λ (t : Traffic). t.failures) e in omega (arith, same);
  counted = counted_none a b (ap (λ (t : Traffic). t.given) e) (ap (λ (t : Traffic). t.came) e) (ap (λ (t : Traffic). t.ended) e) (ap (λ (t : Traffic). t.turned) e) (let reads = ap (λ (t : Traffic). t.reads) e in omega (arith, reads, le));
}

pub apart_none : (n : ℕ) (a b : Traffic) → b ≡ a → Apart n a b
apart_none n a b e = apart_looked n a.reads a b e (omega arith)

pub apart_given : (n : ℕ) (a b : Traffic) (o : List ℕ) → b ≡ record a { given = a.given ++ (n, o) ∷ []; reads = a.reads + 1 } → Apart n a b
apart_given n a b o e = record {
  given = λ c apart. ap (λ (t : Traffic). octets_of c t.given) e ∙ octets_other c n a.given o apart;
  taken = λ c apart. ap (λ (t : Traffic). octets_of c t.taken) e;
  came = ap (λ (t : Traffic). t.came) e;
  dialed = λ c apart. ap (λ (t : Traffic). of_number c t.dialed) e;
  ended = λ c apart. ap (λ (t : Traffic). count_by (λ (k : ℕ). k == c) t.ended) e;
  gone = λ c apart. ap (λ (t : Traffic). count_by (λ (k : ℕ). k == c) t.gone) e;
  failed = λ c apart. ap (λ (t : Traffic). count_by (λ (k : ℕ). k == c) t.failed) e;
  lacked = λ c apart. ap (λ (t : Traffic). count_by (λ (k : ℕ). k == c) t.lacked) e;
  all_gone = let same = ap (λ (t : Traffic). length t.gone) e in omega (arith, same);
  turned = ap (λ (t : Traffic). t.turned) e;
  failures = let same = ap (λ (t : Traffic). t.failures) e in omega (arith, same);
  counted = counted_piece a b (n, o) (ap (λ (t : Traffic). t.given) e) (ap (λ (t : Traffic). t.came) e) (ap (λ (t : Traffic). t.ended) e) (ap (λ (t : Traffic). t.turned) e) (ap (λ (t : Traffic). t.reads) e);
}

pub apart_taken : (n : ℕ) (a b : Traffic) (o : List ℕ) → b ≡ record a { taken = a.taken ++ (n, o) ∷ [] } → Apart n a b
apart_taken n a b o e = record {
  given = λ c apart. ap (λ (t : Traffic). octets_of c t.given) e;
  taken = λ c apart. ap (λ (t : Traffic). octets_of c t.taken) e ∙ octets_other c n a.taken o apart;
  came = ap (λ (t : Traffic). t.came) e;
  dialed = λ c apart. ap (λ (t : Traffic). of_number c t.dialed) e;
  ended = λ c apart. ap (λ (t : Traffic). count_by (λ (k : ℕ). k == c) t.ended) e;
  gone = λ c apart. ap (λ (t : Traffic). count_by (λ (k : ℕ). k == c) t.gone) e;
  failed = λ c apart. ap (λ (t : Traffic). count_by (λ (k : ℕ). k == c) t.failed) e;
  lacked = λ c apart. ap (λ (t : Traffic). count_by (λ (k : ℕ). k == c) t.lacked) e;
  all_gone = let same = ap (λ (t : Traffic). length t.gone) e in omega (arith, same);
  turned = ap (λ (t : Traffic). t.turned) e;
  failures = let same = ap (λ (t : Traffic). t.failures) e in omega (arith, same);
  counted = counted_none a b (ap (λ (t : Traffic). t.given) e) (ap (λ (t : Traffic). t.came) e) (ap (λ (t : Traffic). t.ended) e) (ap (λ (t : Traffic). t.turned) e) (let reads = ap (λ (t : Traffic). t.reads) e in omega (arith, reads));
}

pub apart_ended : (n : ℕ) (a b : Traffic) → b ≡ record a { ended = a.ended ++ n ∷ []; reads = a.reads + 1 } → Apart n a b
apart_ended n a b e = record {
  given = λ c apart. ap (λ (t : Traffic). octets_of c t.given) e;
  taken = λ c apart. ap (λ (t : Traffic). octets_of c t.taken) e;
  came = ap (λ (t : Traffic). t.came) e;
  dialed = λ c apart. ap (λ (t : Traffic). of_number c t.dialed) e;
  ended = λ c apart. ap (λ (t : Traffic). count_by (λ (k : ℕ). k == c) t.ended) e ∙ count_other c n a.ended apart;
  gone = λ c apart. ap (λ (t : Traffic). count_by (λ (k : ℕ). k == c) t.gone) e;
  failed = λ c apart. ap (λ (t : Traffic). count_by (λ (k : ℕ). k == c) t.failed) e;
  lacked = λ c apart. ap (λ (t : Traffic). count_by (λ (k : ℕ). k == c) t.lacked) e;
  all_gone = let same = ap (λ (t : Traffic). length t.gone) e in omega (arith, same);
  turned = ap (λ (t : Traffic). t.turned) e;
  failures = let same = ap (λ (t : Traffic). t.failures) e in omega (arith, same);
  counted = counted_end a b n (ap (λ (t : Traffic). t.given) e) (ap (λ (t : Traffic). t.came) e) (ap (λ (t : Traffic). t.ended) e) (ap (λ (t : Traffic). t.turned) e) (ap (λ (t : Traffic). t.reads) e);
}

pub apart_gone : (n : ℕ) (a b : Traffic) → b ≡ record a { gone = a.gone ++ n ∷ [] } → Apart n a b
apart_gone n a b e = record {
  given = λ c apart. ap (λ (t : Traffic). octets_of c t.given) e;
  taken = λ c apart. ap (λ (t : Traffic). octets_of c t.taken) e;
  came = ap (λ (t : Traffic). t.came) e;
  dialed = λ c apart. ap (λ (t : Traffic). of_number c t.dialed) e;
  ended = λ c apart. ap (λ (t : Traffic). count_by (λ (k : ℕ). k == c) t.ended) e;
  gone = λ c apart. ap (λ (t : Traffic). count_by (λ (k : ℕ). k == c) t.gone) e ∙ count_other c n a.gone apart;
  failed = λ c apart. ap (λ (t : Traffic). count_by (λ (k : ℕ). k == c) t.failed) e;
  lacked = λ c apart. ap (λ (t : Traffic). count_by (λ (k : ℕ). k == c) t.lacked) e;
  all_gone = let more : length b.gone ≡ length a.gone + 1 = ap (λ (t : Traffic). length t.gone) e ∙ length-append a.gone (n ∷ []) in omega (arith, more);
  turned = ap (λ (t : Traffic). t.turned) e;
  failures = let same = ap (λ (t : Traffic). t.failures) e in omega (arith, same);
  counted = counted_none a b (ap (λ (t : Traffic). t.given) e) (ap (λ (t : Traffic). t.came) e) (ap (λ (t : Traffic). t.ended) e) (ap (λ (t : Traffic). t.turned) e) (let reads = ap (λ (t : Traffic). t.reads) e in omega (arith, reads));
}

pub apart_dialed : (n : ℕ) (a b : Traffic) (to : Endpoint) → b ≡ record a { dialed = a.dialed ++ (n, to) ∷ [] } → Apart n a b
apart_dialed n a b to e = record {
  given = λ c apart. ap (λ (t : Traffic). octets_of c t.given) e;
  taken = λ c apart. ap (λ (t : Traffic). octets_of c t.taken) e;
  came = ap (λ (t : Traffic). t.came) e;
  dialed = λ c apart. ap (λ (t : Traffic). of_number c t.dialed) e ∙ number_other c n a.dialed to apart;
  ended = λ c apart. ap (λ (t : Traffic). count_by (λ (k : ℕ). k == c) t.ended) e;
  gone = λ c apart. ap (λ (t : Traffic). count_by (λ (k : ℕ). k == c) t.gone) e;
  failed = λ c apart. ap (λ (t : Traffic). count_by (λ (k : ℕ). k == c) t.failed) e;
  lacked = λ c apart. ap (λ (t : Traffic). count_by (λ (k : ℕ). k == c) t.lacked) e;
  all_gone = let same = ap (λ (t : Traffic). length t.gone) e in omega (arith, same);
  turned = ap (λ (t : Traffic). t.turned) e;
  failures = let same = ap (λ (t : Traffic). t.failures) e in omega (arith, same);
  counted = counted_none a b (ap (λ (t : Traffic). t.given) e) (ap (λ (t : Traffic). t.came) e) (ap (λ (t : Traffic). t.ended) e) (ap (λ (t : Traffic). t.turned) e) (let reads = ap (λ (t : Traffic). t.reads) e in omega (arith, reads));
}

pub apart_failed : (n k r : ℕ) (a b : Traffic) → b ≡ record a { failures = k; reads = r; failed = a.failed ++ n ∷ [] } → a.failures ≤ k → a.reads ≤ r → Apart n a b
apart_failed n k r a b e le more = record {
  given = λ c apart. ap (λ (t : Traffic). octets_of c t.given) e;
  taken = λ c apart. ap (λ (t : Traffic). octets_of c t.taken) e;
  came = ap (λ (t : Traffic). t.came) e;
  dialed = λ c apart. ap (λ (t : Traffic). of_number c t.dialed) e;
  ended = λ c apart. ap (λ (t : Traffic). count_by (λ (k : ℕ). k == c) t.ended) e;
  gone = λ c apart. ap (λ (t : Traffic). count_by (λ (k : ℕ). k == c) t.gone) e;
  failed = λ c apart. ap (λ (t : Traffic). count_by (λ (k : ℕ). k == c) t.failed) e ∙ count_other c n a.failed apart;
  lacked = λ c apart. ap (λ (t : Traffic). count_by (λ (k : ℕ). k == c) t.lacked) e;
  all_gone = let same = ap (λ (t : Traffic). length t.gone) e in omega (arith, same);
  turned = ap (λ (t : Traffic). t.turned) e;
  failures = let same = ap (λ (t : Traffic). t.failures) e in omega (arith, same, le);
  counted = counted_none a b (ap (λ (t : Traffic). t.given) e) (ap (λ (t : Traffic). t.came) e) (ap (λ (t : Traffic). t.ended) e) (ap (λ (t : Traffic). t.turned) e) (let reads = ap (λ (t : Traffic). t.reads) e in omega (arith, reads, more));
}

pub apart_lacked : (n : ℕ) (a b : Traffic) → b ≡ record a { lacked = a.lacked ++ n ∷ []; reads = a.reads + 1 } → Apart n a b
apart_lacked n a b e = record {
  given = λ c apart. ap (λ (t : Traffic). octets_of c t.given) e;
  taken = λ c apart. ap (λ (t : Traffic). octets_of c t.taken) e;
  came = ap (λ (t : Traffic). t.came) e;
  dialed = λ c apart. ap (λ (t : Traffic). of_number c t.dialed) e;
  ended = λ c apart. ap (λ (t : Traffic). count_by (λ (k : ℕ). k == c) t.ended) e;
  gone = λ c apart. ap (λ (t : Traffic). count_by (λ (k : ℕ). k == c) t.gone) e;
  failed = λ c apart. ap (λ (t : Traffic). count_by (λ (k : ℕ). k == c) t.failed) e;
  lacked = λ c apart. ap (λ (t : Traffic). count_by (λ (k : ℕ). k == c) t.lacked) e ∙ count_other c n a.lacked apart;
  all_gone = let same = ap (λ (t : Traffic). length t.gone) e in omega (arith, same);
  turned = ap (λ (t : Traffic). t.turned) e;
  failures = let same = ap (λ (t : Traffic). t.failures) e in omega (arith, same);
  counted = counted_none a b (ap (λ (t : Traffic). t.given) e) (ap (λ (t : Traffic). t.came) e) (ap (λ (t : Traffic). t.ended) e) (ap (λ (t : Traffic). t.turned) e) (let reads = ap (λ (t : Traffic). t.reads) e in omega (arith, reads));
}
