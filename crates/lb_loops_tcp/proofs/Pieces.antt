-- How often sockets of streams are read and asked for a client, and how often they give something,
-- through each of their calls.
use Rattle.std.proofs.Common.{◌≡◌, ℕ, ◌+◌, ◌≤◌, List, [], ◌∷◌, ◌++◌, Result, Ok, Err, length, ap, ◌∙◌, arith}
use Rattle.std.proofs.lemmas.List.{length-append}
use Rattle.lb_loops_io.specs.Moves.{Came, Client, Dialed, GavePiece, Piece, Took, Traffic, TurnedAway}
use Rattle.lb_loops_io.specs.declared.endpoint.Endpoint.{Endpoint}
use Rattle.lb_loops_io.specs.declared.report.Why.{Why}
use Rattle.lb_loops_io.specs.declared.report.Why.TheVariants as whys
use Rattle.lb_loops_io.specs.declared.traffic.Accepted.{Accepted}
use Rattle.lb_loops_io.specs.declared.traffic.Accepted.TheVariants as accepted
use Rattle.lb_loops_io.specs.declared.traffic.Read.{Read}
use Rattle.lb_loops_io.specs.declared.traffic.Read.TheVariants as reads

abbrev pub told_reads : Traffic → ℕ
told_reads t = t.reads

pub took_reads : (r : Result ℕ Why) (c : ℕ) (octets : List ℕ) (a b : Traffic) → Took r c octets a b → told_reads b ≡ told_reads a
took_reads (Ok n) c octets a b is = ap told_reads is.1
took_reads (Err whys.NoServer) c octets a b is = absurd is
took_reads (Err whys.Gone) c octets a b is = ap told_reads is
took_reads (Err whys.Limit) c octets a b is = absurd is
took_reads (Err whys.Full) c octets a b is = absurd is
took_reads (Err whys.Device) c octets a b is = ap told_reads is.2
took_reads (Err whys.NoMemory) c octets a b is = absurd is

pub dialed_reads : (r : Result (Unit {0}) Why) (c : ℕ) (to : Endpoint) (a b : Traffic) → Dialed r c to a b → told_reads b ≡ told_reads a
dialed_reads (Ok done) c to a b is = ap told_reads is
dialed_reads (Err whys.NoServer) c to a b is = absurd is
dialed_reads (Err whys.Gone) c to a b is = absurd is
dialed_reads (Err whys.Limit) c to a b is = absurd is
dialed_reads (Err whys.Full) c to a b is = absurd is
dialed_reads (Err whys.Device) c to a b is = ap told_reads is.2
dialed_reads (Err whys.NoMemory) c to a b is = ap told_reads is

pub gave_reads : {E : Type 0} (r : Result Read E) (c : ℕ) (a b : Traffic) → GavePiece r c a b → told_reads b ≡ told_reads a + 1
gave_reads (Ok (reads.Piece octets)) c a b is = ap told_reads is
gave_reads (Ok reads.Nothing) c a b is = ap told_reads is
gave_reads (Ok reads.Ended) c a b is = ap told_reads is
gave_reads (Ok reads.Failed) c a b is = ap told_reads is.2
gave_reads (Err refused) c a b is = ap told_reads is

pub came_reads : {E : Type 0} (r : Result Accepted E) (c : ℕ) (a b : Traffic) → Came r c a b → told_reads b ≡ told_reads a + 1
came_reads (Ok (accepted.Client front peer)) c a b is = ap told_reads is
came_reads (Ok accepted.Nothing) c a b is = ap told_reads is
came_reads (Ok accepted.Failed) c a b is = ap told_reads is.2
came_reads (Err refused) c a b is = ap told_reads is

pub turned_reads : (r : Accepted) (a b : Traffic) → TurnedAway r a b → told_reads b ≡ told_reads a + 1
turned_reads (accepted.Client front peer) a b is = ap told_reads is
turned_reads accepted.Nothing a b is = ap told_reads is
turned_reads accepted.Failed a b is = ap told_reads is.2

-- What was given, each by a read of its own.

abbrev pub told_gave : Traffic → ℕ
told_gave t = length t.given + length t.came + length t.ended + t.turned

abbrev pub Counted : Traffic → Traffic → Type 0
Counted a b = told_gave b + told_reads a ≤ told_gave a + told_reads b

one_more : {A : Type 0} (xs ys : List A) (x : A) → ys ≡ xs ++ x ∷ [] → length ys ≡ length xs + 1
one_more xs ys x is = ap (λ zs. length zs) is ∙ length-append xs (x ∷ [])

-- nothing was given
pub counted_none : (a b : Traffic) → b.given ≡ a.given → b.came ≡ a.came → b.ended ≡ a.ended → b.turned ≡ a.turned → a.reads ≤ b.reads → Counted a b
counted_none a b given came ended turned le =
    let given_len : length b.given ≡ length a.given = ap (λ zs. length zs) given in
    let came_len : length b.came ≡ length a.came = ap (λ zs. length zs) came in
    let ended_len : length b.ended ≡ length a.ended = ap (λ zs. length zs) ended in
    omega (arith, given_len, came_len, ended_len, turned, le)

-- a piece was given
pub counted_piece : (a b : Traffic) (p : Piece) → b.given ≡ a.given ++ p ∷ [] → b.came ≡ a.came → b.ended ≡ a.ended → b.turned ≡ a.turned → b.reads ≡ a.reads + 1 → Counted a b
counted_piece a b p given came ended turned read =
    let given_len = one_more a.given b.given p given in
    let came_len : length b.came ≡ length a.came = ap (λ zs. length zs) came in
    let ended_len : length b.ended ≡ length a.ended = ap (λ zs. length zs) ended in
    omega (arith, given_len, came_len, ended_len, turned, read)

-- a client came
pub counted_client : (a b : Traffic) (p : ℕ × Client) → b.given ≡ a.given → b.came ≡ a.came ++ p ∷ [] → b.ended ≡ a.ended → b.turned ≡ a.turned → b.reads ≡ a.reads + 1 → Counted a b
counted_client a b p given came ended turned read =
    let given_len : length b.given ≡ length a.given = ap (λ zs. length zs) given in
    let came_len = one_more a.came b.came p came in
    let ended_len : length b.ended ≡ length a.ended = ap (λ zs. length zs) ended in
    omega (arith, given_len, came_len, ended_len, turned, read)

-- an end was given
pub counted_end : (a b : Traffic) (n : ℕ) → b.given ≡ a.given → b.came ≡ a.came → b.ended ≡ a.ended ++ n ∷ [] → b.turned ≡ a.turned → b.reads ≡ a.reads + 1 → Counted a b
counted_end a b n given came ended turned read =
    let given_len : length b.given ≡ length a.given = ap (λ zs. length zs) given in
    let came_len : length b.came ≡ length a.came = ap (λ zs. length zs) came in
    let ended_len = one_more a.ended b.ended n ended in
    omega (arith, given_len, came_len, ended_len, turned, read)

-- a client was turned away
pub counted_turned : (a b : Traffic) → b.given ≡ a.given → b.came ≡ a.came → b.ended ≡ a.ended → b.turned ≡ a.turned + 1 → b.reads ≡ a.reads + 1 → Counted a b
counted_turned a b given came ended turned read =
    let given_len : length b.given ≡ length a.given = ap (λ zs. length zs) given in
    let came_len : length b.came ≡ length a.came = ap (λ zs. length zs) came in
    let ended_len : length b.ended ≡ length a.ended = ap (λ zs. length zs) ended in
    omega (arith, given_len, came_len, ended_len, turned, read)
