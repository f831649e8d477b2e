-- Outputs that grow by what serving writes.
use Rattle.std.proofs.Common.{◌≡◌, ◌⊎◌, inl, inr, ℕ, List, [], ◌++◌, IfErr, OnOk, refl, sym, ◌∙◌, ap, append_assoc, Option, None, Some, Result, Ok, Err}
use Rattle.std.proofs.lemmas.List.{append-nil}
use Rattle.std.specs.Io.KnownBytes.{Appends, Keeps}
use Rattle.lb_step.specs.Snapshot.{Snapshot}
use Rattle.std.specs.declared.io.Error.{Error}
use Rattle.lb_program.specs.Faults.{Tells}
use Rattle.lb_program.specs.Output.{WritesFront}
use Rattle.lb_program_serve.specs.Serving.{Closes, Fails, Says, Served, TellsBehind, closed_text, output_end, ready_text}
use Rattle.lb_program_serve.specs.declared.fault.Fault.{Fault}
use Rattle.lb_program_serve.specs.declared.fault.Fault.TheVariants.{Switch, NoThreads, NoListener, Bind, System, Loops, Front, Console, Output, Closing, NoMemory}

-- nothing was written
pub keeps_same : (a : Option (List ℕ)) → Keeps a a
keeps_same None = tt
keeps_same (Some xs) = refl

pub appends_none : (a b : Option (List ℕ)) → Keeps a b → Appends a b []
appends_none None b kept = tt
appends_none (Some xs) None kept = absurd kept
appends_none (Some xs) (Some ys) kept = kept ∙ sym (append-nil xs)

-- one piece after the other
pub appends_both : (a b c : Option (List ℕ)) (xs ys : List ℕ) → Appends a b xs → Appends b c ys → Appends a c (xs ++ ys)
appends_both None b c xs ys first then = tt
appends_both (Some a) None c xs ys first then = absurd first
appends_both (Some a) (Some b) None xs ys first then = absurd then
appends_both (Some a) (Some b) (Some c) xs ys first then = then ∙ ap (λ (zs : List ℕ). zs ++ ys) first ∙ append_assoc a xs ys

-- a front of what is written after a piece is a front of both
pub front_behind : (a b c : Option (List ℕ)) (xs ys : List ℕ) → Appends a b xs → WritesFront b c ys → WritesFront a c (xs ++ ys)
front_behind a b c xs ys first (rest, (front, is, then)) =
    (rest, (xs ++ front, ap (λ (zs : List ℕ). xs ++ zs) is ∙ sym (append_assoc xs front rest), appends_both a b c xs front first then))

-- a front of a piece is a front of it and another
pub front_before : (a b : Option (List ℕ)) (xs ys : List ℕ) → WritesFront a b xs → WritesFront a b (xs ++ ys)
front_before a b xs ys (rest, (front, is, then)) = (rest ++ ys, (front, ap (λ (zs : List ℕ). zs ++ ys) is ∙ append_assoc front rest ys, then))

-- nothing is a front of anything
pub front_none : (a b : Option (List ℕ)) (xs : List ℕ) → Keeps a b → WritesFront a b xs
front_none a b xs kept = (xs, ([], refl, appends_none a b kept))

-- a piece is a front of it and another
pub front_whole : (a b : Option (List ℕ)) (xs ys : List ℕ) → Appends a b xs → WritesFront a b (xs ++ ys)
front_whole a b xs ys whole = (ys, (xs, refl, whole))

-- nothing was written when serving ended by a fault
pub served_nothing : (opening : Snapshot) (limit : ℕ) (a : Option (List ℕ)) (fault : Fault) → Served opening limit a a (Err fault)
served_nothing opening limit a (Switch switch) = inl (keeps_same a)
served_nothing opening limit a (NoThreads count) = inl (keeps_same a)
served_nothing opening limit a NoListener = inl (keeps_same a)
served_nothing opening limit a (Bind line fault) = inl (keeps_same a)
served_nothing opening limit a (System error) = inl (keeps_same a)
served_nothing opening limit a (Loops fault) = inl (keeps_same a)
served_nothing opening limit a (Front fault) = inl (keeps_same a)
served_nothing opening limit a Console = inl (keeps_same a)
served_nothing opening limit a (Output error) = (0, front_none a a (ready_text ++ closed_text 0) (keeps_same a))
served_nothing opening limit a (Closing fault) = inl (keeps_same a)
served_nothing opening limit a NoMemory = inl (keeps_same a)

-- the first line alone was written when serving ended by a fault
pub served_ready : (opening : Snapshot) (limit : ℕ) (a b : Option (List ℕ)) (fault : Fault) → Appends a b ready_text → Served opening limit a b (Err fault)
served_ready opening limit a b (Switch switch) ready = inr ready
served_ready opening limit a b (NoThreads count) ready = inr ready
served_ready opening limit a b NoListener ready = inr ready
served_ready opening limit a b (Bind line fault) ready = inr ready
served_ready opening limit a b (System error) ready = inr ready
served_ready opening limit a b (Loops fault) ready = inr ready
served_ready opening limit a b (Front fault) ready = inr ready
served_ready opening limit a b Console ready = inr ready
served_ready opening limit a b (Output error) ready = (0, front_whole a b ready_text (closed_text 0) ready)
served_ready opening limit a b (Closing fault) ready = inr ready
served_ready opening limit a b NoMemory ready = inr ready

-- no sentence was told
pub says_nothing : (a : Option (List ℕ)) → Says a a
says_nothing a = ([], refl, front_none a a [] (keeps_same a))

-- sentences were told before, and nothing is told now
pub tells_nothing : (first then : Option (List ℕ)) → Says first then → TellsBehind first then [] (Ok tt)
tells_nothing first then says = record {
  first = then;
  then = then;
  warned = says;
  explained = says_nothing then;
  tells = record { front = front_none then then [] (keeps_same then); whole = appends_none then then (keeps_same then) };
}

-- sentences were told before, and then others, and a text
pub tells_text : (first then mid new : Option (List ℕ)) (text : List ℕ) (told : Result (Unit {0}) Error) → Says first then → Says then mid → Tells mid new text told → TellsBehind first new text told
tells_text first then mid new text told warned explained tells = record { first = then; then = mid; warned = warned; explained = explained; tells = tells }

-- the last line was written, or a front of it, after the first
pub served_closed : (opening : Snapshot) (limit count : ℕ) (a b c : Option (List ℕ)) (written : Result (Unit {0}) Error) → Closes opening limit count → Appends a b ready_text → WritesFront b c (closed_text count) → OnOk written (Appends b c (closed_text count)) → Served opening limit a c (output_end written)
served_closed opening limit count a b c (Ok done) closes ready front whole = (count, closes, appends_both a b c ready_text (closed_text count) ready whole)
served_closed opening limit count a b c (Err error) closes ready front whole = (count, front_behind a b c ready_text (closed_text count) ready front)

-- the first line was not written whole when the output failed
pub served_unready : (opening : Snapshot) (limit : ℕ) (a b : Option (List ℕ)) (error : Error) → WritesFront a b ready_text → Served opening limit a b (Err (Output error))
served_unready opening limit a b error front = (0, front_before a b ready_text (closed_text 0) front)

-- if the first line was written, what ended serving ended it after that line
pub ready_then : {A : Type 0} (a b : Option (List ℕ)) (end : Result A Fault) → Appends a b ready_text → IfErr end (Fails a b)
ready_then a b (Ok done) ready = tt
ready_then a b (Err fault) ready = λ opening limit. served_ready opening limit a b fault ready
