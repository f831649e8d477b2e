-- What the program does for the words of its command line.
use Rattle.std.specs.Prelude.{◌≡◌, ◌≢◌, ◌⊎◌, ℕ, List, [], ◌∷◌, codes, map, String, string_bytes, Option, Some, None, Result}
use Rattle.std.specs.Io.KnownBytes.{Keeps}
use Rattle.std.specs.Str.{IsUtf8}
use Rattle.std.specs.IoError.{error_kind}
use Rattle.std.specs.declared.io.Error.{Error}
use Rattle.std.specs.declared.io.ErrorKind.TheVariants.{InvalidData}
use Rattle.lb_program.specs.Checking.{ChecksInput, FailsToRead}
use Rattle.lb_program.specs.Faults.{Tells, stop_text}
use Rattle.lb_program.specs.Replaying.{EndsReplay}
use Rattle.lb_program.specs.declared.faults.Stop.TheVariants.{Input}
use Rattle.lb_program_serve.specs.Serving.{EndsServe, Says}
use Rattle.lb_program_start.specs.declared.program.Mode.{Mode}
use Rattle.lb_program_start.specs.declared.program.Mode.TheVariants.{Serve, Check, Replay}

-- the text of each word, as octets
abbrev pub texts_of : {A : Type 0} → List (String A) → List (List ℕ)
texts_of words = map string_bytes words

-- these words ask for nothing that there is
abbrev pub AsksNothing : List (List ℕ) → Type 0
AsksNothing words =
    (words ≢ codes "replay" ∷ [])
    × ((file : List ℕ) → words ≢ codes "check" ∷ file ∷ [])
    × ((file : List ℕ) → words ≢ codes "serve" ∷ file ∷ [])

-- these words ask for this
abbrev pub Asks : List (List ℕ) → Option Mode → Type 0
Asks words (Some (Serve file)) = words ≡ codes "serve" ∷ file.now ∷ []
Asks words (Some (Check file)) = words ≡ codes "check" ∷ file.now ∷ []
Asks words (Some Replay) = words ≡ codes "replay" ∷ []
Asks words None = AsksNothing words

-- what is told where nothing is done
abbrev pub usage : List ℕ
usage = codes "usage: lb serve FILE | lb check FILE | lb replay\n"

-- nothing is written but a text on faults, with the status of words that ask for nothing that there is
pub record Refuses (text : List ℕ) (old new told_old told_new : Option (List ℕ)) (status : ℕ) (told : Result (Unit {0}) Error) : Type 0 where
  pub status_is : status ≡ 2
  pub unwritten : Keeps old new
  pub tells : Tells told_old told_new text told

-- a setup file could not be read, or is not UTF-8: a sentence says so before the text of the status, and nothing else was done
pub record FailsToServe (old new told_old told_new : Option (List ℕ)) (status : ℕ) (told : Result (Unit {0}) Error) : Type 0 where
  pub error : Error
  pub status_is : status ≡ 3
  pub unwritten : Keeps old new
  pub said : Option (List ℕ)
  pub says : Says told_old said
  pub tells : Tells said told_new (stop_text (Input error)) told

-- a file was read whole, as a text in UTF-8, and served by; or it could not be read
abbrev pub ServesFile : Option (List ℕ) → Option (List ℕ) → Option (List ℕ) → Option (List ℕ) → ℕ → Result (Unit {0}) Error → Type 0
ServesFile old new told_old told_new status told =
    ((text : List ℕ) × IsUtf8 text × EndsServe text old new told_old told_new status told)
    ⊎ FailsToServe old new told_old told_new status told

-- what is done where this is asked for, with an input; of a file nothing is known
abbrev pub Does : Option Mode → Option (List ℕ) → Option (List ℕ) → Option (List ℕ) → Option (List ℕ) → Option (List ℕ) → ℕ → Result (Unit {0}) Error → Type 0
Does (Some (Serve file)) input old new told_old told_new status told = ServesFile old new told_old told_new status told
Does (Some (Check file)) input old new told_old told_new status told = ChecksInput None old new told_old told_new status told
Does (Some Replay) input old new told_old told_new status told = EndsReplay input old new told_old told_new status told
Does None input old new told_old told_new status told = Refuses usage old new told_old told_new status told

-- what is done for these words, with an input: the status, and whether the text on faults was written
abbrev pub DoesAsked : List (List ℕ) → Option (List ℕ) → Option (List ℕ) → Option (List ℕ) → Option (List ℕ) → Option (List ℕ) → ℕ → Result (Unit {0}) Error → Type 0
DoesAsked words input old new told_old told_new status told = (mode : Option Mode) × Asks words mode × Does mode input old new told_old told_new status told

-- what is done for these words, with an input
abbrev pub DoesFor : List (List ℕ) → Option (List ℕ) → Option (List ℕ) → Option (List ℕ) → Option (List ℕ) → Option (List ℕ) → ℕ → Type 0
DoesFor words input old new told_old told_new status = (told : Result (Unit {0}) Error) × DoesAsked words input old new told_old told_new status told

-- what is done where the words could not be had: those that are not UTF-8 ask for nothing that there is
abbrev pub DoesWithout : Error → Option (List ℕ) → Option (List ℕ) → Option (List ℕ) → Option (List ℕ) → ℕ → Type 0
DoesWithout error old new told_old told_new status = (told : Result (Unit {0}) Error)
    × (error_kind error ≡ InvalidData → Refuses usage old new told_old told_new status told)
    × (error_kind error ≢ InvalidData → FailsToRead old new told_old told_new status told)
