-- The options of an OPT (RFC 6891 section 6.1.2), and messages without those of listed codes.
use Rattle.std.specs.Prelude.{◌≡◌, ℕ, zero, suc, ◌+◌, ◌-◌, ◌<◌, ◌≤◌, ◌^◌, Bool, true, false, List, [], ◌∷◌, ◌++◌, length, take, drop, map, filter, Option, None, Some, option_map, ◌==◌, ◌&&◌, nat_le, if◌then◌else◌}
use Rattle.std.specs.List.{flat_map, list_any, AllByRecursion}
use Rattle.lb_wire.specs.BigEndian.{two_octets, number_at}
use Rattle.lb_wire.specs.Record.{Record, IsRecord, record_octets}
use Rattle.lb_wire.specs.Opt.{is_opt, opts}
use Rattle.lb_wire.specs.Message.{Message}

-- an option: its code, and its data
pub record EdnsOption : Type 0 where
  pub code : ℕ
  pub value : List ℕ

-- an option on the wire: OPTION-CODE, OPTION-LENGTH and OPTION-DATA
abbrev pub option_octets : EdnsOption → List ℕ
option_octets o = two_octets o.code ++ (two_octets (length o.value) ++ o.value)

-- the numbers of an option fit their octets
pub record IsOption (o : EdnsOption) : Type 0 where
  pub code : o.code < 2 ^ 16
  pub value : length o.value < 2 ^ 16

-- the octets are these options, one after the other, and nothing else; none, if there are no octets
pub record AreOptions (octets : List ℕ) (options : List EdnsOption) : Type 0 where
  pub each : AllByRecursion IsOption options
  pub parts : octets ≡ flat_map option_octets options

-- the option that octets begin with, if they are long enough
abbrev pub front_option : List ℕ → EdnsOption
front_option octets = record { code = number_at octets 0; value = take (number_at octets 2) (drop 4 octets) }

-- the options that octets are, read from the front; so many at most
abbrev pub options_within : ℕ → List ℕ → Option (List EdnsOption)
options_within most [] = Some []
options_within zero (octet ∷ octets) = None
options_within (suc most) (octet ∷ octets) =
    if nat_le (4 + number_at (octet ∷ octets) 2) (length (octet ∷ octets)) then option_map (λ options. front_option (octet ∷ octets) ∷ options) (options_within most (drop (4 + number_at (octet ∷ octets) 2) (octet ∷ octets)))
    else None

-- the options that octets are; None if they are no list of options
unfoldable pub options_of : List ℕ → Option (List EdnsOption)
options_of octets = options_within (length octets) octets

-- octets that are options are read as these
abbrev pub OptionsAreRead : Type 0
OptionsAreRead = (octets : List ℕ) (options : List EdnsOption) → AreOptions octets options → options_of octets ≡ Some options

-- octets are the options that they are read as; each octet is a number below 256
abbrev pub ReadAreOptions : Type 0
ReadAreOptions = (octets : List ℕ) (options : List EdnsOption) → AllByRecursion (λ octet. octet < 2 ^ 8) octets → options_of octets ≡ Some options → AreOptions octets options

-- whether an option's code is listed
abbrev pub is_listed : List ℕ → EdnsOption → Bool
is_listed skips o = list_any (λ code. code == o.code) skips

abbrev pub is_unlisted : List ℕ → EdnsOption → Bool
is_unlisted skips o = if is_listed skips o then false else true

-- the octets of the options whose code is not listed
abbrev pub left_octets : List ℕ → List EdnsOption → List ℕ
left_octets skips options = flat_map option_octets (filter (is_unlisted skips) options)

-- the octets are a list of options, and so many are left of them without the options of listed
-- codes
abbrev pub IsLeftLen : List ℕ → List ℕ → ℕ → Type 0
IsLeftLen skips octets len = (options : List EdnsOption) × AreOptions octets options × (options_of octets ≡ Some options) × (len ≡ length (left_octets skips options))

-- what is left of an OPT's data that reads so: the options whose code is not listed; all of it, if it
-- is no list of options
abbrev pub left_of : List ℕ → List ℕ → Option (List EdnsOption) → List ℕ
left_of skips rdata None = rdata
left_of skips rdata (Some options) = left_octets skips options

abbrev pub without_listed : List ℕ → List ℕ → List ℕ
without_listed skips rdata = left_of skips rdata (options_of rdata)

-- the record without the options of listed codes, if it is an OPT: RDLENGTH is that of what is left
abbrev pub shed_record : List ℕ → Record → Record
shed_record skips r = record r { rdata = if is_opt r then without_listed skips r.rdata else r.rdata }

-- the message without the options of listed codes
abbrev pub shed : List ℕ → Message → Message
shed skips m = record m { records = map (shed_record skips) m.records }

-- whether an OPT's data that reads so is no list of options, or holds one whose code is listed
abbrev pub holds_listed : List ℕ → Option (List EdnsOption) → Bool
holds_listed skips None = true
holds_listed skips (Some options) = list_any (is_listed skips) options

-- whether a record is such an OPT
abbrev pub is_carrier : List ℕ → Record → Bool
is_carrier skips r = is_opt r && holds_listed skips (options_of r.rdata)

-- whether one of a message's records is; if no code is listed, it does not matter what an OPT holds
abbrev pub carries_of : List ℕ → Message → Bool
carries_of [] m = false
carries_of (code ∷ skips) m = list_any (is_carrier (code ∷ skips)) m.records

-- the octets between the end of an RDLENGTH and another place
abbrev pub data_at : ℕ → ℕ → List ℕ → List ℕ
data_at size_at end bytes = take (end - (size_at + 2)) (drop (size_at + 2) bytes)

-- records stand at the front of the octets, an OPT among them, and the rest after them
pub record HoldsOpt (octets : List ℕ) (records : List Record) (rest : List ℕ) : Type 0 where
  pub each : AllByRecursion IsRecord records
  pub some : 0 < length (opts records)
  pub parts : octets ≡ flat_map record_octets records ++ rest

-- the first OPT of records that stand at a place, its RDLENGTH and data standing up to another place: with other data in it
-- the octets differ there alone
pub record DataStands (bytes : List ℕ) (at : ℕ) (records : List Record) (rest : List ℕ) (size_at end : ℕ) : Type 0 where
  pub before : List Record
  pub opt : Record
  pub after : List Record
  pub whole : records ≡ before ++ opt ∷ after
  pub first : opts before ≡ []
  pub is : is_opt opt ≡ true
  pub is_data : data_at size_at end bytes ≡ opt.rdata
  pub changed : (rdata : List ℕ) → take at bytes ++ (flat_map record_octets (before ++ record opt { rdata = rdata } ∷ after) ++ rest) ≡ take size_at bytes ++ (two_octets (length rdata) ++ (rdata ++ drop end bytes))

-- an RDLENGTH stands there in the octets, after two others, with its data after it up to another place
abbrev pub StandsIn : ℕ → ℕ → List ℕ → Type 0
StandsIn size_at end bytes = (2 ≤ size_at) × (size_at + 2 ≤ end) × (end ≤ length bytes) × (end < size_at + 2 + 2 ^ 16)

-- the data is a list of options
abbrev pub IsList : List ℕ → Type 0
IsList rdata = (options : List EdnsOption) × (options_of rdata ≡ Some options)

-- the octets with what is left of the data at a place, and its length, in place of the data and its length
abbrev pub put_left : List ℕ → ℕ → ℕ → List ℕ → List ℕ
put_left skips size_at end bytes = let left = without_listed skips (data_at size_at end bytes) in take size_at bytes ++ (two_octets (length left) ++ (left ++ drop end bytes))
