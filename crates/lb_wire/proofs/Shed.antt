-- Messages without the options of listed codes.
use Rattle.std.proofs.Common.{◌≡◌, ℕ, ◌+◌, ◌-◌, ◌≤◌, Bool, true, false, ◌==◌, List, [], ◌∷◌, ◌++◌, length, take, drop, map, filter, Option, None, Some, if◌then◌else◌, is_some, not, Result, Ok, Err, Vec, Global, refl, sym, subst, ◌∙◌, ap, arith}
use Rattle.std.proofs.lemmas.List.{append_assoc, append-nil, map-append, length-append, length-take, length-drop, drop_at, drop-take, drop-append-le}
use Rattle.std.proofs.Math.Seq.{take-add}
use Rattle.std.proofs.lemmas.List.Elements.{filter-append}
use Rattle.std.specs.List.{flat_map}
use Rattle.lb_wire.specs.Record.{owner_octets, fixed_octets, Record, record_octets}
use Rattle.lb_wire.specs.Opt.{is_opt, opts, first_opt}
use Rattle.lb_wire.specs.Message.{Message, Lays, OneMessage, header_octets, question_octets, message_octets}
use Rattle.lb_wire.specs.Options.{EdnsOption, option_octets, AreOptions, options_of, is_listed, is_unlisted, left_of, without_listed, shed_record, shed, DataStands, HoldsOpt, data_at, put_left, left_octets}
use Rattle.std.proofs.lemmas.Bool.Decides.{nat_tests}
use Rattle.lb_wire.specs.declared.opt.Opt.{Opt}
use Rattle.std.specs.Prelude.{◌<◌, IfOk, IsSome}
use Rattle.lb_wire.specs.BigEndian.{two_octets}
use Rattle.lb_wire.proofs.Lists.{put_at}
use Rattle.lb_wire.proofs.Made.{cut_there}
use Rattle.lb_wire.proofs.OptionLaws.{AreOctets, octets_left, octets_right, read_are}

-- a record that is no OPT stays; an OPT is left with what is left of its data
shed_by : (skips : List ℕ) (r : Record) (b : Bool) → is_opt r ≡ b → shed_record skips r ≡ record r { rdata = if b then without_listed skips r.rdata else r.rdata }
shed_by skips r b is = ap (λ (c : Bool). record r { rdata = if c then without_listed skips r.rdata else r.rdata }) is

other_stays : (skips : List ℕ) (r : Record) → is_opt r ≡ false → shed_record skips r ≡ r
other_stays skips r is = shed_by skips r false is

-- of no OPT records the first is none
no_opts_by : (r : Record) (records : List Record) (b : Bool) → is_opt r ≡ b → (if b then r ∷ opts records else opts records) ≡ [] → (b ≡ false) × (opts records ≡ [])
no_opts_by r records true is none = cc none
no_opts_by r records false is none = (refl, none)

-- without an OPT nothing changes
pub all_stay : (skips : List ℕ) (records : List Record) → opts records ≡ [] → map (shed_record skips) records ≡ records
all_stay skips [] none = refl
all_stay skips (r ∷ records) none =
    let parts = no_opts_by r records (is_opt r) refl none in
    ap (λ (s : Record). s ∷ map (shed_record skips) records) (other_stays skips r parts.0) ∙ ap (λ (rs : List Record). r ∷ rs) (all_stay skips records parts.1)

none_of : (found : List Record) → first_opt found ≡ None → found ≡ []
none_of [] is = refl
none_of (r ∷ found) is = cc is

pub no_opts : (records : List Record) → first_opt (opts records) ≡ None → opts records ≡ []
no_opts records is = none_of (opts records) is

few_by : (front others : List Record) (opt : Record) (b : Bool) → b ≡ true → length (front ++ (if b then opt ∷ others else others)) ≤ 1 → others ≡ []
few_by front [] opt b is few = refl
few_by front (r ∷ others) opt false is few = cc is
few_by front (r ∷ others) opt true is few = absurd (omega (arith, few, length-append front (opt ∷ r ∷ others)))

-- after an OPT that is the only one there is none
few_opts : (before after : List Record) (opt : Record) → is_opt opt ≡ true → length (opts (before ++ opt ∷ after)) ≤ 1 → opts after ≡ []
few_opts before after opt is few =
    let all : opts (before ++ opt ∷ after) ≡ opts before ++ opts (opt ∷ after) = filter-append is_opt before (opt ∷ after) in
    few_by (opts before) (opts after) opt (is_opt opt) is (subst (λ (rs : List Record). length rs ≤ 1) all few)

-- the records with one OPT, without the options of listed codes
pub shed_stands : (skips bytes : List ℕ) (at : ℕ) (records : List Record) (rest : List ℕ) (size_at end : ℕ) (stands : DataStands bytes at records rest size_at end) → length (opts records) ≤ 1 → map (shed_record skips) records ≡ stands.before ++ record stands.opt { rdata = without_listed skips stands.opt.rdata } ∷ stands.after
shed_stands skips bytes at records rest size_at end stands few =
    let after : opts stands.after ≡ [] = few_opts stands.before stands.after stands.opt stands.is (subst (λ (rs : List Record). length (opts rs) ≤ 1) stands.whole few) in
    ap (λ (rs : List Record). map (shed_record skips) rs) stands.whole
    ∙ map-append (shed_record skips) stands.before (stands.opt ∷ stands.after)
    ∙ ap (λ (rs : List Record). rs ++ shed_record skips stands.opt ∷ map (shed_record skips) stands.after) (all_stay skips stands.before stands.first)
    ∙ ap (λ (rs : List Record). stands.before ++ shed_record skips stands.opt ∷ rs) (all_stay skips stands.after after)
    ∙ ap (λ (r : Record). stands.before ++ r ∷ stands.after) (shed_by skips stands.opt true stands.is)

-- if all of the data is left, nothing changes
pub shed_same : (skips bytes : List ℕ) (at : ℕ) (records : List Record) (rest : List ℕ) (size_at end : ℕ) (stands : DataStands bytes at records rest size_at end) → length (opts records) ≤ 1 → without_listed skips stands.opt.rdata ≡ stands.opt.rdata → map (shed_record skips) records ≡ records
shed_same skips bytes at records rest size_at end stands few same =
    shed_stands skips bytes at records rest size_at end stands few
    ∙ ap (λ (xs : List ℕ). stands.before ++ record stands.opt { rdata = xs } ∷ stands.after) same
    ∙ sym stands.whole

-- data that reads so is left so
pub left_by : (skips rdata : List ℕ) (read : Option (List EdnsOption)) → options_of rdata ≡ read → without_listed skips rdata ≡ left_of skips rdata read
left_by skips rdata read is = ap (λ (r : Option (List EdnsOption)). left_of skips rdata r) is

-- fewer options are left, unless none is listed
one_fewer : (skips : List ℕ) (o : EdnsOption) (options : List EdnsOption) (b : Bool) → is_listed skips o ≡ b → length (left_octets skips options) ≤ length (flat_map option_octets options) → length (left_octets skips (o ∷ options)) ≤ length (flat_map option_octets (o ∷ options))
one_fewer skips o options true is fewer =
    let gone : left_octets skips (o ∷ options) ≡ left_octets skips options = rw is refl in
    omega (arith, ap (λ (xs : List ℕ). length xs) gone, fewer, length-append (option_octets o) (flat_map option_octets options))
one_fewer skips o options false is fewer =
    let kept : left_octets skips (o ∷ options) ≡ option_octets o ++ left_octets skips options = rw is refl in
    omega (arith, ap (λ (xs : List ℕ). length xs) kept, fewer, length-append (option_octets o) (flat_map option_octets options), length-append (option_octets o) (left_octets skips options))

pub fewer_left : (skips : List ℕ) (options : List EdnsOption) → length (left_octets skips options) ≤ length (flat_map option_octets options)
fewer_left skips [] = omega arith
fewer_left skips (o ∷ options) = one_fewer skips o options (is_listed skips o) refl (fewer_left skips options)

-- as many octets are left only if all are
same_by : (skips : List ℕ) (o : EdnsOption) (options : List EdnsOption) (b : Bool) → is_listed skips o ≡ b → length (flat_map option_octets (o ∷ options)) ≤ length (left_octets skips (o ∷ options)) → (length (flat_map option_octets options) ≤ length (left_octets skips options)) × (left_octets skips (o ∷ options) ≡ option_octets o ++ left_octets skips options)
same_by skips o options true is many =
    let gone : left_octets skips (o ∷ options) ≡ left_octets skips options = rw is refl in
    absurd (omega (arith, ap (λ (xs : List ℕ). length xs) gone, many, fewer_left skips options, length-append (option_octets o) (flat_map option_octets options)))
same_by skips o options false is many =
    let kept : left_octets skips (o ∷ options) ≡ option_octets o ++ left_octets skips options = rw is refl in
    (omega (arith, ap (λ (xs : List ℕ). length xs) kept, many, length-append (option_octets o) (flat_map option_octets options), length-append (option_octets o) (left_octets skips options)), kept)

pub all_left : (skips : List ℕ) (options : List EdnsOption) → length (flat_map option_octets options) ≤ length (left_octets skips options) → left_octets skips options ≡ flat_map option_octets options
all_left skips [] many = refl
all_left skips (o ∷ options) many =
    let parts = same_by skips o options (is_listed skips o) refl many in
    parts.1 ∙ ap (λ (xs : List ℕ). option_octets o ++ xs) (all_left skips options parts.0)

-- data of which as much is left as there is stays
pub data_stays : (skips rdata : List ℕ) (options : List EdnsOption) (left : ℕ) → AreOptions rdata options → options_of rdata ≡ Some options → left ≡ length (left_octets skips options) → length rdata ≤ left → without_listed skips rdata ≡ rdata
data_stays skips rdata options left are is left_is many =
    let size = ap (λ (xs : List ℕ). length xs) are.parts in
    left_by skips rdata (Some options) is ∙ all_left skips options (omega (arith, size, left_is, many)) ∙ sym are.parts

-- if no code is listed, all of the data is left
none_listed : (options : List EdnsOption) → filter (is_unlisted []) options ≡ options
none_listed [] = refl
none_listed (o ∷ options) = ap (λ (os : List EdnsOption). o ∷ os) (none_listed options)

all_data : (rdata : List ℕ) (read : Option (List EdnsOption)) → AreOctets rdata → options_of rdata ≡ read → without_listed [] rdata ≡ rdata
all_data rdata None each is = left_by [] rdata None is
all_data rdata (Some options) each is =
    left_by [] rdata (Some options) is ∙ ap (λ (os : List EdnsOption). flat_map option_octets os) (none_listed options) ∙ sym (read_are rdata options each is).parts

same_record : (r : Record) (b : Bool) → is_opt r ≡ b → AreOctets r.rdata → shed_record [] r ≡ r
same_record r true is each = shed_by [] r true is ∙ ap (λ (xs : List ℕ). record r { rdata = xs }) (all_data r.rdata (options_of r.rdata) each refl)
same_record r false is each = other_stays [] r is

same_records : (records : List Record) → AreOctets (flat_map record_octets records) → map (shed_record []) records ≡ records
same_records [] each = refl
same_records (r ∷ records) each =
    let here = octets_left (record_octets r) (flat_map record_octets records) each in
    let rdata = octets_right (fixed_octets r) r.rdata (octets_right (owner_octets r.owner) (fixed_octets r ++ r.rdata) here) in
    ap (λ (s : Record). s ∷ map (shed_record []) records) (same_record r (is_opt r) refl rdata)
    ∙ ap (λ (rs : List Record). r ∷ rs) (same_records records (octets_right (record_octets r) (flat_map record_octets records) each))

-- if no code is listed, nothing changes
pub shed_nothing : (bytes : List ℕ) (m : Message) → AreOctets bytes → Lays bytes m → shed [] m ≡ m
shed_nothing bytes m each lays =
    let all = subst (λ (xs : List ℕ). AreOctets xs) lays.parts each in
    let behind = octets_right (question_octets m.name m.qtype m.qclass) (flat_map record_octets m.records ++ m.rest) (octets_right (header_octets m.header) (question_octets m.name m.qtype m.qclass ++ (flat_map record_octets m.records ++ m.rest)) all) in
    ap (λ (rs : List Record). record m { records = rs }) (same_records m.records (octets_left (flat_map record_octets m.records) m.rest behind))

-- an OPT that is told of is there
some_opt : (found : List Record) → IsSome (first_opt found) → 0 < length found
some_opt [] is = cc is
some_opt (r ∷ records) is = omega arith

-- the records of a message stand after its question, an OPT among them
pub held_there : (bytes : List ℕ) (m : Message) (end : ℕ) (told : Option Opt) → Lays bytes m → end ≡ 12 + length (question_octets m.name m.qtype m.qclass) → told ≡ first_opt (opts m.records) → IsSome told → HoldsOpt (drop end bytes) m.records m.rest
held_there bytes m end told lays ends opt is =
    let q = question_octets m.name m.qtype m.qclass in
    let tail = flat_map record_octets m.records ++ m.rest in
    let size : length (header_octets m.header ++ q) ≡ end = omega (arith, ends, length-append (header_octets m.header) q) in
    record {
      each = lays.each;
      some = some_opt (opts m.records) (subst (λ (o : Option Opt). IsSome o) opt is);
      parts = ap (λ (xs : List ℕ). drop end xs) (lays.parts ∙ sym (append_assoc (header_octets m.header) q tail)) ∙ drop_at (header_octets m.header ++ q) tail end size;
    }

-- the question ends within the octets
pub ends_within : (bytes : List ℕ) (m : Message) (end : ℕ) → Lays bytes m → end ≡ 12 + length (question_octets m.name m.qtype m.qclass) → end ≤ length bytes
ends_within bytes m end lays ends =
    let q = question_octets m.name m.qtype m.qclass in
    let size = ap (λ (xs : List ℕ). length xs) lays.parts ∙ length-append (header_octets m.header) (q ++ (flat_map record_octets m.records ++ m.rest)) in
    omega (arith, size, ends, length-append q (flat_map record_octets m.records ++ m.rest))

-- what holds of a message that octets are, holds of each
pub by_one : OneMessage → (P : Message → Type 0) (bytes : List ℕ) (m : Message) → Lays bytes m → P m → (n : Message) → Lays bytes n → P n
by_one one P bytes m lays is n other = subst P (one bytes m n lays other) is

-- a message whose records stay is the same
pub stays_whole : (skips : List ℕ) (m : Message) → map (shed_record skips) m.records ≡ m.records → shed skips m ≡ m
stays_whole skips m is = ap (λ (rs : List Record). record m { records = rs }) is

-- an empty list of codes
pub none_left_out : (skips bytes : List ℕ) (m : Message) → AreOctets bytes → Lays bytes m → (length skips == 0) ≡ true → shed skips m ≡ m
none_left_out [] bytes m each lays is = shed_nothing bytes m each lays
none_left_out (code ∷ skips) bytes m each lays is = absurd (grind (arith, nat_tests, is))

-- what is equal to none
pub none_is : (a b : Option Opt) (told : Bool) → a ≡ b → is_some a ≡ not told → told ≡ true → b ≡ None
none_is None b told same tells is = sym same
none_is (Some opt) b true same tells is = cc tells
none_is (Some opt) b false same tells is = cc is

-- the octets with what is left of the data in its place are the message without the options of listed codes
put_there : (skips bytes : List ℕ) (place size_at end : ℕ) (m : Message) → Lays bytes m → length (opts m.records) ≤ 1 → place ≡ 12 + length (question_octets m.name m.qtype m.qclass) → DataStands bytes place m.records m.rest size_at end → put_left skips size_at end bytes ≡ message_octets (shed skips m)
put_there skips bytes place size_at end m lays few is stands =
    let left = without_listed skips stands.opt.rdata in
    let q = question_octets m.name m.qtype m.qclass in
    let behind = flat_map record_octets (stands.before ++ record stands.opt { rdata = left } ∷ stands.after) ++ m.rest in
    ap (λ (xs : List ℕ). let now = without_listed skips xs in take size_at bytes ++ (two_octets (length now) ++ (now ++ drop end bytes))) stands.is_data
    ∙ sym (stands.changed left)
    ∙ ap (λ (xs : List ℕ). xs ++ behind) (cut_there bytes m place lays is)
    ∙ append_assoc (header_octets m.header) q behind
    ∙ ap (λ (rs : List Record). header_octets m.header ++ (q ++ (flat_map record_octets rs ++ m.rest))) (sym (shed_stands skips bytes place m.records m.rest size_at end stands few))

pub shed_put : OneMessage → (skips bytes : List ℕ) (place size_at end : ℕ) (own m : Message) → Lays bytes own → Lays bytes m → length (opts own.records) ≤ 1 → place ≡ 12 + length (question_octets own.name own.qtype own.qclass) → DataStands bytes place m.records m.rest size_at end → put_left skips size_at end bytes ≡ message_octets (shed skips m)
shed_put one skips bytes place size_at end own m lays_own lays few is stands =
    let same = one bytes own m lays_own lays in
    put_there skips bytes place size_at end m lays (subst (λ (n : Message). length (opts n.records) ≤ 1) same few) (subst (λ (n : Message). place ≡ 12 + length (question_octets n.name n.qtype n.qclass)) same is) stands

-- octets that were made so are those of each message
pub each_put : {E : Type 0} (skips bytes : List ℕ) (size_at end : ℕ) (made : Result (Vec ℕ Global) E) → IfOk made (λ octets. octets.items ≡ drop 2 (put_left skips size_at end bytes)) → ((m : Message) → Lays bytes m → put_left skips size_at end bytes ≡ message_octets (shed skips m)) → IfOk made (λ octets. (m : Message) → Lays bytes m → octets.items ≡ drop 2 (message_octets (shed skips m)))
each_put skips bytes size_at end (Ok octets) made each = λ m lays. made ∙ ap (λ (xs : List ℕ). drop 2 xs) (each m lays)
each_put skips bytes size_at end (Err error) made each = tt

-- what stands before an RDLENGTH and an RDLENGTH, what is left of the data, and what stands after it, without the ID
pub put_by : (skips bytes held front mid all : List ℕ) (size_at end n : ℕ) → 2 ≤ size_at → size_at ≤ length bytes → held ≡ data_at size_at end bytes → n ≡ length (without_listed skips held) → front ≡ drop 2 (take size_at bytes ++ two_octets n) → mid ≡ front ++ without_listed skips held → all ≡ mid ++ drop end bytes → all ≡ drop 2 (put_left skips size_at end bytes)
put_by skips bytes held front mid all size_at end n long within is many front_is mid_is all_is =
    let a = take size_at bytes in
    let l = without_listed skips held in
    let d = drop end bytes in
    let size : 2 ≤ length (a ++ two_octets n) = omega (arith, length-append a (two_octets n)) in
    all_is
    ∙ ap (λ (xs : List ℕ). xs ++ d) (mid_is ∙ ap (λ (xs : List ℕ). xs ++ l) front_is)
    ∙ append_assoc (drop 2 (a ++ two_octets n)) l d
    ∙ sym (drop-append-le 2 (a ++ two_octets n) (l ++ d) size)
    ∙ ap (λ (xs : List ℕ). drop 2 xs) (append_assoc a (two_octets n) (l ++ d))
    ∙ ap (λ (k : ℕ). drop 2 (a ++ (two_octets k ++ (l ++ d)))) many
    ∙ ap (λ (xs : List ℕ). drop 2 (a ++ (two_octets (length (without_listed skips xs)) ++ (without_listed skips xs ++ d)))) is

-- the octets before an RDLENGTH, and another RDLENGTH in its place, without the ID
pub resized : (bytes size : List ℕ) (size_at : ℕ) → length size ≡ 2 → 2 ≤ size_at → size_at + 2 ≤ length bytes → (take (size_at - 2) (take size_at (drop 2 bytes)) ++ size) ++ drop (size_at - 2 + length size) (take size_at (drop 2 bytes)) ≡ drop 2 (take size_at bytes ++ size)
resized bytes size size_at two long within =
    let at = size_at - 2 in
    let ys = drop 2 bytes in
    let a = take at ys in
    let b = take 2 (drop at ys) in
    let many : length ys ≡ length bytes - 2 = length-drop 2 bytes in
    let upto : size_at ≡ at + 2 = omega arith in
    let parts : take size_at ys ≡ a ++ (b ++ []) = ap (λ (k : ℕ). take k ys) upto ∙ take-add at 2 ys ∙ ap (λ (xs : List ℕ). a ++ xs) (sym (append-nil b)) in
    let front : length a ≡ at = omega (arith, length-take at ys, many, within) in
    let piece : length b ≡ 2 = omega (arith, length-take 2 (drop at ys), length-drop at ys, many, within) in
    let before : drop 2 (take size_at bytes) ≡ a = ap (λ (k : ℕ). drop 2 (take k bytes)) (omega arith) ∙ drop-take 2 at bytes in
    let size_a : 2 ≤ length (take size_at bytes) = omega (arith, length-take size_at bytes, within, long) in
    put_at a b size [] (take size_at ys) at (piece ∙ sym two) parts (sym front)
    ∙ ap (λ (xs : List ℕ). a ++ xs) (append-nil size)
    ∙ ap (λ (xs : List ℕ). xs ++ size) (sym before)
    ∙ sym (drop-append-le 2 (take size_at bytes) size size_a)
