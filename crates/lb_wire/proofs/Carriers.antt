-- Records, and whether one of them holds an option of a listed code.
use Rattle.std.proofs.Common.{◌≡◌, ℕ, ◌+◌, ◌<◌, ◌≤◌, Bool, true, false, ◌||◌, ◌&&◌, ◌==◌, List, [], ◌∷◌, ◌++◌, length, drop, Option, None, Some, nat_lt, refl, sym, ◌∙◌, ap, arith}
use Rattle.std.proofs.lemmas.List.{append_assoc, length-append}
use Rattle.std.proofs.lemmas.List.Folds.{list_any-append}
use Rattle.std.proofs.lemmas.Bool.Decides.{nat_tests}
use Rattle.std.specs.List.{flat_map, list_any, AllByRecursion}
use Rattle.lb_name.specs.Laws.{LabelsGoOn}
use Rattle.lb_wire.specs.Record.{Record, record_octets, IsRecord, Holds}
use Rattle.lb_wire.specs.Opt.{is_opt}
use Rattle.lb_wire.specs.Options.{EdnsOption, option_octets, AreOptions, options_of, is_listed, holds_listed, is_carrier, carries_of, left_octets}
use Rattle.lb_wire.specs.Message.{Message}
use Rattle.lb_wire.proofs.OptStands.{First, first_of, some_left, none_left, no_first_of}
use Rattle.lb_wire.proofs.Shed.{fewer_left}

less : (a b : ℕ) → a < b → nat_lt a b ≡ true
less a b lt = grind (arith, nat_tests)

same_less : (n a b c d : ℕ) → c ≡ n + a → d ≡ n + b → nat_lt c d ≡ nat_lt a b
same_less n a b c d is_c is_d = grind (arith, nat_tests)

-- fewer octets are left exactly if an option is listed
listed_by : (skips : List ℕ) (o : EdnsOption) (options : List EdnsOption) (b : Bool) → is_listed skips o ≡ b → nat_lt (length (left_octets skips options)) (length (flat_map option_octets options)) ≡ list_any (is_listed skips) options → nat_lt (length (left_octets skips (o ∷ options))) (length (flat_map option_octets (o ∷ options))) ≡ (b || list_any (is_listed skips) options)
listed_by skips o options true is so =
    let gone : left_octets skips (o ∷ options) ≡ left_octets skips options = rw is refl in
    less (length (left_octets skips (o ∷ options))) (length (flat_map option_octets (o ∷ options))) (omega (arith, ap (λ (xs : List ℕ). length xs) gone, fewer_left skips options, length-append (option_octets o) (flat_map option_octets options)))
listed_by skips o options false is so =
    let kept : left_octets skips (o ∷ options) ≡ option_octets o ++ left_octets skips options = rw is refl in
    same_less (length (option_octets o)) (length (left_octets skips options)) (length (flat_map option_octets options)) (length (left_octets skips (o ∷ options))) (length (flat_map option_octets (o ∷ options)))
    (ap (λ (xs : List ℕ). length xs) kept ∙ length-append (option_octets o) (left_octets skips options)) (length-append (option_octets o) (flat_map option_octets options)) ∙ so

any_listed : (skips : List ℕ) (options : List EdnsOption) → nat_lt (length (left_octets skips options)) (length (flat_map option_octets options)) ≡ list_any (is_listed skips) options
any_listed skips [] = refl
any_listed skips (o ∷ options) = listed_by skips o options (is_listed skips o) refl (any_listed skips options)

-- data of which fewer octets are left holds a listed option
pub holds_by : (skips rdata : List ℕ) (options : List EdnsOption) (left : ℕ) → AreOptions rdata options → options_of rdata ≡ Some options → left ≡ length (left_octets skips options) → nat_lt left (length rdata) ≡ holds_listed skips (options_of rdata)
holds_by skips rdata options left are is left_is =
    ap (λ (n : ℕ). nat_lt n (length rdata)) left_is
    ∙ ap (λ (xs : List ℕ). nat_lt (length (left_octets skips options)) (length xs)) are.parts
    ∙ any_listed skips options
    ∙ sym (ap (λ (r : Option (List EdnsOption)). holds_listed skips r) is)

pub holds_none : (skips rdata : List ℕ) → options_of rdata ≡ None → true ≡ holds_listed skips (options_of rdata)
holds_none skips rdata is = sym (ap (λ (r : Option (List EdnsOption)). holds_listed skips r) is)

-- so many records before a place hold none, and the others stand from there on
pub record PastNone (skips bytes : List ℕ) (place k : ℕ) (records : List Record) (rest : List ℕ) : Type 0 where
  pub before : List Record
  pub todo : List Record
  pub whole : records ≡ before ++ todo
  pub number : length before ≡ k
  pub none : list_any (is_carrier skips) before ≡ false
  pub each : AllByRecursion IsRecord todo
  pub there : drop place bytes ≡ flat_map record_octets todo ++ rest

pub PastNone-none : (skips bytes : List ℕ) (at count : ℕ) (records : List Record) (rest : List ℕ) → Holds count (drop at bytes) records rest → PastNone skips bytes at 0 records rest
PastNone-none skips bytes at count records rest held = record { before = []; todo = records; whole = refl; number = refl; none = refl; each = held.each; there = held.parts }

or_false : (a : Bool) → (a || false) ≡ a
or_false true = refl
or_false false = refl

-- the record at the place is the next of them
pub next_of : (go : LabelsGoOn) (skips bytes : List ℕ) (place end k count : ℕ) (read : Record) (records : List Record) (rest : List ℕ) (past : PastNone skips bytes place k records rest) → IsRecord read → drop place bytes ≡ record_octets read ++ drop end bytes → length records ≡ count → k < count → First bytes end read past.todo rest
next_of go skips bytes place end k count read records rest past is here many less =
    first_of go bytes place end read past.todo rest is here past.each past.there (some_left past.before past.todo records k count past.whole past.number many less)

-- one that holds none is passed
pub PastNone-more : (skips bytes : List ℕ) (place end k : ℕ) (r : Record) (records : List Record) (rest : List ℕ) (past : PastNone skips bytes place k records rest) → First bytes end r past.todo rest → is_carrier skips r ≡ false → PastNone skips bytes end (k + 1) records rest
PastNone-more skips bytes place end k r records rest past first none = record {
  before = past.before ++ r ∷ [];
  todo = first.others;
  whole = past.whole ∙ ap (λ (rs : List Record). past.before ++ rs) first.is ∙ sym (append_assoc past.before (r ∷ []) first.others);
  number = omega (arith, past.number, length-append past.before (r ∷ []));
  none = list_any-append (is_carrier skips) past.before (r ∷ []) ∙ ap (λ (b : Bool). b || (is_carrier skips r || false)) past.none ∙ or_false (is_carrier skips r) ∙ none;
  each = first.each;
  there = first.behind;
}

-- if all are passed, none holds one
pub PastNone-all : (skips bytes : List ℕ) (place k count : ℕ) (records : List Record) (rest : List ℕ) (past : PastNone skips bytes place k records rest) → length records ≡ count → count ≤ k → false ≡ list_any (is_carrier skips) records
PastNone-all skips bytes place k count records rest past many all =
    sym (ap (λ (rs : List Record). list_any (is_carrier skips) rs) (none_left past.before past.todo records k count past.whole past.number many all) ∙ past.none)

-- if the next holds one, one of all does
pub PastNone-found : (skips bytes : List ℕ) (place end k : ℕ) (r : Record) (records : List Record) (rest : List ℕ) (past : PastNone skips bytes place k records rest) → First bytes end r past.todo rest → is_carrier skips r ≡ true → true ≡ list_any (is_carrier skips) records
PastNone-found skips bytes place end k r records rest past first holds =
    sym (ap (λ (rs : List Record). list_any (is_carrier skips) rs) (past.whole ∙ ap (λ (rs : List Record). past.before ++ rs) first.is)
    ∙ list_any-append (is_carrier skips) past.before (r ∷ first.others)
    ∙ ap (λ (b : Bool). b || list_any (is_carrier skips) (r ∷ first.others)) past.none
    ∙ ap (λ (b : Bool). b || list_any (is_carrier skips) first.others) holds)

-- if no record stands at the place, none is left
pub never_none : (skips bytes : List ℕ) (place k count : ℕ) (records : List Record) (rest : List ℕ) (past : PastNone skips bytes place k records rest) → length records ≡ count → k < count → ((r : Record) (x : List ℕ) → IsRecord r → drop place bytes ≡ record_octets r ++ x → ⊥) → ⊥
never_none skips bytes place k count records rest past many less none =
    no_first_of bytes place past.todo rest past.each past.there (some_left past.before past.todo records k count past.whole past.number many less) none

-- whether a record holds one, by its type and its data
pub carrier_opt : (skips rdata : List ℕ) (r : Record) (told : Bool) → is_opt r ≡ true → rdata ≡ r.rdata → told ≡ holds_listed skips (options_of rdata) → is_carrier skips r ≡ told
carrier_opt skips rdata r told is same tells =
    ap (λ (b : Bool). b && holds_listed skips (options_of r.rdata)) is ∙ sym (tells ∙ ap (λ (xs : List ℕ). holds_listed skips (options_of xs)) same)

pub carrier_other : (skips : List ℕ) (r : Record) → is_opt r ≡ false → is_carrier skips r ≡ false
carrier_other skips r is = ap (λ (b : Bool). b && holds_listed skips (options_of r.rdata)) is

-- a message carries one if codes are listed and one of its records holds one
pub carries_by : (skips : List ℕ) (m : Message) (told : Bool) → (length skips == 0) ≡ false → told ≡ list_any (is_carrier skips) m.records → told ≡ carries_of skips m
carries_by [] m told some is = cc some
carries_by (code ∷ skips) m told some is = is

pub carries_none : (skips : List ℕ) (m : Message) → (length skips == 0) ≡ true → false ≡ carries_of skips m
carries_none [] m none = refl
carries_none (code ∷ skips) m none = absurd (grind (arith, nat_tests, none))
