-- Octets are a list of options exactly if they are read as one.
use Rattle.std.proofs.Common.{◌≡◌, ℕ, zero, suc, ◌+◌, ◌<◌, ◌≤◌, ◌^◌, Bool, true, false, List, [], ◌∷◌, ◌++◌, length, get_or, take, drop, Option, None, Some, nat_le, if◌then◌else◌, refl, sym, subst, ◌∙◌, ap, arith}
use Rattle.std.proofs.lemmas.List.{length-append}
use Rattle.std.proofs.lemmas.Bool.Decides.{nat_tests}
use Rattle.std.proofs.lemmas.Nat.{from_be_bytes-to_be_bytes_2}
use Rattle.std.specs.Int.{w16, from_be_bytes}
use Rattle.std.specs.List.{flat_map, AllByRecursion}
use Rattle.lb_wire.specs.BigEndian.{two_octets, number_at}
use Rattle.lb_wire.specs.Options.{EdnsOption, option_octets, IsOption, AreOptions, front_option, options_within, options_of}
use Rattle.lb_wire.proofs.Holds.{number_there}
use Rattle.lb_wire.proofs.OptionLists.{with_front, reads_front, option_there}

-- each is an octet
abbrev pub AreOctets : List ℕ → Type 0
AreOctets octets = AllByRecursion (λ octet. octet < 2 ^ 8) octets

pub are_octets : (octets : List ℕ) → ((i : ℕ) → get_or octets i 0 < 256) → AreOctets octets
are_octets [] each = tt
are_octets (octet ∷ octets) each = (each 0, are_octets octets (λ i. each (suc i)))

octet_fits : (octets : List ℕ) → AreOctets octets → (i : ℕ) → get_or octets i 0 < 256
octet_fits [] each i = omega arith
octet_fits (octet ∷ octets) each zero = each.0
octet_fits (octet ∷ octets) each (suc i) = octet_fits octets each.1 i

octets_behind : (n : ℕ) (octets : List ℕ) → AreOctets octets → AreOctets (drop n octets)
octets_behind zero octets each = each
octets_behind (suc n) [] each = tt
octets_behind (suc n) (octet ∷ octets) each = octets_behind n octets each.1

-- octets one after another are octets
pub octets_left : (a b : List ℕ) → AreOctets (a ++ b) → AreOctets a
octets_left [] b each = tt
octets_left (octet ∷ a) b each = (each.0, octets_left a b each.1)

pub octets_right : (a b : List ℕ) → AreOctets (a ++ b) → AreOctets b
octets_right [] b each = each
octets_right (octet ∷ a) b each = octets_right a b each.1

-- options are read as themselves
all_read : (most : ℕ) (options : List EdnsOption) → AllByRecursion IsOption options → length (flat_map option_octets options) ≤ most → options_within most (flat_map option_octets options) ≡ Some options
all_read most [] each enough = refl
all_read zero (o ∷ options) each enough = absurd (omega (arith, enough))
all_read (suc n) (o ∷ options) each enough =
    let size = length-append (option_octets o) (flat_map option_octets options) in
    reads_front n o (flat_map option_octets options) each.0 ∙ ap (λ (r : Option (List EdnsOption)). with_front o r) (all_read n options each.1 (omega (arith, size, enough)))

pub are_read : (octets : List ℕ) (options : List EdnsOption) → AreOptions octets options → options_of octets ≡ Some options
unfolding options_of
are_read octets options are =
    let own = flat_map option_octets options in
    ap (λ (xs : List ℕ). options_within (length xs) xs) are.parts ∙ all_read (length own) options are.each (omega arith)

-- the number that stands at a place is the one that is read there
pub number_is : (octets rest : List ℕ) (at n : ℕ) → n < 2 ^ 16 → drop at octets ≡ two_octets n ++ rest → number_at octets at ≡ n
number_is octets rest at n fits here = ap (λ (xs : List ℕ). from_be_bytes w16 (take 2 xs)) here ∙ from_be_bytes-to_be_bytes_2 n fits

-- the option at the front of octets that are long enough
pub record Front (octets : List ℕ) : Type 0 where
  pub is : IsOption (front_option octets)
  pub parts : octets ≡ option_octets (front_option octets) ++ drop (4 + number_at octets 2) octets

front_there : (octets : List ℕ) → AreOctets octets → 4 + number_at octets 2 ≤ length octets → Front octets
front_there octets each long =
    let code = number_there octets 0 (octet_fits octets each) (omega (arith, long)) in
    let size = number_there octets 2 (octet_fits octets each) (omega (arith, long)) in
    let code_is : number_at octets 0 ≡ code.0 = number_is octets (drop 2 octets) 0 code.0 code.1 code.2 in
    let size_is : number_at octets 2 ≡ size.0 = number_is octets (drop 4 octets) 2 size.0 size.1 size.2 in
    let at_code : octets ≡ two_octets (number_at octets 0) ++ drop 2 octets = code.2 ∙ ap (λ (n : ℕ). two_octets n ++ drop 2 octets) (sym code_is) in
    let at_size : drop 2 octets ≡ two_octets (number_at octets 2) ++ drop 4 octets = size.2 ∙ ap (λ (n : ℕ). two_octets n ++ drop 4 octets) (sym size_is) in
    let there = option_there octets 0 (4 + number_at octets 2) (number_at octets 0) (number_at octets 2) at_code at_size (omega arith) long in
    record { is = record { code = omega (arith, code_is, code.1); value = omega (arith, there.0, size_is, size.1) }; parts = there.1 }

-- options after one at the front
are_more : (octets : List ℕ) (options : List EdnsOption) → Front octets → AreOptions (drop (4 + number_at octets 2) octets) options → AreOptions octets (front_option octets ∷ options)
are_more octets options front are = record { each = (front.is, are.each); parts = front.parts ∙ ap (λ (xs : List ℕ). option_octets (front_option octets) ++ xs) are.parts }

-- what is read of octets, by whether the first option is whole, and by what is read after it
are_by : (octets : List ℕ) (options : List EdnsOption) (whole : Bool) (read : Option (List EdnsOption)) → AreOctets octets → nat_le (4 + number_at octets 2) (length octets) ≡ whole → ((more : List EdnsOption) → read ≡ Some more → AreOptions (drop (4 + number_at octets 2) octets) more) → (if whole then with_front (front_option octets) read else None) ≡ Some options → AreOptions octets options
are_by octets options false read each is behind so = cc so
are_by octets options true None each is behind so = cc so
are_by octets options true (Some more) each is behind so =
    let long : 4 + number_at octets 2 ≤ length octets = grind (arith, nat_tests) in
    let same : front_option octets ∷ more ≡ options = cc so in
    subst (λ (os : List EdnsOption). AreOptions octets os) same (are_more octets more (front_there octets each long) (behind more refl))

-- octets are the options that they are read as
are_within : (most : ℕ) (octets : List ℕ) (options : List EdnsOption) → AreOctets octets → options_within most octets ≡ Some options → AreOptions octets options
are_within most [] options each is =
    let same : [] ≡ options = cc is in
    subst (λ (os : List EdnsOption). AreOptions [] os) same (record { each = tt; parts = refl })
are_within zero (octet ∷ octets) options each is = cc is
are_within (suc most) (octet ∷ octets) options each is =
    let own = octet ∷ octets in
    let rest = drop (4 + number_at own 2) own in
    are_by own options (nat_le (4 + number_at own 2) (length own)) (options_within most rest) each refl (λ more so. are_within most rest more (octets_behind (4 + number_at own 2) own each) so) is

pub read_are : (octets : List ℕ) (options : List EdnsOption) → AreOctets octets → options_of octets ≡ Some options → AreOptions octets options
unfolding options_of
read_are octets options each is = are_within (length octets) octets options each is
