-- Texts in base64url, and the octets that they stand for.
use Rattle.std.proofs.Common.{◌≡◌, ◌≤◌, ◌<◌, ◌+◌, ◌*◌, ◌⊎◌, inl, inr, map, ℕ, List, [], ◌∷◌, length, take, drop, take-append-drop, sym, ap, ◌∙◌, subst, arith, rules, Result, Ok, Err}
use Rattle.std.proofs.lemmas.List.{append-nil, length-map}
use Rattle.form_urlencoded.specs.Form.{decode, plus_to_space}
use Rattle.percent_encoding.proofs.PercentLemmas.{length-percent_decode}
use Rattle.base64.specs.Rfc4648.{encode_symbols}
use Rattle.base64.specs.GeneralPurpose.{IsBytes, IsStrict, decode_of}
use Rattle.base64.specs.Engines.{url_safe_no_pad}
use Rattle.base64.specs.declared.decode.DecodeError.{DecodeError}
use Rattle.base64.proofs.EngineFacts.{decode_of_strict, decode_of-encode_of, front_bytes}
use Rattle.lb_wire.specs.Octets.{max_message}
use Rattle.lb_doh_message.specs.Message.{IsBase64Url, IsQueryLike, StandsFor, StandsForNone, symbols}

strict : IsStrict url_safe_no_pad
strict = search rules

-- a text is decoded to the octets that it stands for
pub decoded_from : (text octets : List ℕ) → IsBase64Url text octets → decode_of url_safe_no_pad text ≡ Ok octets
decoded_from text octets is =
    ap (decode_of url_safe_no_pad) (is.spells ∙ sym (append-nil _)) ∙ decode_of-encode_of url_safe_no_pad octets (search rules) is.are_octets

-- what a text is decoded to is what it stands for
pub spelled_by : (text octets : List ℕ) → IsBytes text → IsBytes octets → decode_of url_safe_no_pad text ≡ Ok octets → IsBase64Url text octets
spelled_by text octets bytes are_octets is = record {
  are_octets = are_octets;
  spells = decode_of_strict url_safe_no_pad text octets strict bytes is ∙ append-nil _;
}

-- a result has one value
agree : {A B : Type 0} (r : Result A B) (x y : A) → r ≡ Ok x → r ≡ Ok y → x ≡ y
agree r x y is also = cc

-- a result is not both
apart : {A B : Type 0} (r : Result A B) (x : A) (e : B) → r ≡ Ok x → r ≡ Err e → ⊥
apart r x e is not = cc

-- a text stands for one list of octets
pub one_spelling : (text octets others : List ℕ) → IsBase64Url text octets → IsBase64Url text others → octets ≡ others
one_spelling text octets others is also =
    agree (decode_of url_safe_no_pad text) octets others (decoded_from text octets is) (decoded_from text others also)

-- a text that is not decoded stands for nothing
pub none_spelled : (text : List ℕ) (why : DecodeError) → decode_of url_safe_no_pad text ≡ Err why → StandsForNone text
none_spelled text why not octets is =
    apart (decode_of url_safe_no_pad text) octets why (decoded_from text octets is) not

-- the front of octets is octets
pub front_of_octets : (octets : List ℕ) (n : ℕ) → IsBytes octets → IsBytes (take n octets)
front_of_octets octets n bytes = front_bytes (take n octets) (drop n octets) (rw take-append-drop bytes)

-- octets that are no message are those of no message
pub none_like : (text octets : List ℕ) → IsBase64Url text octets → ((length octets ≤ max_message) × IsQueryLike octets → ⊥)
    → (others : List ℕ) → StandsFor text others → ⊥
none_like text octets is none others stands =
    let same : others ≡ octets = one_spelling text others octets stands.in_base64url is in
    none (subst (λ o. (length o ≤ max_message) × IsQueryLike o) same (stands.short, stands.like))

-- three symbols have at most four thirds of the octets
length-encode_symbols : (t octets : List ℕ) → 3 * length (encode_symbols t octets) ≤ 4 * length octets + 2
unfolding encode_symbols
length-encode_symbols t [] = omega arith
length-encode_symbols t (a ∷ []) = omega arith
length-encode_symbols t (a ∷ b ∷ []) = omega arith
length-encode_symbols t (a ∷ b ∷ c ∷ rest) =
    let more = length-encode_symbols t rest in
    omega arith

-- a text of more symbols than a message may have stands for none
pub none_so_long : (text : List ℕ) (room : ℕ) → 87380 ≤ room → room < length text → (octets : List ℕ) → StandsFor text octets → ⊥
none_so_long text room wide long octets is =
    let few = length-encode_symbols symbols octets in
    let as_many = ap length is.in_base64url.spells in
    let short = is.short in
    omega arith

-- a value that there is no room for stands for no message
pub none_within : (value : List ℕ) (room : ℕ) → (length value ≤ room) ⊎ (87380 ≤ room) → room < length (decode value)
    → (octets : List ℕ) → StandsFor (decode value) octets → ⊥
none_within value room (inl fits) long octets is =
    let fewer = (length-percent_decode (map plus_to_space value)).0 in
    let as_many : length (map plus_to_space value) ≡ length value = length-map {B = ℕ} value plus_to_space in
    absurd (omega arith)
none_within value room (inr wide) long octets is = none_so_long (decode value) room wide long octets is
