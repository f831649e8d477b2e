-- The names of response codes in texts (the names are IANA's).
use Rattle.std.specs.Prelude.{ℕ, List, [], ◌∷◌, Option, option_map, bytes_eq, codes}
use Rattle.std.specs.List.{find}
use Rattle.lb_wire.specs.declared.rcode.Rcode.{Rcode}
use Rattle.lb_wire.specs.declared.rcode.Rcode.TheVariants.{NoError, FormErr, ServFail, NXDomain, NotImp, Refused}

-- the response codes that a text names (RFC 1035 section 4.1.1)
abbrev pub rcode_names : List (Rcode × List ℕ)
rcode_names =
    (NoError, codes "NOERROR")
    ∷ (FormErr, codes "FORMERR")
    ∷ (ServFail, codes "SERVFAIL")
    ∷ (NXDomain, codes "NXDOMAIN")
    ∷ (NotImp, codes "NOTIMP")
    ∷ (Refused, codes "REFUSED")
    ∷ []

-- the response code that a text names
abbrev pub rcode_of_name : List ℕ → Option Rcode
rcode_of_name name = option_map (λ e. e.0) (find (λ e. bytes_eq e.1 name) rcode_names)
