-- What a walk over records gathers.
use Rattle.std.specs.Prelude.{ℕ, ◌/◌, ◌%◌, Bool, true, false, List, [], ◌∷◌, None, Some, is_some, ◌==◌, ◌&&◌, ◌||◌, if◌then◌else◌}
use Rattle.lb_wire.specs.Record.{Record}
use Rattle.lb_wire.specs.Opt.{opt_type, dnssec_ok, opts, first_opt, least_ttl, ttl_value, lesser}
use Rattle.lb_wire.specs.declared.tally.Tally.{Tally}

-- whether there are two records or more
abbrev pub is_two : List Record → Bool
is_two [] = false
is_two (r ∷ []) = false
is_two (r ∷ s ∷ records) = true

-- what records come to
abbrev pub tally_of : List Record → Tally
tally_of records = record { opt = first_opt (opts records); twice = is_two (opts records); least = least_ttl records }

-- the same of one record of this type and TTL
abbrev pub tally_of_one : ℕ → ℕ → Tally
tally_of_one rtype ttl = if rtype == opt_type then record { opt = Some (record { dnssec_ok = ttl / dnssec_ok % 2 == 1 }); twice = false; least = None } else record { opt = None; twice = false; least = Some (ttl_value ttl) }

-- the same of records and others after them
abbrev pub both_of : Tally → Tally → Tally
both_of a b = record {
  opt = if is_some a.opt then a.opt else b.opt;
  twice = a.twice || b.twice || (is_some a.opt && is_some b.opt);
  least = lesser a.least b.least;
}
