-- The order of passes: by source, IPv4 first and then by octets, and then by moment.
use Rattle.std.specs.Prelude.{Bool, false}
use Rattle.std.specs.Str.{bytes_eq}
use Rattle.std.specs.Cmp.Lexicographic.{slice_cmp}
use Rattle.std.specs.Ordering.{nat_cmp, ordering_then, is_lt}
use Rattle.std.specs.declared.cmp.Ordering.{Ordering}
use Rattle.std.specs.declared.cmp.Ordering.TheVariants.{Less, Greater}
use Rattle.lb_wire.specs.declared.addr.Addr.{Addr}
use Rattle.lb_wire.specs.declared.addr.Addr.TheVariants.{V4, V6}
use Rattle.lb_limits.specs.declared.pass.Pass.{Pass}

-- whether two addresses are the same: of one family, with the same octets
abbrev pub same_addr : Addr → Addr → Bool
same_addr (V4 a) (V4 b) = bytes_eq a b
same_addr (V6 a) (V6 b) = bytes_eq a b
same_addr (V4 a) (V6 b) = false
same_addr (V6 a) (V4 b) = false

-- IPv4 before IPv6, and within a family by octets, the first one that differs deciding
abbrev pub cmp_addr : Addr → Addr → Ordering
cmp_addr (V4 a) (V4 b) = slice_cmp nat_cmp a b
cmp_addr (V4 a) (V6 b) = Less
cmp_addr (V6 a) (V4 b) = Greater
cmp_addr (V6 a) (V6 b) = slice_cmp nat_cmp a b

-- by source, and where that is the same by moment
abbrev pub cmp_pass : Pass → Pass → Ordering
cmp_pass a b = ordering_then (cmp_addr a.source b.source) (nat_cmp a.moment b.moment)

-- whether a pass stands before another one
abbrev pub is_before : Pass → Pass → Bool
is_before a b = is_lt (cmp_pass a b)
