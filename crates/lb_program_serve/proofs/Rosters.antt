-- Rosters of lists of servers.
use Rattle.std.proofs.Common.{ℕ, ◌+◌, ◌<◌, List, [], ◌∷◌, ◌++◌, take, get_or, length, refl, sym, subst}
use Rattle.std.proofs.lemmas.List.{take_more}
use Rattle.lb_loops_io.specs.Roster.{Rostered}
use Rattle.lb_program.specs.declared.servers.ServerPlace.{ServerPlace}
use Rattle.lb_program_serve.specs.News.{Puts}
use Rattle.lb_program_serve.specs.Operator.{PutsAll}

-- a server is put after others
puts_push : (servers : List ServerPlace) (server : ServerPlace) (old mid new : Rostered) → PutsAll servers old mid → Puts server mid new → PutsAll (servers ++ server ∷ []) old new
puts_push [] server old mid new all put = (new, subst (λ (r : Rostered). Puts server r new) all put, refl)
puts_push (s ∷ ss) server old mid new (next, first, rest) put = (next, first, puts_push ss server next mid new rest put)

-- the next server of a list is put after those before it
pub puts_more : (servers : List ServerPlace) (i : ℕ) (d : ServerPlace) (old mid new : Rostered) → i < length servers → PutsAll (take i servers) old mid → Puts (get_or servers i d) mid new → PutsAll (take (i + 1) servers) old new
puts_more servers i d old mid new lt all put =
    subst (λ (xs : List ServerPlace). PutsAll xs old new) (sym (take_more servers i d lt)) (puts_push (take i servers) (get_or servers i d) old mid new all put)
