use Rattle.std.proofs.Common.{◌≡◌, ℕ, Option, true, rules, subst, sym}
use Rattle.lb_chain.specs.declared.offers.Ahead.{Ahead}
use Rattle.lb_chain.specs.Filing.{IsFiledFor}
use Rattle.lb_chain.specs.Ahead.{IsAhead, IsLeastBehind}
use Rattle.lb_chain.proofs.Ahead.{ahead_looked, look_behind}
use Rattle.lb_chain.proofs.offers.Offers.indexed_rank.Goals as goal
use Rattle.lb_chain.proofs.offers.Offers.indexed_rank.Goals.{then-not-ahead, else-not-ahead}

pub returns-clause-found : goal.returns-clause-found
returns-clause-found c = λ terms filed is.
    let self = c.args.self.now in
    let ahead = c.args.ahead.now in
    let least : Option ℕ → Type 0 = IsLeastBehind (IsFiledFor self.names self.masks c.args.view.now c.args.addr.now) self.ranks.items ahead.at in
    elim c.if-not-ahead.branch [
      | then-not-ahead w ↦
          let found : c.if-not-ahead.ahead.indexed ≡ w.find_rank-ahead.result = search rules in
          subst (λ (o : Option ℕ). least o) (sym found)
          (look_behind c.suffix_test_decides.ensures c.mask_test_decides.ensures self.names self.masks self.loose terms self.ranks.items c.args.view.now c.args.addr.now filed ahead.at c.args.here w.find_rank-ahead.result c.requires.at c.requires.here w.find_rank-ahead.ensures)
      | else-not-ahead w ↦
          let looked : ahead.looked ≡ true = search rules in
          let found : c.if-not-ahead.ahead.indexed ≡ ahead.indexed = search rules in
          subst (λ (o : Option ℕ). least o) (sym found) (is.found looked)
    ]

pub returns-clause-ahead : goal.returns-clause-ahead
returns-clause-ahead c = λ terms filed is.
    let self = c.args.self.now in
    let ahead = c.args.ahead.now in
    elim c.if-not-ahead.branch [
      | then-not-ahead w ↦
          subst (λ (a : Ahead). IsAhead self c.args.view.now c.args.addr.now a) (sym w.ahead-is)
          (ahead_looked self.names self.masks self.loose self.ranks.items c.args.view.now c.args.addr.now ahead w.find_rank-ahead.result is
          (look_behind c.suffix_test_decides.ensures c.mask_test_decides.ensures self.names self.masks self.loose terms self.ranks.items c.args.view.now c.args.addr.now filed ahead.at c.args.here w.find_rank-ahead.result c.requires.at c.requires.here w.find_rank-ahead.ensures))
      | else-not-ahead w ↦ subst (λ (a : Ahead). IsAhead self c.args.view.now c.args.addr.now a) (sym w.ahead-is) is
    ]
