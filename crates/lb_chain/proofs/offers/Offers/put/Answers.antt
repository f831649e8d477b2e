use Rattle.std.proofs.Common.{◌≡◌, ◌≤◌, ℕ, List, length, rules, subst, sym}
use Rattle.std.specs.List.{insert}
use Rattle.lb_chain.specs.FirstAsked.{AreFiled}
use Rattle.lb_chain.proofs.Asked.{on_err}
use Rattle.lb_chain.proofs.Edited.{filed_back, filed_inserted}
use Rattle.lb_chain.proofs.offers.Offers.put.Goals as goal

pub returns-in_err-file-clause-err : goal.returns-in_err-file-clause-err
returns-in_err-file-clause-err c =
    let self = c.args.self.now in
    let items : c.reserve.new.self.items ≡ self.ranks.items = search rules in
    let back = c.in_err-file.ensures {u = tt} in
    on_err c.from_residual-in_err-file.result (λ terms filed.
    subst (λ (rs : List ℕ). AreFiled c.file.new.names c.file.new.masks c.file.new.loose rs terms) (sym items)
    (filed_back self.names c.file.new.names self.masks c.file.new.masks self.loose c.file.new.loose terms self.ranks.items c.args.place c.args.rank c.args.term.now c.requires.free back.no_names back.no_masks back.no_loose filed))

pub returns-clause-ok : goal.returns-clause-ok
returns-clause-ok c = λ terms filed.
    let self = c.args.self.now in
    let items : c.insert.new.self.items ≡ insert self.ranks.items c.args.place c.args.rank = search rules in
    let within : c.args.place ≤ length self.ranks.items = search rules in
    let more = c.in_ok-file.ensures {u = tt} in
    subst (λ (rs : List ℕ). AreFiled c.file.new.names c.file.new.masks c.file.new.loose rs (insert terms c.args.place c.args.term.now)) (sym items)
    (filed_inserted self.names c.file.new.names self.masks c.file.new.masks self.loose c.file.new.loose terms self.ranks.items c.args.place c.args.rank c.args.term.now within c.requires.free more.names more.masks more.loose filed)
