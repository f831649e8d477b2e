use Rattle.std.proofs.Common.{◌≡◌, ℕ, List, [], sym, ◌∙◌, ap}
use Rattle.std.specs.Prelude.{drop}
use Rattle.lb_name.specs.Name.{lower_name}
use Rattle.lb_wire.specs.Key.{with_name}
use Rattle.lb_wire.specs.Message.{Message, message_octets}
use Rattle.lb_wire.specs.Options.{shed}
use Rattle.lb_wire.specs.declared.key.Key.{Key}
use Rattle.lb_wire.proofs.Shed.{all_stay, no_opts, stays_whole}
use Rattle.lb_wire.proofs.laws.codes_need_an_opt.Goals as goal

pub returns : goal.returns
returns c = λ skips kind m none.
    let stays : (codes : List ℕ) → shed codes m ≡ m = λ codes. stays_whole codes m (all_stay codes m.records (no_opts m.records none)) in
    let key : Message → Key = λ n. record { kind = kind; octets = drop 2 (message_octets (with_name (lower_name m.name) n)) } in
    ap key (stays skips ∙ sym (stays []))
