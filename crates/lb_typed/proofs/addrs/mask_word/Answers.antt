use Rattle.std.proofs.Common.{List, ℕ, string_bytes, ◌++◌, ◌∷◌, ◌∙◌, sym, ap}
use Rattle.lb_wire.specs.declared.addr.Addr.{Addr}
use Rattle.std.specs.Fmt.{decimal}
use Rattle.lb_command.specs.Values.{mask_of}
use Rattle.lb_masks.specs.Mask.{width}
use Rattle.lb_typed.specs.Addrs.{TypesAddr}
use Rattle.lb_typed.specs.Words.{Types}
use Rattle.lb_typed.proofs.Masks as masks
use Rattle.lb_typed.proofs.Texts.{holds}
use Rattle.lb_typed.proofs.addrs.mask_word.Goals as goal

pub returns-then-length-width : goal.returns-then-length-width
returns-then-length-width c =
    masks.whole c.args.mask.now (string_bytes c.in_ok-addr.addr) c.law_of_mask.ensures
    (sym c.length-length.ensures.length ∙ c.if-length-width.true ∙ c.width.ensures ∙ ap (λ (a : Addr). width a) c.network-network.ensures.address) (rw c.network-network.ensures.address at c.in_ok-addr.ensures)

pub returns : goal.returns
returns c =
    let len = c.length-length.ensures.length in
    holds string_bytes c.with_length.result (string_bytes c.in_ok-addr.addr ++ 47 ∷ decimal c.args.mask.now.len) (λ text. Types mask_of c.args.mask.now text)
    (masks.with_length c.args.mask.now (string_bytes c.in_ok-addr.addr) c.law_of_mask.ensures (rw len at c.length-length.ensures.within) (rw c.network-network.ensures.address at c.in_ok-addr.ensures))
    (rw (c.as_str.ensures.value, len) at c.with_length.ensures)
