use Rattle.std.proofs.Common.{◌≡◌, ℕ, ◌+◌, List, ◌++◌, length, take, vec_len, Vec, Global, refl, sym, ◌∙◌, ap, arith}
use Rattle.std.proofs.lemmas.List.{length_push}
use Rattle.std.specs.List.{flat_map}
use Rattle.lb_wire.specs.Record.{Record, record_octets}
use Rattle.lb_wire.specs.Answer.{spoof_records}
use Rattle.lb_wire.proofs.Spoofs.{spoof_fits, spoof_skips, octets_more}
use Rattle.lb_wire.proofs.spoof.push_addresses.Goals as goal
use Rattle.lb_wire.proofs.spoof.push_addresses.Goals.{then-fits_type+in_ok-push_address, else-fits_type}

pub loop-addr-preserved : goal.loop-addr-preserved
loop-addr-preserved c =
    let so = c.loop-addr.invariant in
    elim c.if-fits_type.branch [
      | then-fits_type+in_ok-push_address w ↦
          let more = spoof_fits c.args.qtype.0 c.loop-addr.addr-index c.args.addrs.now _ _ c.loop-addr-test.true refl (sym c.fits_type.ensures ∙ w.if-fits_type.true) in
          let items = ap (λ (v : Vec ℕ Global). v.items) w.answer-is in
          let len = ap (λ (v : Vec ℕ Global). vec_len v) w.answer-is in
          let before = spoof_records c.args.qtype.0 (take c.loop-addr.addr-index c.args.addrs.now) in
          let size : length (spoof_records c.args.qtype.0 (take (c.loop-addr.addr-index + 1) c.args.addrs.now)) ≡ length before + 1 =
          ap (λ (rs : List Record). length rs) more ∙ length_push before _ in
          record {
            few = omega arith;
            short = omega (arith, so.short, len, w.in_ok-push_address.ensures.short);
            counted = omega (arith, w.number-is, so.counted, size);
            octets = items ∙ octets_more _ _ _ _ _ _ so.octets w.in_ok-push_address.ensures.octets more;
          }
      | else-fits_type w ↦
          let same = spoof_skips c.args.qtype.0 c.loop-addr.addr-index c.args.addrs.now _ _ c.loop-addr-test.true refl (sym c.fits_type.ensures ∙ w.if-fits_type.false) in
          let items = ap (λ (v : Vec ℕ Global). v.items) w.answer-is in
          let len = ap (λ (v : Vec ℕ Global). vec_len v) w.answer-is in
          record {
            few = omega arith;
            short = omega (arith, so.short, len);
            counted = w.number-is ∙ so.counted ∙ ap (λ (rs : List Record). length rs) (sym same);
            octets = items ∙ so.octets ∙ ap (λ (rs : List Record). c.args.answer.now.items ++ flat_map record_octets rs) (sym same);
          }
    ]
