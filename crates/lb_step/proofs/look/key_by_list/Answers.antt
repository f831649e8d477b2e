use Rattle.std.proofs.Common.{◌≡◌, ℕ, List, [], None, sym, ◌∙◌, ap}
use Rattle.lb_wire.specs.Key.{key_of_message}
use Rattle.lb_wire.specs.Message.{Message}
use Rattle.lb_wire.specs.Opt.{opts, first_opt}
use Rattle.lb_cache.specs.Caches.{skips_of}
use Rattle.lb_step.proofs.KeysToSend.{key_by, none_by}
use Rattle.lb_step.proofs.look.key_by_list.Goals as goal

pub returns-then-is_none : goal.returns-then-is_none
returns-then-is_none c =
    let skips : List ℕ = skips_of c.args.cache c.args.upstream.now.caches in
    let asked = c.requires.view in
    let without : first_opt (opts asked.0.records) ≡ None = sym asked.3.opt ∙ none_by c.args.view.now.opt c.is_none.result c.is_none.ensures c.if-is_none.true in
    key_by [] skips c.args.kind c.args.bytes.now c.key_of.result
    (λ m lays. sym (c.codes_need_an_opt.ensures skips c.args.kind m (ap (λ (m : Message). first_opt (opts m.records)) (c.one_message.ensures c.args.bytes.now m asked.0 lays asked.1) ∙ without)))
    c.key_of.ensures

pub returns : goal.returns
returns c = key_by c.skips_of.result.now (skips_of c.args.cache c.args.upstream.now.caches) c.args.kind c.args.bytes.now c.key_of-2.result (λ m lays. ap (λ (codes : List ℕ). key_of_message codes c.args.kind m) c.skips_of.ensures) c.key_of-2.ensures
