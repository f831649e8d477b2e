use Rattle.std.proofs.Common.{◌∙◌, ap}
use Rattle.std.specs.Result.{result_from_control_flow}
use Rattle.lb_cache.specs.Caches.{skips_of}
use Rattle.lb_step.proofs.KeysToSend.{key_sent, made_of, named_sent, viewed}
use Rattle.lb_step.proofs.look.key_of_sent.Goals as goal

pub key_by_list-key-requires-clause-view : goal.key_by_list-key-requires-clause-view
key_by_list-key-requires-clause-view c = viewed c.cleared_is_laid.ensures c.args.no_recurse c.args.bytes.now c.clear_if.new.bytes c.args.view.now c.requires.view c.clear_if.ensures

pub returns-clause-key : goal.returns-clause-key
returns-clause-key c =
    let skips = skips_of c.args.cache c.args.upstream.now.caches in
    key_sent c.cleared_is_laid.ensures skips c.args.kind c.args.no_recurse c.args.bytes.now c.clear_if.new.bytes c.in_ok-octets.field-0 c.clear_if.ensures
    (made_of skips c.args.kind c.clear_if.new.bytes c.key_by_list-key.result c.in_ok-octets.field-0 (c.branch-octets.ensures ∙ ap result_from_control_flow c.in_ok-octets.is) c.key_by_list-key.ensures)

pub returns-clause-name : goal.returns-clause-name
returns-clause-name c =
    let skips = skips_of c.args.cache c.args.upstream.now.caches in
    named_sent c.key_has_name.ensures c.cleared_is_laid.ensures skips c.args.kind c.args.no_recurse c.args.bytes.now c.clear_if.new.bytes c.args.view.now c.in_ok-octets.field-0 c.requires.view c.clear_if.ensures
    (made_of skips c.args.kind c.clear_if.new.bytes c.key_by_list-key.result c.in_ok-octets.field-0 (c.branch-octets.ensures ∙ ap result_from_control_flow c.in_ok-octets.is) c.key_by_list-key.ensures)
