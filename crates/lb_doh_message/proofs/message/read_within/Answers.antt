use Rattle.std.proofs.Common.{length, take, rules}
use Rattle.form_urlencoded.specs.Form.{decode}
use Rattle.lb_doh_message.proofs.Messages.{none_within, none_like}
use Rattle.lb_doh_message.proofs.message.read_within.Goals as goal

pub returns-in_default : goal.returns-in_default
returns-in_default c = none_within c.args.value.now (length c.args.plain.now) c.requires.symbols (search rules)

pub returns-then-not-is_message : goal.returns-then-not-is_message
returns-then-not-is_message c = none_like (decode c.args.value.now) (take c.in-Some-decode_url.len c.decode_url.new.room) (search rules) (search rules)
