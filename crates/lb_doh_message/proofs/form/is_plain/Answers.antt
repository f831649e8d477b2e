use Rattle.std.proofs.Common.{rules}
use Rattle.form_urlencoded.proofs.FormLemmas.{decode_plain}
use Rattle.lb_doh_message.proofs.form.is_plain.Goals as goal

pub returns : goal.returns
returns c = λ all. decode_plain c.args.raw.now (search rules)
