use Rattle.std.proofs.Common.{ap, ◌∙◌, rules}
use Rattle.std.proofs.lemmas.List.{nil_from_length}
use Rattle.form_urlencoded.specs.Form.{decode}
use Rattle.percent_encoding.proofs.PercentLemmas.{percent_decode-nil}
use Rattle.lb_doh_message.proofs.form.first_octet.Goals as goal

pub returns-in_err-first-clause-none : goal.returns-in_err-first-clause-none
returns-in_err-first-clause-none c =
    rw c.from_residual.ensures (ap decode (nil_from_length c.args.raw.now (search rules)) ∙ percent_decode-nil)
