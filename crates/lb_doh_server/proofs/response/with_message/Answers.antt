use Rattle.std.proofs.Common.{rules}
use Rattle.lb_doh_server.proofs.response.with_message.Goals as goal

pub returns-clause-response : goal.returns-clause-response
returns-clause-response c =
    record {
      status = search rules;
      lines = search rules;
      body = search rules;
    }
