use Rattle.std.proofs.Common.{sym, subst, List, ℕ}
use Rattle.lb_wire.specs.Reply.{Replies}
use Rattle.lb_step.proofs.Delivered.{named_as_key}
use Rattle.lb_step.proofs.reply.keep_and_deliver.Goals as goal

pub keep-kept-requires-clause-key : goal.keep-kept-requires-clause-key
keep-kept-requires-clause-key c =
    named_as_key c.splits_back.ensures c.as_slice.result.now c.args.view.now c.args.entry.now c.args.entry.now.cache
    (subst (λ (bytes : List ℕ). Replies bytes c.args.view.now) (sym c.as_slice.ensures.value) c.requires.reads) c.requires.same c.requires.asked.key
