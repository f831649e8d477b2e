use Rattle.std.proofs.Common.{◌≡◌, ◌++◌, ◌+◌, ◌<◌, ◌≤◌, length, sym, ◌∙◌, arith, rules}
use Rattle.std.proofs.lemmas.List.{length-append}
use Rattle.lb_index_ranks.proofs.Packing.{counted_all, counted_more}
use Rattle.lb_index_ranks.proofs.front.count_of.Goals as goal

pub returns-then-len-gt-FRONT : goal.returns-then-len-gt-FRONT
returns-then-len-gt-FRONT c =
    let key = c.args.head.now ++ c.args.tail.now in
    let size : length key ≡ length c.args.head.now + length c.args.tail.now = length-append c.args.head.now c.args.tail.now in
    let more : 23 < length key = grind (arith, rules, size) in
    sym (counted_more 23 key more)

pub returns-else-len-gt-FRONT : goal.returns-else-len-gt-FRONT
returns-else-len-gt-FRONT c =
    let key = c.args.head.now ++ c.args.tail.now in
    let size : length key ≡ length c.args.head.now + length c.args.tail.now = length-append c.args.head.now c.args.tail.now in
    let few : length key ≤ 23 = grind (arith, rules, size) in
    let same : c.saturating_add-len.result ≡ length key = grind (arith, rules, size) in
    same ∙ sym (counted_all 23 key few)
