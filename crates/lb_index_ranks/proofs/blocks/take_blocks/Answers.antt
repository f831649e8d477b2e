use Rattle.std.proofs.Common.{rules, ◌≡◌, ◌<◌, length, ◌≤◌, ◌-◌, ◌++◌, drop, take, ℕ, ◌+◌, List, [], ◌∷◌, ap, sym, ◌∙◌, arith, take-append-drop}
use Rattle.lb_index_ranks.specs.declared.filed.Filed.{Filed}
use Rattle.lb_index_ranks.proofs.Edges.{taken_left, taken_more}
use Rattle.lb_index_ranks.proofs.blocks.take_blocks.Goals as goal

pub moved-init : goal.moved-init
moved-init c =
    let bs = c.args.blocks.now.items in
    let none : 0 ≡ c.args.from - c.args.from = omega arith in (
      sym (take-append-drop c.args.from bs),
      c.in_ok-cut.ensures.items ∙ ap (λ (n : ℕ). take n (drop c.args.from bs)) none,
      omega arith,
      c.requires.order,
      omega (arith, c.in_ok-cut.ensures.len, c.in_ok-cut.ensures.capacity),
      omega arith,
    )

pub remove-requires : goal.remove-requires
remove-requires c = omega (arith, c.moved.invariant.5, c.moved.invariant.2, c.moved-test.true, c.requires.within)

pub push_reserved-requires : goal.push_reserved-requires
push_reserved-requires c = omega (arith, c.moved.invariant.4, c.moved-test.true)

pub moved-preserved : goal.moved-preserved
moved-preserved c =
    let bs = c.args.blocks.now.items in
    let i = c.args.from in
    let n = c.moved.counter - c.args.from in
    let low : i ≤ c.moved.counter = c.moved.invariant.2 in
    let at : c.moved.counter ≡ i + n = omega (arith, low) in
    let lt : i + n < length bs = omega (arith, low, c.moved-test.true, c.requires.within) in
    let next : i + (n + 1) ≡ c.moved.counter + 1 = omega (arith, low) in
    let more : n + 1 ≡ c.moved.counter + 1 - i = omega (arith, low) in
    let was : c.moved.blocks.items ≡ take i bs ++ drop (i + n) bs = c.moved.invariant.0 ∙ ap (λ (j : ℕ). take i bs ++ drop j bs) at in (
      taken_left bs c.moved.blocks.items c.remove.new.self.items i n was lt c.remove.ensures.by_index.2 ∙ ap (λ (j : ℕ). take i bs ++ drop j bs) next,
      c.push_reserved.ensures.items ∙ taken_more bs c.moved.blocks.items c.moved.cut.items i n c.remove.result was lt c.moved.invariant.1 c.remove.ensures.value
          ∙ ap (λ (j : ℕ). take j (drop i bs)) more,
      omega (arith, low),
      omega (arith, c.moved-test.true),
      omega (arith, c.push_reserved.ensures.len, c.push_reserved.ensures.capacity, c.moved.invariant.4, c.moved-test.true),
      omega (arith, c.remove.ensures.len, c.moved.invariant.5, low),
    )

pub returns-clause-taken : goal.returns-clause-taken
returns-clause-taken c =
    let le : c.moved.counter ≤ c.args.to = c.moved.invariant.3 in
    let end : c.moved.counter ≡ c.args.to = omega (arith, le, c.moved-test.false) in
    c.moved.invariant.1 ∙ ap (λ (j : ℕ). take (j - c.args.from) (drop c.args.from c.args.blocks.now.items)) end

pub returns-clause-left : goal.returns-clause-left
returns-clause-left c =
    let le : c.moved.counter ≤ c.args.to = c.moved.invariant.3 in
    let end : c.moved.counter ≡ c.args.to = omega (arith, le, c.moved-test.false) in
    c.moved.invariant.0 ∙ ap (λ (j : ℕ). take c.args.from c.args.blocks.now.items ++ drop j c.args.blocks.now.items) end
