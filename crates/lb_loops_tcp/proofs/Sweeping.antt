-- Connections whose time is over, closed one after the other.
use Rattle.std.proofs.Common.{◌≡◌, ◌≢◌, ℕ, ◌+◌, ◌⊎◌, ⊎_elim, inl, inr, Some, None, refl, sym, ap, ◌∙◌, arith}
use Rattle.std.proofs.lemmas.Bool.{cases_eq}
use Rattle.lb_loops_connections.specs.Table.{IsOverdue, Swaps, Table, at, client_count, clients}
use Rattle.lb_loops_connections.specs.declared.connection.Connection.{Connection}
use Rattle.lb_loops_tcp.specs.Links.{Net}
use Rattle.lb_loops_tcp.specs.Turn.{Sweeps}

pub sweeps_none : (now : ℕ) (a : Net) → Sweeps now a a
sweeps_none now a = record { told = refl; each = λ c. inl refl; next = refl; refusals = refl; clients = omega arith; device = refl }

pub sweeps_still : (now : ℕ) (a b : Net) → b.told ≡ a.told → b.table ≡ a.table → b.device ≡ a.device → Sweeps now a b
sweeps_still now a b told table device = record {
  told = told;
  each = λ c. inl (ap (at c) table);
  next = ap (λ (t : Table). t.next) table;
  refusals = ap (λ (t : Table). t.refusals) table;
  clients = let same = ap clients table in omega (arith, same);
  device = device;
}

-- what was closed before, where this one is closed now
each_on : (now n : ℕ) (a b c : Net) (x : Connection) → Sweeps now a b → at n b.table ≡ Some x → IsOverdue now x → at n c.table ≡ None → (k : ℕ) → k ≡ n
    → (at k c.table ≡ at k a.table) ⊎ ((at k c.table ≡ None) × ((y : Connection) × (at k a.table ≡ Some y) × IsOverdue now y))
each_on now n a b c x one was over none_here k e = inr (
  ap (λ (i : ℕ). at i c.table) e ∙ none_here,
  ⊎_elim
      (λ (same : at k b.table ≡ at k a.table). (x, sym same ∙ ap (λ (i : ℕ). at i b.table) e ∙ was, over))
      (λ (closed : (at k b.table ≡ None) × ((y : Connection) × (at k a.table ≡ Some y) × IsOverdue now y)). closed.1)
      (one.each k),
)

carried : (now : ℕ) (a b c : Net) (k : ℕ) → at k c.table ≡ at k b.table → (at k b.table ≡ at k a.table) ⊎ ((at k b.table ≡ None) × ((y : Connection) × (at k a.table ≡ Some y) × IsOverdue now y))
    → (at k c.table ≡ at k a.table) ⊎ ((at k c.table ≡ None) × ((y : Connection) × (at k a.table ≡ Some y) × IsOverdue now y))
carried now a b c k same (inl is) = inl (same ∙ is)
carried now a b c k same (inr closed) = inr (same ∙ closed.0, closed.1)

pub sweeps_on : (now n : ℕ) (a b c : Net) (x : Connection) → Sweeps now a b → at n b.table ≡ Some x → IsOverdue now x → at n c.table ≡ None → ((k : ℕ) → k ≢ n → at k c.table ≡ at k b.table)
    → clients c.table + client_count x ≡ clients b.table → c.table.next ≡ b.table.next → c.table.refusals ≡ b.table.refusals → c.told ≡ b.told → c.device ≡ b.device → Sweeps now a c
sweeps_on now n a b c x one was over none_here others few next refusals told device =
    let before = one.clients in
    record {
      told = told ∙ one.told;
      each = λ k. ⊎_elim (λ (e : k ≡ n). each_on now n a b c x one was over none_here k e) (λ (apart : k ≢ n). carried now a b c k (others k apart) (one.each k)) (cases_eq k n);
      next = next ∙ one.next;
      refusals = refusals ∙ one.refusals;
      clients = omega (arith, few, before);
      device = device ∙ one.device;
    }

-- one that was looked at and put back
pub sweeps_back : (now n : ℕ) (a b c : Net) (x : Connection) → Sweeps now a b → Swaps n b.table c.table x x → c.told ≡ b.told → c.device ≡ b.device → Sweeps now a c
sweeps_back now n a b c x one swap told device =
    let before = one.clients in let few = swap.clients in
    record {
      told = told ∙ one.told;
      each = λ k. carried now a b c k (⊎_elim (λ (e : k ≡ n). ap (λ (i : ℕ). at i c.table) e ∙ swap.is ∙ sym swap.was ∙ sym (ap (λ (i : ℕ). at i b.table) e)) (λ (apart : k ≢ n). swap.others k apart) (cases_eq k n)) (one.each k);
      next = swap.next ∙ one.next;
      refusals = swap.refusals ∙ one.refusals;
      clients = omega (arith, few, before);
      device = device ∙ one.device;
    }
