use Rattle.std.proofs.Common.{All, List, arith, length, refl, rules, subst, sum_by, sym, ◌∙◌, ◌≡◌, ◌≤◌}
use Rattle.std.proofs.Math.Logic.{∥∥₁_map}
use Rattle.lb_desk.specs.declared.entry.LogEntry.{LogEntry}
use Rattle.lb_desk.specs.Entry.{receipts_of}
use Rattle.lb_desk.specs.Seat.{AreAll, Seated}
use Rattle.lb_desk.proofs.Runs.{caches_told, differs, hits_told}
use Rattle.lb_desk.proofs.Whole.{as_many, whole}
use Rattle.lb_desk.proofs.desk.Desk.close.Goals as goal

pub gathered-requires-clause-some : goal.gathered-requires-clause-some
gathered-requires-clause-some g c =
    let many = as_many _ _ (c.if-not-are_all.ensures.all refl) in
    let number = c.args.self.seated in
    let len = c.as_slice.ensures.len in
    let some = c.law_of_parts.ensures.some in
    omega (arith, many, number, len, some)

pub closed-requires : goal.closed-requires
closed-requires g c =
    let many = as_many _ _ (c.if-not-are_all.ensures.all refl) in
    let number = c.args.self.seated in
    let len = c.as_slice.ensures.len in
    let law = c.law_of_parts.ensures.parts in
    let parts = c.gathered.ensures.parts in
    let apart = c.gathered.ensures.apart in
    record { parts = omega (arith, many, number, len, law, parts, apart) }

pub returns-clause-caches : goal.returns-clause-caches
returns-clause-caches g c none_outstanding none_kept =
    ∥∥₁_map c.closed.ensures.told (caches_told c.cached_answers_are_kept_replies.ensures _ _ _ _ _ none_outstanding none_kept)

pub returns-clause-hits : goal.returns-clause-hits
returns-clause-hits g c = ∥∥₁_map c.closed.ensures.told (hits_told c.hits_come_from_replies.ensures _ _ _ _ _)

-- the balancer that is dropped has more fields than a search looks through, so each fact is named
pub returns-clause-missing : goal.returns-clause-missing
returns-clause-missing g c =
    let all : AreAll g.J.Naming.seats c.args.seats.items =
    subst (λ n. AreAll n c.args.seats.items) c.args.self.seated (subst (λ (l : List Seated). AreAll c.args.self.seats l) c.as_slice.ensures.value (c.if-not-are_all.ensures.all refl)) in
    (λ none. absurd none, λ none. none all)

pub returns-clause-receipts : goal.returns-clause-receipts
returns-clause-receipts g c =
    let seats = c.args.seats.items in
    let log = c.closed.result.log.items in
    let same : c.log.result.now ≡ log = c.log.ensures ∙ sym c.closed.ensures.log in
    let agree : All (λ (s : Seated). s.receipts ≡ receipts_of s.number c.log.result.now) c.as_slice-3.result.now = c.if-not-all_agree.ensures.equal refl in
    subst (λ (those : List Seated). All (λ (s : Seated). s.receipts ≡ receipts_of s.number log) those) c.as_slice-3.ensures.value
    (subst (λ (entries : List LogEntry). All (λ (s : Seated). s.receipts ≡ receipts_of s.number entries) c.as_slice-3.result.now) same agree)

pub returns-clause-whole : goal.returns-clause-whole
returns-clause-whole g c within =
    let seats = c.args.seats.items in
    let log = c.closed.result.log.items in
    let all : AreAll g.J.Naming.seats seats =
    subst (λ n. AreAll n seats) c.args.self.seated (subst (λ (l : List Seated). AreAll c.args.self.seats l) c.as_slice.ensures.value (c.if-not-are_all.ensures.all refl)) in
    let few : All (λ (s : Seated). length s.receipts ≤ s.calls) seats = subst (λ (those : List Seated). All (λ (s : Seated). length s.receipts ≤ s.calls) those) c.as_slice-2.ensures.value c.few_receipts.ensures in
    let same : c.log.result.now ≡ log = c.log.ensures ∙ sym c.closed.ensures.log in
    let agree : All (λ (s : Seated). s.receipts ≡ receipts_of s.number c.log.result.now) c.as_slice-3.result.now = c.if-not-all_agree.ensures.equal refl in
    let kept : All (λ (s : Seated). s.receipts ≡ receipts_of s.number log) seats =
    subst (λ (those : List Seated). All (λ (s : Seated). s.receipts ≡ receipts_of s.number log) those) c.as_slice-3.ensures.value
    (subst (λ (entries : List LogEntry). All (λ (s : Seated). s.receipts ≡ receipts_of s.number entries) c.as_slice-3.result.now) same agree) in
    let filled = c.closed.ensures.filled in
    let count = c.closed.ensures.count in
    let amount = c.gathered.ensures.amount in
    let calls : sum_by (λ (s : Seated). s.calls) seats ≡ length log = omega (arith, filled, count, amount, within) in
    whole g.J.Naming.seats log seats all c.closed.ensures.seated kept few calls

pub returns-then-not-all_agree-clause-missing : goal.returns-then-not-all_agree-clause-missing
returns-then-not-all_agree-clause-missing g c =
    let all : AreAll g.J.Naming.seats c.args.seats.items =
    subst (λ n. AreAll n c.args.seats.items) c.args.self.seated (subst (λ (l : List Seated). AreAll c.args.self.seats l) c.as_slice.ensures.value (c.if-not-are_all.ensures.all refl)) in
    (λ is. absurd (differs is), λ none. absurd (none all))

pub returns-then-not-are_all-clause-missing : goal.returns-then-not-are_all-clause-missing
returns-then-not-are_all-clause-missing g c = (
  λ _ all.
      let few : AreAll c.args.self.seats c.args.seats.items = subst (λ n. AreAll n c.args.seats.items) (sym c.args.self.seated) all in
      let found = c.if-not-are_all.ensures.found (subst (λ (l : List Seated). AreAll c.args.self.seats l) (sym c.as_slice.ensures.value) few) in
      search (rules, found),
  λ _. refl,
)
