-- What counts of the passes that buckets hold.
use Rattle.std.proofs.Common.{◌≡◌, Bool, true, false, not, ℕ, suc, ◌+◌, ◌≤◌, List, [], ◌∷◌, ◌++◌, length, get_or, map, cond, inl, inr, refl, sym, ◌∙◌, ap, arith, nat_lt, length-append}
use Rattle.std.specs.List.{filter, All}
use Rattle.std.specs.Set.{is_member, distinct_count}
use Rattle.std.proofs.lemmas.Bool.{cases_Bool}
use Rattle.std.proofs.lemmas.List.{map-append}
use Rattle.std.proofs.lemmas.List.Elements.{All-head, All-tail, filter-append}
use Rattle.std.proofs.lemmas.List.Sums.{sum_by-cons}
use Rattle.lb_wire.specs.declared.addr.Addr.{Addr}
use Rattle.lb_limits.specs.declared.pass.Pass.{Pass}
use Rattle.lb_limits.specs.declared.bucket.Bucket.{Bucket}
use Rattle.lb_limits.specs.Order.{same_addr}
use Rattle.lb_limits.specs.Window.{recent_passes, in_window, live_of}
use Rattle.lb_limits.specs.Moments.{is_recent, recent_of}
use Rattle.lb_limits.specs.Buckets.{pass_of, bucket_passes, held_at, window_in, window_count, is_live, live_count, Ascends, is_below}
use Rattle.lb_limits.proofs.Addresses.{less_differs}
use Rattle.lb_limits.proofs.PutKey.{same_decides}
use Rattle.lb_limits.proofs.Recent.{recent_twice, positive}
use Rattle.lb_limits.proofs.Pairs.{pairs_head, pairs_tail}

recent_map : (now : ℕ) (source : Addr) (ms : List ℕ) → recent_passes now (map (pass_of source) ms) ≡ map (pass_of source) (recent_of now ms)
recent_map now source [] = refl
recent_map now source (m ∷ ms) = elim (cases_Bool (is_recent now m)) [
  | inl here ↦ rw here (ap (λ (ps : List Pass). pass_of source m ∷ ps) (recent_map now source ms))
  | inr old ↦ rw old (recent_map now source ms)
]

recent_bucket : (m now : ℕ) (b : Bucket) → m ≤ now → recent_passes now (bucket_passes m b) ≡ bucket_passes now b
recent_bucket m now b le = recent_map now b.source (recent_of m b.moments.items) ∙ ap (λ (ms : List ℕ). map (pass_of b.source) ms) (recent_twice m now b.moments.items le)

-- what counts later of what counts earlier
pub recent_held : (m now : ℕ) (bs : List Bucket) → m ≤ now → recent_passes now (held_at m bs) ≡ held_at now bs
recent_held m now [] le = refl
recent_held m now (b ∷ bs) le =
    filter-append (λ (pass : Pass). is_recent now pass.moment) (bucket_passes m b) (held_at m bs)
    ∙ ap (λ (ps : List Pass). ps ++ recent_passes now (held_at m bs)) (recent_bucket m now b le)
    ∙ ap (λ (ps : List Pass). bucket_passes now b ++ ps) (recent_held m now bs le)

own_count : (key source : Addr) (ms : List ℕ) → length (filter (λ pass. same_addr key pass.source) (map (pass_of source) ms)) ≡ cond (same_addr key source) (length ms) 0
own_count key source [] = elim (cases_Bool (same_addr key source)) [ inl own ↦ rw own refl | inr other ↦ rw other refl ]
own_count key source (m ∷ ms) =
    let rest = own_count key source ms in
    elim (cases_Bool (same_addr key source)) [
      | inl own ↦
          let all : length (filter (λ pass. same_addr key pass.source) (map (pass_of source) ms)) ≡ length ms = rw own at rest in
          rw own (ap suc all)
      | inr other ↦
          let none : length (filter (λ pass. same_addr key pass.source) (map (pass_of source) ms)) ≡ 0 = rw other at rest in
          rw other none
    ]

own_held : (key : Addr) (now : ℕ) (bs : List Bucket) → length (filter (λ pass. same_addr key pass.source) (held_at now bs)) ≡ window_count key now bs
own_held key now [] = refl
own_held key now (b ∷ bs) =
    ap (λ (ps : List Pass). length ps) (filter-append (λ pass. same_addr key pass.source) (bucket_passes now b) (held_at now bs))
    ∙ length-append (filter (λ pass. same_addr key pass.source) (bucket_passes now b)) (filter (λ pass. same_addr key pass.source) (held_at now bs))
    ∙ ap (λ (n : ℕ). n + length (filter (λ pass. same_addr key pass.source) (held_at now bs))) (own_count key b.source (recent_of now b.moments.items))
    ∙ ap (λ (n : ℕ). window_in key now b + n) (own_held key now bs)
    ∙ sym (sum_by-cons (window_in key now) b bs)

-- the window of an address is what its bucket holds
pub window_held : (key : Addr) (m now : ℕ) (bs : List Bucket) → m ≤ now → in_window key now (held_at m bs) ≡ window_count key now bs
window_held key m now bs le = ap (λ (ps : List Pass). length (filter (λ pass. same_addr key pass.source) ps)) (recent_held m now bs le) ∙ own_held key now bs

-- where no pass is of the address, all are of others
not_own : (key : Addr) (ps : List Pass) → length (filter (λ pass. same_addr key pass.source) ps) ≡ 0 → filter (λ source. not (same_addr key source)) (map (λ pass. pass.source) ps) ≡ map (λ pass. pass.source) ps
not_own key [] none = refl
not_own key (pass ∷ ps) none = elim (cases_Bool (same_addr key pass.source)) [
  | inl own ↦
      let some : suc (length (filter (λ pass. same_addr key pass.source) ps)) ≡ 0 = rw own at none in
      absurd (omega arith)
  | inr other ↦
      let rest : length (filter (λ pass. same_addr key pass.source) ps) ≡ 0 = rw other at none in
      rw other (ap (λ (sources : List Addr). pass.source ∷ sources) (not_own key ps rest))
]

absent_map : (key source : Addr) (ms : List ℕ) (zs : List Addr) → same_addr key source ≡ false → is_member same_addr (map (λ pass. pass.source) (map (pass_of source) ms) ++ zs) key ≡ is_member same_addr zs key
absent_map key source [] zs other = refl
absent_map key source (m ∷ ms) zs other = rw other (absent_map key source ms zs other)

-- an address that no bucket is of is no pass's source
absent : (key : Addr) (now : ℕ) (bs : List Bucket) → All (λ b. same_addr key b.source ≡ false) bs → is_member same_addr (map (λ pass. pass.source) (held_at now bs)) key ≡ false
absent key now [] none = refl
absent key now (b ∷ bs) none =
    ap (λ (sources : List Addr). is_member same_addr sources key) (map-append (λ (pass : Pass). pass.source) (bucket_passes now b) (held_at now bs))
    ∙ absent_map key b.source (recent_of now b.moments.items) (map (λ pass. pass.source) (held_at now bs)) (All-head (λ (c : Bucket). same_addr key c.source ≡ false) b bs none)
    ∙ absent key now bs (All-tail (λ (c : Bucket). same_addr key c.source ≡ false) b bs none)

itself : (source : Addr) → same_addr source source ≡ true
itself source = (same_decides source source).1 refl

-- the passes of one address count as one
one_source : (source : Addr) (ms : List ℕ) (zs : List Addr) → is_member same_addr zs source ≡ false → distinct_count same_addr (map (λ pass. pass.source) (map (pass_of source) ms) ++ zs) ≡ cond (nat_lt 0 (length ms)) 1 0 + distinct_count same_addr zs
one_source source [] zs new = omega arith
one_source source (m ∷ []) zs new = rw new (omega arith)
one_source source (m ∷ n ∷ ms) zs new =
    let rest : distinct_count same_addr (map (λ pass. pass.source) (map (pass_of source) (n ∷ ms)) ++ zs) ≡ cond (nat_lt 0 (length (n ∷ ms))) 1 0 + distinct_count same_addr zs = one_source source (n ∷ ms) zs new in
    let same : nat_lt 0 (length (n ∷ ms)) ≡ nat_lt 0 (length (m ∷ n ∷ ms)) = positive (length ms) ∙ sym (positive (suc (length ms))) in
    let head : distinct_count same_addr (map (λ pass. pass.source) (map (pass_of source) (m ∷ n ∷ ms)) ++ zs) ≡ distinct_count same_addr (map (λ pass. pass.source) (map (pass_of source) (n ∷ ms)) ++ zs) = rw (itself source) refl in
    head ∙ rest ∙ ap (λ (b : Bool). cond b 1 0 + distinct_count same_addr zs) same

-- as many addresses have passes that count as buckets are live
live_sources : (now : ℕ) (bs : List Bucket) → Ascends bs → distinct_count same_addr (map (λ pass. pass.source) (held_at now bs)) ≡ live_count now bs
live_sources now [] ascends = refl
live_sources now (b ∷ bs) ascends =
    let others : All (λ c. same_addr b.source c.source ≡ false) bs =
    λ k d lt. less_differs b.source (get_or bs k d).source (pairs_head (λ a c. is_below c.source a ≡ true) b bs ascends k d lt) in
    let rest : distinct_count same_addr (map (λ pass. pass.source) (held_at now bs)) ≡ live_count now bs = live_sources now bs (pairs_tail (λ a c. is_below c.source a ≡ true) b bs ascends) in
    ap (λ (sources : List Addr). distinct_count same_addr sources) (map-append (λ (pass : Pass). pass.source) (bucket_passes now b) (held_at now bs))
    ∙ one_source b.source (recent_of now b.moments.items) (map (λ pass. pass.source) (held_at now bs)) (absent b.source now bs others)
    ∙ ap (λ (n : ℕ). cond (is_live now b) 1 0 + n) rest
    ∙ sym (sum_by-cons (λ c. cond (is_live now c) 1 0) b bs)

-- where an address has no pass that counts, the others that have are the live buckets
pub live_held : (key : Addr) (m now : ℕ) (bs : List Bucket) → m ≤ now → Ascends bs → window_count key now bs ≡ 0 → live_of key now (held_at m bs) ≡ live_count now bs
live_held key m now bs le ascends none =
    ap (λ (ps : List Pass). distinct_count same_addr (filter (λ source. not (same_addr key source)) (map (λ pass. pass.source) ps))) (recent_held m now bs le)
    ∙ ap (λ (sources : List Addr). distinct_count same_addr sources) (not_own key (held_at now bs) (own_held key now bs ∙ none))
    ∙ live_sources now bs ascends
