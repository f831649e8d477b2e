-- Each step keeps the rule of the outbox.
use Rattle.std.proofs.Common.{◌≡◌, ◌≢◌, ℕ, zero, suc, Bool, true, false, true≢false, ◌⊎◌, inl, inr, List, [], ◌∷◌, ◌++◌, length, set, sym, refl, ap, ◌∙◌, subst, ⊎_elim, append_assoc, ◌&&◌, ◌||◌, if◌then◌else◌}
use mathlib.Core.Option.{some, some-ne-none}
use lib.ListN.{get_elem?}
use Rattle.crossbeam_queue.specs.Fifo.{Pushes, Pops, Forks, Merges, Learns}
use Rattle.crossbeam_queue.proofs.Lists.{at_set, at_snoc}
use Rattle.lb_outbox.specs.declared.job.Job.{Job}
use Rattle.lb_outbox.specs.declared.rule.Delivery.{Delivery}
use Rattle.lb_outbox.specs.declared.rule.Part.{Part}
use Rattle.lb_outbox.specs.declared.rule.SenderId.{SenderId}
use Rattle.lb_outbox.specs.declared.rule.SenderId.TheVariants.{One, Two}
use Rattle.lb_outbox.specs.declared.rule.View.{View}
use Rattle.lb_outbox.specs.Rule.{Delivers, Fits, FitsSender, FitsReceiver, IsSettled, alone, chosen, idle, is_sender, joined, jobs_of, delivery, nobody, part_joined, part_of, received_more, sending, sent_more, whole, with_part}

at_end : (l : List View) (a b : View) (j : ℕ) → get_elem? l j ≢ some b → get_elem? (l ++ a ∷ []) j ≡ some b → j ≡ length l
at_end [] a b zero n e = refl
at_end [] a b (suc j) n e = absurd (some-ne-none b (sym e))
at_end (x ∷ xs) a b zero n e = absurd (n e)
at_end (x ∷ xs) a b (suc j) n e = ap suc (at_end xs a b j n e)

abbrev All : (ℕ → View → Type 0) → List View → Type 0
All F views = (port : ℕ) (v : View) → get_elem? views port ≡ some v → F port v

all_set : (F : ℕ → View → Type 0) (views : List View) (port : ℕ) (w : View) → F port w → ((j : ℕ) (u : View) → j ≢ port → get_elem? views j ≡ some u → F j u) → All F (set views port w)
all_set F views port w mine others j u e = ⊎_elim (λ (x : (j ≡ port) × (w ≡ u)). subst (λ (y : ℕ × View). F y.0 y.1) (λ i. (sym x.0 i, x.1 i)) mine)
    (λ (x : (j ≢ port) × (get_elem? views j ≡ some u)). others j u x.0 x.1) (at_set views port j w u e)

-- a sender is this one or another
either : (s t : SenderId) → (t ≡ s) ⊎ (is_sender t s ≡ false)
either One One = inl refl
either Two Two = inl refl
either One Two = inr refl
either Two One = inr refl

same_is : (s : SenderId) → is_sender s s ≡ true
same_is One = refl
same_is Two = refl

-- a list of jobs, with one more where it is that sender's
abbrev grown : SenderId → Job → SenderId → List Job → List Job
grown s job t jobs = if is_sender t s then jobs ++ job ∷ [] else jobs

one_case : (s t from : SenderId) (j job : Job) (xs : List Delivery) → jobs_of t (xs ++ delivery s job ∷ []) ≡ grown s job t (jobs_of t xs)
    → jobs_of t ((delivery from j ∷ xs) ++ delivery s job ∷ []) ≡ grown s job t (jobs_of t (delivery from j ∷ xs))
one_case One One One j job xs more = ap (λ l. j ∷ l) more
one_case One One Two j job xs more = more
one_case One Two One j job xs more = more
one_case One Two Two j job xs more = ap (λ l. j ∷ l) more
one_case Two One One j job xs more = ap (λ l. j ∷ l) more
one_case Two One Two j job xs more = more
one_case Two Two One j job xs more = more
one_case Two Two Two j job xs more = ap (λ l. j ∷ l) more

first_case : (s t : SenderId) (job : Job) → jobs_of t (delivery s job ∷ []) ≡ grown s job t []
first_case One One job = refl
first_case One Two job = refl
first_case Two One job = refl
first_case Two Two job = refl

-- a delivery more
jobs_more : (s t : SenderId) (job : Job) (xs : List Delivery) → jobs_of t (xs ++ delivery s job ∷ []) ≡ grown s job t (jobs_of t xs)
jobs_more s t job [] = first_case s t job
jobs_more s t job (x ∷ xs) = one_case s t x.from x.job job xs (jobs_more s t job xs)

-- a sender's part after a send
part_more : (s t : SenderId) (job : Job) (v : View) → ((part_of t (sent_more s job v)).sends ≡ (part_of t v).sends) × ((part_of t (sent_more s job v)).sent ≡ grown s job t (part_of t v).sent)
part_more One One job v = (refl, refl)
part_more One Two job v = (refl, refl)
part_more Two One job v = (refl, refl)
part_more Two Two job v = (refl, refl)

-- another sender's list is as it was
list_apart : (s t : SenderId) (job : Job) (jobs : List Job) → is_sender t s ≡ false → jobs ≡ grown s job t jobs
list_apart s t job jobs e = sym (ap (λ (b : Bool). if b then jobs ++ job ∷ [] else jobs) e)

pub sends : (n port : ℕ) (v : View) (s : SenderId) (job : Job) → (part_of s v).sends ≡ true → Pushes Delivers n port v (delivery s job) (λ w. w ≡ sent_more s job v)
sends n port v s job may items views _ h at =
    let w : View = sent_more s job v in
    let sent : SenderId → List Job = λ t. grown s job t (h.1 t) in
    let mine = h.5 port v at in (
      w,
      (
        h.0,
        sent,
        h.2,
        h.3,
        (λ t. ap (jobs_of t) (sym (append_assoc h.3 items (delivery s job ∷ []))) ∙ jobs_more s t job (h.3 ++ items) ∙ ap (grown s job t) (h.4 t)),
        all_set (Fits h.0 sent h.2 h.3) views port w (
          (λ t p. let is = mine.0 t (sym (part_more s t job v).0 ∙ p) in (is.0, (part_more s t job v).1 ∙ ap (grown s job t) is.1)),
          mine.1,
          mine.2,
        )
            (λ j u other e. (
              (λ t p. let is = (h.5 j u e).0 t p in
                  ⊎_elim (λ (same : t ≡ s). absurd (other (is.0 ∙ ap h.0 same ∙ sym (mine.0 s may).0))) (λ (one : is_sender t s ≡ false). (is.0, is.1 ∙ list_apart s t job (h.1 t) one)) (either s t)),
              (h.5 j u e).1,
              (h.5 j u e).2,
            )),
      ),
      refl,
    )

-- a receive changes no sender's part
part_received : (t : SenderId) (x : Delivery) (v : View) → part_of t (received_more x v) ≡ part_of t v
part_received One x v = refl
part_received Two x v = refl

-- what fits of a sender's part fits of an equal one
fits_as : (seat : SenderId → ℕ) (sent : SenderId → List Job) (port : ℕ) (v w : View) (t : SenderId) → part_of t w ≡ part_of t v → FitsSender seat sent port v t → FitsSender seat sent port w t
fits_as seat sent port v w t e is p = let was = is (sym (ap (λ (q : Part). q.sends) e) ∙ p) in (was.0, ap (λ (q : Part). q.sent) e ∙ was.1)

pub receives : (port : ℕ) (v : View) → v.receives ≡ true → Pops Delivers port v (λ x w. w ≡ received_more x v)
receives port v may x items views h at =
    let w : View = received_more x v in
    let mine = h.5 port v at in
    let received = h.3 ++ x ∷ [] in (
      w,
      (
        h.0,
        h.1,
        h.2,
        received,
        (λ t. ap (jobs_of t) (append_assoc h.3 (x ∷ []) items) ∙ h.4 t),
        all_set (Fits h.0 h.1 h.2 received) views port w
            ((λ t. fits_as h.0 h.1 port v w t (part_received t x v) (mine.0 t)), (λ _. ((mine.1 may).0, ap (λ l. l ++ x ∷ []) (mine.1 may).1)), mine.2)
            (λ j u other e. ((h.5 j u e).0, (λ p. absurd (other (((h.5 j u e).1 p).0 ∙ sym (mine.1 may).0))), (h.5 j u e).2)),
      ),
      refl,
    )

-- a part that was put in
part_with : (s t : SenderId) (part : Part) (v : View) → part_of t (with_part s part v) ≡ chosen t s part (part_of t v)
part_with s One part v = refl
part_with s Two part v = refl

part_mine : (s : SenderId) (part : Part) (v : View) → part_of s (with_part s part v) ≡ part
part_mine s part v = part_with s s part v ∙ ap (λ (b : Bool). if b then part else part_of s v) (same_is s)

part_apart : (s t : SenderId) (part : Part) (v : View) → is_sender t s ≡ false → part_of t (with_part s part v) ≡ part_of t v
part_apart s t part v e = part_with s t part v ∙ ap (λ (b : Bool). if b then part else part_of t v) e

part_nobody : (t : SenderId) → part_of t nobody ≡ idle
part_nobody One = refl
part_nobody Two = refl

sends_of : (t : SenderId) (v : View) → part_of t v ≡ idle → (part_of t v).sends ≢ true
sends_of t v e p = true≢false (sym p ∙ ap (λ (q : Part). q.sends) e)

-- the pass of a sender, where that of the sender s is a new one
abbrev moved : SenderId → ℕ → (SenderId → ℕ) → SenderId → ℕ
moved s new seat t = if is_sender t s then new else seat t

pub forks : (s : SenderId) (port : ℕ) (v : View) → (part_of s v).sends ≡ true → Forks Delivers port v (with_part s idle v) (alone s (part_of s v))
forks s port v may items views h at =
    let l : View = with_part s idle v in
    let r : View = alone s (part_of s v) in
    let vs : List View = set views port l in
    let mine = h.5 port v at in
    let seat : SenderId → ℕ = moved s (length vs) h.0 in
    let Old : ℕ → View → Type 0 = λ j u. ((part_of s u).sends ≢ true) × ((t : SenderId) → is_sender t s ≡ false → FitsSender h.0 h.1 j u t) × FitsReceiver h.2 h.3 j u × (u.is_torn ≡ false) in
    let old : All Old vs = all_set Old views port l
    (sends_of s l (part_mine s idle v), (λ t e. fits_as h.0 h.1 port v l t (part_apart s t idle v e) (mine.0 t)), mine.1, mine.2)
    (λ j u other e. ((λ p. other (((h.5 j u e).0 s p).0 ∙ sym (mine.0 s may).0)), (λ t _. (h.5 j u e).0 t), (h.5 j u e).1, (h.5 j u e).2)) in (
      seat,
      h.1,
      h.2,
      h.3,
      h.4,
      λ j u e. ⊎_elim
          (λ x. let o = old j u x in (
            (λ t p. ⊎_elim (λ (same : t ≡ s). absurd (o.0 (sym (ap (λ (z : SenderId). (part_of z u).sends) same) ∙ p)))
                (λ (one : is_sender t s ≡ false). let is = o.1 t one p in (is.0 ∙ sym (ap (λ (b : Bool). if b then length vs else h.0 t) one), is.1)) (either s t)),
            o.2,
            o.3,
          ))
          (λ (is : r ≡ u). (
            (λ t p. ⊎_elim
                (λ (same : t ≡ s). (
                  at_end vs r u j (λ x. (old j u x).0 (sym (ap (λ (z : SenderId). (part_of z u).sends) same) ∙ p)) e ∙ sym (ap (λ (b : Bool). if b then length vs else h.0 t) (ap (λ (z : SenderId). is_sender z s) same ∙ same_is s)),
                  ap (λ (y : View). (part_of t y).sent) (sym is) ∙ ap (λ (z : SenderId). (part_of z r).sent) same ∙ ap (λ (q : Part). q.sent) (part_mine s (part_of s v) nobody) ∙ (mine.0 s may).1 ∙ ap h.1 (sym same),
                ))
                (λ (one : is_sender t s ≡ false). absurd (sends_of t r (part_apart s t (part_of s v) nobody one ∙ part_nobody t) (ap (λ (y : View). (part_of t y).sends) is ∙ p))) (either s t)),
            (λ p. absurd (true≢false (sym (ap (λ (y : View). y.receives) is ∙ p)))),
            ap (λ (y : View). y.is_torn) (sym is),
          )) (at_snoc vs r u j e),
    )

not_both : (a b : Bool) → (a ≡ true → b ≡ true → ⊥) → (a && b) ≡ false
not_both true true apart = absurd (apart refl refl)
not_both true false apart = refl
not_both false b apart = refl

neither : (a b : Bool) → a ≡ false → b ≡ false → (a || b) ≡ false
neither true b p q = absurd (true≢false p)
neither false b p q = q

true_or_false : (b : Bool) → (b ≡ true) ⊎ (b ≡ false)
true_or_false true = inl refl
true_or_false false = inr refl

part_of_both : (t : SenderId) (v u : View) → part_of t (joined v u) ≡ part_joined (part_of t v) (part_of t u)
part_of_both One v u = refl
part_of_both Two v u = refl

nothing : (seat : SenderId → ℕ) (sent : SenderId → List Job) (reader : ℕ) (received : List Delivery) (j : ℕ) → Fits seat sent reader received j nobody
nothing seat sent reader received j = ((λ t p. absurd (sends_of t nobody (part_nobody t) p)), (λ p. absurd (true≢false (sym p))), refl)

-- the pass of a sender, where what u may send is now sent by this pass
abbrev taken : ℕ → View → (SenderId → ℕ) → SenderId → ℕ
taken port u seat t = if (part_of t u).sends then port else seat t

pub merges : (port : ℕ) (v : View) (other : ℕ) (u : View) → Merges Delivers port v other u (joined v u) nobody
merges port v other u items views h at two at' =
    let both : View = joined v u in
    let vs : List View = set views port both in
    let was : get_elem? views other ≡ some u = ⊎_elim (λ x. absurd (two x.0)) (λ x. x.1) (at_set views port other both u at') in
    let mine = h.5 port v at in
    let theirs = h.5 other u was in
    let seat : SenderId → ℕ = taken port u h.0 in
    let clash : (s : SenderId) → ((part_of s v).sends && (part_of s u).sends) ≡ false = λ s. not_both (part_of s v).sends (part_of s u).sends (λ p q. two ((theirs.0 s q).0 ∙ sym (mine.0 s p).0)) in
    let ours : (t : SenderId) → FitsSender seat h.1 port both t = λ t p. ⊎_elim
    (λ (acts : (part_of t u).sends ≡ true). (
      sym (ap (λ (b : Bool). if b then port else h.0 t) acts),
      ap (λ (q : Part). q.sent) (part_of_both t v u) ∙ ap (λ (b : Bool). (if b then part_of t u else part_of t v).sent) acts ∙ (theirs.0 t acts).1,
    ))
    (λ (idles : (part_of t u).sends ≡ false).
    let is = mine.0 t (sym (ap (λ (q : Part). q.sends) (part_of_both t v u) ∙ ap (λ (b : Bool). (if b then part_of t u else part_of t v).sends) idles) ∙ p) in (
      is.0 ∙ sym (ap (λ (b : Bool). if b then port else h.0 t) idles),
      ap (λ (q : Part). q.sent) (part_of_both t v u) ∙ ap (λ (b : Bool). (if b then part_of t u else part_of t v).sent) idles ∙ is.1,
    ))
    (true_or_false (part_of t u).sends) in
    let Now : ℕ → View → Type 0 = λ j y. j ≢ other → Fits seat h.1 h.2 h.3 j y in
    let now : All Now vs = all_set Now views port both (λ _. (ours, mine.1, neither (v.one.sends && u.one.sends) (v.two.sends && u.two.sends) (clash One) (clash Two)))
    (λ j y _ e apart. (
      (λ t p. let is = (h.5 j y e).0 t p in ⊎_elim (λ (acts : (part_of t u).sends ≡ true). absurd (apart (is.0 ∙ sym (theirs.0 t acts).0)))
          (λ (idles : (part_of t u).sends ≡ false). (is.0 ∙ sym (ap (λ (b : Bool). if b then port else h.0 t) idles), is.1)) (true_or_false (part_of t u).sends)),
      (h.5 j y e).1,
      (h.5 j y e).2,
    )) in
    (seat, h.1, h.2, h.3, h.4, all_set (Fits seat h.1 h.2 h.3) vs other nobody (nothing seat h.1 h.2 h.3 other) (λ j y apart e. now j y e apart))

pub settles : (port : ℕ) (v : View) → Learns Delivers port v (IsSettled v)
settles port v items views h at =
    let mine = h.5 port v at in
    ((λ s p q. ap (λ l. jobs_of s (l ++ items)) (mine.1 q).1 ∙ h.4 s ∙ sym (mine.0 s p).1), mine.2)

whole_sent : (s : SenderId) → (part_of s whole).sent ≡ []
whole_sent One = refl
whole_sent Two = refl

pub begins : Delivers [] (whole ∷ [])
begins = (
  (λ s. 0),
  (λ s. []),
  0,
  [],
  (λ s. refl),
  all_set (Fits (λ s. 0) (λ s. []) 0 []) (whole ∷ []) 0 whole ((λ s _. (refl, whole_sent s)), (λ _. (refl, refl)), refl)
      (λ j u other e. absurd (other (at_end [] _ u j (λ x. some-ne-none u (sym x)) e))),
)
