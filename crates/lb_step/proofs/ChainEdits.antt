-- Edits of rules as they are seen at a moment are the edits of the rules, seen then.
use Rattle.std.proofs.Common.{◌≡◌, ℕ, suc, ◌+◌, ◌^◌, Bool, true, false, IsTrue, List, [], ◌∷◌, length, map, take, drop, Option, None, Some, Result, Err, Ok, nat_le, nat_lt, ◌==◌, refl, sym, ◌∙◌, ap, arith}
use Rattle.std.specs.Prelude.{slice_get, option_map, if◌then◌else◌}
use Rattle.std.specs.List.{insert, remove, position_or_len}
use Rattle.std.proofs.lemmas.List.{length-map, map-append, take-map, drop-map}
use Rattle.std.proofs.lemmas.Option.{slice_get-map}
use Rattle.lb_wire.specs.declared.ids.RuleId.{RuleId}
use Rattle.lb_terms.specs.Truth.{limiters_of}
use Rattle.lb_chain.specs.declared.numbered.Numbered.{Numbered}
use Rattle.lb_chain.specs.declared.rule.Rule.{Rule}
use Rattle.lb_chain.specs.declared.fault.ChainFault.{ChainFault}
use Rattle.lb_chain.specs.declared.fault.ChainFault.TheVariants as faults
use Rattle.lb_chain.specs.Edits.{Rules, added, removed, removed_at, moved, moved_at, put_again, place_of, numbered_of, limiters_in, lacks, max_rules, max_limiters}
use Rattle.lb_chain.specs.Seen.{seen_limits, seen_rules, SeenTwice}
use Rattle.lb_chain.specs.Edits.{no_rules}
use Rattle.lb_servers.specs.Pool.{pool_named}
use Rattle.lb_step.specs.declared.answer.Answer.{Answer}
use Rattle.lb_step.specs.declared.answer.Note.{Note}
use Rattle.lb_step.specs.declared.command.StatedRule.{StatedRule}
use Rattle.lb_step.specs.Answer.{marked}
use Rattle.lb_step.specs.Plain.{Plain, plain_of, chain_of}
use Rattle.lb_step.specs.Upstream.{Upstreams}
use Rattle.lb_step.specs.declared.answer.Answer.TheVariants.{Edited, Refused}
use Rattle.lb_step.specs.declared.answer.EditFault.TheVariants.{Rules as RulesFault}
use Rattle.lb_step.specs.declared.answer.Note.TheVariants.{RuleAdded, RuleRemoved, RuleMoved}
use Rattle.lb_step.specs.declared.command.Command.TheVariants.{RuleAdd, RuleRemove, RuleMove}
use Rattle.lb_step.specs.Edit.{edit_of, place_or_end, rule_added, rule_by, rules_told, MayLackAt}

pub false_true : false ≡ true → ⊥
false_true is = cc is

-- a rule at a moment
abbrev seen_rule : ℕ → Numbered → Numbered
seen_rule m n = record n { limits = map (seen_limits m) n.limits }

map_insert : {X Y : Type 0} (f : X → Y) (xs : List X) (i : ℕ) (x : X) → map f (insert xs i x) ≡ insert (map f xs) i (f x)
map_insert f xs i x = rw (map-append f (take i xs) (x ∷ drop i xs), take-map f i xs, drop-map f i xs) refl

map_remove : {X Y : Type 0} (f : X → Y) (xs : List X) (i : ℕ) → map f (remove xs i) ≡ remove (map f xs) i
map_remove f xs i = rw (map-append f (take i xs) (drop (suc i) xs), take-map f i xs, drop-map f (suc i) xs) refl

-- the limiters of rules are as many when they are seen
limiters_seen : (m : ℕ) (rules : List Numbered) → limiters_in (seen_rules m rules) ≡ limiters_in rules
limiters_seen m [] = refl
limiters_seen m (n ∷ rules) = rw (length-map n.limits (seen_limits m), limiters_seen m rules) refl

-- a rule stands at its place when it is seen
where_seen : (m id : ℕ) (rules : List Numbered) → position_or_len (λ n. n.id.0 == id) (seen_rules m rules) ≡ position_or_len (λ n. n.id.0 == id) rules
where_seen m id [] = refl
where_seen m id (n ∷ rules) = rw (where_seen m id rules) refl

place_seen : (m : ℕ) (id : RuleId) (rules : List Numbered) → place_of id (seen_rules m rules) ≡ place_of id rules
place_seen m id rules = rw (where_seen m id.0 rules, length-map rules (seen_rule m)) refl

seen_insert : SeenTwice → (m : ℕ) (rules : List Numbered) (at : ℕ) (n : Numbered) → seen_rules m (insert (seen_rules m rules) at n) ≡ seen_rules m (insert rules at n)
seen_insert twice m rules at n =
    map_insert (seen_rule m) (seen_rules m rules) at n
    ∙ ap (λ (rs : List Numbered). insert rs at (seen_rule m n)) (twice m m rules (omega arith))
    ∙ sym (map_insert (seen_rule m) rules at n)

seen_remove : SeenTwice → (m : ℕ) (rules : List Numbered) (at : ℕ) → seen_rules m (remove (seen_rules m rules) at) ≡ seen_rules m (remove rules at)
seen_remove twice m rules at =
    map_remove (seen_rule m) (seen_rules m rules) at
    ∙ ap (λ (rs : List Numbered). remove rs at) (twice m m rules (omega arith))
    ∙ sym (map_remove (seen_rule m) rules at)

-- a rule seen twice
rule_twice : SeenTwice → (m : ℕ) (n : Numbered) → seen_rule m (seen_rule m n) ≡ seen_rule m n
rule_twice twice m n =
    let both : seen_rule m (seen_rule m n) ∷ [] ≡ seen_rule m n ∷ [] = twice m m (n ∷ []) (omega arith) in
    cc both

seen_put : SeenTwice → (m : ℕ) (rules : List Numbered) (at place : ℕ) (found : Option Numbered) →
    seen_rules m (put_again (seen_rules m rules) at place (option_map (seen_rule m) found)) ≡ seen_rules m (put_again rules at place found)
seen_put twice m rules at place None = twice m m rules (omega arith)
seen_put twice m rules at place (Some n) =
    map_insert (seen_rule m) (remove (seen_rules m rules) at) place (seen_rule m n)
    ∙ ap (λ (rs : List Numbered). insert rs place (seen_rule m (seen_rule m n))) (seen_remove twice m rules at)
    ∙ ap (λ (n : Numbered). insert (seen_rules m (remove rules at)) place n) (rule_twice twice m n)
    ∙ sym (map_insert (seen_rule m) (remove rules at) place n)

-- what is left and answered goes by the rules as they are seen
abbrev pub left_and_told : ℕ → Upstreams → ℕ → Answer → List Numbered → Plain × Answer
left_and_told m ups next answer seen = (record (plain_of m no_rules ups) { next_rule = next; rules = seen }, answer)

-- an edit of the chain of a state
abbrev edited : {A : Type 0} → ℕ → Upstreams → (A → Note) → Rules × Result A ChainFault → Plain × Answer
edited m ups note done = (plain_of m done.0 ups, rules_told note done.1)

-- an edit by cases
choose : {A : Type 0} (m : ℕ) (ups : Upstreams) (note : A → Note) (b : Bool) (x y u v : Rules × Result A ChainFault) → edited m ups note x ≡ edited m ups note u → edited m ups note y ≡ edited m ups note v →
    edited m ups note (if b then x else y) ≡ edited m ups note (if b then u else v)
choose m ups note true x y u v first second = first
choose m ups note false x y u v first second = second

-- a refused edit
seen_refused : {A : Type 0} → SeenTwice → (m : ℕ) (ups : Upstreams) (chain : Rules) (note : A → Note) (fault : ChainFault) →
    edited m ups note (chain_of (plain_of m chain ups), Err fault) ≡ edited m ups note (chain, Err fault)
seen_refused twice m ups chain note fault = ap (left_and_told m ups chain.next (rules_told note (Err fault))) (twice m m chain.rules (omega arith))

seen_added : SeenTwice → (lacking : Bool) (m : ℕ) (ups : Upstreams) (chain : Rules) (place : ℕ) (rule : Rule) (note : RuleId → Note) →
    edited m ups note (added lacking (chain_of (plain_of m chain ups)) place rule) ≡ edited m ups note (added lacking chain place rule)
seen_added twice lacking m ups chain place rule note =
    let refuse : (fault : ChainFault) → edited m ups note (chain_of (plain_of m chain ups), Err fault) ≡ edited m ups note (chain, Err fault) = seen_refused twice m ups chain note in
    let done : edited m ups note (record (chain_of (plain_of m chain ups)) { next = chain.next + 1; rules = insert (seen_rules m chain.rules) place (numbered_of chain.next rule) }, Ok (record { 0 = chain.next })) ≡ edited m ups note (record chain { next = chain.next + 1; rules = insert chain.rules place (numbered_of chain.next rule) }, Ok (record { 0 = chain.next })) =
    ap (left_and_told m ups (chain.next + 1) (rules_told note (Ok (record { 0 = chain.next })))) (seen_insert twice m chain.rules place (numbered_of chain.next rule)) in
    rw (length-map chain.rules (seen_rule m), limiters_seen m chain.rules)
    (choose m ups note (nat_lt (length chain.rules) place) _ _ _ _ (refuse faults.BadPlace)
    (choose m ups note (nat_le max_rules (length chain.rules)) _ _ _ _ (refuse faults.TooManyRules)
    (choose m ups note (nat_lt max_limiters (limiters_in chain.rules + limiters_of rule.term)) _ _ _ _ (refuse faults.TooManyLimiters)
    (choose m ups note (chain.next == 2 ^ 64) _ _ _ _ (refuse faults.NoMoreIds)
    (choose m ups note lacking _ _ _ _ (refuse faults.NoMemory) done)))))

-- a rule that is added after the others
same_end : (m : ℕ) (place : Option ℕ) (rules : List Numbered) → place_or_end place (seen_rules m rules) ≡ place_or_end place rules
same_end m None rules = length-map rules (seen_rule m)
same_end m (Some place) rules = refl

seen_removed_at : SeenTwice → (m : ℕ) (ups : Upstreams) (chain : Rules) (note : Unit {0} → Note) (at : Option ℕ) →
    edited m ups note (removed_at (chain_of (plain_of m chain ups)) at) ≡ edited m ups note (removed_at chain at)
seen_removed_at twice m ups chain note None = seen_refused twice m ups chain note faults.NoSuchRule
seen_removed_at twice m ups chain note (Some at) = ap (left_and_told m ups chain.next (rules_told note (Ok tt))) (seen_remove twice m chain.rules at)

seen_removed : SeenTwice → (m : ℕ) (ups : Upstreams) (chain : Rules) (id : RuleId) (note : Unit {0} → Note) →
    edited m ups note (removed (chain_of (plain_of m chain ups)) id) ≡ edited m ups note (removed chain id)
seen_removed twice m ups chain id note = rw (place_seen m id chain.rules) (seen_removed_at twice m ups chain note (place_of id chain.rules))

seen_moved_at : SeenTwice → (lacking : Bool) (m : ℕ) (ups : Upstreams) (chain : Rules) (place : ℕ) (note : Unit {0} → Note) (at : Option ℕ) →
    edited m ups note (moved_at lacking (chain_of (plain_of m chain ups)) place at) ≡ edited m ups note (moved_at lacking chain place at)
seen_moved_at twice lacking m ups chain place note None = seen_refused twice m ups chain note faults.NoSuchRule
seen_moved_at twice lacking m ups chain place note (Some at) =
    let refuse : (fault : ChainFault) → edited m ups note (chain_of (plain_of m chain ups), Err fault) ≡ edited m ups note (chain, Err fault) = seen_refused twice m ups chain note in
    let done : edited m ups note (record (chain_of (plain_of m chain ups)) { rules = put_again (seen_rules m chain.rules) at place (option_map (seen_rule m) (slice_get chain.rules at)) }, Ok tt) ≡ edited m ups note (record chain { rules = put_again chain.rules at place (slice_get chain.rules at) }, Ok tt) =
    ap (left_and_told m ups chain.next (rules_told note (Ok tt))) (seen_put twice m chain.rules at place (slice_get chain.rules at)) in
    rw (length-map chain.rules (seen_rule m), slice_get-map (seen_rule m) chain.rules at)
    (choose m ups note (nat_le (length chain.rules) place) _ _ _ _ (refuse faults.BadPlace)
    (choose m ups note lacking _ _ _ _ (refuse faults.NoMemory) done))

seen_moved : SeenTwice → (lacking : Bool) (m : ℕ) (ups : Upstreams) (chain : Rules) (id : RuleId) (place : ℕ) (note : Unit {0} → Note) →
    edited m ups note (moved lacking (chain_of (plain_of m chain ups)) id place) ≡ edited m ups note (moved lacking chain id place)
seen_moved twice lacking m ups chain id place note = rw (place_seen m id chain.rules) (seen_moved_at twice lacking m ups chain place note (place_of id chain.rules))

-- a refusal by the list of rules shows lack of memory where the chain told of it
pub same_mark : (A : Type 0) (fault : ChainFault) → marked (Refused (RulesFault fault)) ≡ lacks {A = A} (Err fault)
same_mark A faults.NoSuchRule = refl
same_mark A faults.BadPlace = refl
same_mark A faults.TooManyRules = refl
same_mark A faults.TooManyLimiters = refl
same_mark A faults.NoMemory = refl
same_mark A faults.NoMoreIds = refl

-- an added rule
pub add_told : SeenTwice → (lacking : Bool) (m : ℕ) (ups : Upstreams) (old : Rules) (at : Option ℕ) (place : ℕ) (rule : Rule) (done : Rules × Result RuleId ChainFault) →
    place ≡ place_or_end at old.rules → done ≡ added lacking old place rule → edited m ups RuleAdded done ≡ rule_added lacking (plain_of m old ups) at (Some rule)
add_told twice lacking m ups old at place rule done there is =
    let ended : place ≡ place_or_end at (seen_rules m old.rules) = there ∙ sym (same_end m at old.rules) in
    ap (edited m ups RuleAdded) is
    ∙ sym (seen_added twice lacking m ups old place rule RuleAdded)
    ∙ ap (λ (p : ℕ). edited m ups RuleAdded (added lacking (chain_of (plain_of m old ups)) p rule)) ended

-- a removed rule
pub remove_told : SeenTwice → (mark : Bool) (m : ℕ) (ups : Upstreams) (old : Rules) (id : RuleId) (done : Rules × Result (Unit {0}) ChainFault) →
    done ≡ removed old id → edited m ups (λ _. RuleRemoved id) done ≡ edit_of mark (plain_of m old ups) (RuleRemove id)
remove_told twice mark m ups old id done is =
    ap (edited m ups (λ _. RuleRemoved id)) is ∙ sym (seen_removed twice m ups old id (λ _. RuleRemoved id))

-- a moved rule
pub move_told : SeenTwice → (lacking : Bool) (m : ℕ) (ups : Upstreams) (old : Rules) (id : RuleId) (place : ℕ) (done : Rules × Result (Unit {0}) ChainFault) →
    done ≡ moved lacking old id place → edited m ups (λ _. RuleMoved id) done ≡ edit_of lacking (plain_of m old ups) (RuleMove id place)
move_told twice lacking m ups old id place done is =
    ap (edited m ups (λ _. RuleMoved id)) is ∙ sym (seen_moved twice lacking m ups old id place (λ _. RuleMoved id))

-- a refusal that is not for lack of memory comes with and without it
unlock : {A : Type 0} (b : Bool) (chain : Rules) (fault : ChainFault) (x y : Rules × Result A ChainFault) (given : A) →
    lacks {A = A} (Err fault) ≡ false →
    (if b then (chain, Err fault) else x).1 ≡ Err faults.NoMemory → (x.1 ≡ Err faults.NoMemory → y.1 ≡ Ok given) → (if b then (chain, Err fault) else y).1 ≡ Ok given
unlock {A} true chain fault x y given other is rest = absurd (false_true (sym other ∙ ap (lacks {A = A}) is))
unlock false chain fault x y given other is rest = rest is

add_lacks : (chain : Rules) (place : ℕ) (rule : Rule) → (added true chain place rule).1 ≡ Err faults.NoMemory → (added false chain place rule).1 ≡ Ok (record { 0 = chain.next })
add_lacks chain place rule is =
    unlock (nat_lt (length chain.rules) place) chain faults.BadPlace _ _ (record { 0 = chain.next }) refl is
    (λ is. unlock (nat_le max_rules (length chain.rules)) chain faults.TooManyRules _ _ (record { 0 = chain.next }) refl is
    (λ is. unlock (nat_lt max_limiters (limiters_in chain.rules + limiters_of rule.term)) chain faults.TooManyLimiters _ _ (record { 0 = chain.next }) refl is
    (λ is. unlock (chain.next == 2 ^ 64) chain faults.NoMoreIds _ _ (record { 0 = chain.next }) refl is (λ is. refl))))

move_lacks : (chain : Rules) (place : ℕ) (at : Option ℕ) → (moved_at true chain place at).1 ≡ Err faults.NoMemory → (moved_at false chain place at).1 ≡ Ok tt
move_lacks chain place None is = absurd (false_true (ap (lacks {A = Unit {0}}) is))
move_lacks chain place (Some at) is = unlock (nat_le (length chain.rules) place) chain faults.BadPlace _ _ tt refl is (λ is. refl)

-- where the chain lacked memory for a rule, no other refusal meets it
pub may_add : SeenTwice → (m : ℕ) (ups : Upstreams) (old new : Rules) (at : Option ℕ) (place : ℕ) (stated : StatedRule) (rule : Rule) (fault : ChainFault) →
    rule_by (pool_named ups.pools) stated ≡ Some rule → place ≡ place_or_end at old.rules → (new, Err fault) ≡ added (lacks {A = RuleId} (Err fault)) old place rule → IsTrue (marked (Refused (RulesFault fault))) →
    MayLackAt (plain_of m old ups) (RuleAdd at stated)
may_add twice m ups old new at place stated rule faults.NoMemory named there is mark =
    let done : (added false old place rule).1 ≡ Ok (record { 0 = old.next }) = add_lacks old place rule (sym (ap (λ (p : Rules × Result RuleId ChainFault). p.1) is)) in
    let told : (edited m ups RuleAdded (added false old place rule)).1 ≡ Edited (RuleAdded (record { 0 = old.next })) = ap (rules_told RuleAdded) done in
    let same : edited m ups RuleAdded (added false old place rule) ≡ rule_added false (plain_of m old ups) at (Some rule) = add_told twice false m ups old at place rule (added false old place rule) there refl in
    let whole : edit_of false (plain_of m old ups) (RuleAdd at stated) ≡ rule_added false (plain_of m old ups) at (Some rule) = ap (rule_added false (plain_of m old ups) at) named in
    (RuleAdded (record { 0 = old.next }), ap (λ (p : Plain × Answer). p.1) (whole ∙ sym same) ∙ told)
may_add twice m ups old new at place stated rule faults.NoSuchRule named there is mark = absurd (false_true mark)
may_add twice m ups old new at place stated rule faults.BadPlace named there is mark = absurd (false_true mark)
may_add twice m ups old new at place stated rule faults.TooManyRules named there is mark = absurd (false_true mark)
may_add twice m ups old new at place stated rule faults.TooManyLimiters named there is mark = absurd (false_true mark)
may_add twice m ups old new at place stated rule faults.NoMoreIds named there is mark = absurd (false_true mark)

pub may_move : SeenTwice → (m : ℕ) (ups : Upstreams) (old new : Rules) (id : RuleId) (place : ℕ) (fault : ChainFault) →
    (new, Err fault) ≡ moved (lacks {A = Unit {0}} (Err fault)) old id place → IsTrue (marked (Refused (RulesFault fault))) →
    MayLackAt (plain_of m old ups) (RuleMove id place)
may_move twice m ups old new id place faults.NoMemory is mark =
    let done : (moved false old id place).1 ≡ Ok tt = move_lacks old place (place_of id old.rules) (sym (ap (λ (p : Rules × Result (Unit {0}) ChainFault). p.1) is)) in
    let told : (edited m ups (λ _. RuleMoved id) (moved false old id place)).1 ≡ Edited (RuleMoved id) = ap (rules_told (λ (_ : Unit {0}). RuleMoved id)) done in
    let same : edited m ups (λ _. RuleMoved id) (moved false old id place) ≡ edit_of false (plain_of m old ups) (RuleMove id place) = move_told twice false m ups old id place (moved false old id place) refl in
    (RuleMoved id, sym (ap (λ (p : Plain × Answer). p.1) same) ∙ told)
may_move twice m ups old new id place faults.NoSuchRule is mark = absurd (false_true mark)
may_move twice m ups old new id place faults.BadPlace is mark = absurd (false_true mark)
may_move twice m ups old new id place faults.TooManyRules is mark = absurd (false_true mark)
may_move twice m ups old new id place faults.TooManyLimiters is mark = absurd (false_true mark)
may_move twice m ups old new id place faults.NoMoreIds is mark = absurd (false_true mark)
