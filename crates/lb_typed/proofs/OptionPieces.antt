-- Pieces of options.
use Rattle.std.proofs.Common.{◌≡◌, ℕ, suc, ◌+◌, ◌<◌, ◌≤◌, ◌^◌, ◌==◌, Bool, true, false, if◌then◌else◌, List, [], ◌∷◌, ◌++◌, length, map, take, codes, append_assoc, refl, sym, ap, subst, ◌∙◌, arith}
use Rattle.std.specs.Prelude.{slice_index_or}
use Rattle.std.specs.Fmt.{decimal}
use Rattle.std.specs.declared.num.NonZeroU8.{NonZeroU8}
use Rattle.std.proofs.lemmas.Bool.{eq-eqb, ne_eqb}
use Rattle.lb_servers.specs.declared.pool.PoolName.{PoolName}
use Rattle.lb_command.specs.Grammar.{Choice, choice, fall, lanes, options, order, pool, resolve, rise, says, word}
use Rattle.lb_command.specs.Values.{count_of, in_range, pool_of, word_number}
use Rattle.lb_typed.specs.Options.{fall_choice, lanes_choice, order_choice, pool_choices, resolve_choice, rise_choice}
use Rattle.lb_typed.specs.Pieces.{Follows, Spells}
use Rattle.lb_typed.specs.Words.{Types}
use Rattle.lb_typed.proofs.Choices.{both, no_option, one_option}
use Rattle.lb_typed.proofs.Keywords as words
use Rattle.lb_typed.proofs.Numbers.{count, ranged, small_number}
use Rattle.lb_typed.proofs.Sets.{one_more}
use Rattle.lb_typed.proofs.Spelled.{spaced, value}

pub order_one : (n : ℕ) → n ≡ 1 → Follows (options (order_choice n)) []
order_one n is = rw (eq-eqb n 1 is) no_option

pub order_other : (n : ℕ) → (n ≡ 1 → ⊥) → n < 2 ^ 16 → Follows (options (order_choice n)) (32 ∷ (codes "order" ++ 32 ∷ decimal n))
order_other n other small = rw (ne_eqb n 1 other) (one_option (order n) (codes "order" ++ 32 ∷ decimal n) (spaced (word (codes "order")) (says word_number n) (codes "order") (decimal n) words.order_word (value word_number n (decimal n) (small_number n small))))

pub lanes_one : (n : ℕ) → n ≡ 1 → Follows (options (lanes_choice n)) []
lanes_one n is = rw (eq-eqb n 1 is) no_option

pub lanes_other : (n : ℕ) → (n ≡ 1 → ⊥) → 1 ≤ n → n ≤ 8 → Follows (options (lanes_choice n)) (32 ∷ (codes "lanes" ++ 32 ∷ decimal n))
lanes_other n other least most = rw (ne_eqb n 1 other) (one_option (lanes n) (codes "lanes" ++ 32 ∷ decimal n) (spaced (word (codes "lanes")) (says (in_range 1 8) n) (codes "lanes") (decimal n) words.lanes_word (value (in_range 1 8) n (decimal n) (ranged 1 8 n least most (omega (arith, most))))))

pub fall_one : (n : NonZeroU8) → n.value ≡ 1 → Follows (options (fall_choice n)) []
fall_one n is = rw (eq-eqb n.value 1 is) no_option

pub fall_other : (n : NonZeroU8) → (n.value ≡ 1 → ⊥) → n.value < 2 ^ 8 → Follows (options (fall_choice n)) (32 ∷ (codes "fall" ++ 32 ∷ decimal n.value))
fall_other n other small = rw (ne_eqb n.value 1 other) (one_option (fall n) (codes "fall" ++ 32 ∷ decimal n.value) (spaced (word (codes "fall")) (says count_of n) (codes "fall") (decimal n.value) words.fall_word (value count_of n (decimal n.value) (count n small))))

pub rise_one : (n : NonZeroU8) → n.value ≡ 1 → Follows (options (rise_choice n)) []
rise_one n is = rw (eq-eqb n.value 1 is) no_option

pub rise_other : (n : NonZeroU8) → (n.value ≡ 1 → ⊥) → n.value < 2 ^ 8 → Follows (options (rise_choice n)) (32 ∷ (codes "rise" ++ 32 ∷ decimal n.value))
rise_other n other small = rw (ne_eqb n.value 1 other) (one_option (rise n) (codes "rise" ++ 32 ∷ decimal n.value) (spaced (word (codes "rise")) (says count_of n) (codes "rise") (decimal n.value) words.rise_word (value count_of n (decimal n.value) (count n small))))

pub must : Follows (options (resolve_choice true)) (codes " resolve")
must = one_option resolve (codes "resolve") words.resolve_word

pub need_not : Follows (options (resolve_choice false)) []
need_not = no_option

one_pool : (name : PoolName) (text : List ℕ) → Types pool_of name text → Follows (options (pool name ∷ [])) (32 ∷ (codes "pool" ++ 32 ∷ text))
one_pool name text types = one_option (pool name) (codes "pool" ++ 32 ∷ text) (spaced (word (codes "pool")) (says pool_of name) (codes "pool") text words.pool_word (value pool_of name text types))

mapped : (xs : List PoolName) (y : PoolName) → pool_choices (xs ++ y ∷ []) ≡ pool_choices xs ++ pool y ∷ []
mapped [] y = refl
mapped (x ∷ xs) y = ap (λ (cs : List Choice). pool x ∷ cs) (mapped xs y)

-- the first pools, with one more
pub next_pool : (d : PoolName) (names : List PoolName) (k : ℕ) (text name new : List ℕ) → k < length names → Follows (options (pool_choices (take k names))) text → Types pool_of (slice_index_or names k d) name → new ≡ text ++ 32 ∷ (codes "pool" ++ 32 ∷ name) → Follows (options (pool_choices (take (k + 1) names))) new
next_pool d names k text name new within before types is =
    let one : suc k ≡ k + 1 = omega arith in
    let last = slice_index_or names k d in
    subst (λ (n : ℕ). Follows (options (pool_choices (take n names))) new) one
    (subst (λ (bytes : List ℕ). Follows (options (pool_choices (take (suc k) names))) bytes) (sym is)
    (subst (λ (ps : List PoolName). Follows (options (pool_choices ps)) (text ++ 32 ∷ (codes "pool" ++ 32 ∷ name))) (sym (one_more d names k within))
    (subst (λ (cs : List Choice). Follows (options cs) (text ++ 32 ∷ (codes "pool" ++ 32 ∷ name))) (sym (mapped (take k names) last)) (both (pool_choices (take k names)) (pool last ∷ []) text (32 ∷ (codes "pool" ++ 32 ∷ name)) before (one_pool last name types)))))
