-- How long a reply lives, by its parts.
use Rattle.std.proofs.Common.{◌≡◌, ℕ, Bool, true, false, ◌&&◌, not, if◌then◌else◌, List, Option, Some, refl, sym, ◌∙◌, ap}
use Rattle.lb_wire.specs.Message.{Message}
use Rattle.lb_wire.specs.Opt.{least_ttl}
use Rattle.lb_wire.specs.Options.{carries_of}
use Rattle.lb_wire.specs.declared.reply.ReplyView.{ReplyView}
use Rattle.lb_step.specs.Lifetime.{is_keepable, life_by, life_of}

-- whether a reply is kept, by its header and its OPT records
abbrev pub kept_by : ReplyView → Bool → Bool
kept_by view carried = is_keepable view && not carried

lives_if : (max_ttl : ℕ) (skips : List ℕ) (view : ReplyView) (m : Message) (b : Bool) → kept_by view (carries_of skips m) ≡ b → life_of max_ttl skips view (Some m) ≡ (if b then life_by max_ttl m.header.answers view.rcode (least_ttl m.records) else 0)
lives_if max_ttl skips view m b is = ap (λ (c : Bool). if c then life_by max_ttl m.header.answers view.rcode (least_ttl m.records) else 0) is

-- a whole reply without such an OPT lives by the table
pub lives : (max_ttl : ℕ) (skips : List ℕ) (view : ReplyView) (m : Message) (kept carried : Bool) (answers life : ℕ) (least : Option ℕ) → kept ≡ is_keepable view → kept ≡ true → carried ≡ carries_of skips m → carried ≡ false → answers ≡ m.header.answers → least ≡ least_ttl m.records → life ≡ life_by max_ttl answers view.rcode least → life ≡ life_of max_ttl skips view (Some m)
lives max_ttl skips view m kept carried answers life least kept_is on carried_is off answers_is least_is is =
    let both : kept_by view (carries_of skips m) ≡ true = ap (λ (b : Bool). is_keepable view && not b) (sym carried_is ∙ off) ∙ ap (λ (b : Bool). b && true) (sym kept_is ∙ on) in
    is
    ∙ ap (λ (n : ℕ). life_by max_ttl n view.rcode least) answers_is
    ∙ ap (λ (o : Option ℕ). life_by max_ttl m.header.answers view.rcode o) least_is
    ∙ sym (lives_if max_ttl skips view m true both)

-- another has no life
pub no_life : (max_ttl : ℕ) (skips : List ℕ) (view : ReplyView) (m : Message) → kept_by view (carries_of skips m) ≡ false → 0 ≡ life_of max_ttl skips view (Some m)
no_life max_ttl skips view m is = sym (lives_if max_ttl skips view m false is)

pub not_kept : (view : ReplyView) (kept carried : Bool) → kept ≡ is_keepable view → kept ≡ false → kept_by view carried ≡ false
not_kept view kept carried is off = ap (λ (b : Bool). b && not carried) (sym is ∙ off)

never : (b : Bool) → (b && false) ≡ false
never true = refl
never false = refl

pub carried_off : (view : ReplyView) (told carried : Bool) → told ≡ carried → told ≡ true → kept_by view carried ≡ false
carried_off view told carried is on = ap (λ (b : Bool). is_keepable view && not b) (sym is ∙ on) ∙ never (is_keepable view)
