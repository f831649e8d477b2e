-- A request has one outcome.
use Rattle.std.proofs.Common.{◌≡◌, ◌≢◌, ℕ, List, [], ◌∷◌, inl, inr, refl, sym, ◌∙◌, subst, Global, Vec, Result, Ok, Err}
use Rattle.lb_doh_message.specs.Media.{IsDnsMedia}
use Rattle.lb_doh_message.specs.Message.{IsBase64Url}
use Rattle.lb_doh_message.specs.Request.{Carries, IsFit, Reads, Refuses, get, post, the_path}
use Rattle.lb_doh_message.specs.Laws.{AreSame, OneOutcome}
use Rattle.lb_doh_message.specs.declared.request.DohBody.{DohBody}
use Rattle.lb_doh_message.specs.declared.request.DohBody.TheVariants.{TooLong, Whole}
use Rattle.lb_doh_message.specs.declared.fault.DohFault.{DohFault}
use Rattle.lb_doh_message.specs.declared.fault.DohFault.TheVariants as faults
use Rattle.lb_doh_message.proofs.Messages.{one_spelling}

get_is_not_post : get ≡ post → ⊥
get_is_not_post is = cc

-- a method is not both
not_both : (method : List ℕ) → method ≡ get → method ≡ post → ⊥
not_both method is also = get_is_not_post (sym is ∙ also)

-- a body is not both
not_whole : (body : DohBody) (octets : List ℕ) → body ≡ TooLong → body ≡ Whole octets → ⊥
not_whole body octets is also = cc

-- a body has its octets
one_body : (body : DohBody) (octets others : List ℕ) → body ≡ Whole octets → body ≡ Whole others → octets ≡ others
one_body body octets others is also = cc

-- a list of one has one member
one_member : (values : List (List ℕ)) (value other : List ℕ) → values ≡ value ∷ [] → values ≡ other ∷ [] → value ≡ other
one_member values value other is also = cc

-- a request carries one message
one_message : (method query media : List ℕ) (body : DohBody) (octets others : List ℕ) → Carries method query media body octets → Carries method query media body others → octets ≡ others
one_message method query media body octets others (inl p) (inl q) = one_body body octets others p.holds q.holds
one_message method query media body octets others (inl p) (inr g) = absurd (not_both method g.is_get p.is_post)
one_message method query media body octets others (inr g) (inl p) = absurd (not_both method g.is_get p.is_post)
one_message method query media body octets others (inr g) (inr h) =
    let v = one_member _ g.by_value.0 h.by_value.0 g.by_value.1 h.by_value.1 in
    one_spelling h.by_value.0 octets others (subst (λ value. IsBase64Url value octets) v g.by_value.2.in_base64url) h.by_value.2.in_base64url

-- what fits is a GET or a POST
neither_fits : (method media : List ℕ) (body : DohBody) → method ≢ get → method ≢ post → IsFit method media body → ⊥
neither_fits method media body no_get no_post (inl is) = no_get is
neither_fits method media body no_get no_post (inr h) = no_post h.0

-- a POST of another media type does not fit
media_unfit : (method media : List ℕ) (body : DohBody) → method ≡ post → (IsDnsMedia media → ⊥) → IsFit method media body → ⊥
media_unfit method media body is none (inl also) = not_both method also is
media_unfit method media body is none (inr h) = none h.1

-- a POST that is too long does not fit
long_unfit : (method media : List ℕ) (body : DohBody) → method ≡ post → body ≡ TooLong → IsFit method media body → ⊥
long_unfit method media body is long (inl also) = not_both method also is
long_unfit method media body is long (inr h) = h.2 long

module _ (method path query media : List ℕ) (body : DohBody) where
  -- a request has one fault
  one_fault : (f g : DohFault) → Refuses method path query media body f → Refuses method path query media body g → f ≡ g
  one_fault faults.NotFound faults.NotFound h k = refl
  one_fault faults.NotFound faults.BadMethod h k = absurd (h k.0)
  one_fault faults.NotFound faults.BadMedia h k = absurd (h k.0)
  one_fault faults.NotFound faults.TooLong h k = absurd (h k.0)
  one_fault faults.NotFound faults.BadRequest h k = absurd (h k.0)
  one_fault faults.NotFound faults.NoMemory h k = absurd (h k.0)
  one_fault faults.BadMethod faults.NotFound h k = absurd (k h.0)
  one_fault faults.BadMethod faults.BadMethod h k = refl
  one_fault faults.BadMethod faults.BadMedia h k = absurd (h.2 k.1)
  one_fault faults.BadMethod faults.TooLong h k = absurd (h.2 k.1)
  one_fault faults.BadMethod faults.BadRequest h k = absurd (neither_fits method media body h.1 h.2 k.1)
  one_fault faults.BadMethod faults.NoMemory h k = absurd (h.1 k.1.1.is_get)
  one_fault faults.BadMedia faults.NotFound h k = absurd (k h.0)
  one_fault faults.BadMedia faults.BadMethod h k = absurd (k.2 h.1)
  one_fault faults.BadMedia faults.BadMedia h k = refl
  one_fault faults.BadMedia faults.TooLong h k = absurd (h.2 k.2)
  one_fault faults.BadMedia faults.BadRequest h k = absurd (media_unfit method media body h.1 h.2 k.1)
  one_fault faults.BadMedia faults.NoMemory h k = absurd (not_both method k.1.1.is_get h.1)
  one_fault faults.TooLong faults.NotFound h k = absurd (k h.0)
  one_fault faults.TooLong faults.BadMethod h k = absurd (k.2 h.1)
  one_fault faults.TooLong faults.BadMedia h k = absurd (k.2 h.2)
  one_fault faults.TooLong faults.TooLong h k = refl
  one_fault faults.TooLong faults.BadRequest h k = absurd (long_unfit method media body h.1 h.3 k.1)
  one_fault faults.TooLong faults.NoMemory h k = absurd (not_both method k.1.1.is_get h.1)
  one_fault faults.BadRequest faults.NotFound h k = absurd (k h.0)
  one_fault faults.BadRequest faults.BadMethod h k = absurd (neither_fits method media body k.1 k.2 h.1)
  one_fault faults.BadRequest faults.BadMedia h k = absurd (media_unfit method media body k.1 k.2 h.1)
  one_fault faults.BadRequest faults.TooLong h k = absurd (long_unfit method media body k.1 k.3 h.1)
  one_fault faults.BadRequest faults.BadRequest h k = refl
  one_fault faults.BadRequest faults.NoMemory h k = absurd (h.2 k.1.0 (inr k.1.1))
  one_fault faults.NoMemory faults.NotFound h k = absurd (k h.0)
  one_fault faults.NoMemory faults.BadMethod h k = absurd (k.1 h.1.1.is_get)
  one_fault faults.NoMemory faults.BadMedia h k = absurd (not_both method h.1.1.is_get k.1)
  one_fault faults.NoMemory faults.TooLong h k = absurd (not_both method h.1.1.is_get k.1)
  one_fault faults.NoMemory faults.BadRequest h k = absurd (k.2 h.1.0 (inr h.1.1))
  one_fault faults.NoMemory faults.NoMemory h k = refl

  -- a request that carries a message lacks nothing but memory
  only_memory : (octets : List ℕ) (f : DohFault) → path ≡ the_path → Carries method query media body octets → Refuses method path query media body f → f ≡ faults.NoMemory
  only_memory octets faults.NotFound there is h = absurd (h there)
  only_memory octets faults.BadMethod there (inl p) h = absurd (h.2 p.is_post)
  only_memory octets faults.BadMethod there (inr g) h = absurd (h.1 g.is_get)
  only_memory octets faults.BadMedia there (inl p) h = absurd (h.2 p.is_dns)
  only_memory octets faults.BadMedia there (inr g) h = absurd (not_both method g.is_get h.1)
  only_memory octets faults.TooLong there (inl p) h = absurd (not_whole body octets h.3 p.holds)
  only_memory octets faults.TooLong there (inr g) h = absurd (not_both method g.is_get h.1)
  only_memory octets faults.BadRequest there is h = absurd (h.2 octets is)
  only_memory octets faults.NoMemory there is h = refl

  same_outcome : (r s : Result (Vec ℕ Global) DohFault) → Reads method path query media body r → Reads method path query media body s → AreSame r s
  same_outcome (Ok message) (Ok other) h k = one_message method query media body message.items other.items h.1 k.1
  same_outcome (Ok message) (Err fault) h k = only_memory message.items fault h.0 h.1 k
  same_outcome (Err fault) (Ok message) h k = only_memory message.items fault k.0 k.1 h
  same_outcome (Err fault) (Err other) h k = one_fault fault other h k

pub one_outcome : OneOutcome
one_outcome method path query media body r s h k = same_outcome method path query media body r s h k
