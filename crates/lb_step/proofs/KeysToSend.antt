-- The key of the message to be sent, and the name in it.
use Rattle.std.proofs.Common.{◌≡◌, ℕ, ◌≤◌, Bool, true, false, List, length, Option, None, Some, Result, Ok, Err, refl, sym, ◌∙◌, ap, subst}
use Rattle.std.specs.Prelude.{IfOk, drop, is_some, not}
use Rattle.lb_name.specs.Name.{labels_of, lower_name}
use Rattle.lb_wire.specs.Key.{KeyHasName, key_octets, key_of_message}
use Rattle.lb_wire.specs.Message.{Message, Lays}
use Rattle.lb_wire.specs.Opt.{opts}
use Rattle.lb_wire.specs.Query.{ClearedIsLaid, IsQuery, Views, undesired, view_of, without_recursion}
use Rattle.lb_wire.specs.declared.key.Key.{Key}
use Rattle.lb_wire.specs.declared.opt.Opt.{Opt}
use Rattle.lb_wire.specs.declared.query.QueryView.{QueryView}
use Rattle.lb_wire.specs.declared.transport.Kind.{Kind}
use Rattle.lb_step.specs.Look.{octets_sent, parts_sent}

-- a query with its view
abbrev pub IsOf : List ℕ → QueryView → Type 0
IsOf octets view = (m : Message) × Lays octets m × IsQuery m × (view ≡ view_of m)

-- the key of octets, by the codes that are left out
abbrev pub IsKeyOf : List ℕ → Kind → List ℕ → Key → Type 0
IsKeyOf skips kind octets key = (m : Message) → Lays octets m → key ≡ key_of_message skips kind m

-- the key that was made of octets
pub made_of : {E : Type 0} → (skips : List ℕ) (kind : Kind) (octets : List ℕ) (result : Result Key E) (key : Key) → result ≡ Ok key → IfOk result (IsKeyOf skips kind octets) → IsKeyOf skips kind octets key
made_of {E} skips kind octets result key is made = subst (λ (r : Result Key E). IfOk r (IsKeyOf skips kind octets)) is made

-- the query with RD 0 has the view still
cleared : ClearedIsLaid → (octets own : List ℕ) (view : QueryView) → IsOf octets view → own ≡ without_recursion octets → (m : Message) × Lays own m × (length (opts m.records) ≤ 1) × Views view m
cleared law octets own view of is = (
  undesired of.0,
  subst (λ (b : List ℕ). Lays b (undesired of.0)) (sym is) (law octets of.0 of.1),
  of.2.one_opt,
  record { name = ap (λ (v : QueryView). v.name) of.3; question_end = ap (λ (v : QueryView). v.question_end) of.3; opt = ap (λ (v : QueryView). v.opt) of.3 },
)

-- what is sent has it
pub viewed : ClearedIsLaid → (no_recurse : Bool) (octets own : List ℕ) (view : QueryView) → IsOf octets view → own ≡ octets_sent no_recurse octets → (m : Message) × Lays own m × (length (opts m.records) ≤ 1) × Views view m
viewed law true octets own view of is = cleared law octets own view of is
viewed law false octets own view of is = (
  of.0,
  subst (λ (b : List ℕ). Lays b of.0) (sym is) of.1,
  of.2.one_opt,
  record { name = ap (λ (v : QueryView). v.name) of.3; question_end = ap (λ (v : QueryView). v.question_end) of.3; opt = ap (λ (v : QueryView). v.opt) of.3 },
)

-- its key has the name
pub named_sent : KeyHasName → ClearedIsLaid → (skips : List ℕ) (kind : Kind) (no_recurse : Bool) (octets own : List ℕ) (view : QueryView) (key : Key) → IsOf octets view → own ≡ octets_sent no_recurse octets →
    IsKeyOf skips kind own key → labels_of (drop 10 key.octets) ≡ lower_name view.name
named_sent has law skips kind no_recurse octets own view key of is made =
    let laid = viewed law no_recurse octets own view of is in
    ap (λ (k : Key). labels_of (drop 10 k.octets)) (made laid.0 laid.1) ∙ has skips own laid.0 laid.1 ∙ ap lower_name (sym laid.3.name)

laid_sent : ClearedIsLaid → (no_recurse : Bool) (octets : List ℕ) (m : Message) → Lays octets m → Lays (octets_sent no_recurse octets) (parts_sent no_recurse m)
laid_sent law true octets m lays = law octets m lays
laid_sent law false octets m lays = lays

-- and is that of its parts
pub key_sent : ClearedIsLaid → (skips : List ℕ) (kind : Kind) (no_recurse : Bool) (octets own : List ℕ) (key : Key) → own ≡ octets_sent no_recurse octets →
    IsKeyOf skips kind own key → (m : Message) → Lays octets m → key.octets ≡ key_octets skips (parts_sent no_recurse m)
key_sent law skips kind no_recurse octets own key is made m lays =
    ap (λ (k : Key). k.octets) (made (parts_sent no_recurse m) (subst (λ (b : List ℕ). Lays b (parts_sent no_recurse m)) (sym is) (laid_sent law no_recurse octets m lays)))

-- What is made of the same octets by an equal list of codes is the same key.
pub key_by : {E : Type 0} → (codes skips : List ℕ) (kind : Kind) (octets : List ℕ) (key : Result Key E) →
    ((m : Message) → Lays octets m → key_of_message codes kind m ≡ key_of_message skips kind m) → IfOk key (IsKeyOf codes kind octets) → IfOk key (IsKeyOf skips kind octets)
key_by codes skips kind octets (Ok key) same made = λ m lays. made m lays ∙ same m lays
key_by codes skips kind octets (Err error) same made = made

-- what is told to be none is
pub none_by : (o : Option Opt) (told : Bool) → is_some o ≡ not told → told ≡ true → o ≡ None
none_by None told is tells = refl
none_by (Some opt) true is tells = cc is
none_by (Some opt) false is tells = cc tells
