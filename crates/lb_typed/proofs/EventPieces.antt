-- Pieces of events.
use Rattle.std.proofs.Common.{◌≡◌, ℕ, ◌<◌, ◌^◌, Bool, List, [], ◌∷◌, ◌++◌, codes, refl}
use Rattle.std.specs.Fmt.{decimal}
use Rattle.lb_wire.specs.declared.addr.Origin.{Origin}
use Rattle.lb_wire.specs.declared.ids.ServerId.{ServerId}
use Rattle.lb_wire.specs.declared.transport.Kind.{Kind}
use Rattle.lb_wire.specs.declared.transport.Lane.{Lane}
use Rattle.lb_step.specs.declared.command.Command.{Command}
use Rattle.lb_step.specs.declared.event.Event.TheVariants as events
use Rattle.lb_command.specs.Events.{told_origin}
use Rattle.lb_command.specs.Grammar.{Part, ◌▷◌, command, event, number, says, word}
use Rattle.lb_command.specs.Values.{addr_of, hex_of, kind_of, lane_of, number_of, outcome_of, word_number}
use Rattle.lb_typed.specs.Pieces.{Spells}
use Rattle.lb_typed.specs.Words.{Types}
use Rattle.lb_typed.proofs.Keywords as words
use Rattle.lb_typed.proofs.Numbers as numbers
use Rattle.lb_typed.proofs.Spelled.{spaced, value}

-- a number and what follows it
then : (n : ℕ) (p : Part) (text : List ℕ) → n < 2 ^ 64 → Spells p text → Spells (number n ▷ p) (decimal n ++ 32 ∷ text)
then n p text small spells = spaced (number n) p (decimal n) text (value number_of n (decimal n) (numbers.number n small)) spells

pub tick : (now : ℕ) → now < 2 ^ 64 → Spells (event (events.Tick now)) (codes "tick" ++ 32 ∷ decimal now)
tick now small = spaced (word (codes "tick")) (number now) (codes "tick") (decimal now) words.tick_word (value number_of now (decimal now) (numbers.number now small))

pub health : (now : ℕ) (server : ServerId) (ok : Bool) (text : List ℕ) → now < 2 ^ 64 → server.0 < 2 ^ 64 → Types outcome_of ok text → Spells (event (events.HealthResult now server ok)) (codes "health" ++ 32 ∷ (decimal now ++ 32 ∷ (decimal server.0 ++ 32 ∷ text)))
health now server ok text small small_server types =
    spaced (word (codes "health")) (number now ▷ number server.0 ▷ says outcome_of ok) (codes "health") (decimal now ++ 32 ∷ (decimal server.0 ++ 32 ∷ text)) words.health_word
    (then now (number server.0 ▷ says outcome_of ok) (decimal server.0 ++ 32 ∷ text) small (then server.0 (says outcome_of ok) text small_server (value outcome_of ok text types)))

pub edit : (now : ℕ) (what : Command) (text : List ℕ) → now < 2 ^ 64 → Spells (command what) text → Spells (event (events.Edit now what)) (codes "edit" ++ 32 ∷ (decimal now ++ 32 ∷ text))
edit now what text small spells = spaced (word (codes "edit")) (number now ▷ command what) (codes "edit") (decimal now ++ 32 ∷ text) words.edit_word (then now (command what) text small spells)

pub reply : (now : ℕ) (server : ServerId) (lane : Lane) (bytes lane_text text : List ℕ) → now < 2 ^ 64 → server.0 < 2 ^ 64 → Types lane_of lane lane_text → Types hex_of bytes text → Spells (event (events.Reply now server lane bytes)) (codes "reply" ++ 32 ∷ (decimal now ++ 32 ∷ (decimal server.0 ++ 32 ∷ (lane_text ++ 32 ∷ text))))
reply now server lane bytes lane_text text small small_server lane_types types =
    spaced (word (codes "reply")) (number now ▷ number server.0 ▷ says lane_of lane ▷ says hex_of bytes) (codes "reply") (decimal now ++ 32 ∷ (decimal server.0 ++ 32 ∷ (lane_text ++ 32 ∷ text))) words.reply_word
    (then now (number server.0 ▷ says lane_of lane ▷ says hex_of bytes) (decimal server.0 ++ 32 ∷ (lane_text ++ 32 ∷ text)) small
    (then server.0 (says lane_of lane ▷ says hex_of bytes) (lane_text ++ 32 ∷ text) small_server
    (spaced (says lane_of lane) (says hex_of bytes) lane_text text (value lane_of lane lane_text lane_types) (value hex_of bytes text types))))

pub query : (now : ℕ) (origin : Origin) (kind : Kind) (random : ℕ) (bytes kind_text source text : List ℕ) → now < 2 ^ 64 → origin.slot < 2 ^ 64 → random < 2 ^ 16 → Types kind_of kind kind_text → Types addr_of origin.source source → Types hex_of bytes text → Spells (event (events.Query now (told_origin origin.slot origin.source) kind random bytes)) (codes "query" ++ 32 ∷ (decimal now ++ 32 ∷ (decimal origin.slot ++ 32 ∷ (kind_text ++ 32 ∷ (source ++ 32 ∷ (decimal random ++ 32 ∷ text))))))
query now origin kind random bytes kind_text source text small small_slot small_random kind_types source_types types total rest ends = (
  refl,
  spaced (word (codes "query")) (number now ▷ number origin.slot ▷ says kind_of kind ▷ says addr_of origin.source ▷ says word_number random ▷ says hex_of bytes) (codes "query") (decimal now ++ 32 ∷ (decimal origin.slot ++ 32 ∷ (kind_text ++ 32 ∷ (source ++ 32 ∷ (decimal random ++ 32 ∷ text))))) words.query_word
      (then now (number origin.slot ▷ says kind_of kind ▷ says addr_of origin.source ▷ says word_number random ▷ says hex_of bytes) (decimal origin.slot ++ 32 ∷ (kind_text ++ 32 ∷ (source ++ 32 ∷ (decimal random ++ 32 ∷ text)))) small
      (then origin.slot (says kind_of kind ▷ says addr_of origin.source ▷ says word_number random ▷ says hex_of bytes) (kind_text ++ 32 ∷ (source ++ 32 ∷ (decimal random ++ 32 ∷ text))) small_slot
      (spaced (says kind_of kind) (says addr_of origin.source ▷ says word_number random ▷ says hex_of bytes) kind_text (source ++ 32 ∷ (decimal random ++ 32 ∷ text)) (value kind_of kind kind_text kind_types)
      (spaced (says addr_of origin.source) (says word_number random ▷ says hex_of bytes) source (decimal random ++ 32 ∷ text) (value addr_of origin.source source source_types)
      (spaced (says word_number random) (says hex_of bytes) (decimal random) text (value word_number random (decimal random) (numbers.small_number random small_random)) (value hex_of bytes text types)))))) total rest ends,
)
