-- The life of a query: it is read, transfers are refused, the rules are walked, and their verdict answers it or names the
-- pool that is to answer it, by its cache or by a server.
use Rattle.std.specs.Prelude.{◌≡◌, ℕ, Bool, true, false, ◌==◌, ◌||◌, nat_lt, List, length, Option, None, Some, Result, Ok, Err}
use Rattle.lb_wire.specs.Query.{Reads}
use Rattle.lb_wire.specs.Answer.{refusal_of, truncated_of, spoofed_of, formerr_of}
use Rattle.lb_wire.specs.Numbers.{rcode_number}
use Rattle.lb_wire.specs.declared.ids.PoolId.{PoolId}
use Rattle.lb_wire.specs.declared.ids.RuleId.{RuleId}
use Rattle.lb_wire.specs.declared.query.QueryView.{QueryView}
use Rattle.lb_wire.specs.declared.query.QueryFault.{QueryFault}
use Rattle.lb_wire.specs.declared.query.QueryFault.TheVariants as query_faults
use Rattle.lb_wire.specs.declared.rcode.Rcode.TheVariants as rcodes
use Rattle.lb_chain.specs.declared.walked.Verdict.{Verdict}
use Rattle.lb_chain.specs.declared.walked.Verdict.TheVariants as verdicts
use Rattle.lb_chain.specs.declared.walked.Walked.{Walked}
use Rattle.lb_chain.specs.Walk.{walk_of}
use Rattle.lb_chain.specs.Counting.{counted}
use Rattle.lb_step.specs.declared.asked.Asked.{Asked}
use Rattle.lb_step.specs.declared.asked.Routed.{Routed}
use Rattle.lb_step.specs.declared.answer.Answer.{Answer}
use Rattle.lb_step.specs.Answer.{Leaves, marked}
use Rattle.lb_step.specs.declared.answer.Answer.TheVariants.{Dropped, Local, NoMemory}
use Rattle.lb_step.specs.declared.answer.DropReason.TheVariants as drops
use Rattle.lb_step.specs.declared.answer.LocalReason.TheVariants as locals
use Rattle.lb_step.specs.Plain.{Plain, upstreams_of, with_upstreams}
use Rattle.lb_step.specs.Upstream.{Upstreams}
use Rattle.lb_step.specs.Forward.{failure_of}
use Rattle.lb_step.specs.Look.{PoolAnswers}

abbrev pub default_pool : PoolId
default_pool = record { 0 = 0 }

-- a pool that is to answer a query, and what the rules before said
abbrev pub to_pool : Walked → PoolId → Routed
to_pool walked pool = record { pool = pool; no_recurse = walked.no_recurse; skip_cache = walked.skip_cache }

-- what the rule that ended the walk does with a query
abbrev pub RuleDecides : Upstreams → Asked → List ℕ → QueryView → Walked → RuleId → Verdict → Answer → Upstreams → Type 0
RuleDecides ups asked bytes view walked rule verdicts.Allow answer new = PoolAnswers ups asked bytes view (to_pool walked default_pool) answer new
RuleDecides ups asked bytes view walked rule (verdicts.Pool pool) answer new = PoolAnswers ups asked bytes view (to_pool walked pool) answer new
RuleDecides ups asked bytes view walked rule verdicts.Drop answer new = Leaves new answer (ups, Dropped (drops.Rule rule))
RuleDecides ups asked bytes view walked rule (verdicts.Rcode rcode) answer new = Leaves new answer (ups, Local (refusal_of view (rcode_number rcode)) (locals.Rule rule))
RuleDecides ups asked bytes view walked rule verdicts.Tc answer new = Leaves new answer (ups, Local (truncated_of view) (locals.Rule rule))
RuleDecides ups asked bytes view walked rule (verdicts.Spoof addrs) answer new = Leaves new answer (ups, Local (spoofed_of view addrs) (locals.Rule rule))

-- what is done with a query whose walk this rule ended; where none did, the default pool is to answer it
abbrev pub EndDecides : Upstreams → Asked → List ℕ → QueryView → Walked → Option RuleId → Answer → Upstreams → Type 0
EndDecides ups asked bytes view walked None answer new = PoolAnswers ups asked bytes view (to_pool walked default_pool) answer new
EndDecides ups asked bytes view walked (Some rule) answer new = RuleDecides ups asked bytes view walked rule walked.verdict answer new

abbrev pub Decides : Upstreams → Asked → List ℕ → QueryView → Walked → Answer → Upstreams → Type 0
Decides ups asked bytes view walked answer new = EndDecides ups asked bytes view walked walked.rule answer new

-- the rules with the passes of a walk counted
abbrev pub with_passes : Asked → Walked → Plain → Plain
with_passes asked walked plain = record plain { rules = counted walked.passes asked.origin.source asked.moment plain.rules }

-- a query that was walked through the rules: its passes are counted and the walk decides; if memory is lacking nothing
-- is counted and the answer is ServFail
abbrev pub WalkedSteps : Bool → Plain → Asked → List ℕ → QueryView → Walked → Answer → Plain → Type 0
WalkedSteps true plain asked bytes view walked answer new = Leaves new answer (plain, NoMemory (failure_of view))
WalkedSteps false plain asked bytes view walked answer new =
    (ups : Upstreams) × Decides (upstreams_of plain) asked bytes view walked answer ups × (new ≡ with_upstreams ups (with_passes asked walked plain))

-- a type that asks for a zone transfer: IXFR or AXFR (RFC 1995 section 2, RFC 5936 section 2.1)
abbrev pub is_transfer : ℕ → Bool
is_transfer qtype = qtype == 252 || qtype == 251

-- the walk of a query
abbrev pub walked_of : Plain → Asked → QueryView → Walked
walked_of plain asked view = walk_of plain.rules view asked.origin.source asked.kind asked.moment

-- a query is answered by the rules: it is walked through them, and its walk decides
abbrev pub AnswersByRules : Plain → Asked → List ℕ → QueryView → Answer → Plain → Type 0
AnswersByRules old asked bytes view answer new = WalkedSteps (marked answer) old asked bytes view (walked_of old asked view) answer new

-- a query that reads: a transfer is refused before any rule; else the rules are walked
abbrev pub ReadSteps : Bool → Bool → Plain → Asked → List ℕ → QueryView → Answer → Plain → Type 0
ReadSteps true mark plain asked bytes view answer new = Leaves new answer (plain, Local (refusal_of view (rcode_number rcodes.Refused)) locals.Transfer)
ReadSteps false mark plain asked bytes view answer new = WalkedSteps mark plain asked bytes view (walked_of plain asked view) answer new

-- a query whose bytes read so, if memory is lacking or not
abbrev pub QuerySteps : Bool → Plain → Asked → List ℕ → Result QueryView QueryFault → Answer → Plain → Type 0
QuerySteps mark plain asked bytes (Err query_faults.Short) answer new = Leaves new answer (plain, Dropped drops.Short)
QuerySteps mark plain asked bytes (Err query_faults.NotQuery) answer new = Leaves new answer (plain, Dropped drops.NotQuery)
QuerySteps mark plain asked bytes (Err query_faults.Malformed) answer new = Leaves new answer (plain, Local (formerr_of bytes) locals.Malformed)
QuerySteps mark plain asked bytes (Ok view) answer new = ReadSteps (is_transfer view.qtype.0) mark plain asked bytes view answer new

-- a query is answered by what its bytes read as
abbrev pub AnswersQuery : Plain → Asked → List ℕ → Answer → Plain → Type 0
AnswersQuery old asked bytes answer new = (reading : Result QueryView QueryFault) × Reads bytes reading × QuerySteps (marked answer) old asked bytes reading answer new

-- whether a verdict is answered in room of its own: an answer with addresses, or an entry in the table of those that wait
abbrev pub takes_room : Verdict → Bool
takes_room verdicts.Allow = true
takes_room (verdicts.Pool pool) = true
takes_room (verdicts.Spoof addrs) = true
takes_room verdicts.Drop = false
takes_room (verdicts.Rcode rcode) = false
takes_room verdicts.Tc = false

-- whether a walk takes memory: it has a pass, or its verdict takes room
abbrev pub takes_memory : Walked → Bool
takes_memory walked = nat_lt 0 (length walked.passes) || takes_room walked.verdict

-- a query at which memory may be lacking: it reads, is no transfer, and its walk takes memory
pub record MayLack (plain : Plain) (asked : Asked) (bytes : List ℕ) (view : QueryView) : Type 0 where
  pub reads : Reads bytes (Ok view)
  pub transfer : is_transfer view.qtype.0 ≡ false
  pub takes : takes_memory (walked_of plain asked view) ≡ true
