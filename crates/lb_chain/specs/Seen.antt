-- The rules as they are seen at a moment: passes that no longer count are left out, and what is reserved.
use Rattle.std.specs.Prelude.{◌≡◌, ℕ, ◌≤◌, List, [], map}
use Rattle.lb_wire.specs.declared.addr.Addr.{Addr}
use Rattle.lb_wire.specs.declared.transport.Kind.{Kind}
use Rattle.lb_wire.specs.declared.query.QueryView.{QueryView}
use Rattle.lb_limits.specs.Window.{Limits, recent_passes}
use Rattle.lb_chain.specs.declared.numbered.Numbered.{Numbered}
use Rattle.lb_chain.specs.Walk.{walk_of}

-- a limiter at a moment: the passes that count then, and nothing reserved
abbrev pub seen_limits : ℕ → Limits → Limits
seen_limits moment l = record l { moment = moment; passes = recent_passes moment l.passes; reserved = [] }

-- a rule at a moment
abbrev pub seen_rule : ℕ → Numbered → Numbered
seen_rule moment n = record n { limits = map (seen_limits moment) n.limits }

-- the rules at a moment
abbrev pub seen_rules : ℕ → List Numbered → List Numbered
seen_rules moment rules = map (seen_rule moment) rules

-- rules seen at a moment give the walks of the rules themselves, then and later
abbrev pub SeenWalks : Type 0
SeenWalks = (moment now : ℕ) (rules : List Numbered) (view : QueryView) (addr : Addr) (kind : Kind) →
    moment ≤ now → walk_of (seen_rules moment rules) view addr kind now ≡ walk_of rules view addr kind now

-- rules seen at a moment, and those seen later, are the rules seen later
abbrev pub SeenTwice : Type 0
SeenTwice = (moment now : ℕ) (rules : List Numbered) → moment ≤ now → seen_rules now (seen_rules moment rules) ≡ seen_rules now rules
