use Rattle.std.proofs.Common.{◌++◌, ◌/◌, ◌%◌, [], ◌∷◌, List, ap, ◌∙◌, ℕ}
use Rattle.lb_suffix.specs.Key.{key_of}
use Rattle.lb_cache.specs.Keys.{is_within}
use Rattle.lb_cache.proofs.Filings.{type_within}
use Rattle.lb_cache.proofs.filing.Span.of_type.Goals as goal

pub returns : goal.returns
returns c = λ octets.
    ap (λ (low : List ℕ). is_within low c.of.result.high octets) c.of.ensures.low
    ∙ ap (λ (high : List ℕ). is_within (key_of c.args.name.now ++ 0 ∷ c.args.rtype.0 / 256 ∷ c.args.rtype.0 % 256 ∷ []) high octets) c.of.ensures.high
    ∙ type_within c.of.ensures.on c.args.name.now c.args.rtype c.of.ensures.name octets
