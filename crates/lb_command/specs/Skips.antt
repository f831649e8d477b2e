-- Reading which options the keys of a cache leave out.
use Rattle.std.specs.Prelude.{if◌then◌else◌, ℕ, Result, Ok, List, [], codes}
use Rattle.lb_cache.specs.Skips.{cookie, each_once}
use Rattle.lb_command.specs.Line.{Left}
use Rattle.lb_command.specs.Reading.{◌>>=◌, due, listed, taken}
use Rattle.lb_command.specs.Values.{word_number}
use Rattle.lb_command.specs.declared.fault.CommandFault.{CommandFault}
use Rattle.lb_command.specs.declared.fault.FaultKind.TheVariants as kinds

-- CODE{,CODE}: a 17th code is too many, repeats counted; a repeated one counts once
unfoldable pub code_list_at : Left → Result (List ℕ × Left) CommandFault
code_list_at left = do
  stated ← listed (due kinds.BadNumber word_number) (taken (codes ",")) (λ s. s) 16 left
  Ok (each_once stated.0, stated.1)

-- none | CODE{,CODE}
unfoldable pub stated_skips_at : Left → Result (List ℕ × Left) CommandFault
stated_skips_at left =
    if (taken (codes "none") left).0 then Ok ([], (taken (codes "none") left).1) else code_list_at (taken (codes "none") left).1

-- [skip none | skip CODE{,CODE}]: Cookie if it is not given
unfoldable pub skips_at : Left → Result (List ℕ × Left) CommandFault
skips_at left =
    if (taken (codes "skip") left).0 then stated_skips_at (taken (codes "skip") left).1 else Ok (cookie, (taken (codes "skip") left).1)
