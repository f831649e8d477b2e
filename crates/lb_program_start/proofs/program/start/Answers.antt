use Rattle.std.proofs.Common.{◌≡◌, rules}
use Rattle.lb_program_start.proofs.Unwritten.{keeps_same}
use Rattle.lb_program_start.proofs.program.start.Goals as goal

pub returns-in-Ok-clause-asked : goal.returns-in-Ok-clause-asked
returns-in-Ok-clause-asked g c =
    let same : c.as_slice.result.now ≡ c.in-Ok.words.items = search rules in
    let does = rw same at c.run.ensures in
    rw c.in-Ok.is (c.run.result.told, does)

pub returns-in-Err-clause-unasked : goal.returns-in-Err-clause-unasked
returns-in-Err-clause-unasked g c =
    let told = c.without_words.ensures in
    rw c.in-Err.is (
      c.without_words.result.told,
      λ unreadable. record { status_is = (told.unreadable unreadable).0; unwritten = keeps_same _; tells = (told.unreadable unreadable).1 },
      λ failed. record { error = c.in-Err.error; status_is = (told.failed failed).0; unwritten = keeps_same _; tells = (told.failed failed).1 },
    )
