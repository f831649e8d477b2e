use Rattle.std.proofs.Common.{sym, ◌∙◌}
use Rattle.std.proofs.lemmas.Slice.Eq.{bytes_eq-Decides}
use Rattle.std.specs.Prelude.{string_bytes}
use Rattle.lb_program_start.proofs.Asked.{one_word, two_words}
use Rattle.lb_program_start.proofs.program.choose.Goals as goal

pub returns-in-len1 : goal.returns-in-len1
returns-in-len1 c = one_word string_bytes c.args.words.now c.word-item.result c.as_str.result.now _ c.in-len1.len_at_least c.in-len1.len_below c.word-item.is c.as_str.ensures.value ((bytes_eq-Decides _ _).0 (sym c.eq.ensures ∙ c.if-eq.true))

pub returns-in-len2 : goal.returns-in-len2
returns-in-len2 c = two_words string_bytes c.args.words.now c.word-item-then-words-lt3.result c.file-item.result c.as_str-then-words-lt3.result.now _ c.as_str-in-len2.result.now c.in-len2.len_at_least c.in-len2.len_below c.word-item-then-words-lt3.is c.file-item.is c.as_str-then-words-lt3.ensures.value ((bytes_eq-Decides _ _).0 (sym c.eq-then-words-lt3.ensures ∙ c.if-eq-2.true)) c.as_str-in-len2.ensures.value

pub returns-in-len2-2 : goal.returns-in-len2-2
returns-in-len2-2 c = two_words string_bytes c.args.words.now c.word-item-then-words-lt3-2.result c.file-item-then-words-lt3.result c.as_str-then-words-lt3-2.result.now _ c.as_str-in-len2-2.result.now c.in-len2.len_at_least c.in-len2.len_below c.word-item-then-words-lt3-2.is c.file-item-then-words-lt3.is c.as_str-then-words-lt3-2.ensures.value ((bytes_eq-Decides _ _).0 (sym c.eq-then-words-lt3-2.ensures ∙ c.if-eq-3.true)) c.as_str-in-len2-2.ensures.value
