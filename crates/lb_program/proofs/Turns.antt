-- What a turn of reading leaves to read.
use Rattle.std.proofs.Common.{◌≡◌, ℕ, ◌+◌, ◌<◌, Bool, true, false, List, [], ◌∷◌, ◌++◌, length, drop, Option, None, Some, IfSome, Result, Ok, Err, OnOk, refl, sym, ◌∙◌, ap, arith, inl, inr}
use Rattle.std.proofs.lemmas.List.{append-nil, append_assoc, drop_at}
use Rattle.std.proofs.lemmas.List.Elements.{All-append, All-nil, All-same, All-drop}
use Rattle.std.specs.List.{All, slice_split}
use Rattle.std.specs.Str.{is_utf8}
use Rattle.std.specs.Str.Lines.{strip_carriage_return}
use Rattle.lb_program.specs.Shown.{Takes, is_line_feed}
use Rattle.lb_program.specs.Line.{IsFresh, IsSound, Sheds, Stays, kind_with}
use Rattle.lb_program.specs.Input.{IsGoing, Judges, Reading, Turns, TurnsTo, gives, left_of, told_from, told_read}
use Rattle.lb_program.specs.declared.line.Line.{Line}
use Rattle.lb_program.specs.declared.line.LineKind.{LineKind}
use Rattle.lb_program.specs.declared.line.LineKind.TheVariants.{Blank}
use Rattle.lb_program.specs.declared.shown.Shown.TheVariants.{Piece, LineFeed, End}
use Rattle.lb_program.specs.declared.input.Turn.{Turn}
use Rattle.lb_program.specs.declared.input.Turn.TheVariants as turns
use Rattle.lb_program.specs.declared.faults.Stop.{Stop}
use Rattle.lb_program.specs.declared.faults.Stop.TheVariants as stops
use Rattle.lb_program.proofs.Texts.{not_both}
use Rattle.lb_program.proofs.ToldLines.{none_told, told_shed, told_line, told_end, told_never}

-- bytes without a line feed
abbrev pub NoFeed : List ℕ → Type 0
NoFeed bytes = All (λ byte. is_line_feed byte ≡ false) bytes

-- the end of bytes without a line feed has none
no_feed_end : (bytes front held : List ℕ) → bytes ≡ front ++ held → NoFeed bytes → NoFeed held
no_feed_end bytes front held is none =
    All-same (λ byte. is_line_feed byte ≡ false) held (drop (length front) bytes) (sym (ap (λ (xs : List ℕ). drop (length front) xs) is ∙ drop_at front held (length front) refl)) (All-drop (λ byte. is_line_feed byte ≡ false) (length front) bytes none)

-- numbers of lines
next_number : (ended new_ended : ℕ) → new_ended ≡ ended + 1 → ended + 2 ≡ new_ended + 1
next_number ended new_ended is = omega (arith, is)

two_more : (ended : ℕ) → ended + 1 + 1 ≡ ended + 2
two_more ended = omega arith

-- a line of which no byte was read is sound
pub fresh_sound : (line : Line) → IsFresh line → IsSound line
fresh_sound line fresh = record {
  no_feed = All-same (λ byte. is_line_feed byte ≡ false) line.bytes.items [] fresh.0 (All-nil (λ byte. is_line_feed byte ≡ false));
  whole = λ short. fresh.1;
}

-- what is left from a line of which no byte was read
pub fresh_left : (ended : ℕ) (line : Line) (rest : List ℕ) → IsFresh line → left_of ended line rest ≡ told_from (ended + 1) Blank false (slice_split is_line_feed rest)
fresh_left ended line rest fresh =
    ap (λ (k : LineKind). told_from (ended + 1) k line.is_long (slice_split is_line_feed (line.bytes.items ++ rest))) fresh.1
    ∙ ap (λ (b : Bool). told_from (ended + 1) Blank b (slice_split is_line_feed (line.bytes.items ++ rest))) fresh.2
    ∙ ap (λ (xs : List ℕ). told_from (ended + 1) Blank false (slice_split is_line_feed (xs ++ rest))) fresh.0

-- what is left, of a line of this kind that is long or not, of which these bytes are held
abbrev left_from : ℕ → LineKind → Bool → List ℕ → List (ℕ × Reading)
left_from ended kind long bytes = told_from (ended + 1) kind long (slice_split is_line_feed bytes)

-- a line that stays holds the piece, too
piece_stays : (ended : ℕ) (old mid new : Line) (bytes piece rest : List ℕ) → mid.bytes.items ≡ old.bytes.items ++ piece → bytes ≡ piece ++ rest → (mid.kind ≡ old.kind) × (mid.is_long ≡ old.is_long) → Stays mid new → left_of ended old bytes ≡ left_of ended new rest
piece_stays ended old mid new bytes piece rest moved is same stays =
    let held : old.bytes.items ++ bytes ≡ new.bytes.items ++ rest =
    ap (λ (xs : List ℕ). old.bytes.items ++ xs) is ∙ sym (append_assoc old.bytes.items piece rest) ∙ ap (λ (xs : List ℕ). xs ++ rest) (sym moved ∙ sym stays.0) in
    ap (λ (xs : List ℕ). left_from ended old.kind old.is_long xs) held
    ∙ ap (λ (k : LineKind). left_from ended k old.is_long (new.bytes.items ++ rest)) (sym same.0 ∙ sym stays.1)
    ∙ ap (λ (b : Bool). left_from ended new.kind b (new.bytes.items ++ rest)) (sym same.1 ∙ sym stays.2)

-- a piece of a line goes to the bytes held, and the front of a line that is too long into its kind
pub turn_piece : (ended : ℕ) (all left : Option (List ℕ)) (old mid new : Line) → IfSome all (λ bytes. Takes old.bytes.items bytes Piece mid.bytes.items left) → (mid.kind ≡ old.kind) × (mid.is_long ≡ old.is_long) → Sheds mid new → IsSound old → IfSome all (λ bytes. Turns ended old bytes (Ok turns.Nothing) ended new left)
turn_piece ended None left old mid new takes same sheds sound = tt
turn_piece ended (Some bytes) left old mid new takes same (inl stays) sound =
    let none : NoFeed (old.bytes.items ++ takes.0) = All-append (λ byte. is_line_feed byte ≡ false) old.bytes.items takes.0 sound.no_feed takes.5 in
    let none_held : NoFeed new.bytes.items = All-same (λ byte. is_line_feed byte ≡ false) new.bytes.items (old.bytes.items ++ takes.0) (stays.0 ∙ takes.3) none in
    let is_sound : IsSound new = record {
      no_feed = none_held;
      whole = λ short. stays.1 ∙ same.0 ∙ sound.whole (sym same.1 ∙ sym stays.2 ∙ short);
    } in
    (takes.1, takes.2, is_sound, piece_stays ended old mid new bytes takes.0 takes.1 takes.3 takes.4 same stays)
turn_piece ended (Some bytes) left old mid new takes same (inr sheds) sound =
    let front = sheds.0 in
    let held = new.bytes.items in
    let whole : old.bytes.items ++ takes.0 ≡ front ++ held = sym takes.3 ∙ sheds.1 in
    let none : NoFeed (front ++ held) = All-same (λ byte. is_line_feed byte ≡ false) (front ++ held) (old.bytes.items ++ takes.0) (sym whole) (All-append (λ byte. is_line_feed byte ≡ false) old.bytes.items takes.0 sound.no_feed takes.5) in
    let none_held : NoFeed held = no_feed_end (front ++ held) front held refl none in
    let moved : old.bytes.items ++ bytes ≡ (front ++ held) ++ takes.1 =
    ap (λ (xs : List ℕ). old.bytes.items ++ xs) takes.4 ∙ sym (append_assoc old.bytes.items takes.0 takes.1) ∙ ap (λ (xs : List ℕ). xs ++ takes.1) whole in
    let over : 300001 < length (front ++ held) = rw (← sheds.1) sheds.5 in
    let kind : kind_with old.kind front ≡ new.kind = ap (λ (k : LineKind). kind_with k front) (sym same.0) ∙ sym sheds.2 in
    let read : left_of ended old bytes ≡ left_of ended new takes.1 =
    ap (λ (xs : List ℕ). left_from ended old.kind old.is_long xs) moved
    ∙ told_shed (ended + 1) old.kind old.is_long front held takes.1 sheds.6 over none none_held sheds.3
    ∙ ap (λ (k : LineKind). left_from ended k true (held ++ takes.1)) kind
    ∙ ap (λ (b : Bool). left_from ended new.kind b (held ++ takes.1)) (sym sheds.4) in
    let is_sound : IsSound new = record {
      no_feed = none_held;
      whole = λ short. absurd (not_both new.is_long sheds.4 short);
    } in
    (takes.1, takes.2, is_sound, read)

-- a piece that no bytes make a text ends the reading
pub turn_broken : (ended number new_ended : ℕ) (all left new_left : Option (List ℕ)) (old mid new : Line) → number ≡ ended + 1 → IfSome all (λ bytes. Takes old.bytes.items bytes Piece mid.bytes.items left) → ((more : List ℕ) → is_utf8 (mid.bytes.items ++ more) ≡ false) → IsSound old → IfSome all (λ bytes. Turns ended old bytes (Err (stops.NotUtf8 number)) new_ended new new_left)
turn_broken ended number new_ended None left new_left old mid new count takes never sound = tt
turn_broken ended number new_ended (Some bytes) left new_left old mid new count takes never sound =
    let held = old.bytes.items ++ takes.0 in
    let none : NoFeed held = All-append (λ byte. is_line_feed byte ≡ false) old.bytes.items takes.0 sound.no_feed takes.5 in
    let moved : old.bytes.items ++ bytes ≡ held ++ takes.1 = ap (λ (xs : List ℕ). old.bytes.items ++ xs) takes.4 ∙ sym (append_assoc old.bytes.items takes.0 takes.1) in
    let broken = told_never (ended + 1) old.kind old.is_long held takes.1 none (λ more. ap (λ (xs : List ℕ). is_utf8 (xs ++ more)) (sym takes.3) ∙ never more) in
    (broken.0, ap (λ (xs : List ℕ). left_from ended old.kind old.is_long xs) moved ∙ broken.1 ∙ ap (λ (n : ℕ). (n, None) ∷ broken.0) (sym count))

-- a turn that goes on, with what it leaves
going : (ended new_ended : ℕ) (turn : Turn) (old new : Line) (bytes rest : List ℕ) (left : Option (List ℕ)) → IsGoing turn → left ≡ Some rest → IsSound new → left_of ended old bytes ≡ gives (ended + 1) turn ++ left_of new_ended new rest → TurnsTo ended old bytes turn new_ended new left
going ended new_ended turns.Nothing old new bytes rest left goes is sound read = (rest, is, sound, read)
going ended new_ended (turns.Event event) old new bytes rest left goes is sound read = (rest, is, sound, read)
going ended new_ended turns.End old new bytes rest left goes is sound read = absurd goes

-- the line in hand is judged: what is left begins with what it reads as
pub judged_line : (ended new_ended : ℕ) (old new : Line) (bytes rest : List ℕ) (left : Option (List ℕ)) (read : List (ℕ × Reading)) (result : Result Turn Stop) → left ≡ Some rest → left_of ended old bytes ≡ read ++ told_from (ended + 2) Blank false (slice_split is_line_feed rest) → Judges (ended + 1) read result → OnOk result (IsFresh new × (new_ended ≡ ended + 1)) → Turns ended old bytes result new_ended new left
judged_line ended new_ended old new bytes rest left read (Ok turn) is all judged fresh =
    let others : told_from (ended + 2) Blank false (slice_split is_line_feed rest) ≡ left_of new_ended new rest =
    ap (λ (n : ℕ). told_from n Blank false (slice_split is_line_feed rest)) (next_number ended new_ended fresh.1) ∙ sym (fresh_left new_ended new rest fresh.0) in
    let split : left_of ended old bytes ≡ gives (ended + 1) turn ++ left_of new_ended new rest =
    all ∙ ap (λ (front : List (ℕ × Reading)). front ++ told_from (ended + 2) Blank false (slice_split is_line_feed rest)) judged.0 ∙ ap (λ (end : List (ℕ × Reading)). gives (ended + 1) turn ++ end) others in
    going ended new_ended turn old new bytes rest left judged.1 is (fresh_sound new fresh.0) split
judged_line ended new_ended old new bytes rest left read (Err (stops.BadLine number fault)) is all judged fresh =
    (judged.0, told_from (ended + 2) Blank false (slice_split is_line_feed rest), all ∙ ap (λ (front : List (ℕ × Reading)). front ++ told_from (ended + 2) Blank false (slice_split is_line_feed rest)) judged.1, judged.2)
judged_line ended new_ended old new bytes rest left read (Err (stops.NotUtf8 number)) is all judged fresh =
    (told_from (ended + 2) Blank false (slice_split is_line_feed rest), all ∙ ap (λ (front : List (ℕ × Reading)). front ++ told_from (ended + 2) Blank false (slice_split is_line_feed rest)) judged)
judged_line ended new_ended old new bytes rest left read (Err (stops.Refused number fault)) is all judged fresh = absurd judged
judged_line ended new_ended old new bytes rest left read (Err (stops.Input error)) is all judged fresh = absurd judged
judged_line ended new_ended old new bytes rest left read (Err (stops.Output error)) is all judged fresh = absurd judged
judged_line ended new_ended old new bytes rest left read (Err (stops.CountFull full)) is all judged fresh = absurd judged
judged_line ended new_ended old new bytes rest left read (Err stops.NoMemory) is all judged fresh = absurd judged

-- a line feed ends the line in hand
pub turn_feed : (ended new_ended : ℕ) (all mid_left left : Option (List ℕ)) (old mid line new : Line) (result : Result Turn Stop) → IfSome all (λ bytes. Takes old.bytes.items bytes LineFeed mid.bytes.items mid_left) → (mid.kind ≡ old.kind) × (mid.is_long ≡ old.is_long) → line.bytes.items ≡ strip_carriage_return mid.bytes.items → (line.kind ≡ mid.kind) × (line.is_long ≡ mid.is_long) → left ≡ mid_left
    → Judges (ended + 1) (told_read (ended + 1) line.kind line.is_long line.bytes.items) result → OnOk result (IsFresh new × (new_ended ≡ ended + 1)) → IsSound old → IfSome all (λ bytes. Turns ended old bytes result new_ended new left)
turn_feed ended new_ended None mid_left left old mid line new result takes same stripped kept input judged fresh sound = tt
turn_feed ended new_ended (Some bytes) mid_left left old mid line new result takes same stripped kept input judged fresh sound =
    let whole = old.bytes.items ++ takes.0 in
    let none : NoFeed whole = All-append (λ byte. is_line_feed byte ≡ false) old.bytes.items takes.0 sound.no_feed takes.5 in
    let moved : old.bytes.items ++ bytes ≡ whole ++ 10 ∷ takes.1 = ap (λ (xs : List ℕ). old.bytes.items ++ xs) takes.4 ∙ sym (append_assoc old.bytes.items takes.0 (10 ∷ takes.1)) in
    let read : told_read (ended + 1) old.kind old.is_long (strip_carriage_return whole) ≡ told_read (ended + 1) line.kind line.is_long line.bytes.items =
    ap (λ (k : LineKind). told_read (ended + 1) k old.is_long (strip_carriage_return whole)) (sym same.0 ∙ sym kept.0)
    ∙ ap (λ (b : Bool). told_read (ended + 1) line.kind b (strip_carriage_return whole)) (sym same.1 ∙ sym kept.1)
    ∙ ap (λ (xs : List ℕ). told_read (ended + 1) line.kind line.is_long xs) (ap strip_carriage_return (sym takes.3) ∙ sym stripped) in
    let split : left_of ended old bytes ≡ told_read (ended + 1) line.kind line.is_long line.bytes.items ++ told_from (ended + 2) Blank false (slice_split is_line_feed takes.1) =
    ap (λ (xs : List ℕ). left_from ended old.kind old.is_long xs) moved
    ∙ told_line (ended + 1) old.kind old.is_long whole takes.1 none
    ∙ ap (λ (front : List (ℕ × Reading)). front ++ told_from (ended + 1 + 1) Blank false (slice_split is_line_feed takes.1)) read
    ∙ ap (λ (n : ℕ). told_read (ended + 1) line.kind line.is_long line.bytes.items ++ told_from n Blank false (slice_split is_line_feed takes.1)) (two_more ended) in
    judged_line ended new_ended old new bytes takes.1 left (told_read (ended + 1) line.kind line.is_long line.bytes.items) result (input ∙ takes.2) split judged fresh

-- the end of the input ends the line in hand
pub turn_last : (ended new_ended : ℕ) (all mid_left left : Option (List ℕ)) (old mid new : Line) (result : Result Turn Stop) → IfSome all (λ bytes. Takes old.bytes.items bytes End mid.bytes.items mid_left) → (mid.kind ≡ old.kind) × (mid.is_long ≡ old.is_long) → left ≡ mid_left
    → Judges (ended + 1) (told_read (ended + 1) mid.kind mid.is_long mid.bytes.items) result → OnOk result (IsFresh new × (new_ended ≡ ended + 1)) → IsSound old → IfSome all (λ bytes. Turns ended old bytes result new_ended new left)
turn_last ended new_ended None mid_left left old mid new result takes same input judged fresh sound = tt
turn_last ended new_ended (Some bytes) mid_left left old mid new result takes same input judged fresh sound =
    let read : told_read (ended + 1) old.kind old.is_long old.bytes.items ≡ told_read (ended + 1) mid.kind mid.is_long mid.bytes.items =
    ap (λ (k : LineKind). told_read (ended + 1) k old.is_long old.bytes.items) (sym same.0)
    ∙ ap (λ (b : Bool). told_read (ended + 1) mid.kind b old.bytes.items) (sym same.1)
    ∙ ap (λ (xs : List ℕ). told_read (ended + 1) mid.kind mid.is_long xs) (sym takes.1) in
    let split : left_of ended old bytes ≡ told_read (ended + 1) mid.kind mid.is_long mid.bytes.items ++ told_from (ended + 2) Blank false (slice_split is_line_feed []) =
    ap (λ (xs : List ℕ). left_of ended old xs) takes.2 ∙ told_end (ended + 1) old.kind old.is_long old.bytes.items sound.no_feed ∙ read ∙ sym (ap (λ (others : List (ℕ × Reading)). told_read (ended + 1) mid.kind mid.is_long mid.bytes.items ++ others) (none_told (ended + 2)) ∙ append-nil (told_read (ended + 1) mid.kind mid.is_long mid.bytes.items)) in
    judged_line ended new_ended old new bytes [] left (told_read (ended + 1) mid.kind mid.is_long mid.bytes.items) result (input ∙ takes.0) split judged fresh

-- nothing is left where the input ends and no byte of a line was read
pub turn_end : (ended new_ended : ℕ) (all mid_left left : Option (List ℕ)) (old mid new : Line) → IfSome all (λ bytes. Takes old.bytes.items bytes End mid.bytes.items mid_left) → (mid.kind ≡ old.kind) × (mid.is_long ≡ old.is_long) → (mid.bytes.items ≡ []) × (mid.is_long ≡ false) → IsSound old → IfSome all (λ bytes. Turns ended old bytes (Ok turns.End) new_ended new left)
turn_end ended new_ended None mid_left left old mid new takes same empty sound = tt
turn_end ended new_ended (Some bytes) mid_left left old mid new takes same empty sound =
    let none : old.bytes.items ≡ [] = sym takes.1 ∙ empty.0 in
    let short : old.is_long ≡ false = sym same.1 ∙ empty.1 in
    ap (λ (xs : List ℕ). left_of ended old xs) takes.2
    ∙ ap (λ (xs : List ℕ). left_from ended old.kind old.is_long (xs ++ [])) none
    ∙ ap (λ (b : Bool). left_from ended old.kind b []) short
    ∙ ap (λ (k : LineKind). left_from ended k false []) (sound.whole short)
    ∙ none_told (ended + 1)
