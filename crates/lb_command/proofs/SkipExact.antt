-- The list of a cache's codes, against the grammar.
use Rattle.std.proofs.Common.{◌≡◌, ℕ, ◌≤◌, false, true, Option, Some, None, Result, Ok, List, [], ◌∷◌, length, refl, sym, ap, ◌∙◌, inl, inr}
use Rattle.std.proofs.lemmas.Bool.{cases_Bool}
use Rattle.std.proofs.lemmas.Slice.Eq.{bytes_eq-Decides}
use Rattle.std.specs.Prelude.{bytes_eq, codes}
use Rattle.lb_cache.specs.Skips.{cookie, each_once}
use Rattle.lb_command.specs.Line.{Left}
use Rattle.lb_command.specs.Reading.{due, listed, taken}
use Rattle.lb_command.specs.Values.{word_number}
use Rattle.lb_command.specs.Skips.{code_list_at, skips_at, stated_skips_at}
use Rattle.lb_command.specs.Grammar.{comma_list, says, skips, word}
use Rattle.lb_command.specs.declared.fault.CommandFault.{CommandFault}
use Rattle.lb_command.specs.declared.fault.FaultKind.TheVariants as kinds
use Rattle.lb_command.proofs.Exact.{Finds, bind_ok, carried, taken_again, taken_found, taken_not}
use Rattle.lb_command.proofs.Sequences.{listed_few, says_list_again, says_list_found}

-- CODE{,CODE}
code_list_found : (line s t : Left) (y : List ℕ) → word (codes "skip") line s → code_list_at s ≡ Ok (y, t) → skips y line t
unfolding code_list_at
code_list_found line s t y w h =
    let one = due kinds.BadNumber word_number in
    let a = bind_ok (listed one (taken (codes ",")) (λ s. s) 16 s) _ (y, t) h in
    let stands : comma_list (says word_number) a.0.0 s a.0.1 = says_list_found kinds.BadNumber word_number 16 refl s a.0.1 a.0.0 a.1 in
    let few : length a.0.0 ≤ 16 = listed_few one (taken (codes ",")) (λ s. s) 16 s a.0.1 a.0.0 a.1 in
    carried (λ (z : List ℕ) (u : Left). skips z line u) (each_once a.0.0) y a.0.1 t a.2 (inl (a.0.0, few, refl, (s, w, stands)))

-- none | CODE{,CODE}
stated_found : (line s t : Left) (y : List ℕ) → word (codes "skip") line s → stated_skips_at s ≡ Ok (y, t) → skips y line t
unfolding stated_skips_at
stated_found line s t y w h =
    elim (cases_Bool (taken (codes "none") s).0) [
      | inl e ↦
          let none : ◌≡◌ {A = Result (List ℕ × Left) CommandFault} (Ok ([], (taken (codes "none") s).1)) (Ok (y, t)) = rw e at h in
          carried (λ (z : List ℕ) (u : Left). skips z line u) [] y (taken (codes "none") s).1 t none (inr (inl (refl, (s, w, taken_found (codes "none") s refl e))))
      | inr e ↦
          let given : code_list_at (taken (codes "none") s).1 ≡ Ok (y, t) = rw e at h in
          code_list_found line s t y w (ap code_list_at (sym (taken_not (codes "none") s e)) ∙ given)
    ]

-- what is read as the list of a cache's codes is one
pub skips_found : Finds skips_at skips
unfolding skips_at
skips_found s t y h =
    elim (cases_Bool (taken (codes "skip") s).0) [
      | inl e ↦ stated_found s (taken (codes "skip") s).1 t y (taken_found (codes "skip") s refl e) (rw e at h)
      | inr e ↦
          let absent : ◌≡◌ {A = Result (List ℕ × Left) CommandFault} (Ok (cookie, (taken (codes "skip") s).1)) (Ok (y, t)) = rw e at h in
          carried (λ (z : List ℕ) (u : Left). skips z s u) cookie y (taken (codes "skip") s).1 t absent (inr (inr (refl, sym (taken_not (codes "skip") s e))))
    ]

-- a number is not `none`
no_number : (text : List ℕ) (code : ℕ) → word_number text ≡ Some code → bytes_eq text (codes "none") ≡ false
no_number text code h =
    elim (cases_Bool (bytes_eq text (codes "none"))) [
      | inl e ↦
          let is : text ≡ codes "none" = (bytes_eq-Decides text (codes "none")).0 e in
          let none : ◌≡◌ {A = Option ℕ} (word_number (codes "none")) None = refl in
          let wrong : ◌≡◌ {A = Option ℕ} None (Some code) = sym none ∙ ap word_number (sym is) ∙ h in
          absurd (cc)
      | inr e ↦ e
    ]

-- a list of codes does not begin with `none`
no_none : (stated : List ℕ) (s t : Left) → comma_list (says word_number) stated s t → taken (codes "none") s ≡ (false, s)
no_none [] s t h = absurd h
no_none (code ∷ stated) s t h = let other = no_number h.1.0.text code h.1.1 in rw (h.1.2, other) refl

-- no word stands at the end of a line
ends_with : (w : List ℕ) (t : Left) → bytes_eq [] w ≡ false → t.words ≡ [] → taken w t ≡ (false, t)
ends_with w t other none = rw (none, other) refl

code_list_again : (s t : Left) (stated : List ℕ) → length stated ≤ 16 → t.words ≡ [] → comma_list (says word_number) stated s t → code_list_at s ≡ Ok (each_once stated, t)
unfolding code_list_at
code_list_again s t stated few none h = rw (says_list_again kinds.BadNumber word_number 16 s t stated few (ends_with (codes ",") t refl none) h) refl

stated_again : (s t : Left) (stated : List ℕ) → length stated ≤ 16 → t.words ≡ [] → comma_list (says word_number) stated s t → stated_skips_at s ≡ Ok (each_once stated, t)
unfolding stated_skips_at
stated_again s t stated few none h = rw (no_none stated s t h) (code_list_again s t stated few none h)

none_again : (s t : Left) → word (codes "none") s t → stated_skips_at s ≡ Ok ([], t)
unfolding stated_skips_at
none_again s t h = rw (taken_again (codes "none") s t h) refl

-- the list of a cache's codes is read, where the line ends after it
pub skips_again : (y : List ℕ) (s t : Left) → t.words ≡ [] → skips y s t → skips_at s ≡ Ok (y, t)
unfolding skips_at
skips_again y s t none (inl h) = rw (taken_again (codes "skip") s h.3.0 h.3.1) (stated_again h.3.0 t h.0 h.1 none h.3.2 ∙ ap (λ (z : List ℕ). Ok (z, t)) (sym h.2))
skips_again y s t none (inr (inl h)) = rw (taken_again (codes "skip") s h.1.0 h.1.1) (none_again h.1.0 t h.1.2 ∙ ap (λ (z : List ℕ). Ok (z, t)) (sym h.0))
skips_again y s t none (inr (inr h)) = rw (h.1, ends_with (codes "skip") t refl none) (ap (λ (z : List ℕ). Ok (z, t)) (sym h.0))
