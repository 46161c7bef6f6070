-- Strings that are sent, one after another.
use Rattle.std.proofs.Common.{◌≡◌, ℕ, List, [], ◌∷◌, ◌++◌, Option, Some, None, Result, Ok, Err, refl, sym, subst}
use Rattle.std.specs.Prelude.{IfOk}
use Rattle.std.specs.Global.{Vec}
use Rattle.std.proofs.lemmas.List.{append-nil}
use Rattle.ti_printing.specs.declared.padding.Line.{Line}
use Rattle.tools_tput.specs.Results.{AreSent, OneAsksForTooMuch, absent, at_first, later, no_string, present}
use Rattle.everyday_starting.specs.Padding.{Pads, PadsAll}

module _ (line : Line) where
  -- a string that is there
  pub given_some : {E : Type 0} (text : List ℕ) (r : Result (Option (Vec ℕ)) E) → IfOk r (Pads line text) → IfOk r (PadsAll line (Some text ∷ []))
  given_some text (Ok (Some bytes)) is =
      subst (AreSent line (Some text ∷ [])) (append-nil bytes.items) (present is no_string)
  given_some text (Ok None) is = at_first is
  given_some text (Err e) is = is

  -- one, and another after it
  pub both_sent : (a b : Option (List ℕ)) (x y : List ℕ) → AreSent line (a ∷ []) x → AreSent line (b ∷ []) y → AreSent line (a ∷ b ∷ []) (x ++ y)
  both_sent _ b _ y (absent no_string) second = absent second
  both_sent _ b _ y (present {text = text} {front = front} is no_string) second =
      subst (λ (x : List ℕ). AreSent line (Some text ∷ b ∷ []) (x ++ y)) (sym (append-nil front)) (present is second)

  no_one : (texts : List (Option (List ℕ))) → texts ≡ [] → OneAsksForTooMuch line texts → ⊥
  no_one _ none (at_first asks) = absurd (cc none)
  no_one _ none (later asks) = absurd (cc none)

  -- the first has too much padding
  pub first_asks : (a b : Option (List ℕ)) → OneAsksForTooMuch line (a ∷ []) → OneAsksForTooMuch line (a ∷ b ∷ [])
  first_asks _ b (at_first asks) = at_first asks
  first_asks _ b (later asks) = absurd (no_one [] refl asks)
