-- Texts that are put one after the other.
use Rattle.std.proofs.Common.{◌≡◌, ℕ, List, ◌++◌, ap, append_assoc, ◌∙◌}
use Rattle.std.specs.Prelude.{Result, Ok, Err, OnOk}

-- a text after three more
pub three : {T E : Type 0} (old one two new a b d : List ℕ) (result : Result T E) → one ≡ old ++ a → two ≡ one ++ b
    → OnOk result (new ≡ two ++ d) → OnOk result (new ≡ old ++ (a ++ (b ++ d)))
three old one two new a b d (Ok x) first second third =
    third ∙ ap (λ t. t ++ d) (second ∙ ap (λ t. t ++ b) first) ∙ append_assoc (old ++ a) b d ∙ append_assoc old a (b ++ d)
three old one two new a b d (Err e) first second third = tt
