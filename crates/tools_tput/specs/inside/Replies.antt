-- Texts and bytes that may be there (own).
use Rattle.std.specs.Prelude.{ℕ, List, map, Option, option_map}
use Rattle.std.specs.Borrow.{Bor}
use Rattle.std.specs.Global.{Vec}

-- the bytes that were made, if any were
abbrev pub made_bytes : Option (Vec ℕ) → Option (List ℕ)
made_bytes made = option_map (λ bytes. bytes.items) made

-- strings, each of which may be there
abbrev pub given_texts : List (Option (Bor (List ℕ))) → List (Option (List ℕ))
given_texts texts = map (λ t. option_map (λ bytes. bytes.now) t) texts
