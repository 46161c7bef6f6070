-- Codes that are allowed from lines on.
use Rattle.std.specs.Prelude.{ℕ, nat_le, List, [], ◌∷◌, map, if◌then◌else◌}
use Rattle.source_settings.specs.declared.walking.Allowance.{Allowance}

-- the codes of an allowance
abbrev pub codes_of : Allowance → List (List ℕ)
codes_of allowance = map (λ code. code.now) allowance.codes.items

-- the codes that are allowed on a line by the last allowance from that line or one before it on, if there
-- is one, else these
abbrev pub latest : List (List ℕ) → List Allowance → ℕ → List (List ℕ)
latest found [] line = found
latest found (allowance ∷ allowances) line = latest (if nat_le allowance.line line then codes_of allowance else found) allowances line
