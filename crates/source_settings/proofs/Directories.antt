-- The directory of a file.
use Rattle.std.proofs.Common.{◌≡◌, ◌≢◌, ℕ, zero, suc, ◌<◌, ◌==◌, List, [], ◌∷◌, get_or, length, take, true, false, refl, ap, arith, inl, inr, ne_eqb, eq-eqb}
use Rattle.std.proofs.lemmas.Bool.{cases_Bool}
use Rattle.std.specs.List.{list_any}
use Rattle.source_settings.specs.Finding.{directory_of}

none : (path : List ℕ) → ((at : ℕ) → at < length path → get_or path at 0 ≢ 47) → list_any (λ (b : ℕ). b == 47) path ≡ false
none [] h = refl
none (byte ∷ path) h = rw (ne_eqb byte 47 (h 0 (omega arith))) (none path (λ at inside. h (suc at) (omega (arith, inside))))

pub no_directory : (path : List ℕ) → ((at : ℕ) → at < length path → get_or path at 0 ≢ 47) → directory_of path ≡ []
no_directory [] h = refl
no_directory (byte ∷ path) h = rw (none (byte ∷ path) h) refl

some : (path : List ℕ) (at : ℕ) → at < length path → get_or path at 0 ≡ 47 → list_any (λ (b : ℕ). b == 47) path ≡ true
some [] at inside is = absurd (omega (arith, inside))
some (byte ∷ path) zero inside is = rw (eq-eqb byte 47 is) refl
some (byte ∷ path) (suc at) inside is = elim (cases_Bool (byte == 47)) [
  | inl slash ↦ rw slash refl
  | inr other ↦ rw other (some path at (omega (arith, inside)) is)
]

pub directory_to : (path : List ℕ) (at : ℕ) → at < length path → get_or path at 0 ≡ 47
    → ((later : ℕ) → at < later → later < length path → get_or path later 0 ≢ 47) → directory_of path ≡ take (suc at) path
directory_to [] at inside is last = absurd (omega (arith, inside))
directory_to (byte ∷ path) zero inside is last =
    rw (some (byte ∷ path) zero inside is) (ap (λ (rest : List ℕ). byte ∷ rest) (no_directory path (λ later within. last (suc later) (omega arith) (omega (arith, within)))))
directory_to (byte ∷ path) (suc at) inside is last =
    rw (some (byte ∷ path) (suc at) inside is)
    (ap (λ (rest : List ℕ). byte ∷ rest)
    (directory_to path at (omega (arith, inside)) is (λ later after within. last (suc later) (omega (arith, after)) (omega (arith, within)))))
