-- Whether words need user-defined capabilities.
use Rattle.std.proofs.Common.{◌≡◌, ℕ, ◌<◌, ◌&&◌, Bool, false, not, List, [], ◌∷◌, length, map, refl, arith}
use Rattle.std.specs.Prelude.{bytes_eq, codes, nat_lt}
use Rattle.ti_layout.specs.View.{Entry}
use Rattle.everyday_tput.specs.Answers.{without_extension}
use Rattle.everyday_tput.specs.Commands.{NeedsExtension, Takes, by_words, is_unknown_to_tables, one_name}

pub map_nil : {A B : Type 0} (f : A → B) (xs : List A) → length xs ≡ 0 → map f xs ≡ []
map_nil f [] none = refl
map_nil f (x ∷ xs) none = absurd (omega arith)

module _ (entry : Entry) (keeps : Bool) (cap : List ℕ) (known : is_unknown_to_tables cap ≡ false)
    (kept : (bytes_eq cap (codes "clear") && not keeps) ≡ false) where
  pub one : (others : List (List ℕ)) → length others ≡ 0 → NeedsExtension entry keeps (cap ∷ others) false
  one [] none = one_name known kept
  one (word ∷ words) none = absurd (omega arith)

  pub more : (others : List (List ℕ)) (n : ℕ) → 0 < length others → Takes (without_extension entry) cap n
      → NeedsExtension entry keeps (cap ∷ others) (nat_lt n (length others))
  more [] n some takes = absurd (omega arith)
  more (word ∷ words) n some takes = by_words known kept takes
