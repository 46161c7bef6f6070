-- Texts that are appended one after another.
use Rattle.std.proofs.Common.{◌≡◌, ◌+◌, ◌<◌, ◌≤◌, ℕ, List, ◌++◌, drop, map, length, get_or, sym, ap, ◌∙◌, append_assoc, append-nil}
use Rattle.std.specs.List.{concat, flat_map}
use Rattle.std.proofs.lemmas.List.{drop_all}
use Rattle.everyday_sources.proofs.Finding.{left}

module _ {X Y Z : Type 0} (see : X → Y) (text_of : Y → List Z) where
  -- after the text of one was appended, what is still to come is as it was
  pub in_turn : (xs : List X) (i : ℕ) (x : X) (before after all : List Z) → i < length xs → x ≡ get_or xs i x → after ≡ before ++ text_of (see x)
      → before ++ flat_map text_of (map see (drop i xs)) ≡ all → after ++ flat_map text_of (map see (drop (i + 1) xs)) ≡ all
  in_turn xs i x before after all low is appended so_far =
      rw (appended, append_assoc) (ap (λ (ys : List X). before ++ flat_map text_of (map see ys)) (sym (left xs i x low is)) ∙ so_far)

  -- after the last, all is there
  pub all_in_turn : (xs : List X) (i : ℕ) (before all : List Z) → length xs ≤ i → before ++ flat_map text_of (map see (drop i xs)) ≡ all → before ≡ all
  all_in_turn xs i before all past so_far =
      sym (append-nil before) ∙ ap (λ (ys : List X). before ++ flat_map text_of (map see ys)) (sym (drop_all i xs past)) ∙ so_far

-- parts of a text
pub part_in_turn : {X : Type 0} (see : X → List ℕ) (xs : List X) (i : ℕ) (x : X) (before after all : List ℕ) → i < length xs → x ≡ get_or xs i x
    → after ≡ before ++ see x → before ++ concat (map see (drop i xs)) ≡ all → after ++ concat (map see (drop (i + 1) xs)) ≡ all
part_in_turn {X} see xs i x before after all low is appended so_far =
    rw (appended, append_assoc) (ap (λ (ys : List X). before ++ concat (map see ys)) (sym (left xs i x low is)) ∙ so_far)

pub all_parts : {X : Type 0} (see : X → List ℕ) (xs : List X) (i : ℕ) (before all : List ℕ) → length xs ≤ i
    → before ++ concat (map see (drop i xs)) ≡ all → before ≡ all
all_parts {X} see xs i before all past so_far =
    sym (append-nil before) ∙ ap (λ (ys : List X). before ++ concat (map see ys)) (sym (drop_all i xs past)) ∙ so_far
