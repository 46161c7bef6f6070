-- An index of a list of words: the keys of the words in rising order, and beside each key the last
-- place of its word (own). A look-up compares the word that it finds, so that words may share a key
-- only with words of no list.
use Rattle.std.specs.Prelude.{◌≡◌, ℕ, zero, suc, ◌+◌, ◌*◌, ◌%◌, ◌^◌, ◌<◌, ◌≤◌, Bool, true, ◌&&◌, nat_lt, List, [], ◌∷◌, length, map, slice_index_or, Contains}
use Rattle.std.specs.Borrow.{Bor}

-- the given number of bytes of a word as the digits of a number to the base 257, modulo 2 ^ 32
abbrev pub key_up_to : ℕ → List ℕ → ℕ
key_up_to zero word = 0
key_up_to (suc n) word = (key_up_to n word * 257 % 2 ^ 32 + slice_index_or word n 0) % 2 ^ 32

-- the key of a word
unfoldable pub key_of : List ℕ → ℕ
key_of word = key_up_to (length word) word

-- the texts of a slice of texts
abbrev pub texts_of : List (Bor (List ℕ)) → List (List ℕ)
texts_of ts = map (λ t. t.now) ts

-- the word at a place of a list
abbrev pub word_at : List (List ℕ) → ℕ → List ℕ
word_at words place = slice_index_or words place []

-- numbers that rise from one to the next
abbrev pub climbs_from : ℕ → List ℕ → Bool
climbs_from x [] = true
climbs_from x (y ∷ ys) = nat_lt x y && climbs_from y ys

abbrev pub climbs : List ℕ → Bool
climbs [] = true
climbs (x ∷ xs) = climbs_from x xs

-- a row of the index has the word, at the same place of the list or a later one
pub record IsIndexed (words : List (List ℕ)) (places : List ℕ) (i : ℕ) : Type 0 where
  pub place : ℕ
  pub listed : Contains places place
  pub later : i ≤ place
  pub same : word_at words place ≡ word_at words i

-- the keys rise, each is that of the word at its place, and each word of the list has a row
pub record IsIndex (words : List (List ℕ)) (keys places : List ℕ) : Type 0 where
  pub rise : climbs keys ≡ true
  pub keyed : keys ≡ map (λ p. key_of (word_at words p)) places
  pub within : (row : ℕ) → row < length places → slice_index_or places row 0 < length words
  pub all : (i : ℕ) → i < length words → IsIndexed words places i
