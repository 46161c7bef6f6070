-- A set of names after one more was put in, and names each once.
use Rattle.std.proofs.Common.{◌≡◌, ℕ, Bool, true, false, ◌||◌, cond, List, [], ◌∷◌, ◌++◌, filter, refl, sym, ◌∙◌, ap}
use Rattle.std.proofs.Common.{Ordering, Less, Equal, Greater}
use Rattle.std.specs.Ordering.{is_eq, nat_cmp, match_ordering}
use Rattle.std.specs.Cmp.Lexicographic.{slice_cmp, bytes_decides}
use Rattle.std.specs.Str.{bytes_eq}
use Rattle.std.specs.List.{list_any}
use Rattle.std.specs.BTreeSet.{insert_key}
use Rattle.std.proofs.lemmas.Map.Text.{is_eq-slice_cmp}
use Rattle.std.proofs.lemmas.Bool.{false≢true}
use Rattle.base_meaning.specs.Owner.{is_among}
use Rattle.base_meaning.specs.Faults.{distinct_after}

or_twice : (a b : Bool) → (a || b) ≡ (a || (a || b))
or_twice true b = refl
or_twice false b = refl

or_swap : (a b c : Bool) → (a || (b || c)) ≡ (b || (a || c))
or_swap true true c = refl
or_swap true false c = refl
or_swap false b c = refl

-- ---- keys in their order, each with its bytes

module _ {K : Type 0} (bytes : K → List ℕ) where
  -- whether one of the keys has the name
  abbrev pub has_key : List ℕ → List K → Bool
  has_key name keys = list_any (λ key. is_eq (slice_cmp nat_cmp name (bytes key))) keys

  abbrev by_bytes : K → K → Ordering
  by_bytes x y = slice_cmp nat_cmp (bytes x) (bytes y)

  same_key : (name : List ℕ) (k x : K) → is_eq (by_bytes k x) ≡ true → is_eq (slice_cmp nat_cmp name (bytes x)) ≡ bytes_eq name (bytes k)
  same_key name k x e =
      let same : bytes k ≡ bytes x = (bytes_decides (bytes k) (bytes x)).0 (sym (is_eq-slice_cmp (bytes k) (bytes x)) ∙ e) in
      is_eq-slice_cmp name (bytes x) ∙ ap (bytes_eq name) (sym same)

  -- the name put in is among the keys, and each other as before
  pub key_put : (name : List ℕ) (keys : List K) (k : K) → has_key name (insert_key by_bytes keys k) ≡ (bytes_eq name (bytes k) || has_key name keys)
  key_put name [] k = ap (λ b. b || false) (is_eq-slice_cmp name (bytes k))
  key_put name (x ∷ keys) k =
      by_order (by_bytes k x) (same_key name k x) (key_put name keys k)
    where
      by_order : (o : Ordering) → (is_eq o ≡ true → is_eq (slice_cmp nat_cmp name (bytes x)) ≡ bytes_eq name (bytes k))
          → has_key name (insert_key by_bytes keys k) ≡ (bytes_eq name (bytes k) || has_key name keys)
          → has_key name (match_ordering o (k ∷ x ∷ keys) (x ∷ keys) (x ∷ insert_key by_bytes keys k)) ≡ (bytes_eq name (bytes k) || has_key name (x ∷ keys))
      by_order Less same more = ap (λ b. b || has_key name (x ∷ keys)) (is_eq-slice_cmp name (bytes k))
      by_order Equal same more =
          ap (λ b. b || has_key name keys) (same refl)
          ∙ (or_twice (bytes_eq name (bytes k)) (has_key name keys) ∙ ap (λ b. bytes_eq name (bytes k) || (b || has_key name keys)) (sym (same refl)))
      by_order Greater same more =
          ap (λ b. is_eq (slice_cmp nat_cmp name (bytes x)) || b) more
          ∙ or_swap (is_eq (slice_cmp nat_cmp name (bytes x))) (bytes_eq name (bytes k)) (has_key name keys)

-- the names seen are those before
abbrev pub AreSeen : (List ℕ → Bool) → List (List ℕ) → Type 0
AreSeen seen before = (name : List ℕ) → seen name ≡ is_among name before

-- no name that passes the test is there once
pub none_once : (test : List ℕ → Bool) (before names : List (List ℕ)) → list_any test names ≡ false → filter test (distinct_after before names) ≡ []
none_once test before [] none = refl
none_once test before (name ∷ names) none = by_test (test name) refl none (none_once test (before ++ name ∷ []) names) where
  by_place : (b : Bool) → test name ≡ false → filter test (distinct_after (before ++ name ∷ []) names) ≡ []
      → filter test (cond b [] (name ∷ []) ++ distinct_after (before ++ name ∷ []) names) ≡ []
  by_place true fails rest = rest
  by_place false fails rest = rw fails rest

  by_test : (b : Bool) → test name ≡ b → (b || list_any test names) ≡ false
      → (list_any test names ≡ false → filter test (distinct_after (before ++ name ∷ []) names) ≡ [])
      → filter test (distinct_after before (name ∷ names)) ≡ []
  by_test true is e rest = absurd (false≢true (sym e))
  by_test false is e rest = by_place (is_among name before) is (rest e)
