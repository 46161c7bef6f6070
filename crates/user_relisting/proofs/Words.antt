-- Names of letters, digits and `% & * !`, as they stand in items.
use Rattle.std.proofs.Common.{◌≡◌, ℕ, ◌<◌, Bool, true, false, not, ◌==◌, ◌||◌, ◌&&◌, nat_le, List, [], ◌∷◌, ◌++◌, length, Option, Some, None, refl, inl}
use Rattle.std.proofs.Common.{inr, arith}
use Rattle.std.specs.List.{list_all}
use Rattle.std.specs.Str.{bytes_eq}
use Rattle.std.specs.Prelude.{codes, is_none}
use Rattle.std.proofs.lemmas.Bool.{agree_below, agree_below_at, and_parts, and_from, or_parts, or_cases, and_right, not-true, eqb-true, leb-true}
use Rattle.ti_caps.specs.Tables.{capability_named}
use Rattle.ti_spelling.specs.Spelling.{is_empty}
use Rattle.ti_text.specs.WhiteSpace.{is_white_space}
use Rattle.ti_source.specs.Cutting.{last_byte}
use Rattle.ti_source.specs.Items.{is_mark, HasNoMark, IsEnabled}
use Rattle.user_items.specs.Names.{is_user_defined_byte, is_user_defined_name}
use Rattle.tools_relisting.proofs.Cutting.{is_clear, has_no_cut, is_plain, clear-cons}
use Rattle.tools_relisting.proofs.Unfolding.{is_dark, is_inline}
use Rattle.tools_relisting.proofs.Words.{is_word, word-has}

-- a text of bytes of user-defined names
abbrev pub is_named : List ℕ → Bool
is_named w = list_all is_user_defined_byte w

range-small : (a b x : ℕ) → b < 123 → (nat_le a x && nat_le x b) ≡ true → x < 123
range-small a b x small h = let le = leb-true x b (and_parts (nat_le a x) (nat_le x b) h).1 in omega (arith, le, small)

byte-small : (b x : ℕ) → b < 123 → (x == b) ≡ true → x < 123
byte-small b x small h = let e = eqb-true x b h in omega (arith, e, small)

name_byte-small : (x : ℕ) → is_user_defined_byte x ≡ true → x < 123
name_byte-small x h =
    elim (or_cases ((nat_le 97 x && nat_le x 122) || (nat_le 65 x && nat_le x 90) || (nat_le 48 x && nat_le x 57) || x == 37 || x == 38 || x == 42)
    (x == 33) h) [
      | inr b ↦ byte-small 33 x (omega arith) b
      | inl h ↦ elim (or_cases ((nat_le 97 x && nat_le x 122) || (nat_le 65 x && nat_le x 90) || (nat_le 48 x && nat_le x 57) || x == 37 || x == 38)
          (x == 42) h) [
            | inr b ↦ byte-small 42 x (omega arith) b
            | inl h ↦ elim (or_cases ((nat_le 97 x && nat_le x 122) || (nat_le 65 x && nat_le x 90) || (nat_le 48 x && nat_le x 57) || x == 37) (x == 38) h) [
              | inr b ↦ byte-small 38 x (omega arith) b
              | inl h ↦ elim (or_cases ((nat_le 97 x && nat_le x 122) || (nat_le 65 x && nat_le x 90) || (nat_le 48 x && nat_le x 57)) (x == 37) h) [
                | inr b ↦ byte-small 37 x (omega arith) b
                | inl h ↦ elim (or_cases ((nat_le 97 x && nat_le x 122) || (nat_le 65 x && nat_le x 90)) (nat_le 48 x && nat_le x 57) h) [
                  | inr b ↦ range-small 48 57 x (omega arith) b
                  | inl h ↦ elim (or_cases (nat_le 97 x && nat_le x 122) (nat_le 65 x && nat_le x 90) h) [
                    | inl b ↦ range-small 97 122 x (omega arith) b
                    | inr b ↦ range-small 65 90 x (omega arith) b
                  ]
                ]
              ]
            ]
          ]
    ]

implied : (b c : Bool) → not b || c ≡ true → b ≡ true → c ≡ true
implied true c h t = h
implied false c h t = cc

-- a test that each such byte passes
pub name_byte-has : (P : ℕ → Bool) → agree_below (λ b. not (is_user_defined_byte b) || P b) (λ b. true) 123 ≡ true → (x : ℕ) → is_user_defined_byte x ≡ true
    → P x ≡ true
name_byte-has P all x h =
    implied (is_user_defined_byte x) (P x) (agree_below_at (λ b. not (is_user_defined_byte b) || P b) (λ b. true) 123 x all (name_byte-small x h)) h

name-has : (P : ℕ → Bool) → agree_below (λ b. not (is_user_defined_byte b) || P b) (λ b. true) 123 ≡ true → (w : List ℕ) → is_named w ≡ true
    → list_all P w ≡ true
name-has P all [] h = refl
name-has P all (x ∷ xs) h =
    let parts = and_parts (is_user_defined_byte x) (is_named xs) h in
    and_from (P x) (list_all P xs) (name_byte-has P all x parts.0) (name-has P all xs parts.1)

-- ---- what such texts have

pub name-inline : (w : List ℕ) → is_named w ≡ true → is_inline w ≡ true
name-inline w h = name-has (λ b. not (b == 10)) refl w h

pub name-no_cut : (w : List ℕ) → is_named w ≡ true → has_no_cut w ≡ true
name-no_cut w h = name-has (λ b. not (b == 44) && not (b == 92)) refl w h

abbrev never_taken : ℕ → Bool
never_taken x = not (x == 44) && not (x == 92 || x == 94)

never_taken-plain : (before x : ℕ) → never_taken x ≡ true → is_plain before x ≡ true
never_taken-plain before x h =
    let parts = and_parts (not (x == 44)) (not (x == 92 || x == 94)) h in
    let none = or_parts (x == 92) (x == 94) (not-true (x == 92 || x == 94) parts.1) in
    rw (parts.0, none.0, none.1) refl

pub name-clear : (before : ℕ) (w : List ℕ) → is_named w ≡ true → is_clear before w ≡ true
name-clear before [] h = refl
name-clear before (x ∷ xs) h =
    let parts = and_parts (is_user_defined_byte x) (is_named xs) h in
    clear-cons before x xs (never_taken-plain before x (name_byte-has never_taken refl x parts.0)) (name-clear x xs parts.1)

pub name-dark : (w rest : List ℕ) → is_empty w ≡ false → is_named w ≡ true → is_dark (w ++ rest) ≡ true
name-dark [] rest some h = cc
name-dark (x ∷ xs) rest some h = name_byte-has (λ x. not (x == 10 || is_white_space x)) refl x (and_parts (is_user_defined_byte x) (is_named xs) h).0

pub name-enabled : (w rest : List ℕ) → is_empty w ≡ false → is_named w ≡ true → IsEnabled (w ++ rest)
name-enabled [] rest some h = cc
name-enabled (x ∷ xs) rest some h = not-true (x == 46) (name_byte-has (λ x. not (x == 46)) refl x (and_parts (is_user_defined_byte x) (is_named xs) h).0)

pub name-no_mark : (w : List ℕ) → is_named w ≡ true → HasNoMark w
name-no_mark [] h = tt
name-no_mark (x ∷ xs) h =
    let parts = and_parts (is_user_defined_byte x) (is_named xs) h in
    (not-true (is_mark x) (name_byte-has (λ x. not (is_mark x)) refl x parts.0), name-no_mark xs parts.1)

name-last : (P : ℕ → Bool) → agree_below (λ b. not (is_user_defined_byte b) || P b) (λ b. true) 123 ≡ true → (before : ℕ) (w : List ℕ) → is_empty w ≡ false
    → is_named w ≡ true
    → P (last_byte before w) ≡ true
name-last P all before [] some h = cc
name-last P all before (x ∷ []) some h = name_byte-has P all x (and_parts (is_user_defined_byte x) true h).0
name-last P all before (x ∷ y ∷ xs) some h = name-last P all x (y ∷ xs) refl (and_parts (is_user_defined_byte x) (is_named (y ∷ xs)) h).1

pub name-visible : (w : List ℕ) → is_empty w ≡ false → is_named w ≡ true → is_white_space (last_byte 64 w) ≡ false
name-visible w some h = not-true (is_white_space (last_byte 64 w)) (name-last (λ x. not (is_white_space x)) refl 64 w some h)

pub name-unmarked : (w : List ℕ) → is_empty w ≡ false → is_named w ≡ true → (last_byte 64 w == 64) ≡ false
name-unmarked w some h = not-true (last_byte 64 w == 64) (name-last (λ x. not (x == 64)) refl 64 w some h)

-- ---- which texts are

-- letters and digits
pub word-named : (w : List ℕ) → is_word w ≡ true → is_named w ≡ true
word-named w h = word-has is_user_defined_byte refl w h

-- what is known of a name in an item: it is not empty, has such bytes, and is not `use`
pub record IsGoodName (name : List ℕ) : Type 0 where
  pub some : is_empty name ≡ false
  pub named : is_named name ≡ true
  pub other : bytes_eq name (codes "use") ≡ false

empty-by-length : (w : List ℕ) → (length w == 0) ≡ false → is_empty w ≡ false
empty-by-length [] e = e
empty-by-length (x ∷ xs) e = refl

-- a user-defined name is one
pub user-good : (name : List ℕ) → is_user_defined_name name ≡ true → IsGoodName name
unfolding is_user_defined_name
user-good name h =
    let first = and_parts (not (length name == 0))
    (list_all is_user_defined_byte name && (not (bytes_eq name (codes "use")) && is_none (capability_named name))) h in
    let second = and_parts (list_all is_user_defined_byte name) (not (bytes_eq name (codes "use")) && is_none (capability_named name)) first.1 in
    let third = and_parts (not (bytes_eq name (codes "use"))) (is_none (capability_named name)) second.1 in
    record { some = empty-by-length name (not-true (length name == 0) first.0); named = second.0; other = not-true (bytes_eq name (codes "use")) third.0 }

-- the name of a capability is not user-defined
pub found-not : (name : List ℕ) → is_none (capability_named name) ≡ false → is_user_defined_name name ≡ false
unfolding is_user_defined_name
found-not name h =
    and_right (not (length name == 0)) (list_all is_user_defined_byte name && (not (bytes_eq name (codes "use")) && is_none (capability_named name)))
    (and_right (list_all is_user_defined_byte name) (not (bytes_eq name (codes "use")) && is_none (capability_named name)) (and_right (not (bytes_eq name
    (codes "use"))) (is_none (capability_named name)) h))

none-is : {X : Type 0} (o : Option X) → is_none o ≡ true → o ≡ None
none-is None e = refl
none-is (Some x) e = cc

-- no capability has a user-defined name
pub user-unknown : (name : List ℕ) → is_user_defined_name name ≡ true → capability_named name ≡ None
unfolding is_user_defined_name
user-unknown name h =
    let first = and_parts (not (length name == 0))
    (list_all is_user_defined_byte name && (not (bytes_eq name (codes "use")) && is_none (capability_named name))) h in
    let second = and_parts (list_all is_user_defined_byte name) (not (bytes_eq name (codes "use")) && is_none (capability_named name)) first.1 in
    let third = and_parts (not (bytes_eq name (codes "use"))) (is_none (capability_named name)) second.1 in
    none-is (capability_named name) third.1
