-- Ids that a search adds after others.
use Rattle.std.proofs.Common.{◌≡◌, ℕ, ◌⊎◌, inl, inr, ◌≤◌, cond, List, [], ◌∷◌, ◌++◌, length, take, nat_eq, refl, sym, ◌∙◌, ap, subst, append_assoc, append-nil}
use Rattle.std.specs.List.{list_any}
use Rattle.std.proofs.lemmas.Bool.{cases_Bool}
use Rattle.std.proofs.lemmas.List.{take_all}
use Rattle.ti_text.specs.Lists.{Has}
use Rattle.ti_text.proofs.Lists.{get_front, push_cases, get_last, Has_front, Has_last, Has_split, Has_one, Has_none, Has_from_any}
use Rattle.base_slots.specs.declared.slots.Slots.{Slots}
use Rattle.base_slots.specs.Slots.{users_of, reading_at, IsOwnerId}
use Rattle.base_dependents.specs.inside.Search.{AddsPassing, IsUserOf, IsUserOfOne, IsUserOfOwned, IsPutOrUser}

pub adds_none : (A : ℕ → Type 0) (xs : List ℕ) → ((id : ℕ) → A id → ⊥) → AddsPassing A xs xs
adds_none A xs none = record {
  added = [];
  behind = sym (append-nil xs);
  only = λ id h. absurd (Has_none id h);
  all = λ id a. absurd (none id a);
}

pub adds_same : (A B : ℕ → Type 0) (xs ys : List ℕ) → AddsPassing A xs ys → ((id : ℕ) → A id → B id) → ((id : ℕ) → B id → A id) → AddsPassing B xs ys
adds_same A B xs ys h to from = record {
  added = h.added;
  behind = h.behind;
  only = λ id a. to id (h.only id a);
  all = λ id b. h.all id (from id b);
}

-- what is added in two steps
pub adds_more : (A B C : ℕ → Type 0) (xs ys zs : List ℕ) → AddsPassing A xs ys → AddsPassing B ys zs → ((id : ℕ) → A id → C id) → ((id : ℕ) → B id → C id)
    → ((id : ℕ) → C id → A id ⊎ B id) → AddsPassing C xs zs
adds_more A B C xs ys zs h k one two either = record {
  added = h.added ++ k.added;
  behind = k.behind ∙ (ap (λ us. us ++ k.added) h.behind ∙ append_assoc xs h.added k.added);
  only = λ id a. elim (Has_split h.added k.added id a) [ inl first ↦ one id (h.only id first) | inr then ↦ two id (k.only id then) ];
  all = λ id c. elim (either id c) [
    | inl a ↦ rw k.behind (Has_front ys k.added id (h.all id a))
    | inr b ↦ k.all id b
  ];
}

-- one id, if it is not there yet
pub adds_one : (xs ys : List ℕ) (q : ℕ) → ys ≡ cond (list_any (nat_eq q) xs) xs (xs ++ q ∷ []) → AddsPassing (λ id. id ≡ q) xs ys
adds_one xs ys q e =
    elim (cases_Bool (list_any (nat_eq q) xs)) [
      | inl there ↦
          let same : ys ≡ xs = rw there at e in
          rw same (record {
            added = [];
            behind = sym (append-nil xs);
            only = λ id h. absurd (Has_none id h);
            all = λ id i. rw i (Has_from_any xs q there);
          })
      | inr fresh ↦
          let grown : ys ≡ xs ++ q ∷ [] = rw fresh at e in
          rw grown (record {
            added = q ∷ [];
            behind = refl;
            only = λ id h. Has_one q id h;
            all = λ id i. rw i (Has_last xs q);
          })
    ]

-- ---- one more of a list of ids

pub adds_item : (users : List ℕ) (user : ℕ) (xs ys zs : List ℕ) → AddsPassing (Has users) xs ys → zs ≡ cond (list_any (nat_eq user) ys) ys (ys ++ user ∷ [])
    → AddsPassing (Has (users ++ user ∷ [])) xs zs
adds_item users user xs ys zs h e =
    adds_more (Has users) (λ id. id ≡ user) (Has (users ++ user ∷ [])) xs ys zs h (adds_one ys zs user e)
    (Has_front users (user ∷ []))
    (λ id same. rw same (Has_last users user))
    (λ id a. elim (Has_split users (user ∷ []) id a) [ inl before ↦ inl before | inr here ↦ inr (Has_one user id here) ])

-- all of them
pub adds_all : (slots : Slots) (name users : List ℕ) (k : ℕ) (xs ys : List ℕ) → users ≡ users_of slots name → length users ≤ k
    → AddsPassing (Has (take k users)) xs ys → AddsPassing (IsUserOf slots name) xs ys
adds_all slots name users k xs ys e l h =
    let P : List ℕ → Type 0 = λ us. AddsPassing (Has us) xs ys in subst P (take_all k users l ∙ e) h

-- ---- one more of a list of names

one_front : (slots : Slots) (names : List (List ℕ)) (name : List ℕ) (id : ℕ) → IsUserOfOne slots names id → IsUserOfOne slots (names ++ name ∷ []) id
one_front slots names name id h = (h.0, h.1, get_front names (name ∷ []) h.0 h.1 h.2, h.3)

pub adds_users : (slots : Slots) (names : List (List ℕ)) (name : List ℕ) (xs ys zs : List ℕ) → AddsPassing (IsUserOfOne slots names) xs ys
    → AddsPassing (IsUserOf slots name) ys zs → AddsPassing (IsUserOfOne slots (names ++ name ∷ [])) xs zs
adds_users slots names name xs ys zs h k =
    adds_more (IsUserOfOne slots names) (IsUserOf slots name) (IsUserOfOne slots (names ++ name ∷ [])) xs ys zs h k
    (one_front slots names name)
    (λ id u. (_, name, get_last names name, u))
    (λ id a. elim (push_cases names name a.0 a.1 a.2) [
      | inl before ↦ inl (a.0, a.1, before, a.3)
      | inr last ↦ inr (rw (← last.1) a.3)
    ])

pub adds_owned : (slots : Slots) (holder : ℕ) (names : List (List ℕ)) (name : List ℕ) (xs ys zs : List ℕ)
    → AddsPassing (IsUserOfOwned slots holder names) xs ys → IsOwnerId slots name holder → AddsPassing (IsUserOf slots name) ys zs
    → AddsPassing (IsUserOfOwned slots holder (names ++ name ∷ [])) xs zs
adds_owned slots holder names name xs ys zs h first k =
    adds_more (IsUserOfOwned slots holder names) (IsUserOf slots name) (IsUserOfOwned slots holder (names ++ name ∷ [])) xs ys zs h k
    (λ id a. (a.0, a.1, get_front names (name ∷ []) a.0 a.1 a.2, a.3, a.4))
    (λ id u. (_, name, get_last names name, first, u))
    (λ id a. elim (push_cases names name a.0 a.1 a.2) [
      | inl before ↦ inl (a.0, a.1, before, a.3, a.4)
      | inr last ↦ inr (rw (← last.1) a.4)
    ])

-- a name that another block owns adds nothing
pub adds_not_owned : (slots : Slots) (holder : ℕ) (names : List (List ℕ)) (name : List ℕ) (xs ys : List ℕ)
    → AddsPassing (IsUserOfOwned slots holder names) xs ys → (IsOwnerId slots name holder → ⊥)
    → AddsPassing (IsUserOfOwned slots holder (names ++ name ∷ [])) xs ys
adds_not_owned slots holder names name xs ys h other =
    adds_same (IsUserOfOwned slots holder names) (IsUserOfOwned slots holder (names ++ name ∷ [])) xs ys h
    (λ id a. (a.0, a.1, get_front names (name ∷ []) a.0 a.1 a.2, a.3, a.4))
    (λ id a. elim (push_cases names name a.0 a.1 a.2) [
      | inl before ↦ (a.0, a.1, before, a.3, a.4)
      | inr last ↦ absurd (other (rw (← last.1) a.3))
    ])

-- ---- a name in two spellings

pub adds_users_of : (slots : Slots) (names : List (List ℕ)) (name other : List ℕ) (xs ys zs : List ℕ) → AddsPassing (IsUserOfOne slots names) xs ys
    → other ≡ name → AddsPassing (IsUserOf slots other) ys zs → AddsPassing (IsUserOfOne slots (names ++ name ∷ [])) xs zs
adds_users_of slots names name other xs ys zs h same k =
    adds_users slots names name xs ys zs h (let P : List ℕ → Type 0 = λ n. AddsPassing (IsUserOf slots n) ys zs in subst P same k)

pub adds_owned_of : (slots : Slots) (holder : ℕ) (names : List (List ℕ)) (name one other : List ℕ) (xs ys zs : List ℕ)
    → AddsPassing (IsUserOfOwned slots holder names) xs ys → one ≡ name → IsOwnerId slots one holder → other ≡ name
    → AddsPassing (IsUserOf slots other) ys zs → AddsPassing (IsUserOfOwned slots holder (names ++ name ∷ [])) xs zs
adds_owned_of slots holder names name one other xs ys zs h same first also k =
    adds_owned slots holder names name xs ys zs h
    (let P : List ℕ → Type 0 = λ n. IsOwnerId slots n holder in subst P same first)
    (let P : List ℕ → Type 0 = λ n. AddsPassing (IsUserOf slots n) ys zs in subst P also k)

pub adds_not_owned_of : (slots : Slots) (holder : ℕ) (names : List (List ℕ)) (name one : List ℕ) (xs ys : List ℕ)
    → AddsPassing (IsUserOfOwned slots holder names) xs ys → one ≡ name → (IsOwnerId slots one holder → ⊥)
    → AddsPassing (IsUserOfOwned slots holder (names ++ name ∷ [])) xs ys
adds_not_owned_of slots holder names name one xs ys h same other =
    adds_not_owned slots holder names name xs ys h (let P : List ℕ → Type 0 = λ n. IsOwnerId slots n holder → ⊥ in subst P same other)

-- ---- a block and the users of its names

pub adds_with_users : (slots : Slots) (put : ℕ) (names : List (List ℕ)) (xs ys zs : List ℕ) → ys ≡ cond (list_any (nat_eq put) xs) xs (xs ++ put ∷ [])
    → AddsPassing (IsUserOfOne slots names) ys zs → names ≡ (reading_at slots put).names → AddsPassing (IsPutOrUser slots put) xs zs
adds_with_users slots put names xs ys zs e h same =
    adds_more (λ id. id ≡ put) (IsUserOfOne slots names) (IsPutOrUser slots put) xs ys zs (adds_one xs ys put e) h
    (λ id one. inl one)
    (λ id u. inr (let P : List (List ℕ) → Type 0 = λ ns. IsUserOfOne slots ns id in subst P same u))
    (λ id a. elim a [
      | inl one ↦ inl one
      | inr u ↦ inr (let P : List (List ℕ) → Type 0 = λ ns. IsUserOfOne slots ns id in subst P (sym same) u)
    ])
