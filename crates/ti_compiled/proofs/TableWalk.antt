-- A walk over the entries of a table, by which what is held of each capability becomes what is
-- wanted.
use Rattle.std.proofs.Common.{◌≡◌, ◌≢◌, ℕ, ◌+◌, ◌<◌, ◌≤◌, true, false, List, length, get_or, Option, Some, None, refl, sym, ap, ◌∙◌, subst, arith, inl, inr}
use Rattle.std.proofs.lemmas.Bool.{cases_lt}
use Rattle.std.proofs.lemmas.List.{get_or_default, length-map}
use Rattle.ti_caps.specs.Tables.{Capability, IsCapability, same_capability}
use Rattle.ti_caps.proofs.Same.{same_capability-true}
use Rattle.ti_layout.specs.Laws.{without_cancel}
use Rattle.ti_layout.specs.Values.{Content, Contents, Mention, Agrees, IsSorted, contents, content_of, entries_of}
use Rattle.ti_layout.specs.declared.values.Value.{Value}
use Rattle.ti_layout.proofs.SortedEntries.{contents_nowhere, other_from_test}
use Rattle.ti_layout.proofs.Searched.{elsewhere}
use Rattle.ti_layout.proofs.Walked.{contents_read, item_read}
use Rattle.ti_compiled.specs.Changes.{HoldsGiven}
use Rattle.ti_compiled.specs.inside.Changes.{IsLeft, IsSameBut}
use Rattle.ti_compiled.specs.Image.{NamedTable, held_by}
use Rattle.ti_compiled.proofs.Given.{given_here, given_other}

-- what is held of a capability is what is wanted
abbrev pub Wanted : Type 1
Wanted = Capability → Option Content → Type 0

-- the places of the entries that a walk has still to come to
abbrev pub Indices : Type 1
Indices = ℕ → Type 0

abbrev pub from : ℕ → Indices
from k m = k ≤ m

abbrev pub below : ℕ → Indices
below k m = m < k

-- no entry at such a place is of the capability
abbrev pub IsAtNone : List Mention → Indices → Capability → Type 0
IsAtNone es left c = (m : ℕ) (e : Mention) → left m → m < length es → (get_or es m e).0 ≢ c

-- of the entries that are left, what is held is as it was at first, and of every other capability
-- as it is at last
pub record Walks (es : List Mention) (first last : Wanted) (held : Contents) (left : Indices) : Type 0 where
  pub ahead : (m : ℕ) (e : Mention) → left m → m < length es → first (get_or es m e).0 (held (get_or es m e).0)
  pub behind : (c : Capability) → IsCapability c → IsAtNone es left c → last c (held c)

-- one place less is left
pub record Passes (left later : Indices) (k : ℕ) : Type 0 where
  pub was_left : (m : ℕ) → later m → left m
  pub is_passed : (m : ℕ) → later m → m ≢ k
  pub stays : (m : ℕ) → left m → m ≢ k → later m

pub passes_up : (k : ℕ) → Passes (from k) (from (k + 1)) k
passes_up k = record {
  was_left = λ m le. omega arith;
  is_passed = λ m le e. omega arith;
  stays =
      λ m le other. elim (cases_lt k m) [ inl lt ↦ omega arith | inr not_lt ↦ absurd (other (omega arith)) ];
}

pub passes_down : (k j : ℕ) → k ≡ j + 1 → Passes (below k) (below j) j
passes_down k j e = record {
  was_left = λ m lt. omega arith;
  is_passed = λ m lt s. omega arith;
  stays =
      λ m lt other. elim (cases_lt m j) [ inl under ↦ under | inr not_under ↦ absurd (other (omega arith)) ];
}

module _ (es : List Mention) (sorted : IsSorted es) (first last : Wanted) where
  pub walk_begins : (held : Contents) (left : Indices) → ((m : ℕ) → m < length es → left m) → ((c : Capability) → IsCapability c → first c (held c))
      → ((c : Capability) → contents es c ≡ None → first c (held c) → last c (held c)) → Walks es first last held left
  walk_begins held left all at_first quiet = record {
    ahead = λ m e here lt. at_first (get_or es m e).0 (sorted.agree m e lt).0;
    behind = λ c valid apart. quiet c (contents_nowhere es c (λ m e lt. apart m e (all m lt) lt)) (at_first c valid);
  }

  module _ (held : Contents) (left later : Indices) (k : ℕ) (passes : Passes left later k) (here : left k) (x : Mention) (within : k < length es)
      (is : get_or es k x ≡ x) (walks : Walks es first last held left) where
    read_here : (e : Mention) → get_or es k e ≡ x
    read_here e = get_or_default es k e x within ∙ is

    pub first_here : first x.0 (held x.0)
    first_here = subst (λ (y : Mention). first y.0 (held y.0)) is (walks.ahead k x here within)

    apart_elsewhere : (m : ℕ) (e : Mention) → m ≢ k → m < length es → (get_or es m e).0 ≢ x.0
    apart_elsewhere m e other lt = elsewhere es sorted x.0 k (record { in_range = within; is_here = λ d. ap (λ (y : Mention). y.0) (read_here d) }) m e other lt

    at_none : (c : Capability) → x.0 ≢ c → IsAtNone es later c → IsAtNone es left c
    at_none c other apart m d was lt = elim (cases_lt m k) [
      | inl under ↦ apart m d (passes.stays m was (λ e. omega arith)) lt
      | inr not_under ↦ elim (cases_lt k m) [
        | inl over ↦ apart m d (passes.stays m was (λ e. omega arith)) lt
        | inr not_over ↦ let s : k ≡ m = omega arith in λ one. other (sym (ap (λ (y : Mention). y.0) (subst (λ n. get_or es n d ≡ x) s (read_here d))) ∙ one)
      ]
    ]

    pub walk_goes_on : (after : Contents) → last x.0 (after x.0) → ((c : Capability) → IsCapability c → c ≢ x.0 → after c ≡ held c)
        → Walks es first last after later
    walk_goes_on after done others = record {
      ahead = λ m e is_left lt.
          let c = (get_or es m e).0 in
          subst (first c) (sym (others c (sorted.agree m e lt).0 (apart_elsewhere m e (passes.is_passed m is_left) lt)))
          (walks.ahead m e (passes.was_left m is_left) lt);
      behind = λ c valid apart. elim (same_capability x.0 c) as (λ b. same_capability x.0 c ≡ b → last c (after c)) [
        | true ↦ λ e. subst (λ d. last d (after d)) (same_capability-true x.0 c e) done
        | false ↦ λ e.
            let other : x.0 ≢ c = other_from_test x.0 c e in
            subst (last c) (sym (others c valid (λ s. other (sym s)))) (walks.behind c valid (at_none c other apart))
      ] refl;
    }

  pub walk_ends : (held : Contents) (left : Indices) → ((m : ℕ) → left m → m < length es → ⊥) → Walks es first last held left → (c : Capability)
      → IsCapability c → last c (held c)
  walk_ends held left none walks c valid = walks.behind c valid (λ m e here lt. absurd (none m here lt))

-- ---- one capability given another content

module _ (old new : NamedTable) (cap : Capability) (content : Option Content) (given : HoldsGiven old new cap content) where
  pub same_but : IsSameBut old new cap
  same_but = record { says = λ c valid other. given.says c valid ∙ given_other (held_by old) cap content c other }

  pub content_given : IsCapability cap → held_by new cap ≡ content
  content_given valid = given.says cap valid ∙ given_here (held_by old) cap content

-- ---- the two walks of a patch

-- what is held is what the contents say of a capability
abbrev pub says : Contents → Wanted
says contents c held = held ≡ without_cancel (contents c)

-- what is held is what is left after all that changes is taken away
abbrev pub leaves : Contents → Contents → Wanted
leaves old new c held = IsLeft (old c) (new c) held

-- of a capability of which the old table says nothing, nothing is held, and nothing goes
pub nothing_goes : (old new : Contents) (c : Capability) (held : Option Content) → old c ≡ None → says old c held → leaves old new c held
nothing_goes old new c held none said = record { same = λ e. said ∙ ap without_cancel e; gone = λ other. said ∙ ap without_cancel none }

is_none : (o held : Option Content) → (o ≡ None → held ≡ None) → (o ≢ None → held ≡ None) → held ≡ None
is_none None held at_none at_some = at_none refl
is_none (Some v) held at_none at_some = at_some (λ e. cc)

-- of a capability of which the new table says nothing, nothing is left
pub nothing_comes : (old new : Contents) (c : Capability) (held : Option Content) → new c ≡ None → leaves old new c held → says new c held
nothing_comes old new c held none left =
    is_none (old c) held (λ e. left.same (e ∙ sym none) ∙ ap without_cancel none) (λ other. left.gone (λ e. other (e ∙ none)))
    ∙ sym (ap without_cancel none)

-- ---- the walks over slices

module _ (xs : List (Capability × Value)) (sorted : IsSorted (entries_of xs)) (k : ℕ) (x : Capability × Value) (within : k < length xs)
    (item : x ≡ get_or xs k x) where
  inside : k < length (entries_of xs)
  inside = rw length-map within

  pub entry_agrees : Agrees x.0 (content_of x.1)
  entry_agrees = (subst (λ (y : Mention). IsCapability y.0 × Agrees y.0 y.1) (item_read xs k x within item) (sorted.agree k (x.0, content_of x.1) inside)).1

  entry_said : contents (entries_of xs) x.0 ≡ Some (content_of x.1)
  entry_said = let e : Mention = (x.0, content_of x.1) in subst (λ (y : Mention). contents (entries_of xs) y.0 ≡ Some y.1) (item_read xs k x within item)
      (contents_read (entries_of xs) sorted k e inside)

  module _ (other held : Contents) (left later : Indices) (passes : Passes left later k) (here : left k) where
    module _ (walks : Walks (entries_of xs) (says (contents (entries_of xs))) (leaves (contents (entries_of xs)) other) held left) where
      pub old_held : held x.0 ≡ without_cancel (Some (content_of x.1))
      old_held = first_here (entries_of xs) sorted _ _ held left later k passes here (x.0, content_of x.1) inside (item_read xs k x within item) walks
          ∙ ap without_cancel entry_said

      pub one_taken_away : (after : Contents) → IsLeft (Some (content_of x.1)) (other x.0) (after x.0)
          → ((c : Capability) → IsCapability c → c ≢ x.0 → after c ≡ held c)
          → Walks (entries_of xs) (says (contents (entries_of xs))) (leaves (contents (entries_of xs)) other) after later
      one_taken_away after is_left same_elsewhere =
          walk_goes_on (entries_of xs) sorted _ _ held left later k passes here (x.0, content_of x.1) inside (item_read xs k x within item) walks after
          (subst (λ o. IsLeft o (other x.0) (after x.0)) (sym entry_said) is_left) same_elsewhere

    module _ (walks : Walks (entries_of xs) (leaves other (contents (entries_of xs))) (says (contents (entries_of xs))) held left) where
      pub old_left : IsLeft (other x.0) (Some (content_of x.1)) (held x.0)
      old_left = subst (λ o. IsLeft (other x.0) o (held x.0)) entry_said
          (first_here (entries_of xs) sorted _ _ held left later k passes here (x.0, content_of x.1) inside (item_read xs k x within item) walks)

      pub one_given : (after : Contents) → after x.0 ≡ without_cancel (Some (content_of x.1)) → ((c : Capability) → IsCapability c → c ≢ x.0 → after c ≡ held c)
          → Walks (entries_of xs) (leaves other (contents (entries_of xs))) (says (contents (entries_of xs))) after later
      one_given after given same_elsewhere =
          walk_goes_on (entries_of xs) sorted _ _ held left later k passes here (x.0, content_of x.1) inside (item_read xs k x within item) walks after
          (given ∙ sym (ap without_cancel entry_said)) same_elsewhere
